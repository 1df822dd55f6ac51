-- Members of lists, by recursion.
use Rattle.std.proofs.Common.{◌≡◌, ◌⊎◌, inl, inr, ◌<◌, ℕ, zero, suc, List, [], ◌∷◌, ◌++◌, Option, None, Some, refl, sym, ap, subst, ◌∙◌, length, get_or, arith}
use Rattle.std.specs.{Prelude.{Contains, filter_map}, List.{cons_option}}
pub use Rattle.cacache_calls.specs.Replies.{In as Member}
use Rattle.cacache_history.proofs.Each.{any_left, any_right}

pub contains_member : {X : Type 0} (x : X) (xs : List X) → Member x xs → Contains xs x
contains_member x [] m = absurd m
contains_member x (y ∷ ys) (inl e) = (0, omega arith, sym e)
contains_member x (y ∷ ys) (inr m) =
    let c = contains_member x ys m in
    (suc c.0, (let lt = c.1 in omega arith), c.2)

member_at : {X : Type 0} (x : X) (xs : List X) (k : ℕ) → k < length xs → get_or xs k x ≡ x → Member x xs
member_at x [] k lt e = absurd (omega (arith, lt))
member_at x (y ∷ ys) zero lt e = inl (sym e)
member_at x (y ∷ ys) (suc k) lt e = inr (member_at x ys k (omega (arith, lt)) e)

pub member_contains : {X : Type 0} (x : X) (xs : List X) → Contains xs x → Member x xs
member_contains x xs c = member_at x xs c.0 c.1 c.2

pub in_left : {X : Type 0} (x : X) (xs ys : List X) → Member x xs → Member x (xs ++ ys)
in_left {X} x = any_left (λ (y : X). x ≡ y)

pub in_right : {X : Type 0} (x : X) (xs ys : List X) → Member x ys → Member x (xs ++ ys)
in_right {X} x = any_right (λ (y : X). x ≡ y)

pub in_either : {X : Type 0} (x : X) (xs ys : List X) → Member x (xs ++ ys) → Member x xs ⊎ Member x ys
in_either x [] ys m = inr m
in_either x (z ∷ xs) ys (inl e) = inl (inl e)
in_either x (z ∷ xs) ys (inr m) = elim (in_either x xs ys m) [ inl l ↦ inl (inr l) | inr r ↦ inr r ]

in_rest : {Y : Type 0} (o : Option Y) (y : Y) (ys : List Y) → Member y ys → Member y (cons_option o ys)
in_rest None y ys m = m
in_rest (Some z) y ys m = inr m

pub mapped : {X Y : Type 0} (f : X → Option Y) (x : X) (y : Y) (xs : List X) → Member x xs → f x ≡ Some y → Member y (filter_map f xs)
mapped f x y [] m e = absurd m
mapped f x y (z ∷ xs) (inl same) e = subst (λ o. Member y (cons_option o (filter_map f xs))) (sym e ∙ ap f same) (inl refl)
mapped f x y (z ∷ xs) (inr m) e = in_rest (f z) y (filter_map f xs) (mapped f x y xs m e)

pub record Source {X Y : Type 0} (f : X → Option Y) (y : Y) (xs : List X) : Type 0 where
  pub of : X
  pub member : Member of xs
  pub gives : f of ≡ Some y

first_or : {X Y : Type 0} (f : X → Option Y) (x : X) (xs : List X) (o : Option Y) (y : Y) (ys : List Y) → f x ≡ o → (Member y ys → Source f y xs) → Member y (cons_option o ys) → Source f y (x ∷ xs)
first_or f x xs None y ys e later m = let s = later m in record { of = s.of; member = inr s.member; gives = s.gives }
first_or f x xs (Some z) y ys e later (inl same) = record { of = x; member = inl refl; gives = e ∙ ap Some (sym same) }
first_or f x xs (Some z) y ys e later (inr m) = let s = later m in record { of = s.of; member = inr s.member; gives = s.gives }

pub source : {X Y : Type 0} (f : X → Option Y) (y : Y) (xs : List X) → Member y (filter_map f xs) → Source f y xs
source f y [] m = absurd m
source f y (x ∷ xs) m = first_or f x xs (f x) y (filter_map f xs) refl (source f y xs) m

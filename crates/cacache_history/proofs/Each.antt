-- What holds of each of a list, or of one of it.
use Rattle.std.proofs.Common.{◌⊎◌, inl, inr, List, [], ◌∷◌, ◌++◌}
pub use Rattle.std.specs.List.{AllByRecursion as Each}

pub each_join : {X : Type 0} (P : X → Type 0) (xs ys : List X) → Each P xs → Each P ys → Each P (xs ++ ys)
each_join P [] ys h k = k
each_join P (x ∷ xs) ys h k = (h.0, each_join P xs ys h.1 k)

pub each_weaker : {X : Type 0} (P Q : X → Type 0) → ((x : X) → P x → Q x) → (xs : List X) → Each P xs → Each Q xs
each_weaker P Q f [] h = tt
each_weaker P Q f (x ∷ xs) h = (f x h.0, each_weaker P Q f xs h.1)

abbrev pub AnyOf : {X : Type 0} → (X → Type 0) → List X → Type 0
AnyOf P [] = ⊥
AnyOf P (x ∷ xs) = P x ⊎ AnyOf P xs

pub any_left : {X : Type 0} (P : X → Type 0) (xs ys : List X) → AnyOf P xs → AnyOf P (xs ++ ys)
any_left P [] ys h = absurd h
any_left P (x ∷ xs) ys (inl h) = inl h
any_left P (x ∷ xs) ys (inr h) = inr (any_left P xs ys h)

pub any_right : {X : Type 0} (P : X → Type 0) (xs ys : List X) → AnyOf P ys → AnyOf P (xs ++ ys)
any_right P [] ys h = h
any_right P (x ∷ xs) ys h = inr (any_right P xs ys h)

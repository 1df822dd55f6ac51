-- Paths that don't lie below one another.
use Rattle.std.proofs.Common.{rules, ◌≡◌, ◌⊎◌, inl, inr, ℕ, Bool, true, false, cond, List, [], ◌∷◌, ◌++◌, length, bytes_eq, refl, sym, ap, ◌∙◌, arith, append_assoc, length-append}
use Rattle.cacache_core.specs.Paths.{Names}
use Rattle.cacache_store.specs.declared.store.answer.Name.{Name}
use Rattle.cacache_history.{specs.Setup.{are_apart}, proofs.{Listings.ToldFolders.{AreDistinct}, Each.{each_join, each_weaker, Each}}}
use Rattle.cacache_value.proofs.PathKinds.{bytes_same}

-- ---- paths that are apart

not_apart : (q : Names) → are_apart q q ≡ true → ⊥
not_apart [] e = cc
not_apart (n ∷ q) e = not_apart q (sym (ap (λ b. cond b (are_apart q q) true) (bytes_same n)) ∙ e)

-- paths that are apart stay apart if either goes on
apart_left : (q c more : Names) → are_apart q c ≡ true → are_apart (q ++ more) c ≡ true
apart_left [] c more e = absurd cc
apart_left (n ∷ q) [] more e = absurd cc
apart_left (n ∷ q) (m ∷ c) more e = by (bytes_eq n m) (apart_left q c more) e
  where
    by : (b : Bool) → (are_apart q c ≡ true → are_apart (q ++ more) c ≡ true) → cond b (are_apart q c) true ≡ true → cond b (are_apart (q ++ more) c) true ≡ true
    by true h is = h is
    by false h is = refl

apart_right : (q c more : Names) → are_apart q c ≡ true → are_apart q (c ++ more) ≡ true
apart_right [] c more e = absurd cc
apart_right (n ∷ q) [] more e = absurd cc
apart_right (n ∷ q) (m ∷ c) more e = by (bytes_eq n m) (apart_right q c more) e
  where
    by : (b : Bool) → (are_apart q c ≡ true → are_apart q (c ++ more) ≡ true) → cond b (are_apart q c) true ≡ true → cond b (are_apart q (c ++ more)) true ≡ true
    by true h is = h is
    by false h is = refl

-- two names in one folder
siblings : (q : Names) (n m : List ℕ) → (n ≡ m → ⊥) → are_apart (q ++ n ∷ []) (q ++ m ∷ []) ≡ true
siblings [] n m other = search rules
siblings (x ∷ q) n m other = ap (λ b. cond b (are_apart (q ++ n ∷ []) (q ++ m ∷ [])) true) (bytes_same x) ∙ siblings q n m other

abbrev pub ApartAll : Names → List Names → Type 0
ApartAll q [] = Unit {0}
ApartAll q (c ∷ cs) = (are_apart q c ≡ true) × ApartAll q cs

abbrev pub AllApart : List Names → Type 0
AllApart [] = Unit {0}
AllApart (q ∷ qs) = ApartAll q qs × AllApart qs

-- ---- the paths of a folder's names

abbrev pub children : Names → List Name → List Names
children q [] = []
children q (n ∷ ns) = (q ++ n.name ∷ []) ∷ children q ns

apart_children : (q : Names) (name : List ℕ) (ns : List Name) → Each (λ m. name ≡ m.name → ⊥) ns → ApartAll (q ++ name ∷ []) (children q ns)
apart_children q name [] h = tt
apart_children q name (n ∷ ns) h = (siblings q name n.name h.0, apart_children q name ns h.1)

pub children_apart : (q : Names) (ns : List Name) (cs : List Names) → AreDistinct ns → ApartAll q cs → AllApart cs → AllApart (children q ns ++ cs)
children_apart q [] cs distinct h k = k
children_apart q (n ∷ ns) cs distinct h k = (
  each_join (λ (c : Names). are_apart (q ++ n.name ∷ []) c ≡ true) (children q ns) cs (apart_children q n.name ns distinct.0)
      (each_weaker (λ (c : Names). are_apart q c ≡ true) (λ (c : Names). are_apart (q ++ n.name ∷ []) c ≡ true) (λ c. apart_left q c (n.name ∷ [])) cs h),
  children_apart q ns cs distinct.1 h k,
)

-- ---- what lies below one of some paths

abbrev pub BelowSome : List Names → Names → Type 0
BelowSome [] q = ⊥
BelowSome (c ∷ cs) q = ((more : Names) × (c ++ more ≡ q)) ⊎ BelowSome cs q

pub below_child : (q : Names) (ns : List Name) (cs : List Names) (p : Names) → BelowSome (children q ns ++ cs) p → ((x : List ℕ) × (more : Names) × (q ++ x ∷ more ≡ p)) ⊎ BelowSome cs p
below_child q [] cs p h = inr h
below_child q (n ∷ ns) cs p (inl h) = inl (n.name, h.0, sym (append_assoc q (n.name ∷ []) h.0) ∙ h.1)
below_child q (n ∷ ns) cs p (inr h) = below_child q ns cs p h

-- a path isn't below what is apart from it, nor below what lies in it
pub never_below : (q : Names) (cs : List Names) → ApartAll q cs → BelowSome cs q → ⊥
never_below q [] h b = b
never_below q (c ∷ cs) h (inl b) = not_apart q (ap (are_apart q) (sym b.1) ∙ apart_right q c b.0 h.0)
never_below q (c ∷ cs) h (inr b) = never_below q cs h.1 b

pub never_deeper : (q : Names) (x : List ℕ) (more : Names) → q ++ x ∷ more ≡ q → ⊥
never_deeper q x more e =
    let l : length (q ++ x ∷ more) ≡ length q = ap (λ (p : Names). length p) e in
    omega (arith, length-append q (x ∷ more))

-- What was asked for, once the words were parsed.
use Rattle.std.{proofs.Common.{◌≡◌, ◌∙◌, List, ℕ, Option, Some, None, IfNone, IfSome, ap, false, nat_eq, subst, sym}, specs.Cmp.Lexicographic.{other_text, pointwise}}
use Rattle.cacache_program.specs.Words.{Asked, Keyed, these_asked}

-- a fact that holds also holds if there is no value
where_none : {A X : Type 0} (o : Option A) → X → IfNone o X
where_none None x = x
where_none (Some a) x = tt

-- the same for two words more
keyed_holds : (asked parsed : Asked) (name : List ℕ) (P : List ℕ → List ℕ → Type 0) → asked ≡ parsed → IfSome parsed.key (λ key. P parsed.cache key) → Keyed asked name P
keyed_holds asked parsed name P is holds = subst (λ (it : Asked). Keyed it name P) (sym is) (where_some parsed.key (P parsed.cache) holds)
  where
    where_some : (o : Option (List ℕ)) (Q : List ℕ → Type 0) → IfSome o Q → IfSome o (λ key. parsed.name ≡ name → Q key)
    where_some None Q h = tt
    where_some (Some key) Q h = λ named. h

-- if a key was parsed, it holds if it holds of that one
pub keyed_by : (asked parsed : Asked) (name key : List ℕ) (P : List ℕ → List ℕ → Type 0) → asked ≡ parsed → parsed.key ≡ Some key → P parsed.cache key → Keyed asked name P
keyed_by asked parsed name key P is named holds = keyed_holds asked parsed name P is (subst (λ o. IfSome o (P parsed.cache)) (sym named) holds)

-- ---- what wasn't asked for

-- if another name was parsed, this one isn't asked for
isnt_asked : {asked parsed : Asked} {name other : List ℕ} → asked ≡ parsed → parsed.name ≡ other → false ≡ pointwise nat_eq other name → asked.name ≡ name → ⊥
isnt_asked {name = name} {other = other} is named differs called = other_text other name differs (sym named ∙ ap (λ (it : Asked). it.name) (sym is) ∙ called)

-- so anything holds if it is
pub other_unkeyed : (name : List ℕ) (X : Type 0) {asked parsed : Asked} {other : List ℕ} → asked ≡ parsed → parsed.name ≡ other → false ≡ pointwise nat_eq other name → IfNone asked.key (asked.name ≡ name → X)
other_unkeyed name X {asked = asked} is named differs = where_none asked.key (λ called. absurd (isnt_asked is named differs called))

-- the same for two words more
pub other_keyed : (name : List ℕ) (X : List ℕ → Type 0) {asked parsed : Asked} {other : List ℕ} → asked ≡ parsed → parsed.name ≡ other → false ≡ pointwise nat_eq other name → IfSome asked.key (λ key. asked.name ≡ name → X key)
other_keyed name X {asked = asked} is named differs = of_key asked.key (λ called. isnt_asked is named differs called)
  where
    of_key : (o : Option (List ℕ)) → (asked.name ≡ name → ⊥) → IfSome o (λ key. asked.name ≡ name → X key)
    of_key None isnt = tt
    of_key (Some key) isnt = λ called. absurd (isnt called)

-- if a key was parsed, anything holds of a name alone
pub not_unkeyed : (X : Type 0) {asked parsed : Asked} {key : List ℕ} → asked ≡ parsed → parsed.key ≡ Some key → IfNone asked.key X
not_unkeyed X is keyed = subst (λ (it : Asked). IfNone it.key X) (sym is) (subst (λ (o : Option (List ℕ)). IfNone o X) (sym keyed) tt)

-- if none was, anything holds of a name with a key
pub not_keyed : (X : List ℕ → Type 0) {asked parsed : Asked} → asked ≡ parsed → parsed.key ≡ None → IfSome asked.key X
not_keyed X is none = subst (λ (it : Asked). IfSome it.key X) (sym is) (subst (λ (o : Option (List ℕ)). IfSome o X) (sym none) tt)

-- what was asked for, if the name and the key that were parsed are these
pub asked_as : {asked : Asked} {name cache called : List ℕ} {key given : Option (List ℕ)} → asked ≡ these_asked name cache key → name ≡ called → key ≡ given → asked ≡ these_asked called cache given
asked_as {cache = cache} {called = called} {key = key} is named keyed = is ∙ ap (λ (n : List ℕ). these_asked n cache key) named ∙ ap (these_asked called cache) keyed

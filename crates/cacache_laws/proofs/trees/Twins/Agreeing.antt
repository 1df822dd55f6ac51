-- Reads on two trees that agree on all but contents.
use Rattle.std.proofs.{Common.{arith, rules, ◌≡◌, ◌⊎◌, inl, inr, ℕ, List, [], ◌∷◌, ◌++◌, Some, Bool, true, false, cond, Result, Ok, Err, refl, sym, ap, ◌∙◌, bytes_eq}, lemmas.Grind.{common_steps}}
use Rattle.cacache_core.specs.{declared.errors.Fault.{Fault, TheVariants.{IsADirectory}}, Paths.{Names, names_of}}
use Rattle.cacache_store.specs.{declared.store.{step.Step.TheVariants.{ReadAll}, answer.Answer.TheVariants.{Bytes, Failed}}, Plain.{PlainAnswer}}
use Rattle.cacache_disk.specs.{declared.luck.Luck.TheVariants.{Plain}, Tree.{Tree, look}, LedTo.{file_at}, Apply.{apply, unless}}
use Rattle.cacache_value.{specs.Kinds.{PathKind, Content, Way, Elsewhere, kind_beside, path_kind, is_used}, proofs.PathKinds.{above, inner_used}}
use Rattle.cacache_laws.{specs.trees.Collecting.{LinksLeadOut}, proofs.trees.Compactions.LeanReads.{NoneLean, Sees, file_alike}}

-- ---- no content lies above what the cache uses, nor above what is apart from it

beside_at : (b : Bool) (old new : PathKind) → (old ≡ Content → new ≡ Elsewhere → ⊥) → cond b old Elsewhere ≡ Content → cond b new Elsewhere ≡ Elsewhere → ⊥
beside_at b old new apart c e = grind (arith, common_steps)

below_content : (home p rest : Names) → kind_beside home p ≡ Content → kind_beside home (p ++ rest) ≡ Elsewhere → ⊥
below_content [] p rest c e = inner_used (p ++ rest) e
below_content (n ∷ home) [] rest c e = cc
below_content (n ∷ home) (first ∷ p) rest c e = beside_at (bytes_eq n first) (kind_beside home p) (kind_beside home (p ++ rest)) (below_content home p rest) c e

abbrev pub Safe : PathKind → Type 0
Safe k = (is_used k ≡ true) ⊎ (k ≡ Elsewhere)

upper_not : (home p rest : Names) (name : List ℕ) → Safe (path_kind (Some home) (p ++ name ∷ rest)) → path_kind (Some home) p ≡ Content → ⊥
upper_not home p rest name (inl used) c = let way : Way ≡ Content = sym (above (Some home) p rest name used) ∙ c in cc
upper_not home p rest name (inr out) c = below_content home p (name ∷ rest) c out

-- ---- what a read answers

abbrev pub said : Result (List ℕ) Fault → PlainAnswer
said (Ok bytes) = Bytes bytes
said (Err fault) = Failed fault

pub answer_of : (r : Result (List ℕ) Fault) (x : Tree) → (unless r x (λ b. (Bytes b, x))).0 ≡ said r
answer_of r x = grind (arith, common_steps)

-- ---- trees that agree on all but contents

module _ (home : Names) (t new : Tree) (same : (names : Names) → (path_kind (Some home) names ≡ Content → ⊥) → look new names ≡ look t names) (out : LinksLeadOut home t) where
  sees : Sees home t new NoneLean (λ q. Safe (path_kind (Some home) q))
  sees = search (rules, upper_not)

  -- a read of such a path has the same answer
  pub read_same : (path : List ℕ) (names : Names) → names_of path ≡ Ok names → Safe (path_kind (Some home) names) → look new names ≡ look t names → (apply new (ReadAll path) Plain).0 ≡ (apply t (ReadAll path) Plain).0
  unfolding apply
  read_same path names is safe here =
      answer_of (file_at new path IsADirectory) new
      ∙ elim (file_alike home t new NoneLean (λ q. Safe (path_kind (Some home) q)) sees path names is safe (inl here)) [
        | inl alike ↦ ap said alike
        | inr none ↦ absurd none.2
      ]
      ∙ sym (answer_of (file_at t path IsADirectory) t)

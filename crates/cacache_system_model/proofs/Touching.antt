-- What a step does at a path on a system, in view of the temporary files that are open.
use Rattle.std.proofs.{lemmas.Grind.{common_steps}, Common.{arith, ◌≡◌, ◌⊎◌, ℕ, Bool, true, false, cond, if◌then◌else◌, List, [], Option, None, Some, refl, sym, ap, subst, ◌∙◌}}
use Rattle.std.specs.Prelude.{Result, Ok}
use Rattle.cacache_core.specs.{declared.errors.Fault.{Fault}, Paths.{Names, names_of}}
use Rattle.cacache_store.specs.{declared.store.plain.PlainTemp.{PlainTemp}, Plain.{PlainStep, PlainAnswer}}
use Rattle.cacache_store.specs.declared.store.step.Step.TheVariants as steps
use Rattle.cacache_store.specs.declared.store.answer.Answer.TheVariants as answers
use Rattle.cacache_disk.specs.{declared.{luck.Luck.{Luck, TheVariants.{Fail}}, node.Node.{Node, TheVariants.{File}}}, Tree.{Tree, look, put, cut, same_path}, LedTo.{free, removable}, Apply.{apply, plain, unless, fails, fault_told, made_temp}}
use Rattle.cacache_disk.proofs.{Maps.{same_path-true}, PutNodes.{look-cut}, FoundNodes.{free_ok, free_none, removable_ok}, Changes.{TreeChange, Makes, Puts, At, at_rest, at_put, at_cut, step_at}}
use Rattle.cacache_loss.{specs.Fixing.{moves_file, moved_to, writes_at}, proofs.StepCases.{PersistCase, refused, moved, persist_case, put_misses, cut_misses}}
use Rattle.cacache_system_model.specs.Mirrors.{temps_after, without, with_new, IsNoTemp, SparesOpen}

-- Nothing changes at a path, or no temporary file is open there, or something comes to where nothing was or goes, or a file
-- moves there, or the step's temporary file is there and grows.
pub data Touched (temps later : Names → Bool) (t new : Tree) (step : PlainStep) (answer : PlainAnswer) (q : Names) : Type 0 where
  rests : look new q ≡ look t q → later q ≡ temps q → Touched temps later t new step answer q
  apart : temps q ≡ false → later q ≡ false → Touched temps later t new step answer q
  comes : look t q ≡ None → Touched temps later t new step answer q
  goes : look new q ≡ None → Touched temps later t new step answer q
  arrives : moved_to (moves_file step answer) q ≡ true → Touched temps later t new step answer q
  grows : writes_at step q ≡ true → Touched temps later t new step answer q

-- as after an outcome of a step
abbrev TouchedBy : (Names → Bool) → Tree → PlainStep → Names → PlainAnswer × Tree → Type 0
TouchedBy temps t step q o = Touched temps (temps_after temps step o.0) t o.1 step o.0 q

-- ---- steps that change which temporary files are open

unless_case : {A : Type 0} (P : PlainAnswer × Tree → Type 0) (t : Tree) (r : Result A Fault) (go : A → PlainAnswer × Tree)
    → ((fault : Fault) → P (answers.Failed fault, t)) → ((a : A) → r ≡ Ok a → P (go a)) → P (unless r t go)
unless_case P t r go h k = grind (arith, common_steps)

fails_case : (P : PlainAnswer × Tree → Type 0) (t : Tree) (own : Option Fault) (fault : Fault) → ((fault : Fault) → P (answers.Failed fault, t)) → P (fails own fault t t)
fails_case P t own fault h = grind (arith, common_steps)

module _ (temps : Names → Bool) (t : Tree) (q : Names) where
  create_so : (p : List ℕ) (names : Names) (c : Bool) → free t p ≡ Ok names → same_path q names ≡ c
      → TouchedBy temps t (steps.CreateTemp p) q (answers.Temp (made_temp p), put t names (File []))
  create_so p names true is at = comes (ap (look t) (same_path-true q names at) ∙ free_none t p names is)
  create_so p names false is at =
      rests (put_misses t names q (File []) at) (ap (λ (r : Result Names Fault). with_new temps r q) (free_ok t p names is).0 ∙ ap (λ (b : Bool). if b then true else temps q) at)

  create_plain : (p : List ℕ) (most : Option ℕ) → TouchedBy temps t (steps.CreateTemp p) q (plain t (steps.CreateTemp p) most)
  create_plain p most = unless_case (TouchedBy temps t (steps.CreateTemp p) q) t (free t p) _ (λ fault. rests refl refl) (λ names is. create_so p names (same_path q names) is refl)

  create_touched : (p : List ℕ) (luck : Luck) → TouchedBy temps t (steps.CreateTemp p) q (apply t (steps.CreateTemp p) luck)
  unfolding apply
  create_touched p (Fail fault None) = fails_case (TouchedBy temps t (steps.CreateTemp p) q) t (fault_told (plain t (steps.CreateTemp p) None).0) fault (λ fault. rests refl refl)
  create_touched p (Fail fault (Some part)) = fails_case (TouchedBy temps t (steps.CreateTemp p) q) t (fault_told (plain t (steps.CreateTemp p) None).0) fault (λ fault. rests refl refl)
  create_touched p luck = create_plain p None

  remove_so : (p : List ℕ) (names : Names) (c : Bool) → removable t p ≡ Ok names → same_path q names ≡ c → TouchedBy temps t (steps.RemoveFile p) q (answers.Done, cut t names)
  remove_so p names true is at = goes (look-cut t names q ∙ ap (λ (b : Bool). cond b None (look t q)) at)
  remove_so p names false is at =
      rests (cut_misses t names q at) (ap (λ (r : Result Names Fault). without temps r q) (removable_ok t p names is).0 ∙ ap (λ (b : Bool). if b then false else temps q) at)

  remove_plain : (p : List ℕ) (most : Option ℕ) → TouchedBy temps t (steps.RemoveFile p) q (plain t (steps.RemoveFile p) most)
  remove_plain p most = unless_case (TouchedBy temps t (steps.RemoveFile p) q) t (removable t p) _ (λ fault. rests refl refl) (λ names is. remove_so p names (same_path q names) is refl)

  remove_touched : (p : List ℕ) (luck : Luck) → TouchedBy temps t (steps.RemoveFile p) q (apply t (steps.RemoveFile p) luck)
  unfolding apply
  remove_touched p (Fail fault None) = fails_case (TouchedBy temps t (steps.RemoveFile p) q) t (fault_told (plain t (steps.RemoveFile p) None).0) fault (λ fault. rests refl refl)
  remove_touched p (Fail fault (Some part)) = fails_case (TouchedBy temps t (steps.RemoveFile p) q) t (fault_told (plain t (steps.RemoveFile p) None).0) fault (λ fault. rests refl refl)
  remove_touched p luck = remove_plain p None

  persist_so : (f : PlainTemp) (p bytes : List ℕ) (old new : Names) (a b : Bool) → names_of f.path ≡ Ok old → names_of p ≡ Ok new → same_path q new ≡ a → same_path q old ≡ b
      → TouchedBy temps t (steps.Persist f p) q (answers.Done, put (cut t old) new (File bytes))
  persist_so f p bytes old new a b from to at away = grind (arith, put_misses, look-cut, cut_misses)

  persist_touched : (f : PlainTemp) (p : List ℕ) (o : PlainAnswer × Tree) → PersistCase t f p o → TouchedBy temps t (steps.Persist f p) q o
  persist_touched f p o (refused fault is) = subst (TouchedBy temps t (steps.Persist f p) q) (sym is) (rests refl refl)
  persist_touched f p o (moved bytes old new has from to is) =
      subst (TouchedBy temps t (steps.Persist f p) q) (sym is) (persist_so f p bytes old new (same_path q new) (same_path q old) from to refl refl)

  -- ---- the other steps

  abbrev IsOther : PlainStep → Type 0
  IsOther (steps.CreateTemp p) = ⊥
  IsOther (steps.Persist f p) = ⊥
  IsOther (steps.RemoveFile p) = ⊥
  IsOther step = Unit {0}

  spared : (r : Result Names Fault) (names : Names) → IsNoTemp temps r → r ≡ Ok names → q ≡ names → temps q ≡ false
  spared r names spares is at = ap temps at ∙ subst (λ (r : Result Names Fault). IsNoTemp temps r) is spares

  nothing_free : (p : List ℕ) (names : Names) → free t p ≡ Ok names → q ≡ names → look t q ≡ None
  nothing_free p names is at = ap (look t) at ∙ free_none t p names is

  -- such a step puts nothing over an open temporary file
  not_over : (step : PlainStep) (c : TreeChange) (node : Node) → IsOther step → SparesOpen temps t step → Makes t step c → Puts t c q node → (temps q ≡ false) ⊎ (look t q ≡ None)
  not_over step c node other spares makes here = grind (arith, spared, nothing_free)

  same_open : (step : PlainStep) (answer : PlainAnswer) → IsOther step → temps_after temps step answer q ≡ temps q
  same_open step answer other = grind (arith, common_steps)

  other_so : (step : PlainStep) (o : PlainAnswer × Tree) (c : TreeChange) → IsOther step → SparesOpen temps t step → Makes t step c → At t c q (look o.1 q) → TouchedBy temps t step q o
  other_so step o c other spares makes holds = grind (arith, at_rest, same_open, at_put, not_over, at_cut)

  other_touched : (step : PlainStep) (luck : Luck) → IsOther step → SparesOpen temps t step → TouchedBy temps t step q (apply t step luck)
  other_touched step luck other spares = let at = step_at t step luck q in other_so step (apply t step luck) at.0 other spares at.1 at.2

  -- what a step does at a path under some luck
  pub touched : (step : PlainStep) (luck : Luck) → SparesOpen temps t step → TouchedBy temps t step q (apply t step luck)
  touched (steps.CreateTemp p) luck spares = create_touched p luck
  touched (steps.Persist f p) luck spares = persist_touched f p (apply t (steps.Persist f p) luck) (persist_case t f p luck)
  touched (steps.RemoveFile p) luck spares = remove_touched p luck
  touched step luck spares = other_touched step luck tt spares

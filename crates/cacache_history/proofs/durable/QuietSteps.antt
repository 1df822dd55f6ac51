-- Calm moves: those of quiet calls, and links that stood before them.
use Rattle.std.proofs.{Common.{arith, rules, ◌≡◌, ℕ, Bool, true, List, [], ◌∷◌, ◌++◌, None, Some, sym, subst, false, Option, refl, ◌∙◌}, lemmas.Grind.{common_steps}}
use Rattle.cacache_core.specs.Paths.{Names, names_of}
use Rattle.cacache_store.specs.{Plain.{PlainStep, PlainAnswer}, declared.store.plain.PlainTemp.{PlainTemp}}
use Rattle.cacache_calls.specs.{Steps.{temp_path}, Sound.{Allowed}, Licence.{May, allows, taking_in}, Table.{opening, wants}}
use Rattle.cacache_calls.proofs.{Within.{step_allowed, begins_within, goes_within}, Sound.{steps_allowed}}
use Rattle.cacache_value.{specs.{Kinds.{Temporary, IsFor, Bucket, Content, path_kind}, Placed.{LieApart, Placed, Proper}}, proofs.PathKinds.{paths_are_for}}
use Rattle.cacache_history.specs.{declared.record.Record.{Record, TheVariants.{Began, Moved, Stopped}}, Setup.{Setup, call_site, home, is_outside, may_export}, History.{Call, History, IsLegal, Legal, Now, now_after, now_at}, Turns.{made_in}, Values.{steps_of}, durable.{Outlasting.{moment_at}, QuietMoves.{AreQuiet, IsQuietMove, is_quiet}}}
use Rattle.cacache_history.proofs.{Histories.Holding.{AllHold, CallHolds, held_at, legal_after, next_holds, of_caller}, durable.Traces.{trace_at, made_move}}
use Rattle.cacache_loss.specs.{Moments.{is_calm, AreCalm, CalmStep, CalmSteps, HandlesTemp, Moment, after, next}, Fixing.{is_at}, LostTrees.{OfCache}}
use Rattle.cacache_loss.proofs.{KeptPaths.{cache_next, keeps}, StepCases.{PersistCase, make_apart, moved, persist_case, refused}, Reaching.{Misses, at_false}}
use Rattle.cacache_disk.specs.{declared.{luck.Luck.{Luck}, node.Node.TheVariants.{Link}}, Tree.{Tree, look}, Apply.{apply}}
use Rattle.cacache_disk.proofs.{Maps.{same_path-true}, PutNodes.{look-put}, Roots.{same_self}}
use Rattle.cacache_store.specs.declared.store.step.Step.TheVariants as steps

-- a call that only takes in makes calm steps
step_calm : (step : PlainStep) → May (allows taking_in step) → is_calm step ≡ true
step_calm step may = grind (arith, common_steps)

may_be : (b : Bool) → b ≡ true → May b
may_be b e = grind (arith, common_steps)

module _ (s : Setup) where
  -- a call's temporary file is for that
  pub temp_for : (n : ℕ) (p : List ℕ) → p ≡ temp_path s.cache n → IsFor (home s) Temporary p
  unfolding temp_path
  temp_for n p e = subst (IsFor (home s) Temporary) (sym e) ((paths_are_for s.cache).temporary n)

  allowed_handles : (n : ℕ) (step : PlainStep) → Allowed (call_site s n) (may_export s) (is_outside s) step → HandlesTemp (home s) step
  allowed_handles n step a = grind (arith, temp_for)

  -- the step that a quiet call wants
  pub quiet_wants : (call : Call) (step : PlainStep) → CallHolds s call → is_quiet call.command ≡ true → wants call.state ≡ Some step → CalmStep (home s) step
  quiet_wants call step holds quiet w = (
    step_calm step (step_allowed taking_in call.state step
        (goes_within taking_in (opening (call_site s call.number) call.command) call.state (made_in call.turns) (begins_within taking_in (call_site s call.number) call.command (may_be (is_quiet call.command) quiet)) holds.goes) w),
    allowed_handles call.number step (steps_allowed (call_site s call.number) (may_export s) (is_outside s) call.state step holds.sound w),
  )

  module _ (apart : LieApart (home s) s.outside) (path : Names) where
    -- the steps of quiet moves
    quiet_steps : (w : Now) (records : List Record) → Legal s w records → AllHold s w → AreQuiet s path w records → CalmSteps (home s) (steps_of records)
    quiet_steps w [] legal h quiet = tt
    quiet_steps w (Began caller command ∷ records) legal h quiet =
        quiet_steps (now_after s w (Began caller command)) records legal.1 (next_holds s apart w (Began caller command) legal.0 h) quiet.1
    quiet_steps w (Moved caller luck None reply ∷ records) legal h quiet =
        quiet_steps (now_after s w (Moved caller luck None reply)) records legal.1 (next_holds s apart w (Moved caller luck None reply) legal.0 h) quiet.1
    quiet_steps w (Moved caller luck (Some made) reply ∷ records) legal h quiet = (
      quiet_wants legal.0.0 made.0 (of_caller s legal.0.0 _ legal.0.1 (h.calls caller))
          (subst (λ o. IsQuietMove path o (Some made)) legal.0.1 quiet.0).0 legal.0.2.0,
      quiet_steps (now_after s w (Moved caller luck (Some made) reply)) records legal.1 (next_holds s apart w (Moved caller luck (Some made) reply) legal.0 h) quiet.1,
    )
    quiet_steps w (Stopped caller ∷ records) legal h quiet =
        quiet_steps (now_after s w (Stopped caller)) records legal.1 (next_holds s apart w (Stopped caller) legal.0 h) quiet.1

-- from a place on, all steps are calm if all moves are quiet
pub calm_at : (h : History) → IsLegal h → (before rest : List Record) → h.records ≡ before ++ rest → (path : Names) → AreQuiet h.setup path (now_at h before) rest
    → AreCalm (home h.setup) (moment_at h before) (steps_of rest)
calm_at h legal before rest is path quiet = search (rules, trace_at, quiet_steps, legal_after, held_at)

-- ---- a link that is at a content's path after calm moves was there before them

module _ (home : Option Names) (c : Names) (at : path_kind home c ≡ Content) (target : List ℕ) where
  -- the link is at the path
  abbrev Linked : Tree → Type 0
  Linked t = look t c ≡ Some (Link target)

  module _ (t : Tree) (placed : Placed home t) where
    missed : (step : PlainStep) (luck : Luck) → CalmStep home step → Proper home step → Misses c step → Linked (apply t step luck).1 → Linked t
    missed step luck calm is misses linked =
        sym (keeps home t placed c (look t c) refl (λ names count way. make_apart home Content t [] names c count at (λ e. cc) way) step luck calm.0 is misses) ∙ linked

    reached : (f : PlainTemp) (p : List ℕ) (o : PlainAnswer × Tree) → is_at (names_of p) c ≡ true → PersistCase t f p o → Linked o.1 → Linked t
    reached f p o here h linked = grind (arith, refused, moved, same_path-true, look-put, same_self)

    persisted : (f : PlainTemp) (p : List ℕ) (luck : Luck) (b : Bool) → is_at (names_of p) c ≡ b → CalmStep home (steps.Persist f p) → Proper home (steps.Persist f p)
        → Linked (apply t (steps.Persist f p) luck).1 → Linked t
    persisted f p luck false misses calm is linked = missed (steps.Persist f p) luck calm is (at_false home Temporary Content c (names_of f.path) is.0 at (λ e. cc), misses) linked
    persisted f p luck true here calm is linked = reached f p (apply t (steps.Persist f p) luck) here (persist_case t f p luck) linked

    stood : (step : PlainStep) (luck : Luck) → CalmStep home step → Proper home step → Linked (apply t step luck).1 → Linked t
    stood (steps.Persist f p) luck calm is linked = persisted f p luck (is_at (names_of p) c) refl calm is linked
    stood (steps.Append p line) luck calm is linked = missed (steps.Append p line) luck calm is (at_false home Bucket Content c (names_of p) is.0 at (λ e. cc)) linked
    stood (steps.CreateTemp p) luck calm is linked = missed (steps.CreateTemp p) luck calm is (at_false home Temporary Content c (names_of p) is at (λ e. cc)) linked
    stood (steps.Write f bytes) luck calm is linked = missed (steps.Write f bytes) luck calm is (at_false home Temporary Content c (names_of f.path) calm.1 at (λ e. cc)) linked
    stood step luck calm is linked = missed step luck calm is tt linked

  pub stood_before : (w : Moment) (more later : List Record) → OfCache home w → AreCalm home w (steps_of (more ++ later)) → Linked (after w (steps_of more)).tree → Linked w.tree
  stood_before w [] later of_cache calm linked = linked
  stood_before w (Began caller command ∷ more) later of_cache calm linked = stood_before w more later of_cache calm linked
  stood_before w (Moved caller luck None reply ∷ more) later of_cache calm linked = stood_before w more later of_cache calm linked
  stood_before w (Moved caller luck (Some made) reply ∷ more) later of_cache calm linked =
      stood w.tree of_cache.0 made.0 luck calm.1.0 calm.0.0
      (stood_before (next w (made_move luck made)) more later (cache_next home w (made_move luck made) of_cache calm.0.0) (calm.0.2, calm.1.1) linked)
  stood_before w (Stopped caller ∷ more) later of_cache calm linked = stood_before w more later of_cache calm linked

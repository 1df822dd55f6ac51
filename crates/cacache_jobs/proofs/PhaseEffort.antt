-- The bound on the steps of a phase is the bound of its state.
use Rattle.std.proofs.Common.{◌≡◌, ℕ, ◌+◌, List, Some, length, ap, sym, ◌∙◌}
use Rattle.cacache_store.specs.{declared.store.plain.{PlainFile.{PlainFile}, PlainTemp.{PlainTemp}}, Plain.{PlainStep}}
use Rattle.cacache_store.specs.declared.store.step.Step.TheVariants as steps
use Rattle.cacache_calls.specs.{State.{State, Hashing, hashing}, Runs.{effort}, Table.{wants, piece}}
use Rattle.cacache_jobs.specs.{declared.{stage.{Then.{Then}, Stage.{Stage}}, phase.Phase.{Phase}, syncing.Goal.{Goal}}, JobStates.{GoalAt, ThenAt, StageAt, PhaseAt}, Effort.{goal_effort, then_effort, left_to_read, stage_effort, phase_effort}}
use Rattle.cacache_jobs.proofs.WrittenCommits.{moved_effort, sync_effort}
use Rattle.cacache_jobs.specs.declared.stage.Then.TheVariants as thens
use Rattle.cacache_jobs.specs.declared.stage.Stage.TheVariants as stages
use Rattle.cacache_jobs.specs.declared.phase.Phase.TheVariants as phases
use Rattle.cacache_jobs.specs.declared.syncing.Goal.TheVariants as goals

module _ {T : Type 0} (temp : T → PlainTemp) where
  goal_effort_is : (goal : Goal) (s : State) → GoalAt goal s → effort s ≡ goal_effort goal
  goal_effort_is (goals.Place c) s e = ap effort e
  goal_effort_is (goals.Answer i) s e = ap effort e

  then_effort_is : (then : Then T) (s : State) → ThenAt temp then s → effort s ≡ then_effort then
  then_effort_is (thens.Create c rest path) s e = ap effort e.2
  then_effort_is (thens.Persist c file path) s e = ap effort e.1 ∙ moved_effort c.value (temp file)
  then_effort_is (thens.Sync y) s e = ap effort e.2 ∙ sync_effort y.folders.items e.0 ∙ ap (λ n. length y.folders.items + n) (goal_effort_is y.goal e.0 e.1)
  then_effort_is (thens.Append i line path) s e = ap effort e.4
  then_effort_is (thens.RemoveBucket content bucket) s e = ap effort e.3
  then_effort_is (thens.Symlink c target path) s e = ap effort e.1
  then_effort_is (thens.Finish removal) s e = ap effort e

  -- the step of a read shows how many bytes are left
  read_effort : (h : Hashing) (file : PlainFile) (bytes : List ℕ) (step : PlainStep) (s : State) → s ≡ hashing h file bytes → wants s ≡ Some step → effort s ≡ left_to_read step + 17
  read_effort h file bytes step s e w =
      let same : Some (steps.Read file piece) ≡ Some step = ap wants (sym e) ∙ w in
      let is : steps.Read file piece ≡ step = cc in
      ap effort e ∙ ap (λ (x : PlainStep). left_to_read x + 17) is

  stage_effort_is : (stage : Stage T) (step : PlainStep) (s : State) → StageAt temp stage s → wants s ≡ Some step → effort s ≡ stage_effort stage step
  stage_effort_is (stages.Doing then) step s e w = rw e.3 (ap (λ n. n + 1) (then_effort_is then e.1 e.2))
  stage_effort_is (stages.Creating c rest) step s e w = ap effort e.1
  stage_effort_is (stages.Writing c rest) step s e w = ap effort e.1
  stage_effort_is (stages.Syncing c path) step s e w = ap effort e.2
  stage_effort_is (stages.Persisting c) step s e w = ap effort e.1
  stage_effort_is (stages.Confirming c target fault) step s e w = ap effort e
  stage_effort_is (stages.Appending i size) step s e w = ap effort e.3
  stage_effort_is (stages.Looking l) step s e w = ap effort e
  stage_effort_is (stages.Reading k) step s e w = ap effort e
  stage_effort_is (stages.Asking k) step s e w = ap effort e
  stage_effort_is (stages.Sizing target) step s e w = ap effort e
  stage_effort_is (stages.Opening h) step s e w = ap effort e.2
  stage_effort_is (stages.Hashing h size) step s e w = read_effort e.0 e.4 e.1 step s e.5 w
  stage_effort_is (stages.Copying from to verified) step s e w = ap effort e
  stage_effort_is (stages.Linking c target) step s e w = ap effort e
  stage_effort_is (stages.Walking walk v) step s e w = ap effort e.1

-- a phase has the same bound as its state
pub phase_effort_is : {F T : Type 0} (file : F → PlainFile) (temp : T → PlainTemp) (p : Phase F T) (s : State) → PhaseAt file temp p s → phase_effort file temp p ≡ effort s
phase_effort_is file temp (phases.Wanting stage step) s e = sym (stage_effort_is temp stage _ s e.state e.wanted)
phase_effort_is file temp (phases.Over reply) s e = sym (ap effort e)

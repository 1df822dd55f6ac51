-- A bound on the number of steps that a call still takes.
use Rattle.std.specs.Prelude.{ℕ, ◌+◌, ◌*◌, ◌^◌, if◌then◌else◌, Result, Ok, Err, length}
use Rattle.cacache_core.specs.declared.errors.Error.{Error}
use Rattle.cacache_store.specs.{declared.store.plain.{PlainFile.{PlainFile}, PlainTemp.{PlainTemp}}, Plain.{PlainStep, plain_step}}
use Rattle.cacache_store.specs.declared.store.step.Step.TheVariants as steps
use Rattle.cacache_calls.specs.{Runs.{weight, weights, effort}, Storing.{placed}}
use Rattle.cacache_jobs.specs.declared.{syncing.Goal.{Goal}, stage.{Then.{Then}, Stage.{Stage}}, phase.Phase.{Phase}}
use Rattle.cacache_jobs.specs.declared.syncing.Goal.TheVariants as goals
use Rattle.cacache_walks.specs.WalkStates.{pending}
use Rattle.cacache_jobs.specs.declared.stage.Then.TheVariants as thens
use Rattle.cacache_jobs.specs.declared.stage.Stage.TheVariants as stages
use Rattle.cacache_jobs.specs.declared.phase.Phase.TheVariants as phases

-- the bound on what follows the syncs
abbrev pub goal_effort : Goal → ℕ
goal_effort (goals.Place c) = effort (placed c.value)
goal_effort (goals.Answer i) = 0

-- the bound on what follows an errand
abbrev pub then_effort : {T : Type 0} → Then T → ℕ
then_effort (thens.Create c rest path) = length rest + 19
then_effort (thens.Persist c file path) = if c.value.options.durable then 16 else 15
then_effort (thens.Sync y) = length y.folders.items + goal_effort y.goal
then_effort (thens.Append i line path) = 6
then_effort (thens.RemoveBucket content bucket) = 1
then_effort (thens.Symlink c target path) = 15
then_effort (thens.Finish last) = 0

-- how many bytes are left in the file that a read reads
abbrev pub left_to_read : PlainStep → ℕ
left_to_read (steps.Read file n) = file.left
left_to_read step = 0

-- the bound of a stage whose next step is this one
abbrev pub stage_effort : {T : Type 0} → Stage T → PlainStep → ℕ
stage_effort (stages.Doing follows) step = then_effort follows + 1
stage_effort (stages.Creating c rest) step = length rest + 19
stage_effort (stages.Writing c rest) step = length rest + 18
stage_effort (stages.Syncing c path) step = 16
stage_effort (stages.Persisting c) step = 15
stage_effort (stages.Confirming c target fault) step = 14
stage_effort (stages.Appending i size) step = 6
stage_effort (stages.Looking l) step = 2 ^ 64 + 18
stage_effort (stages.Reading k) step = 1
stage_effort (stages.Asking k) step = 1
stage_effort (stages.Sizing target) step = 2 ^ 64 + 18
stage_effort (stages.Opening h) step = 2 ^ 64 + 17
stage_effort (stages.Hashing h size) step = left_to_read step + 17
stage_effort (stages.Copying from to verified) step = 1
stage_effort (stages.Linking c target) step = 15
stage_effort (stages.Walking w v) step =
    2 * w.left + weight v + weights (pending w.todo.items)

-- the bound of a phase; a call that is over takes no more steps
abbrev pub phase_effort : {F T : Type 0} → (F → PlainFile) → (T → PlainTemp) → Phase F T → ℕ
phase_effort file temp (phases.Wanting stage step) = stage_effort stage (plain_step file temp step)
phase_effort file temp (phases.Over reply) = 0

-- the bound of a result; an error ends the call
abbrev pub result_effort :
    {F T : Type 0} → (F → PlainFile) → (T → PlainTemp) → Result (Phase F T) Error → ℕ
result_effort file temp (Ok phase) = phase_effort file temp phase
result_effort file temp (Err error) = 0

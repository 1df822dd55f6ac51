-- The next state after an answer, in terms that all calls share, and options in which nothing is set.
use Rattle.std.specs.Prelude.{None, false, ℕ, List, [], ◌∷◌, Result, Ok, Err}
use Rattle.serde_json.specs.Data.{null}
use Rattle.cacache_core.specs.declared.{integrity.algorithm.Algorithm.{Algorithm}, errors.{Fault.{Fault}, Error.{Error, TheVariants.{IoError, OutOfMemory}}}}
use Rattle.cacache_calls.specs.{declared.{command.Options.{Options}, answers.Refusal.{Refusal}, reply.Reply.TheVariants.{Refused}}, State.{State, doing, over, Errand, make_folder, remove, reflink, hard_link, sync_file, sync_dir}}
use Rattle.cacache_store.specs.Plain.{PlainStep}
use Rattle.cacache_store.specs.declared.store.step.Step.TheVariants as steps
use Rattle.cacache_calls.specs.declared.answers.Refusal.TheVariants as refusals

-- only the algorithm is set
abbrev pub blank : Algorithm → Options
blank a = record {
  algorithm = a;
  size = None;
  integrity = None;
  metadata = null;
  raw_metadata = None;
  durable = false;
}

-- ---- the next state after an answer, in terms that all calls share

-- the call is over with this error
abbrev pub ends_with : Error → State
ends_with e = over (Refused e)

-- a step of the call failed
abbrev pub fails : Fault → State
fails fault = ends_with (IoError fault [])

-- `failed` handles a fault; out of memory ends every call
abbrev pub refuse : Refusal → (Fault → State) → State
refuse (refusals.Fault fault) failed = failed fault
refuse refusals.Memory failed = ends_with OutOfMemory

-- `next` handles the value of the answer
abbrev pub go_on : {X : Type 0} → Result X Refusal → (Fault → State) → (X → State) → State
go_on (Ok x) failed next = next x
go_on (Err refusal) failed next = refuse refusal failed

-- the step of an errand
abbrev pub errand_step : Errand → PlainStep
errand_step (make_folder path) = steps.MakeDirs path
errand_step (remove path) = steps.RemoveFile path
errand_step (reflink from to) = steps.Reflink from to
errand_step (hard_link from to) = steps.HardLink from to
errand_step (sync_file path) = steps.SyncFile path
errand_step (sync_dir path) = steps.SyncDir path

-- syncs the folders on a path that starts at the cache folder, from the last one up
abbrev pub sync_up : List (List ℕ) → State → State
sync_up [] s = s
sync_up (folder ∷ deeper) s = sync_up deeper (doing (sync_dir folder) s)

-- How a file is written anew, over any store.
use Rattle.std.specs.{Prelude.{◌≡◌, ◌⊎◌, ℕ, List, [], ◌∷◌, Bool, true, false, Option, drop, unwrap_or}, Path.{path_parent}}
use Rattle.cacache_core.specs.declared.errors.Error.{Error}
use Rattle.cacache_core.specs.declared.errors.Fault.TheVariants as faults
use Rattle.cacache_store.specs.declared.store.answer.Answer.TheVariants as answers
use Rattle.cacache_store.specs.declared.store.{log.LogItem.{LogItem}, plain.PlainTemp.{PlainTemp}}
use Rattle.cacache_store.specs.declared.store.step.Step.TheVariants as steps
use Rattle.cacache_calls.specs.{Common.{fails}, Runs.{EndsAs, Gains, Moves}, SingleSteps.{Does, FailsAt}, Steps.{temp_folder, temp_path}}

-- ---- the temporary file

-- each of the moves writes what is left of the bytes; this is the file then, and this is left
abbrev pub Takes : PlainTemp → List ℕ → Moves → PlainTemp → List ℕ → Type 0
Takes file bytes [] last rest = (last ≡ file) × (rest ≡ bytes)
Takes file bytes ((steps.Write f b, answers.Wrote g n) ∷ moves) last rest =
    (f ≡ file) × (b ≡ bytes) × Takes g (drop n bytes) moves last rest
Takes file bytes moves last rest = ⊥

-- the log gained such writes
abbrev pub Took : PlainTemp → List ℕ → PlainTemp → List ℕ
    → Option (List LogItem) → Option (List LogItem) → Type 0
Took file bytes last rest old new =
    (moves : Moves) × Takes file bytes moves last rest × Gains old new moves

-- the temporary file was made in the cache's folder of such files
abbrev pub MakesTemp : List ℕ → PlainTemp → Option (List LogItem) → Option (List LogItem) → Type 0
MakesTemp cache file old new =
    (number : ℕ) × (made : Option (List LogItem))
    × Does (steps.MakeDirs (temp_folder cache)) answers.Done old made
    × Does (steps.CreateTemp (temp_path cache number)) (answers.Temp file) made new

-- ---- syncs

-- the folder that holds what is at the path
abbrev pub folder_of : List ℕ → List ℕ
folder_of path = unwrap_or (path_parent path) path

-- the folder that holds the path was synced, if the rewrite is durable
abbrev pub SyncsFolder :
    Bool → List ℕ → Option (List LogItem) → Option (List LogItem) → Type 0
SyncsFolder true path old new = Does (steps.SyncDir (folder_of path)) answers.Done old new
SyncsFolder false path old new = new ≡ old

-- so were the file at the path and then its folder
abbrev pub SyncsBucket :
    Bool → List ℕ → Option (List LogItem) → Option (List LogItem) → Type 0
SyncsBucket true path old new =
    (synced : Option (List LogItem)) × Does (steps.SyncFile path) answers.Done old synced
    × SyncsFolder true path synced new
SyncsBucket false path old new = new ≡ old

-- the bytes were written to a temporary file, that was synced, and it was moved to the path; the
-- path's folder was synced after that if the rewrite is durable
pub record Rewrites
    (durable : Bool) (cache path bytes : List ℕ) (old new : Option (List LogItem)) : Type 0 where
  pub file : PlainTemp
  pub made : Option (List LogItem)
  pub making : MakesTemp cache file old made
  pub full : PlainTemp
  pub written : Option (List LogItem)
  pub writing : Took file bytes full [] made written
  pub synced : Option (List LogItem)
  pub syncing : Does (steps.SyncTemp full) (answers.Synced full) written synced
  pub moved : Option (List LogItem)
  pub moving : Does (steps.Persist full path) answers.Done synced moved
  pub securing : SyncsFolder durable path moved new

-- ---- errors

-- a write took none of the bytes
abbrev pub TakesNone : PlainTemp → List ℕ → Error
    → Option (List LogItem) → Option (List LogItem) → Type 0
TakesNone file bytes e old new =
    (next : PlainTemp) × Does (steps.Write file bytes) (answers.Wrote next 0) old new
    × EndsAs e (fails faults.WriteZero)

-- some of the bytes were written, and the error ended the next write
abbrev pub StopsWriting : PlainTemp → List ℕ → Error
    → Option (List LogItem) → Option (List LogItem) → Type 0
StopsWriting file bytes e old new =
    (last : PlainTemp) × (rest : List ℕ) × (mid : Option (List LogItem))
    × Took file bytes last rest old mid
    × (FailsAt (steps.Write last rest) e mid new ⊎ TakesNone last rest e mid new)

-- the error ended the making of the temporary file
abbrev pub StopsMaking : List ℕ → Error → Option (List LogItem) → Option (List LogItem) → Type 0
StopsMaking cache e old new =
    FailsAt (steps.MakeDirs (temp_folder cache)) e old new
    ⊎ ((number : ℕ) × (made : Option (List LogItem))
    × Does (steps.MakeDirs (temp_folder cache)) answers.Done old made
    × FailsAt (steps.CreateTemp (temp_path cache number)) e made new)

-- it ended the sync of the path's folder
abbrev pub StopsSecuring :
    Bool → List ℕ → Error → Option (List LogItem) → Option (List LogItem) → Type 0
StopsSecuring true path e old new = FailsAt (steps.SyncDir (folder_of path)) e old new
StopsSecuring false path e old new = ⊥

-- it ended the sync of the file at the path, or of its folder
abbrev pub StopsSyncingBucket :
    Bool → List ℕ → Error → Option (List LogItem) → Option (List LogItem) → Type 0
StopsSyncingBucket true path e old new =
    FailsAt (steps.SyncFile path) e old new
    ⊎ ((synced : Option (List LogItem)) × Does (steps.SyncFile path) answers.Done old synced
    × StopsSecuring true path e synced new)
StopsSyncingBucket false path e old new = ⊥

-- the file that has all of the bytes wasn't synced; or it was, and wasn't moved; or it was moved, and
-- the path's folder wasn't synced
abbrev pub StopsMoving :
    Bool → PlainTemp → List ℕ → Error → Option (List LogItem) → Option (List LogItem) → Type 0
StopsMoving durable full path e old new =
    FailsAt (steps.SyncTemp full) e old new
    ⊎ ((synced : Option (List LogItem))
    × Does (steps.SyncTemp full) (answers.Synced full) old synced
    × (FailsAt (steps.Persist full path) e synced new
    ⊎ ((moved : Option (List LogItem)) × Does (steps.Persist full path) answers.Done synced moved
    × StopsSecuring durable path e moved new)))

-- the error ended the making, a write, or what comes after the writes
abbrev pub StopsRewriting : Bool → List ℕ → List ℕ → List ℕ → Error
    → Option (List LogItem) → Option (List LogItem) → Type 0
StopsRewriting durable cache path bytes e old new =
    StopsMaking cache e old new
    ⊎ ((file : PlainTemp) × (made : Option (List LogItem)) × MakesTemp cache file old made
    × (StopsWriting file bytes e made new
    ⊎ ((full : PlainTemp) × (written : Option (List LogItem))
    × Took file bytes full [] made written × StopsMoving durable full path e written new)))

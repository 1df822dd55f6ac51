-- How the calls of a step begin, and what it answers at their end.
use Rattle.std.specs.Prelude.{◌≡◌, ◌-◌, ◌^◌, ◌==◌, ◌&&◌, not, ℕ, length, min, Bool, true, false, if◌then◌else◌, List, [], Option}
use Rattle.std_io.specs.declared.io.kind.ErrorKind.{ErrorKind}
use Rattle.std_io.specs.declared.io.kind.ErrorKind.TheVariants as kind
use Rattle.cacache_core.specs.{Errors.{fault_of}, declared.errors.Fault.TheVariants.{Device}}
use Rattle.cacache_store.specs.declared.store.step.Step.TheVariants as steps
use Rattle.cacache_store.specs.declared.store.answer.Answer.TheVariants as answers
use Rattle.cacache_system.specs.{declared.call.{CallResult.{CallResult, TheVariants.{Done, Opened, Count, Bytes, Info, Names, Failed}}, CallItem.{CallItem}}, Seen.{NumberedFile, NumberedTemp, NumberedStep, NumberedAnswer}, CallsOf.{Stage, over, only, trying, taking_memory, opening, to_give, to_sync, to_sync_folder, opening_whole, appending, sizing, asking_source, standing, making, keeping, opening_folder, RunLogged}}
use Rattle.cacache_system.specs.declared.call.SystemCall.TheVariants as asks

-- What a store remembers or draws chooses no more than how the calls of a step begin: nothing that matters, that the
-- folder is guessed to be missing, that the file which a temporary one replaces was read before, and then whether the
-- temporary one was synced, or the number at which those of a copy's names start.
pub data Hint : Type 0 where
  no_hint : Hint
  is_missing : Hint
  rewrites : Bool → Hint
  starts_at : ℕ → Hint

-- a folder that is guessed to be missing is made before it is asked for
abbrev pub make_dirs : Hint → List ℕ → Stage
make_dirs is_missing path = making false path []
make_dirs hint path = standing path

-- a temporary file is moved; one that replaces a file that was read keeps the owner, the group and the mode of that
abbrev pub persist : Hint → NumberedTemp → List ℕ → Stage
persist (rewrites synced) temp path =
    keeping temp.number synced path (only (asks.Rename temp.path path))
persist hint temp path = only (asks.Rename temp.path path)

-- where the numbers of the names start that a copy may try
abbrev pub first_number : Hint → ℕ
first_number (starts_at number) = number
first_number hint = 0

-- a folder is listed; an empty path leads to none
abbrev pub list : List ℕ → Stage
list path =
    if length path == 0 then over (Failed kind.NotFound)
    else taking_memory (opening_folder path)

-- an open file that gave 2^64 - 1 bytes gives no more, and is not said to end
abbrev pub read_piece : NumberedFile → ℕ → Stage
read_piece file size =
    if file.left == 0 && not (size == 0)
    then over (Failed kind.FileTooLarge)
    else taking_memory (trying false (asks.Read file.number (min size file.left)))

-- how the calls of a step begin
abbrev pub first : Hint → NumberedStep → Stage
first hint (steps.MakeDirs p) = make_dirs hint p
first hint (steps.CreateTemp p) = taking_memory (only (asks.CreateNew p 384))
first hint (steps.Write t b) = trying false (asks.Write t.number b)
first hint (steps.Persist t p) = persist hint t p
first hint (steps.Append p b) = appending p b
first hint (steps.ReadAll p) = opening_whole p
first hint (steps.Open p) = taking_memory (opening to_give p)
first hint (steps.Read f max) = read_piece f (min max 131072)
first hint (steps.Exists p) = only (asks.Stat p)
first hint (steps.Size p) = sizing p
first hint (steps.Symlink target p) = only (asks.Symlink target p)
first hint (steps.Copy from to) = asking_source (first_number hint) from to
first hint (steps.Reflink from to) = over (Failed kind.Unsupported)
first hint (steps.HardLink from to) = only (asks.HardLink from to)
first hint (steps.ReadDir p) = list p
first hint (steps.RemoveFile p) = only (asks.RemoveFile p)
first hint (steps.RemoveDir p) = only (asks.RemoveFolder p)
first hint (steps.SyncTemp t) = only (asks.Sync t.number)
first hint (steps.SyncFile p) = opening to_sync p
first hint (steps.SyncDir p) = opening to_sync_folder p

-- some of the folders, the empty file, the file or a part of its line, or a part of the copy may be
-- there, and what was to be synced may be lost
abbrev pub leaves_a_part : NumberedStep → Bool
leaves_a_part (steps.MakeDirs p) = true
leaves_a_part (steps.CreateTemp p) = true
leaves_a_part (steps.Append p b) = true
leaves_a_part (steps.Copy p q) = true
leaves_a_part (steps.SyncTemp t) = true
leaves_a_part (steps.SyncFile p) = true
leaves_a_part (steps.SyncDir p) = true
leaves_a_part _ = false

-- memory was refused
abbrev pub refuses_memory : ErrorKind → Bool
refuses_memory kind.OutOfMemory = true
refuses_memory _ = false

-- the answer to a failure: out of memory hands the step back if nothing can have changed
abbrev pub failed_with : NumberedStep → ErrorKind → NumberedAnswer
failed_with step why =
    if refuses_memory why && not (leaves_a_part step)
    then answers.NoMemory step
    else answers.Failed (fault_of why)

-- nothing is there, or no folder leads there
abbrev pub misses : ErrorKind → Bool
misses kind.NotFound = true
misses kind.NotADirectory = true
misses _ = false

-- an open file after so many more bytes were read
abbrev pub read_on : NumberedFile → ℕ → NumberedFile
read_on file count = record { number = file.number; left = file.left - count }

-- what a step answers at the end of its calls
abbrev pub answer_of : NumberedStep → CallResult → NumberedAnswer
answer_of (steps.Exists p) (Failed why) =
    if misses why then answers.There false else failed_with (steps.Exists p) why
answer_of step (Failed why) = failed_with step why
answer_of (steps.CreateTemp p) (Opened file) =
    answers.Temp (record { number = file; path = p })
answer_of (steps.Write t b) (Count n) = answers.Wrote t n
answer_of (steps.Append p b) (Count n) = answers.Took n
answer_of (steps.ReadAll p) (Bytes b) = answers.Bytes b
answer_of (steps.Open p) (Opened file) =
    answers.File (record { number = file; left = 2 ^ 64 - 1 })
answer_of (steps.Read f max) (Bytes b) = answers.Got (read_on f (length b)) b
answer_of (steps.Exists p) (Info info) = answers.There true
answer_of (steps.Size p) (Info info) = answers.Length info.size
answer_of (steps.Copy from to) (Count n) = answers.Took n
answer_of (steps.ReadDir p) (Names l) = answers.Names l
answer_of (steps.SyncTemp t) Done = answers.Synced t
answer_of step Done = answers.Done
answer_of step result = answers.Failed Device

-- a log that is kept gained a run of the step's calls, and the answer is that run's
abbrev pub StepRuns : NumberedStep → NumberedAnswer → Option (List CallItem)
    → Option (List CallItem) → Type 0
StepRuns step answer old new =
    (hint : Hint) × (end : CallResult) × RunLogged (first hint step) end old new
    × (answer ≡ answer_of step end)

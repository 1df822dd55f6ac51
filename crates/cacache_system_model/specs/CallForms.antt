-- The system calls of steps that succeeded, and what the log of a store says of one.
use Rattle.std.specs.Prelude.{◌≡◌, ◌⊎◌, ◌≤◌, length, ℕ, Bool, true, false, if◌then◌else◌, List, [], ◌∷◌, ◌++◌, Option, Some}
use Rattle.cacache_store.specs.Plain.{plain_answer, is_no_memory}
use Rattle.cacache_system.specs.{declared.call.{SystemCall.{SystemCall}, FileInfo.{FileInfo}, CallResult.{CallResult}, CallItem.{CallItem}}, Seen.{item, GainsCalls, NumberedStep, NumberedAnswer}, CallsOf.{Runs, RunLogged}, AnswersOf.{Hint, first, answer_of}}
use Rattle.cacache_folder.specs.{FolderHandles.{seen_file, seen_temp}, FolderNumbers.{numbered, answered}, Goings.{interrupted}, StepsMade.{StepMade}}
use Rattle.cacache_disk.specs.{declared.luck.Luck.{Luck}, Apply.{apply}}
use Rattle.cacache_system_model.specs.{Machine.{Machine}, Calls.{OccursSomehow, EachCall}, Laws.{step_on, answer_on, outcome, LeavesFresh, IsDone}, Premises.{Premise}}
use Rattle.cacache_system.specs.declared.call.SystemCall.TheVariants as asks
use Rattle.cacache_system.specs.declared.call.CallResult.TheVariants as says
use Rattle.cacache_store.specs.declared.store.answer.Answer.TheVariants as answers

-- ---- kinds of calls

-- it changes nothing: it opens something to read it, reads it, or asks about it
abbrev pub changes_nothing : SystemCall → Bool
changes_nothing (asks.OpenToRead path) = true
changes_nothing (asks.OpenFolder path) = true
changes_nothing (asks.Read number size) = true
changes_nothing (asks.ReadRest number) = true
changes_nothing (asks.ReadNames number size) = true
changes_nothing (asks.StatFile number) = true
changes_nothing (asks.Stat path) = true
changes_nothing (asks.StatLink path) = true
changes_nothing (asks.RealPath path) = true
changes_nothing _ = false

-- it makes a folder, or asks about one
abbrev pub makes_folder : SystemCall → Bool
makes_folder (asks.MakeFolder path) = true
makes_folder (asks.Stat path) = true
makes_folder _ = false

-- it writes to an open file
abbrev pub writes_file : SystemCall → Bool
writes_file (asks.Write number bytes) = true
writes_file _ = false

-- it prepares a rename, or looks before an append: it asks what is there, or gives a temporary file an owner and a mode
abbrev pub prepares : SystemCall → Bool
prepares (asks.Stat path) = true
prepares (asks.StatLink path) = true
prepares (asks.SetOwner number owner group) = true
prepares (asks.SetMode number mode) = true
prepares (asks.Sync number) = true
prepares _ = false

-- a result is of the call's kind: what the system says if it did the call, or a failure
abbrev pub has_kind : SystemCall → CallResult → Bool
has_kind call (says.Failed why) = true
has_kind (asks.OpenToRead path) (says.Opened number) = true
has_kind (asks.CreateNew path mode) (says.Opened number) = true
has_kind (asks.OpenToAppend path) (says.Opened number) = true
has_kind (asks.OpenFolder path) (says.Opened number) = true
has_kind (asks.Read number size) (says.Bytes bytes) = true
has_kind (asks.ReadRest number) (says.Bytes bytes) = true
has_kind (asks.ReadNames number size) (says.Bytes bytes) = true
has_kind (asks.RealPath path) (says.Bytes bytes) = true
has_kind (asks.Write number bytes) (says.Count count) = true
has_kind (asks.CopyFile from to) (says.Count count) = true
has_kind (asks.StatFile number) (says.Info info) = true
has_kind (asks.Stat path) (says.Info info) = true
has_kind (asks.StatLink path) (says.Info info) = true
has_kind (asks.Sync number) says.Done = true
has_kind (asks.SetOwner number owner group) says.Done = true
has_kind (asks.SetMode number mode) says.Done = true
has_kind (asks.Rename from to) says.Done = true
has_kind (asks.MakeFolder path) says.Done = true
has_kind (asks.RemoveFile path) says.Done = true
has_kind (asks.RemoveFolder path) says.Done = true
has_kind (asks.Symlink target path) says.Done = true
has_kind (asks.HardLink from to) says.Done = true
has_kind call result = false

-- ---- forms of many calls

-- a form of calls
abbrev pub Form : Type 1
Form = List CallItem → Type 0

-- all are of this kind
abbrev pub Only : (SystemCall → Bool) → Form
Only kind [] = Unit {0}
Only kind (x ∷ calls) = (kind x.call ≡ true) × Only kind calls

-- each was answered by a result of its kind, as every method of a `System` is
abbrev pub AnsweredInKind : Form
AnsweredInKind [] = Unit {0}
AnsweredInKind (x ∷ calls) = (has_kind x.call x.result ≡ true) × AnsweredInKind calls

-- one call
abbrev pub One : SystemCall → Form
One call calls = (result : CallResult) × (calls ≡ item call result ∷ [])

-- one call, which is done
abbrev pub Succeeds : SystemCall → Form
Succeeds call calls = calls ≡ item call says.Done ∷ []

-- calls of one form, and then calls of another
abbrev pub Then : Form → Form → Form
Then A B calls = (before rest : List CallItem) × (calls ≡ before ++ rest) × A before × B rest

-- A file is opened to append to it, and then all of a line is handed to one write, which takes it all once no signal
-- interrupts it.
abbrev pub Sends : List ℕ → List ℕ → Form
Sends path line calls =
    (number often count : ℕ) × (length line ≤ count)
    × (calls ≡ item (asks.OpenToAppend path) (says.Opened number)
    ∷ (interrupted (asks.Write number line) often
    ++ item (asks.Write number line) (says.Count count) ∷ []))

-- what is at a path is opened, asked what it is, and synced
abbrev pub Syncs : List ℕ → Form
Syncs path calls =
    (number : ℕ) × (info : FileInfo)
    × (calls ≡ item (asks.OpenToRead path) (says.Opened number)
    ∷ item (asks.StatFile number) (says.Info info) ∷ item (asks.Sync number) says.Done ∷ [])

-- nothing, or one call
abbrev pub Perhaps : SystemCall → Form
Perhaps call calls = (calls ≡ []) ⊎ One call calls

-- ---- parts of a call

-- a part of a call
pub data Part : Type 0 where
  -- folders are made
  folders : Part
  -- a temporary file is made at this path, with the mode 0600
  creates : List ℕ → Part
  -- bytes are written
  writes : Part
  -- an open file is synced
  syncs_temp : Part
  -- the file at the first path is moved to the second
  moves : List ℕ → List ℕ → Part
  -- that failed, and something is at the second path all the same
  finds : List ℕ → List ℕ → Part
  -- a line is sent to the file at this path
  sends : List ℕ → List ℕ → Part
  -- what is at this path is synced
  syncs : List ℕ → Part

-- the calls of a part
abbrev pub Has : Part → Form
Has folders = Only makes_folder
Has (creates path) = One (asks.CreateNew path 384)
Has writes = Only writes_file
Has syncs_temp = λ calls. (number : ℕ) × Succeeds (asks.Sync number) calls
Has (moves from to) = Then (Only prepares) (Succeeds (asks.Rename from to))
Has (finds from to) =
    Then (Then (Only prepares) (Perhaps (asks.Rename from to))) (One (asks.Stat to))
Has (sends path line) = Then (Only prepares) (Sends path line)
Has (syncs path) = Syncs path

-- the calls of these parts, one after another
abbrev pub InParts : List Part → Form
InParts [] = λ calls. calls ≡ []
InParts (part ∷ parts) = Then (Has part) (InParts parts)

-- ---- the calls of steps

-- the calls of a step that a log has, and none of one that is in no log since memory was refused
abbrev pub kept : Bool → List CallItem → List CallItem
kept refused own = if refused then [] else own

-- a log of calls that is kept gained runs of these steps, and the calls of those that a store's log has are these
abbrev pub LoggedCalls : {Y F D : Type 0} → (F → ℕ) → List (StepMade Y F D)
    → Option (List CallItem) → Option (List CallItem) → Form
LoggedCalls number [] old new calls = (new ≡ old) × (calls ≡ [])
LoggedCalls number (made ∷ later) old new calls =
    (hint : Hint) × (end : CallResult) × (own rest : List CallItem)
    × (between : Option (List CallItem)) × Runs (first hint (numbered number made.0)) own end
    × GainsCalls old between own × (answered number made.1 ≡ answer_of (numbered number made.0) end)
    × LoggedCalls number later between new rest
    × (calls ≡ kept (is_no_memory (plain_answer seen_file seen_temp made.1)) own ++ rest)

-- ---- what the log of a store says of a step, on a machine on which its calls happened

-- The answer and the tree are the disk's under some luck, or the step came back and nothing changed, or it left a
-- file that it failed to use.
abbrev pub IsDisks : Machine → NumberedStep → NumberedAnswer → Machine → Type 0
IsDisks m step answer after =
    ((luck : Luck)
    × (apply m.tree (step_on m step) luck ≡ outcome (answer_on after answer) after.tree))
    ⊎ ((answer ≡ answers.NoMemory step) × (after.tree ≡ m.tree))
    ⊎ LeavesFresh m step answer after

-- if a log gained a run of a step's calls, as the contract of a store of real folders says, and they happened so
abbrev pub LogsAgree : Type 0
LogsAgree =
    (m after : Machine) (hint : Hint) (step : NumberedStep) (answer : NumberedAnswer)
    (end : CallResult) (old gained : List CallItem)
    → RunLogged (first hint step) end (Some old) (Some (old ++ gained))
    → answer ≡ answer_of step end → EachCall OccursSomehow m gained after
    → Premise m hint step → IsDone m step → IsDisks m step answer after

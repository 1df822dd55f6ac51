-- Where the bytes of open temporary files are: on a system they are in its tree, in a disk in memory the handles have
-- them.
use Rattle.std.specs.Prelude.{◌≡◌, Bool, true, false, if◌then◌else◌, [], Option, None, Some, Result, Ok, Err, IfOk}
use Rattle.cacache_core.specs.{declared.errors.Fault.{Fault}, Paths.{Names, names_of}}
use Rattle.cacache_store.specs.{declared.store.{step.Step.TheVariants.{CreateTemp, Persist, Append, ReadAll, Open, Size, Copy, Reflink, HardLink, RemoveFile, SyncFile}, answer.Answer.TheVariants.{Temp, Done}}, Plain.{PlainStep, PlainAnswer}}
use Rattle.cacache_disk.specs.{declared.{luck.Luck.{Luck}, node.Node.{Node, TheVariants.{Folder, File, Link}}}, Tree.{Tree, look, same_path}, LedTo.{leads, place, writable}, Apply.{apply}}

-- a node, with no bytes if it is a file
abbrev pub hollow : Option Node → Option Node
hollow None = None
hollow (Some Folder) = Some Folder
hollow (Some (File bytes)) = Some (File [])
hollow (Some (Link target)) = Some (Link target)

-- a disk's tree is the system's with the open temporary files emptied, which are files
pub record Mirrors (temps : Names → Bool) (t d : Tree) : Type 0 where
  pub files : (names : Names) → temps names ≡ true → hollow (look t names) ≡ Some (File [])
  pub same : (names : Names)
      → look d names ≡ (if temps names then hollow (look t names) else look t names)

-- ---- which files are open after a step

-- all but this one
abbrev pub all_but : (Names → Bool) → Names → Names → Bool
all_but temps names path = if same_path path names then false else temps path

-- all but the one that a path names
abbrev pub without : (Names → Bool) → Result Names Fault → Names → Bool
without temps (Ok names) = all_but temps names
without temps (Err fault) = temps

-- and the one that a path names
abbrev pub with_new : (Names → Bool) → Result Names Fault → Names → Bool
with_new temps (Ok names) path = if same_path path names then true else temps path
with_new temps (Err fault) path = temps path

-- the open temporary files after a step
abbrev pub temps_after : (Names → Bool) → PlainStep → PlainAnswer → Names → Bool
temps_after temps (CreateTemp p) (Temp f) = with_new temps (names_of p)
temps_after temps (Persist f p) Done = without (without temps (names_of f.path)) (names_of p)
temps_after temps (RemoveFile p) Done = without temps (names_of p)
temps_after temps step answer = temps

-- ---- steps that spare them

-- what was found is no open temporary file
abbrev pub IsNoTemp : (Names → Bool) → Result Names Fault → Type 0
IsNoTemp temps ends = IfOk ends (λ names. temps names ≡ false)

-- a step reads and writes no open temporary file by its path
abbrev pub SparesOpen : (Names → Bool) → Tree → PlainStep → Type 0
SparesOpen temps t (Append p bytes) = IsNoTemp temps (writable t p)
SparesOpen temps t (ReadAll p) = IsNoTemp temps (leads t p)
SparesOpen temps t (Open p) = IsNoTemp temps (leads t p)
SparesOpen temps t (Size p) = IsNoTemp temps (leads t p)
SparesOpen temps t (SyncFile p) = IsNoTemp temps (leads t p)
SparesOpen temps t (Copy p q) = IsNoTemp temps (leads t p) × IsNoTemp temps (writable t q)
SparesOpen temps t (Reflink p q) = IsNoTemp temps (leads t p)
SparesOpen temps t (HardLink p q) = IsNoTemp temps (place t p)
SparesOpen temps t step = Unit {0}

-- a step answers the same on both trees, and they stay such
pub record StaysMirrored (temps : Names → Bool) (step : PlainStep)
    (on_system on_disk : PlainAnswer × Tree) : Type 0 where
  pub answers : on_disk.0 ≡ on_system.0
  pub mirrors : Mirrors (temps_after temps step on_system.0) on_system.1 on_disk.1

-- so does each step under each luck
abbrev pub StepsMirror : Type 0
StepsMirror =
    (temps : Names → Bool) (t d : Tree) (step : PlainStep) (luck : Luck) → Mirrors temps t d
    → SparesOpen temps t step → StaysMirrored temps step (apply t step luck) (apply d step luck)

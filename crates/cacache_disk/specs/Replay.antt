-- The log of a store in memory: the tree that it leads to, a log that begins with all that is on a disk, and when nothing is
-- planted.
use Rattle.std.specs.{Prelude.{◌≡◌, ℕ, List, [], ◌∷◌, Option, None, Some, Result, Ok, Err, map as each}, Result.{result_err}}
use Rattle.cacache_core.specs.declared.errors.{Fault.{Fault}, Error.{Error, TheVariants.{IoError, OutOfMemory}}}
use Rattle.cacache_store.specs.{declared.store.{step.Step.TheVariants.{MakeDirs, ReadAll, Symlink}, answer.Answer.TheVariants.{Done, Bytes, NoMemory}, log.LogItem.{LogItem, TheVariants.{Made, Foreign, ForeignFolder}}}, Plain.{PlainStep, PlainAnswer}}
use Rattle.cacache_disk.specs.{declared.{luck.Luck.TheVariants.{Plain}, nodes.standing.{TreeItem.{TreeItem}, TreeNode.{TreeNode, TheVariants.{Folder, File, Link}}}}, Tree.{Tree, bare}, Apply.{apply, planted}, AllStanding.{all_standing}}

-- the new tree, or the old one if something failed
abbrev pub changed : Tree → Result Tree Fault → Tree
changed t (Ok new) = new
changed t (Err fault) = t

-- the tree after an item
abbrev pub after : Tree → LogItem → Tree
after t (Made step answer) = (apply t step Plain).1
after t (Foreign path bytes) = changed t (planted t path bytes)
after t (ForeignFolder path) = (apply t (MakeDirs path) Plain).1

-- a step has the disk's answer on this tree, and what is foreign doesn't fail
abbrev pub HappensOn : Tree → LogItem → Type 0
HappensOn t (Made step answer) = answer ≡ (apply t step Plain).0
HappensOn t (Foreign path bytes) = result_err (planted t path bytes) ≡ None
HappensOn t (ForeignFolder path) = (apply t (MakeDirs path) Plain).0 ≡ Done

-- the tree after the items of a log, one after another
abbrev pub replay : Tree → List LogItem → Tree
replay t [] = t
replay t (item ∷ log) = replay (after t item) log

-- each item of the log can happen at its place
abbrev pub IsReplayable : Tree → List LogItem → Type 0
IsReplayable t [] = Unit {0}
IsReplayable t (item ∷ log) = HappensOn t item × IsReplayable (after t item) log

-- the tree of a store with this log
unfoldable pub tree_of : List LogItem → Tree
tree_of log = replay bare log

-- each item of the log is what a disk that was bare at first did
unfoldable pub IsLog : List LogItem → Type 0
IsLog log = IsReplayable bare log

-- the bytes in the answer of a step that reads a file, none in any other
abbrev pub bytes_told : PlainAnswer → Option (List ℕ)
bytes_told (Bytes bytes) = Some bytes
bytes_told _ = None

-- the bytes that reading the whole file gives, none if that fails
abbrev pub shown : Tree → List ℕ → Option (List ℕ)
shown t path = bytes_told (apply t (ReadAll path) Plain).0

-- the answer is the disk's, except for want of memory
abbrev pub AnsweredByDisk : Tree → PlainStep → PlainAnswer → Type 0
AnsweredByDisk t step (NoMemory back) = Unit {0}
AnsweredByDisk t step answer = answer ≡ (apply t step Plain).0

-- ---- the log of a store that begins with all that is on a disk

-- a folder or file is somebody else's; a link is a step that was done, since no item is a foreign link
abbrev pub logged_at : List ℕ → TreeNode → LogItem
logged_at path Folder = ForeignFolder path
logged_at path (File bytes) = Foreign path bytes
logged_at path (Link target) = Made (Symlink target path) Done

-- what is at a path, as an item of a log
abbrev pub logged : TreeItem → LogItem
logged item = logged_at item.path item.node

-- one item for each node, in the order of paths
unfoldable pub foreign_log : Tree → List LogItem
foreign_log t = each logged (all_standing t)

-- ---- when nothing is planted

-- an error that is the fault's, or comes from memory
abbrev pub IsDueTo : Option Fault → Error → Type 0
IsDueTo found (IoError fault message) = found ≡ Some fault
IsDueTo found OutOfMemory = Unit {0}
IsDueTo found _ = ⊥

-- a call succeeds only if there is no fault, and fails for the fault or for memory
abbrev pub IsEarned : Option Fault → Result (Unit {0}) Error → Type 0
IsEarned found (Ok done) = found ≡ None
IsEarned found (Err error) = IsDueTo found error

-- The trees that a cache begins in, which trees its steps lead to, and which steps its calls make.
use Rattle.std.specs.Prelude.{◌≡◌, ℕ, Bool, List, Option, None, Some, [], ◌∷◌, Result, Ok}
use Rattle.cacache_store.specs.{declared.store.step.Step.TheVariants.{MakeDirs, CreateTemp, Persist, Append, Symlink, Copy, Reflink, HardLink}, Plain.{PlainStep}}
use Rattle.cacache_core.specs.{Paths.{Names}, declared.errors.Fault.{Fault}}
use Rattle.cacache_disk.specs.{declared.node.Node.{Node, TheVariants.{Folder, File, Link}}, Tree.{Tree, look, Rooted}, LedTo.{and_then}, Apply.{planted}}
use Rattle.cacache_entry.specs.{Entry.{Entry, closed_line}, FittingEntries.{IsEntry, IsWritable}}
use Rattle.cacache_value.specs.{Kinds.{PathKind, Content, Bucket, Temporary, Way, Stray, Elsewhere, path_kind, IsFor}, Value.{value_of_tree, empty_value}}

-- what may be at a path of a kind: each link leads to a path apart from the cache
abbrev pub MayStand : Option Names → Option Node → PathKind → Type 0
MayStand home None k = Unit {0}
MayStand home (Some Folder) Way = Unit {0}
MayStand home (Some Folder) Elsewhere = Unit {0}
MayStand home (Some Folder) other = ⊥
MayStand home (Some (File bytes)) Way = ⊥
MayStand home (Some (File bytes)) Stray = ⊥
MayStand home (Some (File bytes)) other = Unit {0}
MayStand home (Some (Link target)) Content = IsFor home Elsewhere target
MayStand home (Some (Link target)) Elsewhere = IsFor home Elsewhere target
MayStand home (Some (Link target)) other = ⊥

-- at each path is nothing, or what may be there
abbrev pub Placed : Option Names → Tree → Type 0
Placed home t = (names : Names) → MayStand home (look t names) (path_kind home names)

-- the line of an entry that can be written, as a commit appends it
pub record IsEntryLine (bytes : List ℕ) : Type 0 where
  pub entry : Entry
  pub formed : IsEntry entry
  pub fits : IsWritable entry
  pub durable : Bool
  pub same : bytes ≡ closed_line durable entry

-- a step that a call of the cache may make: it puts things where they belong, and exports elsewhere
abbrev pub Proper : Option Names → PlainStep → Type 0
Proper home (MakeDirs p) = IsFor home Way p
Proper home (CreateTemp p) = IsFor home Temporary p
Proper home (Persist f p) = IsFor home Temporary f.path × IsFor home Content p
Proper home (Append p bytes) = IsFor home Bucket p × IsEntryLine bytes
Proper home (Symlink target p) = IsFor home Content p × IsFor home Elsewhere target
Proper home (Copy p q) = IsFor home Elsewhere q
Proper home (Reflink p q) = IsFor home Elsewhere q
Proper home (HardLink p q) = IsFor home Elsewhere q
Proper home step = Unit {0}

-- ---- the trees that a cache begins in: outside files, and nothing of its own

-- the tree with these files put into it, each at its path
abbrev pub with_files : Tree → List (List ℕ × List ℕ) → Result Tree Fault
with_files t [] = Ok t
with_files t (file ∷ files) = and_then (planted t file.0 file.1) (λ new. with_files new files)

-- each file lies apart from the cache
abbrev pub LieApart : Option Names → List (List ℕ × List ℕ) → Type 0
LieApart home [] = Unit {0}
LieApart home (file ∷ files) = IsFor home Elsewhere file.0 × LieApart home files

-- a tree on which steps may begin, and in which the cache holds nothing
pub record IsOpening (home : Option Names) (t : Tree) : Type 0 where
  pub placed : Placed home t
  pub rooted : Rooted t
  pub nothing : value_of_tree home t ≡ empty_value

-- The deepest node on a path, and what it says of the rest of the path.
use Rattle.std.specs.Prelude.{◌≡◌, ◌≤◌, ◌==◌, ℕ, zero, suc, if◌then◌else◌, [], ◌∷◌, ◌++◌, Option, None, Some, length, take, drop}
use Rattle.cacache_core.specs.declared.errors.Fault.{Fault, TheVariants.{NotFound, AlreadyExists, NotADirectory}}
use Rattle.cacache_disk.specs.{declared.node.Node.{Node, TheVariants.{Folder, File, Link}}, Tree.{Tree, Names, look}, Apply.{make_some}}

-- nothing is at the next name, if there is one
abbrev pub IsMissing : Tree → Names → Names → Type 0
IsMissing t above [] = Unit {0}
IsMissing t above (name ∷ rest) = look t (above ++ name ∷ []) ≡ None

-- the node is at the first `count` names of a path, and nothing is below it on the path
pub record IsDeepest (t : Tree) (path : Names) (count : ℕ) (node : Node) : Type 0 where
  pub within : count ≤ length path
  pub stands : look t (take count path) ≡ Some node
  pub missing : IsMissing t (take count path) (drop count path)

-- why the folders don't lead on from the deepest node, if so many names are left
abbrev pub way_past : Node → ℕ → Option Fault
way_past node zero = None
way_past Folder (suc zero) = None
way_past Folder (suc (suc left)) = Some NotFound
way_past (File bytes) (suc left) = Some NotADirectory
way_past (Link target) (suc left) = Some NotADirectory

-- why no folders can be made from the deepest node on, if so many names are left
abbrev pub dirs_past : Node → ℕ → Option Fault
dirs_past Folder left = None
dirs_past (File bytes) left = Some (if left == 0 then AlreadyExists else NotADirectory)
dirs_past (Link target) left = Some (if left == 0 then AlreadyExists else NotADirectory)

-- folders are made from the name at `from` on, since those before it are there
abbrev pub MakesFrom : Tree → Names → ℕ → Type 0
MakesFrom t names from =
    (most : ℕ) → make_some t [] names most ≡ make_some t (take from names) (drop from names) most

-- A disk's tree: the node at each path, and trees in which each node is in a folder.
use Rattle.std.specs.{Prelude.{ℕ, Bool, if◌then◌else◌, List, [], ◌∷◌, ◌++◌, Option, None, Some, length, ◌==◌, ◌+◌, ◌&&◌, take, slice_index_or, ◌≡◌, true, false, IfSome}, declared.cmp.Ordering.{Ordering}, Ordering.{nat_cmp, eq_by_cmp}, Bool.{nat_eq}, Cmp.Lexicographic.{pointwise, slice_cmp}, List.{filter_map, list_any, AllByRecursion}}
use Rattle.cacache_store.specs.declared.store.answer.{Kind.{Kind}, Name.{Name}}
use Rattle.cacache_disk.specs.declared.node.Node.{Node, TheVariants.{Folder, File, Link}}
use Rattle.cacache_core.specs.Paths.{IsProperName}
use Rattle.std.specs.FinMap as map
use Rattle.cacache_store.specs.declared.store.answer.Kind.TheVariants as kinds
pub use Rattle.cacache_core.specs.Paths.{Names}

-- the order of paths, name by name
abbrev pub names_cmp : Names → Names → Ordering
names_cmp = slice_cmp (slice_cmp nat_cmp)

-- whether two paths are the same
abbrev pub same_path : Names → Names → Bool
same_path p q = eq_by_cmp names_cmp p q

-- whether a path is one of these
abbrev pub is_among : Names → List Names → Bool
is_among path paths = list_any (same_path path) paths

-- the paths on the way through these names, each one name longer
abbrev pub fronts : Names → Names → List Names
fronts above [] = []
fronts above (name ∷ rest) = (above ++ name ∷ []) ∷ fronts (above ++ name ∷ []) rest

-- the node at each path
abbrev pub Tree : Type 0
Tree = map.FinMap names_cmp Node

-- the node at a path
abbrev pub look : Tree → Names → Option Node
look t names = map.get t names

-- the tree with this node at the path
abbrev pub put : Tree → Names → Node → Tree
put t names node = map.insert t names node

-- the tree with no node at the path
abbrev pub cut : Tree → Names → Tree
cut t names = map.remove t names

-- nothing but the top folder
abbrev pub bare : Tree
bare = put map.empty [] Folder

-- the bytes of a file, none for anything else
abbrev pub bytes_of : Option Node → List ℕ
bytes_of None = []
bytes_of (Some Folder) = []
bytes_of (Some (File bytes)) = bytes
bytes_of (Some (Link target)) = []

-- what a listing says of a node
abbrev pub kind_of : Node → Kind
kind_of Folder = kinds.Folder
kind_of (File bytes) = kinds.File
kind_of (Link target) = kinds.Link

-- whether a path begins with a folder's names
abbrev pub is_below : Names → Names → Bool
is_below folder names = pointwise (pointwise nat_eq) (take (length folder) names) folder

-- whether a path is a folder's names and one more name
abbrev pub is_child : Names → Names → Bool
is_child folder names = (length names == length folder + 1) && is_below folder names

-- what a listing of a folder says of a node of the tree
abbrev pub child_of : Names → Names × Node → Option Name
child_of folder entry =
    if is_child folder entry.0
    then Some (record { name = slice_index_or entry.0 (length folder) []; kind = kind_of entry.1 })
    else None

-- the names in a folder and what is there, in the order of the names' bytes
unfoldable pub listing : Tree → Names → List Name
listing t folder = filter_map (child_of folder) (map.entries t)

-- ---- trees in which each node is in a folder

-- whether a node is a folder
abbrev pub is_folder : Option Node → Bool
is_folder None = false
is_folder (Some Folder) = true
is_folder (Some (File bytes)) = false
is_folder (Some (Link target)) = false

-- if something is there, the node above it is a folder
abbrev pub StandsIn : Option Node → Option Node → Type 0
StandsIn upper child = IfSome child (λ node. upper ≡ Some Folder)

-- each of the names stands for one thing in its folder
abbrev pub AreProper : Names → Type 0
AreProper = AllByRecursion IsProperName

-- the top folder is there, each node is in a folder, and its names are proper
pub record Rooted (t : Tree) : Type 0 where
  pub top : look t [] ≡ Some Folder
  pub folders : (above : Names) (name : List ℕ)
      → StandsIn (look t above) (look t (above ++ name ∷ []))
  pub proper : (names : Names) → IfSome (look t names) (λ node. AreProper names)

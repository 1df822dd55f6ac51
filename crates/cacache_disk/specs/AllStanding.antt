-- All that is on a disk.
use Rattle.std.specs.Prelude.{ℕ, List, [], ◌∷◌, map as each}
use Rattle.std.specs.FinMap as map
use Rattle.cacache_core.specs.Paths.{joined}
use Rattle.cacache_disk.specs.{declared.{node.Node.{Node}, nodes.standing.{TreeItem.{TreeItem}, TreeNode.{TreeNode, TheVariants.{Folder, File, Link}}}}, Tree.{Tree, Names}}
use Rattle.cacache_disk.specs.declared.node.Node.TheVariants as node

-- the text of a path: `/` alone for the top folder, and `/` before each name of any other
abbrev pub path_text : Names → List ℕ
path_text names = joined (47 ∷ []) names

-- what others see of a node
abbrev pub told_node : Node → TreeNode
told_node node.Folder = Folder
told_node (node.File bytes) = File bytes
told_node (node.Link target) = Link target

-- a path's text, and what is there
abbrev pub item_of : Names × Node → TreeItem
item_of entry = record { path = path_text entry.0; node = told_node entry.1 }

-- all that is in a tree, in the order of paths
unfoldable pub all_standing : Tree → List TreeItem
all_standing t = each item_of (map.entries t)

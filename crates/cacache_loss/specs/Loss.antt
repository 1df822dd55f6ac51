-- What a loss of power leaves of a tree.
use Rattle.std.specs.Prelude.{◌≡◌, ℕ, List, [], ◌∷◌, ◌++◌, Option, None, Some, Bool, true, false, ◌&&◌, not, take, unwrap_or, bytes_eq, if◌then◌else◌}
use Rattle.cacache_core.specs.Paths.{Names}
use Rattle.cacache_disk.specs.{declared.node.Node.{Node, TheVariants.{Folder, File, Link}}, Tree.{is_folder, Tree, look}}
use Rattle.cacache_loss.specs.Fixing.{Fixing, Place, Fixed, place_now}

-- a loss: which names are as they were, and what follows the fixed bytes of each open file
pub record Loss : Type 0 where
  pub undone : Names → Bool
  pub tail : Names → List ℕ

-- whether the first names are a beginning of the second
abbrev pub begins : Names → Names → Bool
begins [] home = true
begins (name ∷ path) [] = false
begins (name ∷ path) (first ∷ home) = bytes_eq name first && begins path home

-- the cache's folder and those above it stay; if the cache's text names none, every path stays
abbrev pub stays : Option Names → Names → Bool
stays None path = true
stays (Some home) path = begins path home

-- what is left at a path, if its folder is left
abbrev pub left_at : Option Names → Tree → Fixed → Loss → Names → Place
left_at home t fixed loss path =
    if loss.undone path && not (stays home path)
    then unwrap_or (fixed.names path) (place_now t fixed path)
    else place_now t fixed path

-- whether each path above this one, from the top down, leads to a folder that is left
abbrev pub lead_folders : (Names → Place) → Names → Names → Bool
lead_folders left above [] = true
lead_folders left above (name ∷ rest) =
    is_folder (left above).node && lead_folders left (above ++ name ∷ []) rest

-- the bytes that are left of a file: if it is open, others may follow those that are fixed
abbrev pub bytes_left : Fixing → List ℕ → List ℕ → List ℕ
bytes_left f bytes tail = if f.whole then bytes else take f.kept bytes ++ tail

-- the node that is left of one
abbrev pub node_left : Fixing → List ℕ → Option Node → Option Node
node_left f tail None = None
node_left f tail (Some Folder) = Some Folder
node_left f tail (Some (File bytes)) = Some (File (bytes_left f bytes tail))
node_left f tail (Some (Link target)) = Some (Link target)

-- what is at a path after a loss
abbrev pub lost_at : Option Names → Tree → Fixed → Loss → Names → Option Node
lost_at home t fixed loss path =
    if lead_folders (left_at home t fixed loss) [] path
    then node_left (left_at home t fixed loss path).fixing (loss.tail path)
    (left_at home t fixed loss path).node
    else None

-- a tree is the one after a loss
abbrev pub Lost : Option Names → Tree → Fixed → Loss → Tree → Type 0
Lost home t fixed loss new = (path : Names) → look new path ≡ lost_at home t fixed loss path

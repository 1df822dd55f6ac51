-- The tree of each moment is that of a cache, and so is what a loss leaves of it.
use Rattle.std.specs.Prelude.{◌≡◌, List, Option, IfSome}
use Rattle.cacache_core.specs.Paths.{Names}
use Rattle.cacache_disk.specs.{declared.node.Node.{Node}, Tree.{AreProper, Rooted, Tree, look}}
use Rattle.cacache_value.specs.{Kinds.{path_kind}, Placed.{MayStand, Placed}, Acts.{Move, IsTrace, tree_after}}
use Rattle.cacache_loss.specs.{Fixing.{Fixed, all_fixed}, Loss.{Loss, Lost, lost_at}, Moments.{Moment, after}}

-- a tree of a cache: each node is where it may be, and in a folder
abbrev pub OfCache : Option Names → Moment → Type 0
OfCache home now = Placed home now.tree × Rooted now.tree

-- at a path is nothing, or what may be there, and the path's names are proper
abbrev pub Suits : Option Names → Names → Option Node → Type 0
Suits home path here =
    MayStand home here (path_kind home path) × IfSome here (λ node. AreProper path)

-- what was at names that changed since their folders were synced suited them
abbrev pub StoodWell : Option Names → Fixed → Type 0
StoodWell home fixed =
    (path : Names) → IfSome (fixed.names path) (λ place. Suits home path place.node)

-- if all is fixed, they did
abbrev pub OpeningsStandWell : Type 0
OpeningsStandWell = (home : Option Names) (t : Tree) → StoodWell home (all_fixed t)

-- the tree of the moment after these moves is the one after their steps
abbrev pub MomentsFollowTrees : Type 0
MomentsFollowTrees =
    (now : Moment) (moves : List Move) → (after now moves).tree ≡ tree_after now.tree moves

-- after proper steps, calm or not, a moment is one of a cache again
abbrev pub MovesKeepMoments : Type 0
MovesKeepMoments =
    (home : Option Names) (now : Moment) (moves : List Move)
    → OfCache home now → StoodWell home now.fixed → IsTrace home now.tree moves
    → OfCache home (after now moves) × StoodWell home (after now moves).fixed

-- and any loss leaves a tree of a cache, on which reading steps show what it holds
abbrev pub LossesLeaveTrees : Type 0
LossesLeaveTrees =
    (home : Option Names) (now : Moment) (loss : Loss) (new : Tree)
    → OfCache home now → StoodWell home now.fixed → Lost home now.tree now.fixed loss new
    → Placed home new × Rooted new

-- if all is fixed, a loss leaves each path as it was
abbrev pub FixedTreesStay : Type 0
FixedTreesStay =
    (home : Option Names) (t : Tree) (loss : Loss) (path : Names) → Rooted t
    → lost_at home t (all_fixed t) loss path ≡ look t path

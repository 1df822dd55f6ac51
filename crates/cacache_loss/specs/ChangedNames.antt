-- Which names changed since their folders were synced: finitely many, so a loss leaves a tree.
use Rattle.std.specs.{Prelude.{◌≡◌, List, [], Option, None, false}, List.{list_any}}
use Rattle.cacache_core.specs.Paths.{Names}
use Rattle.cacache_disk.specs.Tree.{Rooted, Tree, same_path}
use Rattle.cacache_value.specs.{Placed.{Placed}, Shows.{ReadsShow}, Acts.{Move, IsTrace}}
use Rattle.cacache_loss.specs.{Fixing.{Fixed, all_fixed}, Loss.{Loss, Lost}, Moments.{Moment, after}}

-- ---- names that changed

-- all names except those of these paths are as they were when their folders were synced
abbrev pub ChangedOnlyAt : List Names → Fixed → Type 0
ChangedOnlyAt paths fixed =
    (path : Names) → list_any (same_path path) paths ≡ false → fixed.names path ≡ None

-- the names of finitely many paths changed since their folders were synced
pub record FewChanged (fixed : Fixed) : Type 0 where
  pub paths : List Names
  pub only : ChangedOnlyAt paths fixed

-- if all is fixed, none did
abbrev pub OpeningsChangedNone : Type 0
OpeningsChangedNone = (t : Tree) → ChangedOnlyAt [] (all_fixed t)

-- moves change finitely many more, calm or not
abbrev pub MovesChangeFew : Type 0
MovesChangeFew =
    (now : Moment) (moves : List Move) → FewChanged now.fixed
    → FewChanged (after now moves).fixed

-- ---- the tree that a loss leaves

-- there is a tree that the loss leaves, and no other
pub record LeavesOneTree (home : Option Names) (now : Moment) (loss : Loss) : Type 0 where
  pub tree : Tree
  pub left : Lost home now.tree now.fixed loss tree
  pub only : (other : Tree) → Lost home now.tree now.fixed loss other → other ≡ tree

-- each loss leaves one
abbrev pub LossesLeaveOneTree : Type 0
LossesLeaveOneTree =
    (home : Option Names) (now : Moment) (loss : Loss) → FewChanged now.fixed
    → LeavesOneTree home now loss

-- ---- losses in a history

-- at the beginning of a history all is fixed
abbrev pub opening : Tree → Moment
opening t = record { tree = t; fixed = all_fixed t }

-- the loss leaves the tree of a cache, on which reading steps show what that cache holds
pub record LeavesCache (home : Option Names) (now : Moment) (loss : Loss) : Type 0 where
  pub one : LeavesOneTree home now loss
  pub placed : Placed home one.tree
  pub rooted : Rooted one.tree
  pub shows : ReadsShow home one.tree

-- at each moment of a history that begins with a cache's tree, each loss leaves one
abbrev pub HistoriesLeaveCaches : Type 0
HistoriesLeaveCaches =
    (home : Option Names) (t : Tree) (moves : List Move) (loss : Loss)
    → Placed home t → Rooted t → IsTrace home t moves
    → LeavesCache home (after (opening t) moves) loss

-- What a cache holds in the tree that a loss leaves.
use Rattle.std.specs.Prelude.{◌≡◌, ℕ, List, ◌++◌, Some}
use Rattle.cacache_core.specs.{declared.integrity.digest.Hash.{Hash}, Paths.{Names, content_names, bucket_names_of}}
use Rattle.cacache_disk.specs.Tree.{Tree}
use Rattle.cacache_entry.specs.Entry.{Entry}
use Rattle.cacache_value.specs.Value.{InFile, Value, value_of_tree}
use Rattle.cacache_loss.specs.{Loss.{Loss, Lost}, Moments.{Moment, lost_then}, LossLaws.{GoodNode, HasDigest, HoldsEntries}}

-- a tree is what a loss at a moment leaves of a cache in the folder `home`
abbrev pub LeftOf : Names → Moment → Loss → Tree → Type 0
LeftOf home now loss new = Lost (Some home) now.tree now.fixed loss new

-- at an address is a content that has its digest
abbrev pub HoldsContent : Hash → Value → Type 0
HoldsContent address v =
    (bytes : List ℕ) × (v.contents address ≡ Some (InFile bytes)) × HasDigest address bytes

-- the first entries of a SHA-1's bucket are these
abbrev pub HoldsBucket : List ℕ → List Entry → Value → Type 0
HoldsBucket digest entries v =
    (more : List Entry) × (v.buckets digest ≡ Some (entries ++ more))

-- a right file that is left at a content's path is that content
abbrev pub ContentsAreHeld : Type 0
ContentsAreHeld =
    (home : Names) (address : Hash) (now : Moment) (loss : Loss) (new : Tree)
    → LeftOf home now loss new
    → GoodNode (HasDigest address) (lost_then (Some home) now loss (home ++ content_names address))
    → HoldsContent address (value_of_tree (Some home) new)

-- the entries of a file that is left at a bucket's path are in that bucket
abbrev pub EntriesAreHeld : Type 0
EntriesAreHeld =
    (home : Names) (digest : List ℕ) (entries : List Entry) (now : Moment) (loss : Loss)
    (new : Tree) → LeftOf home now loss new
    → HoldsEntries entries (lost_then (Some home) now loss (home ++ bucket_names_of digest))
    → HoldsBucket digest entries (value_of_tree (Some home) new)

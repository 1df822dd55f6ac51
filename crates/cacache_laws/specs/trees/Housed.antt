-- Caches where each thing lies in its place, and each entry in the bucket of its key.
use Rattle.std.specs.Prelude.{◌≡◌, ◌⊎◌, ℕ, List, Option, Some, All, Contains}
use Rattle.cacache_core.specs.Paths.{Names, home_of}
use Rattle.cacache_store.specs.declared.store.log.LogItem.{LogItem}
use Rattle.cacache_disk.specs.{declared.node.Node.{Node}, Tree.{Tree, look, Rooted}, Replay.{tree_of}}
use Rattle.cacache_entry.specs.{FittingEntries.{IsEntry}, Bucket.{Found}}
use Rattle.cacache_calls.specs.declared.command.Command.TheVariants as commands
use Rattle.cacache_calls.specs.State.{Site}
use Rattle.cacache_value.specs.{Acts.{list_of}, Kinds.{Elsewhere, Way, path_kind}, Placed.{Placed}, Value.{wide_value}}
use Rattle.cacache_history.specs.AddedEntries.{BucketsHaveKeys, HoldOwn}
use Rattle.cacache_laws.specs.{Caches.{IsCache}, trees.{Index.{IndexLists}, Verifying.{found_in}}}

-- each thing lies in its place; each bucket is that of some key, and its entries are well-formed ones
-- of its own keys
pub record Housed (folder : Option Names) (t : Tree) : Type 0 where
  pub placed : Placed folder t
  pub keyed : BucketsHaveKeys folder t
  pub formed : (digest : List ℕ) → All IsEntry (list_of ((wide_value folder t).buckets digest))
  pub own : HoldOwn (wide_value folder t).buckets

-- so it is in a cache that only calls wrote to
abbrev pub CachesAreHoused : Type 0
CachesAreHoused =
    (cache : List ℕ) (home : Names) (log : List LogItem)
    → home_of cache ≡ Some home → IsCache cache log → Housed (Some home) (tree_of log)

-- in such a cache each entry of the index is what a lookup of its key finds
abbrev pub IndexesLead : Type 0
IndexesLead =
    (site : Site) (home : Names) (t : Tree) (entries : List Found) (found : Found)
    → home_of site.cache ≡ Some home → Rooted t → Housed (Some home) t → IndexLists site t entries
    → Contains entries found → found_in home t found.key ≡ Some found

-- a path apart from the cache, or on the way there
abbrev pub Beside : Option Names → Names → Type 0
Beside folder q = (path_kind folder q ≡ Elsewhere) ⊎ (path_kind folder q ≡ Way)

-- what is at such a path in the first tree is there in the second one
abbrev pub Still : Option Names → Tree → Tree → Type 0
Still folder t new =
    (q : Names) (node : Node) → Beside folder q → look t q ≡ Some node → look new q ≡ Some node

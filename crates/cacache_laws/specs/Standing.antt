-- Stores in memory about which less is known than about a cache: a loss of power may have damaged
-- contents and buckets.
use Rattle.std.specs.Prelude.{◌≡◌, ℕ, List}
use Rattle.cacache_core.specs.{declared.{errors.Error.{Error}, integrity.digest.Hash.{Hash}}, Paths.{home_of}}
use Rattle.cacache_store.specs.declared.store.log.LogItem.{LogItem}
use Rattle.cacache_disk.specs.{Tree.{Rooted}, Replay.{tree_of}}
use Rattle.cacache_calls.specs.declared.{command.{Command.{Command}, Put.{Put}}, reply.Reply.{Reply, TheVariants.{Refused, Stored}}}
use Rattle.cacache_calls.specs.declared.command.Command.TheVariants as commands
use Rattle.cacache_value.specs.Placed.{Placed}
use Rattle.cacache_laws.specs.{Beside.{FitsEntry, KeepsBeside, own_integrity, found_under}, CallErrors.{IsPlainPut}, Caches.{IsCache, HasKey, IsExcused, Called, GivesBytes}, Looks.{OnlyLooks, GivesFound}, Puts.{ExpectsIntegrity, HasPut, MayLeadToPut}}

-- everything is where it may be; the bytes of contents and buckets may be any
pub record IsStanding (cache : List ℕ) (log : List LogItem) : Type 0 where
  pub placed : Placed (home_of cache) (tree_of log)
  pub rooted : Rooted (tree_of log)

-- each cache is such a store
abbrev pub CachesStand : Type 0
CachesStand = (cache : List ℕ) (log : List LogItem) → IsCache cache log → IsStanding cache log

-- a call that only looks leaves such a store
abbrev pub LooksLeaveStanding : Type 0
LooksLeaveStanding =
    (cache : List ℕ) (command : Command) (r : Reply) (old new : List LogItem)
    → OnlyLooks command → Called cache command r old new → IsStanding cache old
    → IsStanding cache new

-- a lookup finds what the key leads to
abbrev pub StandingFinds : Type 0
StandingFinds =
    (cache key : List ℕ) (r : Reply) (old new : List LogItem)
    → IsStanding cache old → Called cache (commands.Find key) r old new
    → GivesFound (found_under cache key old) r old new

-- a read by key answers the bytes that the key leads to, which stay
abbrev pub StandingReads : Type 0
StandingReads =
    (cache key bytes : List ℕ) (i : List Hash) (r : Reply) (old new : List LogItem)
    → IsStanding cache old → HasKey cache key i bytes old
    → Called cache (commands.Get key) r old new
    → GivesBytes (HasKey cache key i bytes new) bytes r old new

-- everything is still where it may be; if a put stored, its key leads to its entry and its bytes
-- lie under their integrity; other keys lead where they led, and contents stay, except at the
-- address of its bytes
pub record PutStands (cache : List ℕ) (p : Put) (r : Reply) (old new : List LogItem) : Type 0 where
  pub standing : IsStanding cache new
  pub stored : (i : List Hash) → r ≡ Stored i → HasPut cache p i new
  pub may_lead : MayLeadToPut cache p old new
  pub keeps : KeepsBeside cache p.key (own_integrity p) p.data old new
  pub fails : (key : List ℕ) (e : Error) → IsPlainPut cache key p → r ≡ Refused e
      → IsExcused e old new

-- this holds after each put, with any options
abbrev pub StandingWrites : Type 0
StandingWrites =
    (cache : List ℕ) (p : Put) (r : Reply) (old new : List LogItem)
    → FitsEntry cache p → ExpectsIntegrity p → IsStanding cache old
    → Called cache (commands.Put p) r old new → PutStands cache p r old new

-- Where a key leads after a collection, while others export contents and write keys.
use Rattle.std.specs.Prelude.{◌≡◌, ◌⊎◌, ◌<◌, ◌^◌, ℕ, List, [], ◌∷◌, Option, None, Some, Result, Contains, IfSome, IsUtf8, filter_map}
use Rattle.cacache_core.specs.{declared.{errors.Error.{Error}, integrity.digest.Hash.{Hash}}, Integrity.{IsIntegrity}, Paths.{Names, home_of}}
use Rattle.cacache_store.specs.declared.store.{log.LogItem.{LogItem}, plain.PlainTemp.{PlainTemp}}
use Rattle.cacache_disk.specs.Replay.{IsLog}
use Rattle.cacache_calls.specs.declared.command.Command.TheVariants as commands
use Rattle.cacache_calls.specs.{declared.{command.{Delete.{Delete}, Export.{Export}, Insert.{Insert}, Put.{Put}, Source.{Source}}, reply.Reply.{Reply}}, Inserting.{insertion}, Sound.{FormedIfWritten}, State.{Site}}
use Rattle.cacache_history.specs.History.{NamesIntegrity}
use Rattle.cacache_laws.specs.{Beside.{FitsEntry, IsOther, found_under}, Caches.{IsCache, HasKey, Called}, ExportEffects.{IsApart}, OpenWriters.{GivesUpTemp, CommitsBytes, IsOpened, OpensWriter}, Puts.{ExpectsIntegrity}}
use Rattle.cacache_keep.specs.{declared.checking.OddLines.{OddLines}, Keeping.{Collects, StopsCollecting}, Kept.{LeavesTree}}

-- ---- a collection

-- a cache is left, in which each key leads to the entry that it led to, and to the bytes
pub record KeepsKeys (cache : List ℕ) (old new : List LogItem) : Type 0 where
  pub sound : IsCache cache new
  pub finds : (key : List ℕ) → found_under cache key new ≡ found_under cache key old
  pub key : (key bytes : List ℕ) (i : List Hash)
      → HasKey cache key i bytes old → HasKey cache key i bytes new

-- so it is after a collection
abbrev pub CollectionsKeepKeys : Type 0
CollectionsKeepKeys =
    (site : Site) (home : Names) (kept : ℕ) (dropped : List (List Hash)) (old new : List LogItem)
    → home_of site.cache ≡ Some home → IsLog new → IsCache site.cache old
    → Collects site kept dropped (Some old) (Some new) → KeepsKeys site.cache old new

-- and after one that an error ended, wherever it stopped
abbrev pub StoppedKeepKeys : Type 0
StoppedKeepKeys =
    (choice : OddLines) (site : Site) (home : Names) (e : Error) (old new : List LogItem)
    → home_of site.cache ≡ Some home → IsLog new → IsCache site.cache old
    → StopsCollecting choice site e (Some old) (Some new) → KeepsKeys site.cache old new

-- ---- what may come in between

-- what a caller does to a cache
pub data Event : Type 0 where
  -- it is collected
  collects : Event
  -- whatever leaves the tree: calls that only look, and listings, verifications and plans
  looks : Event
  -- a content is copied, reflinked or hard-linked out of it
  exports : Source → Export → Event
  -- bytes are put, with any options
  puts : Put → Event
  -- an entry is inserted
  inserts : Insert → Event
  -- a key is removed, by a tombstone
  deletes : Delete → Event
  -- a writer is opened, with a temporary file of this number
  opens : ℕ → Event
  -- it is committed with these bytes and options
  commits : ℕ → Put → Event
  -- it is given up
  gives_up : ℕ → Event

-- the text that it writes, if any
abbrev pub text_of : Event → Option (List ℕ)
text_of (puts p) = Some p.data
text_of (commits number p) = Some p.data
text_of other = None

module _ (site : Site) (key : List ℕ) where
  -- the log gained it, whatever it was answered: an export went apart from the cache, and what was
  -- written or removed has another key, or none
  abbrev pub Happens : Event → List LogItem → List LogItem → Type 0
  Happens collects old new =
      (kept : ℕ) × (dropped : List (List Hash)) × Collects site kept dropped (Some old) (Some new)
  Happens looks old new = LeavesTree old new
  Happens (exports source e) old new =
      IsApart site.cache e.to × NamesIntegrity (commands.Export source e)
      × (r : Reply) × Called site.cache (commands.Export source e) r old new
  Happens (puts p) old new =
      IsOther p.key key × FitsEntry site.cache p
      × (r : Reply) × Called site.cache (commands.Put p) r old new
  Happens (inserts i) old new =
      IsOther (Some i.key) key × IfSome i.options.integrity IsIntegrity
      × FormedIfWritten (insertion site.cache i)
      × (r : Reply) × Called site.cache (commands.Insert i) r old new
  Happens (deletes d) old new =
      IsOther (Some d.key) key × IsUtf8 d.key × (d.moment < 2 ^ 64)
      × (r : Reply) × Called site.cache (commands.Delete d) r old new
  Happens (opens number) old new =
      (r : Result PlainTemp Error) × OpensWriter site.cache number r (Some old) (Some new)
  Happens (commits number p) old new =
      IsOther p.key key × FitsEntry site.cache p × ExpectsIntegrity p × IsOpened site.cache number
      × (r : Reply) × CommitsBytes site.cache p number r old new
  Happens (gives_up number) old new = GivesUpTemp site.cache number (Some old) (Some new)

  -- so it did with each of these, one after another
  abbrev pub Happen : List Event → List LogItem → List LogItem → Type 0
  Happen [] old new = LeavesTree old new
  Happen (e ∷ events) old new =
      (next : List LogItem) × IsLog next × Happens e old next × Happen events next new

-- ---- where the key leads then

-- to the integrity, under which these bytes lie, or one of the texts, which meets it too
pub record LeadsOn (cache key : List ℕ) (i : List Hash) (bytes : List ℕ) (texts : List (List ℕ))
    (log : List LogItem) : Type 0 where
  pub held : List ℕ
  pub has : HasKey cache key i held log
  pub which : (held ≡ bytes) ⊎ Contains texts held

-- a cache is left, in which the key leads to the entry that it led to; and if it led to bytes, to
-- them or to one of the texts
pub record KeepsKey (cache key : List ℕ) (texts : List (List ℕ)) (old new : List LogItem)
    : Type 0 where
  pub sound : IsCache cache new
  pub finds : found_under cache key new ≡ found_under cache key old
  pub leads : (bytes : List ℕ) (i : List Hash)
      → HasKey cache key i bytes old → LeadsOn cache key i bytes texts new

-- so it is for each key up to its next insertion: collections may come, and in between looks,
-- exports, and writes of other keys
abbrev pub LaterKeysStay : Type 0
LaterKeysStay =
    (site : Site) (home : Names) (key : List ℕ) (events : List Event) (old new : List LogItem)
    → home_of site.cache ≡ Some home → IsCache site.cache old → Happen site key events old new
    → KeepsKey site.cache key (filter_map text_of events) old new

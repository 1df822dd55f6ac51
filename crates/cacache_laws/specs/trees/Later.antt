-- Where a key leads after later calls that spare it, on any store in memory that stands.
use Rattle.std.specs.Prelude.{◌≡◌, ◌⊎◌, ◌<◌, ◌^◌, ℕ, List, [], ◌∷◌, Option, None, Some, Result, Contains, IsUtf8, filter_map}
use Rattle.cacache_core.specs.{declared.{errors.Error.{Error}, integrity.digest.Hash.{Hash}}, Integrity.{IsIntegrity}}
use Rattle.cacache_store.specs.declared.store.{log.LogItem.{LogItem}, plain.PlainTemp.{PlainTemp}}
use Rattle.cacache_disk.specs.Replay.{IsLog, tree_of}
use Rattle.cacache_entry.specs.Bucket.{Found}
use Rattle.cacache_calls.specs.declared.command.Command.TheVariants as commands
use Rattle.cacache_calls.specs.{declared.{command.{Command.{Command}, Delete.{Delete}, Put.{Put}}, reply.Reply.{Reply}}, Inserting.{deletion}, Sound.{FormedIfWritten, MayBegin}}
use Rattle.cacache_history.specs.{Lookups.{SparesKey}, Setup.{call_site, is_outside, may_export}}
use Rattle.cacache_laws.specs.{Beside.{FitsEntry, ShareAddress, found_under}, Caches.{Called, GivesBytes, HasKey, setup_at}, OpenWriters.{GivesUpTemp, CommitsBytes, IsOpened, OpensWriter}, Standing.{IsStanding}}

-- ---- what spares a key

-- nothing lies at the address of this integrity that the other one's removal takes away
abbrev pub IsApartFrom : List Hash → List Hash → Type 0
IsApartFrom i other = IsIntegrity other × (ShareAddress i other → ⊥)

-- a call of the command removes nothing at the integrity's address
abbrev pub SparesContent : List ℕ → List Hash → List LogItem → Command → Type 0
SparesContent cache i log (commands.RemoveHash other) = IsApartFrom i other
SparesContent cache i log (commands.RemoveFully key) =
    (found : Found) → found_under cache key log ≡ Some found → IsApartFrom i found.integrity
SparesContent cache i log command = Unit {0}

-- The log gained a call of this command that might begin: an export went apart from the cache. It spares the
-- key, and what lies under the integrity. A call that was broken off has the reply of want of memory
pub record SparingCall (cache key : List ℕ) (i : List Hash) (command : Command)
    (old new : List LogItem) : Type 0 where
  pub reply : Reply
  pub called : Called cache command reply old new
  pub may : MayBegin (call_site (setup_at cache called.base) called.number)
      (may_export (setup_at cache called.base)) (is_outside (setup_at cache called.base)) command
  pub key_spared : SparesKey key command
  pub content_spared : SparesContent cache i old command

-- what a caller does to a cache
pub data Later : Type 0 where
  -- whatever leaves the tree: calls that only look, and listings, verifications and plans
  looks : Later
  -- a call of this command, over or broken off
  calls : Command → Later
  -- a writer is opened, with a temporary file of this number
  opens : ℕ → Later
  -- it is committed with these bytes and options
  commits : ℕ → Put → Later
  -- it is given up
  gives_up : ℕ → Later

-- the text that it writes, if any
abbrev pub written : Later → Option (List ℕ)
written (calls (commands.Put p)) = Some p.data
written (commits number p) = Some p.data
written other = None

module _ (cache key : List ℕ) (i : List Hash) where
  -- the log gained it, whatever it was answered
  abbrev pub Spares : Later → List LogItem → List LogItem → Type 0
  Spares looks old new = tree_of new ≡ tree_of old
  Spares (calls command) old new = SparingCall cache key i command old new
  Spares (opens number) old new =
      (r : Result PlainTemp Error) × OpensWriter cache number r (Some old) (Some new)
  Spares (commits number p) old new =
      (p.key ≡ Some key → ⊥) × FitsEntry cache p × IsOpened cache number
      × (r : Reply) × CommitsBytes cache p number r old new
  Spares (gives_up number) old new = GivesUpTemp cache number (Some old) (Some new)

  -- so it did with each of these, one after another
  abbrev pub AllSpare : List Later → List LogItem → List LogItem → Type 0
  AllSpare [] old new = tree_of new ≡ tree_of old
  AllSpare (e ∷ later) old new =
      (next : List LogItem) × IsLog next × Spares e old next × AllSpare later next new

-- ---- where the key leads then

-- a read by the key gives these bytes, which stay
abbrev pub ReadsOf : List ℕ → List ℕ → List Hash → List ℕ → List LogItem → Type 0
ReadsOf cache key i bytes log =
    (r : Reply) (new : List LogItem) → Called cache (commands.Get key) r log new
    → GivesBytes (HasKey cache key i bytes new) bytes r log new

-- everything still stands where it may; the key leads to the entry that it led to, and to the same bytes,
-- or to one of the texts, if that meets the integrity too; a read by the key gives them
pub record StaysRead (cache key : List ℕ) (i : List Hash) (bytes : List ℕ)
    (texts : List (List ℕ)) (old new : List LogItem) : Type 0 where
  pub standing : IsStanding cache new
  pub finds : found_under cache key new ≡ found_under cache key old
  pub held : List ℕ
  pub which : (held ≡ bytes) ⊎ Contains texts held
  pub has : HasKey cache key i held new
  pub reads : ReadsOf cache key i held new

-- so it is of each key that leads to bytes, in any store that stands, after any calls that spare it
abbrev pub SparedKeysStay : Type 0
SparedKeysStay =
    (cache key : List ℕ) (i : List Hash) (bytes : List ℕ) (later : List Later)
    (old new : List LogItem) → IsStanding cache old → HasKey cache key i bytes old
    → AllSpare cache key i later old new
    → StaysRead cache key i bytes (filter_map written later) old new

-- a tombstone's entry is well-formed or refused, so that its call might begin
abbrev pub TombstonesFit : Type 0
TombstonesFit =
    (cache : List ℕ) (d : Delete) → IsUtf8 d.key → d.moment < 2 ^ 64
    → FormedIfWritten (deletion cache d)

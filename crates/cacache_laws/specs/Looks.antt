-- Calls that only look: what they leave, and what they answer in any cache.
use Rattle.std.specs.Prelude.{◌≡◌, ℕ, List, Option, Some, Result, Ok}
use Rattle.cacache_core.specs.{declared.{errors.{Error.TheVariants.{EntryNotFound, IoError, IntegrityError, OutOfMemory}, Fault.{Fault}, IntegrityFault.{IntegrityFault, TheVariants.{Check}}}, integrity.digest.Hash.{Hash}}, Integrity.{Meets, actual}, Paths.{home_of}}
use Rattle.cacache_store.specs.declared.store.log.LogItem.{LogItem}
use Rattle.cacache_disk.specs.Replay.{tree_of}
use Rattle.cacache_entry.specs.Bucket.{Found}
use Rattle.cacache_calls.specs.{declared.{command.Command.{Command}, reply.Reply.{Reply, TheVariants.{LookedUp, Read, Refused}}}, Licence.{looking_on, KeepsTo}}
use Rattle.cacache_calls.specs.declared.command.Command.TheVariants as commands
use Rattle.cacache_value.specs.{Shows.{blob_bytes}, Value.{value_of_tree}}
use Rattle.cacache_laws.specs.{Caches.{LacksKey, lies_under, IsExcused}, Beside.{found_under, StaysKnown}}

-- ---- what they leave

-- a command that changes nothing in the store: a lookup, a read, a question or a listing
abbrev pub OnlyLooks : Command → Type 0
OnlyLooks = KeepsTo looking_on

-- the cache holds what it held
abbrev pub HoldsSame : List ℕ → List LogItem → List LogItem → Type 0
HoldsSame cache old new =
    value_of_tree (home_of cache) (tree_of new) ≡ value_of_tree (home_of cache) (tree_of old)

-- what was known still holds if the cache holds what it held
abbrev pub SameStaysKnown : Type 0
SameStaysKnown =
    (cache : List ℕ) (old new : List LogItem) → HoldsSame cache old new → StaysKnown cache old new

-- ---- what they answer

-- this was found, unless a step failed or memory was refused
abbrev pub GivesFound : Option Found → Reply → List LogItem → List LogItem → Type 0
GivesFound there (LookedUp found) old new = found ≡ there
GivesFound there (Refused e) old new = IsExcused e old new
GivesFound there r old new = ⊥

-- ---- what reads answer

-- the bytes that lie under the integrity or at the end of a link there, or why there are none
abbrev pub bytes_under : List ℕ → List Hash → List LogItem → Result (List ℕ) Fault
bytes_under cache i log = blob_bytes (tree_of log) (lies_under cache i log)

-- bytes lie there that don't meet the integrity, as the fault says
abbrev pub IsDamaged : List ℕ → List Hash → IntegrityFault → List LogItem → Type 0
IsDamaged cache i fault log =
    (bytes : List ℕ) × (bytes_under cache i log ≡ Ok bytes) × (Meets i bytes → ⊥)
    × (fault ≡ Check i (actual i bytes))

-- the bytes that lie there and meet the integrity, or that the bytes there don't meet it. Any other
-- error is excused, even that nothing lies there, since the step that reads it fails
abbrev pub GivesHeld : List ℕ → List Hash → Reply → List LogItem → List LogItem → Type 0
GivesHeld cache i (Read bytes) old new = (bytes_under cache i old ≡ Ok bytes) × Meets i bytes
GivesHeld cache i (Refused (IntegrityError fault)) old new = IsDamaged cache i fault old
GivesHeld cache i (Refused (IoError fault message)) old new =
    IsExcused (IoError fault message) old new
GivesHeld cache i (Refused OutOfMemory) old new = Unit {0}
GivesHeld cache i r old new = ⊥

-- what a read gives of the integrity that the key leads to
abbrev pub GivesLed : List ℕ → List ℕ → Reply → List LogItem → List LogItem → Type 0
GivesLed cache key r old new =
    (found : Found) × (found_under cache key old ≡ Some found)
    × GivesHeld cache found.integrity r old new

-- that, or that the key leads to nothing
abbrev pub GivesOfKey : List ℕ → List ℕ → Reply → List LogItem → List LogItem → Type 0
GivesOfKey cache key (Refused (EntryNotFound c k)) old new =
    (c ≡ cache) × (k ≡ key) × LacksKey cache key old
GivesOfKey cache key (Refused (IoError fault message)) old new =
    IsExcused (IoError fault message) old new
GivesOfKey cache key (Refused OutOfMemory) old new = Unit {0}
GivesOfKey cache key r old new = GivesLed cache key r old new

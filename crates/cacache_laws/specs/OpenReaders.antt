-- What an open reader does on a store in memory, in the words of its user.
use Rattle.std.specs.Prelude.{◌≡◌, ◌⊎◌, ℕ, List, Option, None, Some, Result, Ok, Err, length}
use Rattle.cacache_core.specs.declared.{errors.Error.{Error, TheVariants.{EntryNotFound}}, integrity.digest.Hash.{Hash}}
use Rattle.cacache_store.specs.declared.store.answer.Answer.TheVariants as answers
use Rattle.cacache_store.specs.declared.store.{log.LogItem.{LogItem}, plain.PlainFile.{PlainFile}}
use Rattle.cacache_store.specs.declared.store.step.Step.TheVariants as steps
use Rattle.cacache_disk.specs.Replay.{IsLog}
use Rattle.cacache_entry.specs.Bucket.{Found}
use Rattle.cacache_calls.specs.declared.command.Command.TheVariants as commands
use Rattle.cacache_calls.specs.{declared.reply.Reply.{Reply, TheVariants.{LookedUp, Refused}}, Steps.{content_path}, Runs.{Ran, without_message}, Table.{opening}, SingleSteps.{Does, FailsAt}}
use Rattle.cacache_laws.specs.{Caches.{IsCache, HasContent, HasKey, LacksKey, IsExcused}, OpenWriters.{LeavesKnownCache}}

-- ---- an opening

module _ (cache : List ℕ) where
  -- the content of an integrity was opened, or an error says why not
  abbrev pub OpensContent :
      List Hash → Result PlainFile Error → Option (List LogItem) → Option (List LogItem) → Type 0
  OpensContent i (Ok file) old new =
      Does (steps.Open (content_path cache i)) (answers.File file) old new
  OpensContent i (Err e) old new = FailsAt (steps.Open (content_path cache i)) e old new

  module _ (base key : List ℕ) where
    -- a lookup of the key gave this reply
    abbrev pub LookupRan : Reply → Option (List LogItem) → Option (List LogItem) → Type 0
    LookupRan r old new =
        Ran
        (opening (record { cache = cache; base = base; number = 0 }) (commands.Find key)) r old new

    -- it found an integrity, and then its content was to be opened
    abbrev pub OpensWhatWasFound :
        Result PlainFile Error → Option (List LogItem) → Option (List LogItem) → Type 0
    OpensWhatWasFound r old new =
        (found : Found) × (mid : Option (List LogItem)) × LookupRan (LookedUp (Some found)) old mid
        × OpensContent found.integrity r mid new

    -- the content that the key leads to was opened, or an error says why not
    abbrev pub OpensByKey :
        Result PlainFile Error → Option (List LogItem) → Option (List LogItem) → Type 0
    OpensByKey (Ok file) old new = OpensWhatWasFound (Ok file) old new
    OpensByKey (Err (EntryNotFound c k)) old new =
        (c ≡ cache) × (k ≡ key) × LookupRan (LookedUp None) old new
    OpensByKey (Err e) old new =
        LookupRan (Refused (without_message e)) old new ⊎ OpensWhatWasFound (Err e) old new

-- ---- what it does

-- the file has exactly these bytes to give; an error is excused
abbrev pub GivesFile : List ℕ → Result PlainFile Error → List LogItem → List LogItem → Type 0
GivesFile bytes (Ok file) old new = (file.bytes ≡ Some bytes) × (file.left ≡ length bytes)
GivesFile bytes (Err e) old new = IsExcused e old new

-- a reader by integrity has exactly the bytes to give that lie under it
abbrev pub ReadersOpen : Type 0
ReadersOpen =
    (cache : List ℕ) (i : List Hash) (r : Result PlainFile Error) (old new : List LogItem)
    → IsCache cache old → OpensContent cache i r (Some old) (Some new) → IsLog new
    → LeavesKnownCache cache old new
    × ((bytes : List ℕ) → HasContent cache i bytes old → GivesFile bytes r old new)

-- a key that leads to nothing has no reader
abbrev pub GivesNone :
    List ℕ → List ℕ → Result PlainFile Error → List LogItem → List LogItem → Type 0
GivesNone cache key (Ok file) old new = ⊥
GivesNone cache key (Err e) old new = (e ≡ EntryNotFound cache key) ⊎ IsExcused e old new

-- a reader by key has exactly the bytes to give that the key leads to
abbrev pub ReadersOpenKey : Type 0
ReadersOpenKey =
    (cache base key : List ℕ) (r : Result PlainFile Error) (old new : List LogItem)
    → IsCache cache old → OpensByKey cache base key r (Some old) (Some new) → IsLog new
    → LeavesKnownCache cache old new
    × ((i : List Hash) (bytes : List ℕ)
    → HasKey cache key i bytes old → GivesFile bytes r old new)
    × (LacksKey cache key old → GivesNone cache key r old new)

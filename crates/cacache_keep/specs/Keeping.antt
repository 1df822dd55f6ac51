-- What a verification and a collection do, over any store.
use Rattle.std.specs.Prelude.{◌≡◌, ◌⊎◌, ◌+◌, ℕ, List, Option, length, map}
use Rattle.cacache_core.specs.declared.{errors.Error.{Error}, integrity.digest.Hash.{Hash}}
use Rattle.cacache_store.specs.declared.store.log.LogItem.{LogItem}
use Rattle.cacache_entry.specs.Bucket.{Found}
use Rattle.cacache_calls.specs.State.{Site}
use Rattle.cacache_walks.specs.Listing.{IsByBytes, IsByHash, ListsContents, StopsListing}
use Rattle.cacache_keep.specs.{declared.checking.OddLines.{OddLines}, Checking.{Allows, RefusesOdd, odd_in}, Calls.{AreUnused, AsksEach, ListsEntries, MadeCalls, StopsReading, StopsRemoving, removal}, Reading.{ReadsEach, StopsEach}}

-- The contents are listed, each is read in pieces, the index is listed, and each entry is asked
-- whether its content is there.
pub record VerifiesCache
    (site : Site) (good : ℕ) (damaged : List (List Hash)) (dangling : List Found)
    (strange : List (List ℕ)) (old new : Option (List LogItem)) : Type 0 where
  pub addresses : List (List Hash)
  pub order : IsByHash addresses
  pub strange_order : IsByBytes strange
  pub found : Option (List LogItem)
  pub contents : ListsContents site.cache addresses strange old found
  pub read : Option (List LogItem)
  pub reading : ReadsEach site.cache addresses good damaged found read
  pub entries : List Found
  pub listed : Option (List LogItem)
  pub listing : ListsEntries site entries read listed
  pub asking : AsksEach site entries dangling listed new

-- the contents and the index are listed, and these are the addresses that no entry has
pub record Chooses
    (site : Site) (kept : ℕ) (dropped : List (List Hash))
    (old new : Option (List LogItem)) : Type 0 where
  pub addresses : List (List Hash)
  pub order : IsByHash addresses
  pub strange : List (List ℕ)
  pub found : Option (List LogItem)
  pub contents : ListsContents site.cache addresses strange old found
  pub entries : List Found
  pub listing : ListsEntries site entries found new
  pub unused : AreUnused entries addresses dropped
  pub counts : kept + length dropped ≡ length addresses

-- and these are the buckets with odd lines that the listing of the index read
abbrev pub ChoosesAs : Site → ℕ → List (List Hash) → List (List ℕ)
    → Option (List LogItem) → Option (List LogItem) → Type 0
ChoosesAs site kept dropped odd old new =
    (c : Chooses site kept dropped old new) × (odd ≡ odd_in c.listing.2.0)

-- each address that is chosen is removed
abbrev pub CollectsFrom : Site → ℕ → List (List Hash)
    → Option (List LogItem) → Option (List LogItem) → Type 0
CollectsFrom site kept dropped old new =
    (chosen : Option (List LogItem)) × Chooses site kept dropped old chosen
    × MadeCalls site (map removal dropped) chosen new

-- so it is, and the listing of the index read no odd line, if these are refused
abbrev pub CollectsWith : OddLines → Site → ℕ → List (List Hash)
    → Option (List LogItem) → Option (List LogItem) → Type 0
CollectsWith choice site kept dropped old new =
    (it : CollectsFrom site kept dropped old new) × Allows choice (odd_in it.1.listing.2.0)

-- with one choice about them or the other
abbrev pub Collects : Site → ℕ → List (List Hash)
    → Option (List LogItem) → Option (List LogItem) → Type 0
Collects site kept dropped old new =
    (choice : OddLines) × CollectsWith choice site kept dropped old new

-- ---- errors

-- the contents were read, and the error ended calls after them that read and change nothing
abbrev pub StopsAfterReads :
    Site → List (List Hash) → Error → Option (List LogItem) → Option (List LogItem) → Type 0
StopsAfterReads site addresses e old new =
    (good : ℕ) × (damaged : List (List Hash)) × (read : Option (List LogItem))
    × ReadsEach site.cache addresses good damaged old read × StopsReading site e read new

-- the error ended the listing of the contents, the reading of one, or the calls after it
abbrev pub StopsVerifying :
    Site → Error → Option (List LogItem) → Option (List LogItem) → Type 0
StopsVerifying site e old new =
    StopsListing site.cache e old new
    ⊎ ((addresses : List (List Hash)) × (strange : List (List ℕ))
    × (found : Option (List LogItem)) × ListsContents site.cache addresses strange old found
    × (StopsEach site.cache addresses e found new ⊎ StopsAfterReads site addresses e found new))

-- the error ended the listing of the contents, or calls after it that read and change nothing
abbrev pub StopsEarly : Site → Error → Option (List LogItem) → Option (List LogItem) → Type 0
StopsEarly site e old new =
    StopsListing site.cache e old new
    ⊎ ((addresses : List (List Hash)) × (strange : List (List ℕ))
    × (found : Option (List LogItem)) × ListsContents site.cache addresses strange old found
    × StopsReading site e found new)

-- odd lines in these buckets are refused before anything is removed; or the error ended the removals
abbrev pub StopsRemovals : OddLines → Site → List (List ℕ) → List (List Hash) → Error
    → Option (List LogItem) → Option (List LogItem) → Type 0
StopsRemovals choice site odd dropped e old new =
    (RefusesOdd choice odd e × (new ≡ old))
    ⊎ (Allows choice odd × StopsRemoving site dropped e old new)

-- the error ended the choice, or what came after it
abbrev pub StopsCollecting :
    OddLines → Site → Error → Option (List LogItem) → Option (List LogItem) → Type 0
StopsCollecting choice site e old new =
    StopsEarly site e old new
    ⊎ ((kept : ℕ) × (dropped : List (List Hash)) × (chosen : Option (List LogItem))
    × (c : Chooses site kept dropped old chosen)
    × StopsRemovals choice site (odd_in c.listing.2.0) dropped e chosen new)

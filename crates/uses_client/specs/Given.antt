-- What calls give of what lies in a cache, and what lies there then.
use Rattle.std.specs.{Prelude.{◌≡◌, ◌⊎◌, ◌<◌, ◌^◌, ℕ, List, [], Option, Some, None, IfOk, IfErr, MatchResult, Result, Ok, Err, Vec, length, option_map}, Global.{Global}}
use Rattle.cacache.specs.{Calls.{Error, without_message}, Entries.{Metadata, found_view}, Integrities.{Hash, Meets, Sha256, integrity_under}, Laws.{DontClash, EntryNotFound, FailsFor, FailsForMemory, Fault, GivesJust, HasContent, HasKey, IntegrityError, IntegrityFault, IoError, IsDamaged, IsExcused, LacksKey, LeadsOn, LinksBytes, LinksToFile, NamesFolder, NotFound, OutOfMemory, bytes_under, found_under, leads_to, lies_under, shown, tree_of}, Stores.{LogItem}}

-- ---- what is given

-- the bytes that the key leads to are given
abbrev pub GivesKey :
    List ℕ → List ℕ → Result (Vec ℕ Global) Error → List LogItem → List LogItem → Type 0
GivesKey cache key result old new =
    (i : List Hash) (bytes : List ℕ)
    → HasKey cache key i bytes old
    → GivesJust bytes result old new

-- the bytes under the integrity are given
abbrev pub GivesContent :
    List ℕ → List Hash → Result (Vec ℕ Global) Error → List LogItem → List LogItem → Type 0
GivesContent cache i result old new =
    (bytes : List ℕ) → HasContent cache i bytes old → GivesJust bytes result old new

-- of a link those that its target shows
abbrev pub GivesLinked :
    List ℕ → List ℕ → Result (Vec ℕ Global) Error → List LogItem → Type 0
GivesLinked cache key result old =
    (i : List Hash) (target held : List ℕ)
    → leads_to cache key old ≡ Some i → LinksToFile cache i target held old
    → IfOk result (λ v. v.items ≡ held)

-- if the cache's path names a folder, only memory fails the read of bytes that the key leads to
abbrev pub KeyFailsForMemory :
    List ℕ → List ℕ → Result (Vec ℕ Global) Error → List LogItem → Type 0
KeyFailsForMemory cache key result log =
    (i : List Hash) (bytes : List ℕ) → NamesFolder cache
    → HasKey cache key i bytes log → FailsForMemory result

-- so it does of those under the integrity
abbrev pub ContentFailsForMemory :
    List ℕ → List Hash → Result (Vec ℕ Global) Error → List LogItem → Type 0
ContentFailsForMemory cache i result log =
    (bytes : List ℕ) → NamesFolder cache → HasContent cache i bytes log → FailsForMemory result

-- there is no entry of a key that leads to nothing, or memory was refused
abbrev pub MissesKey : List ℕ → List ℕ → Result (Vec ℕ Global) Error → List LogItem → Type 0
MissesKey cache key result log =
    NamesFolder cache → LacksKey cache key log
    → IfErr result (λ e. (e ≡ EntryNotFound cache key) ⊎ (e ≡ OutOfMemory))

-- what was found is the entry that the key leads to, if any
abbrev pub Describes : List ℕ → List ℕ → List LogItem → Option Metadata → Type 0
Describes cache key log found = option_map found_view found ≡ found_under cache key log

-- the bytes that the file showed and shows are given, if nothing lay under their integrity
abbrev pub MirrorsFile :
    {A : Type 0} → List ℕ → List ℕ → Result (Vec ℕ A) Error
    → List LogItem → List LogItem → Type 0
MirrorsFile cache file result old new =
    (held : List ℕ)
    → shown (tree_of old) file ≡ Some held
    → shown (tree_of new) file ≡ Some held
    → lies_under cache (integrity_under Sha256 held) old ≡ None
    → IfOk result (λ v. v.items ≡ held)

-- the bytes that the key leads to arrive at the path, and are counted
abbrev pub ArrivesAt :
    List ℕ → List ℕ → List ℕ → Result ℕ Error → List LogItem → List LogItem → Type 0
ArrivesAt cache key to result old new =
    (i : List Hash) (bytes : List ℕ)
    → HasKey cache key i bytes old
    → MatchResult result
    (λ count. (shown (tree_of new) to ≡ Some bytes) × (count ≡ length bytes))
    (λ e. IsExcused e old new)

-- of a link those that its target shows
abbrev pub ArrivesLinked :
    List ℕ → List ℕ → List ℕ → Result ℕ Error → List LogItem → List LogItem → Type 0
ArrivesLinked cache key to result old new =
    (i : List Hash) (target held : List ℕ)
    → leads_to cache key old ≡ Some i → LinksToFile cache i target held old
    → IfOk result (λ count. (shown (tree_of new) to ≡ Some held) × (count ≡ length held))

-- bytes with the digest of those that the file showed arrive at the path, and are counted
abbrev pub CopiesFile : List ℕ → List ℕ → Result ℕ Error → List LogItem → List LogItem → Type 0
CopiesFile file to result old new =
    (held : List ℕ)
    → shown (tree_of old) file ≡ Some held
    → IfOk result (λ count. (bytes : List ℕ) × Meets (integrity_under Sha256 held) bytes
    × (shown (tree_of new) to ≡ Some bytes) × (count ≡ length bytes))

-- a package with bytes that are damaged or missing isn't exported: the error says so, or that memory was refused
abbrev pub RefusesBroken : List ℕ → List ℕ → Result ℕ Error → List LogItem → Type 0
RefusesBroken cache key result old =
    (i : List Hash)
    → leads_to cache key old ≡ Some i
    → ((fault : IntegrityFault)
    → IsDamaged cache i fault old → FailsFor (IntegrityError fault) result)
    × (lies_under cache i old ≡ None → FailsFor (IoError NotFound []) result)

-- if the file shows bytes, the key leads to their integrity, and the link lies there unless something did
abbrev pub LinksHeld :
    List ℕ → List ℕ → List ℕ → Result (List Hash) Error → List LogItem → List LogItem → Type 0
LinksHeld cache key file result old new =
    (held : List ℕ)
    → shown (tree_of old) file ≡ Some held → LinksBytes cache (Some key) file held result old new

-- only memory fails the link of a file that shows bytes, if no link that leads nowhere lies there
abbrev pub LinksShown : List ℕ → List ℕ → Result (List Hash) Error → List LogItem → Type 0
LinksShown cache file result old =
    (held : List ℕ) → NamesFolder cache
    → shown (tree_of old) file ≡ Some held
    → length held < 2 ^ 64
    → LeadsOn cache (integrity_under Sha256 held) old
    → FailsForMemory result

-- bytes lie under the integrity, whole or damaged; or the error says why there are none
abbrev pub TellsWhetherOpen : List ℕ → List Hash → Result (Unit {0}) Error → List LogItem → Type 0
TellsWhetherOpen cache i result log =
    MatchResult result
    (λ u. (bytes : List ℕ) × (bytes_under cache i log ≡ Ok bytes))
    (λ e. (e ≡ OutOfMemory)
    ⊎ ((fault : Fault) × (bytes_under cache i log ≡ Err fault)
    × (without_message e ≡ IoError fault [])))

-- ---- what lies there

-- the bytes lie under their integrity, if nothing did
abbrev pub LiesIfFree : List ℕ → List ℕ → List LogItem → List LogItem → Type 0
LiesIfFree cache bytes old new =
    lies_under cache (integrity_under Sha256 bytes) old ≡ None
    → HasContent cache (integrity_under Sha256 bytes) bytes new

-- what the key led to still lies there, if it doesn't clash with these bytes
abbrev pub KeepsOlder : List ℕ → List ℕ → List ℕ → List LogItem → List LogItem → Type 0
KeepsOlder cache key later old new =
    (i : List Hash) (bytes : List ℕ)
    → HasKey cache key i bytes old
    → DontClash i bytes (integrity_under Sha256 later) later
    → HasContent cache i bytes new

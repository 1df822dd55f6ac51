-- What is said about a package, and what an audit says about the entries of a cache.
use Rattle.std.specs.Prelude.{◌≡◌, ◌⊎◌, ℕ, List, [], ◌∷◌, Some, All, Bool, true, false, map}
use Rattle.cacache.specs.{Calls.{Error, Said, nothing_said, without_message}, Integrities.{Algorithm, Hash, Sha256}, Laws.{Data, FailsCommit, IoError, NotFound, OutOfMemory, TooDeep, LiesWhole, NamesFolder}, Entries.{Found}, Stores.{LogItem}}
use Rattle.uses_client.specs.declared.auditing.Verdict.{Verdict}

-- its metadata, and how many bytes it has
abbrev pub package_said : Data → ℕ → Said
package_said about size = record nothing_said { metadata = about; size = Some size }

-- the integrity and the size that its bytes are to have
abbrev pub expected_said : Algorithm → ℕ → List Hash → Said
expected_said a size expected =
    record nothing_said { algorithm = a; size = Some size; integrity = Some expected }

-- the strongest algorithm of an integrity, which has one or more hashes
abbrev pub algorithm_for : List Hash → Algorithm
algorithm_for [] = Sha256
algorithm_for (h ∷ hs) = h.algorithm

-- under that algorithm
abbrev pub said_of : List Hash → ℕ → Said
said_of expected size = expected_said (algorithm_for expected) size expected

-- ---- errors

-- memory was refused, or a write to the file failed
abbrev pub FailsWrite : Error → Type 0
FailsWrite OutOfMemory = Unit {0}
FailsWrite (IoError fault message) = Unit {0}
FailsWrite e = ⊥

-- so it is, or the bytes aren't as they were said to be, or the entry can't be written
abbrev pub FailsStoring : Said → List ℕ → Error → Type 0
FailsStoring s bytes e = FailsWrite e ⊎ FailsCommit s bytes e

-- memory was refused, or the cache's folder is missing or has too many names
abbrev pub FailsClear : Error → Type 0
FailsClear e =
    (e ≡ OutOfMemory) ⊎ (without_message e ≡ IoError TooDeep [])
    ⊎ (without_message e ≡ IoError NotFound [])

-- ---- what an audit says about the entries of a cache

-- a yes says that whole bytes lie there, a no that none do
abbrev pub IsRight : List ℕ → List Hash → List LogItem → Bool → Type 0
IsRight cache i log true = (bytes : List ℕ) × LiesWhole cache i log bytes
IsRight cache i log false =
    NamesFolder cache → (bytes : List ℕ) → LiesWhole cache i log bytes → ⊥

-- the entries of verdicts
abbrev pub entries_in : List Verdict → List Found
entries_in verdicts = map (λ (v : Verdict). v.entry) verdicts

-- each verdict is right
abbrev pub AreRight : List ℕ → List LogItem → List Verdict → Type 0
AreRight cache log verdicts =
    All (λ (v : Verdict). IsRight cache v.entry.integrity log v.whole) verdicts

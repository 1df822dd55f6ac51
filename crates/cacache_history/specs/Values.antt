-- What the cache holds at each place of a history.
use Rattle.std.specs.Prelude.{◌≡◌, ℕ, List, [], ◌∷◌, ◌++◌, None, Some, Option, false}
use Rattle.cacache_core.specs.{declared.integrity.{algorithm.Algorithm.{Algorithm}, digest.Hash.{Hash}}, Integrity.{digest, IsHash, IsIntegrity, Meets, hash_of, integrity_under}, Paths.{Names, content_names}}
use Rattle.cacache_entry.specs.Entry.{Entry}
use Rattle.cacache_value.specs.{Value.{Blob, InFile, Value, empty_value, wide_value, cache_part, value_of_tree}, Kinds.{is_path_of}, Acts.{Act, Drop, act_of, list_of, Move, acts}, ValueLaws.{KeepBucket, IsLonger}}
use Rattle.cacache_history.specs.{declared.record.Record.{Record, TheVariants.{Began, Moved, Stopped}}, Setup.{home}, History.{History, initial, now_at}}

-- the steps of these records, of all callers
abbrev pub steps_of : List Record → List Move
steps_of [] = []
steps_of (Began caller command ∷ records) = steps_of records
steps_of (Moved caller luck None reply ∷ records) = steps_of records
steps_of (Moved caller luck (Some made) reply ∷ records) =
    record { step = made.0; luck = luck; answer = made.1 } ∷ steps_of records
steps_of (Stopped caller ∷ records) = steps_of records

-- what the cache holds after the first records
abbrev pub value_at : History → List Record → Value
value_at h before = value_of_tree (home h.setup) (now_at h before).tree

-- what the tree held before any record, with all of its folders
abbrev pub opening_value : History → Value
opening_value h = wide_value (home h.setup) (initial h.setup).tree

-- the acts of these records, one after another
abbrev pub acted : History → List Record → Value
acted h before = acts (home h.setup) (opening_value h) (steps_of before)

-- the cache begins with nothing, and at each place holds what the acts before it made
pub record ValueFollowsActs (h : History) : Type 0 where
  pub nothing : value_at h [] ≡ empty_value
  pub acts :
      (before later : List Record) → h.records ≡ before ++ later
      → value_at h before ≡ cache_part (home h.setup) (acted h before)

-- the entries of a SHA-1's bucket after the first records
abbrev pub bucket_at : History → List Record → List ℕ → List Entry
bucket_at h before digest = list_of ((value_at h before).buckets digest)

-- while a bucket's file isn't removed, entries come after those that were there, and none goes
abbrev pub BucketsOnlyGrow : History → Type 0
BucketsOnlyGrow h =
    (before more later : List Record) (digest : List ℕ) → h.records ≡ before ++ (more ++ later)
    → KeepBucket (home h.setup) digest (steps_of more)
    → IsLonger (bucket_at h before digest) (bucket_at h (before ++ more) digest)

-- ---- contents

-- an act that doesn't remove the content at an address
abbrev pub KeepsContent : Option Names → Hash → Act → Type 0
KeepsContent folder address (Drop path) = is_path_of folder (content_names address) path ≡ false
KeepsContent folder address other = Unit {0}

-- steps with acts that don't remove it
abbrev pub KeepContent : Option Names → Hash → List Move → Type 0
KeepContent folder address [] = Unit {0}
KeepContent folder address (m ∷ moves) =
    KeepsContent folder address (act_of m.step m.luck m.answer) × KeepContent folder address moves

-- a content is there
abbrev pub IsThere : Option Blob → Type 0
IsThere None = ⊥
IsThere (Some blob) = Unit {0}

-- a content stays while it isn't removed; another one may take its place
abbrev pub ContentsStay : History → Type 0
ContentsStay h =
    (before more later : List Record) (address : Hash) → h.records ≡ before ++ (more ++ later)
    → KeepContent (home h.setup) address (steps_of more)
    → IsThere ((value_at h before).contents address)
    → IsThere ((value_at h (before ++ more)).contents address)

-- ---- digests

-- the bytes have the digest of the address, under its algorithm
abbrev pub HasDigest : Hash → List ℕ → Type 0
HasDigest h bytes = h ≡ hash_of h.algorithm (digest h.algorithm bytes)

-- each content that is bytes has the digest of its address
abbrev pub AreRight : (Hash → Option Blob) → Type 0
AreRight contents =
    (h : Hash) → IsHash h → (bytes : List ℕ) → contents h ≡ Some (InFile bytes) → HasDigest h bytes

-- ---- integrities of digests

-- the digest of bytes under an algorithm makes an integrity
abbrev pub DigestsMakeIntegrities : Type 0
DigestsMakeIntegrities = (a : Algorithm) (bytes : List ℕ) → IsIntegrity (integrity_under a bytes)

-- bytes that meet such an integrity have the same digest
abbrev pub MetDigestsAreSame : Type 0
MetDigestsAreSame =
    (a : Algorithm) (bytes others : List ℕ) → Meets (integrity_under a bytes) others
    → digest a others ≡ digest a bytes

-- ---- contents at each place

-- at each place contents have their digests, except links, since their targets are somebody else's
abbrev pub ContentsAreRight : History → Type 0
ContentsAreRight h =
    (before later : List Record) → h.records ≡ before ++ later
    → AreRight (value_at h before).contents

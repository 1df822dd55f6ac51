-- What open writers did, by their results, on a store in memory.
use Rattle.std.specs.{Prelude.{◌≡◌, ◌⊎◌, ◌<◌, ◌^◌, ◌++◌, ℕ, List, [], Option, None, Some, Result, IfOk, IfErr, IfSome, OnOk, IsUtf8, length}, Io.KnownBytes.{Appends}}
use Rattle.serde_json.specs.Data.{null}
use Rattle.cacache_core.specs.{declared.{errors.{Error.{Error, TheVariants.{SizeMismatch, SerdeError, IntegrityError, OutOfMemory}}, IntegrityFault.TheVariants.{Check}}, integrity.digest.Hash.{Hash}}, Integrity.{digest, HasDigest, IsIntegrity, integrity_under}, Hashers.{algorithm_of}}
use Rattle.cacache_store.specs.declared.{env.Env.{Env}, store.{log.LogItem.{LogItem}, plain.PlainTemp.{PlainTemp}}}
use Rattle.cacache_entry.specs.{FittingEntries.{AreBytes, IsJson}, Bucket.{Found}}
use Rattle.cacache_calls.specs.{declared.reply.Reply.TheVariants.{Stored}, Promises.{answered}, Runs.{reply_of}, Steps.{temp_path}}
use Rattle.cacache_history.specs.Values.{IsThere}
use Rattle.cacache_sync.specs.{content.OpenWrites.{HasTaken, IsSameWriter, RemovesTemp, Takes, TriesToRemove}, declared.put.writer.SyncWriter.{SyncWriter}, put.KeyedWriters.{CommitsWriter, OpensKeyed, Said, options_of}}
use Rattle.cacache_laws.specs.{Caches.{IsCache, HasContent, IsExcused, Grows, lies_under}, Beside.{found_under}, OpenWriters.{IsOpened, LeavesKnownCache}, OpenSucceeds.{FileAt}, Succeeds.{NamesFolder, IsReady}, results.{Success.{FailsForMemory}, Writes.{KeepsUntouched, SaysPlain}}}

-- a writer of a store in memory
abbrev pub MemWriter : Type 0
MemWriter = SyncWriter PlainTemp

-- a writer of this cache, under this key, if any, with so much said, that took these bytes
pub record IsWriting (cache : List ℕ) (key : Option (List ℕ)) (s : Said) (bytes : List ℕ)
    (w : MemWriter) : Type 0 where
  pub number : ℕ
  pub opened : IsOpened cache number
  pub here : w.writer.cache ≡ cache
  pub algorithm_is : algorithm_of w.writer.hasher ≡ s.algorithm
  pub path_is : w.writer.path ≡ temp_path cache number
  pub file_is : w.writer.file.path ≡ temp_path cache number
  pub bytes_are : w.writer.file.bytes ≡ Some bytes
  pub taken : HasTaken w.writer bytes
  pub key_is : w.key ≡ key
  pub time_is : w.time ≡ s.time
  pub options_are : w.options ≡ options_of s

-- ---- an opening

-- a writer that took nothing yet, or the error is excused; all that was known stays
pub record OpenedWriter (cache : List ℕ) (key : Option (List ℕ)) (s : Said)
    (r : Result MemWriter Error) (old new : List LogItem) : Type 0 where
  pub leaves : LeavesKnownCache cache old new
  pub writer : IfOk r (λ w. IsWriting cache key s [] w)
  pub fails : IfErr r (λ e. IsExcused e old new)
  pub succeeds : IsReady cache old → FailsForMemory r
  pub stands : IsReady cache old → IfOk r (λ w. FileAt w.writer.path new)

-- ---- a commit

-- what was said of an entry can be written into one, except for what is refused
pub record SaysFit (s : Said) : Type 0 where
  pub json : IsJson s.metadata
  pub raw : AreBytes s.raw_metadata
  pub formed : IfSome s.integrity IsIntegrity

-- what is said without metadata fits
abbrev pub PlainSaysFit : Type 0
PlainSaysFit =
    (s : Said) → s.metadata ≡ null → s.raw_metadata ≡ None → IfSome s.integrity IsIntegrity
    → SaysFit s

-- if there is a key, it is a text
abbrev pub IsText : Option (List ℕ) → Type 0
IsText key = IfSome key (λ k. IsUtf8 k)

-- the integrity of the bytes, under the algorithm that was said
abbrev pub said_integrity : Said → List ℕ → List Hash
said_integrity s bytes = integrity_under s.algorithm bytes

-- an integrity lists the digest of the bytes, under the algorithm that was said
abbrev pub ListsOwn : Said → List ℕ → List Hash → Type 0
ListsOwn s bytes expected = HasDigest expected s.algorithm (digest s.algorithm bytes)

-- what was said to be expected of the bytes is so: the integrity, if any, lists their digest, and
-- the size, if any, is theirs
pub record AreAsExpected (s : Said) (bytes : List ℕ) : Type 0 where
  pub integrity : IfSome s.integrity (ListsOwn s bytes)
  pub size : IfSome s.size (λ wanted. wanted ≡ length bytes)

-- memory was refused, another integrity or size was expected, or the entry can't be written
abbrev pub FailsCommit : Said → List ℕ → Error → Type 0
FailsCommit s bytes OutOfMemory = Unit {0}
FailsCommit s bytes (IntegrityError fault) =
    (expected : List Hash) × (s.integrity ≡ Some expected)
    × (fault ≡ Check expected (said_integrity s bytes)) × (ListsOwn s bytes expected → ⊥)
FailsCommit s bytes (SizeMismatch wanted actual) =
    (s.size ≡ Some wanted) × (actual ≡ length bytes) × (wanted ≡ actual → ⊥)
FailsCommit s bytes (SerdeError cause message) = Unit {0}
FailsCommit s bytes e = ⊥

-- an entry of this integrity, of so many bytes, and of the metadata that was said
pub record IsEntryFor (s : Said) (i : List Hash) (count : ℕ) (found : Found) : Type 0 where
  pub integrity : found.integrity ≡ i
  pub size : found.size ≡ count
  pub metadata : found.metadata ≡ s.metadata
  pub raw_metadata : found.raw_metadata ≡ s.raw_metadata

-- the key leads to such an entry
abbrev pub LeadsToEntry : List ℕ → List ℕ → Said → List Hash → ℕ → List LogItem → Type 0
LeadsToEntry cache key s i count log =
    (found : Found) × (found_under cache key log ≡ Some found) × IsEntryFor s i count found

-- the key leads where it led, or to such an entry
abbrev pub MayLeadToEntry : List ℕ → List ℕ → Said → List Hash → ℕ
    → List LogItem → List LogItem → Type 0
MayLeadToEntry cache key s i count old new =
    (found_under cache key new ≡ found_under cache key old) ⊎ LeadsToEntry cache key s i count new

-- the bytes lie under the integrity; where they couldn't be moved there, what lay there stayed
abbrev pub LiesOrStayed :
    List ℕ → List Hash → List ℕ → List LogItem → List LogItem → Type 0
LiesOrStayed cache own bytes old new =
    HasContent cache own bytes new
    ⊎ (IsThere (lies_under cache own old)
    × (lies_under cache own new ≡ lies_under cache own old))

-- a commit: the key leads to an entry of what was said, the bytes are as expected and lie there, and what
-- wasn't written stays. Whatever it answers, the key leads where it led, or to that entry. If nothing
-- but a time was said, an error is excused
pub record CommittedBytes (cache : List ℕ) (key : Option (List ℕ)) (s : Said) (bytes : List ℕ)
    (r : Result (List Hash) Error) (old new : List LogItem) : Type 0 where
  pub sound : IsCache cache new
  pub grows : Grows old new
  pub stored : IfOk r (λ i. i ≡ answered (said_integrity s bytes) s.integrity key)
  pub expected : OnOk r (AreAsExpected s bytes)
  pub leads : IfOk r (λ i. (k : List ℕ) → key ≡ Some k
      → LeadsToEntry cache k s i (length bytes) new)
  pub may_lead : (k : List ℕ) → key ≡ Some k → MayLeadToEntry cache k s
      (answered (said_integrity s bytes) s.integrity key) (length bytes) old new
  pub content : IfOk r (λ i. LiesOrStayed cache (said_integrity s bytes) bytes old new)
  pub keeps : KeepsUntouched cache key (said_integrity s bytes) bytes old new
  pub fails : (k : List ℕ) → key ≡ Some k → SaysPlain s → s.integrity ≡ None
      → IfErr r (λ e. IsExcused e old new)

-- ---- laws, of the environment that a call left

-- a writer that took more of these bytes is one that took both
abbrev pub WritersGoOn : Type 0
WritersGoOn =
    (cache : List ℕ) (key : Option (List ℕ)) (s : Said) (bytes more : List ℕ) (w v : MemWriter)
    → IsWriting cache key s bytes w → Appends w.writer.file.bytes v.writer.file.bytes more
    → Takes w.writer v.writer more → IsSameWriter (λ file. file) w.writer v.writer
    → v ≡ record w { writer = v.writer }
    → IsWriting cache key s (bytes ++ more) v

module _ {C N : Type 0} where
  -- an opening, with this result, is one
  abbrev pub OpeningsMean : (N → Option (List ℕ)) → Env (List LogItem) C N → Type 0
  OpeningsMean numbers new =
      (cache : List ℕ) (key : Option (List ℕ)) (s : Said) (r : Result MemWriter Error)
      (old : Env (List LogItem) C N) → IsCache cache old.store
      → OpensKeyed (λ file. file) (λ log. Some log) numbers old new cache key s r
      → OpenedWriter cache key s r old.store new.store

  -- so is a commit
  abbrev pub CommitsMean : (C → Option (List ℕ)) → Env (List LogItem) C N → Type 0
  CommitsMean moments new =
      (cache : List ℕ) (key : Option (List ℕ)) (s : Said) (bytes : List ℕ) (w : MemWriter)
      (r : Result (List Hash) Error) (old : Env (List LogItem) C N)
      → IsCache cache old.store → IsWriting cache key s bytes w → SaysFit s → IsText key
      → length bytes < 2 ^ 64
      → CommitsWriter (λ file. file) (λ log. Some log) moments old new w bytes
      (reply_of Stored r)
      → CommittedBytes cache key s bytes r old.store new.store

  -- while its file is there, a commit that says nothing but a time fails for memory alone
  abbrev pub CommitsSucceed : (C → Option (List ℕ)) → Env (List LogItem) C N → Type 0
  CommitsSucceed moments new =
      (cache : List ℕ) (key : Option (List ℕ)) (s : Said) (bytes : List ℕ) (w : MemWriter)
      (r : Result (List Hash) Error) (old : Env (List LogItem) C N)
      → IsCache cache old.store → NamesFolder cache → FileAt w.writer.path old.store
      → IsWriting cache key s bytes w → SaysPlain s → s.integrity ≡ None → IsText key
      → length bytes < 2 ^ 64
      → CommitsWriter (λ file. file) (λ log. Some log) moments old new w bytes
      (reply_of Stored r)
      → FailsForMemory r

  -- with whatever was said, it fails for memory or for what that says
  abbrev pub CommitsTell : (C → Option (List ℕ)) → Env (List LogItem) C N → Type 0
  CommitsTell moments new =
      (cache : List ℕ) (key : Option (List ℕ)) (s : Said) (bytes : List ℕ) (w : MemWriter)
      (r : Result (List Hash) Error) (old : Env (List LogItem) C N)
      → IsCache cache old.store → NamesFolder cache → FileAt w.writer.path old.store
      → IsWriting cache key s bytes w → length bytes < 2 ^ 64
      → CommitsWriter (λ file. file) (λ log. Some log) moments old new w bytes
      (reply_of Stored r)
      → IfErr r (FailsCommit s bytes)

  -- a writer that is given up leaves all that was known: by hand, or for a write that failed
  abbrev pub GivingUpMeans : Env (List LogItem) C N → Type 0
  GivingUpMeans new =
      (cache : List ℕ) (key : Option (List ℕ)) (s : Said) (bytes : List ℕ) (w : MemWriter)
      (r : Result (Unit {0}) Error) (old : Env (List LogItem) C N)
      → IsCache cache old.store → IsWriting cache key s bytes w
      → RemovesTemp w.writer.path r (Some old.store) (Some new.store)
      → LeavesKnownCache cache old.store new.store

  -- so does one whose write failed
  abbrev pub FailedWritesMean : Env (List LogItem) C N → Type 0
  FailedWritesMean new =
      (cache : List ℕ) (key : Option (List ℕ)) (s : Said) (bytes : List ℕ) (w : MemWriter)
      (e : Error) (old : Env (List LogItem) C N)
      → IsCache cache old.store → IsWriting cache key s bytes w
      → TriesToRemove w.writer.path e (Some old.store) (Some new.store)
      → LeavesKnownCache cache old.store new.store

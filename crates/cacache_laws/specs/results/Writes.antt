-- What calls that store or insert gave their caller and left, by their results, on a store in memory.
use Rattle.std.specs.Prelude.{◌≡◌, ◌⊎◌, ◌<◌, ◌^◌, ℕ, List, Option, None, Some, Result, IfOk, IfErr, IfSome}
use Rattle.serde_json.specs.Data.{null}
use Rattle.cacache_core.specs.{declared.{errors.Error.{Error}, integrity.{algorithm.Algorithm.{Algorithm}, digest.Hash.{Hash}}}, Integrity.{IsIntegrity, integrity_under}}
use Rattle.cacache_store.specs.declared.{env.Env.{Env}, store.log.LogItem.{LogItem}}
use Rattle.cacache_calls.specs.declared.command.Command.TheVariants as commands
use Rattle.cacache_calls.specs.{declared.reply.Reply.TheVariants.{Stored}, Runs.{reply_of}}
use Rattle.cacache_jobs.specs.Environment.{RunsNumbered, RunsPut, RunsTimed}
use Rattle.cacache_sync.specs.put.KeyedWriters.{Said, keyed_put, unkeyed_put, insert_of}
use Rattle.cacache_laws.specs.{Beside.{IsOther, ShareAddress, found_under, KeepsOthers}, Caches.{IsCache, HasContent, HasKey, IsExcused, Grows}, Inserts.{leads_to}, Succeeds.{NamesFolder, IsReady}, results.Success.{FailsForMemory}}

-- ---- what stays

-- bytes under an integrity don't give way to added ones: if both have one address, they are the same
abbrev pub DontClash : List Hash → List ℕ → List Hash → List ℕ → Type 0
DontClash i bytes own added = ShareAddress i own → bytes ≡ added

-- what wasn't written stays: other keys lead where they led, and all bytes stay that don't clash
pub record KeepsUntouched (cache : List ℕ) (written : Option (List ℕ)) (own : List Hash)
    (added : List ℕ) (old new : List LogItem) : Type 0 where
  pub finds : (other : List ℕ) → IsOther written other
      → found_under cache other new ≡ found_under cache other old
  pub content : (i : List Hash) (bytes : List ℕ) → DontClash i bytes own added
      → HasContent cache i bytes old → HasContent cache i bytes new
  pub key : (other bytes : List ℕ) (i : List Hash) → IsOther written other
      → DontClash i bytes own added
      → HasKey cache other i bytes old → HasKey cache other i bytes new

-- ---- writes

-- a write under a key: the key leads to the bytes, or the error is excused, and what wasn't written
-- stays. On a cache that is ready only memory fails it, and it leaves it ready
pub record KeyWritten (a : Algorithm) (cache key bytes : List ℕ) (r : Result (List Hash) Error)
    (old new : List LogItem) : Type 0 where
  pub sound : IsCache cache new
  pub grows : Grows old new
  pub stored : IfOk r (λ i. (i ≡ integrity_under a bytes) × HasKey cache key i bytes new)
  pub leads : (found_under cache key new ≡ found_under cache key old)
      ⊎ (leads_to cache key new ≡ Some (integrity_under a bytes))
  pub keeps : KeepsUntouched cache (Some key) (integrity_under a bytes) bytes old new
  pub fails : IfErr r (λ e. IsExcused e old new)
  pub succeeds : IsReady cache old → FailsForMemory r
  pub ready : IsReady cache old → IfOk r (λ i. IsReady cache new)

-- a write without a key: the bytes lie under their integrity, or the error is excused
pub record ContentWritten (a : Algorithm) (cache bytes : List ℕ) (r : Result (List Hash) Error)
    (old new : List LogItem) : Type 0 where
  pub sound : IsCache cache new
  pub grows : Grows old new
  pub stored : IfOk r (λ i. (i ≡ integrity_under a bytes) × HasContent cache i bytes new)
  pub keeps : KeepsUntouched cache None (integrity_under a bytes) bytes old new
  pub fails : IfErr r (λ e. IsExcused e old new)
  pub succeeds : IsReady cache old → FailsForMemory r
  pub ready : IsReady cache old → IfOk r (λ i. IsReady cache new)

-- nothing was said of an entry but its integrity and its time
pub record SaysPlain (s : Said) : Type 0 where
  pub size : s.size ≡ None
  pub metadata : s.metadata ≡ null
  pub raw_metadata : s.raw_metadata ≡ None
  pub early : (time : ℕ) → s.time ≡ Some time → time < 2 ^ 64
  pub formed : IfSome s.integrity IsIntegrity

-- an insertion: the key leads to its integrity, or to nothing without one, and all else stays
pub record KeyInserted (cache key : List ℕ) (integrity : Option (List Hash))
    (r : Result (List Hash) Error) (old new : List LogItem) : Type 0 where
  pub sound : IsCache cache new
  pub grows : Grows old new
  pub leads : IfOk r (λ i. leads_to cache key new ≡ integrity)
  pub others : KeepsOthers cache key old new
  pub fails : IfErr r (λ e. IsExcused e old new)
  pub succeeds : NamesFolder cache → FailsForMemory r
  pub ready : IsReady cache old → IsReady cache new

-- ---- laws, of the environment that a call left

module _ {C N : Type 0} (moments : C → Option (List ℕ)) (numbers : N → Option (List ℕ)) where
  -- a write under a key, with this result, is one
  abbrev pub WriteMeans :
      Algorithm → List ℕ → List ℕ → List ℕ → Result (List Hash) Error
      → Env (List LogItem) C N → Type 0
  WriteMeans a cache key bytes r new =
      (old : Env (List LogItem) C N) → IsCache cache old.store
      → RunsPut (λ log. Some log) moments numbers old new cache (keyed_put a key bytes)
      (reply_of Stored r)
      → KeyWritten a cache key bytes r old.store new.store

  -- so is a write without a key
  abbrev pub ContentWriteMeans :
      Algorithm → List ℕ → List ℕ → Result (List Hash) Error → Env (List LogItem) C N → Type 0
  ContentWriteMeans a cache bytes r new =
      (old : Env (List LogItem) C N) → IsCache cache old.store
      → RunsNumbered (λ log. Some log) numbers old new cache
      (commands.Put (unkeyed_put a bytes)) (reply_of Stored r)
      → ContentWritten a cache bytes r old.store new.store

  -- so is a plain insertion
  abbrev pub InsertionMeans :
      List ℕ → List ℕ → Said → Result (List Hash) Error → Env (List LogItem) C N → Type 0
  InsertionMeans cache key said r new =
      (old : Env (List LogItem) C N) → SaysPlain said → IsCache cache old.store
      → RunsTimed (λ log. Some log) moments said.time old new cache
      (λ moment. commands.Insert (insert_of key said moment)) (reply_of Stored r)
      → KeyInserted cache key said.integrity r old.store new.store

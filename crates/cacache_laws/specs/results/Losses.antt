-- What a store in memory holds if it began with what a loss left, and what is read and written there.
use Rattle.std.specs.{Prelude.{◌≡◌, ◌⊎◌, ℕ, List, ◌∷◌, ◌++◌, Option, None, Some, Vec, Result, IfErr, IfOk}, Global.{Global}}
use Rattle.cacache_core.specs.{declared.{errors.Error.{Error}, integrity.{algorithm.Algorithm.{Algorithm}, digest.Hash.{Hash}}}, Integrity.{digest, IsIntegrity, integrity_under}, Paths.{Names, home_of, bucket_names}}
use Rattle.cacache_store.specs.declared.{env.Env.{Env}, store.log.LogItem.{LogItem}}
use Rattle.cacache_disk.specs.{Tree.{Tree}, Replay.{tree_of}}
use Rattle.cacache_entry.specs.{Entry.{Entry}, Bucket.{NoneAnswers}}
use Rattle.cacache_calls.specs.declared.command.Command.TheVariants as commands
use Rattle.cacache_calls.specs.{declared.{command.Put.{Put}, reply.Reply.TheVariants.{Stored}}, Runs.{reply_of}, Storing.{insertion_of, put_commit}}
use Rattle.cacache_loss.specs.Loss.{Loss, Lost}
use Rattle.cacache_history.specs.{declared.record.Record.{Record}, History.{History}, Setup.{home}, Values.{steps_of}, durable.{QuietMoves.{FewCalls}, Behind.{NoneAppends}, Outlasting.{DurablePut, IsAppendOf, Outlives, moment_at}}}
use Rattle.cacache_jobs.specs.Environment.{Calls, RunsPut}
use Rattle.cacache_sync.specs.{put.KeyedWriters.{keyed_put}, Reads.{bytes_read}}
use Rattle.cacache_laws.specs.{Beside.{KeepsBeside, found_under, StaysKnown}, Caches.{HasKey, IsExcused}, Inserts.{leads_to}, ReadAnswers.{entries_on}, Standing.{IsStanding}, Succeeds.{IsReady}, results.{Reads.{GivesJust, LiesWhole}, Success.{FailsForMemory}}}

-- ---- what is left

-- a tree is what this loss leaves at the end of the history
abbrev pub IsLeft : History → Loss → Tree → Type 0
IsLeft h loss t =
    Lost (home h.setup) (moment_at h h.records).tree (moment_at h h.records).fixed loss t

-- the entry that a put writes under the key
abbrev pub entry_written : List ℕ → List ℕ → Put → Entry
entry_written cache key p = (insertion_of (put_commit cache p) key).entry

-- after the caller's append of the put's entry in these records nobody appends to the bucket
abbrev pub IsLast : History → Names → List Record → ℕ → List ℕ → Put → Type 0
IsLast h folder records caller key p =
    (between : List Record) (append : Record) (later : List Record)
    → records ≡ between ++ append ∷ later
    → IsAppendOf caller h.setup.cache key (entry_written h.setup.cache key p) append
    → NoneAppends (folder ++ bucket_names key) (steps_of later)

-- the put's entry is in the bucket of the key, and these after it
pub record StandsBefore (cache key : List ℕ) (p : Put) (more : List Entry) (t : Tree)
    : Type 0 where
  pub before : List Entry
  pub bucket : entries_on (home_of cache) t key ≡ before ++ entry_written cache key p ∷ more

-- the key leads to bytes that have the digest of the put's
pub record LeadsToDigest (cache key : List ℕ) (p : Put) (log : List LogItem) : Type 0 where
  pub bytes : List ℕ
  pub same : digest p.options.algorithm bytes ≡ digest p.options.algorithm p.data
  pub held : HasKey cache key (integrity_under p.options.algorithm p.data) bytes log

-- the put's entry is there; if none after it answers to the key, the key leads to its bytes in each
-- store with this tree
abbrev pub PutIsLeft : List ℕ → List ℕ → Put → Tree → Type 0
PutIsLeft cache key p t =
    (more : List Entry) × StandsBefore cache key p more t
    × (NoneAnswers key more → (log : List LogItem) → tree_of log ≡ t → LeadsToDigest cache key p log)

-- ---- reads

-- a read by key gives what the key leads to, also through a link, unless memory is refused, and leaves
-- everything
pub record LeftRead (cache key : List ℕ) (r : Result (Vec ℕ Global) Error) (old new : List LogItem)
    : Type 0 where
  pub same : tree_of new ≡ tree_of old
  pub standing : IsStanding cache new
  pub known : StaysKnown cache old new
  pub gives : (i : List Hash) (bytes : List ℕ) → HasKey cache key i bytes old
      → GivesJust bytes r old new
  pub reads : (i : List Hash) (bytes : List ℕ) → leads_to cache key old ≡ Some i → IsIntegrity i
      → LiesWhole cache i old bytes → GivesJust bytes r old new
  pub succeeds : (folder : Names) (i : List Hash) (bytes : List ℕ) → home_of cache ≡ Some folder
      → HasKey cache key i bytes old → FailsForMemory r
  pub reads_on : (folder : Names) (i : List Hash) (bytes : List ℕ) → home_of cache ≡ Some folder
      → leads_to cache key old ≡ Some i → IsIntegrity i → LiesWhole cache i old bytes
      → FailsForMemory r

-- ---- writes

-- a write under a key: it leads to the bytes, or the error is excused. Everything stands where it
-- may still; other keys lead where they led, and contents stay, but at the address of the bytes. On a
-- store that is ready only memory fails it
pub record LeftWritten (a : Algorithm) (cache key bytes : List ℕ) (r : Result (List Hash) Error)
    (old new : List LogItem) : Type 0 where
  pub standing : IsStanding cache new
  pub stored : IfOk r (λ i. (i ≡ integrity_under a bytes) × HasKey cache key i bytes new)
  pub leads : (found_under cache key new ≡ found_under cache key old)
      ⊎ (leads_to cache key new ≡ Some (integrity_under a bytes))
  pub keeps : KeepsBeside cache (Some key) (integrity_under a bytes) bytes old new
  pub fails : IfErr r (λ e. IsExcused e old new)
  pub succeeds : IsReady cache old → FailsForMemory r

-- ---- laws

-- in what a loss leaves everything is where it may be
abbrev pub LossesLeaveStanding : Type 0
LossesLeaveStanding =
    (h : History) (loss : Loss) (log : List LogItem) → Outlives h → IsLeft h loss (tree_of log)
    → IsStanding h.setup.cache log

-- what a durable put that answered stored is left, if no integrity was expected
abbrev pub LossesLeavePuts : Type 0
LossesLeavePuts =
    (h : History) (loss : Loss) (folder : Names) (key : List ℕ) (p : Put) (t : Tree)
    → Outlives h → FewCalls h → IsLeft h loss t → home h.setup ≡ Some folder
    → DurablePut h folder p → p.key ≡ Some key → p.options.integrity ≡ None
    → PutIsLeft h.setup.cache key p t

-- and if its entry is the last of its bucket, the key leads to its bytes in each such store
abbrev pub LossesLeaveLast : Type 0
LossesLeaveLast =
    (h : History) (loss : Loss) (folder : Names) (key : List ℕ) (p : Put) (t : Tree)
    → Outlives h → FewCalls h → IsLeft h loss t → home h.setup ≡ Some folder
    → (put : DurablePut h folder p) → p.key ≡ Some key → p.options.integrity ≡ None
    → IsLast h folder put.rest put.call.caller key p
    → (log : List LogItem) → tree_of log ≡ t → LeadsToDigest h.setup.cache key p log

module _ {C N : Type 0} where
  -- a read by key of a standing store, with this result, is one
  abbrev pub LeftReadMeans :
      List ℕ → List ℕ → Result (Vec ℕ Global) Error → Env (List LogItem) C N → Type 0
  LeftReadMeans cache key r new =
      (old : Env (List LogItem) C N) → IsStanding cache old.store
      → Calls (λ log. Some log) old new cache (commands.Get key) (reply_of bytes_read r)
      → LeftRead cache key r old.store new.store

module _ {C N : Type 0} (moments : C → Option (List ℕ)) (numbers : N → Option (List ℕ)) where
  -- a write under a key of a standing store, with this result, is one
  abbrev pub LeftWriteMeans :
      Algorithm → List ℕ → List ℕ → List ℕ → Result (List Hash) Error
      → Env (List LogItem) C N → Type 0
  LeftWriteMeans a cache key bytes r new =
      (old : Env (List LogItem) C N) → IsStanding cache old.store
      → RunsPut (λ log. Some log) moments numbers old new cache (keyed_put a key bytes)
      (reply_of Stored r)
      → LeftWritten a cache key bytes r old.store new.store

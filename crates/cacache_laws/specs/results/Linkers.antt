-- What open linkers did, by their results, on a store in memory.
use Rattle.std.specs.{Prelude.{◌≡◌, ◌<◌, ◌^◌, ◌++◌, ℕ, List, [], Option, None, Some, Result, Err, IfOk, IfErr, length}, Io.{ReadsAtMost, KnownBytes.{ReadConsumes}}}
use Rattle.cacache_store.specs.Outside as io
use Rattle.cacache_core.specs.declared.{errors.{Error.{Error, TheVariants.{IoError}}, Fault.{Fault}}, integrity.digest.Hash.{Hash}}
use Rattle.cacache_store.specs.{declared.{env.Env.{Env}, store.{log.LogItem.{LogItem}, plain.PlainFile.{PlainFile}}}, Plain.{LeftFalls}}
use Rattle.cacache_disk.specs.{Apply.{opened}, Replay.{shown, tree_of}}
use Rattle.cacache_calls.specs.{declared.reply.Reply.TheVariants.{Stored}, Linking.{based, linked_to}, Promises.{answered}, Runs.{reply_of}}
use Rattle.cacache_sync.specs.{content.OpenReads.{passed}, declared.put.linker.SyncToLinker.{SyncToLinker}, put.{OpenLinkers.{BeginsLink, CommitsLink, HasHashed, OpensLink, OpensWithSize, asks_file, asks_size, linked_by}, KeyedWriters.{Said, options_of}}}
use Rattle.cacache_laws.specs.{Caches.{IsCache, IsExcused, Grows}, ExportEffects.{IsApart}, LinkAnswers.{target_bytes}, Links.{KeepsBesideLink}, OpenLinkers.{SuitsSize, TargetOpened}, OpenWriters.{LeavesKnownCache}, Succeeds.{NamesFolder}, results.{Handles.{IsText, LeadsToEntry, MayLeadToEntry, SaysFit, said_integrity}, Links.{LeadsOn, LiesLinked}, Success.{FailsFor, FailsForMemory}, Writes.{SaysPlain}}}

-- a linker of a store in memory
abbrev pub MemLinker : Type 0
MemLinker = SyncToLinker PlainFile

-- a linker into this cache, under this key, if any, with so much said. Its target showed the held
-- bytes when it was opened, and the linker took the first of them
pub record IsLinking (cache : List ℕ) (key : Option (List ℕ)) (path : List ℕ) (s : Said)
    (held bytes : List ℕ) (w : MemLinker) : Type 0 where
  pub base : List ℕ
  pub target : List ℕ
  pub path_is : based base target ≡ path
  pub time : Option ℕ
  pub time_is : (k : List ℕ) → key ≡ Some k → time ≡ s.time
  pub size : Option ℕ
  pub suits : SuitsSize size (length held)
  pub small : length held < 2 ^ 64
  pub linked_is :
      w.linked ≡ linked_to base cache key target time (record (options_of s) { size = size })
  pub first : PlainFile
  pub was_opened : TargetOpened cache path held first
  pub rest : List ℕ
  pub all : bytes ++ rest ≡ held
  pub file_is : w.file ≡ opened rest
  pub hashed : HasHashed w bytes

-- ---- an opening

-- a linker of what its target showed, that took nothing yet, or the error is excused; all that was known
-- stays. If the target shows bytes only memory fails it, and otherwise it says why there are none
pub record OpenedLinker (cache : List ℕ) (key : Option (List ℕ)) (path : List ℕ) (s : Said)
    (r : Result MemLinker Error) (old new : List LogItem) : Type 0 where
  pub leaves : LeavesKnownCache cache old new
  pub linker : IfOk r (λ w. (held : List ℕ) × (shown (tree_of old) path ≡ Some held)
      × IsLinking cache key path s held [] w)
  pub fails : IfErr r (λ e. IsExcused e old new)
  pub succeeds : (held : List ℕ) → shown (tree_of old) path ≡ Some held → FailsForMemory r
  pub unread : (fault : Fault) → target_bytes path old ≡ Err fault → FailsFor (IoError fault []) r

-- ---- a commit

-- the key leads to an entry of what was said, the link lies under the integrity of the target's bytes,
-- unless something lay there, and all else stays. Whatever it answers, the key leads where it led, or to
-- that entry. If nothing else was said, an error is excused; and if the cache's path names a folder, only
-- memory fails it, unless a link that leads nowhere lay there
pub record LinkedBytes (cache : List ℕ) (key : Option (List ℕ)) (path : List ℕ) (s : Said)
    (held : List ℕ) (r : Result (List Hash) Error) (old new : List LogItem) : Type 0 where
  pub sound : IsCache cache new
  pub grows : Grows old new
  pub stored : IfOk r (λ i. i ≡ answered (said_integrity s held) s.integrity key)
  pub leads : IfOk r (λ i. (k : List ℕ) → key ≡ Some k
      → LeadsToEntry cache k s i (length held) new)
  pub may_lead : (k : List ℕ) → key ≡ Some k → MayLeadToEntry cache k s
      (answered (said_integrity s held) s.integrity key) (length held) old new
  pub lies : IfOk r (λ i. LiesLinked cache (said_integrity s held) path old new)
  pub beside : KeepsBesideLink cache key (said_integrity s held) path old new
  pub fails : SaysPlain s → s.integrity ≡ None → IfErr r (λ e. IsExcused e old new)
  pub succeeds : NamesFolder cache → SaysPlain s → s.integrity ≡ None
      → LeadsOn cache (said_integrity s held) old → FailsForMemory r

-- ---- laws, of the environment that a call left

-- a linker that was read goes on after the bytes that it gave
abbrev pub LinkersGoOn : Type 0
LinkersGoOn =
    (cache : List ℕ) (key : Option (List ℕ)) (path : List ℕ) (s : Said) (held bytes : List ℕ)
    (w v : MemLinker) (r : Result ℕ io.Error) (buf : List ℕ)
    → IsLinking cache key path s held bytes w → ReadsAtMost r buf
    → ReadConsumes w.file.bytes v.file.bytes r buf → LeftFalls w.file.left v.file.left r
    → HasHashed v (bytes ++ passed r buf) → v.linked ≡ w.linked
    → IsLinking cache key path s held (bytes ++ passed r buf) v

module _ {C N : Type 0} where
  -- an opening that asks no size is one, if no size was said
  abbrev pub LinkOpeningsMean : Env (List LogItem) C N → Type 0
  LinkOpeningsMean new =
      (cache : List ℕ) (key : Option (List ℕ)) (target : List ℕ) (s : Said)
      (r : Result MemLinker Error) (old : Env (List LogItem) C N)
      → IsCache cache old.store → s.size ≡ None
      → OpensLink (λ file. file) (λ log. Some log) old new
      (linked_by old.base cache key target s) r
      → BeginsLink (λ file. file) (λ log. Some log) old new asks_file
      (linked_by old.base cache key target s) r
      → OpenedLinker cache key (based old.base target) s r old.store new.store

  -- so is one that asks the size
  abbrev pub SizedOpeningsMean : Env (List LogItem) C N → Type 0
  SizedOpeningsMean new =
      (cache : List ℕ) (key : Option (List ℕ)) (target : List ℕ) (s : Said)
      (r : Result MemLinker Error) (old : Env (List LogItem) C N)
      → IsCache cache old.store
      → OpensWithSize (λ file. file) (λ log. Some log) old new
      (linked_by old.base cache key target s) r
      → BeginsLink (λ file. file) (λ log. Some log) old new asks_size
      (linked_by old.base cache key target s) r
      → OpenedLinker cache key (based old.base target) s r old.store new.store

  -- and a commit, of a target apart from the cache
  abbrev pub LinkCommitsMean : (C → Option (List ℕ)) → Env (List LogItem) C N → Type 0
  LinkCommitsMean moments new =
      (cache : List ℕ) (key : Option (List ℕ)) (path : List ℕ) (s : Said) (held bytes : List ℕ)
      (w : MemLinker) (r : Result (List Hash) Error) (old : Env (List LogItem) C N)
      → IsCache cache old.store → IsApart cache path
      → IsLinking cache key path s held bytes w → SaysFit s → IsText key
      → CommitsLink (λ file. file) (λ log. Some log) moments old new w bytes
      (reply_of Stored r)
      → LinkedBytes cache key path s held r old.store new.store

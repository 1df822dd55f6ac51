-- What calls that only look gave their caller and left, by their results, on a store in memory.
use Rattle.std.specs.{Prelude.{◌≡◌, ◌⊎◌, ℕ, Bool, true, false, List, Option, None, Some, Vec, Result, Ok, IfOk, IfErr, MatchResult, option_map}, Global.{Global}}
use Rattle.cacache_core.specs.{declared.{errors.Error.{Error, TheVariants.{EntryNotFound, OutOfMemory}}, integrity.digest.Hash.{Hash}}, Integrity.{Meets}}
use Rattle.cacache_store.specs.declared.{env.Env.{Env}, store.log.LogItem.{LogItem}}
use Rattle.cacache_disk.specs.Replay.{shown, tree_of}
use Rattle.cacache_entry.specs.{declared.metadata.Metadata.{Metadata}, Bucket.{Found}, View.{found_view}}
use Rattle.cacache_calls.specs.declared.command.Command.TheVariants as commands
use Rattle.cacache_calls.specs.declared.reply.Reply.TheVariants as replies
use Rattle.cacache_calls.specs.{Replies.{looked_up}, Runs.{reply_of}}
use Rattle.cacache_value.specs.Value.{AtLink}
use Rattle.cacache_jobs.specs.Environment.{Calls}
use Rattle.cacache_sync.specs.Reads.{bytes_read}
use Rattle.cacache_laws.specs.{Caches.{IsCache, HasContent, HasKey, LacksKey, IsExcused, AStepFailed, lies_under}, Inserts.{leads_to}, Beside.{found_under}, Looks.{GivesHeld, GivesOfKey, bytes_under}, OpenWriters.{LeavesKnownCache}, Succeeds.{NamesFolder}, results.Success.{FailsForMemory}}

-- Each of these calls leaves the whole store as it was: files apart from the cache too.

-- ---- reads

-- these bytes, unless the error is excused
abbrev pub GivesJust : List ℕ → Result (Vec ℕ Global) Error → List LogItem → List LogItem → Type 0
GivesJust bytes r old new = MatchResult r (λ v. v.items ≡ bytes) (λ e. IsExcused e old new)

-- no bytes but `EntryNotFound`, unless the error is excused
abbrev pub GivesNoEntry :
    List ℕ → List ℕ → Result (Vec ℕ Global) Error → List LogItem → List LogItem → Type 0
GivesNoEntry cache key r old new =
    MatchResult r (λ v. ⊥) (λ e. (e ≡ EntryNotFound cache key) ⊎ IsExcused e old new)

-- these bytes lie under the integrity, or where a link there leads, and meet it
abbrev pub LiesWhole : List ℕ → List Hash → List LogItem → List ℕ → Type 0
LiesWhole cache i log bytes = (bytes_under cache i log ≡ Ok bytes) × Meets i bytes

-- so do they under the integrity that the key leads to
abbrev pub KeyLiesWhole : List ℕ → List ℕ → List LogItem → List ℕ → Type 0
KeyLiesWhole cache key log bytes =
    (found : Found) × (found_under cache key log ≡ Some found)
    × LiesWhole cache found.integrity log bytes

-- under the integrity lies a link to a file that shows these bytes
pub record LinksToFile (cache : List ℕ) (i : List Hash) (target held : List ℕ) (log : List LogItem)
    : Type 0 where
  pub lies : lies_under cache i log ≡ Some (AtLink target)
  pub shows : shown (tree_of log) target ≡ Some held

-- a read by key: it gives what the key leads to, and whatever that is, only whole bytes
pub record KeyRead (cache key : List ℕ) (r : Result (Vec ℕ Global) Error) (old new : List LogItem)
    : Type 0 where
  pub leaves : LeavesKnownCache cache old new
  pub same : tree_of new ≡ tree_of old
  pub gives : (i : List Hash) (bytes : List ℕ) → HasKey cache key i bytes old
      → GivesJust bytes r old new
  pub lacks : LacksKey cache key old → GivesNoEntry cache key r old new
  pub whole : IfOk r (λ v. KeyLiesWhole cache key old v.items)
  pub linked : (i : List Hash) (target held : List ℕ) → leads_to cache key old ≡ Some i
      → LinksToFile cache i target held old → IfOk r (λ v. v.items ≡ held)
  pub any : GivesOfKey cache key (reply_of bytes_read r) old new
  pub succeeds : (i : List Hash) (bytes : List ℕ) → NamesFolder cache
      → HasKey cache key i bytes old → FailsForMemory r
  pub reads_on : (i : List Hash) (bytes : List ℕ) → NamesFolder cache
      → leads_to cache key old ≡ Some i → LiesWhole cache i old bytes → FailsForMemory r
  pub missing : NamesFolder cache → LacksKey cache key old
      → IfErr r (λ e. (e ≡ EntryNotFound cache key) ⊎ (e ≡ OutOfMemory))

-- a read by integrity: it gives what lies there, and whatever that is, only whole bytes
pub record ContentRead (cache : List ℕ) (i : List Hash) (r : Result (Vec ℕ Global) Error)
    (old new : List LogItem) : Type 0 where
  pub leaves : LeavesKnownCache cache old new
  pub same : tree_of new ≡ tree_of old
  pub gives : (bytes : List ℕ) → HasContent cache i bytes old → GivesJust bytes r old new
  pub whole : IfOk r (λ v. LiesWhole cache i old v.items)
  pub linked : (target held : List ℕ) → LinksToFile cache i target held old
      → IfOk r (λ v. v.items ≡ held)
  pub any : GivesHeld cache i (reply_of bytes_read r) old new
  pub succeeds : (bytes : List ℕ) → NamesFolder cache → HasContent cache i bytes old
      → FailsForMemory r
  pub reads_on : (bytes : List ℕ) → NamesFolder cache → LiesWhole cache i old bytes
      → FailsForMemory r

-- ---- questions

-- a lookup: it finds the entry that the key leads to, if any
pub record EntryFound (cache key : List ℕ) (r : Result (Option Metadata) Error)
    (old new : List LogItem) : Type 0 where
  pub leaves : LeavesKnownCache cache old new
  pub same : tree_of new ≡ tree_of old
  pub finds : IfOk r (λ found. option_map found_view found ≡ found_under cache key old)
  pub fails : IfErr r (λ e. IsExcused e old new)
  pub succeeds : NamesFolder cache → FailsForMemory r

-- a question whether a content is there: a no for one that is there says that a step failed, and an error
-- of it, or of one that isn't there, that memory was refused
pub record AskedContent (cache : List ℕ) (i : List Hash) (r : Result Bool Error)
    (old new : List LogItem) : Type 0 where
  pub leaves : LeavesKnownCache cache old new
  pub same : tree_of new ≡ tree_of old
  pub there : (bytes : List ℕ) → HasContent cache i bytes old
      → MatchResult r (λ there. there ≡ false → AStepFailed old new) (λ e. e ≡ OutOfMemory)
  pub absent : lies_under cache i old ≡ None
      → MatchResult r (λ there. there ≡ false) (λ e. e ≡ OutOfMemory)
  pub succeeds : NamesFolder cache → FailsForMemory r
  pub held : (bytes : List ℕ) → NamesFolder cache → HasContent cache i bytes old
      → IfOk r (λ there. there ≡ true)

-- ---- laws, of the environment that a call left

module _ {C N : Type 0} where
  -- a read by key, with this result, is one
  abbrev pub KeyReadMeans :
      List ℕ → List ℕ → Result (Vec ℕ Global) Error → Env (List LogItem) C N → Type 0
  KeyReadMeans cache key r new =
      (old : Env (List LogItem) C N) → IsCache cache old.store
      → Calls (λ log. Some log) old new cache (commands.Get key) (reply_of bytes_read r)
      → KeyRead cache key r old.store new.store

  -- so is a read by integrity
  abbrev pub ContentReadMeans :
      List ℕ → List Hash → Result (Vec ℕ Global) Error → Env (List LogItem) C N → Type 0
  ContentReadMeans cache i r new =
      (old : Env (List LogItem) C N) → IsCache cache old.store
      → Calls (λ log. Some log) old new cache (commands.GetHash i) (reply_of bytes_read r)
      → ContentRead cache i r old.store new.store

  -- so is a lookup
  abbrev pub LookupMeans :
      List ℕ → List ℕ → Result (Option Metadata) Error → Env (List LogItem) C N → Type 0
  LookupMeans cache key r new =
      (old : Env (List LogItem) C N) → IsCache cache old.store
      → Calls (λ log. Some log) old new cache (commands.Find key) (reply_of looked_up r)
      → EntryFound cache key r old.store new.store

  -- so is a question
  abbrev pub QuestionMeans :
      List ℕ → List Hash → Result Bool Error → Env (List LogItem) C N → Type 0
  QuestionMeans cache i r new =
      (old : Env (List LogItem) C N) → IsCache cache old.store
      → Calls (λ log. Some log) old new cache (commands.Exists i) (reply_of replies.Exists r)
      → AskedContent cache i r old.store new.store

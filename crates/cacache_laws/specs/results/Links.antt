-- What links gave their caller and left, by their results, on a store in memory.
use Rattle.std.specs.Prelude.{◌≡◌, ◌⊎◌, ◌<◌, ◌^◌, ℕ, true, List, [], Option, None, Some, Result, Err, IfOk, IfSome, length}
use Rattle.cacache_core.specs.{declared.{errors.{Error.{Error, TheVariants.{IoError}}, Fault.{Fault}}, integrity.{algorithm.Algorithm.TheVariants.{Sha256}, digest.Hash.{Hash}}}, Integrity.{integrity_under}}
use Rattle.cacache_store.specs.declared.{env.Env.{Env}, store.log.LogItem.{LogItem}}
use Rattle.cacache_disk.specs.Replay.{shown, tree_of}
use Rattle.cacache_calls.specs.declared.command.Command.TheVariants as commands
use Rattle.cacache_calls.specs.{declared.reply.Reply.TheVariants.{Stored}, Linking.{based}, Runs.{reply_of}}
use Rattle.cacache_value.specs.{Shows.{blob_there}, Value.{AtLink, Blob}}
use Rattle.cacache_jobs.specs.Environment.{Calls, RunsTimed}
use Rattle.cacache_sync.specs.put.OpenLinkers.{link_to}
use Rattle.cacache_laws.specs.{Caches.{IsCache, Grows, lies_under}, ExportEffects.{IsApart}, Inserts.{leads_to}, Beside.{found_under}, LinkAnswers.{target_bytes}, Links.{KeepsBesideLink}, Succeeds.{NamesFolder, is_yes}, results.Success.{FailsFor, FailsForMemory}}

-- under this integrity lies a link to the path, unless something lay there before
abbrev pub LiesLinked : List ℕ → List Hash → List ℕ → List LogItem → List LogItem → Type 0
LiesLinked cache i path old new =
    lies_under cache i old ≡ None → lies_under cache i new ≡ Some (AtLink path)

-- what lies under the integrity, if anything, leads to something: it is no link that leads nowhere
abbrev pub LeadsOn : List ℕ → List Hash → List LogItem → Type 0
LeadsOn cache i log =
    IfSome (lies_under cache i log)
    (λ (blob : Blob). is_yes (blob_there (tree_of log) (Some blob)) ≡ true)

-- a link under a key, or without one, to a file that shows these bytes
pub record LinksBytes (cache : List ℕ) (key : Option (List ℕ)) (path held : List ℕ)
    (r : Result (List Hash) Error) (old new : List LogItem) : Type 0 where
  pub stored : IfOk r (λ i. i ≡ integrity_under Sha256 held)
  pub leads : IfOk r (λ i. (k : List ℕ) → key ≡ Some k → leads_to cache k new ≡ Some i)
  pub lies : IfOk r (λ i. LiesLinked cache i path old new)
  pub may_lead : (k : List ℕ) → key ≡ Some k → (found_under cache k new ≡ found_under cache k old)
      ⊎ (leads_to cache k new ≡ Some (integrity_under Sha256 held))
  pub beside : KeepsBesideLink cache key (integrity_under Sha256 held) path old new

-- a link: a cache is left, and so much of the bytes that the target shows. If the cache's path names
-- a folder, only memory fails it, unless a link that leads nowhere lies there; and if a target shows
-- none the error says why
pub record LinkedFile (cache : List ℕ) (key : Option (List ℕ)) (path : List ℕ)
    (r : Result (List Hash) Error) (old new : List LogItem) : Type 0 where
  pub sound : IsCache cache new
  pub grows : Grows old new
  pub of : (held : List ℕ) → shown (tree_of old) path ≡ Some held
      → LinksBytes cache key path held r old new
  pub succeeds : (held : List ℕ) → NamesFolder cache → shown (tree_of old) path ≡ Some held
      → length held < 2 ^ 64 → LeadsOn cache (integrity_under Sha256 held) old → FailsForMemory r
  pub unread : (fault : Fault) → NamesFolder cache → target_bytes path old ≡ Err fault
      → FailsFor (IoError fault []) r

-- ---- laws, of the environment that a call left

module _ {C N : Type 0} where
  -- a link under a key to a file apart from the cache, with this result, is one
  abbrev pub LinkMeans :
      (C → Option (List ℕ)) → List ℕ → List ℕ → List ℕ → Result (List Hash) Error
      → Env (List LogItem) C N → Type 0
  LinkMeans moments cache key target r new =
      (old : Env (List LogItem) C N) → IsApart cache (based old.base target)
      → IsCache cache old.store
      → RunsTimed (λ log. Some log) moments None old new cache
      (λ moment. commands.Link (link_to (Some key) target moment)) (reply_of Stored r)
      → LinkedFile cache (Some key) (based old.base target) r old.store new.store

  -- so is one without a key
  abbrev pub ContentLinkMeans :
      List ℕ → List ℕ → Result (List Hash) Error → Env (List LogItem) C N → Type 0
  ContentLinkMeans cache target r new =
      (old : Env (List LogItem) C N) → IsApart cache (based old.base target)
      → IsCache cache old.store
      → Calls (λ log. Some log) old new cache (commands.Link (link_to None target 0))
      (reply_of Stored r)
      → LinkedFile cache None (based old.base target) r old.store new.store

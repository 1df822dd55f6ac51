-- What calls that remove gave their caller and left, by their results, on a store in memory.
use Rattle.std.specs.Prelude.{◌≡◌, ◌⊎◌, ℕ, List, [], Option, None, Some, Result, OnOk, IfErr}
use Rattle.cacache_core.specs.{declared.{errors.{Error.{Error, TheVariants.{IoError, OutOfMemory}}, Fault.TheVariants.{NotFound, TooDeep}}, integrity.digest.Hash.{Hash}}, Paths.{home_of}}
use Rattle.cacache_store.specs.declared.{env.Env.{Env}, store.log.LogItem.{LogItem}}
use Rattle.cacache_calls.specs.declared.command.Command.TheVariants as commands
use Rattle.cacache_calls.specs.{Replies.{done}, Runs.{reply_of, without_message}}
use Rattle.cacache_value.specs.Kinds.{node_below}
use Rattle.cacache_disk.specs.Replay.{tree_of}
use Rattle.cacache_jobs.specs.Environment.{Calls, RunsTimed}
use Rattle.cacache_sync.specs.Lookups.{delete_of}
use Rattle.cacache_history.specs.Values.{IsThere}
use Rattle.cacache_laws.specs.{Caches.{IsCache, IsEmptyCache, IsExcused, Grows, HasKey, LacksKey, lies_under}, Beside.{KeepsOthers}, Removed.{KeepsApart, KeepsApartFrom}, Succeeds.{NamesFolder, IsReady}, results.Success.{FailsForMemory}}

-- a removal of a key: it leads to nothing, or the error is excused, and all else stays
pub record KeyRemoved (cache key : List ℕ) (r : Result (Unit {0}) Error) (old new : List LogItem)
    : Type 0 where
  pub sound : IsCache cache new
  pub grows : Grows old new
  pub gone : OnOk r (LacksKey cache key new)
  pub others : KeepsOthers cache key old new
  pub fails : IfErr r (λ e. IsExcused e old new)
  pub succeeds : NamesFolder cache → FailsForMemory r
  pub ready : IsReady cache old → IsReady cache new

-- a removal of a content: nothing lies under the integrity, or the error is excused, and all else stays
pub record ContentRemoved (cache : List ℕ) (i : List Hash) (r : Result (Unit {0}) Error)
    (old new : List LogItem) : Type 0 where
  pub sound : IsCache cache new
  pub grows : Grows old new
  pub gone : OnOk r (lies_under cache i new ≡ None)
  pub apart : KeepsApart cache i old new
  pub fails : IfErr r (λ e. IsExcused e old new)
  pub succeeds : NamesFolder cache → IsThere (lies_under cache i old) → FailsForMemory r
  pub ready : IsReady cache old → IsReady cache new

-- a removal of a key with its content and its bucket: the key leads to nothing, or the error is excused
pub record KeyRemovedFully (cache key : List ℕ) (r : Result (Unit {0}) Error) (old new : List LogItem)
    : Type 0 where
  pub sound : IsCache cache new
  pub grows : Grows old new
  pub gone : OnOk r (LacksKey cache key new)
  pub apart : KeepsApartFrom cache key old new
  pub fails : IfErr r (λ e. IsExcused e old new)
  pub succeeds : (i : List Hash) (bytes : List ℕ) → NamesFolder cache
      → HasKey cache key i bytes old → FailsForMemory r
  pub ready : IsReady cache old → IsReady cache new

-- memory was refused, there were too many names, or the cache has no folder
abbrev pub FailsClearing : List ℕ → List LogItem → Error → Type 0
FailsClearing cache old e =
    (e ≡ OutOfMemory)
    ⊎ ((without_message e ≡ IoError TooDeep [])
    ⊎ ((node_below (home_of cache) (tree_of old) [] ≡ None)
    × (without_message e ≡ IoError NotFound [])))

-- a clearing: the cache is empty
pub record Cleared (cache : List ℕ) (r : Result (Unit {0}) Error) (old new : List LogItem)
    : Type 0 where
  pub sound : IsCache cache new
  pub grows : Grows old new
  pub empty : OnOk r (IsEmptyCache cache new)
  pub succeeds : NamesFolder cache → IfErr r (λ e. FailsClearing cache old e)
  pub ready : IsReady cache old → IsReady cache new

-- ---- laws, of the environment that a call left

module _ {C N : Type 0} where
  -- a removal by a tombstone, with this result, is one
  abbrev pub RemovalMeans :
      (C → Option (List ℕ)) → List ℕ → List ℕ → Result (Unit {0}) Error
      → Env (List LogItem) C N → Type 0
  RemovalMeans moments cache key r new =
      (old : Env (List LogItem) C N) → IsCache cache old.store
      → RunsTimed (λ log. Some log) moments None old new cache
      (λ moment. commands.Delete (delete_of key moment)) (reply_of done r)
      → KeyRemoved cache key r old.store new.store

  -- so is the removal of a content
  abbrev pub ContentRemovalMeans :
      List ℕ → List Hash → Result (Unit {0}) Error → Env (List LogItem) C N → Type 0
  ContentRemovalMeans cache i r new =
      (old : Env (List LogItem) C N) → IsCache cache old.store
      → Calls (λ log. Some log) old new cache (commands.RemoveHash i) (reply_of done r)
      → ContentRemoved cache i r old.store new.store

  -- so is a removal of a key with its content
  abbrev pub FullRemovalMeans :
      List ℕ → List ℕ → Result (Unit {0}) Error → Env (List LogItem) C N → Type 0
  FullRemovalMeans cache key r new =
      (old : Env (List LogItem) C N) → IsCache cache old.store
      → Calls (λ log. Some log) old new cache (commands.RemoveFully key) (reply_of done r)
      → KeyRemovedFully cache key r old.store new.store

  -- so is a clearing
  abbrev pub ClearingMeans :
      List ℕ → Result (Unit {0}) Error → Env (List LogItem) C N → Type 0
  ClearingMeans cache r new =
      (old : Env (List LogItem) C N) → IsCache cache old.store
      → Calls (λ log. Some log) old new cache commands.Clear (reply_of done r)
      → Cleared cache r old.store new.store

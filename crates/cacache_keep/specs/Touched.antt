-- What a touch of a key leaves of a cache in a store in memory.
use Rattle.std.specs.Prelude.{◌≡◌, ℕ, List, Bool, Option, Some, Result, IfOk, IfErr, OnOk}
use Rattle.cacache_core.specs.declared.{errors.Error.{Error}, integrity.digest.Hash.{Hash}}
use Rattle.cacache_store.specs.declared.{env.Env.{Env}, store.log.LogItem.{LogItem}}
use Rattle.cacache_disk.specs.Replay.{tree_of}
use Rattle.cacache_entry.specs.Bucket.{Found}
use Rattle.cacache_jobs.specs.{Environment.{AsksMoment}, JobStates.{site_of}}
use Rattle.cacache_laws.specs.{Caches.{HasKey, IsCache, LacksKey}, Beside.{KeepsOthers, found_under}}
use Rattle.cacache_keep.specs.Touching.{StopsTouching, Touches, is_found}

-- the entry, with another moment
abbrev pub at_moment : ℕ → Found → Found
at_moment moment f = record f { time = moment }

module _ {C N : Type 0} (moments : C → Option (List ℕ)) where
  -- the key leads to the entry that it led to, with a moment for which the clock was asked
  pub record LeadsAnew (cache key : List ℕ) (f : Found) (old new : Env (List LogItem) C N) : Type 0 where
    pub moment : ℕ
    pub asked : AsksMoment moments old.clock new.clock moment
    pub leads : found_under cache key new.store ≡ Some (at_moment moment f)

  -- So it is for a key that led to an entry; for any other nothing changed. All else stays, whatever is answered
  pub record LeavesTouched (cache key : List ℕ) (r : Result Bool Error)
      (old new : Env (List LogItem) C N) : Type 0 where
    pub sound : IsCache cache new.store
    pub others : KeepsOthers cache key old.store new.store
    pub tells : IfOk r (λ touched. touched ≡ is_found (found_under cache key old.store))
    pub anew : (f : Found) → found_under cache key old.store ≡ Some f
        → OnOk r (LeadsAnew cache key f old new)
    pub keeps : (i : List Hash) (bytes : List ℕ) → HasKey cache key i bytes old.store
        → OnOk r (HasKey cache key i bytes new.store)
    pub none : LacksKey cache key old.store → tree_of new.store ≡ tree_of old.store

  -- a touch, with this result, does so, by the environment that it left
  abbrev pub TouchMeans :
      List ℕ → List ℕ → Result Bool Error → Env (List LogItem) C N → Type 0
  TouchMeans cache key r new =
      (old : Env (List LogItem) C N) → IsCache cache old.store
      → IfOk r (λ touched. Touches (λ log. Some log) moments cache key touched old new)
      → IfErr r (λ e. StopsTouching (site_of cache old.base 0) key e (Some old.store) (Some new.store))
      → LeavesTouched cache key r old new

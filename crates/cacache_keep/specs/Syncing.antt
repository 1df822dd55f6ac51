-- The syncs of the folders above those of buckets, and of all buckets of an index, over any store.
use Rattle.std.specs.Prelude.{◌≡◌, ◌⊎◌, ◌++◌, ℕ, List, [], ◌∷◌, Bool, true, false, Option}
use Rattle.cacache_core.specs.declared.errors.Error.{Error, TheVariants.{OutOfMemory}}
use Rattle.cacache_store.specs.declared.store.answer.Answer.TheVariants as answers
use Rattle.cacache_store.specs.declared.store.log.LogItem.{LogItem}
use Rattle.cacache_store.specs.declared.store.step.Step.TheVariants as steps
use Rattle.cacache_calls.specs.SingleSteps.{Does, FailsAt}
use Rattle.cacache_keep.specs.{Buckets.{FindsBuckets, StopsFinding, index_area_in}, Rewriting.{StopsSyncingBucket, SyncsBucket}}

-- the folders above those of buckets: these, which the index has, the index, and the cache; none
-- without one in the index
abbrev pub folders_above : List ℕ → List (List ℕ) → List (List ℕ)
folders_above cache [] = []
folders_above cache (top ∷ tops) = top ∷ tops ++ index_area_in cache ∷ cache ∷ []

-- the log gained a sync of each of these folders, in turn
abbrev pub SyncsInTurn :
    List (List ℕ) → Option (List LogItem) → Option (List LogItem) → Type 0
SyncsInTurn [] old new = new ≡ old
SyncsInTurn (f ∷ folders) old new =
    (next : Option (List LogItem)) × Does (steps.SyncDir f) answers.Done old next
    × SyncsInTurn folders next new

-- so it did of the folders above those of buckets, if that is asked for
abbrev pub SyncsAbove : Bool → List ℕ → List (List ℕ)
    → Option (List LogItem) → Option (List LogItem) → Type 0
SyncsAbove true cache tops old new = SyncsInTurn (folders_above cache tops) old new
SyncsAbove false cache tops old new = new ≡ old

-- the error ended the sync of the first of these folders; or there is none, and memory ran out
abbrev pub StopsNextSync :
    List (List ℕ) → Error → Option (List LogItem) → Option (List LogItem) → Type 0
StopsNextSync [] e old new = (e ≡ OutOfMemory) × (new ≡ old)
StopsNextSync (f ∷ rest) e old new = FailsAt (steps.SyncDir f) e old new

-- some of these folders were synced, and the error ended the sync of the next
pub record StopsInTurn
    (folders : List (List ℕ)) (e : Error) (old new : Option (List LogItem)) : Type 0 where
  pub synced : List (List ℕ)
  pub rest : List (List ℕ)
  pub split : folders ≡ synced ++ rest
  pub between : Option (List LogItem)
  pub syncing : SyncsInTurn synced old between
  pub stop : StopsNextSync rest e between new

-- so it ended the syncs of the folders above those of buckets, which are made only if that is asked
-- for
abbrev pub StopsAbove : Bool → List ℕ → List (List ℕ) → Error
    → Option (List LogItem) → Option (List LogItem) → Type 0
StopsAbove true cache tops e old new = StopsInTurn (folders_above cache tops) e old new
StopsAbove false cache tops e old new = ⊥

-- ---- all buckets of an index

-- the log gained a sync of each of these buckets and of its folder, in turn
abbrev pub SyncsBuckets :
    List (List ℕ) → Option (List LogItem) → Option (List LogItem) → Type 0
SyncsBuckets [] old new = new ≡ old
SyncsBuckets (p ∷ paths) old new =
    (next : Option (List LogItem)) × SyncsBucket true p old next × SyncsBuckets paths next new

-- the buckets are found; then they are synced, and the folders that lead to them; none, if it isn't asked for
abbrev pub SyncsIndex :
    Bool → List ℕ → Option (List LogItem) → Option (List LogItem) → Type 0
SyncsIndex true cache old new =
    (tops paths : List (List ℕ)) × (found done : Option (List LogItem))
    × FindsBuckets cache tops paths old found × SyncsBuckets paths found done
    × SyncsAbove true cache tops done new
SyncsIndex false cache old new = new ≡ old

-- some of these buckets were synced, and the error ended the sync of the next
pub record StopsBuckets
    (paths : List (List ℕ)) (e : Error) (old new : Option (List LogItem)) : Type 0 where
  pub synced : List (List ℕ)
  pub next : List ℕ
  pub rest : List (List ℕ)
  pub split : paths ≡ synced ++ next ∷ rest
  pub between : Option (List LogItem)
  pub syncing : SyncsBuckets synced old between
  pub stop : StopsSyncingBucket true next e between new

-- the error ended the search for the buckets, a sync of one, or a sync of a folder above them
abbrev pub StopsIndexSync :
    Bool → List ℕ → Error → Option (List LogItem) → Option (List LogItem) → Type 0
StopsIndexSync true cache e old new =
    StopsFinding cache e old new
    ⊎ ((tops paths : List (List ℕ)) × (found : Option (List LogItem))
    × FindsBuckets cache tops paths old found
    × (StopsBuckets paths e found new
    ⊎ ((done : Option (List LogItem)) × SyncsBuckets paths found done
    × StopsAbove true cache tops e done new)))
StopsIndexSync false cache e old new = ⊥

-- What a pruning does, over any store.
use mathlib.Core.Logic.{inl, inr}
use Rattle.std.specs.{Prelude.{◌≡◌, ◌⊎◌, ◌++◌, ℕ, List, [], Bool, Option, Result, map, take}, List.Sorted.{IsPermutation}}
use Rattle.cacache_core.specs.declared.errors.Error.{Error}
use Rattle.cacache_store.specs.declared.store.log.LogItem.{LogItem}
use Rattle.cacache_entry.specs.{Bucket.{Found}, View.{found_view}}
use Rattle.cacache_calls.specs.State.{Site}
use Rattle.cacache_keep.specs.{declared.{checking.OddLines.TheVariants.{Refuse}, collecting.Collection.{Collection}, limits.Limits.{Limits}, pruning.{PrunePlan.{PrunePlan}, Pruned.{Pruned}}}, Calls.{StopsIndex}, Checking.{ReadsIndex, RefusesOdd}, Collecting.{EndsCollecting, Told}, Confirming.{Confirms, StopsConfirming}, Limits.{DropsOldest, Weight, entries_in, told_bytes}, Parting.{Parts, StopsParting, parted}, Weighing.{StopsWeighing, Weighs}}

-- ---- plans

-- the log gained a listing of the index and questions for the sizes of contents; the entries are
-- dropped or kept so
pub record PlansPrune
    (limits : Limits) (site : Site) (entries : List Found) (dropped kept : List Weight)
    (odd : List (List ℕ)) (old new : Option (List LogItem)) : Type 0 where
  pub listed : Option (List LogItem)
  pub listing : ReadsIndex site entries odd old listed
  pub weighing : Weighs site.cache (dropped ++ kept) listed new
  pub choice : DropsOldest limits entries dropped kept

-- so it did, and this tells it
abbrev pub PlansPruneAs :
    Limits → Site → PrunePlan → Option (List LogItem) → Option (List LogItem) → Type 0
PlansPruneAs limits site p old new =
    (entries : List Found) × (dropped kept : List Weight)
    × PlansPrune limits site entries dropped kept p.odd.items old new
    × (map found_view p.dropped.items ≡ entries_in dropped)
    × (map found_view p.kept.items ≡ entries_in kept)
    × (p.bytes_before ≡ told_bytes (dropped ++ kept)) × (p.bytes_after ≡ told_bytes kept)

-- the error ended the listing of the index, or the questions; or memory ran out after the listing
abbrev pub StopsPrunePlan :
    Site → Error → Option (List LogItem) → Option (List LogItem) → Type 0
StopsPrunePlan site e old new =
    StopsIndex site e old new
    ⊎ ((entries sorted : List Found) × (odd : List (List ℕ)) × (listed : Option (List LogItem))
    × ReadsIndex site entries odd old listed × IsPermutation entries sorted
    × StopsWeighing site.cache sorted e listed new)

-- ---- a pruning

-- the index is listed, and has no odd line; the keys of the entries to drop lead to them; these are dropped, the
-- oldest first, or left; then the cache is collected as told
pub record PrunesCache
    (limits : Limits) (told : Told) (limit : Option ℕ) (site : Site) (entries : List Found)
    (dropped kept : List Weight) (gone left : List Found)
    (c : Result Collection Error) (old new : Option (List LogItem)) : Type 0 where
  pub listed : Option (List LogItem)
  pub planning : PlansPrune limits site entries dropped kept [] old listed
  pub confirmed : Option (List LogItem)
  pub confirms : Confirms site (entries_in dropped) listed confirmed
  pub settled : Option (List LogItem)
  pub parts : Parts told.durable site (entries_in dropped) gone left confirmed settled
  pub collects : EndsCollecting told limit site c settled new

-- so it did, and this tells it
abbrev pub PrunesAs : Limits → Told → Option ℕ → Site → Pruned
    → Option (List LogItem) → Option (List LogItem) → Type 0
PrunesAs limits told limit site p old new =
    (entries : List Found) × (dropped kept : List Weight)
    × PrunesCache limits told limit site entries dropped kept (map found_view p.dropped.items)
    (map found_view p.left.items) p.collected old new
    × (p.bytes_before ≡ told_bytes (dropped ++ kept)) × (p.bytes_after ≡ told_bytes kept)

-- ---- errors

-- of a cache without odd lines the error ended the lookups of the keys of these entries; or memory ran out while
-- the keys were dropped
abbrev pub StopsCleanPruning : Bool → Site → List Found → Error
    → Option (List LogItem) → Option (List LogItem) → Type 0
StopsCleanPruning durable site dropped e old new =
    StopsConfirming site dropped e old new
    ⊎ ((confirmed : Option (List LogItem)) × Confirms site dropped old confirmed
    × StopsParting durable site dropped e confirmed new)

-- of one that is planned so it refused the odd lines before anything changed; or it came later
abbrev pub StopsPruningAfter : Bool → Site → List Found → List (List ℕ) → Error
    → Option (List LogItem) → Option (List LogItem) → Type 0
StopsPruningAfter durable site dropped odd e old new =
    (RefusesOdd Refuse odd e × (new ≡ old))
    ⊎ ((odd ≡ []) × StopsCleanPruning durable site dropped e old new)

-- the error ended the plan, or what came after it
abbrev pub StopsPruning : Limits → Bool → Site → Error
    → Option (List LogItem) → Option (List LogItem) → Type 0
StopsPruning limits durable site e old new =
    StopsPrunePlan site e old new
    ⊎ ((entries : List Found) × (dropped kept : List Weight) × (odd : List (List ℕ))
    × (listed : Option (List LogItem))
    × PlansPrune limits site entries dropped kept odd old listed
    × StopsPruningAfter durable site (entries_in dropped) odd e listed new)

-- the entries whose keys were dropped before that, or may have been
abbrev pub marked_in : (limits : Limits) (durable : Bool) (site : Site) (e : Error)
    (old new : Option (List LogItem)) → StopsPruning limits durable site e old new → List Found
marked_in limits durable site e old new (inl plan) = []
marked_in limits durable site e old new
    (inr (entries, dropped, kept, odd, listed, plan, inl refused)) = []
marked_in limits durable site e old new
    (inr (entries, dropped, kept, odd, listed, plan, inr (none, inl confirming))) = []
marked_in limits durable site e old new
    (inr (entries, dropped, kept, odd, listed, plan, inr (none, inr (confirmed, leads, stop)))) =
    parted stop.done ++ take 1 stop.rest

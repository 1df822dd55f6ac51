-- The words `prune` and `plan-prune` of the program `cacache-keep`.
use Rattle.std.specs.{Prelude.{◌≡◌, ◌⊎◌, ◌++◌, ◌-◌, ◌*◌, ℕ, List, [], ◌∷◌, Option, Result, Ok, Err, codes, cond, length, nat_eq, option_map}, List.{flat_map}}
use Rattle.cacache_core.specs.declared.{errors.Error.{Error}, integrity.digest.Hash.{Hash}}
use Rattle.cacache.specs.{Stores.{LogItem}, Calls.{Env, KeepsRest}, Entries.{Found}}
use Rattle.cacache_jobs.specs.{Environment.{AsksMoment}, JobStates.{site_of}}
use Rattle.cacache_keep.specs.{declared.{checking.OddLines.TheVariants.{Refuse}, collecting.Collection.{Collection}, limits.Limits.{Limits}}, Collecting.{Told, told_by}, Grace.{LimitedFirst}, Limits.{Weight, entries_in, told_bytes}, Pruning.{PlansPrune, PrunesCache, StopsPrunePlan, StopsPruning}}
use Rattle.cacache_program.specs.{Counts.{counts_text}, KeepFails.{Fails}, Orders.{Order}, Output.{PutsOut, PutsOutWith}, Roots.{ReadsRoots, StopsRoots}, WordCollect.{millis_in}, WordList.{entry_line, odd_line}}

-- ---- the limits

-- the moment so many seconds before this one, in milliseconds
abbrev pub since_at : Option ℕ → ℕ → Option ℕ
since_at seconds moment = option_map (λ s. moment - s * 1000) seconds

-- the limits of so many bytes, and so many seconds from a moment
abbrev pub limits_at : Option ℕ → Option ℕ → ℕ → Limits
limits_at bytes seconds moment = record { bytes = bytes; since = since_at seconds moment }

-- ---- what is printed

-- the bytes of all entries and of those that are kept, and how many are dropped, a line each
abbrev pub prune_counts : ℕ → ℕ → ℕ → List ℕ
prune_counts before after dropped =
    counts_text ((codes "before", before) ∷ (codes "after", after) ∷ (codes "dropped", dropped) ∷ [])

-- these counts, and a line for each entry that is dropped
abbrev pub dropped_text : ℕ → ℕ → List Found → List ℕ
dropped_text before after dropped =
    prune_counts before after (length dropped) ++ flat_map (entry_line (codes "dropped ")) dropped

-- after them a line for each bucket with an odd line
abbrev pub prune_text : ℕ → ℕ → List Found → List (List ℕ) → List ℕ
prune_text before after dropped odd = dropped_text before after dropped ++ flat_map odd_line odd

-- or a line for each entry that is left
abbrev pub pruned_text : ℕ → ℕ → List Found → List Found → List ℕ
pruned_text before after gone left =
    dropped_text before after gone ++ flat_map (entry_line (codes "left ")) left

-- the status of a pruning: 0 if no entry is left and no error ended the collection, otherwise 1
abbrev pub pruned_status : ℕ → Result Collection Error → ℕ
pruned_status left (Ok c) = cond (nat_eq left 0) 0 1
pruned_status left (Err e) = 1

-- the plan was put out for these entries, of which the first are dropped and the others kept
abbrev pub TellsPrune : List Weight → List Weight → List (List ℕ)
    → Option (List ℕ) → Option (List ℕ) → ℕ → Type 0
TellsPrune dropped kept odd before after status =
    PutsOut (prune_text (told_bytes (dropped ++ kept)) (told_bytes kept) (entries_in dropped) odd)
    before after status

-- what was done was put out for them, where some are gone and the others left
abbrev pub TellsPruned : List Weight → List Weight → List Found → List Found
    → Result Collection Error → Option (List ℕ) → Option (List ℕ) → ℕ → Type 0
TellsPruned dropped kept gone left c before after status =
    PutsOutWith (pruned_status (length left) c)
    (pruned_text (told_bytes (dropped ++ kept)) (told_bytes kept) gone left) before after status

-- ---- a pruning

-- what the options tell the collection after it, with these further roots
abbrev pub told_of : Order → List (List Hash) → Told
told_of o roots = told_by Refuse roots o.durable

module _ {S C N : Type 0} (log : S → Option (List LogItem)) (moments : C → Option (List ℕ)) where
  -- the log gained a pruning with these limits, told so, and it was printed; the clock was asked for the grace
  abbrev pub PrintsPruning : Order → List (List Hash) → ℕ → C
      → Env S C N → Env S C N → Option (List ℕ) → Option (List ℕ) → ℕ → Type 0
  PrintsPruning o roots moment asked old new before after status =
      (limit : Option ℕ) × LimitedFirst moments (millis_in o.grace) asked limit
      × (entries : List Found) × (dropped kept : List Weight) × (gone left : List Found)
      × (c : Result Collection Error)
      × PrunesCache (limits_at o.size o.age moment) (told_of o roots) limit
      (site_of o.cache old.base 0) entries dropped kept gone left c (log old.store) (log new.store)
      × TellsPruned dropped kept gone left c before after status

  -- so it did, or an error ended it; the clock was asked for the moment before that
  pub record PrunesRooted (o : Order) (roots : List (List Hash))
      (old new : Env S C N) (before after : Option (List ℕ)) (status : ℕ) : Type 0 where
    pub rest : (new.names ≡ old.names) × (new.base ≡ old.base)
    pub moment : ℕ
    pub asked : C
    pub asks : AsksMoment moments old.clock asked moment
    pub told : PrintsPruning o roots moment asked old new before after status
        ⊎ Fails log (StopsPruning (limits_at o.size o.age moment) o.durable
        (site_of o.cache old.base 0)) old new before after status

  -- the roots were read, and with them the cache was pruned so; or they weren't, and nothing was put
  -- out
  abbrev pub Prunes :
      Order → Env S C N → Env S C N → Option (List ℕ) → Option (List ℕ) → ℕ → Type 0
  Prunes o old new before after status =
      ((roots : List (List Hash)) × (mid : Env S C N) × KeepsRest old mid
      × ReadsRoots o.keep roots (log old.store) (log mid.store)
      × PrunesRooted o roots mid new before after status)
      ⊎ (KeepsRest old new × Fails log (StopsRoots o.keep) old new before after status)

-- ---- a plan

module _ {S C N : Type 0} (log : S → Option (List LogItem)) (moments : C → Option (List ℕ))
    (bytes seconds : Option ℕ) (cache : List ℕ)
    (old new : Env S C N) (before after : Option (List ℕ)) (status : ℕ) where
  -- the log gained a plan with the limits at the moment for which the clock was asked, which was told
  abbrev pub PrintsPrunePlan : Type 0
  PrintsPrunePlan =
      (moment : ℕ) × AsksMoment moments old.clock new.clock moment
      × (entries : List Found) × (dropped kept : List Weight) × (odd : List (List ℕ))
      × PlansPrune (limits_at bytes seconds moment) (site_of cache old.base 0)
      entries dropped kept odd (log old.store) (log new.store)
      × TellsPrune dropped kept odd before after status

  -- so it did, or an error ended the plan, and the numbers and the base folder stayed
  abbrev pub PlansPruning : Type 0
  PlansPruning =
      (new.names ≡ old.names) × (new.base ≡ old.base)
      × (PrintsPrunePlan
      ⊎ Fails log (StopsPrunePlan (site_of cache old.base 0)) old new before after status)

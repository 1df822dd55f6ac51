-- A listing that walks only when it is asked for an item: what it returned, and its state.
use Rattle.std.specs.Prelude.{◌≡◌, ◌⊎◌, ◌<◌, ◌≤◌, ◌+◌, ◌*◌, ℕ, List, [], ◌∷◌, ◌++◌, Option, Some, None, Result, Ok, Err, length, map, reverse}
use Rattle.cacache_core.specs.declared.errors.Error.{Error, TheVariants.{OutOfMemory}}
use Rattle.cacache_store.specs.declared.store.log.LogItem.{LogItem}
use Rattle.cacache_entry.specs.{declared.metadata.Metadata.{Metadata}, View.{found_view}}
use Rattle.cacache_calls.specs.declared.command.Command.TheVariants as commands
use Rattle.cacache_calls.specs.{declared.{reply.Reply.TheVariants.{Listed, Refused}, visit.Visit.{Visit}}, State.{State, Item}, Table.{opening}, Runs.{Ran, Gone, plain_item, without_message, weight, weights}}
use Rattle.cacache_walks.specs.{declared.{walk.Walk.{Walk}, iterator.Ls.{Ls}}, WalkStates.{WalksAt, pending}}

-- ---- what a listing returns

-- the state in which the command begins; a listing has no number, and needs no base folder
abbrev pub listing_state : List ℕ → State
listing_state cache = opening (record { cache = cache; base = []; number = 0 }) commands.Ls

-- The items are those of a run of the command. If the store keeps its log, the log gained that run.
-- A run may end out of memory, which is then the last item.
abbrev pub Lists : List ℕ → List Item → Option (List LogItem) → Option (List LogItem) → Type 0
Lists cache items old new =
    Ran (listing_state cache) (Listed items) old new
    ⊎ ((before : List Item) × (items ≡ before ++ Err OutOfMemory ∷ [])
    × Ran (listing_state cache) (Refused OutOfMemory) old new)

-- an item as callers see it
abbrev pub item_view : Result Metadata Error → Item
item_view (Ok found) = Ok (found_view found)
item_view (Err error) = Err (without_message error)

-- ---- how far it is

-- how many steps may still come
abbrev pub steps_left : Option Visit → Walk → ℕ
steps_left (Some v) w = 2 * w.left + weight v + weights (pending w.todo.items)
steps_left None w = 0

-- how many items may still come that aren't ready
abbrev pub items_left : Option Visit → Walk → ℕ
items_left (Some v) w = w.room + 1
items_left None w = 0

-- how many items may still come
abbrev pub left : {S C N : Type 0} → Ls S C N → ℕ
left ls = length ls.ready.items + items_left ls.visit ls.walk

-- it has the same environment; only the environment's store may have changed
abbrev pub KeepsEnv : {S C N : Type 0} → Ls S C N → Ls S C N → Type 0
KeepsEnv before after =
    (after.env.ghost_name ≡ before.env.ghost_name)
    × (after.env.now ≡ record before.env.now { store = after.env.now.store })

module _ {S C N : Type 0} (log : S → Option (List LogItem)) where
  -- the items that are ready, in their order
  abbrev pub ready : Ls S C N → List Item
  ready ls = map plain_item (reverse ls.ready.items)

  -- its next step is that of this visit, or it is over; these items were returned or are ready
  abbrev pub StandsBy :
      Option Visit → List ℕ → Option (List LogItem) → Ls S C N → List Item → Type 0
  StandsBy (Some v) cache old ls items =
      (s : State) × Gone (listing_state cache) s old (log ls.env.now.store)
      × (ls.walk.items.items ≡ []) × WalksAt items ls.walk (Some v) s
  StandsBy None cache old ls items = Lists cache items old (log ls.env.now.store)

  -- since the log was in this state, it returned these items of the cache
  abbrev pub Gave : List ℕ → Option (List LogItem) → Ls S C N → List Item → Type 0
  Gave cache old ls given = StandsBy ls.visit cache old ls (given ++ ready ls)

  -- it is a listing of some cache
  abbrev pub IsListing : Ls S C N → Type 0
  IsListing ls =
      (cache : List ℕ) × (old : Option (List LogItem)) × (given : List Item)
      × Gave cache old ls given

  -- after `None` all items have been returned; after an item there is one more
  abbrev pub GaveNext :
      Option (Result Metadata Error) → List ℕ → Option (List LogItem) → Ls S C N → List Item → Type 0
  GaveNext None cache old ls given =
      Lists cache given old (log ls.env.now.store) × Gave cache old ls given
  GaveNext (Some item) cache old ls given = Gave cache old ls (given ++ item_view item ∷ [])

  -- what one call returns, whatever was returned before
  abbrev pub GivesOn : Ls S C N → Option (Result Metadata Error) → Ls S C N → Type 0
  GivesOn before result after =
      (cache : List ℕ) (old : Option (List LogItem)) (given : List Item)
      → Gave cache old before given → GaveNext result cache old after given

  -- what one call does: the clock, the numbers and the base folder stay
  abbrev pub NextGives : Ls S C N → Option (Result Metadata Error) → Ls S C N → Type 0
  NextGives before result after = GivesOn before result after × KeepsEnv before after

  -- ---- after a step

  -- the walk went on, or memory was refused
  abbrev pub WentOn :
      Result (Unit {0}) Error → List ℕ → Option (List LogItem) → Ls S C N → List Item → Type 0
  WentOn (Ok done) cache old ls items = StandsBy ls.visit cache old ls (items ++ ready ls)
  WentOn (Err e) cache old ls items =
      (e ≡ OutOfMemory) × Ran (listing_state cache) (Refused OutOfMemory) old (log ls.env.now.store)

  -- what one visit does, whatever was returned before
  abbrev pub VisitGives : Visit → Ls S C N → Result (Unit {0}) Error → Ls S C N → Type 0
  VisitGives v before result after =
      (cache : List ℕ) (old : Option (List LogItem)) (items : List Item)
      → StandsBy (Some v) cache old before items → WentOn result cache old after items

  -- after the visit fewer steps are left, and no more items may come than before
  abbrev pub Shortens : Visit → Ls S C N → Ls S C N → Type 0
  Shortens v old new =
      (cache : List ℕ) (log0 : Option (List LogItem)) (items : List Item)
      → StandsBy (Some v) cache log0 old items
      → (steps_left new.visit new.walk < steps_left (Some v) old.walk)
      × (left new ≤ items_left (Some v) old.walk)

  -- an item is ready, or the walk is over; or memory was refused, and no more items come
  abbrev pub Filled :
      Result (Unit {0}) Error → List ℕ → Option (List LogItem) → Ls S C N → List Item → Type 0
  Filled (Ok done) cache old ls given =
      Gave cache old ls given × (ls.ready.items ≡ [] → ls.visit ≡ None)
  Filled (Err e) cache old ls given =
      (e ≡ OutOfMemory) × Ran (listing_state cache) (Refused OutOfMemory) old (log ls.env.now.store)
      × (ls.visit ≡ None) × (ls.ready.items ≡ [])

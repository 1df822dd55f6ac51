-- A walk through the index: how far it is, and which buckets with odd lines it noted.
use Rattle.std.specs.{Prelude.{◌≡◌, ◌<◌, ℕ, List, [], Bool, true, false, Option, None, Some, Ok}, List.{slice_get}}
use Rattle.cacache_core.specs.declared.errors.Error.{Error, TheVariants.{OutOfMemory}}
use Rattle.cacache_store.specs.declared.store.log.LogItem.{LogItem}
use Rattle.cacache_calls.specs.{declared.{reply.Reply.TheVariants.{Listed, Refused}, visit.Visit.{Visit}}, Runs.{Gains, Goes, Moves, Ran}, State.{Item, State}, Walking.{items_in}}
use Rattle.cacache_walks.specs.{declared.walk.Walk.{Walk}, Iterating.{listing_state, steps_left}, WalkStates.{WalksAt}}
use Rattle.cacache_keep.specs.Checking.{odd_in}

-- whether an entry is at the place among the items
abbrev pub is_entry : Option Item → Bool
is_entry (Some (Ok found)) = true
is_entry item = false

abbrev pub entry_at : List Item → ℕ → Bool
entry_at items at = is_entry (slice_get items at)

-- if this says that the bucket lists something, then it does
abbrev pub IsTold : Bool → Option (List ℕ × List ℕ) → Type 0
IsTold lists None = Unit {0}
IsTold lists (Some (path, bytes)) = lists ≡ true → items_in bytes ≡ [] → ⊥

-- a listing of the index came here since the log was so: it wants the step of the next visit, or is over,
-- and noted the buckets with odd lines that its moves read
pub record WalksIndex
    (cache : List ℕ) (next : Option Visit) (w : Walk) (odd : List (List ℕ))
    (old new : Option (List LogItem)) : Type 0 where
  pub state : State
  pub moves : Moves
  pub goes : Goes (listing_state cache) moves state
  pub gains : Gains old new moves
  pub stands : WalksAt [] w next state
  pub met : odd ≡ odd_in moves

-- the log gained a listing of the index with these items, which noted these buckets
abbrev pub MeetsIndex : List ℕ → List Item → List (List ℕ)
    → Option (List LogItem) → Option (List LogItem) → Type 0
MeetsIndex cache items odd old new =
    (ran : Ran (listing_state cache) (Listed items) old new) × (odd ≡ odd_in ran.0)

-- memory ran out in it
abbrev pub LosesIndex :
    List ℕ → Error → Option (List LogItem) → Option (List LogItem) → Type 0
LosesIndex cache e old new =
    (e ≡ OutOfMemory) × Ran (listing_state cache) (Refused OutOfMemory) old new

-- ---- what one visit does, wherever the listing began

-- the listing goes on, and fewer steps are left
abbrev pub VisitGoes : Visit → Walk → List (List ℕ) → Option Visit → Walk → List (List ℕ)
    → Option (List LogItem) → Option (List LogItem) → Type 0
VisitGoes v before odd next after more mid new =
    (cache : List ℕ) (old : Option (List LogItem))
    → WalksIndex cache (Some v) before odd old mid
    → WalksIndex cache next after more old new
    × (steps_left next after < steps_left (Some v) before)

-- memory ran out
abbrev pub VisitStops : Visit → Walk → List (List ℕ) → Error
    → Option (List LogItem) → Option (List LogItem) → Type 0
VisitStops v before odd e mid new =
    (cache : List ℕ) (old : Option (List LogItem))
    → WalksIndex cache (Some v) before odd old mid → LosesIndex cache e old new

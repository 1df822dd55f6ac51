-- Which storms there are, and what their numbers count.
use Rattle.std.specs.Prelude.{◌≡◌, ◌<◌, ◌⊎◌, ℕ, List, ◌++◌, Some, length}
use Rattle.cacache_calls.specs.{declared.{command.Command.TheVariants.{Ls}, reply.Reply.{Reply, TheVariants.{Listed}}}, State.{Item}}
use Rattle.cacache_history.specs.{declared.record.Record.{Record}, History.{History, Call, IsLegal, Reaches}}
use Rattle.cacache_world.specs.WorldKept.{history_of, last}
use Rattle.cacache_shared.specs.{declared.outcome.Storm.{Storm}, Lines.{moves}}

-- there are 1 to 64 threads, and 1 to 1000 keys
abbrev pub IsOutOfRange : ℕ → ℕ → Type 0
IsOutOfRange threads keys = (threads ≡ 0) ⊎ (64 < threads) ⊎ (keys ≡ 0) ⊎ (1000 < keys)

-- ---- a listing after a history

-- what came after it
abbrev pub GrewBy : History → List Record → History → Type 0
GrewBy h more h' = h' ≡ history_of h.setup (h.records ++ more)

-- the first caller lists there, and has no answer yet
pub record IsListing (h h' : History) : Type 0 where
  pub more : List Record
  pub grew : GrewBy h more h'
  pub call : Call
  pub is : call.command ≡ Ls
  pub has : (last h').calls 0 ≡ Some call

-- the reply of a listing there
pub record IsListed (h : History) (reply : Reply) (h' : History) : Type 0 where
  pub more : List Record
  pub grew : GrewBy h more h'
  pub call : Call
  pub is : call.command ≡ Ls
  pub reaches : Reaches h' call (Some reply)

-- so many items
abbrev pub HasItems : Reply → ℕ → Type 0
HasItems reply n = (items : List Item) × (reply ≡ Listed items) × (n ≡ length items)

-- a listing there gives so many entries
pub record ListsEntries (h : History) (n : ℕ) : Type 0 where
  pub later : History
  pub legal : IsLegal later
  pub reply : Reply
  pub listed : IsListed h reply later
  pub items : HasItems reply n

-- ---- a storm's numbers

-- those of a legal history: how many moves there are, and how many entries a listing after it gives
pub record IsCounted (storm : Storm) : Type 0 where
  pub history : History
  pub legal : IsLegal history
  pub moves : storm.moves ≡ moves history.records
  pub live : ListsEntries history storm.live

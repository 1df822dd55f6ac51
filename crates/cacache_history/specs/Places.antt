-- Places of a history, by how many records come before them, and what was done between two of them.
use Rattle.std.specs.Prelude.{◌≡◌, ◌≤◌, ◌<◌, ℕ, Option, None, Some, slice_get, take}
use Rattle.cacache_disk.specs.declared.luck.Luck.{Luck}
use Rattle.cacache_calls.specs.declared.{command.Command.{Command}, reply.Reply.{Reply}}
use Rattle.cacache_history.specs.{declared.record.Record.TheVariants.{Moved}, History.{History, Turn, Call, Made, Now, turn_of, call_after, moved_call, now_at, Reaches}, Turns.{EachTurn}}

-- the tree and the calls at a place
abbrev pub now_before : History → ℕ → Now
now_before h place = now_at h (take place h.records)

-- the record at a place is a move of this caller
pub record MoveAt (h : History) (place caller : ℕ) : Type 0 where
  pub luck : Luck
  pub made : Option Made
  pub reply : Option Reply
  pub is : slice_get h.records place ≡ Some (Moved caller luck made reply)

-- the turn is a move of this caller from place m on and before place n, on the tree that it found
pub record TurnIn (h : History) (m n caller : ℕ) (turn : Turn) : Type 0 where
  pub place : ℕ
  pub from : m ≤ place
  pub to : place < n
  pub move : MoveAt h place caller
  pub made : Made
  pub made_is : move.made ≡ Some made
  pub turn_is : turn ≡ turn_of (now_before h place).tree move.luck made

-- the caller had no call at place m; before place n a move left its call so, with this reply if any
pub record CallIn (h : History) (m n caller : ℕ) (call : Call) (reply : Option Reply) : Type 0 where
  pub place : ℕ
  pub from : m ≤ place
  pub to : place < n
  pub idle : (now_before h m).calls caller ≡ None
  pub move : MoveAt h place caller
  pub reply_is : move.reply ≡ reply
  pub stands : moved_call (now_before h place) caller move.luck move.made ≡ Some call

-- the turns of such a call are its caller's, and were made since the call began
abbrev pub TurnsAreOwn : History → Type 0
TurnsAreOwn h =
    (m n caller : ℕ) (call : Call) (reply : Option Reply) → CallIn h m n caller call reply
    → EachTurn (TurnIn h m n caller) call.turns

-- the call that moved at a place, which the history reaches with this move
pub record MoveOfCall (h : History) (place caller : ℕ) (move : MoveAt h place caller) : Type 0 where
  pub call : Call
  pub is : (now_before h place).calls caller ≡ Some call
  pub reaches : Reaches h
      (call_after (now_before h place).tree move.luck move.made call) move.reply

-- each move is one of a call's
abbrev pub MovesAreOfCalls : History → Type 0
MovesAreOfCalls h =
    (place caller : ℕ) (move : MoveAt h place caller) → MoveOfCall h place caller move

-- each move from place m on and before place n is of a call with a command that has this property
abbrev pub MovesAre : History → ℕ → ℕ → (Command → Type 0) → Type 0
MovesAre h m n P =
    (place caller : ℕ) (call : Call) → m ≤ place → place < n → MoveAt h place caller
    → (now_before h place).calls caller ≡ Some call → P call.command

-- Seats as contracts see them.
use Rattle.std.specs.Prelude.{◌≡◌, ℕ, zero, suc, ◌+◌, ◌≤◌, List, [], ◌∷◌, ◌++◌, drop, length, map}
use Rattle.cacache_disk.specs.declared.luck.Luck.{Luck}
use Rattle.cacache_calls.specs.declared.{command.Command.{Command}, reply.Reply.{Reply}}
use Rattle.cacache_history.specs.{declared.record.Record.{Record, TheVariants.{Began}}, History.{History, IsLegal}}
use Rattle.cacache_world.specs.{declared.event.Move.{Move}, WorldKept.{AddsRecord, MovesOn}}
use Rattle.cacache_world.specs.declared.event.Move.TheVariants as told
use Rattle.cacache_threads.specs.Said.{said_command, said_reply}
use Rattle.cacache_shared.specs.{declared.seat.Went.{Went, TheVariants.{More, Done}}, Lines.{records_of, moves_of, commands_of, replies_of}}

-- a caller, how many records and how many moves are its own, what it began and what it was answered
pub record Taken : Type 0 where
  pub caller : ℕ
  pub records : ℕ
  pub count : ℕ
  pub commands : List Command
  pub replies : List Reply

-- a caller with so many records and moves, which began nothing
abbrev pub blank_seat : ℕ → ℕ → ℕ → Taken
blank_seat caller records count =
    record {
      caller = caller;
      records = records;
      count = count;
      commands = [];
      replies = [];
    }

-- a caller that began nothing yet since its seat was made
abbrev pub fresh_seat : List Record → ℕ → Taken
fresh_seat records n =
    record {
      caller = n;
      records = records_of n records;
      count = moves_of n records;
      commands = [];
      replies = [];
    }

-- one for each of the first callers
abbrev pub fresh_seats : List Record → ℕ → List Taken
fresh_seats records zero = []
fresh_seats records (suc n) = fresh_seats records n ++ fresh_seat records n ∷ []

-- ---- events

-- with one record and one command more
abbrev pub with_command : Command → Taken → Taken
with_command command seat =
    record seat { records = seat.records + 1; commands = seat.commands ++ command ∷ [] }

-- with the reply of a move, if the call is over
abbrev pub replies_after : Move → List Reply → List Reply
replies_after told.More replies = replies
replies_after (told.Done reply) replies = replies ++ reply ∷ []

-- with one record and one move more
abbrev pub after_move : Move → Taken → Taken
after_move move seat =
    record seat {
      records = seat.records + 1;
      count = seat.count + 1;
      replies = replies_after move seat.replies;
    }

-- what is said of a move
abbrev pub went_of : Move → Went
went_of told.More = More
went_of (told.Done reply) = Done

-- the seat's caller begins the command in the world, and the seat notes it
pub record SeatBegins (command : Command) (h h' : History) (old new : Taken) : Type 0 where
  pub adds : AddsRecord h (Began old.caller command) h'
  pub noted : new ≡ with_command command old

-- the seat's caller makes a move with this luck in the world, and the seat counts it
pub record SeatMoves (luck : Luck) (went : Went) (h h' : History) (old new : Taken) : Type 0 where
  pub move : Move
  pub moves : MovesOn h old.caller luck move h'
  pub told : went ≡ went_of move
  pub noted : new ≡ after_move move old

-- one hold of the lock: the seat makes one move, in a world with at least as many records as it counts
pub record HoldsTurn (luck : Luck) (went : Went) (h h' : History) (old new : Taken) : Type 0 where
  pub known : old.records ≤ length h.records
  pub legal : IsLegal h
  pub moves : SeatMoves luck went h h' old new
  pub legal_after : IsLegal h'

-- there are a world before such a hold and one after it
pub record SeatTurns (luck : Luck) (went : Went) (old new : Taken) : Type 0 where
  pub before : History
  pub after : History
  pub turn : HoldsTurn luck went before after old new

-- one move more, and with Done one reply more
abbrev pub SeatGoes : Went → Taken → Taken → Type 0
SeatGoes More old new = new ≡ after_move told.More old
SeatGoes Done old new = (reply : Reply) × (new ≡ after_move (told.Done reply) old)

-- ---- at the close

-- a seat counts its caller's moves, and agrees with its records from this place on
pub record SeatAgrees (from : ℕ) (records : List Record) (seat : Taken) : Type 0 where
  pub count : seat.count ≡ moves_of seat.caller records
  pub commands : map said_command seat.commands
      ≡ map said_command (commands_of seat.caller (drop from records))
  pub replies : map said_reply seat.replies
      ≡ map said_reply (replies_of seat.caller (drop from records))

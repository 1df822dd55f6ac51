-- What each command of a seat was answered.
use Rattle.std.specs.Prelude.{◌≡◌, ◌⊎◌, ℕ, ◌==◌, List, [], ◌∷◌, Option, None, Some, filter_map, map, option_map, take, if◌then◌else◌}
use Rattle.cacache_core.specs.declared.errors.Error.TheVariants.{OutOfMemory}
use Rattle.cacache_calls.specs.{declared.{command.Command.{Command}, reply.Reply.{Reply, TheVariants.{Refused}}}, Promises.{Answers}, Runs.{plain_reply}}
use Rattle.cacache_history.specs.{declared.record.Record.{Record, TheVariants.{Began, Moved, Stopped}}, Setup.{call_site}, History.{History, Call, IsLegal, Reaches, now_at}}
pub use Rattle.cacache_threads.specs.Said.{said_command, said_reply}
use Rattle.cacache_shared.specs.Seats.{Taken, SeatAgrees}

-- ---- in the records

-- this reply, or else a later one
abbrev pub reply_or : Option Reply → Option Reply → Option Reply
reply_or (Some reply) later = Some reply
reply_or None later = later

-- the reply that these records give to the call that the caller has, if any
abbrev pub own_reply : ℕ → List Record → Option Reply
own_reply caller [] = None
own_reply caller (Began c command ∷ records) =
    if c == caller then None else own_reply caller records
own_reply caller (Moved c luck made reply ∷ records) =
    if c == caller then reply_or reply (own_reply caller records) else own_reply caller records
own_reply caller (Stopped c ∷ records) = if c == caller then None else own_reply caller records

-- what each command of the caller says, with what the reply of its call says, if that was given one
abbrev pub answered_in : ℕ → List Record → List (Command × Option Reply)
answered_in caller [] = []
answered_in caller (Began c command ∷ records) =
    if c == caller
    then (said_command command, option_map said_reply (own_reply caller records))
    ∷ answered_in caller records
    else answered_in caller records
answered_in caller (Moved c luck made reply ∷ records) = answered_in caller records
answered_in caller (Stopped c ∷ records) = answered_in caller records

-- ---- of a seat

-- a call whose command says this was given a reply that says that: what the command promises, or out
-- of memory
pub record IsGiven (h : History) (command : Command) (reply : Reply) : Type 0 where
  pub call : Call
  pub own : Reply
  pub command_is : command ≡ said_command call.command
  pub reply_is : reply ≡ said_reply own
  pub reaches : Reaches h call (Some own)
  pub answers : (reply ≡ Refused OutOfMemory)
      ⊎ Answers (call_site h.setup call.number) command (plain_reply reply)

-- a command without a reply: nothing is said
abbrev pub IsAnswered : History → Command × Option Reply → Type 0
IsAnswered h (command, None) = Unit {0}
IsAnswered h (command, Some reply) = IsGiven h command reply

-- so it is of each
abbrev pub AreAnswered : History → List (Command × Option Reply) → Type 0
AreAnswered h [] = Unit {0}
AreAnswered h (answered ∷ more) = IsAnswered h answered × AreAnswered h more

-- what a seat's commands say, in their order, each with what its reply says if there is one: these
-- are the seat's replies in theirs
pub record SeatIsAnswered (h : History) (seat : Taken) : Type 0 where
  pub answered : List (Command × Option Reply)
  pub commands : map said_command seat.commands ≡ map (λ a. a.0) answered
  pub replies : map said_reply seat.replies ≡ filter_map (λ a. a.1) answered
  pub given : AreAnswered h answered

-- so it is for a seat that agrees with the records, if its caller had no call when it was made
abbrev pub SeatsAreAnswered : Type 0
SeatsAreAnswered =
    (h : History) (from : ℕ) (seat : Taken) → IsLegal h → SeatAgrees from h.records seat
    → (now_at h (take from h.records)).calls seat.caller ≡ None → SeatIsAnswered h seat

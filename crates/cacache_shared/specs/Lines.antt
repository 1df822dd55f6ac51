-- What the records of a history say about one caller.
use Rattle.std.specs.Prelude.{ℕ, ◌==◌, Bool, true, false, List, Option, Some, None, count_by, filter_map, if◌then◌else◌}
use Rattle.cacache_calls.specs.declared.{command.Command.{Command}, reply.Reply.{Reply}}
use Rattle.cacache_history.specs.declared.record.Record.{Record, TheVariants.{Began, Moved, Stopped}}

-- ---- records

-- the caller that its event is of
abbrev pub caller_of : Record → ℕ
caller_of (Began c command) = c
caller_of (Moved c luck made reply) = c
caller_of (Stopped c) = c

-- an event of this caller
abbrev pub is_record_of : ℕ → Record → Bool
is_record_of caller line = caller_of line == caller

-- how many of them are this caller's
abbrev pub records_of : ℕ → List Record → ℕ
records_of caller = count_by (is_record_of caller)

-- ---- moves

-- a call's move, with a step or without one
abbrev pub is_move : Record → Bool
is_move (Moved c luck made reply) = true
is_move line = false

-- a move of this caller
abbrev pub is_move_of : ℕ → Record → Bool
is_move_of caller (Moved c luck made reply) = c == caller
is_move_of caller line = false

-- how many moves there are
abbrev pub moves : List Record → ℕ
moves = count_by is_move

-- how many of them are this caller's
abbrev pub moves_of : ℕ → List Record → ℕ
moves_of caller = count_by (is_move_of caller)

-- ---- commands and replies

-- the command that this caller began here
abbrev pub command_in : ℕ → Record → Option Command
command_in caller (Began c command) = if c == caller then Some command else None
command_in caller line = None

-- the reply that this caller was given here
abbrev pub reply_given : ℕ → Record → Option Reply
reply_given caller (Moved c luck made reply) = if c == caller then reply else None
reply_given caller line = None

-- what this caller began, in order
abbrev pub commands_of : ℕ → List Record → List Command
commands_of caller = filter_map (command_in caller)

-- what this caller was answered, in order
abbrev pub replies_of : ℕ → List Record → List Reply
replies_of caller = filter_map (reply_given caller)

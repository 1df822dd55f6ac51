-- The core's table: what a poll and a completion answer, and what they change.
use Rattle.std.specs.Prelude.{ℕ, true, false, List, [], ◌∷◌, length, take, Option, Some, None, Result, Ok, Err, ⊤, nat_le, bytes_eq, if◌then◌else◌}
use Rattle.cacache_core.specs.declared.errors.Fault.{Fault}
use Rattle.cacache_core.specs.declared.errors.Fault.TheVariants as fault
use Rattle.cacache_polled.specs.declared.kinds.{Work.TheVariants.{Write, Flush, Remove}, State.{State, TheVariants.{Idle, Busy, Closed}}, Finished.{Finished}, Desk.{Desk}, Request.{Request}, Polled.{Polled}, Completion.{Completion}}
use Rattle.cacache_polled.specs.declared.kinds.Request.TheVariants as poll
use Rattle.cacache_polled.specs.declared.kinds.Polled.TheVariants as polls
use Rattle.cacache_polled.specs.declared.kinds.Completion.TheVariants as done

abbrev pub fresh : Desk
fresh = record { state = Idle; finished = None; flushed = None; is_gone = false; kept = None }

-- what is asked, as plain data
pub data Ask : Type 0 where
  ask_write : List ℕ → Ask
  ask_flush : Ask
  ask_close : Ask

abbrev pub ask_of : Request → Ask
ask_of (poll.Write b) = ask_write b.now
ask_of poll.Flush = ask_flush
ask_of poll.Close = ask_close

-- ---- polls

-- a finished write's answer
abbrev pub outcome : Result ℕ Fault → Polled
outcome (Ok n) = polls.Wrote n
outcome (Err f) = polls.Failed f

-- a finished flush's answer
abbrev pub flush_outcome : Result ⊤ Fault → Polled
flush_outcome (Ok u) = polls.Done
flush_outcome (Err f) = polls.Failed f

-- a write of these bytes while no work is out, with the write that isn't answered
abbrev pub write_idle : Desk → List ℕ → Option Finished → Desk × Polled
write_idle d b (Some f) =
    if bytes_eq f.bytes b then (record d { finished = None }, outcome f.outcome)
    else (d, polls.Failed fault.OtherBytes)
write_idle d [] None = (d, polls.Wrote 0)
write_idle d (x ∷ b) None =
    (record d { state = Busy (Write (x ∷ b)); flushed = None }, polls.Start (Write (x ∷ b)))

-- a write of these bytes while one of those is out, or isn't answered
abbrev pub write_again : List ℕ → List ℕ → Polled
write_again out b = if bytes_eq out b then polls.Pending else polls.Failed fault.OtherBytes

-- a write of these bytes while a flush is out
abbrev pub write_flushing : List ℕ → Option Finished → Polled
write_flushing b (Some f) = write_again f.bytes b
write_flushing b None = polls.Pending

abbrev pub write_in : Desk → List ℕ → State → Desk × Polled
write_in d b Idle = write_idle d b d.finished
write_in d b (Busy (Write out)) = (d, write_again out b)
write_in d b (Busy Flush) = (d, write_flushing b d.finished)
write_in d b (Busy Remove) = (d, polls.Failed fault.Closed)
write_in d b Closed = (d, polls.Failed fault.Closed)

abbrev pub flush_idle : Desk → Option (Result ⊤ Fault) → Desk × Polled
flush_idle d (Some r) = (record d { flushed = None }, flush_outcome r)
flush_idle d None = (record d { state = Busy Flush }, polls.Start Flush)

abbrev pub flush_in : Desk → State → Desk × Polled
flush_in d Idle = flush_idle d d.flushed
flush_in d (Busy w) = (d, polls.Pending)
flush_in d Closed = (d, polls.Done)

abbrev pub close_closed : Desk → Option Fault → Desk × Polled
close_closed d (Some f) = (record d { kept = None }, polls.Failed f)
close_closed d None = (d, polls.Done)

abbrev pub close_in : Desk → State → Desk × Polled
close_in d Idle = (record d { state = Busy Remove }, polls.Start Remove)
close_in d (Busy w) = (d, polls.Pending)
close_in d Closed = close_closed d d.kept

-- the desk after a poll, and the answer
abbrev pub polled : Desk → Ask → Desk × Polled
polled d (ask_write b) = write_in d b d.state
polled d ask_flush = flush_in d d.state
polled d ask_close = close_in d d.state

-- ---- completions

abbrev pub wrote : Desk → List ℕ → Result ℕ Fault → Desk
wrote d b r = record d { state = Idle; finished = Some (record { bytes = b; outcome = r }) }

-- the write that is out is over with this result
abbrev pub ended_write : Desk → State → Result ℕ Fault → Desk
ended_write d (Busy (Write b)) r = wrote d b r
ended_write d s r = record d { state = Idle }

-- the desk after its work ended so, with the bytes that are held from then on; None if that doesn't fit the work
abbrev pub ended : Desk → State → Completion → Option (Desk × List ℕ)
ended d (Busy (Write b)) (done.Wrote n) =
    if nat_le n (length b) then Some (wrote d b (Ok n), take n b) else None
ended d (Busy (Write b)) (done.Failed f) = Some (wrote d b (Err f), [])
ended d (Busy Flush) done.Flushed = Some (record d { state = Idle; flushed = Some (Ok tt) }, [])
ended d (Busy Flush) (done.Failed f) =
    Some (record d { state = Idle; flushed = Some (Err f) }, [])
ended d (Busy Remove) done.Removed = Some (record d { state = Closed }, [])
ended d (Busy Remove) (done.Failed f) = Some (record d { state = Closed; kept = Some f }, [])
ended d (Busy w) done.Gone = Some (record d { state = Closed; is_gone = true }, [])
ended d s c = None

abbrev pub completed : Desk → Completion → Option (Desk × List ℕ)
completed d c = ended d d.state c

-- ---- the end

-- the state after a commit
abbrev pub closed_state : State → State
closed_state Idle = Closed
closed_state (Busy w) = Busy w
closed_state Closed = Closed

abbrev pub closed : Desk → Desk
closed d = record d { state = closed_state d.state }

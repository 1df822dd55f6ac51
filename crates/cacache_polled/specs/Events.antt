-- Lists of polls and completions: what was answered and what is held after them.
use Rattle.std.specs.Prelude.{◌≡◌, ◌-◌, ◌^◌, ℕ, List, [], ◌∷◌, ◌++◌, length, min, take, Option, Some, None, Result, Ok, Err, IsOk, IfOk, IfErr, IfSome, IfNone, ⊤, if◌then◌else◌}
use Rattle.cacache_core.specs.{declared.errors.{Error.{Error, TheVariants.{OutOfMemory}}, Fault.{Fault}}, Hashers.{Holds, algorithm_of}, Integrity.{integrity_under}}
use Rattle.cacache_polled.specs.{declared.{kinds.{Work.TheVariants.{Write}, State.{State, TheVariants.{Idle, Busy, Closed}}, Finished.{Finished}, Desk.{Desk}, Polled.{Polled}, Completion.{Completion}, Finish.{Finish}}, writer_core.WriterCore.{WriterCore}}, Table.{Ask, ask_write, fresh, polled, completed}}
use Rattle.cacache_polled.specs.declared.kinds.Polled.TheVariants as polls
use Rattle.cacache_polled.specs.declared.kinds.Finish.TheVariants as finish

-- a poll, or a completion of the work that is out
pub data Event : Type 0 where
  asks : Ask → Event
  ends : Completion → Event

-- what happened so far: the desk, the bytes that are held, and the bytes of all answered writes
pub record Seen : Type 0 where
  pub desk : Desk
  pub held : List ℕ
  pub answered : List ℕ

-- the bytes of a write that this answer takes
abbrev pub taken_by : Ask → Polled → List ℕ
taken_by (ask_write b) (polls.Wrote n) = take n b
taken_by a p = []

abbrev pub after_ending : Seen → Option (Desk × List ℕ) → Seen
after_ending s None = s
after_ending s (Some d) = record { desk = d.0; held = s.held ++ d.1; answered = s.answered }

abbrev pub happens : Seen → Event → Seen
happens s (asks a) = record {
  desk = (polled s.desk a).0;
  held = s.held;
  answered = s.answered ++ taken_by a (polled s.desk a).1;
}
happens s (ends c) = after_ending s (completed s.desk c)

abbrev pub follow : Seen → List Event → Seen
follow s [] = s
follow s (e ∷ es) = follow (happens s e) es

-- after these polls and completions of a new core
abbrev pub seen : List Event → Seen
seen es = follow (record { desk = fresh; held = []; answered = [] }) es

-- ---- what is answered

-- a poll's answer, or whether a completion fitted
pub data Answer : Type 0 where
  says : Polled → Answer
  accepted : Answer
  refused : Answer

abbrev pub fits_as : Option (Desk × List ℕ) → Answer
fits_as None = refused
fits_as (Some d) = accepted

abbrev pub answer_in : Desk → Event → Answer
answer_in d (asks a) = says (polled d a).1
answer_in d (ends c) = fits_as (completed d c)

-- the answers of a new core to these polls and completions
abbrev pub answers_after : Seen → List Event → List Answer
answers_after s [] = []
answers_after s (e ∷ es) = answer_in s.desk e ∷ answers_after (happens s e) es

abbrev pub answers : List Event → List Answer
answers es = answers_after (record { desk = fresh; held = []; answered = [] }) es

-- ---- the core

-- how many bytes are counted: a count of 2^64 - 1 stays there
abbrev pub counted : List ℕ → ℕ
counted bytes = min (length bytes) (2 ^ 64 - 1)

-- the core holds these bytes
abbrev pub HasHeld : WriterCore → List ℕ → Type 0
HasHeld c m = Holds c.hasher m × (c.count ≡ counted m)

-- the core got these requests and completions, in this order, since it was new
pub record HasSeen (c : WriterCore) (es : List Event) : Type 0 where
  pub desk : c.desk ≡ (seen es).desk
  pub held : HasHeld c (seen es).held

-- ---- what a poll and an ending do to it

-- The poll is answered by the table, and changes the desk alone. Without memory it changes nothing.
pub record Answered (old new : WriterCore) (a : Ask) (r : Result Polled Error) : Type 0 where
  pub told : IfOk r (λ p. p ≡ (polled old.desk a).1)
  pub after : IfOk r (λ p. new.desk ≡ (polled old.desk a).0)
  pub held : new ≡ record old { desk = new.desk }
  pub err : IfErr r (λ e. (e ≡ OutOfMemory) × (new ≡ old))

-- The work ended by the table, which says what is held from then on. An ending that doesn't fit changes nothing.
pub record Ended (old new : WriterCore) (c : Completion) (r : Result ⊤ Completion) : Type 0 where
  pub refused : IfNone (completed old.desk c) ((r ≡ Err c) × (new ≡ old))
  pub desk : IfSome (completed old.desk c) (λ d. IsOk r × (new.desk ≡ d.0))
  pub held : IfSome (completed old.desk c)
      (λ d. (m : List ℕ) → HasHeld old m → HasHeld new (m ++ d.1))

-- ---- the end

-- an unanswered failed write, or what is held
abbrev pub finish_outcome : Result ℕ Fault → Finish → Finish
finish_outcome (Ok n) held = held
finish_outcome (Err f) held = finish.Failed f

abbrev pub finish_idle : Option Finished → Finish → Finish
finish_idle None held = held
finish_idle (Some f) held = finish_outcome f.outcome held

abbrev pub finish_in : Desk → State → Finish → Finish
finish_in d Idle held = finish_idle d.finished held
finish_in d (Busy w) held = finish.Busy
finish_in d Closed held = if d.is_gone then finish.Cancelled else finish.Closed

-- what a commit finds if these bytes are held
abbrev pub CommitFinds : WriterCore → List ℕ → Finish → Type 0
CommitFinds c m f =
    f ≡ finish_in c.desk c.desk.state
    (finish.Held (integrity_under (algorithm_of c.hasher) m) (counted m))

abbrev pub busy_state : State → Type 0
busy_state Idle = ⊥
busy_state (Busy w) = ⊤
busy_state Closed = ⊥

-- work is out
abbrev pub busy : Desk → Type 0
busy d = busy_state d.state

-- ---- what the laws say

-- the bytes that a finished write took
abbrev pub bytes_taken : List ℕ → Result ℕ Fault → List ℕ
bytes_taken b (Ok n) = take n b
bytes_taken b (Err f) = []

-- those of the finished write that isn't answered
abbrev pub unanswered : Option Finished → List ℕ
unanswered None = []
unanswered (Some f) = bytes_taken f.bytes f.outcome

-- this answer hands a write out
abbrev pub StartsWrite : Polled → Type 0
StartsWrite (polls.Start (Write b)) = ⊤
StartsWrite p = ⊥

-- no write is out
abbrev pub NoWriteOut : State → Type 0
NoWriteOut (Busy (Write b)) = ⊥
NoWriteOut s = ⊤

-- after any polls and completions, what is held is what was answered, followed by the bytes of at most one
-- finished write that isn't answered
abbrev pub HeldIsAnswered : Type 0
HeldIsAnswered =
    (es : List Event) → (seen es).held ≡ (seen es).answered ++ unanswered (seen es).desk.finished

-- while such a write or a write's work is there, no second one starts
abbrev pub OneWrite : Type 0
OneWrite =
    (es : List Event) (a : Ask) → StartsWrite (polled (seen es).desk a).1
    → NoWriteOut (seen es).desk.state × ((seen es).desk.finished ≡ None)

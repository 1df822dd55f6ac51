-- What callers do on one machine, act by act. System calls make each store step whole before the next act.
use Rattle.std.specs.Prelude.{◌≡◌, ◌⊎◌, ◌<◌, ◌+◌, ◌==◌, ℕ, Bool, List, [], ◌∷◌, Option, None, Some, option_map, if◌then◌else◌}
use Rattle.std_io.specs.declared.io.kind.ErrorKind.{ErrorKind}
use Rattle.cacache_core.specs.{declared.errors.Fault.{Fault}, Paths.{Names}}
use Rattle.cacache_store.specs.declared.store.step.Step.TheVariants as store
use Rattle.cacache_store.specs.declared.store.answer.Answer.TheVariants as answers
use Rattle.cacache_store.specs.Plain.{PlainStep, PlainAnswer, Fits}
use Rattle.cacache_disk.specs.declared.luck.Luck.{Luck}
use Rattle.cacache_system.specs.{declared.call.CallResult.TheVariants.{Failed}, AnswersOf.{answer_of}}
use Rattle.cacache_system_model.specs.{Machine.{Machine}, Laws.{step_on, answer_on, LeavesFresh}, Chains.{StepMade, temps_left, IsMade}}
use Rattle.cacache_calls.specs.{declared.{command.Command.{Command}, reply.Reply.{Reply}}, State.{State}, Table.{wants, after, opening}, Sound.{MayBegin}}
use Rattle.cacache_history.specs.{declared.record.Record.{Record, TheVariants.{Began, Moved, Stopped}}, Setup.{Setup, call_site, may_export, is_outside}, History.{Ends, NamesIntegrity}}

-- A caller begins a call. Its call makes the next store step, and is over if there is a reply. A call ends without a
-- step. A caller gives its call up.
pub data Act : Type 0 where
  begins : ℕ → Command → Act
  steps : ℕ → StepMade → Option Reply → Act
  ends : ℕ → Reply → Act
  stops : ℕ → Act

-- the machine, its open temporary files, the state of each caller's call, and how many calls have begun
pub record SystemState : Type 0 where
  pub machine : Machine
  pub temps : Names → Bool
  pub states : ℕ → Option State
  pub begun : ℕ

-- the step that was made, with its handles as they are on the machine
abbrev pub step_of : StepMade → PlainStep
step_of s = step_on s.before s.step

-- its answer, with the handles as they are on the machine
abbrev pub answer_in : StepMade → PlainAnswer
answer_in s = answer_on s.after (answer_of s.step s.end)

-- a step failed, left the tree as it was, and ended its call
pub record EndsFailed (made : StepMade) (reply : Option Reply) : Type 0 where
  pub why : ErrorKind
  pub failed : made.end ≡ Failed why
  pub same : made.after.tree ≡ made.before.tree
  pub last : Reply
  pub over : reply ≡ Some last

-- one caller's call is in another state, or there is none
abbrev pub set_state : ℕ → Option State → (ℕ → Option State) → ℕ → Option State
set_state caller state states k = if k == caller then state else states k

-- a call with a reply is over
abbrev pub unless_ended : Option Reply → Option State → Option State
unless_ended None state = state
unless_ended (Some reply) state = None

-- a caller has no call any more
abbrev pub without_call : ℕ → SystemState → SystemState
without_call caller w = record {
  machine = w.machine;
  temps = w.temps;
  states = set_state caller None w.states;
  begun = w.begun;
}

-- the state after an act
abbrev pub after_act : Setup → SystemState → Act → SystemState
after_act s w (begins caller command) = record {
  machine = w.machine;
  temps = w.temps;
  states = set_state caller (Some (opening (call_site s w.begun) command)) w.states;
  begun = w.begun + 1;
}
after_act s w (steps caller made reply) = record {
  machine = made.after;
  temps = temps_left w.temps made;
  states = set_state caller
      (unless_ended reply (option_map (λ state. after state (answer_in made)) (w.states caller)))
      w.states;
  begun = w.begun;
}
after_act s w (ends caller reply) = without_call caller w
after_act s w (stops caller) = without_call caller w

-- the state after these acts
abbrev pub after_acts : Setup → SystemState → List Act → SystemState
after_acts s w [] = w
after_acts s w (act ∷ acts) = after_acts s (after_act s w act) acts

-- an answer fits its step, if the step is of a kind for which that doesn't follow from the disk's table
abbrev pub NeedsFit : PlainStep → PlainAnswer → Type 0
NeedsFit (store.Open p) a = Fits (store.Open p) a
NeedsFit (store.ReadDir p) a = Fits (store.ReadDir p) a
NeedsFit step a = Unit {0}

-- A call makes the step that its state wants. A law covers the step, whose system calls are a run that happened on the
-- machine, or it failed and ended the call. It left no file that it failed to use. The answer fits, and ends the call or
-- not.
pub record MakesStep (w : SystemState) (caller : ℕ) (made : StepMade) (reply : Option Reply) : Type 0 where
  pub state : State
  pub stands : w.states caller ≡ Some state
  pub here : made.before ≡ w.machine
  pub wanted : wants state ≡ Some (step_of made)
  pub is_made : IsMade w.temps made ⊎ EndsFailed made reply
  pub clean : LeavesFresh made.before made.step (answer_of made.step made.end) made.after → ⊥
  pub fits : NeedsFit (step_of made) (answer_in made)
  pub over : Ends (after state (answer_in made)) reply

-- a caller without a call begins one; one with a call makes its step, or gives it up
abbrev pub MayAct : Setup → SystemState → Act → Type 0
MayAct s w (begins caller command) =
    (caller < s.callers) × (w.states caller ≡ None)
    × MayBegin (call_site s w.begun) (may_export s) (is_outside s) command × NamesIntegrity command
MayAct s w (steps caller made reply) = MakesStep w caller made reply
MayAct s w (ends caller reply) =
    (state : State) × (w.states caller ≡ Some state) × (wants state ≡ None) × Ends state (Some reply)
MayAct s w (stops caller) = (state : State) × (w.states caller ≡ Some state)

-- this rule allows each act after the acts before it
abbrev pub EachMay : (SystemState → Act → Type 0) → Setup → SystemState → List Act → Type 0
EachMay May s w [] = Unit {0}
EachMay May s w (act ∷ acts) = May w act × EachMay May s (after_act s w act) acts

-- ---- as records

-- The record of a step has its answer and the call's reply. A step that came back for want of memory is recorded as one
-- that failed.
abbrev pub IsMoved : ℕ → StepMade → Option Reply → Record → Type 0
IsMoved caller made reply r =
    (luck : Luck) × (answer : PlainAnswer)
    × (r ≡ Moved caller luck (Some (step_of made, answer)) reply)
    × ((answer ≡ answer_in made)
    ⊎ ((answer_of made.step made.end ≡ answers.NoMemory made.step)
    × (fault : Fault) × (answer ≡ answers.Failed fault)))

-- if a step failed and ended its call, the caller may be recorded as giving the call up
abbrev pub IsRecordOf : Act → Record → Type 0
IsRecordOf (begins caller command) r = r ≡ Began caller command
IsRecordOf (steps caller made reply) r =
    IsMoved caller made reply r ⊎ ((r ≡ Stopped caller) × EndsFailed made reply)
IsRecordOf (ends caller reply) r = (luck : Luck) × (r ≡ Moved caller luck None (Some reply))
IsRecordOf (stops caller) r = r ≡ Stopped caller

-- each act's record, in their order
abbrev pub AreRecordsOf : List Act → List Record → Type 0
AreRecordsOf [] records = records ≡ []
AreRecordsOf (act ∷ acts) records =
    (r : Record) × (more : List Record) × (records ≡ r ∷ more) × IsRecordOf act r × AreRecordsOf acts more

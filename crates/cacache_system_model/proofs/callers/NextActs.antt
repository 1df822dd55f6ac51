-- Callers over a store of real folders, whose states have the bytes that temporary files hold on the machine.
use Rattle.std.proofs.Common.{◌≡◌, ◌≤◌, ◌+◌, ◌^◌, ℕ, Option, Some}
use Rattle.cacache_store.specs.{declared.store.plain.PlainFile.{PlainFile}, Plain.{PlainStep}}
use Rattle.cacache_system.specs.{Seen.{NumberedFile, NumberedTemp}, CallsOf.{Runs}, AnswersOf.{first}}
use Rattle.cacache_system_model.specs.{Calls.{OccursSomehow, EachCall}, Chains.{StepMade}, callers.{Acts.{Act, begins, steps as makes, ends, stops, SystemState, step_of, answer_in, NeedsFit, after_act, MayAct}, Storing.{HintStands, IsExplained, IsClean}, Seen.{step_seen, held_after, open_after, IsOnHeld, SparesTemps}}}
use Rattle.cacache_system_model.proofs.callers.WithoutBytes.{step_without}
use Rattle.cacache_calls.specs.{declared.reply.Reply.{Reply}, State.{State}, Table.{wants, after}}
use Rattle.cacache_history.specs.{Setup.{Setup}, History.{Ends}}

-- the state of the system, and the temporary and the open file that each caller was handed last
pub record NumberedState : Type 0 where
  pub system : SystemState
  pub held : ℕ → Option NumberedTemp
  pub opened : ℕ → Option (NumberedFile × PlainFile)

-- all after an act
abbrev pub numbered_after : Setup → NumberedState → Act → NumberedState
numbered_after s f act = record {
  system = after_act s f.system act;
  held = held_after f.held act;
  opened = open_after f.opened act;
}

-- a call makes its next step, as a store of real folders does
pub record MakesNextStep (f : NumberedState) (caller : ℕ) (made : StepMade)
    (reply : Option Reply) : Type 0 where
  -- it is the step that the call's state wants, but for what handles hold
  pub state : State
  pub stands : f.system.states caller ≡ Some state
  pub plain : PlainStep
  pub wanted : wants state ≡ Some plain
  pub same : step_without plain ≡ step_without (step_seen made.step)
  pub held : IsOnHeld made.before (f.held caller) (f.opened caller) made.step
  pub spares : SparesTemps f.system.states state
  -- its system calls are a run, and happened under any luck where the calls before them ended
  pub here : made.before ≡ f.system.machine
  pub runs : Runs (first made.hint made.step) made.items made.end
  pub each : EachCall OccursSomehow made.before made.items made.after
  pub luck : IsExplained made reply
  pub hint : HintStands made.before made.hint made.step
  pub clean : IsClean made
  pub fits : NeedsFit (step_of made) (answer_in made)
  -- its answer ends the call or not
  pub over : Ends (after state (answer_in made)) reply

-- an act of such calls, each of which has a number, and so a temporary file, of its own
abbrev pub MayNext : Setup → NumberedState → Act → Type 0
MayNext s f (begins caller command) =
    MayAct s f.system (begins caller command) × (f.system.begun + 1 ≤ 2 ^ 64)
MayNext s f (makes caller made reply) = MakesNextStep f caller made reply
MayNext s f (ends caller reply) = MayAct s f.system (ends caller reply)
MayNext s f (stops caller) = MayAct s f.system (stops caller)

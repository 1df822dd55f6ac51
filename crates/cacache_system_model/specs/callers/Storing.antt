-- Steps of calls. Most of what their laws ask of the machine's tree follows from the acts before them.
use Rattle.std.specs.Prelude.{◌≡◌, ◌⊎◌, ℕ, Bool, true, List, Option, None, Some, Ok, IfOk}
use Rattle.std_io.specs.declared.io.kind.ErrorKind.TheVariants as kind
use Rattle.cacache_core.specs.Paths.{Names, names_of}
use Rattle.cacache_store.specs.Plain.{PlainStep}
use Rattle.cacache_store.specs.declared.store.step.Step.TheVariants as steps
use Rattle.cacache_system.specs.{declared.call.CallResult.TheVariants.{Failed}, Seen.{NumberedTemp, NumberedStep}, CallsOf.{Runs}, AnswersOf.{Hint, first, answer_of}}
use Rattle.cacache_system_model.specs.{Machine.{Machine}, Calls.{GoesWell, OccursSomehow, EachCall}, Laws.{LeavesFresh, IsDone}, StepLaws.{IsOpenAt, MayReplace}, Writing.{CanCopy}, Listing.{CanList}, Premises.{IsOpen, HasPlainLaw}, Chains.{StepMade}, callers.{Acts.{Act, begins, steps as makes, ends, stops, SystemState, EndsFailed, step_of, answer_in, NeedsFit, MayAct}, Made.{MakeHistories}}}
use Rattle.cacache_calls.specs.{declared.reply.Reply.{Reply}, State.{State}, Table.{wants, after}}
use Rattle.cacache_value.specs.Kinds.{PathKind, Temporary, Way, path_kind, IsFor}
use Rattle.cacache_history.specs.{Setup.{Setup, home}, History.{Ends}}

-- a path isn't of this kind
abbrev pub IsNotFor : Option Names → PathKind → List ℕ → Type 0
IsNotFor h k path = IfOk (names_of path) (λ names. path_kind h names ≡ k → ⊥)

-- a step reads, links and syncs no temporary file by its path
abbrev pub Stores : Option Names → PlainStep → Type 0
Stores h (steps.ReadAll p) = IsNotFor h Temporary p
Stores h (steps.Open p) = IsNotFor h Temporary p
Stores h (steps.Size p) = IsNotFor h Temporary p
Stores h (steps.Copy p q) = IsNotFor h Temporary p
Stores h (steps.Reflink p q) = IsNotFor h Temporary p
Stores h (steps.HardLink p q) = IsNotFor h Temporary p
Stores h (steps.SyncFile p) = IsNotFor h Temporary p
Stores h (steps.SyncDir p) = IsFor h Way p
Stores h step = Unit {0}

-- a temporary file is open under its number, at the names where it was made
pub record IsHeld (temps : Names → Bool) (m : Machine) (temp : NumberedTemp) : Type 0 where
  pub names : Names
  pub named : names_of temp.path ≡ Ok names
  pub is_temp : temps names ≡ true
  pub opened : IsOpenAt m temp.number names

-- the temporary file of a step is open so
abbrev pub HoldsTemp : (Names → Bool) → Machine → NumberedStep → Type 0
HoldsTemp temps m (steps.Write t bytes) = IsHeld temps m t
HoldsTemp temps m (steps.Persist t p) = IsHeld temps m t
HoldsTemp temps m (steps.SyncTemp t) = IsHeld temps m t
HoldsTemp temps m step = Unit {0}

-- What doesn't follow from the acts before a step. The file that it replaces, if that was read, can be looked at. A file that
-- it reads is open. A copy can be made, and a folder can be listed.
abbrev pub HintStands : Machine → Hint → NumberedStep → Type 0
HintStands m hint (steps.Persist temp p) = MayReplace m.tree hint p
HintStands m hint (steps.Read f max) = IsOpen m f
HintStands m hint (steps.Copy p q) = CanCopy m q
HintStands m hint (steps.ReadDir p) = CanList m p
HintStands m hint step = Unit {0}

-- none of a step's calls fails without cause, and it has what its law then asks
abbrev pub GoesByLaw : StepMade → Type 0
GoesByLaw made =
    HasPlainLaw made.before made.step
    × EachCall (GoesWell None) made.before made.items made.after
    × (made.end ≡ Failed kind.OutOfMemory → ⊥)

-- The disk's table does the step. Or none of its calls fails without cause, and the table may refuse it. Or it fails,
-- leaves the tree as it was, and ends its call.
abbrev pub IsExplained : StepMade → Option Reply → Type 0
IsExplained made reply =
    IsDone made.before made.step ⊎ (GoesByLaw made ⊎ EndsFailed made reply)

-- it left no file that it failed to use
abbrev pub IsClean : StepMade → Type 0
IsClean made = LeavesFresh made.before made.step (answer_of made.step made.end) made.after → ⊥

-- a call makes such a step, by system calls that happened on the machine
pub record MakesStoringStep (h : Option Names) (w : SystemState) (caller : ℕ) (made : StepMade)
    (reply : Option Reply) : Type 0 where
  -- it is the step that the call's state wants, with its handles as they are on the machine
  pub state : State
  pub stands : w.states caller ≡ Some state
  pub here : made.before ≡ w.machine
  pub wanted : wants state ≡ Some (step_of made)
  pub stores : Stores h (step_of made)
  pub holds : HoldsTemp w.temps made.before made.step
  -- its system calls are a run, and happened under any luck
  pub runs : Runs (first made.hint made.step) made.items made.end
  pub each : EachCall OccursSomehow made.before made.items made.after
  pub luck : IsExplained made reply
  pub hint : HintStands made.before made.hint made.step
  pub clean : IsClean made
  -- a file that it opens has fewer than 2^64 bytes, and each name that it lists is proper
  pub fits : NeedsFit (step_of made) (answer_in made)
  -- its answer ends the call or not
  pub over : Ends (after state (answer_in made)) reply

-- an act of such calls
abbrev pub MayStore : Setup → SystemState → Act → Type 0
MayStore s w (begins caller command) = MayAct s w (begins caller command)
MayStore s w (makes caller made reply) = MakesStoringStep (home s) w caller made reply
MayStore s w (ends caller reply) = MayAct s w (ends caller reply)
MayStore s w (stops caller) = MayAct s w (stops caller)

-- acts on one machine make a legal history, if each step has what `MayStore` asks
abbrev pub StoringMakeHistories : Type 0
StoringMakeHistories = MakeHistories MayStore

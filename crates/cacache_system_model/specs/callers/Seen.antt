-- Callers over stores of real folders, as the contracts of these stores see them: with handles that have no bytes.
use Rattle.std.specs.Prelude.{◌≡◌, ◌≤◌, ◌<◌, ◌+◌, ◌^◌, ◌==◌, ℕ, List, [], ◌∷◌, ◌++◌, Option, None, Some, option_map, if◌then◌else◌}
use Rattle.cacache_core.specs.Paths.{names_of}
use Rattle.cacache_store.specs.{declared.store.plain.{PlainFile.{PlainFile}, PlainTemp.{PlainTemp}}, Plain.{PlainStep, PlainAnswer}}
use Rattle.cacache_store.specs.declared.store.step.Step.TheVariants as store
use Rattle.cacache_store.specs.declared.store.answer.Answer.TheVariants as answers
use Rattle.cacache_system.specs.{Seen.{NumberedFile, NumberedTemp, NumberedStep, NumberedAnswer, step_as, answer_as}, CallsOf.{Runs}, AnswersOf.{first, answer_of}}
use Rattle.cacache_system_model.specs.{Machine.{Machine}, Calls.{OccursSomehow, EachCall}, Laws.{file_on}, Chains.{StepMade}, callers.{Acts.{Act, begins, steps, ends, stops, step_of, answer_in, NeedsFit, set_state, unless_ended, after_acts, AreRecordsOf}, Made.{history_of, now_left, CacheOn, system_at, MakesHistory}, Storing.{HintStands, IsExplained, IsClean}}}
use Rattle.cacache_calls.specs.{declared.{reply.Reply.{Reply}, visit.Visit.TheVariants.{RemoveFile}}, State.{State, doing, writing, syncing, persisting, walking}, Table.{wants, after, opening}, Sound.{MayBegin}}
use Rattle.cacache_history.specs.{declared.record.Record.{Record}, Setup.{Setup, call_site, may_export, is_outside}, History.{History, Ends, NamesIntegrity}}

-- an open file of a store of real folders, as contracts see it
abbrev pub seen_file : NumberedFile → PlainFile
seen_file file = record { left = file.left; bytes = None }

-- a temporary file of one, as contracts see it
abbrev pub seen_temp : NumberedTemp → PlainTemp
seen_temp temp = record { path = temp.path; bytes = None }

-- a step as contracts see it
abbrev pub step_seen : NumberedStep → PlainStep
step_seen step = step_as seen_file seen_temp step

-- an answer as contracts see it
abbrev pub answer_seen : NumberedAnswer → PlainAnswer
answer_seen answer = answer_as seen_file seen_temp answer

-- the temporary file that an answer hands out, or the one before it
abbrev pub handed : NumberedAnswer → Option NumberedTemp → Option NumberedTemp
handed (answers.Temp t) old = Some t
handed (answers.Wrote t n) old = Some t
handed (answers.Synced t) old = Some t
handed answer old = old

-- the open file that an answer hands out with what it has left then, or the one before it
abbrev pub handed_open : Machine → NumberedAnswer → Option (NumberedFile × PlainFile)
    → Option (NumberedFile × PlainFile)
handed_open m (answers.File f) old = Some (f, file_on m f)
handed_open m (answers.Got f bytes) old = Some (f, file_on m f)
handed_open m answer old = old

-- the temporary file that each caller was handed last, after an act
abbrev pub held_after : (ℕ → Option NumberedTemp) → Act → ℕ → Option NumberedTemp
held_after held (steps caller made reply) k =
    if k == caller then handed (answer_of made.step made.end) (held caller) else held k
held_after held act k = held k

-- the open file that each caller was handed last, after an act
abbrev pub open_after : (ℕ → Option (NumberedFile × PlainFile)) → Act → ℕ
    → Option (NumberedFile × PlainFile)
open_after opened (steps caller made reply) k =
    if k == caller then handed_open made.after (answer_of made.step made.end) (opened caller)
    else opened k
open_after opened act k = opened k

-- the machine, the state of each caller's call as contracts see it, the temporary and the open file that it was handed
-- last, and how many calls have begun
pub record SeenState : Type 0 where
  pub machine : Machine
  pub states : ℕ → Option State
  pub held : ℕ → Option NumberedTemp
  pub opened : ℕ → Option (NumberedFile × PlainFile)
  pub begun : ℕ

-- a caller has no call any more
abbrev pub without_call : ℕ → SeenState → SeenState
without_call caller f = record {
  machine = f.machine;
  states = set_state caller None f.states;
  held = f.held;
  opened = f.opened;
  begun = f.begun;
}

-- the state after an act
abbrev pub after_seen : Setup → SeenState → Act → SeenState
after_seen s f (begins caller command) = record {
  machine = f.machine;
  states = set_state caller (Some (opening (call_site s f.begun) command)) f.states;
  held = f.held;
  opened = f.opened;
  begun = f.begun + 1;
}
after_seen s f (steps caller made reply) = record {
  machine = made.after;
  states = set_state caller
      (unless_ended reply (option_map (λ state. after state (answer_seen (answer_of made.step made.end))) (f.states caller)))
      f.states;
  held = held_after f.held (steps caller made reply);
  opened = open_after f.opened (steps caller made reply);
  begun = f.begun;
}
after_seen s f (ends caller reply) = without_call caller f
after_seen s f (stops caller) = without_call caller f

-- A step on a temporary file is on the one that its caller was handed last. So is a step on an open file, which has the same
-- bytes left as it had then.
abbrev pub IsOnHeld : Machine → Option NumberedTemp → Option (NumberedFile × PlainFile)
    → NumberedStep → Type 0
IsOnHeld m held opened (store.Write t bytes) = held ≡ Some t
IsOnHeld m held opened (store.Persist t p) = held ≡ Some t
IsOnHeld m held opened (store.Read f max) = opened ≡ Some (f, file_on m f)
IsOnHeld m held opened (store.SyncTemp t) = held ≡ Some t
IsOnHeld m held opened step = Unit {0}

-- the path of the temporary file that a state is about
abbrev pub temp_of : State → Option (List ℕ)
temp_of (doing errand s) = temp_of s
temp_of (writing c file rest) = Some file.path
temp_of (syncing c file) = Some file.path
temp_of (persisting c file) = Some file.path
temp_of state = None

-- A clear removes no temporary file of a call that is on its way. After that the disk's table would refuse this call's next
-- write, and a system wouldn't.
abbrev pub SparesTemps : (ℕ → Option State) → State → Type 0
SparesTemps states (walking w (RemoveFile p) todo) =
    (caller : ℕ) (state : State) (path : List ℕ) → states caller ≡ Some state
    → temp_of state ≡ Some path → names_of p ≡ names_of path → ⊥
SparesTemps states state = Unit {0}

-- A call makes the step that its state wants, as contracts see it, and the answer ends the call or not. The step's system
-- calls are a run, and happened where the calls before them ended.
pub record MakesSeenStep (f : SeenState) (caller : ℕ) (made : StepMade) (reply : Option Reply) : Type 0 where
  pub state : State
  pub stands : f.states caller ≡ Some state
  pub wanted : wants state ≡ Some (step_seen made.step)
  pub held : IsOnHeld made.before (f.held caller) (f.opened caller) made.step
  pub spares : SparesTemps f.states state
  pub here : made.before ≡ f.machine
  pub runs : Runs (first made.hint made.step) made.items made.end
  pub each : EachCall OccursSomehow made.before made.items made.after
  pub luck : IsExplained made reply
  pub hint : HintStands made.before made.hint made.step
  pub clean : IsClean made
  pub fits : NeedsFit (step_of made) (answer_in made)
  pub over : Ends (after state (answer_seen (answer_of made.step made.end))) reply

-- an act of calls of any command
abbrev pub MayActSeen : Setup → SeenState → Act → Type 0
MayActSeen s f (begins caller command) =
    (caller < s.callers) × (f.states caller ≡ None)
    × MayBegin (call_site s f.begun) (may_export s) (is_outside s) command × NamesIntegrity command
    × (f.begun + 1 ≤ 2 ^ 64)
MayActSeen s f (steps caller made reply) = MakesSeenStep f caller made reply
MayActSeen s f (ends caller reply) =
    (state : State) × (f.states caller ≡ Some state) × (wants state ≡ None) × Ends state (Some reply)
MayActSeen s f (stops caller) = (state : State) × (f.states caller ≡ Some state)

-- each act may come after the acts before it
abbrev pub EachSeen : Setup → SeenState → List Act → Type 0
EachSeen s f [] = Unit {0}
EachSeen s f (act ∷ acts) = MayActSeen s f act × EachSeen s (after_seen s f act) acts

-- before any act
abbrev pub seen_at : (s : Setup) (m : Machine) → CacheOn s m → SeenState
seen_at s m cache = record {
  machine = m;
  states = λ caller. None;
  held = λ caller. None;
  opened = λ caller. None;
  begun = (now_left s cache.past).begun;
}

-- acts on one machine make a legal history, if the system calls of each store step follow one another
abbrev pub SeenMakeHistories : Type 0
SeenMakeHistories =
    (s : Setup) (m : Machine) (cache : CacheOn s m) (acts : List Act)
    → EachSeen s (seen_at s m cache) acts
    → MakesHistory s cache.past acts (after_acts s (system_at s m cache) acts)

-- each list of such acts on one machine goes on with the history of its cache, to one with this property
abbrev pub SeenActsAre : (History → Type 0) → Type 0
SeenActsAre Has =
    (s : Setup) (m : Machine) (cache : CacheOn s m) (acts : List Act)
    → EachSeen s (seen_at s m cache) acts
    → (records : List Record) × AreRecordsOf acts records × Has (history_of s (cache.past ++ records))

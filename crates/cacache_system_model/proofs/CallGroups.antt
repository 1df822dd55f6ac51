-- The calls of each step of a log.
use Rattle.std.{proofs.Common.{◌≡◌, ℕ, Bool, true, false, if◌then◌else◌, List, [], ◌∷◌, ◌++◌, map, refl, sym, ap, subst, ◌∙◌}, specs.{Prelude.{Option}, List.{flat_map}}}
use Rattle.cacache_store.specs.{declared.store.{step.Step.{Step}, answer.Answer.{Answer}, log.LogItem.TheVariants.{Made}}, Plain.{PlainStep, PlainAnswer, plain_step, plain_answer, is_no_memory}}
use Rattle.cacache_store.specs.declared.store.step.Step.TheVariants as steps
use Rattle.cacache_store.specs.declared.store.answer.Answer.TheVariants as answers
use Rattle.cacache_system.specs.{declared.call.{SystemCall.{SystemCall}, CallResult.{CallResult}, CallItem.{CallItem}}, Seen.{GainsCalls, NumberedStep}, AnswersOf.{Hint, first, answer_of}}
use Rattle.cacache_system.specs.CallsOf as system
use Rattle.cacache_folder.specs.{declared.folder.{opened.SystemFile.{SystemFile}, temp.SystemTemp.{SystemTemp}}, FolderHandles.{seen_file, seen_temp}, FolderNumbers.{numbered, answered}, StepsMade.{StepMade, items_of, StepsRun}}
use Rattle.cacache_calls.specs.{Runs.{Moves}, Licence.{May, allows, looking_on, AllMay}}
use Rattle.cacache_system_model.{specs.CallForms.{changes_nothing, Form, Only, kept, LoggedCalls}, proofs.StepCalls.{plain_of, plain_said, step_looks}}

abbrev Log : Type 0
Log = Option (List CallItem)

-- ---- the calls of each step of a log

-- calls are a run of a step that a log has so
abbrev pub Own : PlainStep → PlainAnswer → Form
Own step said own =
    (made : NumberedStep) × (hint : Hint) × (end : CallResult) × system.Runs (first hint made) own end × (plain_of made ≡ step) × (plain_said (answer_of made end) ≡ said)

-- calls are runs of these steps, one after another
abbrev pub OwnEach : Moves → Form
OwnEach [] calls = calls ≡ []
OwnEach (m ∷ run) calls = (own rest : List CallItem) × (calls ≡ own ++ rest) × Own m.0 m.1 own × OwnEach run rest

module _ {Y F D : Type 0} where
  step_seen : (number : F → ℕ) (step : Step (SystemFile Y F D) (SystemTemp Y F D)) → plain_of (numbered number step) ≡ plain_step seen_file seen_temp step
  step_seen number (steps.MakeDirs p) = refl
  step_seen number step = refl

  answer_seen : (number : F → ℕ) (answer : Answer (SystemFile Y F D) (SystemTemp Y F D)) → plain_said (answered number answer) ≡ plain_answer seen_file seen_temp answer
  answer_seen number (answers.NoMemory step) = ap answers.NoMemory (step_seen number step)
  answer_seen number answer = refl

  abbrev Grouped : (F → ℕ) → List (StepMade Y F D) → Moves → Log → Log → Type 0
  Grouped number made run old new = (calls : List CallItem) × LoggedCalls number made old new calls × OwnEach run calls

  group_more : (number : F → ℕ) (made : StepMade Y F D) (later : List (StepMade Y F D)) (run : Moves) (old between new : Log) (hint : Hint) (end : CallResult) (own : List CallItem)
      → system.Runs (first hint (numbered number made.0)) own end → GainsCalls old between own → answered number made.1 ≡ answer_of (numbered number made.0) end
      → (b : Bool) → is_no_memory (plain_answer seen_file seen_temp made.1) ≡ b
      → (if b then [] else Made (plain_step seen_file seen_temp made.0) (plain_answer seen_file seen_temp made.1) ∷ []) ++ flat_map items_of later ≡ map (λ m. Made m.0 m.1) run
      → ((rest : Moves) → flat_map items_of later ≡ map (λ m. Made m.0 m.1) rest → Grouped number later rest between new) → Grouped number (made ∷ later) run old new
  group_more number made later run old between new hint end own runs gains is true none log go =
      let more = go run log in
      (more.0, (hint, end, own, more.0, between, runs, gains, is, more.1, ap (λ (c : Bool). kept c own ++ more.0) (sym none)), more.2)
  group_more number made later [] old between new hint end own runs gains is false none log go = absurd cc
  group_more number made later (m ∷ run) old between new hint end own runs gains is false none log go =
      let all : Made (plain_step seen_file seen_temp made.0) (plain_answer seen_file seen_temp made.1) ∷ flat_map items_of later ≡ Made m.0 m.1 ∷ map (λ m. Made m.0 m.1) run = log in
      let step : plain_step seen_file seen_temp made.0 ≡ m.0 = cc in
      let answer : plain_answer seen_file seen_temp made.1 ≡ m.1 = cc in
      let others : flat_map items_of later ≡ map (λ m. Made m.0 m.1) run = cc in
      let more = go run others in (
        own ++ more.0,
        (hint, end, own, more.0, between, runs, gains, is, more.1, ap (λ (c : Bool). kept c own ++ more.0) (sym none)),
        (own, more.0, refl, (numbered number made.0, hint, end, runs, step_seen number made.0 ∙ step, ap plain_said (sym is) ∙ answer_seen number made.1 ∙ answer), more.2),
      )

  pub grouped : (number : F → ℕ) (made : List (StepMade Y F D)) (run : Moves) (old new : Log) → StepsRun number made old new → flat_map items_of made ≡ map (λ m. Made m.0 m.1) run → Grouped number made run old new
  grouped number [] [] old new same log = ([], (same, refl), refl)
  grouped number [] (m ∷ run) old new same log = absurd cc
  grouped number (made ∷ later) run old new (between, (hint, end, (own, runs, gains), is), others) log =
      group_more number made later run old between new hint end own runs gains is (is_no_memory (plain_answer seen_file seen_temp made.1)) refl log
      (λ rest same. grouped number later rest between new others same)

-- ---- a call that only looks

pub only_append : (k : SystemCall → Bool) (xs ys : List CallItem) → Only k xs → Only k ys → Only k (xs ++ ys)
only_append k [] ys h g = g
only_append k (x ∷ xs) ys h g = (h.0, only_append k xs ys h.1 g)

pub looks_each : (run : Moves) (calls : List CallItem) → AllMay looking_on run → OwnEach run calls → Only changes_nothing calls
looks_each [] calls may none = subst (Only changes_nothing) (sym none) tt
looks_each (m ∷ run) calls may (own, rest, same, (made, hint, end, runs, step, said), each) =
    subst (Only changes_nothing) (sym same)
    (only_append changes_nothing own rest (step_looks made hint own end (subst (λ (s : PlainStep). May (allows looking_on s)) (sym step) may.0) runs) (looks_each run rest may.1 each))

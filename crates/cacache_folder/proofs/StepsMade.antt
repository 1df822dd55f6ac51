-- A store's steps, their log and their calls grow by one step, and are cut in two as the log is.
use Rattle.std.proofs.{Common.{◌≡◌, ℕ, Bool, true, false, if◌then◌else◌, List, [], ◌∷◌, ◌++◌, refl, sym, ap, subst, ◌∙◌, append-nil}, lemmas.List.{flat_map_more}}
use Rattle.std.specs.{Prelude.{None, Some, option_map, Option}, List.{flat_map}}
use Rattle.cacache_store.specs.{declared.store.{step.Step.{Step}, answer.Answer.{Answer}, log.LogItem.{LogItem, TheVariants.{Made}}}, Plain.{plain_step, plain_answer, Logs, is_no_memory}}
use Rattle.cacache_system.specs.AnswersOf.{StepRuns}
use Rattle.cacache_folder.specs.{declared.folder.{opened.SystemFile.{SystemFile}, temp.SystemTemp.{SystemTemp}}, FolderHandles.{seen_file, seen_temp}, FolderNumbers.{numbered, answered}, StepsMade.{StepMade, items_of, log_of, StepsRun, CallsInParts}, Listings.{Log}}

-- a log of items gains one, or nothing if memory was refused
log_gains : (refused : Bool) (made : LogItem) (items : List LogItem)
    → Some (items ++ (if refused then [] else made ∷ [])) ≡ (if refused then Some items else option_map (λ log. log ++ made ∷ []) (Some items))
log_gains true made items = ap Some (append-nil items)
log_gains false made items = refl

-- no log gains nothing
none_gains : (refused : Bool) (made : LogItem) → None ≡ (if refused then None else option_map (λ log. log ++ made ∷ []) None)
none_gains true made = refl
none_gains false made = refl

abbrev StepOf : Type 0 → Type 0 → Type 0 → Type 0
StepOf Y F D = Step (SystemFile Y F D) (SystemTemp Y F D)

abbrev AnswerOf : Type 0 → Type 0 → Type 0 → Type 0
AnswerOf Y F D = Answer (SystemFile Y F D) (SystemTemp Y F D)

module _ {Y F D : Type 0} where
  kept_gains : (steps : List (StepMade Y F D)) (step : StepOf Y F D) (answer : AnswerOf Y F D)
      → Logs (Some (flat_map items_of steps)) (Some (flat_map items_of (steps ++ (step, answer) ∷ []))) (plain_step seen_file seen_temp step) (plain_answer seen_file seen_temp answer)
  kept_gains steps step answer =
      ap Some (sym (flat_map_more items_of [] steps (step, answer)))
      ∙ log_gains (is_no_memory (plain_answer seen_file seen_temp answer)) (Made (plain_step seen_file seen_temp step) (plain_answer seen_file seen_temp answer)) (flat_map items_of steps)

  gains : (began : Log) (steps : List (StepMade Y F D)) (step : StepOf Y F D) (answer : AnswerOf Y F D)
      → Logs (log_of began steps) (log_of began (steps ++ (step, answer) ∷ [])) (plain_step seen_file seen_temp step) (plain_answer seen_file seen_temp answer)
  gains (Some (call ∷ calls)) steps step answer =
      none_gains (is_no_memory (plain_answer seen_file seen_temp answer)) (Made (plain_step seen_file seen_temp step) (plain_answer seen_file seen_temp answer))
  gains began steps step answer = kept_gains steps step answer

  -- the log gains the step and its answer
  pub log_gains_step : (began : Log) (steps new : List (StepMade Y F D)) (step : StepOf Y F D) (answer : AnswerOf Y F D) → new ≡ steps ++ (step, answer) ∷ []
      → Logs (log_of began steps) (log_of began new) (plain_step seen_file seen_temp step) (plain_answer seen_file seen_temp answer)
  log_gains_step began steps new step answer is =
      subst (λ (all : List (StepMade Y F D)). Logs (log_of began steps) (log_of began all) (plain_step seen_file seen_temp step) (plain_answer seen_file seen_temp answer)) (sym is)
      (gains began steps step answer)

  runs_then : (number : F → ℕ) (steps : List (StepMade Y F D)) (step : StepOf Y F D) (answer : AnswerOf Y F D) (old between new : Log) → StepsRun number steps old between
      → StepRuns (numbered number step) (answered number answer) between new → StepsRun number (steps ++ (step, answer) ∷ []) old new
  runs_then number [] step answer old between new same run =
      (new, subst (λ (log : Log). StepRuns (numbered number step) (answered number answer) log new) same run, refl)
  runs_then number (made ∷ later) step answer old between new (middle, one, runs) run =
      (middle, one, runs_then number later step answer middle between new runs run)

  -- the calls gain a run of the step
  pub runs_gain_step : (number : F → ℕ) (steps all : List (StepMade Y F D)) (step : StepOf Y F D) (answer : AnswerOf Y F D) (old between new : Log) → StepsRun number steps old between
      → StepRuns (numbered number step) (answered number answer) between new → all ≡ steps ++ (step, answer) ∷ [] → StepsRun number all old new
  runs_gain_step number steps all step answer old between new runs run is =
      subst (λ (made : List (StepMade Y F D)). StepsRun number made old new) (sym is) (runs_then number steps step answer old between new runs run)

  -- a copy of the step is logged as the step
  pub added_as : (steps new : List (StepMade Y F D)) (copy step : StepOf Y F D) (answer : AnswerOf Y F D) → new ≡ steps ++ (copy, answer) ∷ [] → copy ≡ step
      → new ≡ steps ++ (step, answer) ∷ []
  added_as steps new copy step answer is same = is ∙ ap (λ (made : StepOf Y F D). steps ++ (made, answer) ∷ []) same

  -- no step was made, and no call
  pub runs_none : (number : F → ℕ) (steps : List (StepMade Y F D)) (old new : Log) → steps ≡ [] → new ≡ old → StepsRun number steps old new
  runs_none number steps old new none same = subst (λ (made : List (StepMade Y F D)). StepsRun number made old new) (sym none) same

  -- the same steps, after what was no step and no call
  pub runs_stay : (number : F → ℕ) (steps : List (StepMade Y F D)) (old mid new : Log) → new ≡ mid → StepsRun number steps old mid → StepsRun number steps old new
  runs_stay number steps old mid new same runs = subst (λ (log : Log). StepsRun number steps old log) (sym same) runs

-- ---- a store's steps and its system's calls in two parts, as its log is cut in two

-- what a log gains of an item
abbrev kept : Bool → LogItem → List LogItem
kept refused item = if refused then [] else item ∷ []

-- all but the first
abbrev rest_of : {X : Type 0} → List X → List X
rest_of [] = []
rest_of (x ∷ xs) = xs

-- the first, or this one
abbrev first_or : {X : Type 0} → X → List X → X
first_or d [] = d
first_or d (x ∷ xs) = x

-- the items of a log, if there is one
abbrev some_or : Option (List LogItem) → List LogItem
some_or None = []
some_or (Some items) = items

module _ {Y F D : Type 0} where
  -- the steps in two parts
  record Parted (steps : List (StepMade Y F D)) (log more : List LogItem) : Type 0 where
    earlier : List (StepMade Y F D)
    later : List (StepMade Y F D)
    parts : steps ≡ earlier ++ later
    logged : flat_map items_of earlier ≡ log
    gained : flat_map items_of later ≡ more
    none : log ≡ [] → earlier ≡ []

  -- one step more in front, which the log has or not
  more_in_front : (made : StepMade Y F D) (rest : List (StepMade Y F D)) (item : LogItem) (log more : List LogItem) (refused : Bool) (own : LogItem)
      → items_of made ≡ kept refused own → items_of made ++ flat_map items_of rest ≡ item ∷ (log ++ more)
      → ((log : List LogItem) → flat_map items_of rest ≡ log ++ more → Parted rest log more)
      → Parted (made ∷ rest) (item ∷ log) more
  more_in_front made rest item log more true own gives is cut =
      let p : Parted rest (item ∷ log) more = cut (item ∷ log) (ap (λ (l : List LogItem). l ++ flat_map items_of rest) (sym gives) ∙ is) in
      record {
        earlier = made ∷ p.earlier;
        later = p.later;
        parts = ap (λ (l : List (StepMade Y F D)). made ∷ l) p.parts;
        logged = ap (λ (l : List LogItem). l ++ flat_map items_of p.earlier) gives ∙ p.logged;
        gained = p.gained;
        none = λ no. absurd cc;
      }
  more_in_front made rest item log more false own gives is cut =
      let same : own ∷ flat_map items_of rest ≡ item ∷ (log ++ more) = ap (λ (l : List LogItem). l ++ flat_map items_of rest) (sym gives) ∙ is in
      let p : Parted rest log more = cut log (ap rest_of same) in
      record {
        earlier = made ∷ p.earlier;
        later = p.later;
        parts = ap (λ (l : List (StepMade Y F D)). made ∷ l) p.parts;
        logged = ap (λ (l : List LogItem). l ++ flat_map items_of p.earlier) gives ∙ ap (λ (l : List LogItem). own ∷ l) p.logged ∙ ap (λ (x : LogItem). x ∷ log) (ap (first_or own) same);
        gained = p.gained;
        none = λ no. absurd cc;
      }

  parted : (more : List LogItem) (steps : List (StepMade Y F D)) (log : List LogItem) → flat_map items_of steps ≡ log ++ more → Parted steps log more
  parted more steps [] is = record { earlier = []; later = steps; parts = refl; logged = refl; gained = is; none = λ no. refl }
  parted more [] (item ∷ log) is = absurd cc
  parted more (made ∷ rest) (item ∷ log) is =
      more_in_front made rest item log more (is_no_memory (plain_answer seen_file seen_temp made.1)) (Made (plain_step seen_file seen_temp made.0) (plain_answer seen_file seen_temp made.1))
      refl is (parted more rest)

  -- the calls of steps in two parts
  runs_parted : (number : F → ℕ) (earlier later : List (StepMade Y F D)) (began new : Log) → StepsRun number (earlier ++ later) began new
      → (between : Log) × StepsRun number earlier began between × StepsRun number later between new
  runs_parted number [] later began new runs = (began, refl, runs)
  runs_parted number (made ∷ earlier) later began new (next, one, runs) =
      let p : (between : Log) × StepsRun number earlier next between × StepsRun number later between new = runs_parted number earlier later next new runs in
      (p.0, (next, one, p.1), p.2)

  -- if there is a log, it has the items of the steps
  log_is : (began : Log) (steps : List (StepMade Y F D)) (all : List LogItem) → log_of began steps ≡ Some all → flat_map items_of steps ≡ all
  log_is (Some (call ∷ calls)) steps all is = absurd cc
  log_is began steps all is = ap some_or is

  pub in_parts : (number : F → ℕ) (steps : List (StepMade Y F D)) (began new : Log) (log more : List LogItem) → log_of began steps ≡ Some (log ++ more) → StepsRun number steps began new
      → CallsInParts number steps began new log more
  in_parts number steps began new log more is runs =
      let p : Parted steps log more = parted more steps log (log_is began steps (log ++ more) is) in
      let r : (between : Log) × StepsRun number p.earlier began between × StepsRun number p.later between new =
      runs_parted number p.earlier p.later began new (subst (λ (all : List (StepMade Y F D)). StepsRun number all began new) p.parts runs) in
      record {
        earlier = p.earlier;
        later = p.later;
        between = r.0;
        parts = p.parts;
        logged = p.logged;
        gained = p.gained;
        before = r.1;
        after = r.2;
        none = p.none;
      }

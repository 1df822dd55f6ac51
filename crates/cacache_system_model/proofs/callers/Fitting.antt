-- The disk's answers fit their steps, also those to steps that failed.
use Rattle.std.proofs.{lemmas.Grind.{common_steps}, Common.{rules, arith, ◌≡◌, ℕ, Bool, false, List, None, Ok, ap, ◌∙◌, ◌≤◌, Option, length, sym, subst}}
use Rattle.std.specs.Prelude.{if◌then◌else◌, Result}
use Rattle.std_io.specs.declared.io.kind.ErrorKind.{ErrorKind}
use Rattle.cacache_core.specs.{declared.errors.Fault.{Fault}, Paths.{Names}}
use Rattle.cacache_store.specs.{Plain.{PlainStep, PlainAnswer, Fits}, declared.store.plain.{PlainFile.{PlainFile}, PlainTemp.{PlainTemp}}}
use Rattle.cacache_system.specs.{declared.call.CallResult.{CallResult, TheVariants.{Failed}}, Seen.{NumberedStep, NumberedAnswer}, AnswersOf.{answer_of, failed_with}}
use Rattle.cacache_system_model.specs.{Machine.{Machine}, Laws.{step_on, answer_on}, Mirrors.{temps_after}, Chains.{StepMade, temps_left}, callers.Acts.{answer_in, NeedsFit}}
use Rattle.cacache_system_model.proofs.callers.Files.{file_given}
use Rattle.cacache_calls.specs.Answers.{bytes_in}
use Rattle.cacache_disk.specs.{declared.luck.Luck.{Luck}, Tree.{Tree}, Apply.{apply, plain, unless, taken, readable, grown, given, is_there}}
use Rattle.cacache_value.proofs.Shows.{apply_answer}
use Rattle.cacache_store.specs.declared.store.step.Step.TheVariants as steps
use Rattle.cacache_store.specs.declared.store.answer.Answer.TheVariants as answers

abbrev pub answer_if : NumberedStep → Fault → Bool → NumberedAnswer
answer_if step fault b = if b then answers.NoMemory step else answers.Failed fault

abbrev unless_missing : List ℕ → ErrorKind → Bool → NumberedAnswer
unless_missing p why b = if b then answers.There false else failed_with (steps.Exists p) why

module _ (n : Machine) (P : PlainAnswer → Type 0) (there : P (answers.There false)) (memory : (step : PlainStep) → P (answers.NoMemory step)) (failed : (fault : Fault) → P (answers.Failed fault)) where
  by_memory : (step : NumberedStep) (fault : Fault) (b : Bool) → P (answer_on n (answer_if step fault b))
  by_memory step fault b = grind (arith, common_steps)

  by_missing : (p : List ℕ) (why : ErrorKind) (b : Bool) → P (answer_on n (unless_missing p why b))
  by_missing p why b = grind (arith, by_memory)

  -- what holds of each answer to a failure
  pub failed_answer : (step : NumberedStep) (why : ErrorKind) → P (answer_on n (answer_of step (Failed why)))
  failed_answer step why = grind (arith, by_missing, by_memory)

-- ---- what such an answer leaves

keeps_temps : (temps : Names → Bool) (step : PlainStep)
    → (temps_after temps step (answers.There false) ≡ temps) × (((back : PlainStep) → temps_after temps step (answers.NoMemory back) ≡ temps) × ((fault : Fault) → temps_after temps step (answers.Failed fault) ≡ temps))
keeps_temps temps step = grind (arith, common_steps)

module _ (made : StepMade) (why : ErrorKind) (is : made.end ≡ Failed why) where
  abbrev answer_at : CallResult → PlainAnswer
  answer_at end = answer_on made.after (answer_of made.step end)

  pub failed_temps : (temps : Names → Bool) → temps_left temps made ≡ temps
  failed_temps temps =
      let step = step_on made.before made.step in
      let keeps = keeps_temps temps step in
      ap (λ (e : CallResult). temps_after temps step (answer_at e)) is
      ∙ failed_answer made.after (λ a. temps_after temps step a ≡ temps) keeps.0 keeps.1.0 keeps.1.1 made.step why

  pub failed_none : file_given (answer_in made) ≡ None
  failed_none = search (rules, file_given, failed_answer)

  pub failed_bytes : (bytes : List ℕ) → bytes_in (answer_in made) ≡ Ok bytes → ⊥
  failed_bytes bytes e = search (rules, failed_answer)

-- ---- the disk's answers fit their steps

taken_below : (most : Option ℕ) (bytes : List ℕ) → taken most bytes ≤ length bytes
taken_below most bytes = grind (arith, common_steps)

unless_fits : {A : Type 0} (step : PlainStep) (t : Tree) (r : Result A Fault) (go : A → PlainAnswer × Tree) → ((x : A) → Fits step (go x).0) → Fits step (unless r t go).0
unless_fits step t r go h = grind (arith, common_steps)

grown_fits : (f : PlainTemp) (bytes : List ℕ) (count : ℕ) (old : Option (List ℕ)) → count ≤ length bytes → Fits (steps.Write f bytes) (grown f bytes count old)
grown_fits f bytes count old below = grind (arith, common_steps)

there_fits : (p : List ℕ) (r : Result Names Fault) → Fits (steps.Exists p) (is_there r)
there_fits p r = grind (arith, common_steps)

-- bytes of an open file, no more than are asked for
given_fits : (f : PlainFile) (most size : ℕ) (o : Option (List ℕ)) → size ≤ most → Fits (steps.Read f most) (given f size o)
given_fits f most size o below = grind (arith, common_steps)

read_below : (most : Option ℕ) (size : ℕ) → readable most size ≤ size
read_below most size = grind (arith, common_steps)

plain_fits : (t : Tree) (step : PlainStep) (luck : Luck) → ((most : Option ℕ) → Fits step (plain t step most).0) → Fits step (apply t step luck).0
plain_fits t step luck h = apply_answer (Fits step) (λ why. tt) t step luck h

-- what a tree answers fits the step
apply_fits : (t : Tree) (step : PlainStep) (luck : Luck) → NeedsFit step (apply t step luck).0 → Fits step (apply t step luck).0
apply_fits t step luck n = grind (arith, plain_fits, unless_fits, grown_fits, taken_below, given_fits, read_below, there_fits)

pub fits_so : (t : Tree) (step : PlainStep) (luck : Luck) (a : PlainAnswer) → a ≡ (apply t step luck).0 → NeedsFit step a → Fits step a
fits_so t step luck a is n = subst (Fits step) (sym is) (apply_fits t step luck (subst (NeedsFit step) is n))

-- Which steps take no file and give none, what `?` returns, and what a step answers at the end of its run.
use Rattle.std.proofs.Common.{◌≡◌, ℕ, true, false, List, refl, Ok, Err, sym, subst, ◌+◌, ◌-◌, Bool, if◌then◌else◌, [], length, arith, ap, ◌∙◌}
use Rattle.std.specs.{Prelude.{Result}, Result.{IsErrAnd, result_map_both}}
use Rattle.cacache_store.specs.{declared.store.{step.Step.{Step}, answer.Answer.{Answer}}, Plain.{PlainStep, PlainAnswer, is_no_memory}}
use Rattle.cacache_folder.specs.{declared.folder.{opened.SystemFile.{SystemFile}, temp.SystemTemp.{SystemTemp}}, FolderNumbers.{numbered, goes_by_path, value_or, answered, answered_or}, StepClauses.{HandsBackWhole}, Moves.{Persists}, Listings.{Log}}
use Rattle.cacache_folder.proofs.CallRuns.{run_one, run_as}
use Rattle.std_io.specs.{declared.io.{error.Error.{Error}, kind.ErrorKind.{ErrorKind}}, IoError.{error_kind}}
use Rattle.cacache_system.specs.{declared.call.{SystemCall.{SystemCall}, CallResult.{CallResult}}, Seen.{said, MakesCall, NumberedFile, NumberedTemp, NumberedStep, NumberedAnswer}, CallsOf.{Stage, only, making, standing, RunLogged}, AnswersOf.{no_hint, is_missing, first, answer_of, failed_with, misses, StepRuns}}
use Rattle.cacache_store.specs.declared.store.step.Step.TheVariants as steps
use Rattle.cacache_store.specs.declared.store.answer.Answer.TheVariants as answers
use Rattle.cacache_system.specs.declared.call.CallResult.TheVariants as says

-- what isn't a step of a file
pub by_path : {Y F D : Type 0} (number : F → ℕ) (step : Step (SystemFile Y F D) (SystemTemp Y F D))
    → ((a : List ℕ) → step ≡ steps.CreateTemp a → ⊥)
    → ((a : SystemTemp Y F D) (b : List ℕ) → step ≡ steps.Write a b → ⊥)
    → ((a : SystemTemp Y F D) (b : List ℕ) → step ≡ steps.Persist a b → ⊥)
    → ((a : List ℕ) → step ≡ steps.Open a → ⊥)
    → ((a : SystemFile Y F D) (b : ℕ) → step ≡ steps.Read a b → ⊥)
    → ((a : SystemTemp Y F D) → step ≡ steps.SyncTemp a → ⊥)
    → goes_by_path (numbered number step) ≡ true
by_path number (steps.CreateTemp a) h0 h1 h2 h3 h4 h5 = absurd (h0 a refl)
by_path number (steps.Write a b) h0 h1 h2 h3 h4 h5 = absurd (h1 a b refl)
by_path number (steps.Persist a b) h0 h1 h2 h3 h4 h5 = absurd (h2 a b refl)
by_path number (steps.Open a) h0 h1 h2 h3 h4 h5 = absurd (h3 a refl)
by_path number (steps.Read a b) h0 h1 h2 h3 h4 h5 = absurd (h4 a b refl)
by_path number (steps.SyncTemp a) h0 h1 h2 h3 h4 h5 = absurd (h5 a refl)
by_path number step _ _ _ _ _ _ = refl

-- what isn't any other step
pub by_file : {Y F D : Type 0} (number : F → ℕ) (step : Step (SystemFile Y F D) (SystemTemp Y F D))
    → ((a : List ℕ) → step ≡ steps.MakeDirs a → ⊥)
    → ((a : List ℕ) (b : List ℕ) → step ≡ steps.Append a b → ⊥)
    → ((a : List ℕ) → step ≡ steps.ReadAll a → ⊥)
    → ((a : List ℕ) → step ≡ steps.Exists a → ⊥)
    → ((a : List ℕ) → step ≡ steps.Size a → ⊥)
    → ((a : List ℕ) (b : List ℕ) → step ≡ steps.Symlink a b → ⊥)
    → ((a : List ℕ) (b : List ℕ) → step ≡ steps.Copy a b → ⊥)
    → ((a : List ℕ) (b : List ℕ) → step ≡ steps.Reflink a b → ⊥)
    → ((a : List ℕ) (b : List ℕ) → step ≡ steps.HardLink a b → ⊥)
    → ((a : List ℕ) → step ≡ steps.ReadDir a → ⊥)
    → ((a : List ℕ) → step ≡ steps.RemoveFile a → ⊥)
    → ((a : List ℕ) → step ≡ steps.RemoveDir a → ⊥)
    → ((a : List ℕ) → step ≡ steps.SyncFile a → ⊥)
    → ((a : List ℕ) → step ≡ steps.SyncDir a → ⊥)
    → goes_by_path (numbered number step) ≡ true → ⊥
by_file number (steps.MakeDirs a) h0 h1 h2 h3 h4 h5 h6 h7 h8 h9 h10 h11 h12 h13 is = absurd (h0 a refl)
by_file number (steps.Append a b) h0 h1 h2 h3 h4 h5 h6 h7 h8 h9 h10 h11 h12 h13 is = absurd (h1 a b refl)
by_file number (steps.ReadAll a) h0 h1 h2 h3 h4 h5 h6 h7 h8 h9 h10 h11 h12 h13 is = absurd (h2 a refl)
by_file number (steps.Exists a) h0 h1 h2 h3 h4 h5 h6 h7 h8 h9 h10 h11 h12 h13 is = absurd (h3 a refl)
by_file number (steps.Size a) h0 h1 h2 h3 h4 h5 h6 h7 h8 h9 h10 h11 h12 h13 is = absurd (h4 a refl)
by_file number (steps.Symlink a b) h0 h1 h2 h3 h4 h5 h6 h7 h8 h9 h10 h11 h12 h13 is = absurd (h5 a b refl)
by_file number (steps.Copy a b) h0 h1 h2 h3 h4 h5 h6 h7 h8 h9 h10 h11 h12 h13 is = absurd (h6 a b refl)
by_file number (steps.Reflink a b) h0 h1 h2 h3 h4 h5 h6 h7 h8 h9 h10 h11 h12 h13 is = absurd (h7 a b refl)
by_file number (steps.HardLink a b) h0 h1 h2 h3 h4 h5 h6 h7 h8 h9 h10 h11 h12 h13 is = absurd (h8 a b refl)
by_file number (steps.ReadDir a) h0 h1 h2 h3 h4 h5 h6 h7 h8 h9 h10 h11 h12 h13 is = absurd (h9 a refl)
by_file number (steps.RemoveFile a) h0 h1 h2 h3 h4 h5 h6 h7 h8 h9 h10 h11 h12 h13 is = absurd (h10 a refl)
by_file number (steps.RemoveDir a) h0 h1 h2 h3 h4 h5 h6 h7 h8 h9 h10 h11 h12 h13 is = absurd (h11 a refl)
by_file number (steps.SyncFile a) h0 h1 h2 h3 h4 h5 h6 h7 h8 h9 h10 h11 h12 h13 is = absurd (h12 a refl)
by_file number (steps.SyncDir a) h0 h1 h2 h3 h4 h5 h6 h7 h8 h9 h10 h11 h12 h13 is = absurd (h13 a refl)
by_file number step _ _ _ _ _ _ _ _ _ _ _ _ _ _ is = absurd (let no_way : false ≡ true = is in cc)

-- an answer that isn't the step handed back
pub whole_of : (step : PlainStep) (answer : PlainAnswer) → is_no_memory answer ≡ false → HandsBackWhole step answer
whole_of step (answers.NoMemory back) is = absurd (let no_way : true ≡ false = is in cc)
whole_of step _ is = tt

-- ---- what `?` returns

-- what holds of the error that a call gave holds of what `?` returns
pub failed_as : {T : Type 0} (P : Result T Error → Type 0) (r : Result T Error) (e : Error) → IsErrAnd r (λ x. x ≡ e) → P (Err e) → P r
failed_as P (Ok x) e same p = absurd same
failed_as P (Err x) e same p = subst (λ (y : Error). P (Err y)) (sym same) p

-- what holds of each error of a kind holds of what `?` returns, if it makes one of that kind
pub failed_so : {T : Type 0} (P : Result T Error → Type 0) (Q : Error → Type 0) (r : Result T Error) → IsErrAnd r Q → ((e : Error) → Q e → P (Err e)) → P r
failed_so P Q (Ok x) so f = absurd so
failed_so P Q (Err x) so f = f x so

-- ---- what a step answers at the end of its run

-- the run of a step about which nothing is remembered
pub answers_run : (step : NumberedStep) (answer : NumberedAnswer) (s : Stage) (end : CallResult) (old new : Log)
    → RunLogged s end old new → s ≡ first no_hint step → answer ≡ answer_of step end → StepRuns step answer old new
answers_run step answer s end old new run begins is = (no_hint, end, run_as s (first no_hint step) end old new run begins, is)

-- the run of a step that makes one call
pub answers_call : (step : NumberedStep) (answer : NumberedAnswer) (call : SystemCall) (end : CallResult) (old new : Log)
    → MakesCall old new call end → only call ≡ first no_hint step → answer ≡ answer_of step end → StepRuns step answer old new
answers_call step answer call end old new makes begins is =
    answers_run step answer (only call) end old new (run_one (only call) call end end old new makes refl refl) begins is

abbrev there_if : Bool → NumberedAnswer → NumberedAnswer
there_if b answer = if b then answers.There false else answer

-- nothing is there
pub exists_missing : (path : List ℕ) (why : ErrorKind) → misses why ≡ true → answers.There false ≡ answer_of (steps.Exists path) (says.Failed why)
exists_missing path why is = ap (λ (b : Bool). there_if b (failed_with (steps.Exists path) why)) (sym is)

-- it can't be asked
pub exists_failed : (path : List ℕ) (why : ErrorKind) → misses why ≡ false → failed_with (steps.Exists path) why ≡ answer_of (steps.Exists path) (says.Failed why)
exists_failed path why is = ap (λ (b : Bool). there_if b (failed_with (steps.Exists path) why)) (sym is)

-- a temporary file was moved
pub persists_answer : (temp : NumberedTemp) (path : List ℕ) (r : Result (Unit {0}) Error) (answer : NumberedAnswer) (old new : Log) → Persists temp path r old new
    → answer ≡ answer_of (steps.Persist temp path) (said (λ _. says.Done) r) → StepRuns (steps.Persist temp path) answer old new
persists_answer temp path r answer old new (hint, run) is = (hint, said (λ _. says.Done) r, run, is)

-- folders are made, whatever the guess
pub dirs_answer : (path : List ℕ) (b : Bool) (answer : NumberedAnswer) (end : CallResult) (old new : Log)
    → RunLogged (if b then making false path [] else standing path) end old new → answer ≡ answer_of (steps.MakeDirs path) end
    → StepRuns (steps.MakeDirs path) answer old new
dirs_answer path true answer end old new run is = (is_missing, end, run, is)
dirs_answer path false answer end old new run is = (no_hint, end, run, is)

abbrev pub temp_of : ℕ → List ℕ → NumberedTemp
temp_of number path = record { number = number; path = path }

abbrev pub file_of : ℕ → ℕ → NumberedFile
file_of number left = record { number = number; left = left }

abbrev pub writes : ℕ → List ℕ → List ℕ → NumberedStep
writes number path bytes = steps.Write (temp_of number path) bytes

abbrev pub reads : ℕ → ℕ → ℕ → NumberedStep
reads number left max = steps.Read (file_of number left) max

-- a written file keeps its number
pub write_told : (number same : ℕ) (path bytes : List ℕ) (count : ℕ) → same ≡ number
    → answers.Wrote (temp_of same path) count ≡ answer_of (writes number path bytes) (says.Count count)
write_told number same path bytes count is = ap (λ (n : ℕ). let a : NumberedAnswer = answers.Wrote (temp_of n path) count in a) is

-- so it does if the write fails
pub write_failed : (number same : ℕ) (path bytes : List ℕ) (why : ErrorKind) (answer : NumberedAnswer) → same ≡ number
    → answer ≡ failed_with (writes same path bytes) why → answer ≡ answer_of (writes number path bytes) (says.Failed why)
write_failed number same path bytes why answer is told = told ∙ ap (λ (n : ℕ). failed_with (writes n path bytes) why) is

less_left : (rest count left : ℕ) → rest + count ≡ left → rest ≡ left - count
less_left rest count left is = omega (arith, is)

-- a read file has fewer bytes left
pub read_told : (number same left rest max : ℕ) (bytes : List ℕ) → same ≡ number → rest + length bytes ≡ left
    → answers.Got (file_of same rest) bytes ≡ answer_of (reads number left max) (says.Bytes bytes)
read_told number same left rest max bytes is falls =
    ap (λ (n : ℕ). let a : NumberedAnswer = answers.Got (file_of n rest) bytes in a) is
    ∙ ap (λ (n : ℕ). let a : NumberedAnswer = answers.Got (file_of number n) bytes in a) (less_left rest (length bytes) left falls)

-- and exactly as many if the read fails
pub read_failed : (number same left rest max : ℕ) (why : ErrorKind) (answer : NumberedAnswer) → same ≡ number → rest ≡ left
    → answer ≡ failed_with (reads same rest max) why → answer ≡ answer_of (reads number left max) (says.Failed why)
read_failed number same left rest max why answer is stays told =
    told ∙ ap (λ (n : ℕ). failed_with (reads n rest max) why) is ∙ ap (λ (n : ℕ). failed_with (reads number n max) why) stays

pub value_is : {A : Type 0} (step : NumberedStep) (say : A → CallResult) (give : A → NumberedAnswer) (r : Result A Error)
    → ((value : A) → give value ≡ answer_of step (say value)) → ((why : ErrorKind) → failed_with step why ≡ answer_of step (says.Failed why))
    → value_or give step r ≡ answer_of step (said say r)
value_is step say give (Ok value) gives fails = gives value
value_is step say give (Err error) gives fails = fails (error_kind error)

answer_is : {A Y F D : Type 0} (number : F → ℕ) (step : NumberedStep) (give : A → Answer (SystemFile Y F D) (SystemTemp Y F D)) (r : Result A Error)
    → value_or (λ value. answered number (give value)) step r ≡ answered_or number step (result_map_both give (λ e. e) r)
answer_is number step give (Ok value) = refl
answer_is number step give (Err error) = refl

-- the answer of a step of one value
pub arm_as : {A Y F D : Type 0} (number : F → ℕ) (step : NumberedStep) (give : A → Answer (SystemFile Y F D) (SystemTemp Y F D)) (r : Result A Error)
    (told : Result (Answer (SystemFile Y F D) (SystemTemp Y F D)) Error) (old new : Log)
    → StepRuns step (value_or (λ value. answered number (give value)) step r) old new → told ≡ result_map_both give (λ e. e) r
    → StepRuns step (answered_or number step told) old new
arm_as number step give r told old new run is =
    subst (λ (a : NumberedAnswer). StepRuns step a old new) (answer_is number step give r ∙ sym (ap (answered_or number step) is)) run

-- the run of a step of one value
pub arm_run : {A Y F D : Type 0} (number : F → ℕ) (step : NumberedStep) (s : Stage) (say : A → CallResult)
    (give : A → Answer (SystemFile Y F D) (SystemTemp Y F D)) (r : Result A Error) (told : Result (Answer (SystemFile Y F D) (SystemTemp Y F D)) Error) (old new : Log)
    → RunLogged s (said say r) old new → s ≡ first no_hint step → ((value : A) → answered number (give value) ≡ answer_of step (say value))
    → ((why : ErrorKind) → failed_with step why ≡ answer_of step (says.Failed why)) → told ≡ result_map_both give (λ e. e) r
    → StepRuns step (answered_or number step told) old new
arm_run number step s say give r told old new run begins gives fails is =
    arm_as number step give r told old new
    (answers_run step (value_or (λ value. answered number (give value)) step r) s (said say r) old new run begins
    (value_is step say (λ value. answered number (give value)) r gives fails)) is

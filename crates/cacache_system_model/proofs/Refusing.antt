-- Calls that the tree refuses, calls that fail without cause, and calls that are no run of a step.
use Rattle.std.proofs.Common.{◌≡◌, ◌&&◌, not, Bool, true, false, if◌then◌else◌, refl, sym, ap, ◌∙◌, inl, inr, ℕ, ◌||◌, List, ◌∷◌, subst, nat_eq}
use Rattle.std.specs.{Prelude.{Option, None, Some}, Cmp.Lexicographic.{pointwise}}
use Rattle.std_io.specs.declared.io.kind.ErrorKind.{ErrorKind}
use Rattle.cacache_core.specs.{Errors.{fault_of}, declared.errors.Fault.{Fault}}
use Rattle.cacache_store.specs.{Plain.{PlainStep, PlainAnswer}, declared.store.answer.Kind.{Kind}}
use Rattle.cacache_disk.specs.{declared.luck.Luck.TheVariants.{Plain, Fail}, Tree.{Tree}, Apply.{apply, fails, fault_told, made_up, left_by}}
use Rattle.cacache_system.specs.{declared.call.{CallResult.{CallResult}, FileInfo.{FileInfo}, CallItem.{CallItem}}, Seen.{NumberedStep, NumberedAnswer, item, NumberedTemp}, AnswersOf.{answer_of, failed_with, refuses_memory, leaves_a_part, misses, rewrites, first_number}, CallsOf.{Stage, Runs, over, only, wants, if_folder, unless_folder, is_same_node, is_link, asking_target, asking_end, place_fresh}}
use Rattle.cacache_system_model.specs.{Machine.{Machine, IsRefused}, Laws.{answer_on, step_on, outcome, led_to, IsDone, IsLucky}, Refusals.{NoSecondWrite, NoRemovalBeforePut, NoOtherMode, NoOtherSync, NoFileForFolder, NoCopyInPlace, NoMoveWithoutMode, NoCallWithoutOwner}}
use Rattle.std_io.specs.declared.io.kind.ErrorKind.TheVariants as kind
use Rattle.cacache_store.specs.declared.store.answer.Answer.TheVariants as answers
use Rattle.cacache_system.specs.declared.call.CallResult.TheVariants as says
use Rattle.cacache_store.specs.declared.store.answer.Kind.TheVariants as kinds
use Rattle.cacache_system.specs.declared.call.SystemCall.TheVariants as asks

-- two outcomes with equal parts
pub same_outcome : (a c : PlainAnswer) (b d : Tree) → a ≡ c → b ≡ d → outcome a b ≡ outcome c d
same_outcome a c b d p q = ap (λ (x : PlainAnswer). outcome x b) p ∙ ap (λ (y : Tree). outcome c y) q

abbrev pub failed : Fault → PlainAnswer
failed fault = answers.Failed fault

-- the answer to a step that an error failed
abbrev as_refused : NumberedStep → ErrorKind → Bool → NumberedAnswer
as_refused step why b = if b && not (leaves_a_part step) then answers.NoMemory step else answers.Failed (fault_of why)

-- a failure that is no want of memory
pub refused_on : (step : NumberedStep) (why : ErrorKind) (m : Machine) → refuses_memory why ≡ false → answer_on m (failed_with step why) ≡ failed (fault_of why)
refused_on step why m fine = ap (λ (b : Bool). answer_on m (as_refused step why b)) fine

-- if the tree refuses the last call, the step failed with its fault
pub refused_agrees : (step : NumberedStep) (fault : Fault) (end : CallResult) (m n : Machine) → ((why : ErrorKind) → refuses_memory why ≡ false → fault_of why ≡ fault → answer_on n (answer_of step (says.Failed why)) ≡ failed fault)
    → IsRefused fault m end n → outcome (failed fault) m.tree ≡ led_to step end n
refused_agrees step fault end m n same (why, told, is, memory, stays) =
    let tree : n.tree ≡ m.tree = ap (λ (x : Machine). x.tree) stays in
    sym (same_outcome (answer_on n (answer_of step end)) (failed fault) n.tree m.tree
    (ap (λ (e : CallResult). answer_on n (answer_of step e)) told ∙ same why memory is) tree)

-- an answer that a failure gets in any case
pub plainly_refused : (step : NumberedStep) (fault : Fault) (n : Machine) → ((why : ErrorKind) → answer_of step (says.Failed why) ≡ failed_with step why)
    → (why : ErrorKind) → refuses_memory why ≡ false → fault_of why ≡ fault → answer_on n (answer_of step (says.Failed why)) ≡ failed fault
plainly_refused step fault n same why memory is = ap (answer_on n) (same why) ∙ refused_on step why n memory ∙ ap failed is

-- what isn't missing may be made up
pub never_missing : (why : ErrorKind) → misses why ≡ false → made_up (fault_of why) ≡ fault_of why
never_missing kind.NotFound is = absurd (let wrong : true ≡ false = is in cc)
never_missing _ is = refl

-- a step that is done fails under a luck that fails it
pub failing_apply : (t : Tree) (step : PlainStep) (fault : Fault) (part : Option ℕ) → fault_told (apply t step Plain).0 ≡ None
    → apply t step (Fail fault part) ≡ outcome (failed (made_up fault)) (left_by t step part)
unfolding apply
failing_apply t step fault part fine = ap (λ (o : Option Fault). fails o fault t (left_by t step part)) fine

broken_so : (step : NumberedStep) (why : ErrorKind) (end : CallResult) (m n : Machine) (part : Option ℕ) (b c : Bool) → leaves_a_part step ≡ b → refuses_memory why ≡ c
    → answer_of step end ≡ as_refused step why c
    → misses why ≡ false → n.tree ≡ left_by m.tree (step_on m step) part → (b ≡ false → n.tree ≡ m.tree) → IsDone m step → IsLucky m step end n
broken_so step why end m n part false true whole memory is fine tree stays done =
    inr (inl (is ∙ ap (λ (b : Bool). if not b then answers.NoMemory step else answers.Failed (fault_of why)) whole, stays refl))
broken_so step why end m n part true true whole memory is fine tree stays done =
    inl (
      Fail (fault_of why) part,
      failing_apply m.tree (step_on m step) (fault_of why) part done
          ∙ sym (same_outcome (answer_on n (answer_of step end)) (failed (made_up (fault_of why))) n.tree (left_by m.tree (step_on m step) part)
          (ap (answer_on n) (is ∙ ap (λ (b : Bool). if not b then answers.NoMemory step else answers.Failed (fault_of why)) whole) ∙ ap failed (sym (never_missing why fine))) tree),
    )
broken_so step why end m n part b false whole memory is fine tree stays done =
    inl (
      Fail (fault_of why) part,
      failing_apply m.tree (step_on m step) (fault_of why) part done
          ∙ sym (same_outcome (answer_on n (answer_of step end)) (failed (made_up (fault_of why))) n.tree (left_by m.tree (step_on m step) part)
          (ap (answer_on n) is ∙ ap failed (sym (never_missing why fine))) tree),
    )

-- a step's last call failed without cause, and may have left a part of it done
pub broken_part : (step : NumberedStep) (why : ErrorKind) (end : CallResult) (m n : Machine) (part : Option ℕ) → answer_of step end ≡ failed_with step why
    → misses why ≡ false → n.tree ≡ left_by m.tree (step_on m step) part → (leaves_a_part step ≡ false → n.tree ≡ m.tree) → IsDone m step → IsLucky m step end n
broken_part step why end m n part is fine tree stays done =
    broken_so step why end m n part (leaves_a_part step) (refuses_memory why) refl refl is fine tree stays done

-- the same if nothing changed
pub broken_agrees : (step : NumberedStep) (why : ErrorKind) (end : CallResult) (m n : Machine) → answer_of step end ≡ failed_with step why
    → misses why ≡ false → n.tree ≡ m.tree → IsDone m step → IsLucky m step end n
broken_agrees step why end m n is fine tree done = broken_part step why end m n None is fine tree (λ whole. tree) done

-- ---- calls that are no run of a step

pub no_second_write : NoSecondWrite
no_second_write path bytes file k j hint end runs = let none : None ≡ Some (asks.Write file bytes) = runs.1.1.0 in cc

moved_first : (temp : NumberedTemp) (path : List ℕ) → Some (asks.Rename temp.path path) ≡ Some (asks.RemoveFile path) → ⊥
moved_first temp path is = cc

pub no_removal_before_put : NoRemovalBeforePut
no_removal_before_put temp path said rest (rewrites synced) end runs =
    let wrong : Some (asks.Stat path) ≡ Some (asks.RemoveFile path) = runs.0 in
    cc
no_removal_before_put temp path said rest hint end runs = moved_first temp path runs.0

pub no_other_mode : NoOtherMode
no_other_mode path mode said rest other hint end runs =
    let wanted : Some (asks.CreateNew path 384) ≡ Some (asks.CreateNew path mode) = runs.0 in
    let same : mode ≡ 384 = cc in
    other same

pub no_other_sync : NoOtherSync
no_other_sync temp file said rest other hint end runs =
    let wanted : Some (asks.Sync temp.number) ≡ Some (asks.Sync file) = runs.0 in
    let same : file ≡ temp.number = cc in
    other same

pub no_file_for_folder : NoFileForFolder
no_file_for_folder path file info said rest is hint end runs =
    let wanted : wants (if_folder info.kind kind.NotADirectory (only (asks.Sync file))) ≡ Some (asks.Sync file) = runs.1.1.0 in
    let none : None ≡ Some (asks.Sync file) = subst (λ (k : Kind). wants (if_folder k kind.NotADirectory (only (asks.Sync file))) ≡ Some (asks.Sync file)) is wanted in
    cc

filled : ℕ → FileInfo → List ℕ → List ℕ → Kind → Bool → Bool → Stage
filled number source from to kind regular same =
    if is_link kind then asking_end number source from to
    else unless_folder kind (if same then over (says.Count source.size) else if not regular then only (asks.CopyFile from to) else place_fresh number from to)

not_opened : (number : ℕ) (source : FileInfo) (from to onto : List ℕ) (kind : Kind) (regular same : Bool) → kind ≡ kinds.File → regular ≡ true
    → wants (filled number source from to kind regular same) ≡ Some (asks.CopyFile from onto) → ⊥
unfolding filled
not_opened number source from to onto kinds.File true true k r is = cc
not_opened number source from to onto kinds.File true false k r is = cc
not_opened number source from to onto kinds.File false same k r is = cc
not_opened number source from to onto kind regular same k r is = cc

no_copy_if : (number : ℕ) (source target : FileInfo) (from to onto : List ℕ) (said end : CallResult) (rest : List CallItem) (c : Bool) → target.kind ≡ kinds.File → target.regular ≡ true
    → Runs (if c then asking_target number source from to else over (says.Failed kind.InvalidInput)) (item (asks.StatLink to) (says.Info target) ∷ item (asks.CopyFile from onto) said ∷ rest) end → ⊥
unfolding filled
no_copy_if number source target from to onto said end rest true kind regular runs =
    not_opened number source from to onto target.kind target.regular (pointwise nat_eq from to || is_same_node source target) kind regular runs.1.0
no_copy_if number source target from to onto said end rest false kind regular runs = let none : None ≡ Some (asks.StatLink to) = runs.0 in cc

pub no_copy_in_place : NoCopyInPlace
no_copy_in_place from to onto source target said rest kind regular hint end runs =
    no_copy_if (first_number hint) source target from to onto said end rest source.regular kind regular runs.1

pub no_move_without_mode : NoMoveWithoutMode
no_move_without_mode temp path synced info said end rest runs =
    let wrong : Some (asks.SetMode temp.number info.mode) ≡ Some (asks.Rename temp.path path) = runs.1.1.0 in
    cc

pub no_call_without_owner : NoCallWithoutOwner
no_call_without_owner temp path synced info why call said end rest runs =
    let none : None ≡ Some call = runs.1.1.0 in
    cc

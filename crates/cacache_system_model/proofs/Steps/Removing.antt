-- Removals.
use Rattle.std.{proofs.Common.{◌≡◌, ℕ, refl, sym, ap, subst, ⊎_elim}, specs.Prelude.{Option}}
use Rattle.std_io.specs.declared.io.kind.ErrorKind.{ErrorKind}
use Rattle.cacache_store.specs.declared.store.step.Step.TheVariants as steps
use Rattle.cacache_disk.specs.{declared.luck.Luck.TheVariants.{Plain}, Tree.{cut}, LedTo.{removable, emptied}, Apply.{apply}}
use Rattle.cacache_system.specs.{declared.call.{SystemCall.{SystemCall}, CallResult.{CallResult}}, CallsOf.{Stage, only}, Seen.{NumberedStep}, AnswersOf.{Hint, first, answer_of, failed_with}}
use Rattle.cacache_system.specs.declared.call.SystemCall.TheVariants as asks
use Rattle.cacache_system.specs.declared.call.CallResult.TheVariants as says
use Rattle.cacache_system_model.specs.{Machine.{Machine, gone}, Laws.{step_on, led_to, Leads, Agrees}, Calls.{GoesWell, LeavesPart}, StepLaws.{RemoveFileAgrees, RemoveDirAgrees}}
use Rattle.cacache_system_model.proofs.{Leading.{only_leads}, Claims.{way_of, claim_of, cases_of, agrees_of, claim_plain, claim_broken}, Steps.Changing.{changed_places}}

-- a removal of this kind
removal : (m : Machine) (hint : Hint) (step : NumberedStep) (call : SystemCall) → first hint step ≡ only call
    → ((why : ErrorKind) → answer_of step (says.Failed why) ≡ failed_with step why)
    → ((why : ErrorKind) (part : Option ℕ) (n : Machine) → LeavesPart m call why part n → n ≡ m)
    → ((most : Option ℕ) (said : CallResult) (n : Machine) → GoesWell most m call said n → apply m.tree (step_on m step) Plain ≡ led_to step said n)
    → Agrees m hint step
removal m hint step call begins usual whole agrees = agrees_of m hint step (λ b done.
    subst (λ (s : Stage). Leads (way_of b) s m (claim_of b m step)) (sym begins)
    (only_leads (way_of b) call m (claim_of b m step) (λ said n happens.
    ⊎_elim
    (λ (most, all, well). claim_plain b m step done said n (agrees most said n well))
    (λ (broke, why, same, fine, part, left).
    subst (λ (r : CallResult). claim_of b m step r n) (sym same)
    (claim_broken b m step done why n broke (usual why) fine (ap (λ (x : Machine). x.tree) (whole why part n left))))
    (cases_of b m call said n happens))))

pub remove_file_agrees : RemoveFileAgrees
unfolding apply
remove_file_agrees m hint path =
    removal m hint (steps.RemoveFile path) (asks.RemoveFile path) refl (λ why. refl) (λ why part n left. left)
    (λ most said n well. changed_places (cut m.tree) (steps.RemoveFile path) m n said refl (λ why. refl) (removable m.tree path) gone well)

pub remove_dir_agrees : RemoveDirAgrees
unfolding apply
remove_dir_agrees m hint path =
    removal m hint (steps.RemoveDir path) (asks.RemoveFolder path) refl (λ why. refl) (λ why part n left. left)
    (λ most said n well. changed_places (cut m.tree) (steps.RemoveDir path) m n said refl (λ why. refl) (emptied m.tree path) gone well)

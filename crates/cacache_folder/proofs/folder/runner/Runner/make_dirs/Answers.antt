use Rattle.std.proofs.{Common.{refl}, lemmas.Result.{err_from_is_err_and}}
use Rattle.std_io.specs.IoError.{error_kind}
use Rattle.cacache_system.specs.declared.call.CallResult.TheVariants as says
use Rattle.cacache_system.specs.AnswersOf.{failed_with}
use Rattle.cacache_system.specs.CallsOf as calls
use Rattle.cacache_store.specs.declared.store.step.Step.TheVariants as steps
use Rattle.cacache_store.specs.declared.store.answer.Answer.TheVariants as answers
use Rattle.cacache_folder.proofs.Answering.{dirs_answer}
use Rattle.cacache_folder.proofs.folder.runner.Runner.make_dirs.Goals as goal

pub returns-clause-ran : goal.returns-clause-ran
returns-clause-ran g c =
    dirs_answer c.args.path.now _ answers.Done says.Done (g.Y.System.calls c.args.self.now.system) (g.Y.System.calls c.make_dirs.new.system) c.in_ok-was_missing.ensures refl

pub returns-in_err-was_missing-clause-ran : goal.returns-in_err-was_missing-clause-ran
returns-in_err-was_missing-clause-ran g c =
    let p = err_from_is_err_and c.from_residual.result c.from_residual.ensures.1 in
    rw (p.1, p.2) (dirs_answer c.args.path.now _ (failed_with (steps.MakeDirs c.args.path.now) (error_kind c.in_err-was_missing.field-0.0)) (says.Failed (error_kind c.in_err-was_missing.field-0.0))
    (g.Y.System.calls c.args.self.now.system) (g.Y.System.calls c.make_dirs.new.system) c.in_err-was_missing.ensures refl)

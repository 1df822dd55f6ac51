use Rattle.std.proofs.Common.{◌≡◌, true, false, refl, sym, ap, ◌∙◌}
use Rattle.std_io.specs.IoError.{error_kind}
use Rattle.cacache_system.specs.declared.call.SystemCall.TheVariants as asks
use Rattle.cacache_system.specs.declared.call.CallResult.TheVariants as says
use Rattle.cacache_system.specs.AnswersOf.{misses, failed_with}
use Rattle.cacache_system.specs.CallsOf as calls
use Rattle.cacache_store.specs.declared.store.step.Step.TheVariants as steps
use Rattle.cacache_store.specs.declared.store.answer.Answer.TheVariants as answers
use Rattle.cacache_folder.proofs.Answering.{answers_call, exists_missing, exists_failed}
use Rattle.cacache_folder.proofs.folder.files.exists.Goals as goal

pub returns-in-Ok : goal.returns-in-Ok
returns-in-Ok g c =
    answers_call (steps.Exists c.args.path.now) (answers.There true) (asks.Stat c.args.path.now) (says.Info c.in-Ok.field-0)
    (g.Y.System.calls c.args.system.now) (g.Y.System.calls c.stat.new.self) c.in-Ok.ensures refl refl

pub returns-then-misses : goal.returns-then-misses
returns-then-misses g c =
    let why = error_kind c.in-Err.error in
    let missing : misses why ≡ true = sym (ap misses c.kind.ensures) ∙ sym c.misses.ensures ∙ c.if-misses.true in
    answers_call (steps.Exists c.args.path.now) (answers.There false) (asks.Stat c.args.path.now) (says.Failed why)
    (g.Y.System.calls c.args.system.now) (g.Y.System.calls c.stat.new.self) c.in-Err.ensures refl
    (exists_missing c.args.path.now why missing)

pub returns-else-misses : goal.returns-else-misses
returns-else-misses g c =
    let why = error_kind c.in-Err.error in
    let stands : misses why ≡ false = sym (ap misses c.kind.ensures) ∙ sym c.misses.ensures ∙ c.if-misses.false in
    answers_call (steps.Exists c.args.path.now) (failed_with (steps.Exists c.args.path.now) why) (asks.Stat c.args.path.now) (says.Failed why)
    (g.Y.System.calls c.args.system.now) (g.Y.System.calls c.stat.new.self) c.in-Err.ensures refl
    (exists_failed c.args.path.now why stands)

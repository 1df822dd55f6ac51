use Rattle.std.proofs.Math.Logic.{∥∥₁_map}
use Rattle.cacache_folder.proofs.StepsMade.{log_gains_step, runs_gain_step, added_as}
use Rattle.cacache_folder.proofs.folder.SystemStoreStore.step.Goals as goal

pub invariant_of-self : goal.invariant_of-self
invariant_of-self g c =
    record {
      ran = ∥∥₁_map c.args.self.now.ran (λ runs.
          runs_gain_step g.Y.System.number c.args.self.now.log.items c.with-log.result.items c.args.step c.step-answer.result
          (g.Y.System.calls c.args.self.now.began.value) (g.Y.System.calls c.args.self.now.runner.system) (g.Y.System.calls c.step-answer.new.self.system)
          runs c.step-answer.ensures.ran
          (added_as c.args.self.now.log.items c.with-log.result.items c.of-made.result.value c.args.step c.step-answer.result c.with-log.ensures c.of-made.ensures));
    }

pub returns-clause-logged : goal.returns-clause-logged
returns-clause-logged g c =
    log_gains_step (g.Y.System.calls c.args.self.now.began.value) c.args.self.now.log.items c.with-log.result.items c.args.step c.step-answer.result
    (added_as c.args.self.now.log.items c.with-log.result.items c.of-made.result.value c.args.step c.step-answer.result c.with-log.ensures c.of-made.ensures)

pub returns-clause-added : goal.returns-clause-added
returns-clause-added g c =
    added_as c.args.self.now.log.items c.with-log.result.items c.of-made.result.value c.args.step c.step-answer.result c.with-log.ensures c.of-made.ensures

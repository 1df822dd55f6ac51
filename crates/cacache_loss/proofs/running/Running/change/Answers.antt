use Rattle.std.proofs.Common.{◌∙◌}
use Rattle.cacache_loss.proofs.RunningDisks.{changed_ok}
use Rattle.cacache_loss.proofs.running.Running.change.Goals as goal

pub returns : goal.returns
returns c =
    changed_ok c.args.self.now.first c.args.self.now.disk c.advance.new.disk c.args.self.now.files c.settle.new.files c.args.self.now.names c.settle.new.names c.args.step.now c.args.luck c.args.answer.now
    c.settle.result c.as_slice-paths.result.now c.as_slice.result.now c.in_ok-effect.effect c.requires (c.as_slice-paths.ensures.value ∙ c.in_ok-paths.ensures)
    (c.as_slice.ensures.value ∙ c.in_ok-was.ensures) c.in_ok-effect.ensures c.in_ok-advance.ensures c.settle.ensures.files c.settle.ensures.names

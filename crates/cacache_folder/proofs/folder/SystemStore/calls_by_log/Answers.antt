use Rattle.std.proofs.Math.Logic.{∥∥₁_map}
use Rattle.cacache_folder.proofs.StepsMade.{in_parts}
use Rattle.cacache_folder.proofs.folder.SystemStore.calls_by_log.Goals as goal

pub returns : goal.returns
returns g c = record {
  parts = λ log more is. ∥∥₁_map c.args.self.now.ran (in_parts g.Y.System.number c.args.self.now.log.items (g.Y.System.calls c.args.self.now.began.value) (g.Y.System.calls c.args.self.now.runner.system) log more is);
}

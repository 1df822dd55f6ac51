use Rattle.std.proofs.Math.Logic.{∥∥₁_map}
use Rattle.cacache_folder.proofs.StepsMade.{runs_stay}
use Rattle.cacache_folder.proofs.folder.SystemStoreStore.begin_walks.Goals as goal

pub invariant_of-self : goal.invariant_of-self
invariant_of-self g c =
    record {
      ran = ∥∥₁_map c.args.self.now.ran (runs_stay g.Y.System.number c.args.self.now.log.items (g.Y.System.calls c.args.self.now.began.value)
          (g.Y.System.calls c.args.self.now.runner.system) (g.Y.System.calls c.begin_walks.new.self) c.begin_walks.ensures.unlogged);
    }

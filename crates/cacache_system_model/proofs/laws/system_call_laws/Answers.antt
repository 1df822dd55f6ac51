use Rattle.std.{proofs.Math.Logic.{∥∥₁_map}, specs.Prelude.{map}}
use Rattle.cacache_store.specs.declared.store.log.LogItem.TheVariants.{Made}
use Rattle.cacache_folder.proofs.StepsMade.{in_parts}
use Rattle.cacache_system_model.proofs.PutCalls.{last_calls}
use Rattle.cacache_system_model.proofs.laws.system_call_laws.Goals as goal

pub returns : goal.returns
returns g c = record {
  calls = λ log site command run reply runs is.
      ∥∥₁_map c.args.store.now.ran
      (λ made. last_calls g.Y.System.number c.args.store.now.log.items (g.Y.System.calls c.args.store.now.began.value) (g.Y.System.calls c.args.store.now.runner.system) log site command run reply runs
      (in_parts g.Y.System.number c.args.store.now.log.items (g.Y.System.calls c.args.store.now.began.value) (g.Y.System.calls c.args.store.now.runner.system) log (map (λ m. Made m.0 m.1) run) is made));
}

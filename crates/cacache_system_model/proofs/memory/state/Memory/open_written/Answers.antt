use Rattle.std.proofs.Common.{[]}
use Rattle.cacache_system_model.proofs.memory.Openings.{put_written}
use Rattle.cacache_system_model.proofs.memory.state.Memory.open_written.Goals as goal

pub make-requires : goal.make-requires
make-requires c = put_written c.args.self.now.disk c.args.path.now c.in_ok-names.names [] c.in_ok-names.ensures.ok

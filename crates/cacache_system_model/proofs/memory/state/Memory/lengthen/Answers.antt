use Rattle.std.proofs.Common.{subst}
use Rattle.cacache_system_model.{specs.{declared.memory.files.Place.{Place}, Machine.{node_of}, memory.Files.{place_of, IsFile}}, proofs.memory.Openings.{put_longer}}
use Rattle.cacache_system_model.proofs.memory.state.Memory.lengthen.Goals as goal

pub with_file-requires : goal.with_file-requires
with_file-requires c =
    put_longer c.args.self.now.disk c.in-Under.names c.in_ok-contents-in-Under.contents
    (subst (λ (place : Place). IsFile (node_of c.args.self.now.disk (place_of place))) c.in-Under.is c.requires)

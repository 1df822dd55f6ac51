use Rattle.std.proofs.Common.{refl}
use Rattle.cacache_system_model.proofs.memory.Openings.{copied_there, put_written}
use Rattle.cacache_system_model.proofs.memory.state.Memory.copy.Goals as goal

pub with_file-requires : goal.with_file-requires
with_file-requires c = put_written c.args.self.now.disk c.args.to.now c.in_ok-target.target c.in_ok-contents.contents c.in_ok-target.ensures.ok

pub returns : goal.returns
returns c =
    copied_there c.args.from.now c.args.to.now c.in_ok-source.source c.in_ok-target.target c.in_ok-source.contents c.in_ok-contents.contents c.len-count.result c.args.self.now
    (record { alloc = c.args.self.now.alloc; disk = c.in_ok-self.field-0; files = c.args.self.now.files; marks = c.args.self.now.marks })
    c.in_ok-source.ensures.ok.0 c.in_ok-source.ensures.ok.1 c.in_ok-target.ensures.ok c.in_ok-contents.ensures c.len-count.ensures c.in_ok-self.ensures refl

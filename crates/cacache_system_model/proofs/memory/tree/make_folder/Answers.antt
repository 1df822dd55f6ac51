use Rattle.std.{proofs.Common.{rules, ◌≡◌}, specs.Prelude.{None}}
use Rattle.cacache_disk.specs.Tree.{look}
use Rattle.cacache_system_model.proofs.memory.Occurring.{makes_folder}
use Rattle.cacache_system_model.proofs.memory.tree.make_folder.Goals as goal

pub returns : goal.returns
returns c =
    let missing : None ≡ look c.args.disk.now c.in_ok-names.names = search rules in
    makes_folder c.args.disk.now c.do_step.new.disk c.args.path.now c.in_ok-names.names c.do_step.result
    c.nodes.ensures.rooted c.in_ok-names.ensures.ok missing (search rules)

use Rattle.std.{proofs.Common.{◌∙◌, ap, sym}, specs.Option.{option_copied}}
use Rattle.cacache_disk.specs.Tree.{Tree, look}
use Rattle.cacache_system_model.proofs.memory.Openings.{opens_free, put_free}
use Rattle.cacache_system_model.proofs.memory.state.Memory.create.Goals as goal

pub make-requires : goal.make-requires
make-requires c =
    put_free c.args.self.now.disk c.args.path.now c.in_ok-names.names c.in_ok-names.ensures.ok
    (ap option_copied (sym c.in-None.is) ∙ c.node.ensures ∙ ap (λ (t : Tree). look t c.in_ok-names.names) c.nodes.ensures.same)

pub returns-in-None : goal.returns-in-None
returns-in-None c =
    opens_free c.args.path.now c.in_ok-names.names c.args.self.now c.make.new.self c.make.result c.in_ok-names.ensures.ok
    (ap option_copied (sym c.in-None.is) ∙ c.node.ensures ∙ ap (λ (t : Tree). look t c.in_ok-names.names) c.nodes.ensures.same) c.make.ensures

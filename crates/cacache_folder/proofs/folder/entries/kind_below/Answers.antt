use Rattle.std.proofs.Common.{◌∙◌}
use Rattle.cacache_folder.proofs.Entries.{below_asks}
use Rattle.cacache_folder.proofs.folder.entries.kind_below.Goals as goal

pub returns-in-Ok-clause-ran : goal.returns-in-Ok-clause-ran
returns-in-Ok-clause-ran g c =
    below_asks c.args.folder.now.items c.args.name.now c.as_slice.result.now c.kind_if_text-kind.result (g.Y.System.calls c.args.system.now)
    (g.Y.System.calls c.kind_if_text-kind.new.system) (c.as_slice.ensures.value ∙ c.in-Ok.ensures.items) c.kind_if_text-kind.ensures

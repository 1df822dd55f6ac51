use Rattle.cacache_folder.proofs.Entries.{names_proper, names_odd}
use Rattle.cacache_folder.proofs.folder.entries.named.Goals as goal

pub returns-then-is_proper-clause-told : goal.returns-then-is_proper-clause-told
returns-then-is_proper-clause-told c =
    names_proper c.args.name.now c.in-Ok.name c.as_str.result.now c.args.kind c.in-Ok.ensures.told c.as_str.ensures.same c.if-is_proper.ensures

pub returns-else-is_proper-clause-told : goal.returns-else-is_proper-clause-told
returns-else-is_proper-clause-told c =
    names_odd c.args.name.now c.in-Ok.name c.as_str.result.now c.args.kind c.in-Ok.ensures.told c.as_str.ensures.same c.if-is_proper.ensures

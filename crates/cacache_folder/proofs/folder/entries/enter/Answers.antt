use Rattle.std.proofs.Common.{[], ◌∷◌, ◌++◌}
use Rattle.cacache_folder.proofs.Entries.{enters}
use Rattle.cacache_folder.proofs.folder.entries.enter.Goals as goal

pub returns-in-Ok-clause-told : goal.returns-in-Ok-clause-told
returns-in-Ok-clause-told c =
    enters c.args.name.now c.args.kind c.args.names.now.items c.push.new.names.items c.in-Ok.entry c.push.result c.in-Ok.ensures.told
    c.push.ensures.grown c.push.ensures.refused

pub returns-in-Err-clause-told : goal.returns-in-Err-clause-told
returns-in-Err-clause-told c = λ go log. c.in-Err.ensures.told (λ entry. go (c.args.names.now.items ++ entry ∷ [])) log

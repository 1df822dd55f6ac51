use Rattle.cacache_loss.proofs.PathMaps.{fixed_so}
use Rattle.cacache_loss.proofs.effect.fix.Goals as goal

pub returns : goal.returns
returns c = fixed_so c.args.files.now c.insert.new.self c.args.path c.args.fixing c.in_ok-insert.ensures.updates

use Rattle.uses_worlds.proofs.Callers.{collections_keep_puts}
use Rattle.uses_worlds.proofs.collecting.collections_are_safe.Goals as goal

pub returns : goal.returns
returns c = collections_keep_puts c.args.world.now c.stands.ensures.headline c.meanwhile_laws.ensures.names c.meanwhile_laws.ensures.puts

use Rattle.uses_worlds.proofs.Callers.{readers_never_lie}
use Rattle.uses_worlds.proofs.worlds.readers_never_lie.Goals as goal

pub returns : goal.returns
returns c = readers_never_lie c.args.world.now c.stands.ensures.headline

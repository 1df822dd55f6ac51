use Rattle.uses_worlds.proofs.Callers.{one_of_two}
use Rattle.uses_worlds.proofs.worlds.one_of_two.Goals as goal

pub returns : goal.returns
returns c = one_of_two c.args.world.now c.stands.ensures.headline

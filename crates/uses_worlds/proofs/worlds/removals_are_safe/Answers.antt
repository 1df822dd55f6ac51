use Rattle.uses_worlds.proofs.Callers.{removals_are_safe}
use Rattle.uses_worlds.proofs.worlds.removals_are_safe.Goals as goal

pub returns : goal.returns
returns c = removals_are_safe c.args.world.now c.stands.ensures.headline

use Rattle.uses_worlds.proofs.Callers.{crash_safe}
use Rattle.uses_worlds.proofs.worlds.crash_safe.Goals as goal

pub returns : goal.returns
returns c = crash_safe c.args.world.now c.stands.ensures.headline

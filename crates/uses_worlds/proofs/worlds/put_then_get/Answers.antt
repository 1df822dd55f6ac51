use Rattle.uses_worlds.proofs.Callers.{put_then_get}
use Rattle.uses_worlds.proofs.worlds.put_then_get.Goals as goal

pub returns : goal.returns
returns c = put_then_get c.args.world.now c.stands.ensures.headline c.digest_laws.ensures.same

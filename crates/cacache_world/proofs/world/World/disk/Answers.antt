use Rattle.std.proofs.Common.{◌≡◌, sym, subst}
use Rattle.cacache_world.specs.WorldKept.{last}
use Rattle.cacache_world.proofs.world.World.disk.Goals as goal

pub returns : goal.returns
returns c = subst (λ h. c.self.inside.disk ≡ (last h).tree) c.self.view_is (sym c.self.invariant.tree)

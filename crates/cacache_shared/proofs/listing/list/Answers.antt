use Rattle.std.proofs.Common.{subst}
use Rattle.cacache_world.specs.WorldKept.{MovesOn}
use Rattle.cacache_shared.proofs.Storms.{listing_ends, listing_goes_on}
use Rattle.cacache_shared.proofs.listing.list.Goals as goal

pub returns-in-Done : goal.returns-in-Done
returns-in-Done c =
    let moved = subst (λ m. MovesOn c.loop.world 0 _ m c.move_one.new.self) c.in-Done.is c.in_ok-move_one.ensures.adds in
    listing_ends c.args.world.now c.loop.world c.move_one.new.self _ c.in-Done.reply c.loop.invariant moved

pub loop-preserved : goal.loop-preserved
loop-preserved c =
    let moved = subst (λ m. MovesOn c.loop.world 0 _ m c.move_one.new.self) c.in-More.is c.in_ok-move_one.ensures.adds in
    listing_goes_on c.args.world.now c.loop.world c.move_one.new.self _ c.loop.invariant moved

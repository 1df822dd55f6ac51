use Rattle.std.proofs.Common.{subst, refl}
use Rattle.cacache.specs.Histories.{IsStanding, LeftRead}
use Rattle.uses_worlds.{specs.Losses.{LinkSurvives}, proofs.Losses.{handed_on, link_here, linked_too}}
use Rattle.uses_worlds.proofs.losing.link_survives.Goals as goal

pub returns-in_err-env : goal.returns-in_err-env
returns-in_err-env g c =
    let link = handed_on (LinkSurvives c.args.world.now c.args.key.now) c.from_residual.result c.in_err-env.field-0.0 c.from_residual.ensures.1 c.in_err-env.ensures.memory
    (λ folder p here put keyed none unchanged last. refl) in
    let outlast = c.link_losses.ensures.outlast c.args.world.now c.stands.ensures.headline.legal in
    record { link = link; any = linked_too c.args.world.now c.args.key.now c.from_residual.result outlast link }

pub returns : goal.returns
returns g c =
    let old = c.in_ok-env.env.store in
    let new = c.read_left.new.env.store in
    let lost = c.in_ok-env.ensures.tree in
    let read : IsStanding c.args.world.now.setup.cache old → LeftRead c.args.world.now.setup.cache c.args.key.now c.read_left.result old new
    = subst (λ cache. IsStanding cache old → LeftRead cache c.args.key.now c.read_left.result old new) c.cache.ensures c.read_left.ensures in
    let outlast = c.link_losses.ensures.outlast c.args.world.now c.stands.ensures.headline.legal in
    let link = link_here c.args.world.now c.args.loss.now c.args.key.now c.read_left.result old new c.stands.ensures.durable outlast c.stands.ensures.few c.link_losses.ensures.last c.loss_results.ensures.stands lost read in
    record { link = link; any = linked_too c.args.world.now c.args.key.now c.read_left.result outlast link }

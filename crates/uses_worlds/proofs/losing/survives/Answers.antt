use Rattle.std.proofs.Common.{subst, refl}
use Rattle.cacache.specs.Histories.{IsStanding, LeftRead}
use Rattle.uses_worlds.{specs.Losses.{Survives, SurvivesAlone}, proofs.Losses.{alone_here, handed_on, refused, survives_here}}
use Rattle.uses_worlds.proofs.losing.survives.Goals as goal

pub returns-in_err-env-clause-left : goal.returns-in_err-env-clause-left
returns-in_err-env-clause-left g c =
    handed_on (Survives c.args.world.now c.args.loss.now c.args.key.now) c.from_residual.result c.in_err-env.field-0.0 c.from_residual.ensures.1 c.in_err-env.ensures.memory
    (refused c.args.world.now c.args.loss.now c.args.key.now c.stands.ensures.durable c.stands.ensures.few c.loss_results.ensures.puts)

pub returns-in_err-env-clause-alone : goal.returns-in_err-env-clause-alone
returns-in_err-env-clause-alone g c =
    handed_on (SurvivesAlone c.args.world.now c.args.key.now) c.from_residual.result c.in_err-env.field-0.0 c.from_residual.ensures.1 c.in_err-env.ensures.memory
    (λ folder p here put keyed none last. refl)

pub returns : goal.returns
returns g c =
    let old = c.in_ok-env.env.store in
    let new = c.read_left.new.env.store in
    let lost = c.in_ok-env.ensures.tree in
    let read : IsStanding c.args.world.now.setup.cache old → LeftRead c.args.world.now.setup.cache c.args.key.now c.read_left.result old new
    = subst (λ cache. IsStanding cache old → LeftRead cache c.args.key.now c.read_left.result old new) c.cache.ensures c.read_left.ensures in
    record {
      left = survives_here c.args.world.now c.args.loss.now c.args.key.now c.read_left.result old new c.stands.ensures.durable c.stands.ensures.few c.loss_results.ensures.puts c.loss_results.ensures.stands lost read;
      alone = alone_here c.args.world.now c.args.loss.now c.args.key.now c.read_left.result old new c.stands.ensures.durable c.stands.ensures.few c.loss_results.ensures.last c.loss_results.ensures.stands lost read;
    }

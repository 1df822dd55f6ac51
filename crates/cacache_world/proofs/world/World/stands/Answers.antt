use Rattle.std.proofs.Common.{◌≤◌, ◌^◌, ℕ, subst, arith}
use Rattle.cacache_history.proofs.{Headline.{headline}, durable.Outlasting.{histories_outlive}}
use Rattle.cacache_world.proofs.world.World.stands.Goals as goal

pub returns : goal.returns
returns c = record {
  headline = headline c.args.self.now c.calls_begun-count.ensures.legal;
  durable = histories_outlive c.args.self.now c.calls_begun-count.ensures.legal;
  few =
      let below = c.calls_begun-count.type_inv in
      subst (λ (n : ℕ). n ≤ 2 ^ 64) c.calls_begun-count.ensures.count (omega arith);
}

use Rattle.std.proofs.Common.{◌∙◌, ◌++◌, ◌+◌, List, take, drop, ap, arith}
use Rattle.cacache_core.specs.Paths.{Names}
use Rattle.cacache_loss.{specs.Reached.{fronts}, proofs.PathMaps.{fronts_more}}
use Rattle.cacache_loss.proofs.reached.fronts.Goals as goal

pub loop-i-preserved : goal.loop-i-preserved
loop-i-preserved c =
    ap (λ (paths : List Names). paths ++ fronts (take (c.loop-i.i + 1) c.args.path.now) (drop (c.loop-i.i + 1) c.args.path.now)) c.in_ok-push.ensures.items
    ∙ fronts_more c.loop-i.paths.items c.args.path.now c.loop-i.i c.in_ok-front.field-0 (omega (arith, c.loop-i-test.true)) c.in_ok-front.ensures
    ∙ c.loop-i.invariant

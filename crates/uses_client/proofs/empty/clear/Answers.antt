use Rattle.std.proofs.lemmas.Result.{MatchResult-weaker}
use Rattle.uses_client.proofs.Shown.{clear_failed}
use Rattle.uses_client.proofs.empty.clear.Goals as goal

pub returns : goal.returns
returns g c =
    let cleared = c.after_clear.ensures c.args.env.now c.requires c.clear_sync-cleared.ensures.ran in
    record { sound = cleared.sound; empty = cleared.empty; fails = λ folder. MatchResult-weaker c.clear_sync-cleared.result (cleared.succeeds folder) (λ u h. h) (clear_failed c.args.cache.now c.args.env.now.store) }

-- The key leads where it led.
use Rattle.std.proofs.lemmas.Result.{MatchResult-from_both, MatchResult-weaker}
use Rattle.uses_keep.proofs.read_tidied.Goals as goal

pub returns : goal.returns
returns g c = λ folder i bytes has.
    let kept = c.tidied-collected.ensures folder in
    let still = kept.key c.args.key.now bytes i has in
    let read = c.after_read.ensures c.tidied-collected.new.env kept.sound c.read_sync-read.ensures.ran in
    MatchResult-from_both c.read_sync-read.result _ _ (MatchResult-weaker c.read_sync-read.result (read.gives i bytes still) (λ v h. h) (λ e h. tt)) (read.succeeds i bytes folder still)

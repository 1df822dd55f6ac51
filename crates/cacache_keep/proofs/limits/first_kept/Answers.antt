use Rattle.std.proofs.Common.{◌≡◌, ◌+◌, ◌-◌, ◌<◌, ap, subst, sym, ◌∙◌, drop, length, map, arith}
use Rattle.cacache_keep.specs.Limits.{Keeps, weight_of}
use Rattle.cacache_keep.proofs.{Aging.{no_room, not_since, one_front, said_no}, limits.first_kept.Goals.{then-not-is_since-via-then-not-is_since, then-not-is_since-via-else-not-is_since+then-not-has_room}}
use Rattle.cacache_keep.proofs.limits.first_kept.Goals as goal

pub returns-then-not-is_since-clause-needed : goal.returns-then-not-is_since-clause-needed
returns-then-not-is_since-clause-needed c = λ n next keeps.
    let entries = c.args.weighed.now in
    let first = c.loop-first.first in
    let m = c.index-weighed-first.result in
    let kept = map weight_of (drop first entries) in
    let here : first - 1 ≡ n = omega (arith, next) in
    let low : first - 1 < length entries = omega (arith, next, c.loop-first.invariant.0) in
    let front = one_front entries first (first - 1) m (next ∙ ap (λ k. k + 1) (sym here)) low c.index-weighed-first.is in
    let more : Keeps c.args.limits (map weight_of (drop (first - 1) entries)) = subst (λ k. Keeps c.args.limits (map weight_of (drop k entries))) (sym here) keeps in
    elim c.then-not-is_since.branch [
      | then-not-is_since-via-then-not-is_since w ↦ not_since c.args.limits kept (map weight_of (drop (first - 1) entries)) (weight_of m) front (said_no c.is_since.result c.is_since.ensures w.if-not-is_since.true) more
      | then-not-is_since-via-else-not-is_since+then-not-has_room w ↦ no_room c.args.limits c.loop-first.room kept (map weight_of (drop (first - 1) entries)) (weight_of m) front c.loop-first.invariant.1 (said_no w.has_room.result w.has_room.ensures w.if-not-has_room.true) more
    ]

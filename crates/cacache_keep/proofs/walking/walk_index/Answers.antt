use Rattle.std.proofs.Common.{◌<◌, map, rules, subst, sym}
use Rattle.cacache_calls.specs.Runs.{plain_item}
use Rattle.cacache_walks.specs.Iterating.{steps_left}
use Rattle.cacache_keep.{specs.Walking.{LosesIndex, MeetsIndex, WalksIndex}, proofs.Indexes.IndexWalks.{begins, ended}}
use Rattle.cacache_keep.proofs.walking.walk_index.Goals as goal

pub visits-init : goal.visits-init
visits-init g c = begins c.args.cache.now c.in_ok-walk.visit c.in_ok-walk.walk _ (g.S.Store.log c.args.store.now) c.new-odd.ensures.items (rw c.in_ok-join.ensures at c.in_ok-walk.ensures.stands)

pub visits-smaller : goal.visits-smaller
visits-smaller g c =
    let cache = c.args.cache.now in
    let old = g.S.Store.log c.args.store.now in
    let at = subst (λ n. WalksIndex cache n c.visits.walk c.visits.odd.items old (g.S.Store.log c.visits.store)) c.in-Some.is c.visits.invariant in
    subst (λ n. steps_left c.in_ok-next.next c.make.new.walk < steps_left n c.visits.walk) (sym c.in-Some.is) (c.in_ok-next.ensures.goes cache old at).1

pub visits-preserved : goal.visits-preserved
visits-preserved g c =
    let cache = c.args.cache.now in
    let old = g.S.Store.log c.args.store.now in
    let at = subst (λ n. WalksIndex cache n c.visits.walk c.visits.odd.items old (g.S.Store.log c.visits.store)) c.in-Some.is c.visits.invariant in
    (c.in_ok-next.ensures.goes cache old at).0

pub returns-in_err-next-clause-stops : goal.returns-in_err-next-clause-stops
returns-in_err-next-clause-stops g c =
    let cache = c.args.cache.now in
    let old = g.S.Store.log c.args.store.now in
    let new = g.S.Store.log c.make.new.store in
    let e = c.in_err-next.field-0.0 in
    let at = subst (λ n. WalksIndex cache n c.visits.walk c.visits.odd.items old (g.S.Store.log c.visits.store)) c.in-Some.is c.visits.invariant in
    let stops : LosesIndex cache e old new = c.in_err-next.ensures.stops cache old at in
    search (rules, stops)

pub returns-clause-meets : goal.returns-clause-meets
returns-clause-meets g c =
    let cache = c.args.cache.now in
    let old = g.S.Store.log c.args.store.now in
    let new = g.S.Store.log c.visits.store in
    let at = subst (λ n. WalksIndex cache n c.visits.walk c.visits.odd.items old new) c.in_default.is c.visits.invariant in
    let met : MeetsIndex cache (map plain_item c.visits.walk.items.items) c.visits.odd.items old new = ended cache c.visits.walk c.visits.odd.items old new at in
    rw c.swap.ensures.x_after met

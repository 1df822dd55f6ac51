use Rattle.std.proofs.Common.{rules}
use Rattle.cacache_walks.proofs.{Stopping.{stops_on}, Walks.{begins, goes_on, ended}}
use Rattle.cacache_walks.proofs.contents.walk.files_below.Goals as goal

pub visits-init : goal.visits-init
visits-init g c = rw c.new-files.ensures.items (begins c.in_ok-walk.walk c.in_ok-walk.visit c.args.top.now (g.S.Store.log c.args.store.now) c.in_ok-walk.ensures.empty (rw c.in_ok-from_str.ensures at c.in_ok-walk.ensures.stands))

pub visits-preserved : goal.visits-preserved
visits-preserved g c =
    let i = c.visits.invariant in
    goes_on i (c.in_ok-next.ensures.goes i.rest (rw c.in-Some.is at i.stands))

pub returns-clause-reads : goal.returns-clause-reads
returns-clause-reads g c = ended c.visits.next c.visits.walk c.args.top.now _ _ c.visits.files.items c.in_default.is c.visits.invariant

pub returns-in_err-next-clause-stops : goal.returns-in_err-next-clause-stops
returns-in_err-next-clause-stops g c =
    let i = c.visits.invariant in
    let stops = stops_on c.in_err-next.field-0.0 i (c.in_err-next.ensures.stops i.rest (rw c.in-Some.is at i.stands)) in search rules

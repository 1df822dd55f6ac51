use Rattle.std.proofs.Common.{◌≡◌, arith}
use Rattle.cacache_core.specs.declared.errors.Error.TheVariants.{OutOfMemory}
use Rattle.cacache_keep.{specs.Rewriting.{StopsWriting}, proofs.{NewBuckets.Rewrites.{write_lost, write_more, write_none, write_stops}, Stopped.{error_as}}}
use Rattle.cacache_keep.proofs.rewriting.write_all.Goals as goal

pub returns-in_err-shared-clause-stops : goal.returns-in_err-shared-clause-stops
returns-in_err-shared-clause-stops g c =
    let seen = g.S.Temp.TempHandle.seen in
    let old = g.S.Store.log c.args.store.now in
    let mid = g.S.Store.log c.writes.store in
    error_as (λ e. StopsWriting (seen c.args.file) c.args.bytes e old mid) c.from_residual.result OutOfMemory c.from_residual.ensures.1
    (write_lost (seen c.args.file) (seen c.writes.file) c.args.bytes c.writes.rest old mid c.writes.invariant)

pub returns-then-count-eq0-clause-stops : goal.returns-then-count-eq0-clause-stops
returns-then-count-eq0-clause-stops g c =
    let seen = g.S.Temp.TempHandle.seen in
    let old = g.S.Store.log c.args.store.now in
    let mid = g.S.Store.log c.writes.store in
    let new = g.S.Store.log c.step.new.self in
    let none : c.in-Ok.written.count ≡ 0 = omega (arith, c.if-count-eq0.true) in
    write_none (seen c.args.file) (seen c.writes.file) (seen c.in-Ok.written.file) c.args.bytes c.writes.rest c.in_ok-shared.shared _ old mid new c.writes.invariant c.in_ok-shared.ensures c.step.ensures.logged c.in-Ok.written.count c.refused.result c.in-Ok.ensures none c.refused.ensures

pub writes-preserved : goal.writes-preserved
writes-preserved g c =
    let seen = g.S.Temp.TempHandle.seen in
    let old = g.S.Store.log c.args.store.now in
    let mid = g.S.Store.log c.writes.store in
    let new = g.S.Store.log c.step.new.self in
    write_more (seen c.args.file) (seen c.writes.file) (seen c.in-Ok.written.file) c.args.bytes c.writes.rest c.in_ok-shared.shared _ old mid new c.writes.invariant c.in_ok-shared.ensures c.step.ensures.logged c.in-Ok.written.count c.rest-rest.result c.in-Ok.ensures c.rest-rest.ensures

pub returns-in-Err-clause-stops : goal.returns-in-Err-clause-stops
returns-in-Err-clause-stops g c =
    let seen = g.S.Temp.TempHandle.seen in
    let old = g.S.Store.log c.args.store.now in
    let mid = g.S.Store.log c.writes.store in
    let new = g.S.Store.log c.step.new.self in
    write_stops (seen c.args.file) (seen c.writes.file) c.args.bytes c.writes.rest c.in_ok-shared.shared _ c.in-Err.refusal c.refused-in-Err.result old mid new c.writes.invariant c.in_ok-shared.ensures c.in-Err.ensures c.step.ensures.fits c.step.ensures.logged c.refused-in-Err.ensures

use Rattle.std.proofs.Common.{ℕ, List, subst}
use Rattle.cacache_calls.specs.Steps.{content_path}
use Rattle.cacache_core.specs.declared.errors.Error.TheVariants.{OutOfMemory}
use Rattle.cacache_keep.{specs.Dropping.{Drops, StopsDropping, StopsUnlinking}, proofs.{Collections.Fates.{next_left, one_dropped, unlinked_for_memory}, Stopped.{error_as}}}
use Rattle.cacache_keep.proofs.dropping.drop_each.Goals as goal

pub returns-in_err-path-clause-stops : goal.returns-in_err-path-clause-stops
returns-in_err-path-clause-stops g c =
    let old = g.S.Store.log c.args.store.now in
    let mid = g.S.Store.log c.loop-sri.store in
    error_as (λ x. StopsDropping c.args.limit c.args.cache.now c.args.addresses.now x old mid) c.from_residual.result OutOfMemory c.from_residual.ensures.1
    (next_left c.args.limit c.args.cache.now c.args.addresses.now c.loop-sri.sri-index c.sri-item.result c.loop-sri.tally OutOfMemory old mid mid c.loop-sri-test.true c.sri-item.is c.loop-sri.invariant (unlinked_for_memory (content_path c.args.cache.now c.sri-item.result) mid))

pub returns-in_err-fate-clause-stops : goal.returns-in_err-fate-clause-stops
returns-in_err-fate-clause-stops g c =
    let old = g.S.Store.log c.args.store.now in
    let mid = g.S.Store.log c.loop-sri.store in
    let new = g.S.Store.log c.drop_old.new.store in
    let e = c.in_err-fate.field-0.0 in
    let stops = subst (λ (p : List ℕ). StopsUnlinking p e mid new) c.in_ok-path.ensures c.in_err-fate.ensures.stops in
    error_as (λ x. StopsDropping c.args.limit c.args.cache.now c.args.addresses.now x old new) c.from_residual-in_err-fate.result e c.from_residual-in_err-fate.ensures.1
    (next_left c.args.limit c.args.cache.now c.args.addresses.now c.loop-sri.sri-index c.sri-item.result c.loop-sri.tally e old mid new c.loop-sri-test.true c.sri-item.is c.loop-sri.invariant stops)

pub loop-sri-preserved : goal.loop-sri-preserved
loop-sri-preserved g c =
    let old = g.S.Store.log c.args.store.now in
    let mid = g.S.Store.log c.loop-sri.store in
    let new = g.S.Store.log c.drop_old.new.store in
    let fate = c.in_ok-fate.fate in
    let drops = subst (λ (p : List ℕ). Drops c.args.limit p fate mid new) c.in_ok-path.ensures c.in_ok-fate.ensures.drops in
    one_dropped c.args.limit c.args.cache.now c.args.addresses.now c.loop-sri.sri-index c.sri-item.result fate c.loop-sri.tally c.and_one-tally.result old mid new c.loop-sri-test.true c.sri-item.is c.loop-sri.invariant drops c.and_one-tally.ensures

use Rattle.std.proofs.{Common.{◌+◌, drop, length, rules}, lemmas.Iterator.Adapters.{YieldsList-from_vec}}
use Rattle.cacache_core.specs.declared.errors.Error.TheVariants.{OutOfMemory}
use Rattle.cacache_keep.specs.{declared.planning.Unused.{Unused}, Planning.{StopsTelling}}
use Rattle.cacache_keep.proofs.{Repairs.InTurn.{split_turn}, Collections.Sizes.{lost_told, next_hidden, one_told}, Stopped.{error_as}}
use Rattle.cacache_keep.proofs.planning.sizes_of.Goals as goal

pub returns-in_err-bytes-clause-stops : goal.returns-in_err-bytes-clause-stops
returns-in_err-bytes-clause-stops g c =
    let cache = c.args.cache.now in
    let old = g.S.Store.log c.args.store.now in
    let mid = g.S.Store.log c.loop-address.store in
    let new = g.S.Store.log c.size_of.new.store in
    let addresses = c.args.addresses.items in
    let seen = c.loop-address.yielded in
    let split = split_turn (YieldsList-from_vec {s = c.into_iter-address-iterator.result} addresses (search rules) (search rules)) seen c.loop-address.address-iterator c.next.new.self c.loop-address.yielded_by c.next.result c.in-Some.address c.in-Some.is c.next.ensures.steps in
    let e = c.in_err-bytes.field-0.0 in
    error_as (λ x. StopsTelling cache addresses x old new) c.from_residual.result e c.from_residual.ensures.1
    (next_hidden cache addresses seen c.loop-address.unused.items c.in-Some.address (drop (length seen + 1) addresses) e old mid new split c.loop-address.invariant c.in_err-bytes.ensures.stops)

pub loop-address-preserved : goal.loop-address-preserved
loop-address-preserved g c =
    let u : Unused = record { address = c.in-Some.address; bytes = c.in_ok-bytes.bytes } in
    one_told c.args.cache.now c.loop-address.yielded c.loop-address.unused.items _ u (g.S.Store.log c.args.store.now) (g.S.Store.log c.loop-address.store) (g.S.Store.log c.size_of.new.store) c.in_ok-push.ensures.items c.loop-address.invariant c.in_ok-bytes.ensures.tells

pub returns-in_err-push-clause-stops : goal.returns-in_err-push-clause-stops
returns-in_err-push-clause-stops g c =
    let cache = c.args.cache.now in
    let old = g.S.Store.log c.args.store.now in
    let mid = g.S.Store.log c.loop-address.store in
    let new = g.S.Store.log c.size_of.new.store in
    let addresses = c.args.addresses.items in
    let seen = c.loop-address.yielded in
    let split = split_turn (YieldsList-from_vec {s = c.into_iter-address-iterator.result} addresses (search rules) (search rules)) seen c.loop-address.address-iterator c.next.new.self c.loop-address.yielded_by c.next.result c.in-Some.address c.in-Some.is c.next.ensures.steps in
    let u : Unused = record { address = c.in-Some.address; bytes = c.in_ok-bytes.bytes } in
    error_as (λ x. StopsTelling cache addresses x old new) c.from_residual-in_err-push.result OutOfMemory c.from_residual-in_err-push.ensures.1
    (lost_told cache addresses seen c.loop-address.unused.items u (drop (length seen + 1) addresses) old mid new split c.loop-address.invariant c.in_ok-bytes.ensures.tells)

use Rattle.std.proofs.Common.{List, ℕ, inl}
use Rattle.cacache_calls.specs.declared.reply.Reply.TheVariants.{Refused}
use Rattle.cacache_core.specs.declared.errors.Error.TheVariants.{OutOfMemory}
use Rattle.cacache_jobs.specs.JobStates.{site_of}
use Rattle.cacache_keep.{specs.Calls.{StopsIndex}, proofs.{Asked.{plain_are}, Stopped.{error_as, items_stop}}}
use Rattle.cacache_keep.proofs.index.read_index.Goals as goal

pub returns-in_err-items-clause-stops : goal.returns-in_err-items-clause-stops
returns-in_err-items-clause-stops g c =
    let old = g.S.Store.log c.args.store.now in
    let new = g.S.Store.log c.walk_index.new.store in
    let stops = c.in_err-items.ensures.stops in
    error_as (λ x. (base : List ℕ) → StopsIndex (site_of c.args.cache.now base 0) x old new) c.from_residual.result c.in_err-items.field-0.0 c.from_residual.ensures.1 (λ base. (Refused OutOfMemory, stops.1, inl stops.0))

pub returns-in_err-entries-clause-stops : goal.returns-in_err-entries-clause-stops
returns-in_err-entries-clause-stops g c =
    let cache = c.args.cache.now in
    let old = g.S.Store.log c.args.store.now in
    let new = g.S.Store.log c.walk_index.new.store in
    let e = c.in_err-entries.field-0.0 in
    error_as (λ x. (base : List ℕ) → StopsIndex (site_of cache base 0) x old new) c.from_residual-in_err-entries.result e c.from_residual-in_err-entries.ensures.1
    (λ base. items_stop cache base c.in_ok-items.field-0.items.items e c.in_ok-items.field-0.odd.items old new c.in_ok-items.ensures.meets c.in_err-entries.ensures.err)

pub returns-clause-reads : goal.returns-clause-reads
returns-clause-reads g c =
    let met = c.in_ok-items.ensures.meets in
    λ base. ((_, plain_are c.in_ok-items.field-0.items.items c.in_ok-entries.entries.items c.in_ok-entries.ensures.ok, met.0), met.1)

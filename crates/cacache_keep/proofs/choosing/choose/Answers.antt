use Rattle.std.proofs.Common.{◌≡◌, ◌+◌, ◌-◌, inl, inr, length, map, rules, string_bytes}
use Rattle.cacache_core.specs.declared.errors.Error.TheVariants.{OutOfMemory}
use Rattle.cacache_jobs.specs.JobStates.{site_of}
use Rattle.cacache_keep.{specs.{Calls.{AreUnused}, Keeping.{Chooses}}, proofs.Stopped.{entries_stop, lost_here, error_as}}
use Rattle.cacache_keep.proofs.choosing.choose.Goals as goal

pub returns-in_err-addresses-clause-stops : goal.returns-in_err-addresses-clause-stops
returns-in_err-addresses-clause-stops g c =
    error_as _ _ _ c.from_residual.ensures.1 (inl c.in_err-addresses.ensures.stops)

pub returns-in_err-entries-clause-stops : goal.returns-in_err-entries-clause-stops
returns-in_err-entries-clause-stops g c =
    error_as _ _ _ c.from_residual-in_err-entries.ensures.1
    (inr (c.in_ok-addresses.field-0.addresses.items, map string_bytes c.in_ok-addresses.field-0.strange.items, g.S.Store.log c.list.new.env.store, c.in_ok-addresses.ensures.lists, inl (c.in_err-entries.ensures.stops c.args.env.now.base)))

pub returns-in_err-dropped-clause-stops : goal.returns-in_err-dropped-clause-stops
returns-in_err-dropped-clause-stops g c =
    let base = c.args.env.now.base in
    let site = site_of c.args.cache.now base 0 in
    let log = g.S.Store.log in
    let found = log c.list.new.env.store in
    let new = log c.read_index.new.store in
    error_as _ _ OutOfMemory c.from_residual-in_err-dropped.ensures.1
    (inr (c.in_ok-addresses.field-0.addresses.items, map string_bytes c.in_ok-addresses.field-0.strange.items, found, c.in_ok-addresses.ensures.lists, entries_stop site _ OutOfMemory found new new (c.in_ok-entries.ensures.reads base).0 (lost_here site new)))

pub returns-clause-chooses : goal.returns-clause-chooses
returns-clause-chooses g c =
    let base = c.args.env.now.base in
    let log = g.S.Store.log in
    let addresses = c.in_ok-addresses.field-0.addresses.items in
    let entries = c.in_ok-entries.field-0.entries.items in
    let dropped = c.in_ok-dropped.dropped.items in
    let kept = c.len-count.result - c.len.result in
    let reads = c.in_ok-entries.ensures.reads base in
    let unused : AreUnused entries addresses dropped = search (rules, c.in_ok-dropped.ensures) in
    let counts : kept + length dropped ≡ length addresses = search (rules, unused.fewer) in
    let it : Chooses (site_of c.args.cache.now base 0) kept dropped (log c.args.env.now.store) (log c.read_index.new.store) = record {
      addresses = addresses;
      order = c.in_ok-addresses.ensures.by_hash;
      strange = map string_bytes c.in_ok-addresses.field-0.strange.items;
      found = log c.list.new.env.store;
      contents = c.in_ok-addresses.ensures.lists;
      entries = entries;
      listing = reads.0;
      unused = unused;
      counts = counts;
    } in
    (it, reads.1)

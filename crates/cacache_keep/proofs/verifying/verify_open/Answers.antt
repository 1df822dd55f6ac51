use Rattle.std.proofs.Common.{inl, inr, map, string_bytes}
use Rattle.cacache_entry.specs.View.{found_view}
use Rattle.cacache_jobs.specs.JobStates.{site_of}
use Rattle.cacache_keep.{specs.{Calls.{AsksEach, StopsQuestions}, Keeping.{VerifiesCache}}, proofs.Stopped.{at_base, entries_stop, error_as}}
use Rattle.cacache_keep.proofs.verifying.verify_open.Goals as goal

pub returns-in_err-addresses-clause-stops : goal.returns-in_err-addresses-clause-stops
returns-in_err-addresses-clause-stops g c =
    error_as _ _ _ c.from_residual.ensures.1 (inl c.in_err-addresses.ensures.stops)

pub returns-in_err-good-clause-stops : goal.returns-in_err-good-clause-stops
returns-in_err-good-clause-stops g c =
    error_as _ _ _ c.from_residual-in_err-good.ensures.1
    (inr (c.in_ok-addresses.field-0.addresses.items, map string_bytes c.in_ok-addresses.field-0.strange.items, g.S.Store.log c.list.new.env.store, c.in_ok-addresses.ensures.lists, inl c.in_err-good.ensures.stops))

pub returns-in_err-entries-clause-stops : goal.returns-in_err-entries-clause-stops
returns-in_err-entries-clause-stops g c =
    let log = g.S.Store.log in
    error_as _ _ _ c.from_residual-in_err-entries.ensures.1
    (inr (c.in_ok-addresses.field-0.addresses.items, map string_bytes c.in_ok-addresses.field-0.strange.items, log c.list.new.env.store, c.in_ok-addresses.ensures.lists, inr (_, _, log c.read_each.new.store, c.in_ok-good.ensures.reads.0, inl (c.in_err-entries.ensures.stops c.args.env.now.base))))

pub returns-in_err-dangling-clause-stops : goal.returns-in_err-dangling-clause-stops
returns-in_err-dangling-clause-stops g c =
    let cache = c.args.cache.now in
    let base = c.args.env.now.base in
    let log = g.S.Store.log in
    let read = log c.read_each.new.store in
    let listed = log c.read_index.new.store in
    let new = log c.dangling_of.new.env.store in
    let e = c.in_err-dangling.field-0.0 in
    let stop = at_base (λ s. StopsQuestions s e listed new) cache base c.list.new.env.base c.list.ensures.base c.in_err-dangling.ensures.stops in
    error_as _ _ _ c.from_residual-in_err-dangling.ensures.1
    (inr (c.in_ok-addresses.field-0.addresses.items, map string_bytes c.in_ok-addresses.field-0.strange.items, log c.list.new.env.store, c.in_ok-addresses.ensures.lists, inr (_, _, read, c.in_ok-good.ensures.reads.0, entries_stop (site_of cache base 0) _ e read listed new (c.in_ok-entries.ensures.reads base).0 stop)))

pub returns-clause-verifies : goal.returns-clause-verifies
returns-clause-verifies g c =
    let cache = c.args.cache.now in
    let base = c.args.env.now.base in
    let log = g.S.Store.log in
    let read = log c.read_each.new.store in
    let listed = log c.read_index.new.store in
    let new = log c.dangling_of.new.env.store in
    let w = c.in_ok-good.ensures.reads in
    let entries = c.in_ok-entries.field-0.entries.items in
    let lists = c.in_ok-entries.ensures.reads base in
    let dangling = map found_view c.in_ok-dangling.dangling.items in
    let it : VerifiesCache (site_of cache base 0) c.in_ok-good.field-0.good c.in_ok-good.field-0.damaged.items dangling (map string_bytes c.in_ok-addresses.field-0.strange.items) (log c.args.env.now.store) new
    = record {
      addresses = c.in_ok-addresses.field-0.addresses.items;
      order = c.in_ok-addresses.ensures.by_hash;
      strange_order = c.in_ok-addresses.ensures.by_bytes;
      found = log c.list.new.env.store;
      contents = c.in_ok-addresses.ensures.lists;
      read = read;
      reading = w.0;
      entries = entries;
      listed = listed;
      listing = lists.0;
      asking = at_base (λ s. AsksEach s entries dangling listed new) cache base c.list.new.env.base c.list.ensures.base c.in_ok-dangling.ensures.asks;
    } in
    (it, (w.1, w.2), lists.1)

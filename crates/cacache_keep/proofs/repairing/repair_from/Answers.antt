use Rattle.std.proofs.Common.{inl, inr, map, rules, string_bytes, ◌∙◌}
use Rattle.cacache_entry.specs.View.{found_view}
use Rattle.cacache_jobs.specs.JobStates.{site_of}
use Rattle.cacache_keep.specs.{Calls.{AsksEach, MadeCalls, StopsQuestions, StopsRemoving, removal}, Repairing.{StopsBuryingAll, StopsRepairingFrom}}
use Rattle.cacache_keep.proofs.Stopped.{at_base, drops, error_as}
use Rattle.cacache_keep.proofs.repairing.repair_from.Goals as goal

pub returns-in_err-addresses-clause-stops : goal.returns-in_err-addresses-clause-stops
returns-in_err-addresses-clause-stops g c =
    error_as (λ x. StopsRepairingFrom (site_of c.args.cache.now c.args.env.now.base 0) c.args.entries.items x (g.S.Store.log c.args.env.now.store) (g.S.Store.log c.list.new.env.store)) c.from_residual.result c.in_err-addresses.field-0.0 c.from_residual.ensures.1
    (inl (inl c.in_err-addresses.ensures.stops))

pub returns-in_err-damaged-clause-stops : goal.returns-in_err-damaged-clause-stops
returns-in_err-damaged-clause-stops g c =
    let log = g.S.Store.log in
    error_as (λ x. StopsRepairingFrom (site_of c.args.cache.now c.args.env.now.base 0) c.args.entries.items x (log c.args.env.now.store) (log c.read_each.new.store)) c.from_residual-in_err-damaged.result c.in_err-damaged.field-0.0 c.from_residual-in_err-damaged.ensures.1
    (inl (inr (c.in_ok-addresses.field-0.addresses.items, map string_bytes c.in_ok-addresses.field-0.strange.items, log c.list.new.env.store, c.in_ok-addresses.ensures.lists, inl c.in_err-damaged.ensures.stops)))

pub returns-in_err-remove_each-clause-stops : goal.returns-in_err-remove_each-clause-stops
returns-in_err-remove_each-clause-stops g c =
    let cache = c.args.cache.now in
    let base = c.args.env.now.base in
    let site = site_of cache base 0 in
    let log = g.S.Store.log in
    let read = log c.read_each.new.store in
    let new = log c.remove_each.new.env.store in
    let e = c.in_err-remove_each.field-0.0 in
    let damaged = c.in_ok-damaged.field-0.damaged.items in
    let stop : StopsRemoving (site_of cache c.list.new.env.base 0) damaged e read new = search (rules, c.in_err-remove_each.ensures.stops) in
    let stops = at_base (λ s. StopsRemoving s damaged e read new) cache base c.list.new.env.base c.list.ensures.base stop in
    error_as (λ x. StopsRepairingFrom site c.args.entries.items x (log c.args.env.now.store) new) c.from_residual-in_err-remove_each.result e c.from_residual-in_err-remove_each.ensures.1
    (inl (inr (c.in_ok-addresses.field-0.addresses.items, map string_bytes c.in_ok-addresses.field-0.strange.items, log c.list.new.env.store, c.in_ok-addresses.ensures.lists, inr (_, damaged, read, c.in_ok-damaged.ensures.reads.0, stops))))

pub returns-in_err-dangling-clause-stops : goal.returns-in_err-dangling-clause-stops
returns-in_err-dangling-clause-stops g c =
    let cache = c.args.cache.now in
    let base = c.args.env.now.base in
    let log = g.S.Store.log in
    let read = log c.read_each.new.store in
    let clean = log c.remove_each.new.env.store in
    let new = log c.dangling_of.new.env.store in
    let e = c.in_err-dangling.field-0.0 in
    let damaged = c.in_ok-damaged.field-0.damaged.items in
    let behind = c.remove_each.ensures.rest.2 ∙ c.list.ensures.base in
    let removals : MadeCalls (site_of cache c.list.new.env.base 0) (map removal damaged) read clean = search (rules, c.in_ok-remove_each.ensures.removes) in
    let dropped = drops cache base c.list.new.env.base _ damaged _ _ _ _ read clean c.list.ensures.base c.in_ok-addresses.ensures.lists c.in_ok-damaged.ensures.reads.0 removals in
    let stop = at_base (λ s. StopsQuestions s e clean new) cache base c.remove_each.new.env.base behind c.in_err-dangling.ensures.stops in
    error_as (λ x. StopsRepairingFrom (site_of cache base 0) c.args.entries.items x (log c.args.env.now.store) new) c.from_residual-in_err-dangling.result e c.from_residual-in_err-dangling.ensures.1
    (inr (clean, dropped, inl stop))

pub returns-in_err-dangling-2-clause-stops : goal.returns-in_err-dangling-2-clause-stops
returns-in_err-dangling-2-clause-stops g c =
    let cache = c.args.cache.now in
    let base = c.args.env.now.base in
    let log = g.S.Store.log in
    let read = log c.read_each.new.store in
    let clean = log c.remove_each.new.env.store in
    let asked = log c.dangling_of.new.env.store in
    let new = log c.bury_all.new.env.store in
    let e = c.in_err-dangling-2.field-0.0 in
    let damaged = c.in_ok-damaged.field-0.damaged.items in
    let entries = c.args.entries.items in
    let dangling = map found_view c.in_ok-dangling.dangling.items in
    let behind = c.remove_each.ensures.rest.2 ∙ c.list.ensures.base in
    let removals : MadeCalls (site_of cache c.list.new.env.base 0) (map removal damaged) read clean = search (rules, c.in_ok-remove_each.ensures.removes) in
    let dropped = drops cache base c.list.new.env.base _ damaged _ _ _ _ read clean c.list.ensures.base c.in_ok-addresses.ensures.lists c.in_ok-damaged.ensures.reads.0 removals in
    let asks = at_base (λ s. AsksEach s entries dangling clean asked) cache base c.remove_each.new.env.base behind c.in_ok-dangling.ensures.asks in
    let stop = at_base (λ s. StopsBuryingAll s dangling e asked new) cache base c.dangling_of.new.env.base (c.dangling_of.ensures.rest.2 ∙ behind) c.in_err-dangling-2.ensures.stops in
    error_as (λ x. StopsRepairingFrom (site_of cache base 0) entries x (log c.args.env.now.store) new) c.from_residual-in_err-dangling-2.result e c.from_residual-in_err-dangling-2.ensures.1
    (inr (clean, dropped, inr (dangling, asked, asks, stop)))

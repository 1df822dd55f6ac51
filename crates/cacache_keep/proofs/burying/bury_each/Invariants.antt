use Rattle.std.proofs.Common.{◌≡◌, map}
use Rattle.cacache_entry.specs.View.{found_view}
use Rattle.cacache_jobs.specs.JobStates.{site_of}
use Rattle.cacache_keep.specs.Repairing.{BuriesEach}
use Rattle.cacache_keep.proofs.burying.bury_each.Given as goal

abbrev pub invariant-loop-entry : goal.invariant-loop-entry
invariant-loop-entry g l =
    (l.env.names ≡ l.fn.env.names) × (l.env.base ≡ l.fn.env.base)
    × BuriesEach (site_of l.cache l.fn.env.base 0) l.shown (map found_view l.yielded) (map found_view l.buried.items) (g.S.Store.log l.fn.env.store) (g.S.Store.log l.env.store)

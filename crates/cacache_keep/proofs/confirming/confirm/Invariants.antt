use Rattle.std.proofs.Common.{map, take}
use Rattle.cacache_entry.specs.View.{found_view}
use Rattle.cacache_jobs.specs.{Environment.{KeepsRest}, JobStates.{site_of}}
use Rattle.cacache_keep.specs.Confirming.{Confirms}
use Rattle.cacache_keep.proofs.confirming.confirm.Given as goal

abbrev pub invariant-loop-entry : goal.invariant-loop-entry
invariant-loop-entry g l =
    KeepsRest l.fn.env l.env
    × Confirms (site_of l.cache l.fn.env.base 0) (map found_view (take l.entry-index l.entries)) (g.S.Store.log l.fn.env.store) (g.S.Store.log l.env.store)

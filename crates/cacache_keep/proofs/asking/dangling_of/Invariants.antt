use Rattle.std.proofs.Common.{map}
use Rattle.cacache_entry.specs.View.{found_view}
use Rattle.cacache_jobs.specs.{Environment.{KeepsRest}, JobStates.{site_of}}
use Rattle.cacache_keep.specs.Calls.{AsksEach}
use Rattle.cacache_keep.proofs.asking.dangling_of.Given as goal

abbrev pub invariant-loop-found : goal.invariant-loop-found
invariant-loop-found g l =
    KeepsRest l.fn.env l.env × AsksEach (site_of l.cache l.fn.env.base 0) l.yielded (map found_view l.dangling.items) (g.S.Store.log l.fn.env.store) (g.S.Store.log l.env.store)

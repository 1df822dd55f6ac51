use Rattle.std.proofs.Common.{map, take}
use Rattle.cacache_jobs.specs.{Environment.{KeepsRest}, JobStates.{site_of}}
use Rattle.cacache_keep.specs.Calls.{MadeCalls, removal}
use Rattle.cacache_keep.proofs.removing.remove_each.Given as goal

abbrev pub invariant-loop-sri : goal.invariant-loop-sri
invariant-loop-sri g l =
    KeepsRest l.fn.env l.env × MadeCalls (site_of l.cache l.fn.env.base 0) (map removal (take l.sri-index l.addresses)) (g.S.Store.log l.fn.env.store) (g.S.Store.log l.env.store)

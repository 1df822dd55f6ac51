use Rattle.std.{proofs.Common.{◌≡◌}, specs.Prelude.{None, replicate, vec_len}}
use Rattle.cacache_world.proofs.callers.idle.Given as goal

abbrev pub invariant-loop : goal.invariant-loop
invariant-loop l = (l.calls.items ≡ replicate l.counter None) × (vec_len l.calls ≡ l.counter)

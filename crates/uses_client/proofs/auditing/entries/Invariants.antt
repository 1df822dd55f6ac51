use Rattle.std.proofs.Common.{◌≡◌, Ok, map}
use Rattle.uses_client.proofs.auditing.entries.Given as goal

abbrev pub invariant-loop-item : goal.invariant-loop-item
invariant-loop-item l = l.yielded ≡ map (λ f. Ok f) l.entries.items

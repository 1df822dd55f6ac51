-- The roots were read and the cache was pruned, or they weren't.
use Rattle.std.proofs.Common.{inl, inr, refl}
use Rattle.cacache_program.proofs.keep.pruning.prune_and_print.Goals as goal

pub returns-in-Ok-clause-does : goal.returns-in-Ok-clause-does
returns-in-Ok-clause-does g c =
    inl (c.in-Ok.roots.items, c.roots_of.new.env, c.in-Ok.ensures.rest, c.in-Ok.ensures.reads, rw c.as_slice.ensures.value at c.prune_with_roots.ensures.does)

pub returns-in-Err-clause-does : goal.returns-in-Err-clause-does
returns-in-Err-clause-does g c = inr (c.in-Err.ensures.rest, (c.in-Err.error, c.in-Err.ensures.stops, c.tell_unread.ensures, refl))

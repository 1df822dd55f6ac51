-- Verdicts on the entries so far are right, and the store is as it was.
use Rattle.std.proofs.Common.{◌≡◌}
use Rattle.cacache.specs.Laws.{IsCache, tree_of}
use Rattle.uses_client.specs.Packages.{AreRight, entries_in}
use Rattle.uses_client.proofs.auditing.audit.Given as goal

abbrev pub invariant-loop-entry : goal.invariant-loop-entry
invariant-loop-entry g l =
    IsCache l.cache l.env.store × (tree_of l.env.store ≡ tree_of l.fn.env.store)
    × (l.yielded ≡ entries_in l.verdicts.items) × AreRight l.cache l.fn.env.store l.verdicts.items

use Rattle.std.proofs.Common.{◌∙◌, sym, ap, subst}
use Rattle.cacache_disk.{specs.Replay.{tree_of, IsLog}, proofs.Logs.{tree_of-nothing, IsLog-nothing}}
use Rattle.cacache_disk.proofs.memory.store.MemStore.new.Goals as goal

pub invariant_of-result : goal.invariant_of-result
invariant_of-result c = record {
  logged = subst IsLog (sym c.new-2.ensures.items) IsLog-nothing;
  tree = ap tree_of c.new-2.ensures.items ∙ tree_of-nothing ∙ sym c.in_ok-new.ensures.bare;
}

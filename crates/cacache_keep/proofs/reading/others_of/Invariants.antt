use Rattle.cacache_keep.specs.Reading.{WeighsOthers}
use Rattle.cacache_keep.proofs.reading.others_of.Given as goal

abbrev pub invariant-loop-sri : goal.invariant-loop-sri
invariant-loop-sri g l =
    WeighsOthers l.cache l.yielded l.good_bytes l.damaged.items l.damaged_bytes (g.S.Store.log l.fn.store) (g.S.Store.log l.store)

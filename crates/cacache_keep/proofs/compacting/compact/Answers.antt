use Rattle.cacache_keep.proofs.compacting.compact.Goals as goal

pub returns-clause-compacts : goal.returns-clause-compacts
returns-clause-compacts g c = rw c.new.ensures at c.compact.ensures.compacts

pub returns-clause-stops : goal.returns-clause-stops
returns-clause-stops g c = rw c.new.ensures at c.compact.ensures.stops

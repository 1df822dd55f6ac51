use Rattle.rows_hostile.proofs.disk.+add_below.Given as goal

abbrev pub decreases-add_below : goal.decreases-add_below
decreases-add_below l = l.depth

use Rattle.cacache_loss.proofs.LostTrees.{moments_follow_trees, openings_stand_well, moves_keep_moments, losses_leave_trees, fixed_trees_stay}
use Rattle.cacache_loss.proofs.laws.tree_laws.Goals as goal

pub returns-clause-trees : goal.returns-clause-trees
returns-clause-trees c = moments_follow_trees

pub returns-clause-opens : goal.returns-clause-opens
returns-clause-opens c = openings_stand_well

pub returns-clause-moments : goal.returns-clause-moments
returns-clause-moments c = moves_keep_moments

pub returns-clause-losses : goal.returns-clause-losses
returns-clause-losses c = losses_leave_trees

pub returns-clause-fixed : goal.returns-clause-fixed
returns-clause-fixed c = fixed_trees_stay

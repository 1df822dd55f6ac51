use Rattle.std.proofs.Common.{◌∷◌, []}
use Rattle.cacache_calls.specs.Walking.{most}
use Rattle.cacache_walks.specs.{Reading.{top_folder}, WalkStates.{GoesFrom, steps_left}}
use Rattle.cacache_walks.proofs.contents.walk.files_below.Given as goal

abbrev pub invariant-visits : goal.invariant-visits
invariant-visits g l = GoesFrom most (top_folder l.fn.top ∷ []) l.next l.walk (g.S.Store.log l.fn.store) (g.S.Store.log l.store) [] l.files.items

abbrev pub decreases-visits : goal.decreases-visits
decreases-visits g l = steps_left l.next l.walk

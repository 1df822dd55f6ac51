-- The depth falls with each folder that is entered.
use Rattle.std.proofs.Common.{◌<◌}
use Rattle.rows_steps.proofs.disk.tree.+show_folder.Given as goal

abbrev pub decreases-show_folder : goal.decreases-show_folder
decreases-show_folder l = l.depth

-- a folder is entered only while there is depth left
abbrev pub invariant-loop-name : goal.invariant-loop-name
invariant-loop-name l = 0 < l.depth

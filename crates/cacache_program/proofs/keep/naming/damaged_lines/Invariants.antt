-- The lines so far.
use Rattle.std.{proofs.Common.{◌≡◌}, specs.List.{flat_map}}
use Rattle.cacache_program.specs.WordList.{damaged_line}
use Rattle.cacache_program.proofs.keep.naming.damaged_lines.Given as goal

abbrev pub invariant-loop-address : goal.invariant-loop-address
invariant-loop-address l = l.text.items ≡ flat_map damaged_line l.yielded

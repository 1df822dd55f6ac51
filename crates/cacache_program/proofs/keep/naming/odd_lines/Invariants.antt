-- The lines so far.
use Rattle.std.{proofs.Common.{◌≡◌}, specs.List.{flat_map}}
use Rattle.cacache_program.specs.WordList.{odd_line}
use Rattle.cacache_program.proofs.keep.naming.odd_lines.Given as goal

abbrev pub invariant-loop-path : goal.invariant-loop-path
invariant-loop-path l = l.text.items ≡ flat_map odd_line l.yielded

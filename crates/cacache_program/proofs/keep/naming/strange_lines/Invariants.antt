-- The lines so far.
use Rattle.std.{proofs.Common.{◌≡◌, map, string_bytes}, specs.List.{flat_map}}
use Rattle.cacache_program.specs.WordList.{strange_line}
use Rattle.cacache_program.proofs.keep.naming.strange_lines.Given as goal

abbrev pub invariant-loop-path : goal.invariant-loop-path
invariant-loop-path l = l.text.items ≡ flat_map strange_line (map string_bytes l.yielded)

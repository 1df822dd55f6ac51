-- The lines so far.
use Rattle.std.{proofs.Common.{◌≡◌, map}, specs.List.{flat_map}}
use Rattle.cacache.specs.Entries.{found_view}
use Rattle.cacache_program.specs.WordList.{entry_line}
use Rattle.cacache_program.proofs.keep.naming.entry_lines.Given as goal

abbrev pub invariant-loop-entry : goal.invariant-loop-entry
invariant-loop-entry l = l.text.items ≡ flat_map (entry_line l.word) (map found_view l.yielded)

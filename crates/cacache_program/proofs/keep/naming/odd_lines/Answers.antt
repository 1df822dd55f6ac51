-- One line more.
use Rattle.std.proofs.Common.{sym}
use Rattle.cacache_program.{specs.WordList.{odd_line}, proofs.Naming.{line_more}}
use Rattle.cacache_program.proofs.keep.naming.odd_lines.Goals as goal

pub loop-path-preserved : goal.loop-path-preserved
loop-path-preserved c =
    rw (c.in_ok-extend_from_slice.ensures.items, c.loop-path.invariant, c.deref.ensures.value, c.in_ok-path_line.ensures, c.as_str.ensures.same) (sym (line_more odd_line c.loop-path.yielded c.in-Some.path))

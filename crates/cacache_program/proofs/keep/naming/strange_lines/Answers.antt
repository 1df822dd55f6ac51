-- One line more.
use Rattle.std.proofs.Common.{sym, string_bytes}
use Rattle.cacache_program.{specs.WordList.{strange_line}, proofs.Naming.{viewed_more}}
use Rattle.cacache_program.proofs.keep.naming.strange_lines.Goals as goal

pub loop-path-preserved : goal.loop-path-preserved
loop-path-preserved c =
    rw (c.in_ok-extend_from_slice.ensures.items, c.loop-path.invariant, c.deref.ensures.value, c.in_ok-path_line.ensures, c.as_str.ensures.value) (sym (viewed_more strange_line string_bytes c.loop-path.yielded c.in-Some.path))

-- One line more.
use Rattle.std.proofs.Common.{sym}
use Rattle.cacache_program.{specs.WordList.{damaged_line}, proofs.Naming.{line_more}}
use Rattle.cacache_program.proofs.keep.naming.damaged_lines.Goals as goal

pub loop-address-preserved : goal.loop-address-preserved
loop-address-preserved c =
    rw (c.in_ok-extend_from_slice.ensures.items, c.loop-address.invariant, c.as_bytes.ensures.value, c.in_ok-damaged_line.ensures) (sym (line_more damaged_line c.loop-address.yielded c.in-Some.address))

-- One line more.
use Rattle.std.proofs.Common.{sym}
use Rattle.cacache.specs.Entries.{found_view}
use Rattle.cacache_program.{specs.WordList.{entry_line}, proofs.Naming.{viewed_more}}
use Rattle.cacache_program.proofs.keep.naming.entry_lines.Goals as goal

pub loop-entry-preserved : goal.loop-entry-preserved
loop-entry-preserved c =
    rw (c.in_ok-extend_from_slice.ensures.items, c.loop-entry.invariant, c.deref.ensures.value, c.in_ok-entry_line.ensures) (sym (viewed_more (entry_line c.args.word.now) found_view c.loop-entry.yielded c.in-Some.entry))

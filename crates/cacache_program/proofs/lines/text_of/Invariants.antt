-- The lines so far are written.
use Rattle.std.proofs.Common.{◌≡◌, map, take}
use Rattle.cacache_program.specs.{WordLs.{listing_text}, Lines.{line_view}}
use Rattle.cacache_program.proofs.lines.text_of.Given as goal

abbrev pub invariant-loop-line : goal.invariant-loop-line
invariant-loop-line l = l.text.items ≡ listing_text (map line_view (take l.line-index l.lines))

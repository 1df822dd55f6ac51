-- The lines so far.
use Rattle.std.proofs.Common.{◌≡◌, map, take}
use Rattle.cacache_program.specs.Counts.{count_view, counts_text}
use Rattle.cacache_program.proofs.counts.counts_text.Given as goal

abbrev pub invariant-loop-name : goal.invariant-loop-name
invariant-loop-name l = l.text.items ≡ counts_text (map count_view (take l.name-index l.counts))

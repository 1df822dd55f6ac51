use Rattle.std.proofs.Common.{◌≡◌, ℕ, ◌<◌, get_or, not}
use Rattle.cacache_core.specs.Texts.{is_blank}
use Rattle.cacache_core.proofs.integrity.reading.first_place.Given as goal

abbrev pub invariant-loop-i : goal.invariant-loop-i
invariant-loop-i l = (k : ℕ) → k < l.i → is_blank (get_or l.text k 0) ≡ not l.blank

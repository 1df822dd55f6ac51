-- The lines so far name the roots so far.
use Rattle.std.proofs.Common.{◌≡◌, map, Ok}
use Rattle.cacache_core.specs.Texts.{read_integrity}
use Rattle.cacache_program.proofs.keep.roots.named_in.Given as goal

abbrev pub invariant-loop-line : goal.invariant-loop-line
invariant-loop-line l = map read_integrity (map (λ w. w.now) l.yielded) ≡ map Ok l.roots.items

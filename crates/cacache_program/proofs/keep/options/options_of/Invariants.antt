-- The words so far and those that are left say what all of them say.
use Rattle.std.proofs.Common.{◌≡◌, drop}
use Rattle.cacache_program.specs.Options.{options_in, taken_from}
use Rattle.cacache_program.proofs.keep.options.options_of.Given as goal

abbrev pub invariant-loop-place : goal.invariant-loop-place
invariant-loop-place l = taken_from l.name l.place l.options (drop l.place l.words) ≡ options_in l.name l.words

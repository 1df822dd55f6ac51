use Rattle.std.{proofs.Common.{◌≡◌, ℕ, List, false, take}, specs.Prelude.{Ok}}
use Rattle.cacache_core.specs.Paths.{names_of}
use Rattle.cacache_history.specs.Setup.{has_file}
use Rattle.cacache_world.proofs.names.has_file.Given as goal

abbrev pub invariant-loop-file : goal.invariant-loop-file
invariant-loop-file l = (text : List ℕ) → names_of text ≡ Ok l.path → has_file (take l.file-index l.files) text ≡ false

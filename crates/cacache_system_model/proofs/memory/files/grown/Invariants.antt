use Rattle.std.{proofs.Common.{◌≡◌, take}, specs.Prelude.{map}}
use Rattle.cacache_system_model.specs.{Machine.{grown, with_place}, memory.Files.{open_of}}
use Rattle.cacache_system_model.proofs.memory.files.grown.Given as goal

abbrev pub invariant-loop-file : goal.invariant-loop-file
invariant-loop-file l = map open_of l.others.items ≡ map (λ file. with_place (grown l.mark l.more) (open_of file)) (take l.file-index l.file-items)

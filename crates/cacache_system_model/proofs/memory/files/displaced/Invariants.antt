use Rattle.std.{proofs.Common.{◌≡◌, take}, specs.Prelude.{map, option_copied}}
use Rattle.cacache_disk.specs.Tree.{look}
use Rattle.cacache_system_model.specs.{Machine.{with_place}, memory.Files.{open_of, left}}
use Rattle.cacache_system_model.proofs.memory.files.displaced.Given as goal

abbrev pub invariant-loop-file : goal.invariant-loop-file
invariant-loop-file l =
    (l.was ≡ look l.disk l.names)
    × (map open_of l.others.items
    ≡ map (λ file. with_place (left (option_copied l.from) (look l.disk l.names) l.names l.mark) (open_of file)) (take l.file-index l.file-items))

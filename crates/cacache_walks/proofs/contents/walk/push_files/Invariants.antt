use Rattle.std.proofs.Common.{◌≡◌, ◌++◌, take}
use Rattle.cacache_walks.specs.Reading.{file_paths}
use Rattle.cacache_walks.proofs.contents.walk.push_files.Given as goal

abbrev pub invariant-loop-name : goal.invariant-loop-name
invariant-loop-name l = l.files.items ≡ l.fn.files.items ++ file_paths l.folder (take l.name-index l.names)

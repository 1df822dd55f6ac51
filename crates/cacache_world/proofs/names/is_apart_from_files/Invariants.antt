use Rattle.std.proofs.Common.{◌≡◌, true, take}
use Rattle.cacache_history.specs.Setup.{apart_from_files}
use Rattle.cacache_world.proofs.names.is_apart_from_files.Given as goal

abbrev pub invariant-loop-file : goal.invariant-loop-file
invariant-loop-file l = apart_from_files (take l.file-index l.files) l.path ≡ true

use Rattle.std.proofs.Common.{◌≡◌, drop, map, string_bytes}
use Rattle.cacache_keep.specs.Missing.{is_hidden}
use Rattle.cacache_keep.proofs.missing.is_hidden.Given as goal

abbrev pub invariant-loop-folder : goal.invariant-loop-folder
invariant-loop-folder l = is_hidden (map string_bytes (drop l.folder-index l.strange)) l.path ≡ is_hidden (map string_bytes l.strange) l.path

use Rattle.std.proofs.Common.{length}
use Rattle.cacache_folder.proofs.folder.paths.+make_missing.Given as goal

-- the path above is shorter
abbrev pub decreases-make_missing : goal.decreases-make_missing
decreases-make_missing g l = length l.path.now

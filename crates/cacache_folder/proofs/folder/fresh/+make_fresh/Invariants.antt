use Rattle.cacache_folder.proofs.folder.fresh.+make_fresh.Given as goal

-- fewer names are left to try
abbrev pub decreases-make_fresh : goal.decreases-make_fresh
decreases-make_fresh g l = l.left

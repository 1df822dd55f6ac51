use Rattle.cacache_disk.proofs.disk.Disk.+followed.Given as goal

abbrev pub decreases-followed : goal.decreases-followed
decreases-followed l = l.most

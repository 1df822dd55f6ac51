use Rattle.cacache_laws.proofs.{Readings.Standing.{caches_stand, looks_leave_standing, standing_finds, standing_reads}, Putting.StandingPuts.{standing_writes}}
use Rattle.cacache_laws.proofs.left.standing_laws.Goals as goal

pub returns : goal.returns
returns c = record { stands = caches_stand; looks = looks_leave_standing; finds = standing_finds; reads = standing_reads; writes = standing_writes }

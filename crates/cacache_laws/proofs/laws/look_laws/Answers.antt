use Rattle.cacache_laws.proofs.Readings.GivenReads.{same_stays_known}
use Rattle.cacache_laws.proofs.laws.look_laws.Goals as goal

pub returns : goal.returns
returns c = record {
  known = same_stays_known;
}

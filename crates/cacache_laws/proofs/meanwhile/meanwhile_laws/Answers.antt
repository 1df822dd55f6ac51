use Rattle.cacache_laws.proofs.Interleaved.{KeptContents.{removals_may_come, collections_keep, listings_name}, KeptPuts.{puts_keep}}
use Rattle.cacache_laws.proofs.meanwhile.meanwhile_laws.Goals as goal

pub returns : goal.returns
returns c = record {
  names = listings_name;
  keeps = collections_keep;
  puts = puts_keep;
  comes = removals_may_come;
}

use Rattle.cacache_laws.proofs.{Putting.Puts.{commits_keep}, Readings.OpenReaders.{readers_open, readers_open_key}, Links.{OpenLinkers.{linkers_fail}, RefusedSizes.{linkers_refuse}}}
use Rattle.cacache_laws.proofs.laws.handle_laws.Goals as goal

pub returns : goal.returns
returns c = record {
  reads = readers_open;
  reads_key = readers_open_key;
  commits_keep = commits_keep;
  links_fail = linkers_fail;
  links_refuse = linkers_refuse;
}

use Rattle.cacache_laws.proofs.{Calls.Replays.{growths_join}, Readings.{Known.{fresh_is_empty}, GivenReads.{reads_key}}, Putting.{StandingPuts.{writes_last}, Puts.{inserts_last, keys_join, none_lacks, plain_writes_fit}}, Removing.RemovedKeys.{clearings_empty}, Spares.PlantedFiles.{plants_last}}
use Rattle.cacache_laws.proofs.laws.cache_laws.Goals as goal

pub returns : goal.returns
returns c = record {
  fresh = fresh_is_empty;
  logged = c.log-log.ensures.replayable;
  writes = writes_last;
  reads = reads_key;
  clears = clearings_empty;
  plants = plants_last;
  joins = growths_join;
  inserts = inserts_last;
  joins_keys = keys_join;
  lacks = none_lacks;
  plain_writes = plain_writes_fit;
}

use Rattle.cacache_calls.proofs.Promises.{meeting_only}
use Rattle.cacache_sync.proofs.reading.read_hash_sync.Goals as goal

pub read-requires : goal.read-requires
read-requires g c = λ site r m. meeting_only _ r m

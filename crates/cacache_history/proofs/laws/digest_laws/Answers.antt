use Rattle.cacache_history.proofs.Contents.Digests.{own_integrity, same_digest}
use Rattle.cacache_history.proofs.laws.digest_laws.Goals as goal

pub returns : goal.returns
returns c = record { formed = own_integrity; same = same_digest }

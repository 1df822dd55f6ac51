use Rattle.cacache_calls.proofs.Rows as lemmas
use Rattle.cacache_calls.proofs.laws.row_laws.Goals as goal

pub returns : goal.returns
returns c = lemmas.rows

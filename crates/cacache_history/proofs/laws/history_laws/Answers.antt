use Rattle.cacache_history.proofs.Headline.{headline}
use Rattle.cacache_history.proofs.laws.history_laws.Goals as goal

pub returns : goal.returns
returns c = record { headline = headline }

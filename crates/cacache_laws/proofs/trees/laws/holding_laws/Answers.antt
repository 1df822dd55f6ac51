use Rattle.cacache_laws.proofs.trees.{Listing.{holdings_agree}, Indexed.{contents_shown}}
use Rattle.cacache_laws.proofs.trees.laws.holding_laws.Goals as goal

pub returns : goal.returns
returns c = record { shown = contents_shown; agree = holdings_agree }

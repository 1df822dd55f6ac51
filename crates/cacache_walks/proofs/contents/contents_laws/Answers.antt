use Rattle.cacache_walks.proofs.Sorting.{listed_are_shown}
use Rattle.cacache_walks.proofs.contents.contents_laws.Goals as goal

pub returns : goal.returns
returns c = record { shown = listed_are_shown }

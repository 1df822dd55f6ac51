use Rattle.cacache_laws.proofs.trees.{HiddenKeys.{tombstones_hide}, Led.{caches_are_housed, indexes_lead}}
use Rattle.cacache_laws.proofs.trees.laws.repair_laws.Goals as goal

pub returns : goal.returns
returns c = record {
  hides = tombstones_hide;
  caches = caches_are_housed;
  leads = indexes_lead;
}

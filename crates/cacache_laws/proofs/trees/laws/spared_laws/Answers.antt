use Rattle.cacache_laws.proofs.trees.Spared.SparedKeys.{spared_keys_stay, tombstones_fit}
use Rattle.cacache_laws.proofs.trees.laws.spared_laws.Goals as goal

pub returns : goal.returns
returns c = record { fit = tombstones_fit; stay = spared_keys_stay }

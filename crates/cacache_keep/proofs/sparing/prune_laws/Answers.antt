use Rattle.cacache_keep.proofs.SparedOnes.{prune_plans_leave, prunes_drop_keys, prunes_drop_led, prunes_spare_keys, stopped_prunes_spare_keys}
use Rattle.cacache_keep.proofs.sparing.prune_laws.Goals as goal

pub returns : goal.returns
returns c = record { plans = prune_plans_leave; keys = prunes_spare_keys; drops = prunes_drop_keys; led = prunes_drop_led; stopped = stopped_prunes_spare_keys }

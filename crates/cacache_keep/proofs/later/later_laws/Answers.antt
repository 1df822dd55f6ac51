use Rattle.cacache_keep.proofs.Collections.{Behind.{collected_keys_stay, collections_keep_led}, Optional.{options_keep_led, roots_stay, stopped_options_keep_led}}
use Rattle.cacache_keep.proofs.later.later_laws.Goals as goal

pub returns : goal.returns
returns c = record { led = collections_keep_led; stays = collected_keys_stay; options = options_keep_led; stopped = stopped_options_keep_led; roots = roots_stay }

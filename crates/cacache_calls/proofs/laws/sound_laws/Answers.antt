use Rattle.cacache_calls.proofs.Sound.{begins_sound, steps_allowed, stays_sound}
use Rattle.cacache_calls.proofs.laws.sound_laws.Goals as goal

pub returns-clause-begins : goal.returns-clause-begins
returns-clause-begins c = begins_sound

pub returns-clause-allowed : goal.returns-clause-allowed
returns-clause-allowed c = steps_allowed

pub returns-clause-stays : goal.returns-clause-stays
returns-clause-stays c = stays_sound

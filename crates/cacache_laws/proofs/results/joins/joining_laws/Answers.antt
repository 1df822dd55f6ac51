use Rattle.cacache_laws.proofs.{Calls.Replays.{excuses_last}, results.Told.{excuses_stay, known_stays, leavings_join, others_stay, untouched_join}}
use Rattle.cacache_laws.proofs.results.joins.joining_laws.Goals as goal

pub returns : goal.returns
returns c = record { leavings = leavings_join; untouched = untouched_join; known = known_stays; others = others_stay; earlier = excuses_stay; later = excuses_last }

use Rattle.cacache_system_model.proofs.callers.{Following.{caches_begin, caches_go_on, systems_make_histories}, Covering.{storing_makes_histories}, Seeing.{seen_make_histories}, Example.{questions_can_be}, Clearing.{clears_can_be, clears_can_remove}, Losing.{storing_lose, seen_lose}, AnyNumbers.{numbers_differ}, StayingOpen.{runs_keep_open}}
use Rattle.cacache_system_model.proofs.callers.system_history_laws.Goals as goal

pub returns : goal.returns
returns c = record { begin = caches_begin; goes_on = caches_go_on; made = systems_make_histories; storing = storing_makes_histories; seen = seen_make_histories; keep = runs_keep_open; example = questions_can_be; clears = clears_can_be; removals = clears_can_remove; storing_losses = storing_lose; losses = seen_lose; numbers = numbers_differ }

use Rattle.cacache_sync.proofs.Linkers.{links_hold}
use Rattle.cacache_sync.proofs.put.linkto.make_link.Goals as goal

pub returns-clause-whole : goal.returns-clause-whole
returns-clause-whole g c =
    let read = rw (← c.stored.ensures) at c.call.ensures.read_first in
    links_hold _ _ _ _ _ _ _ c.stored.result _ _ c.in_ok-target.ensures c.blank-options.ensures read

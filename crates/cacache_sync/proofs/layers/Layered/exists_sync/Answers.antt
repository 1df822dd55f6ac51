use Rattle.std.proofs.Common.{◌≡◌, true, false, refl, rules}
use Rattle.cacache_sync.specs.Layers.{says_no}
use Rattle.cacache_sync.proofs.layers.Layered.exists_sync.Goals as goal

pub returns-then-not-says_no : goal.returns-then-not-says_no
returns-then-not-says_no g c =
    let no : says_no c.exists_sync-first.result ≡ false = search rules in
    (c.exists_sync-first.new.env, c.exists_sync-first.result, (c.exists_sync-first.ensures.ran, c.exists_sync-first.ensures.asks), rw no (refl, refl))

pub returns : goal.returns
returns g c =
    let yes : says_no c.exists_sync-first.result ≡ true = search rules in
    (c.exists_sync-first.new.env, c.exists_sync-first.result, (c.exists_sync-first.ensures.ran, c.exists_sync-first.ensures.asks), rw yes (c.exists_sync.ensures.ran, c.exists_sync.ensures.asks))

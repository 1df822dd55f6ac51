use Rattle.std.proofs.Common.{◌≡◌, true, false, refl, rules}
use Rattle.cacache_sync.specs.Layers.{lacks_entry}
use Rattle.cacache_sync.proofs.layers.Layered.read_sync.Goals as goal

pub returns-then-not-lacks_entry : goal.returns-then-not-lacks_entry
returns-then-not-lacks_entry g c =
    let no : lacks_entry c.read_sync-first.result ≡ false = search rules in
    (c.read_sync-first.new.env, c.read_sync-first.result, (c.read_sync-first.ensures.ran, c.read_sync-first.ensures.verified), rw no (refl, refl))

pub returns : goal.returns
returns g c =
    let yes : lacks_entry c.read_sync-first.result ≡ true = search rules in
    (c.read_sync-first.new.env, c.read_sync-first.result, (c.read_sync-first.ensures.ran, c.read_sync-first.ensures.verified), rw yes (c.read_sync.ensures.ran, c.read_sync.ensures.verified))

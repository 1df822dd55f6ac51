use Rattle.std.proofs.Common.{◌≡◌, true, false, refl, rules}
use Rattle.cacache_sync.specs.Layers.{lacks_content}
use Rattle.cacache_sync.proofs.layers.Layered.read_hash_sync.Goals as goal

pub returns-then-not-lacks_content : goal.returns-then-not-lacks_content
returns-then-not-lacks_content g c =
    let no : lacks_content c.read_hash_sync-first.result ≡ false = search rules in
    (c.read_hash_sync-first.new.env, c.read_hash_sync-first.result, (c.read_hash_sync-first.ensures.ran, c.read_hash_sync-first.ensures.verified), rw no (refl, refl))

pub returns : goal.returns
returns g c =
    let yes : lacks_content c.read_hash_sync-first.result ≡ true = search rules in
    (c.read_hash_sync-first.new.env, c.read_hash_sync-first.result, (c.read_hash_sync-first.ensures.ran, c.read_hash_sync-first.ensures.verified), rw yes (c.read_hash_sync.ensures.ran, c.read_hash_sync.ensures.verified))

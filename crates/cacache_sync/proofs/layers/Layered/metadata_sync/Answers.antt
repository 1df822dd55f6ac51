use Rattle.std.proofs.Common.{◌≡◌, true, false, refl, rules}
use Rattle.cacache_sync.specs.Layers.{finds_none}
use Rattle.cacache_sync.proofs.layers.Layered.metadata_sync.Goals as goal

pub returns-then-not-finds_none : goal.returns-then-not-finds_none
returns-then-not-finds_none g c =
    let no : finds_none c.find-first.result ≡ false = search rules in
    (c.find-first.new.env, c.find-first.result, (c.find-first.ensures.ran, c.find-first.ensures.looks), rw no (refl, refl))

pub returns : goal.returns
returns g c =
    let yes : finds_none c.find-first.result ≡ true = search rules in
    (c.find-first.new.env, c.find-first.result, (c.find-first.ensures.ran, c.find-first.ensures.looks), rw yes (c.find.ensures.ran, c.find.ensures.looks))

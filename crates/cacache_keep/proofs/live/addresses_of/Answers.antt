use Rattle.std.proofs.Common.{◌≡◌, ◌++◌, ◌∷◌, [], Some, rules}
use Rattle.cacache_core.specs.Integrity.{IsIntegrity, address}
use Rattle.cacache_entry.specs.Bucket.{Found}
use Rattle.cacache_keep.proofs.Collections.Searching.{formed_more, live_more}
use Rattle.cacache_keep.proofs.live.addresses_of.Goals as goal

pub loop-found-preserved : goal.loop-found-preserved
loop-found-preserved c =
    let k = c.loop-found.found-index in
    let f = c.found-item.result in
    let h = c.in_ok-clone.field-0 in
    let formed : IsIntegrity c.found-item.result.integrity = search (rules, c.address.ensures.integrity) in
    let at : address c.found-item.result.integrity ≡ Some c.in_ok-clone.field-0 = search (rules, c.address.ensures.address, c.in_ok-clone.ensures.cases) in
    let more : c.push.new.self.items ≡ c.loop-found.live.items ++ c.in_ok-clone.field-0 ∷ [] = search (rules, c.in_ok-push.ensures.items) in
    (live_more (λ (x : Found). address x.integrity) c.args.entries.now k f h c.loop-found.live.items c.push.new.self.items c.loop-found-test.true c.found-item.is at more c.loop-found.invariant.0, formed_more c.args.entries.now k f c.loop-found-test.true c.found-item.is formed c.loop-found.invariant.1)

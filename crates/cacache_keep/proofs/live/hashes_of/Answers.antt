use Rattle.std.proofs.Common.{◌≡◌, ◌++◌, ◌∷◌, [], Some, rules}
use Rattle.cacache_core.specs.Integrity.{address}
use Rattle.cacache_keep.proofs.Collections.Searching.{live_more}
use Rattle.cacache_keep.proofs.live.hashes_of.Goals as goal

pub loop-sri-preserved : goal.loop-sri-preserved
loop-sri-preserved c =
    let k = c.loop-sri.sri-index in
    let i = c.sri-item.result in
    let h = c.in_ok-clone.field-0 in
    let at : address c.sri-item.result ≡ Some c.in_ok-clone.field-0 = search (rules, c.address.ensures.address, c.in_ok-clone.ensures.cases) in
    let more : c.push.new.self.items ≡ c.loop-sri.hashes.items ++ c.in_ok-clone.field-0 ∷ [] = search (rules, c.in_ok-push.ensures.items) in
    live_more address c.args.addresses.now k i h c.loop-sri.hashes.items c.push.new.self.items c.loop-sri-test.true c.sri-item.is at more c.loop-sri.invariant

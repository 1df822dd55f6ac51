use Rattle.std.proofs.{Common.{rules, ◌∙◌}, lemmas.Fn.{always_returns_same}}
use Rattle.cacache_walks.specs.Listing.{hash_cmp}
use Rattle.cacache_keep.proofs.Collections.Searching.{found_so}
use Rattle.cacache_keep.proofs.live.is_live.Goals as goal

pub returns : goal.returns
returns c =
    let facts = c.binary_search_by.ensures in
    let place = facts.position (λ h. hash_cmp h c.args.address.now) (always_returns_same _ _ _ (λ a r f called. search rules)) in
    c.is_ok.ensures.value ∙ found_so c.args.live.now c.args.address.now c.binary_search_by.result c.requires facts.bound place

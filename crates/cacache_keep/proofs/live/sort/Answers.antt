use Rattle.std.{proofs.{Common.{ap}, lemmas.List.Sorted.{Contains-permutation, IsPermutation-sym, answers_always, ranks_by}}, specs.Ordering.{is_lt}}
use Rattle.cacache_core.specs.declared.integrity.digest.Hash.{Hash}
use Rattle.cacache_walks.specs.Listing.{hash_cmp}
use Rattle.cacache_keep.proofs.Collections.Searching.{hash_total}
use Rattle.cacache_keep.proofs.live.sort.Goals as goal

pub returns-clause-same : goal.returns-clause-same
returns-clause-same c =
    let moved = c.sort_unstable_by.ensures.permutation in
    λ h. (Contains-permutation _ _ h (IsPermutation-sym _ _ moved), Contains-permutation _ _ h moved)

pub returns-clause-order : goal.returns-clause-order
returns-clause-order c =
    c.sort_unstable_by.ensures.sorted (λ x y. is_lt (hash_cmp x y)) (ranks_by hash_total (λ (h : Hash). h)) (answers_always _ _ _ (λ f a r f' k. ap is_lt k.met))

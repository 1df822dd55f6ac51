use Rattle.std.{proofs.{Common.{ap}, lemmas.List.{Filters.{dedup_is}, Sorted.{answers_always, ranks_by}}}, specs.{Cmp.Lexicographic.{options_total}, Ordering.{is_lt}}}
use Rattle.cacache_core.specs.{Integrity.{address}, Comparing.{same_hashes-Decides, same_hashes-equiv}}
use Rattle.cacache_walks.proofs.Sorting.{addresses_ordered, by_address, hash_total, same_elements}
use Rattle.cacache_walks.proofs.contents.order.sort_addresses.Goals as goal

pub returns-clause-same : goal.returns-clause-same
returns-clause-same c =
    same_elements same_hashes-equiv (λ x y. (same_hashes-Decides x y).0) c.args.addresses.now.items c.sort_unstable_by.new.self.items c.dedup.new.self.items c.sort_unstable_by.ensures.permutation (dedup_is _ _ _ c.dedup.ensures.filtered)

pub returns-clause-order : goal.returns-clause-order
returns-clause-order c =
    let sorted = c.sort_unstable_by.ensures.sorted (λ x y. is_lt (by_address x y)) (ranks_by (options_total hash_total) address) (answers_always _ _ _ (λ f a r f' k. ap is_lt k.met)) in
    addresses_ordered c.args.addresses.now.items c.sort_unstable_by.new.self.items c.dedup.new.self.items c.requires c.sort_unstable_by.ensures.permutation sorted (dedup_is _ _ _ c.dedup.ensures.filtered)

use Rattle.std.{proofs.{Common.{ap}, lemmas.List.Sorted.{IsPermutation-map, answers_always, ranks_by}}, specs.Ordering.{is_lt}}
use Rattle.cacache_entry.specs.View.{found_view}
use Rattle.cacache_keep.{specs.Limits.{age_cmp}, proofs.Aging.{age_total, sorted_map}}
use Rattle.cacache_keep.proofs.limits.sort.Goals as goal

pub returns-clause-same : goal.returns-clause-same
returns-clause-same c = IsPermutation-map found_view _ _ c.sort_unstable_by.ensures.permutation

pub returns-clause-order : goal.returns-clause-order
returns-clause-order c =
    sorted_map found_view age_cmp c.sort_unstable_by.new.self.items
    (c.sort_unstable_by.ensures.sorted (λ x y. is_lt (age_cmp (found_view x) (found_view y))) (ranks_by age_total found_view) (answers_always _ _ _ (λ f a r f' k. ap is_lt k.met)))

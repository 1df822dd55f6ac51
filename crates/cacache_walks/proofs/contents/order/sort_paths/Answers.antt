use Rattle.std.specs.Cmp.Lexicographic.{bytes_decides, nat_list_cmp_total, nat_list_eq_equiv, texts_ties}
use Rattle.std.proofs.lemmas.List.{Filters.{dedup_is}, Kept.{IsStrictlySortedBy-dedup}}
use Rattle.cacache_walks.proofs.Sorting.{same_elements}
use Rattle.cacache_walks.proofs.contents.order.sort_paths.Goals as goal

pub returns-clause-same : goal.returns-clause-same
returns-clause-same c =
    same_elements nat_list_eq_equiv (λ x y. (bytes_decides x y).0) c.args.paths.now.items c.sort_unstable.new.self.items c.dedup.new.self.items c.sort_unstable.ensures.permutation (dedup_is _ _ _ c.dedup.ensures.filtered)

pub returns-clause-order : goal.returns-clause-order
returns-clause-order c = rw (dedup_is _ _ _ c.dedup.ensures.filtered) (IsStrictlySortedBy-dedup nat_list_cmp_total texts_ties _ c.sort_unstable.ensures.sorted)

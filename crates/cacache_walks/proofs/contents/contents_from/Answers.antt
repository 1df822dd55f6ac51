use Rattle.cacache_walks.proofs.Sorting.{sorts_same}
use Rattle.cacache_walks.proofs.contents.contents_from.Goals as goal

pub sort_addresses-requires : goal.sort_addresses-requires
sort_addresses-requires c = λ i listed. let of = (c.in_ok-addresses.ensures.sorts.contents i).0 listed in (of.2.0, of.2.2)

pub returns-clause-sorts : goal.returns-clause-sorts
returns-clause-sorts c = rw c.in_ok-strange.ensures (sorts_same c.in_ok-addresses.ensures.sorts c.sort_addresses.ensures.same c.sort_paths.ensures.same)

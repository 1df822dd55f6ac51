use Rattle.std.proofs.Common.{arith, sym}
use Rattle.cacache_keep.proofs.Indexes.ListedEntries.{one_line}
use Rattle.cacache_keep.proofs.odd.has_odd_beside.Goals as goal

pub returns-then-most_lines-le1-clause-odd : goal.returns-then-most_lines-le1-clause-odd
returns-then-most_lines-le1-clause-odd c = λ told. sym (one_line c.args.bytes.now (omega arith) (told c.if-lists.true))

use Rattle.cacache_entry.proofs.Pieces.{found}
use Rattle.cacache_keep.proofs.lines.first.Goals as goal

pub returns : goal.returns
returns c = found c.args.byte c.args.bytes.now c.memchr.result c.memchr.ensures

use Rattle.std.proofs.Common.{rules, length, ◌-◌}
use Rattle.cacache_sync.proofs.content.{Rests.{consumes_nothing, gave_further, gave_no_further, part_given}, filling.fill.Goals.{in-Ok, in-Err}}
use Rattle.cacache_sync.proofs.content.filling.fill.Goals as goal

-- the read that gave nothing
pub returns-in-Ok-eq0-clause-part : goal.returns-in-Ok-eq0-clause-part
returns-in-Ok-eq0-clause-part g c =
    let x = c.loop-tries.invariant in
    let bytes = rw c.in-Ok-eq0.field-0-test at rw c.in-Ok-eq0.is at c.read_piece.ensures.bytes in
    let more = rw c.in-Ok-eq0.field-0-test at rw c.in-Ok-eq0.is at c.read_piece.ensures.gives in
    let kept = consumes_nothing _ _ bytes.0 in
    let left = g.R.Pieces.left in
    part_given left g.R.Pieces.gave c.args.reader.now _ _ c.loop-tries.done (gave_no_further left g.R.Pieces.gave g.met.R.Pieces.gave_on _ c.loop-tries.reader c.read_piece.new.self c.loop-tries.buf c.read_piece.new.buf c.loop-tries.done _ x.1 x.2 kept more)

pub returns-in-Err-2-clause-part : goal.returns-in-Err-2-clause-part
returns-in-Err-2-clause-part g c =
    let x = c.loop-tries.invariant in
    let left = g.R.Pieces.left in
    part_given left g.R.Pieces.gave c.args.reader.now _ _ c.loop-tries.done (gave_no_further left g.R.Pieces.gave g.met.R.Pieces.gave_on _ c.loop-tries.reader c.read_piece.new.self c.loop-tries.buf c.read_piece.new.buf c.loop-tries.done _ x.1 x.2 c.in-Err.ensures.bytes c.in-Err.ensures.gives)

pub loop-tries-preserved : goal.loop-tries-preserved
loop-tries-preserved g c =
    let x = c.loop-tries.invariant in
    let left = g.R.Pieces.left in
    let on = g.met.R.Pieces.gave_on in
    let room = length c.loop-tries.buf - c.loop-tries.done in
    elim c.match-read_piece.branch [
      | in-Ok w ↦
          rw w.done-is (search rules, search rules, gave_further left g.R.Pieces.gave on c.args.reader.now c.loop-tries.reader c.read_piece.new.self c.loop-tries.buf c.read_piece.new.buf c.loop-tries.done room x.1 x.2 w.in-Ok.count w.in-Ok.ensures.bound.0 (w.in-Ok.ensures.bytes.0, w.in-Ok.ensures.gives))
      | in-Err w ↦
          rw w.done-is (search rules, search rules, gave_no_further left g.R.Pieces.gave on c.args.reader.now c.loop-tries.reader c.read_piece.new.self c.loop-tries.buf c.read_piece.new.buf c.loop-tries.done room x.1 x.2 w.in-Err.ensures.bytes w.in-Err.ensures.gives)
    ]

pub returns-clause-part : goal.returns-clause-part
returns-clause-part g c =
    part_given g.R.Pieces.left g.R.Pieces.gave c.args.reader.now c.loop-tries.reader c.loop-tries.buf c.loop-tries.done c.loop-tries.invariant.2

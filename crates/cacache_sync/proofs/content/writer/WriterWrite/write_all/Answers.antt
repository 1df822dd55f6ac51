use Rattle.std.proofs.Common.{rules, inl, inr}
use Rattle.cacache_sync.proofs.content.{Writes.{appends_nothing, went_further, went_no_further, part_taken, rest_left, tried_more, too_often}, writer.WriterWrite.write_all.Goals.{in-Ok, in-Err}}
use Rattle.cacache_sync.proofs.content.writer.WriterWrite.write_all.Goals as goal

-- the write that took nothing
pub returns-in-Ok-eq0-clause-part : goal.returns-in-Ok-eq0-clause-part
returns-in-Ok-eq0-clause-part g c =
    let temp = g.T.TempHandle.seen in
    let bytes = rw c.in-Ok-eq0.field-0-test at rw c.in-Ok-eq0.is at c.write.ensures.bytes in
    let takes = rw c.in-Ok-eq0.field-0-test at rw c.in-Ok-eq0.is at c.write.ensures.takes in
    let kept = appends_nothing (temp c.loop-tries.self.file).bytes (temp c.write.new.self.file).bytes bytes in
    part_taken temp c.args.self.now c.write.new.self c.args.buf.now c.loop-tries.done (went_no_further temp _ _ _ _ c.loop-tries.invariant.1 kept takes c.write.ensures.goes_on)

pub returns-in-Ok-eq0-clause-earned : goal.returns-in-Ok-eq0-clause-earned
returns-in-Ok-eq0-clause-earned g c =
    let some = rest_left c.args.buf.now c.loop-tries.done c.loop-tries.invariant.0 c.if-done-size.false in
    let told = rw c.in-Ok-eq0.is at c.write.ensures.earned in
    let earned = rw c.in-Ok-eq0.field-0-test at told in
    inr (inl ((c.loop-tries.self.file, _, some, earned), c.new.ensures.kind))

pub returns-in-Err-2-clause-part : goal.returns-in-Err-2-clause-part
returns-in-Err-2-clause-part g c =
    let temp = g.T.TempHandle.seen in
    part_taken temp c.args.self.now c.write.new.self c.args.buf.now c.loop-tries.done (went_no_further temp _ _ _ _ c.loop-tries.invariant.1 c.in-Err.ensures.bytes c.in-Err.ensures.takes c.in-Err.ensures.goes_on)

pub returns-in-Err-2-clause-earned : goal.returns-in-Err-2-clause-earned
returns-in-Err-2-clause-earned g c =
    let some = rest_left c.args.buf.now c.loop-tries.done c.loop-tries.invariant.0 c.if-done-size.false in
    inl (c.loop-tries.self.file, _, some, c.in-Err.ensures.earned)

pub loop-tries-preserved : goal.loop-tries-preserved
loop-tries-preserved g c =
    let x = c.loop-tries.invariant in
    let temp = g.T.TempHandle.seen in
    let buf = c.args.buf.now in
    let some = rest_left buf c.loop-tries.done x.0 c.if-done-size.false in
    elim c.match-write.branch [
      | in-Ok w ↦
          let took = w.in-Ok.count-test.1 in
          rw w.done-is (search rules, went_further temp _ _ _ buf c.loop-tries.done w.in-Ok.count x.1 (w.in-Ok.ensures.bytes, w.in-Ok.ensures.takes, w.in-Ok.ensures.goes_on), tried_more _ _ _ x.2 took, x.3)
      | in-Err w ↦
          rw w.done-is (x.0, went_no_further temp _ _ _ _ x.1 w.in-Err.ensures.bytes w.in-Err.ensures.takes w.in-Err.ensures.goes_on, inr (w.in-Err.error, c.write.new.self.file, (c.loop-tries.self.file, _, some, w.in-Err.ensures.earned), search rules), x.3)
    ]

pub returns-clause-part : goal.returns-clause-part
returns-clause-part g c = part_taken g.T.TempHandle.seen c.args.self.now _ c.args.buf.now c.loop-tries.done c.loop-tries.invariant.1

pub returns-clause-earned : goal.returns-clause-earned
returns-clause-earned g c =
    let x = c.loop-tries.invariant in
    inr (inr (too_often _ _ _ x.2 c.loop-tries-test.false x.0 c.if-done-size-2.false x.3, c.into.ensures))

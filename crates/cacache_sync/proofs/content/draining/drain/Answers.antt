use Rattle.std.proofs.Common.{rules, ◌≡◌, ◌<◌, refl, length, take, length-take-le}
use Rattle.cacache_sync.proofs.content.{Rests.{consumes_nothing, all_passed, kept_passed, more_passed}, draining.drain.Goals.{in-Ok+in-Ok-write_all, in-Err}}
use Rattle.cacache_sync.proofs.content.draining.drain.Goals as goal

-- the read that gave nothing, into a piece that has room
pub returns-in-Ok-eq0-clause-passes : goal.returns-in-Ok-eq0-clause-passes
returns-in-Ok-eq0-clause-passes g c =
    let file = g.F.FileHandle.seen in
    let held = g.W.Write.contents in
    let bytes = rw c.in-Ok-eq0.field-0-test at rw c.in-Ok-eq0.is at c.read.ensures.bytes in
    let more = rw c.in-Ok-eq0.field-0-test at rw c.in-Ok-eq0.is at c.read.ensures.so_far in
    let kept = consumes_nothing _ _ bytes.0 in
    let room : 0 < length c.read.new.buf = search rules in
    all_passed file c.args.reader.now c.loop-tries.reader c.read.new.self (held c.args.out.now) (held c.loop-tries.out) c.loop-tries.count c.loop-tries.invariant kept (bytes.1 refl room) more

pub loop-tries-preserved : goal.loop-tries-preserved
loop-tries-preserved g c =
    let x = c.loop-tries.invariant in
    let file = g.F.FileHandle.seen in
    let held = g.W.Write.contents in
    elim c.match-read.branch [
      | in-Ok+in-Ok-write_all w ↦
          let piece = take w.in-Ok.size c.read.new.buf in
          let long : length piece ≡ w.in-Ok.size = length-take-le w.in-Ok.size c.read.new.buf w.in-Ok.ensures.bound.0 in
          let written = w.in-Ok-write_all.ensures in
          let counted = w.saturating_add-count.ensures in
          rw (w.out-is, w.count-is) (more_passed file c.args.reader.now c.loop-tries.reader c.read.new.self (held c.args.out.now) (held c.loop-tries.out) _ c.loop-tries.count _ piece x w.in-Ok.ensures.bytes.0 w.in-Ok.ensures.so_far written.bytes (rw long counted))
      | in-Err w ↦
          rw (w.out-is, w.count-is) (kept_passed file c.args.reader.now c.loop-tries.reader c.read.new.self (held c.args.out.now) (held c.loop-tries.out) c.loop-tries.count x w.in-Err.ensures.bytes w.in-Err.ensures.so_far)
    ]

-- The options say whether the compaction is durable.
use Rattle.std.proofs.Common.{arith, inl, inr, refl}
use Rattle.cacache_program.{specs.KeepValues.{text_of_compacted}, proofs.Made.{made_puts}}
use Rattle.cacache_program.proofs.keep.program.compact_and_print.Goals as goal

pub returns-in-Ok-clause-does : goal.returns-in-Ok-clause-does
returns-in-Ok-clause-does g c =
    let it = c.in-Ok.compacted in
    let puts = made_puts c.compacted_text.result (λ t. t.items) (text_of_compacted it) 0 (g.W.Write.contents c.args.output.now) (g.W.Write.contents c.put_made.new.output) c.put_made.result (omega arith) c.compacted_text.ensures c.put_made.ensures.made c.put_made.ensures.unmade in
    (c.in-Ok.ensures.clock, c.in-Ok.ensures.base, inl (it.buckets, it.bytes, (rw c.durable.ensures at c.in-Ok.ensures.compacts), puts))

pub returns-in-Err-clause-does : goal.returns-in-Err-clause-does
returns-in-Err-clause-does g c =
    (c.in-Err.ensures.clock, c.in-Err.ensures.base, inr (c.in-Err.error, (rw c.durable.ensures at c.in-Err.ensures.stops), c.tell_failed_call.ensures, refl))

-- A collection that was made is told.
use Rattle.std.proofs.Common.{arith, inl}
use Rattle.cacache_program.{specs.KeepValues.{text_of_collected}, proofs.Made.{made_puts}}
use Rattle.cacache_program.proofs.keep.collecting.collect_and_print.Goals as goal

pub returns-in-Ok-clause-does : goal.returns-in-Ok-clause-does
returns-in-Ok-clause-does g c =
    let it = c.in-Ok.collected in
    let puts = made_puts c.collected_text.result (λ t. t.items) (text_of_collected it) 0 (g.W.Write.contents c.args.output.now) (g.W.Write.contents c.put_made.new.output) c.put_made.result (omega arith) c.collected_text.ensures c.put_made.ensures.made c.put_made.ensures.unmade in
    ((c.in-Ok.ensures.clock, c.in-Ok.ensures.names, c.in-Ok.ensures.base), inl (it.kept, it.dropped.items, c.in-Ok.ensures.collects, puts))

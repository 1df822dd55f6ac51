-- A sweep that was made is told.
use Rattle.std.{proofs.{Common.{arith, inl, map, subst, sym}, lemmas.List.{length-map}}, specs.Prelude.{string_bytes}}
use Rattle.cacache_program.{specs.{KeepValues.{text_of_swept}, Output.{PutsOut}, WordSweep.{swept_text}}, proofs.Made.{made_puts}}
use Rattle.cacache_program.proofs.keep.program.sweep_and_print.Goals as goal

pub returns-in-Ok-clause-does : goal.returns-in-Ok-clause-does
returns-in-Ok-clause-does g c =
    let it = c.in-Ok.swept in
    let before = g.W.Write.contents c.args.output.now in
    let after = g.W.Write.contents c.put_made.new.output in
    let puts = made_puts c.swept_text.result (λ t. t.items) (text_of_swept it) 0 before after c.put_made.result (omega arith) c.swept_text.ensures c.put_made.ensures.made c.put_made.ensures.unmade in
    let counted = subst (λ count. PutsOut (swept_text it.files it.bytes count) before after c.put_made.result) (sym (length-map it.strange.items string_bytes)) puts in
    ((c.in-Ok.ensures.clock, c.in-Ok.ensures.names, c.in-Ok.ensures.base), inl (it.files, it.bytes, map string_bytes it.strange.items, c.in-Ok.ensures.sweeps, counted))

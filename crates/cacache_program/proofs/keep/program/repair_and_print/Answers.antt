-- A repair that was made is told.
use Rattle.std.proofs.{Common.{arith, inl, length, map, subst, sym}, lemmas.List.{length-map}}
use Rattle.cacache.specs.Entries.{found_view}
use Rattle.cacache_program.{specs.{KeepValues.{text_of_repaired}, Output.{PutsOut}, WordRepair.{repaired_text}}, proofs.Made.{made_puts}}
use Rattle.cacache_program.proofs.keep.program.repair_and_print.Goals as goal

pub returns-in-Ok-clause-does : goal.returns-in-Ok-clause-does
returns-in-Ok-clause-does g c =
    let it = c.in-Ok.repaired in
    let before = g.W.Write.contents c.args.output.now in
    let after = g.W.Write.contents c.put_made.new.output in
    let puts = made_puts c.repaired_text.result (λ t. t.items) (text_of_repaired it) 0 before after c.put_made.result (omega arith) c.repaired_text.ensures c.put_made.ensures.made c.put_made.ensures.unmade in
    let counted = subst (λ count. PutsOut (repaired_text (length it.damaged.items) count) before after c.put_made.result) (sym (length-map it.dangling.items found_view)) puts in
    (c.in-Ok.ensures.names, c.in-Ok.ensures.base, inl (it.damaged.items, map found_view it.dangling.items, c.in-Ok.ensures.repairs, counted))

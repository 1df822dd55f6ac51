-- The buckets that a plan names are those that its listing of the index read with an odd line.
use Rattle.std.proofs.{Common.{arith, length, map, inl, sym, subst}, lemmas.List.{length-map}}
use Rattle.cacache_keep.specs.Planning.{sized_of}
use Rattle.cacache_program.{specs.{KeepValues.{text_of_planned}, Output.{PutsOut}, WordPlan.{planned_text}}, proofs.Made.{made_puts}}
use Rattle.cacache_program.proofs.keep.program.plan_and_print.Goals as goal

pub returns-in-Ok-clause-does : goal.returns-in-Ok-clause-does
returns-in-Ok-clause-does g c =
    let p = c.in-Ok.planned in
    let before = g.W.Write.contents c.args.output.now in
    let after = g.W.Write.contents c.put_made.new.output in
    let puts = made_puts c.planned_text.result (λ t. t.items) (text_of_planned p) 0 before after c.put_made.result (omega arith) c.planned_text.ensures c.put_made.ensures.made c.put_made.ensures.unmade in
    let counted = subst (λ count. PutsOut (planned_text p.kept count p.odd.items) before after c.put_made.result) (sym (length-map p.unused.items sized_of)) puts in
    let named = subst (λ odd. PutsOut (planned_text p.kept (length (map sized_of p.unused.items)) odd) before after c.put_made.result) c.in-Ok.ensures.plans.1 counted in
    ((c.in-Ok.ensures.clock, c.in-Ok.ensures.names, c.in-Ok.ensures.base), inl (p.kept, map sized_of p.unused.items, c.in-Ok.ensures.plans.0, named))

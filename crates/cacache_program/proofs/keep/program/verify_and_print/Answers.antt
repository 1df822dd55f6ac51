-- A verification prints the counts of what it found.
use Rattle.std.{proofs.{Common.{arith, length, map, inl, sym, subst}, lemmas.List.{length-map}}, specs.Prelude.{string_bytes}}
use Rattle.cacache.specs.Entries.{found_view}
use Rattle.cacache_program.{specs.{KeepValues.{text_of_verdict}, Output.{PutsOutWith}, WordVerify.{TellsVerdict}}, proofs.Made.{made_puts}}
use Rattle.cacache_program.proofs.keep.program.verify_and_print.Goals as goal

pub returns-in-Ok-clause-does : goal.returns-in-Ok-clause-does
returns-in-Ok-clause-does g c =
    let v = c.in-Ok.verdict in
    let dangling = map found_view v.dangling.items in
    let strange = map string_bytes v.strange.items in
    let before = g.W.Write.contents c.args.output.now in
    let after = g.W.Write.contents c.put_made.new.output in
    let puts = made_puts c.verdict_text.result (λ t. t.items) (text_of_verdict v) c.status_of-status.result before after c.put_made.result (omega arith) c.verdict_text.ensures c.put_made.ensures.made c.put_made.ensures.unmade in
    let counted = subst (λ status. PutsOutWith status (text_of_verdict v) before after c.put_made.result) c.status_of-status.ensures.status puts in
    let entries = subst (λ count. TellsVerdict v.good (length v.damaged.items) count (length v.strange.items) before after c.put_made.result) (sym (length-map v.dangling.items found_view)) counted in
    let files = subst (λ count. TellsVerdict v.good (length v.damaged.items) (length dangling) count before after c.put_made.result) (sym (length-map v.strange.items string_bytes)) entries in
    ((c.in-Ok.ensures.clock, c.in-Ok.ensures.names, c.in-Ok.ensures.base), inl (v.good, v.damaged.items, dangling, strange, c.in-Ok.ensures.verifies.0, files))

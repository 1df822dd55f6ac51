-- The buckets that a verification names are those that its listing of the index read with an odd line.
use Rattle.std.{proofs.{Common.{◌≡◌, arith, inl, length, map, subst}, lemmas.List.{length-map}}, specs.Prelude.{string_bytes}}
use Rattle.cacache.specs.Entries.{found_view}
use Rattle.cacache_program.{specs.{KeepValues.{list_of_verdict}, Output.{PutsOutWith}, WordList.{TellsList}, WordVerify.{verdict_status}}, proofs.Made.{made_puts}}
use Rattle.cacache_program.proofs.keep.program.verify_and_list.Goals as goal

pub returns-in-Ok-clause-does : goal.returns-in-Ok-clause-does
returns-in-Ok-clause-does g c =
    let v = c.in-Ok.verdict in
    let dangling = map found_view v.dangling.items in
    let strange = map string_bytes v.strange.items in
    let before = g.W.Write.contents c.args.output.now in
    let after = g.W.Write.contents c.put_made.new.output in
    let puts = made_puts c.listed_text.result (λ t. t.items) (list_of_verdict v) c.status_of-status.result before after c.put_made.result (omega arith) c.listed_text.ensures c.put_made.ensures.made c.put_made.ensures.unmade in
    let status : c.status_of-status.result ≡ verdict_status (length v.damaged.items) (length dangling) (length strange) = rw (length-map v.dangling.items found_view, length-map v.strange.items string_bytes) c.status_of-status.ensures.status in
    let tells = subst (λ s. PutsOutWith s (list_of_verdict v) before after c.put_made.result) status puts in
    let listed = subst (λ odd. TellsList (v.good, v.damaged.items, dangling, strange, odd) before after c.put_made.result) c.in-Ok.ensures.verifies.2 tells in
    ((c.in-Ok.ensures.clock, c.in-Ok.ensures.names, c.in-Ok.ensures.base), inl (v.good, v.damaged.items, dangling, strange, c.in-Ok.ensures.verifies.0, listed))

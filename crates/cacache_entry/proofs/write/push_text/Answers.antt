use Rattle.std.proofs.Common.{ℕ, List, [], ◌∷◌, ◌++◌, codes, ap, ◌∙◌}
use Rattle.serde_json.specs.Written.{compact_text}
use Rattle.cacache_entry.{specs.{Entry.{bytes_or_null}, View.{entry_view}}, proofs.EntryTexts.{text-pushed}}
use Rattle.cacache_entry.proofs.write.push_text.Goals as goal

pub returns-clause-text : goal.returns-clause-text
returns-clause-text c =
    let e = entry_view c.args.entry.now in
    let behind = λ (more l : List ℕ). l ++ more in
    let p1 = c.in_ok-push_front.ensures in
    let p2 = c.in_ok-push_value.ensures.ok ∙ ap (behind (compact_text e.metadata)) p1 in
    let p3 = c.in_ok-extend_from_slice.ensures.items ∙ ap (behind (codes ",\"raw_metadata\":")) p2 in
    let p4 = c.in_ok-push_bytes.ensures.text ∙ ap (behind (compact_text (bytes_or_null e.raw_metadata))) p3 in
    c.in_ok-push.ensures.items ∙ ap (behind (125 ∷ [])) p4 ∙ text-pushed c.args.out.now.items e

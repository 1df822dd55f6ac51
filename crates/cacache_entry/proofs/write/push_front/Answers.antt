use Rattle.std.proofs.Common.{ℕ, List, ◌++◌, codes, decimal, ap, ap₂, ◌∙◌}
use Rattle.json.specs.Print.{quoted}
use Rattle.serde_json.specs.Written.{compact_text}
use Rattle.cacache_entry.{specs.{Entry.{text_or_null}, View.{entry_view}}, proofs.{Pieces.{appended}, EntryTexts.{front-pushed}}}
use Rattle.cacache_entry.proofs.write.push_front.Goals as goal

pub returns : goal.returns
returns c =
    let e = entry_view c.args.entry.now in
    let put = λ (l more : List ℕ). l ++ more in
    let behind = λ (more l : List ℕ). l ++ more in
    let p1 = c.in_ok-extend_from_slice.ensures.items in
    let p2 = c.in_ok-push_quoted.ensures ∙ ap₂ put p1 (ap quoted c.as_str.ensures.value) in
    let p3 = c.in_ok-extend_from_slice-2.ensures.items ∙ ap (behind (codes ",\"integrity\":")) p2 in
    let p4 = c.in_ok-push_quoted_or_null.ensures ∙ ap (behind (compact_text (text_or_null e.integrity))) p3 in
    let p5 = c.in_ok-extend_from_slice-3.ensures.items ∙ ap (behind (codes ",\"time\":")) p4 in
    let p6 = c.in_ok-push_number.ensures ∙ ap₂ put p5 (ap decimal c.requires.time) in
    let p7 = c.in_ok-extend_from_slice-4.ensures.items ∙ ap (behind (codes ",\"size\":")) p6 in
    let p8 = c.in_ok-push_number-2.ensures ∙ ap₂ put p7 (ap decimal c.requires.size) in
    appended c.extend_from_slice-5.result _ c.push_number-2.new.out.items (codes ",\"metadata\":") _ c.extend_from_slice-5.ensures.items
    (ap (behind (codes ",\"metadata\":")) p8 ∙ front-pushed c.args.out.now.items e)

use Rattle.std.{proofs.{Common.{ℕ, List, option_map, ap, ◌∙◌}, lemmas.Slice.Eq.{slice_eq-Decides}}, specs.{Borrow.{Bor}, Cmp.{unsigned_Decides}}}
use Rattle.cacache_entry.{specs.Entry.{texts_then, numbers_then}, proofs.EntryTexts.{bare-text}}
use Rattle.cacache_entry.proofs.parts.parts_of.Goals as goal

pub returns-then-eq-clause-text : goal.returns-then-eq-clause-text
returns-then-eq-clause-text c =
    let key = c.in_ok-key.key.now in
    let integrity = option_map (λ (t : Bor (List ℕ)). t.now) c.in_ok-key.integrity in
    let time = c.in_ok-time.time in
    let size = c.in_ok-time.size in
    let end = (slice_eq-Decides unsigned_Decides _ _ c.eq.result c.eq.ensures).0 c.if-eq.true in
    c.in_ok-key.ensures ∙ ap (λ (t : List ℕ). texts_then key integrity t) (c.in_ok-time.ensures.digits
    ∙ ap (λ (t : List ℕ). numbers_then time size t) end)
    ∙ bare-text key integrity time size

use Rattle.std.proofs.{Common.{◌≡◌, ◌<◌, ◌-◌, ◌∷◌, [], false, List, ℕ, length, take, drop, get_or, sym, ap, ◌∙◌, add-zero, length-drop, arith}, lemmas.{Bool.{eqb-true, eqb-false}, List.{take_rest, get_or-drop, nil_from_length}}}
use Rattle.cacache_core.{specs.Texts.{is_blank, words}, proofs.Reading.{skip_blanks, cut_word, some_letter}}
use Rattle.cacache_core.proofs.integrity.reading.next_word.Goals as goal

pub returns-then-is_empty-clause-words : goal.returns-then-is_empty-clause-words
returns-then-is_empty-clause-words c =
    let t = c.args.text.now in
    let s = c.first_place-start.result in
    let empty : length (take (length t - s) (drop s t)) ≡ 0 = eqb-true _ 0 (sym c.is_empty.ensures ∙ c.if-is_empty.true) in
    let none : drop s t ≡ [] = nil_from_length (drop s t) (omega (arith, ap length (take_rest t s))) in
    sym (skip_blanks t s c.first_place-start.ensures.within c.first_place-start.ensures.before) ∙ ap words none

pub returns-clause-words : goal.returns-clause-words
returns-clause-words c =
    let t = c.args.text.now in
    let s = c.first_place-start.result in
    let u : List ℕ = take (length t - s) (drop s t) in
    let e = c.first_place-end.result in
    let nonempty : length u ≡ 0 → ⊥ = eqb-false _ 0 (sym c.is_empty.ensures ∙ c.if-is_empty.false) in
    let some : 0 < length u = omega arith in
    let first : get_or u 0 0 ≡ get_or t s 0 =
    ap (λ (l : List ℕ). get_or l 0 0) (take_rest t s) ∙ get_or-drop s t 0 0 ∙ ap (λ (k : ℕ). get_or t k 0) (add-zero s) in
    let letter : is_blank (get_or u 0 0) ≡ false =
    ap is_blank first ∙ c.first_place-start.ensures.found (omega (arith, ap length (take_rest t s), length-drop s t)) in
    sym (skip_blanks t s c.first_place-start.ensures.within c.first_place-start.ensures.before)
    ∙ sym (ap words (take_rest t s))
    ∙ cut_word u e (some_letter u e some letter c.first_place-end.ensures.found) c.first_place-end.ensures.within c.first_place-end.ensures.before c.first_place-end.ensures.found
    ∙ ap (λ (l : List ℕ). take e u ∷ words l) (sym (take_rest u e))

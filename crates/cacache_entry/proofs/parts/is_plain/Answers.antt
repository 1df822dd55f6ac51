use Rattle.std.proofs.{Common.{◌≡◌, ◌∷◌, ◌+◌, drop, slice_index_or, sym, ap, ◌∙◌}, lemmas.{List.{drop_more}, Bool.{and_parts, leb-true, not-true, eqb-false}}}
use Rattle.json.specs.Print.{escape}
use Rattle.cacache_entry.proofs.PlainTexts.{escape-more}
use Rattle.cacache_entry.proofs.parts.is_plain.Goals as goal

pub loop-byte-preserved : goal.loop-byte-preserved
loop-byte-preserved c = λ plain rest.
    let text = c.args.text.now in
    let i = c.loop-byte.byte-index in
    let x = slice_index_or text i 0 in
    let no_backslash = and_parts _ _ plain in
    let no_quote = and_parts _ _ no_backslash.0 in
    let printable = and_parts _ _ no_quote.0 in
    let here : drop i text ≡ x ∷ drop (i + 1) text = drop_more text i 0 c.loop-byte-test.true in
    c.loop-byte.invariant printable.0
    (ap escape here
    ∙ escape-more x _ (leb-true 32 x printable.1) (eqb-false x 34 (not-true _ no_quote.1)) (eqb-false x 92 (not-true _ no_backslash.1)) rest
    ∙ sym here)

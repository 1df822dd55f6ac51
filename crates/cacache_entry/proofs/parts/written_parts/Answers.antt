use Rattle.std.proofs.{Common.{◌≡◌, ℕ, List, ◌∷◌, ◌++◌, sym, ap, ap₂, ◌∙◌}, lemmas.List.{take-append-drop}}
use Rattle.cacache_core.specs.Integrity.{sha256_hex}
use Rattle.cacache_entry.proofs.parts.written_parts.Goals as goal

-- the digits are those of the text's digest, and the text is that of the parts
pub returns-then-is_digest_of-clause-piece : goal.returns-then-is_digest_of-clause-piece
returns-then-is_digest_of-clause-piece c =
    let split = c.in_ok-digits.ensures.cases in
    let text = c.in_ok-text.text.now in
    let digits : c.in_ok-digits.digits.now ≡ sha256_hex text = c.is_digest_of.ensures.0 c.if-is_digest_of.true in
    sym (take-append-drop 64 c.args.piece.now)
    ∙ ap₂ (λ (a b : List ℕ). a ++ b) (sym split.1 ∙ digits) (sym split.2 ∙ c.in_ok-text.ensures)
    ∙ ap (λ (t : List ℕ). sha256_hex t ++ 9 ∷ t) c.in_ok-parts.ensures.text

use Rattle.std.proofs.{Common.{◌≡◌, ◌+◌, [], ◌∷◌, subst, drop, take, sym, ap, ◌∙◌, arith}, lemmas.{Str.{lead_after_ascii}, Bool.{true≢false}}}
use Rattle.std.specs.Prelude.{MatchOption, IfOk, option_map}
use Rattle.cacache_core.specs.Integrity.{sha256_hex}
use Rattle.cacache_entry.{specs.{Bucket.{cut, CutsAt}, View.{entry_view}}, proofs.Pieces.{entry_of_piece-not_utf8, entry_of_piece-more, entry_of_piece-wrong, entry_of_piece-read}}
use Rattle.cacache_entry.proofs.read.read_piece.Goals as goal

pub returns-in_default : goal.returns-in_default
returns-in_default c = entry_of_piece-not_utf8 c.args.piece.now c.in_default.ensures.cases.0

pub range_from-rest-requires : goal.range_from-rest-requires
range_from-rest-requires c =
    let p = c.args.piece.now in
    let tab = c.in-Some.tab in
    let same : c.in-Ok.text.now ≡ p = c.in-Ok.ensures.cases.0 in
    let cuts : CutsAt 9 p tab = c.in-Some.ensures in
    rw same (λ _. (omega (arith, cuts.0), lead_after_ascii p tab c.in-Ok.ensures.cases.1 (omega (arith, cuts.1))))

pub returns-then-is_some : goal.returns-then-is_some
returns-then-is_some c =
    entry_of_piece-more c.args.piece.now c.as_bytes.result.now c.in-Some.tab c.in-Some.ensures (c.as_bytes.ensures.value ∙ c.range_from-rest.ensures.value ∙ ap (drop (c.in-Some.tab + 1)) c.in-Ok.ensures.cases.0)
    c.first-2.result c.first-2.ensures (sym c.is_some.ensures ∙ c.if-is_some.true)

pub returns-then-not-is_digest_of : goal.returns-then-not-is_digest_of
returns-then-not-is_digest_of c =
    let p = c.args.piece.now in
    let tab = c.in-Some.tab in
    let rest = c.range_from-rest.result.now in
    let is = c.range_from-rest.ensures.value ∙ ap (drop (tab + 1)) c.in-Ok.ensures.cases.0 in
    let alone = subst (λ l. MatchOption c.first-2.result (cut 9 l ≡ l ∷ []) (λ k. CutsAt 9 l k)) c.as_bytes.ensures.value c.first-2.ensures in
    let other : take tab p ≡ sha256_hex rest → ⊥ = λ e. true≢false (sym (c.is_digest_of.ensures.1 (e ∙ ap sha256_hex (sym c.as_bytes-2.ensures.value))) ∙ c.if-not-is_digest_of.true) in
    entry_of_piece-wrong p rest tab c.in-Some.ensures is c.first-2.result alone (sym c.is_some.ensures ∙ c.if-is_some.false) other

pub returns : goal.returns
returns c =
    let p = c.args.piece.now in
    let tab = c.in-Some.tab in
    let rest = c.range_from-rest.result.now in
    let is = c.range_from-rest.ensures.value ∙ ap (drop (tab + 1)) c.in-Ok.ensures.cases.0 in
    let alone = subst (λ l. MatchOption c.first-2.result (cut 9 l ≡ l ∷ []) (λ k. CutsAt 9 l k)) c.as_bytes.ensures.value c.first-2.ensures in
    let right : take tab p ≡ sha256_hex rest = c.is_digest_of.ensures.0 c.if-not-is_digest_of.false ∙ ap sha256_hex c.as_bytes-2.ensures.value in
    subst (λ o. IfOk c.read_entry.result (λ r. option_map entry_view r ≡ o))
    (sym (entry_of_piece-read p rest tab c.in-Ok.ensures.cases.1 c.in-Some.ensures is c.first-2.result alone (sym c.is_some.ensures ∙ c.if-is_some.false) right))
    c.read_entry.ensures

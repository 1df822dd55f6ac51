-- The text is cut off where it begins in the line.
use Rattle.std.proofs.Common.{◌≤◌, List, ℕ, length, drop, subst, sym, ap, ◌∙◌}
use Rattle.cacache_sync.proofs.Lookups.{text_in_line, line_reaches_text}
use Rattle.cacache_sync.proofs.entries.text.Goals as goal

pub split_off-requires : goal.split_off-requires
split_off-requires c =
    let reached : 66 ≤ length c.in_ok-line.line.items =
    subst (λ (xs : List ℕ). 66 ≤ length xs) (sym c.in_ok-line.ensures.line) (line_reaches_text _) in
    subst (λ (n : ℕ). 66 ≤ n) (sym c.in_ok-line.line.ok.0) reached

pub returns-clause-text : goal.returns-clause-text
returns-clause-text c =
    c.in_ok-split_off.ensures.tail ∙ ap (drop 66) c.in_ok-line.ensures.line ∙ text_in_line _

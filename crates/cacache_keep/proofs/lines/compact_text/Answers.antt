use Rattle.std.proofs.Common.{Bool, List, ap, false, map, ℕ, ◌++◌, ◌||◌, ◌∙◌}
use Rattle.cacache_entry.specs.Entry.{closing}
use Rattle.cacache_laws.specs.trees.Compacting.{Line, compact_text, is_closed, lines_of, text_of}
use Rattle.cacache_keep.{specs.Lines.{last_lines, line_view, without_tombstones}, proofs.NewBuckets.LineLoops.{two_passes}}
use Rattle.cacache_keep.proofs.lines.compact_text.Goals as goal

pub returns-clause-text : goal.returns-clause-text
unfolding compact_text
returns-clause-text c =
    let x = c.args.bytes.now in
    let closed : Bool = c.args.durable || is_closed x in
    c.in_ok-close.ensures ∙ ap (λ (b : Bool). c.in_ok-text.text.items ++ closing b) c.is_to_close.ensures
    ∙ ap (λ (t : List ℕ). t ++ closing closed) (c.in_ok-text.ensures ∙ ap (λ (ls : List Line). text_of (without_tombstones false ls)) c.in_ok-last.ensures
    ∙ ap (λ (ls : List Line). text_of (without_tombstones false (last_lines ls))) (ap (map line_view) c.as_slice.ensures.value ∙ c.in_ok-lines.ensures.lines)
    ∙ ap text_of (two_passes false (lines_of x)))

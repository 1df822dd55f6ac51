use Rattle.std.proofs.{Common.{◌≤◌, ◌+◌, ◌++◌, map, length, drop, sym, ap, ◌∙◌, subst, arith, append_assoc, length-drop}, lemmas.List.{take_rest}}
use Rattle.cacache_laws.specs.trees.Compacting.{lines_of}
use Rattle.cacache_keep.{specs.Lines.{line_view}, proofs.NewBuckets.LineLoops.{lines_first}}
use Rattle.cacache_keep.proofs.lines.lines_of.Goals as goal

pub loop-at-preserved : goal.loop-at-preserved
loop-at-preserved c =
    let l = c.loop-at in
    let rest = l.rest.now in
    let at = c.in-Some.at in
    let same = take_rest rest (at + 1) in
    record {
      within = subst (λ xs. length xs ≤ length c.args.bytes.now) (sym same) (omega (arith, length-drop (at + 1) rest, l.invariant.within));
      value = ap (λ xs. map line_view c.add.new.lines.items ++ lines_of xs) same ∙ ap (λ es. es ++ lines_of (drop (at + 1) rest)) c.in_ok-add.ensures.line
          ∙ append_assoc (map line_view l.lines.items) _ _ ∙ ap (λ es. map line_view l.lines.items ++ es) (sym (lines_first rest at c.in-Some.ensures)) ∙ l.invariant.value;
    }

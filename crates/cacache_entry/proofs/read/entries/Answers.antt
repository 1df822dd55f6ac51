use Rattle.std.proofs.{Common.{◌≤◌, ◌+◌, ◌++◌, map, length, drop, sym, ap, ◌∙◌, subst, arith, append_assoc, length-drop}, lemmas.List.{take_rest}}
use Rattle.cacache_entry.{specs.{Bucket.{entries_of}, View.{entry_view}}, proofs.Pieces.{entries-first}}
use Rattle.cacache_entry.proofs.read.entries.Goals as goal

pub loop-at-preserved : goal.loop-at-preserved
loop-at-preserved c =
    let l = c.loop-at in
    let rest = l.rest.now in
    let at = c.in-Some.at in
    let same = take_rest rest (at + 1) in
    record {
      within = subst (λ xs. length xs ≤ length c.args.bytes.now) (sym same) (omega (arith, length-drop (at + 1) rest, l.invariant.within));
      value = ap (λ xs. map entry_view c.add.new.found.items ++ entries_of xs) same ∙ ap (λ es. es ++ entries_of (drop (at + 1) rest)) c.in_ok-add.ensures
          ∙ append_assoc (map entry_view l.found.items) _ _ ∙ ap (λ es. map entry_view l.found.items ++ es) (sym (entries-first rest at c.in-Some.ensures)) ∙ l.invariant.value;
    }

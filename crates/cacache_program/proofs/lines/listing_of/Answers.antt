-- Sorting keeps the lines, and brings them in order.
use Rattle.std.proofs.{Common.{List, IsPermutation, map, subst, ap, ◌∙◌, is_lt}, lemmas.List.Sorted.{IsPermutation-map}}
use Rattle.cacache_program.{specs.{declared.lines.Line.{Line as HeldLine}, WordLs.{Line, line_cmp, listing_text}, Lines.{line_view}}, proofs.PrintedLines.{IsSortedBy-map}}
use Rattle.cacache_program.proofs.lines.listing_of.Goals as goal

pub returns : goal.returns
returns c =
    let sorted = c.sort_unstable.new.self.items in
    let moved = IsPermutation-map line_view c.in_ok-lines.field-0.lines.items sorted c.sort_unstable.ensures.permutation in
    record {
      text = (
        map line_view sorted,
        (
          subst (λ (l : List Line). IsPermutation l (map line_view sorted)) c.in_ok-lines.ensures.lines moved,
          IsSortedBy-map line_view (λ a b. is_lt (line_cmp a b)) sorted c.sort_unstable.ensures.sorted,
        ),
        c.in_ok-text.ensures ∙ ap (λ (l : List HeldLine). listing_text (map line_view l)) c.deref.ensures.value,
      );
      error = c.in_ok-lines.ensures.error;
    }

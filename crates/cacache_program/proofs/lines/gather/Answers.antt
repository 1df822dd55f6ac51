-- One item more.
use Rattle.std.proofs.Common.{◌++◌, ◌||◌, List, Bool, is_err, option_to_list, ◌∙◌, ap, sym}
use Rattle.cacache_program.{specs.WordLs.{Line, line_in}, proofs.PrintedLines.{lines_more, errors_more}}
use Rattle.cacache_program.proofs.lines.gather.Goals as goal

pub loop-item-preserved : goal.loop-item-preserved
loop-item-preserved c =
    let item = c.in-Some.item in
    record {
      lines =
          c.in_ok-add.ensures.lines
          ∙ ap (λ (l : List Line). l ++ option_to_list (line_in item)) c.loop-item.invariant.lines
          ∙ sym (lines_more c.loop-item.yielded item);
      error =
          c.in_ok-add.ensures.error ∙ ap (λ (b : Bool). b || is_err item) c.loop-item.invariant.error
          ∙ sym (errors_more c.loop-item.yielded item);
    }

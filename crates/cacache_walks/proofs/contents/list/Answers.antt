use Rattle.std.proofs.Common.{◌∙◌}
use Rattle.cacache_walks.proofs.Stopping.{error_so, stops_whole}
use Rattle.cacache_walks.proofs.contents.list.Goals as goal

pub returns-clause-stops : goal.returns-clause-stops
returns-clause-stops g c =
    error_so c.contents_from.result (λ e memory. rw memory (stops_whole _ _ _ _ _ (rw (c.as_str.ensures.same ∙ c.in_ok-top.ensures) at c.in_ok-files.ensures.reads))) c.contents_from.ensures.memory

use Rattle.std.{proofs.Common.{◌∙◌, ℕ, List, sym, ap}, specs.Result.{result_ok}}
use Rattle.cacache_core.specs.Paths.{names_of}
use Rattle.cacache_loss.proofs.ChosenLosses.{undone_more}
use Rattle.cacache_loss.proofs.loss.undone_paths.Goals as goal

pub loop-i-preserved : goal.loop-i-preserved
loop-i-preserved c =
    undone_more c.loop-i.paths c.insert.new.self c.args.texts.now c.loop-i.i c.index-texts-i.result c.in-Some.path c.loop-i-test.true c.index-texts-i.is
    (sym c.in-Some.is ∙ c.in_ok-path.ensures ∙ ap (λ (t : List ℕ). result_ok (names_of t)) c.as_str.ensures.same) c.in_ok-insert.ensures.updates c.loop-i.invariant

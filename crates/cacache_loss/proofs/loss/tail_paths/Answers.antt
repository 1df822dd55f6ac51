use Rattle.std.{proofs.Common.{◌∙◌, ℕ, List, Some, sym, ap, subst₂}, specs.Result.{result_ok}}
use Rattle.std.specs.BTreeMap as btree
use Rattle.cacache_core.specs.Paths.{Names, names_of}
use Rattle.cacache_disk.specs.Tree.{names_cmp}
use Rattle.cacache_loss.proofs.ChosenLosses.{tails_more, tails_known}
use Rattle.cacache_loss.proofs.loss.tail_paths.Goals as goal

pub loop-i-preserved-then-contains_key : goal.loop-i-preserved-then-contains_key
loop-i-preserved-then-contains_key c =
    tails_known c.loop-i.tails c.args.files.now c.loop-i.i c.index-files-i.result c.loop-i-test.true c.index-files-i.is c.in-Some.path
    (sym c.in-Some.is ∙ c.in_ok-path.ensures ∙ ap (λ (t : List ℕ). result_ok (names_of t)) c.as_str.ensures.same) (sym c.if-contains_key.true ∙ c.contains_key.ensures) c.loop-i.invariant

pub loop-i-preserved : goal.loop-i-preserved
loop-i-preserved c =
    tails_more c.loop-i.tails c.args.files.now c.loop-i.i c.index-files-i.result c.loop-i-test.true c.index-files-i.is c.insert.new.self c.in-Some.path
    (sym c.in-Some.is ∙ c.in_ok-path.ensures ∙ ap (λ (t : List ℕ). result_ok (names_of t)) c.as_str.ensures.same)
    (subst₂ (λ (p : Names) (b : List ℕ). btree.Updates names_cmp c.loop-i.tails c.insert.new.self p (Some b)) c.path.view_is c.in_ok-share.ensures c.in_ok-insert.ensures.updates)
    (sym c.if-contains_key.false ∙ c.contains_key.ensures) c.loop-i.invariant

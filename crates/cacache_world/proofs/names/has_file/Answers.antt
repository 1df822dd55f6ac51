use Rattle.std.{proofs.Common.{◌≡◌, true, false, sym, ap, ◌∙◌}, specs.Prelude.{Ok}}
use Rattle.cacache_core.specs.Paths.{names_of}
use Rattle.cacache_history.specs.Setup.{same_place}
use Rattle.cacache_world.proofs.NamesOfPaths.{one_here, not_yet}
use Rattle.cacache_world.proofs.names.has_file.Goals as goal

pub returns-then-branch : goal.returns-then-branch
returns-then-branch c = λ text e.
    let same : same_place (names_of c.file-item.result.0) (Ok c.args.path.now) ≡ true
    = ap (λ t. same_place (names_of t) (Ok c.args.path.now)) (sym c.as_str.ensures.same) ∙ sym c.in_ok-is_same.ensures ∙ c.if-branch.true in
    one_here c.args.files.now c.loop-file.file-index c.file-item.result text c.loop-file-test.true c.file-item.is (ap (same_place (names_of c.file-item.result.0)) e ∙ same)

pub loop-file-preserved : goal.loop-file-preserved
loop-file-preserved c = λ text e.
    let other : same_place (names_of c.file-item.result.0) (Ok c.args.path.now) ≡ false
    = ap (λ t. same_place (names_of t) (Ok c.args.path.now)) (sym c.as_str.ensures.same) ∙ sym c.in_ok-is_same.ensures ∙ c.if-branch.false in
    not_yet c.args.files.now c.loop-file.file-index c.file-item.result text c.loop-file-test.true c.file-item.is (ap (same_place (names_of c.file-item.result.0)) e ∙ other) (c.loop-file.invariant text e)

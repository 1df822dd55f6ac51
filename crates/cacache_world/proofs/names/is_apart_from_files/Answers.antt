use Rattle.std.proofs.Common.{◌≡◌, true, false, sym, ap, ◌∙◌}
use Rattle.cacache_core.specs.Paths.{names_of}
use Rattle.cacache_history.specs.Setup.{apart_from_text}
use Rattle.cacache_world.proofs.NamesOfPaths.{one_near, apart_more}
use Rattle.cacache_world.proofs.names.is_apart_from_files.Goals as goal

pub returns-then-not-branch : goal.returns-then-not-branch
returns-then-not-branch c =
    let near : apart_from_text (names_of c.file-item.result.0) c.args.path.now ≡ false
    = ap (λ t. apart_from_text (names_of t) c.args.path.now) (sym c.as_str.ensures.same) ∙ sym c.in_ok-is_apart_from_text.ensures ∙ c.if-not-branch.true in
    one_near c.args.files.now c.loop-file.file-index c.file-item.result c.args.path.now c.loop-file-test.true c.file-item.is near

pub loop-file-preserved : goal.loop-file-preserved
loop-file-preserved c =
    let apart : apart_from_text (names_of c.file-item.result.0) c.args.path.now ≡ true
    = ap (λ t. apart_from_text (names_of t) c.args.path.now) (sym c.as_str.ensures.same) ∙ sym c.in_ok-is_apart_from_text.ensures ∙ c.if-not-branch.false in
    apart_more c.args.files.now c.loop-file.file-index c.file-item.result c.args.path.now c.loop-file-test.true c.file-item.is apart c.loop-file.invariant

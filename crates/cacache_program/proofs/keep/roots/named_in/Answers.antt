-- The lines were read in turn.
use Rattle.std.proofs.{Common.{◌∙◌, ap, map, sym}, lemmas.Iterator.{Consumers.{YieldsList-end, YieldsList-turn}, Splits.{YieldsList-from_lines}}}
use Rattle.cacache_core.specs.Texts.{read_integrity}
use Rattle.cacache_program.proofs.Roots.{line_at, unnamed_as}
use Rattle.cacache_program.proofs.keep.roots.named_in.Goals as goal

pub returns-in_err-parse-clause-misnamed : goal.returns-in_err-parse-clause-misnamed
returns-in_err-parse-clause-misnamed c =
    let bytes = c.args.text.now in
    let t = YieldsList-turn (YieldsList-from_lines bytes cc) c.loop-line.yielded _ c.loop-line.yielded_by _ _ c.in-Some.line c.in-Some.is c.next.ensures.steps in
    unnamed_as bytes c.from_residual.result _ c.from_residual.ensures.1 (c.in-Some.line.now, line_at bytes c.in-Some.line.now _ t, c.in_err-parse.ensures.err)

pub returns-in_err-push-clause-misnamed : goal.returns-in_err-push-clause-misnamed
returns-in_err-push-clause-misnamed c =
    let bytes = c.args.text.now in
    let t = YieldsList-turn (YieldsList-from_lines bytes cc) c.loop-line.yielded _ c.loop-line.yielded_by _ _ c.in-Some.line c.in-Some.is c.next.ensures.steps in
    unnamed_as bytes c.from_residual-in_err-push.result _ c.from_residual-in_err-push.ensures.1 (c.in-Some.line.now, line_at bytes c.in-Some.line.now _ t, tt)

pub returns-clause-named : goal.returns-clause-named
returns-clause-named c =
    let bytes = c.args.text.now in
    let t = YieldsList-end (YieldsList-from_lines bytes cc) c.loop-line.yielded _ c.loop-line.yielded_by _ _ c.in-None.is c.next.ensures.steps in
    ap (map read_integrity) (sym t.0) ∙ c.loop-line.invariant

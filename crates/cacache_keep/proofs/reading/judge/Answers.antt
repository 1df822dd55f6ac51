use Rattle.std.proofs.Common.{inr, refl, sym, ◌∙◌}
use Rattle.cacache_keep.proofs.{Repairs.Shown.{gone_so, opened_so, unopened_so}, Stopped.{error_so}}
use Rattle.cacache_keep.proofs.reading.judge.Goals as goal

pub returns-in-Ok-clause-stops : goal.returns-in-Ok-clause-stops
returns-in-Ok-clause-stops g c =
    let file = g.S.File.FileHandle.seen c.in-Ok.file in
    let opens = opened_so c.args.cache.now c.in_ok-path.path c.args.sri.now file _ _ _ c.in_ok-path.ensures c.in-Ok.ensures c.step.ensures.logged in
    error_so c.judge_bytes.result (λ e stops. inr (file, g.S.Store.log c.step.new.self, opens, stops)) c.judge_bytes.ensures.stops

pub returns-then-says_gone-clause-says : goal.returns-then-says_gone-clause-says
returns-then-says_gone-clause-says g c =
    inr (refl, refl, gone_so c.args.cache.now c.in_ok-path.path c.args.sri.now _ c.in-Err.refusal _ _ c.in_ok-path.ensures (sym c.says_gone.ensures ∙ c.if-says_gone.true) c.in-Err.ensures c.step.ensures.fits c.step.ensures.logged)

pub returns-else-says_gone-clause-stops : goal.returns-else-says_gone-clause-stops
returns-else-says_gone-clause-stops g c =
    unopened_so c.args.cache.now c.in_ok-path.path c.args.sri.now _ c.in-Err.refusal c.refused.result _ _ c.in_ok-path.ensures (sym c.says_gone.ensures ∙ c.if-says_gone.false) c.in-Err.ensures c.step.ensures.fits c.step.ensures.logged c.refused.ensures

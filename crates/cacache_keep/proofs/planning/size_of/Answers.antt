use Rattle.std.proofs.Common.{sym, ◌∙◌}
use Rattle.cacache_keep.proofs.Collections.Sizes.{hidden_so}
use Rattle.cacache_keep.proofs.planning.size_of.Goals as goal

pub returns-else-says_gone-clause-stops : goal.returns-else-says_gone-clause-stops
returns-else-says_gone-clause-stops g c =
    hidden_so c.args.cache.now c.in_ok-path.path c.args.address.now _ c.in-Err.refusal c.refused.result _ _ c.in_ok-path.ensures (sym c.says_gone.ensures ∙ c.if-says_gone.false) c.in-Err.ensures c.step.ensures.fits c.step.ensures.logged c.refused.ensures

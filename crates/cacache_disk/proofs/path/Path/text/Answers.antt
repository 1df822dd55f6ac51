use Rattle.std.proofs.Common.{◌∙◌, ap₂, arith}
use Rattle.cacache_core.specs.Paths.{join}
use Rattle.cacache_disk.proofs.PathTexts.{text_next}
use Rattle.cacache_disk.proofs.path.Path.text.Goals as goal

pub loop-i-preserved : goal.loop-i-preserved
loop-i-preserved c =
    let joins = c.in_ok-text-2.ensures ∙ ap₂ join c.as_str.ensures.same (c.as_str-in-loop-i.ensures.same ∙ c.into_text-name.ensures.same) in
    text_next c.args.self.now c.loop-i.i c.loop-i.text c.in_ok-text-2.text _ _ (omega (arith, c.len-i-end.ensures, c.loop-i-test.true)) c.loop-i.invariant c.in_ok-name.ensures joins

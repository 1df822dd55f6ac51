use Rattle.std.proofs.{Common.{◌≡◌, ap, ◌∙◌, get_or, length, drop, ◌-◌, length-take, length-drop, rules, arith}, lemmas.Grind.{common_steps}, Output.{has_written_append, has_written_of_eq}}
use Rattle.std.specs.Fmt.{HasWritten}
use Rattle.cacache_core.{specs.Texts.{hash_text, integrity_text}, proofs.Printed.{spaced_more, spaced_all}}
use Rattle.cacache_core.proofs.integrity.whole.IntegrityDisplay.fmt.Goals as goal

pub loop-hash-preserved : goal.loop-hash-preserved
loop-hash-preserved g c = λ plain.
    has_written_of_eq _ _ _ _ _ (spaced_more _ c.loop-hash.hash-index c.hash-item.result (omega arith) c.hash-item.is)
    (has_written_append _ _ _ _ _ _ (c.loop-hash.invariant plain) (search rules))

pub returns-clause-writes : goal.returns-clause-writes
returns-clause-writes g c = λ plain _.
    let first : HasWritten g.W.Write.write_str_gives c.args.f.now (hash_text c.index.result.now) c.write.new.self = search rules in
    let is : c.index.result.now ≡ get_or c.deref.result.now 0 c.index.result.now = grind (arith, common_steps) in
    let all =
    spaced_all c.deref.result.now c.loop-hash.hash-index c.index.result.now (omega (arith, ap length c.deref.ensures.value))
    (omega (arith, length-take (length c.deref.result.now - 1) (drop 1 c.deref.result.now), length-drop 1 c.deref.result.now)) is
    ∙ ap integrity_text (c.deref.ensures.value ∙ c.self.view_is) in
    has_written_of_eq _ _ _ _ _ all (has_written_append _ _ _ _ _ _ first (c.loop-hash.invariant first.plain))

use Rattle.std.proofs.Common.{ℕ, List, ◌++◌, string_bytes, refl, ap, ap₂, ◌∙◌}
use Rattle.cacache_core.proofs.PathLemmas.{digits_more, digits_done}
use Rattle.cacache_core.proofs.paths.push_each.Goals as goal

pub loop-byte-init : goal.loop-byte-init
loop-byte-init c = refl

pub loop-byte-preserved : goal.loop-byte-preserved
loop-byte-preserved c =
    let t = string_bytes c.loop-byte.text in
    let high = c.in_ok-push.ensures.bytes ∙ ap (λ (d : List ℕ). t ++ d) c.digit.ensures in
    let both = c.in_ok-push-2.ensures.bytes ∙ ap₂ (λ (a b : List ℕ). a ++ b) high c.digit-in-loop-byte.ensures in
    digits_more t (string_bytes c.args.text.now) (string_bytes c.push-in-loop-byte.new.self) c.args.bytes.now c.loop-byte.byte-index c.loop-byte-test.true both c.loop-byte.invariant

pub returns : goal.returns
returns c =
    digits_done (string_bytes c.loop-byte.text) (string_bytes c.args.text.now) c.args.bytes.now c.loop-byte.byte-index c.loop-byte-test.false c.loop-byte.invariant

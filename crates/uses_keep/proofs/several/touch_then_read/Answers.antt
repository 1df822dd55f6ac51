-- The law of a touch, and that of a read of the key that it left.
use Rattle.std.{proofs.{Common.{ap, subst, ◌∙◌}, lemmas.Result.{MatchResult-weaker}}, specs.{Prelude.{OnOk}, Result.{result_from_control_flow}}}
use Rattle.cacache_laws.specs.Caches.{HasKey}
use Rattle.uses_keep.proofs.several.touch_then_read.Goals as goal

pub returns : goal.returns
returns g c = λ i bytes has.
    let touched = c.after_touch.ensures.touches c.args.env.now c.requires c.touch-touched.ensures.touches c.touch-touched.ensures.stops in
    let still = subst (λ r. OnOk r (HasKey c.args.cache.now c.args.key.now i bytes c.touch-touched.new.env.store)) (c.branch-led.ensures ∙ ap (λ b. result_from_control_flow b) c.in_ok-_led.is) (touched.keeps i bytes has) in
    let read = c.after_read.ensures c.touch-touched.new.env touched.sound c.read_sync-read.ensures.ran in
    MatchResult-weaker c.read_sync-read.result (read.gives i bytes still) (λ v h. h) (λ e h. tt)

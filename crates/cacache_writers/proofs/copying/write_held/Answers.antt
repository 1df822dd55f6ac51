use Rattle.std.proofs.{Common.{◌≡◌, ℕ, List, length, drop, min, sym, ap, subst, inl, inr, ◌∙◌, ◌-◌, ◌+◌, arith}, lemmas.{Grind.{common_steps}, List.{length-drop, drop-drop, drop_min}}}
use Rattle.std.specs.Prelude.{Result, ⊤}
use Rattle.futures.specs.declared.task.Poll.{Poll}
use Rattle.cacache_core.specs.declared.errors.Error.{Error}
use Rattle.cacache_writers.specs.Writing.{WritesOn, took}
use Rattle.cacache_writers.proofs.copying.write_held.Goals as goal

-- what is left of a list begins at so many bytes from its end
less : (n t : ℕ) → n - (n - t) ≡ min t n
less n t = grind (arith, common_steps)

at_end : (t : ℕ) (held : List ℕ) → drop (length held - length (drop t held)) held ≡ drop t held
at_end t held =
    ap (λ n. drop (length held - n) held) (length-drop t held)
    ∙ (ap (λ n. drop n held) (less (length held) t) ∙ drop_min t held)

-- so what a write leaves does
still_at_end : {W : Type 0} (polls : W → List ℕ → Poll (Result ℕ Error) → W → Type 0) (old new : W) (t : ℕ) (held after : List ℕ)
    (r : Poll (Result ⊤ Error)) → WritesOn polls old (drop t held) new after r → drop (length held - length after) held ≡ after
still_at_end polls old new t held after r (inl w) =
    subst (λ x. drop (length held - length x) held ≡ x) (sym w.2) (at_end t held)
still_at_end polls old new t held after r (inr w) =
    let n = took (drop t held) w.1.0 in
    let moved : drop n (drop t held) ≡ drop (t + n) held = drop-drop n t held in
    subst (λ x. drop (length held - length x) held ≡ x) (sym (w.1.2 ∙ moved)) (at_end (t + n) held)

pub returns-clause-writes : goal.returns-clause-writes
returns-clause-writes g c =
    let polls = g.W.PollWrite.polls in
    let held = c.args.held.now in
    let after = c.write_on-polled.new.rest.now in
    let w = subst (λ x. WritesOn polls c.args.writer.now x c.write_on-polled.new.writer after c.write_on-polled.result)
    c.untaken-rest.ensures c.write_on-polled.ensures.writes in
    let ends = still_at_end polls c.args.writer.now c.write_on-polled.new.writer c.args.taken.now held after c.write_on-polled.result w in
    subst (λ x. WritesOn polls c.args.writer.now (drop c.args.taken.now held) c.write_on-polled.new.writer x c.write_on-polled.result)
    (sym (ap (λ n. drop n held) c.saturating_sub.ensures ∙ ends)) w

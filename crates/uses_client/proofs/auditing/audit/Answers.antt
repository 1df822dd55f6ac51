-- Each verdict is on the store that the listing found.
use Rattle.std.proofs.{Common.{[], ◌∷◌, ◌++◌, ap, subst, sym, ◌∙◌}, lemmas.List.{map-append, Elements.{All-append, All-cons, All-nil}}}
use Rattle.cacache.specs.Entries.{Found}
use Rattle.uses_client.{specs.{declared.auditing.Verdict.{Verdict}, Packages.{AreRight, IsRight, entries_in}}, proofs.Shown.{right_on}}
use Rattle.uses_client.proofs.auditing.audit.Goals as goal

pub loop-entry-preserved : goal.loop-entry-preserved
loop-entry-preserved g c =
    let inv = c.loop-entry.invariant in
    let v : Verdict = record { entry = c.in-Some.entry; whole = c.in_ok-whole.whole } in
    let P = λ (v : Verdict). IsRight c.args.cache.now v.entry.integrity c.args.env.now.store v.whole in
    let named = subst (λ i. IsRight c.args.cache.now i c.loop-entry.env.store c.in_ok-whole.whole) (ap (λ (f : Found). f.integrity) c.as_metadata.ensures) c.in_ok-whole.ensures.right in
    let right = right_on c.args.cache.now c.in-Some.entry.integrity c.loop-entry.env.store c.args.env.now.store c.in_ok-whole.whole inv.1 named in (
      c.is_whole.ensures.leaves.0,
      c.is_whole.ensures.same ∙ inv.1,
      ap (λ l. l ++ c.in-Some.entry ∷ []) inv.2 ∙ sym (map-append (λ (v : Verdict). v.entry) c.loop-entry.verdicts.items (v ∷ [])) ∙ ap entries_in (sym c.in_ok-push.ensures.items),
      subst (AreRight c.args.cache.now c.args.env.now.store) (sym c.in_ok-push.ensures.items) (All-append P c.loop-entry.verdicts.items (v ∷ []) inv.3 (All-cons P v [] right (All-nil P))),
    )

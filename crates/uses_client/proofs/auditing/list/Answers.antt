-- A listing without an error has all entries.
use Rattle.std.proofs.{Common.{◌∙◌, ap, sym, subst}, lemmas.Result.{MatchResult-weaker}}
use Rattle.cacache.specs.{Calls.{Listed}, Laws.{GivesError}}
use Rattle.uses_client.proofs.Shown.{listing_failed}
use Rattle.uses_client.proofs.auditing.list.Goals as goal

pub returns-in-Listed-clause-entries : goal.returns-in-Listed-clause-entries
returns-in-Listed-clause-entries g c = MatchResult-weaker c.entries.result c.entries.ensures.all (λ v is. c.ask-reply.ensures.entries v.items (c.in-Listed.is ∙ ap Listed (sym c.into_vec.ensures ∙ is))) (λ e h. h)

pub returns-in-Listed-clause-fails : goal.returns-in-Listed-clause-fails
returns-in-Listed-clause-fails g c = MatchResult-weaker c.entries.result c.entries.ensures.fails (λ v h. h)
    (λ e. listing_failed c.into_vec.result.items e _ _ (λ i. c.ask-reply.ensures.fails e (subst (λ r. GivesError r e) (sym (c.in-Listed.is ∙ ap Listed (sym c.into_vec.ensures))) i)))

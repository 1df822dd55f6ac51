-- The copy is of what the key leads to, which has the integrity of the file's bytes.
use Rattle.std.proofs.{Common.{◌≡◌, ◌∙◌, Some, refl, subst, sym}, lemmas.Result.{MatchResult-weaker}}
use Rattle.cacache.specs.Integrities.{Meets}
use Rattle.uses_client.proofs.outside.link_and_copy.Goals as goal

pub returns-clause-copies : goal.returns-clause-copies
returns-clause-copies g c = λ held shows.
    let of = c.in_ok-_sri.ensures.held held shows in
    MatchResult-weaker c.export.result c.export.ensures.whole (λ n a.
    let both : Some a.integrity ≡ Some c.in_ok-_sri._sri = sym a.names ∙ of.leads c.args.key.now refl in
    let same : a.integrity ≡ c.in_ok-_sri._sri = cc in
    (a.bytes, subst (λ j. Meets j a.bytes) (same ∙ of.stored) (a.meets refl), a.shows, a.counts)) (λ e h. h)

use Rattle.std.proofs.{Common.{◌≡◌, ◌==◌, true, false, length, ap, sym, ◌∙◌, []}, lemmas.{Bool.{eqb-true}, List.{nil_from_length}}}
use Rattle.cacache_walks.proofs.{Stopping.{error_as, stops_after, stops_deep, stops_visit}, VisitSteps.{goes_after, fewer_after}}
use Rattle.cacache_walks.proofs.contents.walk.make.Goals as goal

pub returns-clause-goes : goal.returns-clause-goes
returns-clause-goes g c = λ fs stands. goes_after c.args.visit _ _ _ _ _ c.args.walk.now c.resume.new.self c.in-Ok.next fs c.in_ok-answer.ensures.answers stands (λ counts. c.in-Ok.ensures [] counts) (nil_from_length c.resume.new.self.items.items (sym c.resume.new.self.items.ok.0 ∙ eqb-true c.resume.new.self.items.len 0 (sym c.is_empty.ensures ∙ c.if-not-is_empty.false)))

pub returns-clause-smaller : goal.returns-clause-smaller
returns-clause-smaller g c = λ fs stands. fewer_after c.args.visit _ _ _ _ _ c.args.walk.now c.resume.new.self c.in-Ok.next fs c.in_ok-answer.ensures.answers stands (λ counts. c.in-Ok.ensures [] counts)

pub returns-in_err-answer-clause-stops : goal.returns-in_err-answer-clause-stops
returns-in_err-answer-clause-stops g c =
    error_as _ c.from_residual.result c.in_err-answer.field-0.0 c.from_residual.ensures.1 (λ fs stands. stops_visit c.args.visit c.in_err-answer.field-0.0 _ _ c.args.walk.now fs c.in_err-answer.ensures.stops stands)

pub returns-in_default-clause-stops : goal.returns-in_default-clause-stops
returns-in_default-clause-stops g c = λ fs stands. stops_after c.args.visit _ _ _ _ _ c.args.walk.now fs c.in_ok-answer.ensures.answers stands

pub returns-then-not-is_empty-clause-stops : goal.returns-then-not-is_empty-clause-stops
returns-then-not-is_empty-clause-stops g c = λ fs stands. stops_deep c.args.visit _ c.failure.result _ _ _ _ c.args.walk.now c.resume.new.self c.in-Ok.next fs c.in_ok-answer.ensures.answers stands (λ counts. c.in-Ok.ensures [] counts) (λ none.
    let empty = c.resume.new.self.items.ok.0 ∙ ap length none in
    let wrong : false ≡ true = sym c.if-not-is_empty.true ∙ c.is_empty.ensures ∙ ap (λ n. n == 0) empty in cc) c.failure.ensures

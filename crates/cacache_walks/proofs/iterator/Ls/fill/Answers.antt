use Rattle.std.proofs.{Common.{◌∙◌, ◌++◌, sym}, lemmas.{Bool.{eqb-true}, List.{nil_from_length}}}
use Rattle.cacache_walks.{specs.Iterating.{ready}, proofs.Filling.{keeps_on, wants_step, gave_next, fewer_steps_than, fewer_by}}
use Rattle.cacache_walks.proofs.iterator.Ls.fill.Goals as goal

pub visits-smaller : goal.visits-smaller
visits-smaller g c =
    let l = c.visits.invariant.listing in
    let is = sym c.in-Some.ensures.value in
    let stands = wants_step g.S.Store.log l.0 l.1 c.visits.self c.in-Some.visit (l.2 ++ ready g.S.Store.log c.visits.self) is l.3 in
    fewer_steps_than c.in-Some.visit c.visits.self.visit c.visits.self.walk _ is (c.in-Ok.ensures.shrinks l.0 l.1 (l.2 ++ ready g.S.Store.log c.visits.self) stands).0

pub visits-preserved : goal.visits-preserved
visits-preserved g c =
    let l = c.visits.invariant.listing in
    let is = sym c.in-Some.ensures.value in
    let stands = wants_step g.S.Store.log l.0 l.1 c.visits.self c.in-Some.visit (l.2 ++ ready g.S.Store.log c.visits.self) is l.3 in
    let zero = eqb-true c.visits.self.ready.len 0 (sym c.visits-test.ensures) in
    let none = nil_from_length c.visits.self.ready.items (sym c.visits.self.ready.ok.0 ∙ zero) in
    record {
      keeps = keeps_on c.args.self.now c.visits.self c.go_on.new.self c.visits.invariant.keeps c.in-Ok.ensures.keeps;
      gave = λ cache old given h. gave_next g.S.Store.log cache old c.visits.self c.go_on.new.self c.in-Some.visit given none is (c.in-Ok.ensures.went cache old) (c.visits.invariant.gave cache old given h);
      listing = (l.0, l.1, l.2, gave_next g.S.Store.log l.0 l.1 c.visits.self c.go_on.new.self c.in-Some.visit l.2 none is (c.in-Ok.ensures.went l.0 l.1) l.3);
      fewer = fewer_by c.visits.self c.in-Some.visit _ _ is (c.in-Ok.ensures.shrinks l.0 l.1 (l.2 ++ ready g.S.Store.log c.visits.self) stands).1 c.visits.invariant.fewer;
    }

pub returns-in-Err-clause-filled : goal.returns-in-Err-clause-filled
returns-in-Err-clause-filled g c = λ cache old given h.
    let is = sym c.in-Some.ensures.value in
    let items = given ++ ready g.S.Store.log c.visits.self in
    let went = c.in-Err.ensures.went cache old items (wants_step g.S.Store.log cache old c.visits.self c.in-Some.visit items is (c.visits.invariant.gave cache old given h)) in
    (went.0, went.1, c.in-Err.ensures.rests.0 ∙ c.in-Some.ensures.after, c.in-Err.ensures.rests.1)

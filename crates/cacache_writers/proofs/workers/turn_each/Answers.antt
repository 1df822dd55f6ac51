use Rattle.std.{proofs.{Common.{◌≡◌, List, [], ◌∷◌, length, refl, sym, subst, arith}, lemmas.Grind.{common_steps}}, specs.{Fn.{FnReturnsAt}, List.{FoldsTo}}}
use Rattle.cacache_writers.specs.{declared.worker.Turned.{Turned}, Turning.{IsBoth}}
use Rattle.cacache_writers.proofs.workers.turn_each.Goals as goal

-- a list without items
none : {A : Type 0} (xs : List A) → length xs ≡ 0 → xs ≡ []
none [] p = refl
none (x ∷ xs) p = grind (arith, common_steps)

pub loop-worker-preserved : goal.loop-worker-preserved
loop-worker-preserved g c last rest =
    let turns = FnReturnsAt g.Turn.Fn c.args.turn in
    c.loop-worker.invariant last
    (subst (λ xs. FoldsTo (λ all w next. (t : Turned) × turns w t × IsBoth all t next) c.loop-worker.all xs last) (sym c.in-Some.ensures.cases.0)
    (c.both-all.result, (c.turn.result, record { shown = c.in-Some.worker; shows = refl; says = record { met = c.turn.ensures } }, c.both-all.ensures), rest))

pub returns : goal.returns
returns g c =
    let turns = FnReturnsAt g.Turn.Fn c.args.turn in
    let all = c.loop-worker.all in
    record {
      turns = c.loop-worker.invariant all
          (subst (λ xs. FoldsTo (λ all w next. (t : Turned) × turns w t × IsBoth all t next) all xs all)
          (sym (none c.loop-worker.rest.now c.in_default.ensures.cases)) refl);
    }

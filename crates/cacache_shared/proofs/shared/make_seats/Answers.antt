use Rattle.std.{proofs.Common.{rules, ◌≡◌, ◌+◌, ◌∙◌, ◌++◌, ◌∷◌, [], ap, arith, sym, is_ok}, specs.Prelude.{if◌then◌else◌}}
use Rattle.cacache_shared.{proofs.Callers.{records_below, all_counted, below_more, is_fresh, moves_few, seats_more}, specs.Seats.{fresh_seats}}
use Rattle.cacache_shared.proofs.shared.make_seats.Goals as goal

pub returns-clause-total : goal.returns-clause-total
returns-clause-total g c =
    let e : c.loop-caller.caller ≡ c.args.world.now.setup.callers = search rules in
    c.loop-caller.invariant.total
    ∙ ap (records_below c.args.world.now.records) e
    ∙ all_counted c.args.world.now c.stands.ensures.headline.legal

pub new-requires-clause-moves : goal.new-requires-clause-moves
new-requires-clause-moves g c =
    let few = moves_few c.loop-caller.caller c.args.world.now.records in
    omega (arith, few, c.moves_in-moves.ensures, c.records_in-records.ensures)

pub loop-caller-preserved : goal.loop-caller-preserved
loop-caller-preserved g c = record {
  parts = search rules;
  amount = search rules;
  seats =
      let rs = c.args.world.now.records in
      let n = c.loop-caller.caller in
      let seat = is_fresh rs n c.records_in-records.result c.moves_in-moves.result c.new.result c.new.ensures c.records_in-records.ensures c.moves_in-moves.ensures in
      c.push.ensures.items
      ∙ ap (λ r. if is_ok r then c.loop-caller.seats.items ++ c.new.result ∷ [] else c.loop-caller.seats.items) c.unwrap.ensures
      ∙ ap (λ ss. ss ++ c.new.result ∷ []) c.loop-caller.invariant.seats
      ∙ ap (λ s. fresh_seats rs n ++ s ∷ []) seat
      ∙ sym (seats_more rs n);
  len = search rules;
  room = search rules;
  total = c.add.ensures.total ∙ ap (λ n. n + c.records_in-records.result) c.loop-caller.invariant.total ∙ ap (λ n. records_below c.args.world.now.records c.loop-caller.caller + n) c.records_in-records.ensures ∙ sym (below_more c.args.world.now.records c.loop-caller.caller);
}

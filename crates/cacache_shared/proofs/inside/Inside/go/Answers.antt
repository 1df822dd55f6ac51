use Rattle.std.proofs.Common.{◌≡◌, ◌≤◌, ◌+◌, ◌∙◌, List, ap, arith, rules, subst}
use Rattle.cacache_calls.specs.declared.reply.Reply.{Reply}
use Rattle.cacache_world.specs.WorldKept.{MovesOn}
use Rattle.cacache_shared.specs.Seats.{Taken, after_move, replies_after}
use Rattle.cacache_shared.proofs.inside.Inside.go.Goals as goal

pub returns-clause-moves : goal.returns-clause-moves
returns-clause-moves g c =
    let moved = c.in_ok-moved.moved in
    let seat = c.seat.inside in
    let caller : seat.caller ≡ c.args.seat.now.caller = ap (λ (s : Taken). s.caller) c.seat.view_is in
    let told = c.note_reply-went.ensures.noted ∙ ap (replies_after moved) c.reserve.ensures.items in
    let few : seat.records ≤ c.args.self.now.book.total = c.count_record.ensures.known in
    let counts : seat.records ≡ c.args.seat.now.records = ap (λ (s : Taken). s.records) c.seat.view_is in
    record {
      known = omega (arith, few, counts, c.args.self.now.counted);
      legal = c.stands.ensures.headline.legal;
      moves = record {
        move = moved;
        moves = subst (λ k. MovesOn c.args.self.now.world k c.args.luck moved c.move_one.new.self) caller c.in_ok-moved.ensures.adds;
        told = c.note_reply-went.ensures.told;
        noted =
            ap (λ (s : Taken). record s { count = s.count + 1 }) (c.seat-2.view_is ∙ c.count_record.ensures.seat)
            ∙ ap (λ (replies : List Reply). record { caller = seat.caller; records = seat.records + 1; count = seat.count + 1; commands = seat.commands.items; replies = replies }) told
            ∙ ap (after_move moved) c.seat.view_is;
      };
      legal_after = c.stands-2.ensures.headline.legal;
    }

pub returns-clause-world : goal.returns-clause-world
returns-clause-world g c = search rules

pub returns-clause-seat : goal.returns-clause-seat
returns-clause-seat g c = search rules

-- What the events of a world add to its records, and a listing of its first caller, event by event.
use Rattle.std.proofs.{Common.{◌≡◌, ℕ, ◌+◌, ◌∙◌, ap, length, subst, sym, List, [], ◌∷◌, ◌++◌, Some, None, option_map, refl, append_assoc}, lemmas.List.{length_push}}
use Rattle.cacache_disk.specs.declared.luck.Luck.{Luck}
use Rattle.cacache_history.specs.{declared.record.Record.{Record, TheVariants.{Began, Moved}}, History.{History, call_after, initial, new_call, now_after}}
use Rattle.cacache_history.proofs.Histories.Holding.{replay_more}
use Rattle.cacache_world.specs.{declared.event.Move.{Move}, WorldKept.{AddsRecord, MovesOn, adding, history_of, last}}
use Rattle.cacache_shared.specs.{declared.seat.Went.{Went}, Seats.{Taken, HoldsTurn, SeatMoves, SeatGoes, SeatTurns, after_move, went_of}, Storms.{GrewBy, IsListing, IsListed}}
use Rattle.cacache_shared.proofs.Answered.{same_command}
use Rattle.cacache_calls.specs.declared.{command.Command.TheVariants.{Ls}, reply.Reply.{Reply}}
use Rattle.cacache_world.specs.declared.event.Move.TheVariants as told

pub one_more : (h h' : History) (r : Record) → AddsRecord h r h' → length h'.records ≡ length h.records + 1
one_more h h' r a = ap (λ (x : History). length x.records) a.added ∙ length_push h.records r

pub moved_adds : (h h' : History) (caller : ℕ) (luck : Luck) (move : Move)
    → MovesOn h caller luck move h' → length h'.records ≡ length h.records + 1
moved_adds h h' caller luck made m = one_more h h' _ m.1

-- a seat that noted a move goes on, or is done
moves_goes : (luck : Luck) (went : Went) (h h' : History) (old new : Taken) → SeatMoves luck went h h' old new → SeatGoes went old new
moves_goes luck went h h' old new m = subst (λ w. SeatGoes w old new) (sym m.told) (by m.move m.noted)
  where
    by : (move : Move) → new ≡ after_move move old → SeatGoes (went_of move) old new
    by told.More noted = noted
    by (told.Done reply) noted = (reply, noted)

pub turn_goes : (luck : Luck) (went : Went) (h h' : History) (old new : Taken) → HoldsTurn luck went h h' old new → SeatGoes went old new
turn_goes luck went h h' old new t = moves_goes luck went h h' old new t.moves

-- the worlds of a hold are those before and after it
pub holds_turn : (luck : Luck) (went : Went) (h h' : History) (old new : Taken) → HoldsTurn luck went h h' old new → SeatTurns luck went old new
holds_turn luck went h h' old new t = record { before = h; after = h'; turn = t }

-- ---- a listing of a world's first caller, event by event

-- the calls after one record more
calls_behind : (h : History) (r : Record) → last (adding h r) ≡ now_after h.setup (last h) r
calls_behind h r = replay_more h.setup (initial h.setup) h.records (r ∷ [])

grew_more : (h h' : History) (more : List Record) (r : Record) → GrewBy h more h' → GrewBy h (more ++ r ∷ []) (adding h' r)
grew_more h h' more r grew = ap (λ x. adding x r) grew ∙ ap (λ l. history_of h.setup l) (append_assoc h.records more (r ∷ []))

pub listing_begins : (h h' : History) → AddsRecord h (Began 0 Ls) h' → IsListing h h'
listing_begins h h' adds = subst (IsListing h) (sym adds.added) (record {
  more = Began 0 Ls ∷ [];
  grew = refl;
  call = new_call h.setup (last h).begun Ls;
  is = refl;
  has = ap (λ w. w.calls 0) (calls_behind h (Began 0 Ls));
})

pub listing_goes_on : (h w w' : History) (luck : Luck) → IsListing h w → MovesOn w 0 luck told.More w' → IsListing h w'
listing_goes_on h w w' luck l m =
    let r = Moved 0 luck m.0 None in
    subst (IsListing h) (sym m.1.added) (record {
      more = l.more ++ r ∷ [];
      grew = grew_more h w l.more r l.grew;
      call = call_after (last w).tree luck m.0 l.call;
      is = same_command (last w).tree luck m.0 l.call ∙ l.is;
      has = ap (λ n. n.calls 0) (calls_behind w r) ∙ ap (option_map (call_after (last w).tree luck m.0)) l.has;
    })

pub listing_ends : (h w w' : History) (luck : Luck) (reply : Reply) → IsListing h w → MovesOn w 0 luck (told.Done reply) w' → IsListed h reply w'
listing_ends h w w' luck reply l m =
    let r = Moved 0 luck m.0 (Some reply) in
    subst (IsListed h reply) (sym m.1.added) (record {
      more = l.more ++ r ∷ [];
      grew = grew_more h w l.more r l.grew;
      call = call_after (last w).tree luck m.0 l.call;
      is = same_command (last w).tree luck m.0 l.call ∙ l.is;
      reaches = record {
        before = w.records;
        later = [];
        caller = 0;
        luck = luck;
        made = m.0;
        is = refl;
        stands = ap (option_map (call_after (last w).tree luck m.0)) l.has;
      };
    })

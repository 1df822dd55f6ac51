-- The file has the bytes that the core holds, while one worker alone writes it.
use Rattle.std.proofs.{Common.{◌≡◌, ◌≤◌, ℕ, Bool, true, false, List, [], ◌∷◌, ◌++◌, length, take, Option, Some, None, Result, Ok, Err, nat_le, refl, sym, ◌∙◌, ap, subst, inl, inr, arith, append-nil, append_assoc}, lemmas.Grind.{common_steps}}
use Rattle.std.specs.{Prelude.{◌⊎◌, bytes_eq, if◌then◌else◌, ⊤}, Io.KnownBytes.{Appends, Keeps}}
use Rattle.cacache_core.specs.declared.errors.{Error.{Error}, Fault.{Fault}}
use Rattle.cacache_store.specs.Outside as io
use Rattle.cacache_store.specs.declared.store.plain.PlainTemp.{PlainTemp}
use Rattle.cacache_polled.specs.{declared.kinds.{Work.{Work, TheVariants.{Write, Flush, Remove}}, State.{State, TheVariants.{Idle, Busy, Closed}}, Finished.{Finished}, Desk.{Desk}, Polled.{Polled}, Completion.{Completion}}, Table.{Ask, ask_write, ask_flush, ask_close, write_idle, write_flushing, write_in, flush_idle, flush_in, close_closed, close_in, polled, ended, wrote, outcome, flush_outcome}, Events.{Seen, Event, asks, ends, after_ending, seen, HasSeen}}
use Rattle.cacache_polled.proofs.Held.{seen-snoc}
use Rattle.cacache_polled.specs.declared.kinds.Polled.TheVariants as polls
use Rattle.cacache_polled.specs.declared.kinds.Completion.TheVariants as done
use Rattle.cacache_writers.specs.{declared.kept.Kept.{Kept}, Sharing.{IsPolled, handed, taken_out, left_after}, Turning.{FitsWork, DoesWork}, Alone.{work_of, HasBytes, Whole, Away, IsGone, NewIsWhole, PollKeeps, TakeBrings, EndRestores, WholeHolds}}

-- ---- the table: which work a poll hands out

-- the answer to a write or a flush that is over hands nothing out
outcome_hands : (r : Result ℕ Fault) (o : Option Work) → handed (outcome r) o ≡ o
outcome_hands (Ok n) o = refl
outcome_hands (Err f) o = refl

flush_hands : (r : Result ⊤ Fault) (o : Option Work) → handed (flush_outcome r) o ≡ o
flush_hands (Ok u) o = refl
flush_hands (Err f) o = refl

either_hands : (t : Bool) (f : Fault) (o : Option Work) → handed (if t then polls.Pending else polls.Failed f) o ≡ o
either_hands true f o = refl
either_hands false f o = refl

flushing_hands : (b : List ℕ) (f : Option Finished) (o : Option Work) → handed (write_flushing b f) o ≡ o
flushing_hands b (Some f) o = either_hands (bytes_eq f.bytes b) _ o
flushing_hands b None o = refl

-- while this work is out a poll leaves it so, and hands nothing out
record StaysOut (w : Work) (d : Desk × Polled) : Type 0 where
  state_is : d.0.state ≡ Busy w
  hands : (o : Option Work) → handed d.1 o ≡ o

write_stays : (d : Desk) (b : List ℕ) (w : Work) → d.state ≡ Busy w → StaysOut w (write_in d b (Busy w))
write_stays d b (Write out) p = record { state_is = p; hands = either_hands (bytes_eq out b) _ }
write_stays d b Flush p = record { state_is = p; hands = flushing_hands b d.finished }
write_stays d b Remove p = record { state_is = p; hands = λ o. refl }

busy_stays : (d : Desk) (a : Ask) (w : Work) → d.state ≡ Busy w → StaysOut w (polled d a)
busy_stays d (ask_write b) w p = subst (λ s. StaysOut w (write_in d b s)) (sym p) (write_stays d b w p)
busy_stays d ask_flush w p = subst (λ s. StaysOut w (flush_in d s)) (sym p) (record { state_is = p; hands = λ o. refl })
busy_stays d ask_close w p = subst (λ s. StaysOut w (close_in d s)) (sym p) (record { state_is = p; hands = λ o. refl })

-- what is handed out is the work that is out then
abbrev HandsOut : State → Desk × Polled → Type 0
HandsOut s d = handed d.1 (work_of s) ≡ work_of d.0.state

same_bytes : (d : Desk) (f : Finished) (t : Bool) (g : Fault) → d.state ≡ Idle
    → HandsOut Idle (if t then (record d { finished = None }, outcome f.outcome) else (d, polls.Failed g))
same_bytes d f true g p = outcome_hands f.outcome None ∙ ap work_of (sym p)
same_bytes d f false g p = ap work_of (sym p)

idle_write : (d : Desk) (b : List ℕ) (f : Option Finished) → d.state ≡ Idle → HandsOut Idle (write_idle d b f)
idle_write d b (Some f) p = same_bytes d f (bytes_eq f.bytes b) _ p
idle_write d [] None p = ap work_of (sym p)
idle_write d (x ∷ b) None p = refl

idle_flush : (d : Desk) (f : Option (Result ⊤ Fault)) → d.state ≡ Idle → HandsOut Idle (flush_idle d f)
idle_flush d (Some r) p = flush_hands r None ∙ ap work_of (sym p)
idle_flush d None p = refl

closed_close : (d : Desk) (f : Option Fault) → d.state ≡ Closed → HandsOut Closed (close_closed d f)
closed_close d (Some f) p = ap work_of (sym p)
closed_close d None p = ap work_of (sym p)

in_state : (d : Desk) (a : Ask) (s : State) → d.state ≡ s → HandsOut s (polled d a)
in_state d a (Busy w) p =
    let stays = busy_stays d a w p in
    stays.hands (Some w) ∙ ap work_of (sym stays.state_is)
in_state d (ask_write b) Idle p = subst (λ s. HandsOut Idle (write_in d b s)) (sym p) (idle_write d b d.finished p)
in_state d ask_flush Idle p = subst (λ s. HandsOut Idle (flush_in d s)) (sym p) (idle_flush d d.flushed p)
in_state d ask_close Idle p = subst (λ s. HandsOut Idle (close_in d s)) (sym p) refl
in_state d (ask_write b) Closed p = subst (λ s. HandsOut Closed (write_in d b s)) (sym p) (ap work_of (sym p))
in_state d ask_flush Closed p = subst (λ s. HandsOut Closed (flush_in d s)) (sym p) (ap work_of (sym p))
in_state d ask_close Closed p = subst (λ s. HandsOut Closed (close_in d s)) (sym p) (closed_close d d.kept p)

-- ---- what is kept

-- only a busy core has work out
busy_of : (s : State) (w : Work) → work_of s ≡ Some w → s ≡ Busy w
busy_of Idle w p = grind (arith, common_steps)
busy_of (Busy v) w p = grind (arith, common_steps)
busy_of Closed w p = grind (arith, common_steps)

appended_to : (new : Option (List ℕ)) (known more : List ℕ) → Appends (Some known) new more → new ≡ Some (known ++ more)
appended_to (Some x) known more a = ap Some a
appended_to None known more a = absurd a

kept_as : (new : Option (List ℕ)) (known : List ℕ) → Keeps (Some known) new → new ≡ Some known
kept_as (Some x) known a = ap Some a
kept_as None known a = absurd a

true_is_not_false : false ≡ true → ⊥
true_is_not_false p = grind (arith, common_steps)

reaches : (n m : ℕ) → n ≤ m → nat_le n m ≡ true
reaches n m p = grind (arith, common_steps)

module _ {T : Type 0} (temp : T → PlainTemp) (start : List ℕ) where
  -- a poll holds no more bytes
  asked_holds : (es : List Event) (a : Ask) (file : T) → HasBytes temp start es file → HasBytes temp start (es ++ asks a ∷ []) file
  asked_holds es a file h = h ∙ ap (λ s. Some (start ++ s.held)) (sym (seen-snoc es (asks a)))

  pub new_is_whole : NewIsWhole temp start
  new_is_whole algorithm file k new bytes = (
    [],
    file,
    record {
      seen_is = new.fresh;
      work_is = new.idle.0 ∙ ap (λ d. work_of d.state) (sym new.fresh.desk);
      temp_is = new.temp_is;
      bytes_are = bytes ∙ ap Some (sym (append-nil start));
    },
  )

  whole_polled : (old new : Kept T) (a : Ask) (r : Result (Option ℕ) Error) → IsPolled old new a r → Whole temp start old → Whole temp start new
  whole_polled old new a r (inl p) k = subst (Whole temp start) (sym p.0) k
  whole_polled old new a r (inr p) (es, file, k) =
      let rest = p.2 in (
        es ++ asks a ∷ [],
        file,
        record {
          seen_is = p.3 es k.seen_is;
          work_is = ap (λ x. x.work) rest ∙ (ap (handed (polled old.core.desk a).1) k.work_is
              ∙ (in_state old.core.desk a old.core.desk.state refl ∙ ap (λ d. work_of d.state) (sym p.1)));
          temp_is = ap (λ x. x.temp) rest ∙ k.temp_is;
          bytes_are = asked_holds es a file k.bytes_are;
        },
      )

  away_polled : (old new : Kept T) (a : Ask) (r : Result (Option ℕ) Error) → IsPolled old new a r
      → (w : Work) (file : T) → Away temp start w file old → Away temp start w file new
  away_polled old new a r (inl p) w file k = subst (Away temp start w file) (sym p.0) k
  away_polled old new a r (inr p) w file (es, k) =
      let rest = p.2 in
      let stays = busy_stays old.core.desk a w k.busy_is in (
        es ++ asks a ∷ [],
        record {
          seen_is = p.3 es k.seen_is;
          busy_is = ap (λ d. d.state) p.1 ∙ stays.state_is;
          work_is = ap (λ x. x.work) rest ∙ (stays.hands old.work ∙ k.work_is);
          temp_is = ap (λ x. x.temp) rest ∙ k.temp_is;
          bytes_are = asked_holds es a file k.bytes_are;
        },
      )

  pub poll_keeps : PollKeeps temp start
  poll_keeps old new a r p = (whole_polled old new a r p, away_polled old new a r p)

  pub take_brings : TakeBrings temp start
  take_brings k w p (es, file, whole) =
      let busy = busy_of k.core.desk.state w (sym whole.work_is ∙ p) in (
        file,
        subst (λ work. taken_out work k.temp ≡ Some file) (sym p) whole.temp_is,
        (
          es,
          record {
            seen_is = whole.seen_is;
            busy_is = busy;
            work_is = refl;
            temp_is = subst (λ work. left_after work k.temp ≡ None) (sym p) refl;
            bytes_are = whole.bytes_are;
          },
        ),
      )

  pub whole_holds : WholeHolds temp start
  whole_holds k (es, file, whole) = (file, (seen es).held, whole.temp_is, whole.seen_is.held, whole.bytes_are)

  -- known bytes are known afterwards
  appended : (old new : Option (List ℕ)) (known more : List ℕ) → old ≡ Some known → Appends old new more → new ≡ Some (known ++ more)
  appended old new known more p a = appended_to new known more (subst (λ x. Appends x new more) p a)

  kept : (old new : Option (List ℕ)) (known : List ℕ) → old ≡ Some known → Keeps old new → new ≡ Some known
  kept old new known p a = kept_as new known (subst (λ x. Keeps x new) p a)

  -- the core has no work out, and its file is back with so many bytes more
  back : (new : Kept T) (es : List Event) (s : Seen) (d : Desk) (more : List ℕ) (file : T) → HasSeen new.core es
      → seen es ≡ record { desk = d; held = s.held ++ more; answered = s.answered } → d.state ≡ Idle
      → new.work ≡ None → new.temp ≡ Some file → (temp file).bytes ≡ Some ((start ++ s.held) ++ more) → Whole temp start new
  back new es s d more file k p idle work at bytes = (
    es,
    file,
    record {
      seen_is = k;
      work_is = work ∙ ap work_of (sym (ap (λ x. x.state) k.desk ∙ (ap (λ x. x.desk.state) p ∙ idle)));
      temp_is = at;
      bytes_are = bytes ∙ (ap Some (append_assoc start s.held more) ∙ ap (λ x. Some (start ++ x.held)) (sym p));
    },
  )

  -- the core is closed, and its file gone
  gone : (new : Kept T) (es : List Event) (t : Seen) → HasSeen new.core es → seen es ≡ t → t.desk.state ≡ Closed
      → new.temp ≡ None → IsGone temp start new
  gone new es t k p closed at = (at, ap (λ x. x.state) k.desk ∙ (ap (λ x. x.desk.state) p ∙ closed))

  module _ (contents : T → Option (List ℕ)) (writes : T → ℕ → Result ℕ io.Error → T → Type 0) (removes : T → Result ⊤ Fault → Type 0)
      (agree : (file : T) → contents file ≡ (temp file).bytes) where
    flushed : (file after : T) (known : List ℕ) → (temp file).bytes ≡ Some known → Keeps (contents file) (contents after)
        → (temp after).bytes ≡ Some (known ++ [])
    flushed file after known p a =
        sym (agree after) ∙ (kept (contents file) (contents after) known (agree file ∙ p) a ∙ ap Some (sym (append-nil known)))

    wrote_back : (new : Kept T) (es : List Event) (s : Seen) (b : List ℕ) (n : ℕ) (t : Bool) (file : T) → t ≡ true → HasSeen new.core es
        → seen es ≡ after_ending s (if t then Some (wrote s.desk b (Ok n), take n b) else None)
        → new.work ≡ None → new.temp ≡ Some file → (temp file).bytes ≡ Some ((start ++ s.held) ++ take n b) → Whole temp start new
    wrote_back new es s b n true file u k p work at bytes = back new es s (wrote s.desk b (Ok n)) (take n b) file k p refl work at bytes
    wrote_back new es s b n false file u k p work at bytes = absurd (true_is_not_false u)

    restored : (new : Kept T) (es : List Event) (s : Seen) (w : Work) (c : Completion) (file : T) (after : Option T) → HasSeen new.core es
        → seen es ≡ after_ending s (ended s.desk (Busy w) c) → (temp file).bytes ≡ Some (start ++ s.held)
        → FitsWork w c → DoesWork temp contents writes removes w file after c → new.work ≡ None → new.temp ≡ after
        → Whole temp start new ⊎ IsGone temp start new
    restored new es s (Write b) (done.Wrote n) file (Some f) k p bytes fits does work at =
        inl (wrote_back new es s b n (nat_le n (length b)) f (reaches n (length b) fits) k p work at
        (appended (temp file).bytes (temp f).bytes (start ++ s.held) (take n b) bytes does.0))
    restored new es s (Write b) (done.Failed x) file (Some f) k p bytes fits does work at =
        inl (back new es s _ [] f k p refl work at
        (kept (temp file).bytes (temp f).bytes (start ++ s.held) bytes does.0 ∙ ap Some (sym (append-nil (start ++ s.held)))))
    restored new es s (Write b) done.Flushed file (Some f) k p bytes fits does work at = absurd fits
    restored new es s (Write b) done.Removed file (Some f) k p bytes fits does work at = absurd fits
    restored new es s (Write b) done.Gone file (Some f) k p bytes fits does work at = absurd fits
    restored new es s (Write b) c file None k p bytes fits does work at = absurd does
    restored new es s Flush done.Flushed file (Some f) k p bytes fits does work at =
        inl (back new es s _ [] f k p refl work at (flushed file f (start ++ s.held) bytes does))
    restored new es s Flush (done.Failed x) file (Some f) k p bytes fits does work at =
        inl (back new es s _ [] f k p refl work at (flushed file f (start ++ s.held) bytes does))
    restored new es s Flush (done.Wrote n) file (Some f) k p bytes fits does work at = absurd fits
    restored new es s Flush done.Removed file (Some f) k p bytes fits does work at = absurd fits
    restored new es s Flush done.Gone file (Some f) k p bytes fits does work at = absurd fits
    restored new es s Flush c file None k p bytes fits does work at = absurd does
    restored new es s Remove c file (Some f) k p bytes fits does work at = absurd does
    restored new es s Remove done.Removed file None k p bytes fits does work at = inr (gone new es _ k p refl at)
    restored new es s Remove (done.Failed x) file None k p bytes fits does work at = inr (gone new es _ k p refl at)
    restored new es s Remove (done.Wrote n) file None k p bytes fits does work at = absurd fits
    restored new es s Remove done.Flushed file None k p bytes fits does work at = absurd fits
    restored new es s Remove done.Gone file None k p bytes fits does work at = absurd fits

    pub end_restores : EndRestores temp start contents writes removes
    end_restores old new w file after c (es, away) did told at =
        let s = seen es in
        let state : s.desk.state ≡ Busy w = ap (λ x. x.state) (sym away.seen_is.desk) ∙ away.busy_is in
        restored new (es ++ ends c ∷ []) s w c file after (told.2 es away.seen_is)
        (seen-snoc es (ends c) ∙ ap (λ x. after_ending s (ended s.desk x c)) state)
        away.bytes_are did.0 did.1 told.0 at

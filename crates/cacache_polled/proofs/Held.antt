-- What is held is what was answered, followed by the bytes of at most one finished write, over every list of polls and
-- completions.
use Rattle.std.proofs.{Common.{◌≡◌, ℕ, List, [], ◌∷◌, ◌++◌, Option, Some, None, Result, Ok, Err, refl, sym, ◌∙◌, ap, subst, Bool, true, false, length, take, nat_le, arith, append-nil}, lemmas.{Slice.Eq.{bytes_eq-Decides}, Grind.{common_steps}}}
use Rattle.std.specs.Prelude.{IfNone, IfSome, IfOk, IsOk, ⊤, bytes_eq, if◌then◌else◌}
use Rattle.cacache_core.specs.declared.errors.{Error.{Error}, Fault.{Fault, TheVariants.{OtherBytes}}}
use Rattle.cacache_polled.specs.{declared.{kinds.{Desk.{Desk}, Polled.{Polled}, Completion.{Completion}, Work.TheVariants.{Write, Flush, Remove}, State.{State, TheVariants.{Idle, Busy, Closed}}, Finished.{Finished}}, writer_core.WriterCore.{WriterCore}}, Table.{Ask, fresh, polled, completed, ask_write, ask_flush, ask_close, write_idle, write_again, write_flushing, write_in, flush_idle, flush_in, close_closed, close_in, ended, wrote}, Events.{Seen, Event, asks, ends, happens, after_ending, follow, seen, Answered, Ended, HasHeld, HasSeen, taken_by, unanswered, bytes_taken}}
use Rattle.cacache_polled.specs.declared.kinds.Polled.TheVariants as polls
use Rattle.cacache_polled.specs.declared.kinds.Completion.TheVariants as done

follow-snoc : (s : Seen) (es : List Event) (e : Event) → follow s (es ++ e ∷ []) ≡ happens (follow s es) e
follow-snoc s [] e = refl
follow-snoc s (x ∷ es) e = follow-snoc (happens s x) es e

pub seen-snoc : (es : List Event) (e : Event) → seen (es ++ e ∷ []) ≡ happens (seen es) e
seen-snoc es e = follow-snoc (record { desk = fresh; held = []; answered = [] }) es e

-- the core has this desk and holds these bytes
record StandsAt (c : WriterCore) (s : Seen) : Type 0 where
  desk : c.desk ≡ s.desk
  held : HasHeld c s.held

stands : (c : WriterCore) (es : List Event) (e : Event) → StandsAt c (happens (seen es) e) → HasSeen c (es ++ e ∷ [])
stands c es e k =
    let at : StandsAt c (seen (es ++ e ∷ [])) = subst (StandsAt c) (sym (seen-snoc es e)) k in
    record { desk = at.desk; held = at.held }

pub polled_seen : (old new : WriterCore) (a : Ask) (es : List Event) → new.desk ≡ (polled old.desk a).0
    → new ≡ record old { desk = new.desk } → HasSeen old es → HasSeen new (es ++ asks a ∷ [])
polled_seen old new a es d r k = stands new es (asks a) (record {
  desk = d ∙ ap (λ x. (polled x a).0) k.desk;
  held = subst (λ c. HasHeld c (seen es).held) (sym r) k.held;
})

-- what a completion does to a core at s, by what the table says about it
ended_at : (old new : WriterCore) (c : Completion) (r : Result ⊤ Completion) (s : Seen) (t : Option (Desk × List ℕ)) → StandsAt old s
    → IfNone t ((r ≡ Err c) × (new ≡ old)) → IfSome t (λ d. IsOk r × (new.desk ≡ d.0))
    → IfSome t (λ d. (m : List ℕ) → HasHeld old m → HasHeld new (m ++ d.1))
    → StandsAt new (after_ending s t)
ended_at old new c r s None k same desk held = subst (λ c. StandsAt c s) (sym same.1) k
ended_at old new c r s (Some d) k same desk held = record { desk = desk.1; held = held s.held k.held }

pub ended_seen : (old new : WriterCore) (c : Completion) (r : Result ⊤ Completion) (es : List Event) → Ended old new c r
    → HasSeen old es → HasSeen new (es ++ ends c ∷ [])
ended_seen old new c r es e k =
    let at : StandsAt old (seen es) = record { desk = k.desk; held = k.held } in
    let there : StandsAt new (after_ending (seen es) (completed old.desk c)) =
    ended_at old new c r (seen es) (completed old.desk c) at e.refused e.desk e.held in
    stands new es (ends c) (subst (λ x. StandsAt new (after_ending (seen es) (completed x c))) k.desk there)

-- the same for a poll that may be refused for lack of memory
pub answered_seen : (old new : WriterCore) (a : Ask) (r : Result Polled Error) → Answered old new a r
    → IfOk r (λ _. (es : List Event) → HasSeen old es → HasSeen new (es ++ asks a ∷ []))
answered_seen old new a (Ok p) x = λ es k. polled_seen old new a es x.after x.held k
answered_seen old new a (Err e) x = tt

-- ---- what is held is what was answered

abbrev pub WritesAlone : State → Option Finished → Type 0
WritesAlone (Busy (Write b)) f = f ≡ None
WritesAlone (Busy Flush) f = ⊤
WritesAlone (Busy Remove) f = ⊤
WritesAlone Idle f = ⊤
WritesAlone Closed f = ⊤

pub record IsKept (d : Desk) (held answered : List ℕ) : Type 0 where
  pub held_is : held ≡ answered ++ unanswered d.finished
  pub alone : WritesAlone d.state d.finished

-- nothing more was answered, and the desk is as before
same : (d : Desk) (held answered : List ℕ) → IsKept d held answered → IsKept d held (answered ++ [])
same d held answered k = record { held_is = rw append-nil k.held_is; alone = k.alone }

resting : (d : Desk) (held answered b : List ℕ) (f : Option Finished) → d.state ≡ Idle → d.finished ≡ f → IsKept d held answered
    → IsKept (write_idle d b f).0 held (answered ++ taken_by (ask_write b) (write_idle d b f).1)
resting d held answered b (Some f) p e k =
    let is = bytes_eq-Decides f.bytes b in
    grind (arith, common_steps)
resting d held answered [] None p e k = grind (arith, common_steps)
resting d held answered (x ∷ b) None p e k = grind (arith, common_steps)

-- the answer is a fault or waits, whichever the test says
either_way : (d : Desk) (held answered b : List ℕ) (t : Bool) → IsKept d held answered
    → IsKept d held (answered ++ taken_by (ask_write b) (if t then polls.Pending else polls.Failed OtherBytes))
either_way d held answered b true k = same d held answered k
either_way d held answered b false k = same d held answered k

again : (d : Desk) (held answered out b : List ℕ) → IsKept d held answered → IsKept d held (answered ++ taken_by (ask_write b) (write_again out b))
again d held answered out b k = either_way d held answered b (bytes_eq out b) k

flushing : (d : Desk) (held answered b : List ℕ) (f : Option Finished) → IsKept d held answered
    → IsKept d held (answered ++ taken_by (ask_write b) (write_flushing b f))
flushing d held answered b (Some f) k = again d held answered f.bytes b k
flushing d held answered b None k = same d held answered k

write_kept : (d : Desk) (held answered b : List ℕ) (p : State) → d.state ≡ p → IsKept d held answered
    → IsKept (write_in d b p).0 held (answered ++ taken_by (ask_write b) (write_in d b p).1)
write_kept d held answered b Idle p k = resting d held answered b d.finished p refl k
write_kept d held answered b (Busy (Write w)) p k = again d held answered w b k
write_kept d held answered b (Busy Flush) p k = flushing d held answered b d.finished k
write_kept d held answered b (Busy Remove) p k = same d held answered k
write_kept d held answered b Closed p k = same d held answered k

flush_at_rest : (d : Desk) (held answered : List ℕ) (f : Option (Result ⊤ Fault)) → d.state ≡ Idle → IsKept d held answered
    → IsKept (flush_idle d f).0 held (answered ++ [])
flush_at_rest d held answered (Some f) p k = record { held_is = rw append-nil k.held_is; alone = k.alone }
flush_at_rest d held answered None p k = record { held_is = rw append-nil k.held_is; alone = tt }

flush_kept : (d : Desk) (held answered : List ℕ) (p : State) → d.state ≡ p → IsKept d held answered
    → IsKept (flush_in d p).0 held (answered ++ [])
flush_kept d held answered Idle p k = flush_at_rest d held answered d.flushed p k
flush_kept d held answered (Busy w) p k = same d held answered k
flush_kept d held answered Closed p k = same d held answered k

close_again : (d : Desk) (held answered : List ℕ) (f : Option Fault) → IsKept d held answered
    → IsKept (close_closed d f).0 held (answered ++ [])
close_again d held answered (Some f) k = record { held_is = rw append-nil k.held_is; alone = k.alone }
close_again d held answered None k = same d held answered k

close_kept : (d : Desk) (held answered : List ℕ) (p : State) → d.state ≡ p → IsKept d held answered
    → IsKept (close_in d p).0 held (answered ++ [])
close_kept d held answered Idle p k = record { held_is = rw append-nil k.held_is; alone = tt }
close_kept d held answered (Busy w) p k = same d held answered k
close_kept d held answered Closed p k = close_again d held answered d.kept k

pub polled_kept : (d : Desk) (held answered : List ℕ) (a : Ask) → IsKept d held answered
    → IsKept (polled d a).0 held (answered ++ taken_by a (polled d a).1)
polled_kept d held answered (ask_write b) k = write_kept d held answered b d.state refl k
polled_kept d held answered ask_flush k = flush_kept d held answered d.state refl k
polled_kept d held answered ask_close k = close_kept d held answered d.state refl k

abbrev IsKeptSeen : Seen → Type 0
IsKeptSeen r = IsKept r.desk r.held r.answered

-- a write is over: before it no write was finished
write_over : (r : Seen) (b : List ℕ) (t : Result ℕ Fault) → r.desk.state ≡ Busy (Write b) → IsKeptSeen r
    → IsKept (record (r.desk) { state = Idle; finished = Some (record { bytes = b; outcome = t }) }) (r.held ++ bytes_taken b t) r.answered
write_over r b t p k =
    let alone : r.desk.finished ≡ None = rw p at k.alone in
    let before : r.held ≡ r.answered = k.held_is ∙ (ap (λ f. r.answered ++ unanswered f) alone ∙ append-nil r.answered) in
    record { held_is = ap (λ h. h ++ bytes_taken b t) before; alone = tt }

-- the same bytes are held, and no write is out
no_more : (r : Seen) (d : Desk) → unanswered d.finished ≡ unanswered r.desk.finished → WritesAlone d.state d.finished → IsKeptSeen r → IsKept d (r.held ++ []) r.answered
no_more r d e a k = record { held_is = rw (append-nil, e) k.held_is; alone = a }

wrote_kept : (r : Seen) (b : List ℕ) (n : ℕ) (t : Bool) → r.desk.state ≡ Busy (Write b) → IsKeptSeen r
    → IsKeptSeen (after_ending r (if t then Some (wrote r.desk b (Ok n), take n b) else None))
wrote_kept r b n true p k = write_over r b (Ok n) p k
wrote_kept r b n false p k = k

ended_kept : (r : Seen) (p : State) (e : Completion) → r.desk.state ≡ p → IsKeptSeen r → IsKeptSeen (after_ending r (ended r.desk p e))
ended_kept r Idle e p k = k
ended_kept r Closed e p k = k
ended_kept r (Busy (Write b)) (done.Wrote n) p k = wrote_kept r b n (nat_le n (length b)) p k
ended_kept r (Busy (Write b)) (done.Failed f) p k = write_over r b (Err f) p k
ended_kept r (Busy (Write b)) done.Flushed p k = k
ended_kept r (Busy (Write b)) done.Removed p k = k
ended_kept r (Busy (Write b)) done.Gone p k = no_more r _ refl tt k
ended_kept r (Busy Flush) (done.Wrote n) p k = k
ended_kept r (Busy Flush) (done.Failed f) p k = no_more r _ refl tt k
ended_kept r (Busy Flush) done.Flushed p k = no_more r _ refl tt k
ended_kept r (Busy Flush) done.Removed p k = k
ended_kept r (Busy Flush) done.Gone p k = no_more r _ refl tt k
ended_kept r (Busy Remove) (done.Wrote n) p k = k
ended_kept r (Busy Remove) (done.Failed f) p k = no_more r _ refl tt k
ended_kept r (Busy Remove) done.Flushed p k = k
ended_kept r (Busy Remove) done.Removed p k = no_more r _ refl tt k
ended_kept r (Busy Remove) done.Gone p k = no_more r _ refl tt k

happens_kept : (r : Seen) (e : Event) → IsKeptSeen r → IsKeptSeen (happens r e)
happens_kept r (asks a) k = polled_kept r.desk r.held r.answered a k
happens_kept r (ends e) k = ended_kept r r.desk.state e refl k

follow_kept : (r : Seen) (es : List Event) → IsKeptSeen r → IsKeptSeen (follow r es)
follow_kept r [] k = k
follow_kept r (e ∷ es) k = follow_kept (happens r e) es (happens_kept r e k)

pub seen_kept : (es : List Event) → IsKeptSeen (seen es)
seen_kept es = follow_kept (record { desk = fresh; held = []; answered = [] }) es (record { held_is = refl; alone = tt })

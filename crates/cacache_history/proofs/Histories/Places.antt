-- Places of a history: each move is of a call, each turn is a move, and the turns of a call are a run of it.
use Rattle.std.proofs.{Common.{rules, ◌≡◌, ◌⊎◌, inl, inr, ◌≤◌, ◌+◌, ◌-◌, ◌==◌, ℕ, zero, suc, Bool, true, false, cond, eqb-true, List, [], ◌∷◌, ◌++◌, Option, None, Some, option_map, take, drop, refl, sym, ap, subst, ◌∙◌, arith, append_assoc, append-nil}, lemmas.Grind.{common_steps}}
use Rattle.std.specs.Prelude.{slice_get}
use Rattle.cacache_history.specs.{declared.record.Record.{Record, TheVariants.{Began, Moved, Stopped}}, History.{History, Call, Turn, Made, turn_of, call_after, unless_over, moved_call, now_after, now_at, replayed, initial, IsLegal, Reaches, Now, Ends, MayMove}, Turns.{EachTurn, TurnAt, TurnsAreMoves, made_in, CallsAreRuns}, Places.{now_before, MoveAt, TurnIn, TurnsAreOwn, MovesAreOfCalls}, Setup.{call_site}}
use Rattle.cacache_history.proofs.{Histories.Holding.{set_at, ended_at, replay_more, legal_after, CallHolds, of_caller, moved_holds, held_at}, Each.{each_join, each_weaker}}
use Rattle.cacache_disk.specs.declared.luck.Luck.{Luck}
use Rattle.cacache_calls.{specs.{declared.reply.Reply.{Reply}, Table.{opening}, Runs.{Runs, plain_reply}}, proofs.Going.{goes_over, goes_lost}}
use Rattle.cacache_core.specs.declared.errors.Error.TheVariants.{OutOfMemory}
use Rattle.cacache_calls.specs.declared.reply.Reply.TheVariants as replies

-- ---- lists of records

-- the records up to a place, and from there on
pub record SplitAt (rs : List Record) (n : ℕ) (r : Record) : Type 0 where
  pub all : rs ≡ take n rs ++ r ∷ drop (suc n) rs
  pub next : take (suc n) rs ≡ take n rs ++ r ∷ []

pub split_at : (rs : List Record) (n : ℕ) (r : Record) → slice_get rs n ≡ Some r → SplitAt rs n r
split_at [] n r e = absurd cc
split_at (q ∷ rs) zero r e =
    let same : q ≡ r = cc in
    record { all = ap (λ x. x ∷ rs) same; next = ap (λ x. x ∷ []) same }
split_at (q ∷ rs) (suc n) r e =
    let more = split_at rs n r e in
    record { all = ap (λ x. q ∷ x) more.all; next = ap (λ x. q ∷ x) more.next }

-- there is a record at a place, or the place lies after the last one
pub at_place : (rs : List Record) (n : ℕ) → ((r : Record) × (slice_get rs n ≡ Some r)) ⊎ (take (suc n) rs ≡ take n rs)
at_place [] zero = inr refl
at_place [] (suc n) = inr refl
at_place (q ∷ rs) zero = inl (q, refl)
at_place (q ∷ rs) (suc n) = elim (at_place rs n) [
  | inl here ↦ inl here
  | inr none ↦ inr (ap (λ x. q ∷ x) none)
]

-- the tree and the calls after the record at a place
pub after_place : (h : History) (n : ℕ) (r : Record) → slice_get h.records n ≡ Some r → now_before h (suc n) ≡ now_after h.setup (now_before h n) r
after_place h n r e =
    ap (replayed h.setup (initial h.setup)) (split_at h.records n r e).next ∙ replay_more h.setup (initial h.setup) (take n h.records) (r ∷ [])

-- ---- moves are of calls

pub moves_are_of_calls : (h : History) → IsLegal h → MovesAreOfCalls h
moves_are_of_calls h legal place caller move =
    let is = (split_at h.records place (Moved caller move.luck move.made move.reply) move.is).all in
    let may = (legal_after h legal (take place h.records) (Moved caller move.luck move.made move.reply ∷ drop (suc place) h.records) is).0 in
    record {
      call = may.0;
      is = may.1;
      reaches = record {
        before = take place h.records;
        later = drop (suc place) h.records;
        caller = caller;
        luck = move.luck;
        made = move.made;
        is = is;
        stands = ap (option_map (call_after (now_before h place).tree move.luck move.made)) may.1;
      };
    }

-- ---- turns are a caller's own

module _ (h : History) (m caller : ℕ) where
  -- the turns of a call, up to a place
  abbrev OwnUpTo : ℕ → Option Call → Type 0
  OwnUpTo n None = Unit {0}
  OwnUpTo n (Some call) = EachTurn (TurnIn h m n caller) call.turns

  turn_later : (n l : ℕ) → n ≤ l → (turn : Turn) → TurnIn h m n caller turn → TurnIn h m l caller turn
  turn_later n l le turn t = record { place = t.place; from = t.from; to = omega (arith, t.to, le); move = t.move; made = t.made; made_is = t.made_is; turn_is = t.turn_is }

  later : (n l : ℕ) → n ≤ l → (o : Option Call) → OwnUpTo n o → OwnUpTo l o
  later n l le None own = tt
  later n l le (Some call) own = each_weaker (TurnIn h m n caller) (TurnIn h m l caller) (turn_later n l le) call.turns own

  -- after a move of the caller
  moved_own : (n : ℕ) → m ≤ n → (move : MoveAt h n caller) (made : Option Made) → move.made ≡ made → (o : Option Call) → OwnUpTo n o
      → OwnUpTo (suc n) (option_map (call_after (now_before h n).tree move.luck made) o)
  moved_own n from move made is None own = tt
  moved_own n from move None is (Some call) own = later n (suc n) (omega arith) (Some call) own
  moved_own n from move (Some made) is (Some call) own =
      each_join (TurnIn h m (suc n) caller) call.turns (turn_of (now_before h n).tree move.luck made ∷ []) (later n (suc n) (omega arith) (Some call) own)
      (record { place = n; from = from; to = omega arith; move = move; made = made; made_is = is; turn_is = refl }, tt)

  -- after any record
  next_own : (n : ℕ) → m ≤ n → (r : Record) → slice_get h.records n ≡ Some r → OwnUpTo n ((now_before h n).calls caller)
      → OwnUpTo (suc n) ((now_after h.setup (now_before h n) r).calls caller)
  next_own n from (Began c command) is own = search (rules, set_at, later)
  next_own n from (Stopped c) is own = set_at (OwnUpTo (suc n)) (caller == c) None ((now_before h n).calls caller) tt (later n (suc n) (omega arith) _ own)
  next_own n from (Moved c luck made reply) is own = by (caller == c) refl
    where
      by : (b : Bool) → (caller == c) ≡ b → OwnUpTo (suc n) (cond b (unless_over reply (moved_call (now_before h n) c luck made)) ((now_before h n).calls caller))
      by false e = later n (suc n) (omega arith) ((now_before h n).calls caller) own
      by true e =
          let same : c ≡ caller = sym (eqb-true caller c e) in
          ended_at (OwnUpTo (suc n)) tt reply (moved_call (now_before h n) c luck made)
          (subst (λ k. OwnUpTo (suc n) (moved_call (now_before h n) k luck made)) (sym same)
          (moved_own n from (record { luck = luck; made = made; reply = reply; is = is ∙ ap (λ k. Some (Moved k luck made reply)) same }) made refl ((now_before h n).calls caller) own))

  -- from a place where the caller has no call
  own_at : (now_before h m).calls caller ≡ None → (k : ℕ) → OwnUpTo (m + k) ((now_before h (m + k)).calls caller)
  own_at idle zero = let same : m ≡ m + 0 = omega arith in subst (λ n. OwnUpTo n ((now_before h n).calls caller)) same (subst (OwnUpTo m) (sym idle) tt)
  own_at idle (suc k) =
      let same : suc (m + k) ≡ m + suc k = omega arith in
      subst (λ n. OwnUpTo n ((now_before h n).calls caller)) same
      (elim (at_place h.records (m + k)) [
        | inl here ↦ subst (λ w. OwnUpTo (suc (m + k)) (w.calls caller)) (sym (after_place h (m + k) here.0 here.1)) (next_own (m + k) (omega arith) here.0 here.1 (own_at idle k))
        | inr none ↦ subst (λ rs. OwnUpTo (suc (m + k)) ((now_at h rs).calls caller)) (sym none) (later (m + k) (suc (m + k)) (omega arith) _ (own_at idle k))
      ])

pub turns_are_own : (h : History) → TurnsAreOwn h
turns_are_own h m n caller call reply c =
    let k = c.place - m in
    let at : m + k ≡ c.place = omega (arith, c.from) in
    let own : OwnUpTo h m caller c.place ((now_before h c.place).calls caller) = subst (λ p. OwnUpTo h m caller p ((now_before h p).calls caller)) at (own_at h m caller c.idle k) in
    later h m caller (suc c.place) n (omega (arith, c.to)) (Some call)
    (subst (OwnUpTo h m caller (suc c.place)) c.stands (moved_own h m caller c.place c.from c.move c.move.made refl ((now_before h c.place).calls caller) own))

-- ---- each turn of a call is a move of the history

abbrev TurnsAt : History → Option Call → Type 0
TurnsAt h None = Unit {0}
TurnsAt h (Some call) = EachTurn (TurnAt h) call.turns

module _ (h : History) where
  moved_stands : (past later : List Record) (caller : ℕ) (luck : Luck) (made : Option Made) (reply : Option Reply) (o : Option Call)
      → h.records ≡ past ++ Moved caller luck made reply ∷ later → TurnsAt h o → TurnsAt h (option_map (call_after (now_at h past).tree luck made) o)
  moved_stands past later caller luck made reply o is a = grind (arith, each_join)

  next_stands : (past later : List Record) (r : Record) → h.records ≡ past ++ r ∷ later → ((k : ℕ) → TurnsAt h ((now_at h past).calls k))
      → (k : ℕ) → TurnsAt h ((now_after h.setup (now_at h past) r).calls k)
  next_stands past later (Began caller command) is a k = search (rules, set_at)
  next_stands past later (Moved caller luck made reply) is a k =
      set_at (TurnsAt h) (k == caller) (unless_over reply (moved_call (now_at h past) caller luck made)) ((now_at h past).calls k)
      (ended_at (TurnsAt h) tt reply _ (moved_stands past later caller luck made reply ((now_at h past).calls caller) is (a caller))) (a k)
  next_stands past later (Stopped caller) is a k = set_at (TurnsAt h) (k == caller) None ((now_at h past).calls k) tt (a k)

  calls_stand : (past todo later : List Record) → h.records ≡ past ++ (todo ++ later) → ((k : ℕ) → TurnsAt h ((now_at h past).calls k))
      → (k : ℕ) → TurnsAt h ((now_at h (past ++ todo)).calls k)
  calls_stand past [] later is a k = subst (λ p. TurnsAt h ((now_at h p).calls k)) (sym (append-nil past)) (a k)
  calls_stand past (r ∷ todo) later is a k =
      subst (λ p. TurnsAt h ((now_at h p).calls k)) (append_assoc past (r ∷ []) todo)
      (calls_stand (past ++ r ∷ []) todo later (is ∙ sym (append_assoc past (r ∷ []) (todo ++ later)))
      (λ j. subst (λ w. TurnsAt h (w.calls j)) (sym (replay_more h.setup (initial h.setup) past (r ∷ []))) (next_stands past (todo ++ later) r is a j)) k)

  -- of each call that the history reaches
  pub reached_turns : (call : Call) (reply : Option Reply) → Reaches h call reply → EachTurn (TurnAt h) call.turns
  reached_turns call reply r =
      subst (TurnsAt h) r.stands
      (moved_stands r.before r.later r.caller r.luck r.made reply ((now_at h r.before).calls r.caller) r.is
      (calls_stand [] r.before (Moved r.caller r.luck r.made reply ∷ r.later) r.is (λ k. tt) r.caller))

pub turns_are_moves : (h : History) → TurnsAreMoves h
turns_are_moves h = reached_turns h

-- ---- the turns of a call that moved are a run of it

-- what holds of a call that a history reaches, and how it ends
pub record Reached (h : History) (call : Call) (reply : Option Reply) : Type 0 where
  pub holds : CallHolds h.setup call
  pub ends : Ends call.state reply

move_ends : (w : Now) (luck : Luck) (made : Option Made) (reply : Option Reply) (old : Call) → MayMove w.tree old.state luck made reply → Ends (call_after w.tree luck made old).state reply
move_ends w luck made reply old may = grind (arith, common_steps)

pub reached : (h : History) → IsLegal h → (call : Call) (reply : Option Reply) → Reaches h call reply → Reached h call reply
reached h legal call reply r =
    let w = now_at h r.before in
    let may = (legal_after h legal r.before (Moved r.caller r.luck r.made reply ∷ r.later) r.is).0 in
    let all = held_at h legal r.before (Moved r.caller r.luck r.made reply ∷ r.later) r.is in
    let same : call_after (now_at h r.before).tree r.luck r.made may.0 ≡ call
    = (let some : Some (call_after (now_at h r.before).tree r.luck r.made may.0) ≡ Some call = sym (ap (option_map (call_after (now_at h r.before).tree r.luck r.made)) may.1) ∙ r.stands in cc) in
    subst (λ c. Reached h c reply) same (record {
      holds = moved_holds h.setup (now_at h r.before) all r.luck r.made reply may.0 (of_caller h.setup may.0 _ may.1 (all.calls r.caller)) may.2;
      ends = move_ends (now_at h r.before) r.luck r.made reply may.0 may.2;
    })

-- a call that is over made a run with its reply
pub reply_run : (h : History) (call : Call) (r : Reply) → Reached h call (Some r)
    → (r ≡ replies.Refused OutOfMemory) ⊎ Runs (opening (call_site h.setup call.number) call.command) (made_in call.turns) (plain_reply r)
reply_run h call r x = search (rules, goes_over)

pub calls_are_runs : (h : History) → IsLegal h → CallsAreRuns h
calls_are_runs h legal call r reaches = reply_run h call r (reached h legal call (Some r) reaches)

-- every call made a run that out of memory may end
pub lost_run : (h : History) (call : Call) (reply : Option Reply) → Reached h call reply
    → Runs (opening (call_site h.setup call.number) call.command) (made_in call.turns) (replies.Refused OutOfMemory)
lost_run h call reply x = goes_lost (opening (call_site h.setup call.number) call.command) (made_in call.turns) call.state x.holds.goes

-- without its message, a reply is out of memory only if it was
pub memory_plain : (r : Reply) → plain_reply r ≡ replies.Refused OutOfMemory → r ≡ replies.Refused OutOfMemory
memory_plain r e = grind (arith, common_steps)

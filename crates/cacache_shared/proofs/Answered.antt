-- Each reply of a caller was given to the command that it began last, since a call that is over has one reply.
use Rattle.std.proofs.{Common.{◌≡◌, inl, inr, ℕ, ◌==◌, List, [], ◌∷◌, ◌++◌, take, drop, Option, None, Some, option_map, Bool, true, false, refl, sym, ap, subst, ◌∙◌, append_assoc, arith}, lemmas.{Bool.{eqb-true, Decides.{nat_tests}}, List.{take-append-drop}}}
use Rattle.std.specs.Prelude.{filter_map, map}
use Rattle.cacache_disk.specs.{declared.luck.Luck.{Luck}, Tree.{Tree}}
use Rattle.cacache_calls.{specs.{declared.{command.Command.{Command}, reply.Reply.{Reply}}, Promises.{Answers}, Runs.{plain_reply}}, proofs.Promises.{calls_answer}}
use Rattle.cacache_history.specs.{declared.record.Record.{Record, TheVariants.{Began, Moved, Stopped}}, Setup.{Setup, call_site}, History.{History, Call, Made, Now, IsLegal, Reaches, call_after, initial, new_call, now_after, now_at, moved_call, unless_over, set_call}, Turns.{made_in}}
use Rattle.cacache_history.proofs.Histories.{Holding.{legal_after, replay_more}, Places.{calls_are_runs}}
use Rattle.cacache_threads.specs.Said.{said_command, said_reply}
use Rattle.cacache_shared.specs.{Lines.{caller_of, commands_of, replies_of}, Answered.{own_reply, answered_in, IsGiven, AreAnswered, SeatsAreAnswered}}
use Rattle.cacache_shared.proofs.SaidAnswers.{said_answers}

-- the replies among what was answered
abbrev replies_in : List (Command × Option Reply) → List Reply
replies_in = filter_map (λ a. a.1)

-- the commands that were answered are those that the caller began
pub began_these : (caller : ℕ) (records : List Record) → map said_command (commands_of caller records) ≡ map (λ a. a.0) (answered_in caller records)
began_these caller [] = refl
began_these caller (Began c command ∷ records) = by (c == caller) refl (began_these caller records)
  where
    by : (b : Bool) → (c == caller) ≡ b → map said_command (commands_of caller records) ≡ map (λ a. a.0) (answered_in caller records)
        → map said_command (commands_of caller (Began c command ∷ records)) ≡ map (λ a. a.0) (answered_in caller (Began c command ∷ records))
    by true same more = rw same (ap (λ (l : List Command). said_command command ∷ l) more)
    by false other more = rw other more
began_these caller (Moved c luck made reply ∷ records) = began_these caller records
began_these caller (Stopped c ∷ records) = began_these caller records

-- what these records answer a caller that has this call, or none, before them
abbrev answers_from : ℕ → Option Call → List Record → List (Command × Option Reply)
answers_from caller None records = answered_in caller records
answers_from caller (Some call) records = (said_command call.command, option_map said_reply (own_reply caller records)) ∷ answered_in caller records

record GoOn (h : History) (caller : ℕ) (records : List Record) (own : Option Call) : Type 0 where
  replies : map said_reply (replies_of caller records) ≡ replies_in (answers_from caller own records)
  given : AreAnswered h (answers_from caller own records)

-- a record of another caller answers this one nothing
others : (h : History) (caller : ℕ) (r : Record) (records : List Record) (own : Option Call)
    → (caller_of r == caller) ≡ false → GoOn h caller records own → GoOn h caller (r ∷ records) own
others h caller (Began c command) records None other more = record { replies = rw other more.replies; given = rw other more.given }
others h caller (Began c command) records (Some call) other more = record { replies = rw other more.replies; given = rw other more.given }
others h caller (Moved c luck made reply) records None other more = record { replies = rw other more.replies; given = more.given }
others h caller (Moved c luck made reply) records (Some call) other more = record { replies = rw other more.replies; given = rw other more.given }
others h caller (Stopped c) records None other more = record { replies = more.replies; given = more.given }
others h caller (Stopped c) records (Some call) other more = record { replies = rw other more.replies; given = rw other more.given }

-- ---- a record of the caller's own

begins : (h : History) (caller c : ℕ) (command : Command) (records : List Record) (call : Call)
    → (c == caller) ≡ true → call.command ≡ command → GoOn h caller records (Some call) → GoOn h caller (Began c command ∷ records) None
begins h caller c command records call same is more =
    let answers : answers_from caller None (Began c command ∷ records) ≡ answers_from caller (Some call) records
    = rw same (ap (λ k. (said_command k, option_map said_reply (own_reply caller records)) ∷ answered_in caller records) (sym is)) in
    record {
      replies = more.replies ∙ ap replies_in (sym answers);
      given = subst (AreAnswered h) (sym answers) more.given;
    }

stops : (h : History) (caller c : ℕ) (records : List Record) (call : Call)
    → (c == caller) ≡ true → GoOn h caller records None → GoOn h caller (Stopped c ∷ records) (Some call)
stops h caller c records call same more =
    let answers : answers_from caller (Some call) (Stopped c ∷ records) ≡ (said_command call.command, None) ∷ answered_in caller records
    = rw same refl in
    record {
      replies = more.replies ∙ ap replies_in (sym answers);
      given = subst (AreAnswered h) (sym answers) (tt, more.given);
    }

goes_on : (h : History) (caller c : ℕ) (luck : Luck) (made : Option Made) (records : List Record) (call after : Call)
    → (c == caller) ≡ true → after.command ≡ call.command → GoOn h caller records (Some after)
    → GoOn h caller (Moved c luck made None ∷ records) (Some call)
goes_on h caller c luck made records call after same is more =
    let answers : answers_from caller (Some call) (Moved c luck made None ∷ records) ≡ answers_from caller (Some after) records
    = rw same (ap (λ k. (said_command k, option_map said_reply (own_reply caller records)) ∷ answered_in caller records) (sym is)) in
    let told : map said_reply (replies_of caller (Moved c luck made None ∷ records)) ≡ map said_reply (replies_of caller records)
    = rw same refl in
    record {
      replies = told ∙ more.replies ∙ ap replies_in (sym answers);
      given = subst (AreAnswered h) (sym answers) more.given;
    }

ends : (h : History) (caller c : ℕ) (luck : Luck) (made : Option Made) (reply : Reply) (records : List Record) (call : Call)
    → (c == caller) ≡ true → IsGiven h (said_command call.command) (said_reply reply) → GoOn h caller records None
    → GoOn h caller (Moved c luck made (Some reply) ∷ records) (Some call)
ends h caller c luck made reply records call same given more =
    let answers : answers_from caller (Some call) (Moved c luck made (Some reply) ∷ records)
    ≡ (said_command call.command, Some (said_reply reply)) ∷ answered_in caller records
    = rw same refl in
    let told : map said_reply (replies_of caller (Moved c luck made (Some reply) ∷ records)) ≡ said_reply reply ∷ map said_reply (replies_of caller records)
    = rw same refl in
    record {
      replies = told ∙ ap (λ (l : List Reply). said_reply reply ∷ l) more.replies ∙ ap replies_in (sym answers);
      given = subst (AreAnswered h) (sym answers) (given, more.given);
    }

-- ---- the records of a legal history

pub same_command : (t : Tree) (luck : Luck) (made : Option Made) (call : Call) → (call_after t luck made call).command ≡ call.command
same_command t luck None call = refl
same_command t luck (Some made) call = refl

turned : (a b : ℕ) (t : Bool) → (a == b) ≡ t → (b == a) ≡ t
turned a b t e = grind (arith, nat_tests, e)

-- the calls after a record of this caller, or of another one
set_own : (caller c : ℕ) (new : Option Call) (calls : ℕ → Option Call) → (c == caller) ≡ true → set_call c new calls caller ≡ new
set_own caller c new calls same = let own = turned c caller true same in rw own refl

set_other : (caller c : ℕ) (new : Option Call) (calls : ℕ → Option Call) → (c == caller) ≡ false → set_call c new calls caller ≡ calls caller
set_other caller c new calls other = let not_own = turned c caller false other in rw not_own refl

kept_other : (s : Setup) (caller : ℕ) (w : Now) (r : Record) → (caller_of r == caller) ≡ false → (now_after s w r).calls caller ≡ w.calls caller
kept_other s caller w (Began c command) other = set_other caller c (Some (new_call s w.begun command)) w.calls other
kept_other s caller w (Moved c luck made reply) other = set_other caller c (unless_over reply (moved_call w c luck made)) w.calls other
kept_other s caller w (Stopped c) other = set_other caller c None w.calls other

module _ (h : History) (legal : IsLegal h) (caller : ℕ) where
  -- a call that a move ends was given its reply
  is_given : (before records : List Record) (c : ℕ) (luck : Luck) (made : Option Made) (reply : Reply) (call : Call)
      → h.records ≡ before ++ Moved c luck made (Some reply) ∷ records
      → (now_at h before).calls c ≡ Some call → IsGiven h (said_command call.command) (said_reply reply)
  is_given before records c luck made reply call is has =
      let last : Call = call_after (now_at h before).tree luck made call in
      let reaches : Reaches h last (Some reply) = record {
        before = before;
        later = records;
        caller = c;
        luck = luck;
        made = made;
        is = is;
        stands = ap (option_map (call_after (now_at h before).tree luck made)) has;
      } in
      let same : last.command ≡ call.command = same_command (now_at h before).tree luck made call in
      record {
        call = last;
        own = reply;
        command_is = ap said_command (sym same);
        reply_is = refl;
        reaches = reaches;
        answers = elim (calls_are_runs h legal last reply reaches) [
          | inl lost ↦ inl (ap said_reply lost)
          | inr run ↦ inr (said_answers (call_site h.setup last.number) call.command reply
              (subst (λ k. Answers (call_site h.setup last.number) k (plain_reply reply)) same
              (calls_answer (call_site h.setup last.number) last.command (made_in last.turns) (plain_reply reply) run)))
        ];
      }

  -- what the later records answer, after this one
  abbrev Later : List Record → Record → List Record → Type 0
  Later before r records =
      (own : Option Call) → (now_after h.setup (now_at h before) r).calls caller ≡ own → GoOn h caller records own

  mine : (before records : List Record) (r : Record) → h.records ≡ before ++ r ∷ records → (caller_of r == caller) ≡ true
      → (own : Option Call) → (now_at h before).calls caller ≡ own → Later before r records → GoOn h caller (r ∷ records) own
  mine before records (Began c command) is same None has later =
      begins h caller c command records (new_call h.setup (now_at h before).begun command) same refl
      (later (Some (new_call h.setup (now_at h before).begun command)) (set_own caller c _ (now_at h before).calls same))
  mine before records (Began c command) is same (Some call) has later =
      let idle = (legal_after h legal before (Began c command ∷ records) is).0.1 in
      let no : None ≡ Some call = sym idle ∙ ap (now_at h before).calls (eqb-true c caller same) ∙ has in absurd cc
  mine before records (Moved c luck made None) is same (Some call) has later =
      let own : (now_at h before).calls c ≡ Some call = ap (now_at h before).calls (eqb-true c caller same) ∙ has in
      goes_on h caller c luck made records call (call_after (now_at h before).tree luck made call) same
      (same_command (now_at h before).tree luck made call)
      (later (Some (call_after (now_at h before).tree luck made call))
      (set_own caller c _ (now_at h before).calls same ∙ ap (option_map (call_after (now_at h before).tree luck made)) own))
  mine before records (Moved c luck made (Some reply)) is same (Some call) has later =
      let own : (now_at h before).calls c ≡ Some call = ap (now_at h before).calls (eqb-true c caller same) ∙ has in
      ends h caller c luck made reply records call same (is_given before records c luck made reply call is own)
      (later None (set_own caller c None (now_at h before).calls same))
  mine before records (Moved c luck made reply) is same None has later =
      let may = (legal_after h legal before (Moved c luck made reply ∷ records) is).0 in
      let no : None ≡ Some may.0 = sym has ∙ ap (now_at h before).calls (sym (eqb-true c caller same)) ∙ may.1 in absurd cc
  mine before records (Stopped c) is same (Some call) has later =
      stops h caller c records call same (later None (set_own caller c None (now_at h before).calls same))
  mine before records (Stopped c) is same None has later =
      let may = (legal_after h legal before (Stopped c ∷ records) is).0 in
      let no : None ≡ Some may.0 = sym has ∙ ap (now_at h before).calls (sym (eqb-true c caller same)) ∙ may.1 in absurd cc

  goes : (before records : List Record) → h.records ≡ before ++ records → (own : Option Call)
      → (now_at h before).calls caller ≡ own → GoOn h caller records own
  goes before [] is None has = record { replies = refl; given = tt }
  goes before [] is (Some call) has = record { replies = refl; given = (tt, tt) }
  goes before (r ∷ records) is own has =
      by (caller_of r == caller) refl (λ own has. goes (before ++ r ∷ []) records (is ∙ sym (append_assoc before (r ∷ []) records)) own
      (ap (λ w. w.calls caller) (replay_more h.setup (initial h.setup) before (r ∷ [])) ∙ has))
    where
      by : (b : Bool) → (caller_of r == caller) ≡ b → Later before r records → GoOn h caller (r ∷ records) own
      by true same later = mine before records r is same own has later
      by false other later = others h caller r records own other (later own (kept_other h.setup caller (now_at h before) r other ∙ has))

-- ---- of a seat

pub seats_are_answered : SeatsAreAnswered
seats_are_answered h from seat legal agrees idle =
    let all = goes h legal seat.caller (take from h.records) (drop from h.records) (sym (take-append-drop from h.records)) None idle in
    record {
      answered = answered_in seat.caller (drop from h.records);
      commands = agrees.commands ∙ began_these seat.caller (drop from h.records);
      replies = agrees.replies ∙ all.replies;
      given = all.given;
    }

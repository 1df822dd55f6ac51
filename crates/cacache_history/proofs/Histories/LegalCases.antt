-- What may come in a legal history, case by case, and one history.
use Rattle.std.proofs.{lemmas.Grind.{common_steps}, Common.{rules, ◌≡◌, ◌⊎◌, inl, inr, ℕ, List, [], ◌∷◌, ◌++◌, Option, None, Some, Result, Ok, refl, sym, ap, subst, ◌∙◌, codes, arith}}
use Rattle.sha1.specs.Sha1.{sha1}
use Rattle.cacache_core.specs.declared.errors.{Fault.{Fault}, Error.TheVariants.{OutOfMemory}}
use Rattle.cacache_core.specs.declared.errors.Fault.TheVariants as faults
use Rattle.cacache_store.specs.declared.store.step.Step.TheVariants as steps
use Rattle.cacache_store.specs.declared.store.answer.Answer.TheVariants as answers
use Rattle.cacache_store.specs.Plain.{Fits, PlainStep, PlainAnswer}
use Rattle.cacache_disk.specs.{declared.luck.Luck.{Luck}, Tree.{Tree, bare}, LedTo.{file_at}, Apply.{unless}}
use Rattle.cacache_entry.specs.{Entry.{Entry}, Bucket.{Found}}
use Rattle.cacache_calls.specs.{declared.{answers.Refusal.{Refusal}, reply.Reply.{Reply, TheVariants.{LookedUp, Refused}}, carried.Lookup.{Lookup}}, Answers.{bytes_in}, Common.{go_on}, Reading.{found_in, after_bucket, no_bucket}, Steps.{bucket_path}, Replies.{find_reply, bucket_shown, entries_shown}, Runs.{plain_reply}, State.{State, over}, Table.{wants, after}}
use Rattle.cacache_calls.specs.declared.command.Command.TheVariants as commands
use Rattle.cacache_calls.specs.declared.carried.Aim.TheVariants as aims
use Rattle.cacache_value.{specs.{Acts.{list_of}, Value.{Value}}, proofs.Shows.{apply_answer}}
use Rattle.cacache_history.specs.{declared.record.Record.{Record, TheVariants.{Began, Moved, Stopped}}, Setup.{Setup}, History.{History, Turn, Call, Made, new_call, turn_of, call_after, now_at, Ends, MayMove, MayCome, IsLegal, Reaches}, Turns.{entries_at, shown_result, bucket_read}, TurnReplies.{FindsHeld, ReadsValue}, LegalCases.{Comes, call_at, StepCases, BusyCases, IdleCases, BeginCases, CasesHold, lookup_made, lookup_alone, LookupCases}}
use Rattle.cacache_history.proofs.Histories.{Holding.{first_opens, legal_after}, TurnReplies.{replies_read_value}}

may_come : (h : History) → IsLegal h → (before : List Record) (r : Record) → Comes h before r → MayCome h.setup (now_at h before) r
may_come h legal before r comes = (legal_after h legal before (r ∷ comes.0) comes.1).0

same_call : (o : Option Call) (a b : Call) → o ≡ Some a → o ≡ Some b → a ≡ b
same_call o a b e f = let some : Some a ≡ Some b = sym e ∙ f in cc

not_two : (o : Option Call) (call : Call) → o ≡ None → o ≡ Some call → ⊥
not_two o call e f = let none : None ≡ Some call = sym e ∙ f in absurd cc

-- ---- how a move ends

not_over : (s : State) (own : Reply) → s ≡ over own → Ends s None → ⊥
not_over s own is e = let none : None ≡ Some e.0 = sym (ap wants is) ∙ e.1 in absurd cc

own_reply : (s : State) (own r : Reply) → s ≡ over own → Ends s (Some r) → (plain_reply r ≡ own) ⊎ (r ≡ Refused OutOfMemory)
own_reply s own r is h = grind (arith, common_steps)

too_early : (s : State) (more : PlainStep) (r : Reply) → wants s ≡ Some more → Ends s (Some r) → r ≡ Refused OutOfMemory
too_early s more r is h = grind (arith, common_steps)

-- ---- lookups

only_turn : (turns : List Turn) (turn one : Turn) → turns ++ turn ∷ [] ≡ one ∷ [] → one ≡ turn
only_turn turns turn one e = grind (arith, common_steps)

found_at : (s : Setup) (key : List ℕ) (turns : List Turn) (turn : Turn) (r : Reply) → FindsHeld s key (turns ++ turn ∷ []) r → r ≡ find_reply key (bucket_read s (sha1 key) turn)
found_at s key turns turn r h = h.3 ∙ ap (λ x. find_reply key (bucket_read s (sha1 key) x)) (only_turn turns turn h.0 h.1)

-- ---- a caller that has a call

module _ (h : History) (legal : IsLegal h) (before : List Record) (caller : ℕ) (call : Call) (is : call_at h before caller ≡ Some call) where
  may_move : (luck : Luck) (made : Option Made) (reply : Option Reply) → Comes h before (Moved caller luck made reply) → MayMove (now_at h before).tree call.state luck made reply
  may_move luck made reply comes =
      let may = may_come h legal before (Moved caller luck made reply) comes in
      subst (λ c. MayMove (now_at h before).tree c.state luck made reply) (same_call (call_at h before caller) may.0 call may.1 is) may.2

  reaches : (luck : Luck) (made : Made) (r : Reply) → StepCases h before caller luck made (Some r) → Reaches h (call_after (now_at h before).tree luck (Some made) call) (Some r)
  reaches luck made r comes = search rules

  looks_up : (luck : Luck) (made : Made) (key : List ℕ) (r : Reply) → call.command ≡ commands.Find key → StepCases h before caller luck made (Some r)
      → (r ≡ Refused OutOfMemory) ⊎ (plain_reply r ≡ find_reply key (bucket_read h.setup (sha1 key) (turn_of (now_at h before).tree luck made)))
  looks_up luck made key r find comes =
      let turn = turn_of (now_at h before).tree luck made in
      elim (replies_read_value h legal (call_after (now_at h before).tree luck (Some made) call) r (reaches luck made r comes)) [
        | inl e ↦ inl e
        | inr reads ↦ inr (found_at h.setup key call.turns turn (plain_reply r) (subst (λ c. ReadsValue h.setup c (call.turns ++ turn ∷ []) (plain_reply r)) find reads))
      ]

  busy_cases : BusyCases h before caller call
  busy_cases = record {
    second = λ command comes. not_two (call_at h before caller) call (may_come h legal before (Began caller command) comes).1 is;
    step = λ luck made reply comes. (may_move luck (Some made) reply comes).0;
    answer = λ luck made reply comes. (may_move luck (Some made) reply comes).1;
    last = λ luck made own ends comes. not_over (after call.state made.1) own ends (may_move luck (Some made) None comes).3;
    reply = λ luck made own r ends comes. own_reply (after call.state made.1) own r ends (may_move luck (Some made) (Some r) comes).3;
    early = λ luck made more r goes comes. too_early (after call.state made.1) more r goes (may_move luck (Some made) (Some r) comes).3;
    no_step = λ luck reply comes. (may_move luck None reply comes).0;
    lookup = looks_up;
  }

-- ---- of each legal history

idle_cases : (h : History) → IsLegal h → (before : List Record) (caller : ℕ) → call_at h before caller ≡ None → IdleCases h before caller
idle_cases h legal before caller is = record {
  moved = λ luck made reply comes.
      let may = may_come h legal before (Moved caller luck made reply) comes in
      not_two (call_at h before caller) may.0 is may.1;
  stopped = λ comes. let may = may_come h legal before (Stopped caller) comes in not_two (call_at h before caller) may.0 is may.1;
}

begin_cases : (h : History) → IsLegal h → (before : List Record) (caller : ℕ) → BeginCases h before caller
begin_cases h legal before caller = record {
  known = λ command comes. (may_come h legal before (Began caller command) comes).0;
  apart = λ source e comes. (may_come h legal before (Began caller (commands.Export source e)) comes).2;
  outside = λ l comes. (may_come h legal before (Began caller (commands.Link l)) comes).2.1;
}

pub cases_hold : CasesHold
cases_hold h legal = search (rules, busy_cases, idle_cases, begin_cases)

-- ---- one history

fits_read : (path : List ℕ) (t : Tree) (r : Result (List ℕ) Fault) → Fits (steps.ReadAll path) (unless r t (λ bytes. (answers.Bytes bytes, t))).0
fits_read path t r = grind (arith, common_steps)

made_fits : (cache key : List ℕ) (luck : Luck) → Fits (steps.ReadAll (bucket_path cache key)) (lookup_made cache key luck).1
made_fits cache key luck =
    apply_answer (Fits (steps.ReadAll (bucket_path cache key))) (λ fault. tt) bare (steps.ReadAll (bucket_path cache key)) luck
    (λ most. fits_read (bucket_path cache key) bare (file_at bare (bucket_path cache key) faults.IsADirectory))

abbrev look : List ℕ → List ℕ → Lookup
look cache key = record { cache = cache; key = key; aim = aims.Report }

-- a lookup ends with what the answer gives, without a message
looked : (cache key : List ℕ) (a : Result (List ℕ) Refusal) → go_on a (no_bucket (look cache key)) (after_bucket (look cache key)) ≡ over (plain_reply (find_reply key (entries_shown a)))
unfolding found_in
looked cache key a = grind (arith, common_steps)

lookup_legal : (cache key : List ℕ) (luck : Luck) → IsLegal (lookup_alone cache key luck (find_reply key (bucket_shown (lookup_made cache key luck).1)))
lookup_legal cache key luck =
    let s : Setup = record { cache = cache; base = codes "/"; outside = []; callers = 1 } in
    record {
      apart = tt;
      opens = refl;
      legal = (
        (omega arith, refl, tt, tt),
        ((new_call s 0 (commands.Find key), refl, (refl, refl, made_fits cache key luck, inl (looked cache key (bytes_in (lookup_made cache key luck).1)))), tt),
      );
    }

-- if nothing is held, no entry is found
not_found : (key : List ℕ) (entries : List Entry) (found : Found) (a : PlainAnswer) → entries ≡ [] → LookedUp (Some found) ≡ find_reply key (shown_result a (Ok entries)) → ⊥
not_found key entries found a none e = search rules

lookup_finds_none : (cache key : List ℕ) (luck : Luck) (found : Found) → IsLegal (lookup_alone cache key luck (LookedUp (Some found))) → ⊥
lookup_finds_none cache key luck found legal =
    let h = lookup_alone cache key luck (LookedUp (Some found)) in
    let made = lookup_made cache key luck in
    let nothing = (first_opens h legal).nothing in
    elim (looks_up h legal (Began 0 (commands.Find key) ∷ []) 0 (new_call h.setup 0 (commands.Find key)) refl luck made key (LookedUp (Some found)) refl ([], refl)) [
      | inl e ↦ absurd cc
      | inr e ↦ not_found key (entries_at h.setup (sha1 key) (turn_of bare luck made)) found made.1 (ap (λ (v : Value). list_of (v.buckets (sha1 key))) nothing) e
    ]

pub lookup_cases : (cache key : List ℕ) (luck : Luck) → LookupCases cache key luck
lookup_cases cache key luck = record { own = lookup_legal cache key luck; found = lookup_finds_none cache key luck }

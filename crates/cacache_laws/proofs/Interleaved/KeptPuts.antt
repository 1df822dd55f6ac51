-- The content of a put that answered is there while each call since the put began spares it.
use Rattle.std.proofs.Common.{◌≡◌, inl, inr, ◌≤◌, ℕ, suc, true, cond, List, [], ◌∷◌, ◌++◌, Some, Ok, take, drop, refl, sym, ap, subst, ◌∙◌, take-append-drop, arith}
use Rattle.std.specs.Prelude.{slice_get}
use Rattle.cacache_core.specs.{declared.integrity.digest.Hash.{Hash}, Integrity.{IsHash}, Paths.{Names, names_of, content_names}}
use Rattle.cacache_store.specs.declared.store.step.Step.TheVariants as steps
use Rattle.cacache_store.specs.declared.store.answer.Answer.TheVariants as answers
use Rattle.cacache_store.specs.Plain.{PlainStep, PlainAnswer}
use Rattle.cacache_calls.specs.{Answers.{there_in}, declared.{command.Put.{Put}, reply.Reply.TheVariants.{Stored}}, Steps.{content_path}, Storing.{put_commit}}
use Rattle.cacache_value.specs.{Acts.{Act, AddEntries, Drop, PutBytes, PutLink, act_of, change}, Shows.{blob_there}, Value.{InFile, Value, value_of_tree}}
use Rattle.cacache_history.specs.{declared.record.Record.TheVariants.{Moved}, AddedEntries.{IsAmong, address_of_put}, Commits.{Deed, does, finds, finds_in, deeds_of_act, deeds_of, deeds, PutsContent, CommitsAs, IsCase}, History.{History, Turn, IsLegal}, Places.{TurnIn}, Setup.{Setup, call_site, home}, Turns.{content_at, unless_failed, EachTurn}, Values.{IsThere, acted, opening_value, value_at}}
use Rattle.cacache_history.proofs.{Contents.{Commits.{commits_are_cases}, Digests.{digest_hash}}, Entries.AddedEntries.{act_is, acts_last, blob_is, either, not_found}, Histories.{Holding.{TurnHolds, TurnsHold}, PlacedAnswers.{reaches_in}, Places.{split_at, turns_are_own, reached}, ShownTurns.{content_below, there_at}, Values.{value_follows_acts}}}
use Rattle.cacache_laws.{specs.Meanwhile.{AllSpare, HoldsContent, PutsKeep}, proofs.{Interleaved.KeptContents.{Here, right_here, stays_here}, Putting.Stored.{below_is}}}

-- the turn that did it
done_in : (P : Turn → Type 0) (s : Setup) (d : Deed) (turns : List Turn) → EachTurn P turns → TurnsHold s turns → IsAmong d (deeds turns)
    → (turn : Turn) × P turn × TurnHolds s turn × IsAmong d (deeds_of turn.move)
done_in P s d [] each hold among = absurd among
done_in P s d (turn ∷ turns) each hold among =
    elim (either d (deeds_of turn.move) (deeds turns) among) [
      | inl here ↦ (turn, each.0, hold.0, here)
      | inr more ↦ done_in P s d turns each.1 hold.1 more
    ]

-- a deed that found something is a question that was answered yes
found_in : (path : List ℕ) (act : Act) (step : PlainStep) (answer : PlainAnswer) → IsAmong (finds path) (deeds_of_act act ++ finds_in step answer) → (step ≡ steps.Exists path) × (answer ≡ answers.There true)
found_in path act step answer among =
    elim (either (finds path) (deeds_of_act act) (finds_in step answer) among) [
      | inl did ↦ absurd (no_act act did)
      | inr found ↦ asked step answer found
    ]
  where
    not_did : (act : Act) → IsAmong (finds path) (does act ∷ []) → ⊥
    not_did act (inl e) = absurd cc
    not_did act (inr none) = none

    no_act : (act : Act) → IsAmong (finds path) (deeds_of_act act) → ⊥
    no_act (PutBytes names bytes) among = not_did (PutBytes names bytes) among
    no_act (PutLink names target) among = not_did (PutLink names target) among
    no_act (AddEntries names (e ∷ es)) among = not_did (AddEntries names (e ∷ es)) among
    no_act (Drop names) among = not_did (Drop names) among
    no_act act among = among

    asked : (step : PlainStep) (answer : PlainAnswer) → IsAmong (finds path) (finds_in step answer) → (step ≡ steps.Exists path) × (answer ≡ answers.There true)
    asked (steps.Exists p) (answers.There true) (inl e) = (let same : p ≡ path = cc in ap steps.Exists same, refl)
    asked (steps.Exists p) (answers.There true) (inr none) = absurd none
    asked step answer among = absurd among

module _ (h : History) (legal : IsLegal h) (m n caller : ℕ) (p : Put) (spares : AllSpare h m n (address_of_put p)) where
  abbrev a : Hash
  a = address_of_put p

  is_hash : IsHash (address_of_put p)
  is_hash = digest_hash p.options.algorithm p.data

  from_place : (place : ℕ) → m ≤ place → place ≤ n → Here h legal a is_hash place → HoldsContent h n a
  from_place place from to there = right_here h legal a is_hash n (stays_here h legal a is_hash place n to (λ at k call f t. spares at k call (omega (arith, from, f)) t) there)

  -- a turn put it
  put_keeps : (turn : Turn) (names : Names) → TurnIn h m n caller turn → act_of turn.move.step turn.move.luck turn.move.answer ≡ PutBytes names p.data → names_of (content_path h.setup.cache (a ∷ [])) ≡ Ok names → HoldsContent h n a
  put_keeps turn names t act named =
      let folder = home h.setup in
      let v = acted h (take t.place h.records) in
      let is : slice_get h.records t.place ≡ Some (Moved caller t.move.luck (Some t.made) t.move.reply) = t.move.is ∙ ap (λ o. Some (Moved caller t.move.luck o t.move.reply)) t.made_is in
      let did : act_of t.made.0 t.move.luck t.made.1 ≡ PutBytes names p.data = ap (λ (u : Turn). act_of u.move.step u.move.luck u.move.answer) (sym t.turn_is) ∙ act in
      let at = below_is folder (content_names a) names (names_of (content_path h.setup.cache (a ∷ []))) (content_below h.setup a [] is_hash) named in
      let after : (value_at h (take (suc t.place) h.records)).contents a ≡ Some (InFile p.data)
      = ap (λ (x : Value). x.contents a) ((value_follows_acts h legal).acts (take (suc t.place) h.records) (drop (suc t.place) h.records) (sym (take-append-drop (suc t.place) h.records)))
      ∙ ap (λ rs. (acted h rs).contents a) (split_at h.records t.place _ is).next
      ∙ ap (λ (x : Value). x.contents a) (acts_last folder (opening_value h) (take t.place h.records) caller t.move.luck t.made t.move.reply)
      ∙ ap (λ (x : Act). (change folder x v).contents a) did ∙ ap (λ b. cond b (Some (InFile p.data)) (v.contents a)) at in
      from_place (suc t.place) (omega (arith, t.from)) (omega (arith, t.to)) (subst IsThere (sym after) tt)

  -- a turn found it
  find_keeps : (turn : Turn) → TurnHolds h.setup turn → TurnIn h m n caller turn → turn.move.step ≡ steps.Exists (content_path h.setup.cache (a ∷ [])) → turn.move.answer ≡ answers.There true → HoldsContent h n a
  find_keeps turn holds t step answer =
      let seen = subst (λ x. there_in x ≡ unless_failed x (there_in (blob_there turn.place (content_at h.setup (a ∷ []) turn)))) answer (there_at h.setup turn holds a [] is_hash step) in
      let there = blob_is turn.place (content_at h.setup (a ∷ []) turn) (sym seen) in
      from_place t.place t.from (omega (arith, t.to)) (subst (λ (u : Turn). IsThere ((value_of_tree (home h.setup) u.place).contents a)) t.turn_is there)

  deed_keeps : (d : Deed) → PutsContent (put_commit h.setup.cache p) (λ names. PutBytes names p.data) d → (turn : Turn) → TurnIn h m n caller turn → TurnHolds h.setup turn → IsAmong d (deeds_of turn.move) → HoldsContent h n a
  deed_keeps d at turn t holds among = grind (arith, either, put_keeps, act_is, not_found, found_in, find_keeps)

pub puts_keep : PutsKeep
puts_keep h legal m n caller call p i is c spares =
    let reaches = reaches_in h m n caller call (Some (Stored i)) c in
    let commits : CommitsAs (put_commit h.setup.cache p) (λ names. PutBytes names p.data) (deeds call.turns) (Some (Stored i))
    = subst (λ command. IsCase (call_site h.setup call.number) command call.turns (Some (Stored i))) is (commits_are_cases h legal call (Some (Stored i)) reaches) in
    elim commits [
      | inl nothing ↦ absurd nothing.1
      | inr d ↦
          let hold = (reached h legal call (Some (Stored i)) reaches).holds.turns in
          let own = turns_are_own h m n caller call (Some (Stored i)) c in
          let by = done_in (TurnIn h m n caller) h.setup d.0 call.turns own hold (subst (IsAmong d.0) (sym d.3) (inl refl)) in
          deed_keeps h legal m n caller p spares d.0 d.2 by.0 by.1 by.2 by.3
    ]

-- Each entry that a commit added names a content that is there, unless a step removed it.
use Rattle.std.proofs.{Common.{arith, rules, ◌≡◌, ◌⊎◌, inl, inr, ℕ, Bool, true, cond, List, [], ◌∷◌, ◌++◌, Option, None, Some, Ok, refl, sym, ap, subst, ◌∙◌, append-nil, append_assoc}, lemmas.Grind.{common_steps}}
use Rattle.cacache_core.specs.{declared.integrity.{algorithm.Algorithm.{Algorithm}, digest.Hash.{Hash}}, Integrity.{digest, IsHash, hash_of, integrity_under}, Paths.{Names, names_of, names_below, content_names}, Texts.{integrity_text}}
use Rattle.cacache_store.specs.declared.store.step.Step.TheVariants as steps
use Rattle.cacache_store.specs.declared.store.answer.Answer.TheVariants as answers
use Rattle.cacache_store.specs.Plain.{PlainStep, PlainAnswer}
use Rattle.cacache_disk.{specs.{declared.luck.Luck.{Luck}, Tree.{Tree}}, proofs.Roots.{same_self}}
use Rattle.cacache_entry.specs.Entry.{Entry}
use Rattle.cacache_calls.specs.{declared.{command.{Command.{Command}, Link.{Link}}, reply.Reply.{Reply, TheVariants.{Stored}}, carried.Commit.{Commit}}, Steps.{content_path}, Storing.{insertion_of, put_commit}, Inserting.{given_or}, Linking.{link_target, commit_for}, Answers.{there_in}}
use Rattle.cacache_calls.specs.declared.command.Command.TheVariants as commands
use Rattle.cacache_value.specs.{Kinds.{is_path_of}, Value.{Blob, InFile, Value, value_of_tree}, Shows.{blob_there}, Acts.{Act, AddEntries, act_of, change, acts}}
use Rattle.cacache_history.specs.{declared.record.Record.{Record, TheVariants.{Began, Moved, Stopped}}, Setup.{call_site, home}, History.{History, Turn, Call, Made, IsLegal, Reaches}, Turns.{EachTurn, content_at, unless_failed, TurnAt}, Values.{steps_of, value_at, opening_value, KeepContent, IsThere, HasDigest}, Commits.{Deed, does, finds, deeds_of_act, finds_in, deeds_of, deeds, PutsContent, IsAdded, InsertionAdds, AddsAfter, CommitsAs, LinksAs, IsCase}, AddedEntries.{NamesOwn, IsAmong, Added, IsContentOf, NamesContent, EntriesNameContents, address_of_put, PutsLeaveContents}}
use Rattle.cacache_history.proofs.{Contents.{Carrying.{Own, own_bytes, own_link, put_own}, Digests.{digest_hash}, Commits.{commits_are_cases}}, Histories.{Holding.{TurnHolds, TurnsHold}, Values.{value_follows_acts, contents_stay, contents_are_right}, Places.{reached, reached_turns}, ShownTurns.{content_below, there_at}}}

-- ---- deeds

pub either : (d : Deed) (xs ys : List Deed) → IsAmong d (xs ++ ys) → IsAmong d xs ⊎ IsAmong d ys
either d [] ys h = inr h
either d (x ∷ xs) ys (inl e) = inl (inl e)
either d (x ∷ xs) ys (inr h) = elim (either d xs ys h) [ inl a ↦ inl (inr a) | inr b ↦ inr b ]

-- the turn that did it
pub record DoneAt (h : History) (d : Deed) : Type 0 where
  pub turn : Turn
  pub holds : TurnHolds h.setup turn
  pub at : TurnAt h turn
  pub did : IsAmong d (deeds_of turn.move)

done_at : (h : History) (d : Deed) (turns : List Turn) → TurnsHold h.setup turns → EachTurn (TurnAt h) turns → IsAmong d (deeds turns) → DoneAt h d
done_at h d [] hold at is = absurd is
done_at h d (turn ∷ turns) hold at is =
    elim (either d (deeds_of turn.move) (deeds turns) is) [
      | inl here ↦ record { turn = turn; holds = hold.0; at = at.0; did = here }
      | inr more ↦ done_at h d turns hold.1 at.1 more
    ]

pub act_is : (act of : Act) → IsAmong (does act) (deeds_of_act of) → of ≡ act
act_is act of h = grind (arith, common_steps)

pub not_found : (act : Act) (step : PlainStep) (answer : PlainAnswer) → IsAmong (does act) (finds_in step answer) → ⊥
not_found act step answer h = grind (arith, common_steps)

not_done : (path : List ℕ) (of : Act) → IsAmong (finds path) (deeds_of_act of) → ⊥
not_done path of h = grind (arith, common_steps)

-- a question with the answer yes
abbrev FoundIn : List ℕ → PlainStep → PlainAnswer → Type 0
FoundIn path step answer = (step ≡ steps.Exists path) × (answer ≡ answers.There true)

found_in : (path : List ℕ) (step : PlainStep) (answer : PlainAnswer) → IsAmong (finds path) (finds_in step answer) → FoundIn path step answer
found_in path step answer h = grind (arith, common_steps)

-- ---- the content at an address

there_from : (b : Bool) (blob : Blob) (old : Option Blob) → b ≡ true → IsThere (cond b (Some blob) old)
there_from b blob old e = grind (arith, common_steps)

own_there : (folder : Option Names) (v : Value) (a : Hash) (own : Own) (names : Names) → is_path_of folder (content_names a) names ≡ true
    → IsThere ((change folder (put_own own names) v).contents a)
own_there folder v a own names e = grind (arith, own_bytes, there_from, own_link)

here : (folder : Option Names) (a : Hash) (names : Names) → names_below folder (content_names a) ≡ Ok names → is_path_of folder (content_names a) names ≡ true
here None a names e = absurd cc
here (Some folder) a names e =
    let same : folder ++ content_names a ≡ names = cc in
    subst (λ p. is_path_of (Some folder) (content_names a) p ≡ true) same (same_self (folder ++ content_names a))

-- what blob an answer of yes is about
pub blob_is : (t : Tree) (blob : Option Blob) → there_in (blob_there t blob) ≡ Ok true → IsThere blob
blob_is t blob e = grind (arith, common_steps)

-- ---- the acts of records

pub acts_last : (folder : Option Names) (v : Value) (before : List Record) (caller : ℕ) (luck : Luck) (made : Made) (reply : Option Reply)
    → acts folder v (steps_of (before ++ Moved caller luck (Some made) reply ∷ [])) ≡ change folder (act_of made.0 luck made.1) (acts folder v (steps_of before))
acts_last folder v [] caller luck made reply = refl
acts_last folder v (Began k command ∷ before) caller luck made reply = acts_last folder v before caller luck made reply
acts_last folder v (Moved k l None r ∷ before) caller luck made reply = acts_last folder v before caller luck made reply
acts_last folder v (Moved k l (Some m) r ∷ before) caller luck made reply = acts_last folder (change folder (act_of m.0 l m.1) v) before caller luck made reply
acts_last folder v (Stopped k ∷ before) caller luck made reply = acts_last folder v before caller luck made reply

keep_rest : (folder : Option Names) (a : Hash) (before rest : List Record) → KeepContent folder a (steps_of (before ++ rest)) → KeepContent folder a (steps_of rest)
keep_rest folder a [] rest h = h
keep_rest folder a (Began k command ∷ before) rest h = keep_rest folder a before rest h
keep_rest folder a (Moved k l None r ∷ before) rest h = keep_rest folder a before rest h
keep_rest folder a (Moved k l (Some m) r ∷ before) rest h = keep_rest folder a before rest h.1
keep_rest folder a (Stopped k ∷ before) rest h = keep_rest folder a before rest h

-- ---- a content that was put or found

module _ (h : History) (legal : IsLegal h) (a : Hash) (is_hash : IsHash a) where
  abbrev Here : List Record → Type 0
  Here records = IsThere ((value_at h records).contents a)

  -- from a place on it stays
  stays : (before later : List Record) → h.records ≡ before ++ later → KeepContent (home h.setup) a (steps_of h.records) → Here before → Here h.records
  stays before later is keeps there =
      subst (λ records. IsThere ((value_at h records).contents a)) (sym is)
      (contents_stay h legal before later [] a (is ∙ ap (λ l. before ++ l) (sym (append-nil later)))
      (keep_rest (home h.setup) a before later (subst (λ records. KeepContent (home h.setup) a (steps_of records)) is keeps)) there)

  -- if a turn put it
  put_stays : (turn : Turn) (own : Own) (names : Names) → TurnAt h turn → act_of turn.move.step turn.move.luck turn.move.answer ≡ put_own own names
      → names_below (home h.setup) (content_names a) ≡ Ok names → KeepContent (home h.setup) a (steps_of h.records) → Here h.records
  put_stays turn own names d act below keeps =
      let last = Moved d.caller d.luck (Some d.made) d.reply in
      let is : h.records ≡ (d.before ++ last ∷ []) ++ d.later = d.is ∙ sym (append_assoc d.before (last ∷ []) d.later) in
      let done : act_of d.made.0 d.luck d.made.1 ≡ put_own own names = ap (λ (t : Turn). act_of t.move.step t.move.luck t.move.answer) (sym d.turn_is) ∙ act in
      let v = acts (home h.setup) (opening_value h) (steps_of d.before) in
      let value : (value_at h (d.before ++ last ∷ [])).contents a ≡ (change (home h.setup) (put_own own names) v).contents a
      = ap (λ (x : Value). x.contents a) ((value_follows_acts h legal).acts (d.before ++ last ∷ []) d.later is)
      ∙ ap (λ (x : Value). x.contents a) (acts_last (home h.setup) (opening_value h) d.before d.caller d.luck d.made d.reply)
      ∙ ap (λ (x : Act). (change (home h.setup) x v).contents a) done in
      stays (d.before ++ last ∷ []) d.later is keeps (subst IsThere (sym value) (own_there (home h.setup) v a own names (here (home h.setup) a names below)))

  -- if a turn found it
  find_stays : (turn : Turn) → TurnHolds h.setup turn → TurnAt h turn → turn.move.step ≡ steps.Exists (content_path h.setup.cache (a ∷ []))
      → turn.move.answer ≡ answers.There true → KeepContent (home h.setup) a (steps_of h.records) → Here h.records
  find_stays turn holds d step answer keeps =
      let seen = subst (λ x. there_in x ≡ unless_failed x (there_in (blob_there turn.place (content_at h.setup (a ∷ []) turn)))) answer (there_at h.setup turn holds a [] is_hash step) in
      let there = blob_is turn.place (content_at h.setup (a ∷ []) turn) (sym seen) in
      stays d.before (Moved d.caller d.luck (Some d.made) d.reply ∷ d.later) d.is keeps
      (subst (λ (t : Turn). IsThere ((value_of_tree (home h.setup) t.place).contents a)) d.turn_is there)

  -- if a commit did either
  content_stays : (c : Commit) (own : Own) (content : Deed) → content_path c.cache c.computed ≡ content_path h.setup.cache (a ∷ []) → PutsContent c (put_own own) content → DoneAt h content
      → KeepContent (home h.setup) a (steps_of h.records) → Here h.records
  content_stays c own (does act) at is d keeps =
      elim (either (does act) (deeds_of_act (act_of d.turn.move.step d.turn.move.luck d.turn.move.answer)) (finds_in d.turn.move.step d.turn.move.answer) d.did) [
        | inl did ↦ put_stays d.turn own is.0 d.at (act_is act _ did ∙ is.2) (sym (content_below h.setup a [] is_hash) ∙ ap names_of (sym at) ∙ is.1) keeps
        | inr found ↦ absurd (not_found act d.turn.move.step d.turn.move.answer found)
      ]
  content_stays c own (finds path) at is d keeps = search (rules, either, not_done, found_in, find_stays)

  right_blob : (blob : Option Blob) → IsThere blob → ((bytes : List ℕ) → blob ≡ Some (InFile bytes) → HasDigest a bytes) → IsContentOf a blob
  right_blob blob there right = grind (arith, common_steps)

  content_right : Here h.records → IsContentOf a ((value_at h h.records).contents a)
  content_right there =
      right_blob ((value_at h h.records).contents a) there (contents_are_right h legal h.records [] (sym (append-nil h.records)) a is_hash)

-- ---- a commit's entry

-- an entry that a commit added, and the content that it put or found
pub record Backed (c : Commit) (own : Own) (ds : List Deed) (e : Entry) : Type 0 where
  pub key : List ℕ
  pub entry_is : e ≡ (insertion_of c key).entry
  pub content : Deed
  pub is : PutsContent c (put_own own) content
  pub among : IsAmong content ds

module _ (c : Commit) (own : Own) (names : Names) (e : Entry) (reply : Option Reply) where
  not_content : (own_is : Own) (content : Deed) → PutsContent c (put_own own_is) content → does (AddEntries names (e ∷ [])) ≡ content → ⊥
  not_content own_is content is same = grind (arith, own_bytes, own_link)

  nothing_among : (ds : List Deed) → ds ≡ [] → IsAmong (does (AddEntries names (e ∷ []))) ds → ⊥
  nothing_among ds none among = subst (IsAmong (does (AddEntries names (e ∷ [])))) none among

  entry_of_deed : (key : List ℕ) (d : Deed) → IsAdded (insertion_of c key) d → does (AddEntries names (e ∷ [])) ≡ d → e ≡ (insertion_of c key).entry
  entry_of_deed key (does act) is same =
      let adds : AddEntries names (e ∷ []) ≡ AddEntries is.0 ((insertion_of c key).entry ∷ []) = (let x : AddEntries names (e ∷ []) ≡ act = cc in x ∙ is.2) in cc
  entry_of_deed key (finds path) is same = absurd cc

  added_by : (key : List ℕ) (more : List Deed) → InsertionAdds (insertion_of c key) more reply → IsAmong (does (AddEntries names (e ∷ []))) more → e ≡ (insertion_of c key).entry
  added_by key more h among = grind (arith, nothing_among, entry_of_deed)

  -- the key of what was added after the content
  key_of : (key : Option (List ℕ)) (more : List Deed) → AddsAfter c key more reply → IsAmong (does (AddEntries names (e ∷ []))) more → (k : List ℕ) × (e ≡ (insertion_of c k).entry)
  key_of key more after among = grind (arith, nothing_among, added_by)

  backed : (ds : List Deed) → CommitsAs c (put_own own) ds reply → IsAmong (does (AddEntries names (e ∷ []))) ds → Backed c own ds e
  backed ds h among = grind (arith, nothing_among, not_content, key_of)

-- ---- of a history

module _ (h : History) (legal : IsLegal h) (call : Call) (reply : Option Reply) (reaches : Reaches h call reply) (e : Entry) (added : Added e call) where
  commit_names : (c : Commit) (own : Own) (algorithm : Algorithm) (bytes : List ℕ) → c.computed ≡ integrity_under algorithm bytes → c.cache ≡ h.setup.cache → c.options.integrity ≡ None
      → CommitsAs c (put_own own) (deeds call.turns) reply → NamesContent h e
  commit_names c own algorithm bytes computed cache none commits =
      let a = hash_of algorithm (digest algorithm bytes) in
      let is_hash = digest_hash algorithm bytes in
      let b = backed c own added.0 e reply (deeds call.turns) commits added.1 in
      let text : e.integrity ≡ Some (integrity_text (integrity_under algorithm bytes))
      = ap (λ (x : Entry). x.integrity) b.entry_is ∙ ap (λ o. Some (integrity_text (given_or c.computed o))) none ∙ ap (λ i. Some (integrity_text i)) computed in
      let path : content_path c.cache c.computed ≡ content_path h.setup.cache (integrity_under algorithm bytes)
      = ap (λ x. content_path x c.computed) cache ∙ ap (content_path h.setup.cache) computed in
      let done = done_at h b.content call.turns (reached h legal call reply reaches).holds.turns (reached_turns h call reply reaches) b.among in (
        integrity_under algorithm bytes,
        a,
        text,
        refl,
        λ keeps. content_right h legal a is_hash (content_stays h legal a is_hash c own b.content path b.is done keeps),
      )

  of_link : (l : Link) → l.options.integrity ≡ None → LinksAs (link_target (call_site h.setup call.number) l) call.turns reply → NamesContent h e
  of_link l none (inl nothing) = absurd (subst (IsAmong (does (AddEntries added.0 (e ∷ [])))) nothing.0 added.1)
  of_link l none (inr h0) =
      let w = h0.3 in
      commit_names (commit_for (link_target (call_site h.setup call.number) l) w.1) (own_link (link_target (call_site h.setup call.number) l).path) l.options.algorithm w.1 refl refl none w.5.1

  of_command : (command : Command) → NamesOwn command → IsCase (call_site h.setup call.number) command call.turns reply → NamesContent h e
  of_command (commands.Put p) none commits = commit_names (put_commit h.setup.cache p) (own_bytes p.data []) p.options.algorithm p.data refl refl none commits
  of_command (commands.Link l) none links = of_link l none links
  of_command other none is = absurd none

pub entries_name_contents : (h : History) → IsLegal h → EntriesNameContents h
entries_name_contents h legal call reply reaches own e added =
    of_command h legal call reply reaches e added call.command own (commits_are_cases h legal call reply reaches)

pub puts_leave_contents : (h : History) → IsLegal h → PutsLeaveContents h
puts_leave_contents h legal call i p reaches is keeps =
    let a = address_of_put p in
    let is_hash : IsHash (address_of_put p) = digest_hash p.options.algorithm p.data in
    let commits : CommitsAs (put_commit h.setup.cache p) (put_own (own_bytes p.data [])) (deeds call.turns) (Some (Stored i))
    = subst (λ command. IsCase (call_site h.setup call.number) command call.turns (Some (Stored i))) is (commits_are_cases h legal call (Some (Stored i)) reaches) in
    elim commits [
      | inl nothing ↦ absurd nothing.1
      | inr c ↦
          let done = done_at h c.0 call.turns (reached h legal call (Some (Stored i)) reaches).holds.turns (reached_turns h call (Some (Stored i)) reaches) (subst (IsAmong c.0) (sym c.3) (inl refl)) in
          content_right h legal a is_hash (content_stays h legal a is_hash (put_commit h.setup.cache p) (own_bytes p.data []) c.0 refl c.2 done keeps)
    ]

-- Answers of lookups and reads hold at places since their calls began, and so do the entries of puts.
use Rattle.std.proofs.{lemmas.{Grind.{common_steps, fold-append}, Slice.Eq.{bytes_eq-Decides}}, Common.{rules, ◌≡◌, ◌⊎◌, inl, inr, ◌≤◌, ℕ, suc, true, cond, List, [], ◌∷◌, ◌++◌, Option, None, Some, Result, Ok, Err, take, drop, bytes_eq, refl, sym, ap, subst, ◌∙◌, arith}}
use Rattle.std.specs.Prelude.{slice_get, unwrap_or}
use Rattle.sha1.specs.Sha1.{sha1}
use Rattle.cacache_core.specs.{declared.integrity.digest.Hash.{Hash}, Integrity.{Meets, integrity_under}, Paths.{Names, names_of, names_below, bucket_names_of}, Texts.{integrity_text, read_integrity}}
use Rattle.cacache_core.proofs.Printed.{printed}
use Rattle.cacache_disk.proofs.Roots.{same_self}
use Rattle.cacache_entry.specs.{Entry.{Entry}, Bucket.{Found, found_of, answer_to, after_entry, latest}}
use Rattle.cacache_store.specs.declared.store.answer.Answer.TheVariants as answers
use Rattle.cacache_store.specs.Plain.{PlainAnswer}
use Rattle.cacache_calls.specs.{declared.{answers.Refusal.{Refusal}, carried.Commit.{Commit}, command.{Command.{Command}, Put.{Put}}, reply.Reply.{Reply, TheVariants.{Stored, Read, LookedUp}}}, Inserting.{given_or}, Replies.{find_reply, lookup}, State.{Site}, Steps.{bucket_path}, Storing.{insertion_of, put_commit}}
use Rattle.cacache_calls.specs.declared.command.Command.TheVariants as commands
use Rattle.cacache_value.specs.{Acts.{Act, PutBytes, AddEntries, act_of, list_of}, Kinds.{is_path_of}, Value.{Value}}
use Rattle.cacache_history.specs.{declared.record.Record.TheVariants.{Moved}, AddedEntries.{IsAmong}, Commits.{Deed, does, finds, finds_in, deeds_of_act, deeds_of, deeds, CommitsAs, IsCase}, History.{History, Call, Turn, IsLegal, Reaches}, Lookups.{lookup_at, IsFoundIn, WritesEntry, LeavesBucket, SparesKey, found_of_put, FoundOfPuts, IsOneOfPuts, PlaceLaws}, Places.{TurnIn, CallIn, MovesAre}, ReadingCalls.{MeetsLookup, IsVerified}, Setup.{Setup, call_site, home}, Turns.{shown_result, bucket_read, entries_at, EachTurn}, TurnReplies.{FindsHeld, ReadsValue}, Values.{acted, bucket_at}}
use Rattle.cacache_history.proofs.{Entries.{AddedEntries.{act_is, not_found, either}, Lookups.{becomes, entries_are_written, found_was_written, lookups_follow_writes, answers_own, spared, spares_leaves, lookups_stay}}, Contents.{Commits.{commits_are_cases}, Digests.{own_integrity}}, Histories.{Places.{split_at, moves_are_of_calls, turns_are_own}, ReadingCalls.{reads_are_verified}, ShownTurns.{bucket_below}, TurnReplies.{replies_read_value}, Values.{value_follows_acts}}}

-- ---- calls between places

pub reaches_in : (h : History) (m n caller : ℕ) (call : Call) (reply : Option Reply) → CallIn h m n caller call reply → Reaches h call reply
reaches_in h m n caller call reply c = record {
  before = take c.place h.records;
  later = drop (suc c.place) h.records;
  caller = caller;
  luck = c.move.luck;
  made = c.move.made;
  is = (split_at h.records c.place (Moved caller c.move.luck c.move.made reply) (c.move.is ∙ ap (λ r. Some (Moved caller c.move.luck c.move.made r)) c.reply_is)).all;
  stands = c.stands;
}

-- ---- what a turn shows

shown_is : {X : Type 0} (a : PlainAnswer) (r : Result X Refusal) → (shown_result a r ≡ r) ⊎ ((refusal : Refusal) × (shown_result a r ≡ Err refusal))
shown_is a r = grind (arith, common_steps)

looked : (s : Setup) (key : List ℕ) (turn : Turn) (x : Option Found) → lookup key (bucket_read s (sha1 key) turn) ≡ Ok x → latest key (entries_at s (sha1 key) turn) ≡ x
looked s key turn x e = search (rules, shown_is)

not_refused : {X : Type 0} (key : List ℕ) (x : Option Found) (r : Refusal) → LookedUp x ≡ find_reply key (Err r) → X
not_refused key x r e = grind (arith, common_steps)

answered : (s : Setup) (key : List ℕ) (turn : Turn) (x : Option Found) → LookedUp x ≡ find_reply key (bucket_read s (sha1 key) turn) → latest key (entries_at s (sha1 key) turn) ≡ x
answered s key turn x e = search (rules, shown_is, not_refused)

-- at the turn's place
placed : (h : History) (m n caller : ℕ) (key : List ℕ) (turn : Turn) (x : Option Found) → TurnIn h m n caller turn → latest key (entries_at h.setup (sha1 key) turn) ≡ x → IsFoundIn h m n key x
placed h m n caller key turn x t shows = search rules

module _ (h : History) (legal : IsLegal h) (m n caller : ℕ) (call : Call) where
  abbrev Own : List Turn → Type 0
  Own = EachTurn (TurnIn h m n caller)

  find_placed : (key : List ℕ) (x : Option Found) → Own call.turns → FindsHeld h.setup key call.turns (LookedUp x) → IsFoundIn h m n key x
  find_placed key x own held = placed h m n caller key held.0 x (subst Own held.1 own).0 (answered h.setup key held.0 x held.3)

  pub finds_are_placed : (key : List ℕ) (x : Option Found) → CallIn h m n caller call (Some (LookedUp x)) → call.command ≡ commands.Find key → IsFoundIn h m n key x
  finds_are_placed key x c is =
      elim (replies_read_value h legal call (LookedUp x) (reaches_in h m n caller call (Some (LookedUp x)) c)) [
        | inl memory ↦ absurd cc
        | inr reads ↦ find_placed key x (turns_are_own h m n caller call (Some (LookedUp x)) c) (subst (λ command. ReadsValue h.setup command call.turns (LookedUp x)) is reads)
      ]

  pub gets_are_placed : (key bytes : List ℕ) → CallIn h m n caller call (Some (Read bytes)) → call.command ≡ commands.Get key
      → (found : Found) × IsFoundIn h m n key (Some found) × Meets found.integrity bytes
  gets_are_placed key bytes c is =
      let meets : MeetsLookup h.setup key call.turns bytes
      = subst (λ command. IsVerified h.setup command call.turns bytes) is (reads_are_verified h legal call bytes (reaches_in h m n caller call (Some (Read bytes)) c)) in
      let own = subst Own meets.2 (turns_are_own h m n caller call (Some (Read bytes)) c) in
      (meets.4, placed h m n caller key meets.0 (Some meets.4) own.0 (looked h.setup key meets.0 (Some meets.4) meets.5), meets.6)

-- ---- the entry of a put

-- the turn that did an act
did_by : (P : Turn → Type 0) (act : Act) (turns : List Turn) → EachTurn P turns → IsAmong (does act) (deeds turns)
    → (turn : Turn) × P turn × (act_of turn.move.step turn.move.luck turn.move.answer ≡ act)
did_by P act [] each among = absurd among
did_by P act (turn ∷ turns) each among =
    elim (either (does act) (deeds_of turn.move) (deeds turns) among) [
      | inl here ↦
          elim (either (does act) (deeds_of_act (act_of turn.move.step turn.move.luck turn.move.answer)) (finds_in turn.move.step turn.move.answer) here) [
            | inl did ↦ (turn, each.0, act_is act (act_of turn.move.step turn.move.luck turn.move.answer) did)
            | inr found ↦ absurd (not_found act turn.move.step turn.move.answer found)
          ]
      | inr more ↦ did_by P act turns each.1 more
    ]

-- a commit with a key that answers added its entry
adds_entry : (c : Commit) (put : Names → Act) (key : List ℕ) (i : List Hash) (ds : List Deed) → c.key ≡ Some key → CommitsAs c put ds (Some (Stored i))
    → (names : Names) × (names_of (bucket_path c.cache key) ≡ Ok names) × IsAmong (does (AddEntries names ((insertion_of c key).entry ∷ []))) ds
adds_entry c put key i ds is h = grind (arith, common_steps)

here : (folder : Option Names) (below names : Names) → names_below folder below ≡ Ok names → is_path_of folder below names ≡ true
here None below names e = absurd cc
here (Some folder) below names e =
    let same : folder ++ below ≡ names = cc in
    subst (λ p. is_path_of (Some folder) below p ≡ true) same (same_self (folder ++ below))

-- an entry of the key with this integrity answers so
pub answers_so : (key text : List ℕ) (e : Entry) (i : List Hash) → e.key ≡ key → e.integrity ≡ Some text → read_integrity text ≡ Ok i → answer_to key e ≡ Some (Some (found_of e i))
answers_so key text e i own is reads =
    let test : bytes_eq e.key key ≡ true = (bytes_eq-Decides e.key key).1 own in
    rw (test, is, reads) refl

module _ (h : History) (legal : IsLegal h) (m n caller : ℕ) (call : Call) (p : Put) (key : List ℕ) where
  abbrev entry : Entry
  entry = (insertion_of (put_commit h.setup.cache p) key).entry

  -- right after the move that added it, a lookup finds the entry
  entry_found : (names : Names) (turn : Turn) → names_of (bucket_path h.setup.cache key) ≡ Ok names → TurnIn h m n caller turn
      → act_of turn.move.step turn.move.luck turn.move.answer ≡ AddEntries names (entry ∷ []) → answer_to key entry ≡ Some (Some (found_of_put h.setup.cache key p))
      → IsFoundIn h m n key (Some (found_of_put h.setup.cache key p))
  entry_found names turn named t act answers =
      let folder = home h.setup in
      let v = acted h (take t.place h.records) in
      let is : slice_get h.records t.place ≡ Some (Moved caller t.move.luck (Some t.made) t.move.reply) = t.move.is ∙ ap (λ o. Some (Moved caller t.move.luck o t.move.reply)) t.made_is in
      let same : act_of t.made.0 t.move.luck t.made.1 ≡ AddEntries names (entry ∷ []) = ap (λ (u : Turn). act_of u.move.step u.move.luck u.move.answer) (sym t.turn_is) ∙ act in
      let at = here folder (bucket_names_of (sha1 key)) names (sym (bucket_below h.setup key) ∙ named) in
      let after : bucket_at h (take (suc t.place) h.records) (sha1 key) ≡ list_of (v.buckets (sha1 key)) ++ entry ∷ []
      = becomes h legal t.place (sha1 key) caller t.move.luck t.made t.move.reply is (AddEntries names (entry ∷ [])) (list_of (v.buckets (sha1 key)) ++ entry ∷ []) same
      (ap (λ b. list_of (cond b (Some (list_of (v.buckets (sha1 key)) ++ entry ∷ [])) (v.buckets (sha1 key)))) at) in (
        suc t.place,
        omega (arith, t.from),
        omega (arith, t.to),
        ap (latest key) after ∙ fold-append (after_entry key) None (list_of (v.buckets (sha1 key))) (entry ∷ [])
            ∙ ap (λ a. unwrap_or a (latest key (list_of (v.buckets (sha1 key))))) answers,
      )

  pub puts_are_placed : (i : List Hash) → CallIn h m n caller call (Some (Stored i)) → call.command ≡ commands.Put p → p.key ≡ Some key → p.options.integrity ≡ None
      → IsFoundIn h m n key (Some (found_of_put h.setup.cache key p))
  puts_are_placed i c is keyed none =
      let own = integrity_under p.options.algorithm p.data in
      let case : CommitsAs (put_commit h.setup.cache p) (λ names. PutBytes names p.data) (deeds call.turns) (Some (Stored i))
      = subst (λ command. IsCase (call_site h.setup call.number) command call.turns (Some (Stored i))) is (commits_are_cases h legal call (Some (Stored i)) (reaches_in h m n caller call (Some (Stored i)) c)) in
      let adds = adds_entry (put_commit h.setup.cache p) (λ names. PutBytes names p.data) key i (deeds call.turns) keyed case in
      let by = did_by (TurnIn h m n caller) (AddEntries adds.0 (entry ∷ [])) call.turns (turns_are_own h m n caller call (Some (Stored i)) c) adds.2 in
      let text : entry.integrity ≡ Some (integrity_text (integrity_under p.options.algorithm p.data)) = ap (λ o. Some (integrity_text (given_or own o))) none in
      entry_found adds.0 by.0 adds.1 by.1 by.2
      (answers_so key (integrity_text own) entry own refl text (printed own (own_integrity p.options.algorithm p.data)))

-- ---- lookups follow puts

-- what a put of these wrote is found as its entry
put_answers : (cache key : List ℕ) (ps : List Put) (site : Site) (c : Command) (e : Entry) (x : Option Found) → site.cache ≡ cache → IsOneOfPuts ps c → WritesEntry site c e → answer_to key e ≡ Some x
    → FoundOfPuts cache key ps x
put_answers cache key [] site c e x at is w a = is
put_answers cache key (p ∷ ps) site c e x at (inr more) w a = inr (put_answers cache key ps site c e x at more w a)
put_answers cache key (p ∷ ps) site c e x at (inl is) w a =
    let own = integrity_under p.options.algorithm p.data in
    let wrote : WritesEntry site (commands.Put p) e = subst (λ d. WritesEntry site d e) is.0 w in
    let keyed : wrote.0 ≡ key = sym (ap (λ (y : Entry). y.key) wrote.2) ∙ answers_own key e x a in
    let entry = (insertion_of (put_commit cache p) key).entry in
    let same : e ≡ (insertion_of (put_commit cache p) key).entry
    = wrote.2 ∙ ap (λ k. (insertion_of (put_commit site.cache p) k).entry) keyed ∙ ap (λ d. (insertion_of (put_commit d p) key).entry) at in
    let text : e.integrity ≡ Some (integrity_text (integrity_under p.options.algorithm p.data))
    = ap (λ (y : Entry). y.integrity) same ∙ ap (λ o. Some (integrity_text (given_or own o))) is.1 in
    let answer : answer_to key e ≡ Some (Some (found_of e own))
    = answers_so key (integrity_text own) e own (answers_own key e x a) text (printed own (own_integrity p.options.algorithm p.data)) in
    let found : x ≡ Some (found_of e own) = (let both : Some x ≡ Some (Some (found_of e own)) = sym a ∙ answer in cc) in
    inl (found ∙ ap (λ y. Some (found_of y own)) same)

put_leaves : (key : List ℕ) (ps : List Put) (c : Command) → IsOneOfPuts ps c → LeavesBucket key c
put_leaves key [] c is = absurd is
put_leaves key (p ∷ ps) c (inl is) = subst (LeavesBucket key) (sym is.0) tt
put_leaves key (p ∷ ps) c (inr more) = put_leaves key ps c more

module _ (h : History) (legal : IsLegal h) (key : List ℕ) (ps : List Put) where
  leaves : (c : Command) → SparesKey key c ⊎ IsOneOfPuts ps c → LeavesBucket key c
  leaves c h = grind (arith, spares_leaves, put_leaves)

  written_put : (e : Entry) (x : Option Found) (site : Site) (c : Command) → site.cache ≡ h.setup.cache → SparesKey key c ⊎ IsOneOfPuts ps c → WritesEntry site c e → answer_to key e ≡ Some x → FoundOfPuts h.setup.cache key ps x
  written_put e x site c at h w a = grind (arith, spared, put_answers)

  lookups_follow_puts : (m n : ℕ) → m ≤ n → MovesAre h m n (λ c. SparesKey key c ⊎ IsOneOfPuts ps c) → (lookup_at h n key ≡ lookup_at h m key) ⊎ FoundOfPuts h.setup.cache key ps (lookup_at h n key)
  lookups_follow_puts m n le moves =
      elim (lookups_follow_writes h legal key m n le (λ place caller call from to move is. leaves call.command (moves place caller call from to move is))) [
        | inl same ↦ inl same
        | inr wrote ↦
            let w = wrote.1 in
            inr (written_put wrote.0 _ (call_site h.setup w.call.number) w.call.command refl (moves w.place w.caller w.call w.from w.to w.move w.is) w.writes wrote.2)
      ]

-- ---- together

pub place_laws : (h : History) → IsLegal h → PlaceLaws h
place_laws h legal = record {
  own = turns_are_own h;
  moves = moves_are_of_calls h legal;
  written = entries_are_written h legal;
  wrote = found_was_written h legal;
  nothing = λ key. ap (λ (v : Value). latest key (list_of (v.buckets (sha1 key)))) (value_follows_acts h legal).nothing;
  follows = lookups_follow_writes h legal;
  puts = lookups_follow_puts h legal;
  stays = lookups_stay h legal;
  found = λ m n caller call key found c is. finds_are_placed h legal m n caller call key found c is;
  got = λ m n caller call key bytes c is. gets_are_placed h legal m n caller call key bytes c is;
  stored = λ m n caller call p key i c is keyed none. puts_are_placed h legal m n caller call p key i c is keyed none;
}

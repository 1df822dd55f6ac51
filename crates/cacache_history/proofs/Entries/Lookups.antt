-- What a lookup finds goes by the last entry that was written, and answers hold at their places.
use Rattle.std.proofs.{lemmas.{Grind.{common_steps}, List.Elements.{All-nil, All-head, All-tail, All-push, All-same, All-weaker}}, Common.{rules, ◌≡◌, ◌⊎◌, inl, inr, ◌<◌, ◌≤◌, ◌+◌, ◌-◌, ℕ, zero, suc, Bool, true, false, cond, List, [], ◌∷◌, ◌++◌, Option, None, Some, take, drop, fold, refl, sym, ap, subst, ◌∙◌, append-nil, take-append-drop, arith}}
use Rattle.std.specs.Prelude.{All, slice_get, unwrap_or}
use Rattle.sha1.specs.Sha1.{sha1}
use Rattle.cacache_core.specs.Paths.{Names, bucket_names_of}
use Rattle.cacache_disk.specs.{declared.luck.Luck.{Luck}, Tree.{Tree}}
use Rattle.cacache_entry.specs.{Entry.{Entry}, Bucket.{Found, answer_to, after_entry, latest}}
use Rattle.cacache_calls.specs.{declared.{command.Command.{Command}, reply.Reply.{Reply}}, State.{Site}}
use Rattle.cacache_value.specs.{Acts.{Act, AddEntries, Drop, act_of, change, list_of, acts}, Kinds.{is_path_of}}
use Rattle.cacache_history.specs.{declared.record.Record.{Record, TheVariants.{Began, Moved, Stopped}}, AddedEntries.{IsAmong}, Commits.{Deed, does, finds_in, deeds_of_act, deeds_of, deeds}, History.{History, Call, Turn, Made, IsLegal, turn_of, call_after}, Lookups.{lookup_at, WritesEntry, LeavesBucket, SparesKey, WrittenIn, WasWritten, EntriesAreWritten, FoundWasWritten, LookupsFollowWrites, LookupsStay}, Places.{now_before, MoveAt, MoveOfCall, MovesAre}, Setup.{call_site, home}, Values.{steps_of, bucket_at, opening_value, acted}}
use Rattle.cacache_history.proofs.{Entries.{AddedEntries.{acts_last}, Writes.{adds_own, drops_others}}, Histories.{Places.{split_at, at_place, moves_are_of_calls}, Values.{value_follows_acts}}, Each.{any_left, any_right}}

-- ---- deeds of a last move

pub last_among : (act : Act) (turns : List Turn) (turn : Turn) → IsAmong (does act) (deeds_of_act (act_of turn.move.step turn.move.luck turn.move.answer)) → IsAmong (does act) (deeds (turns ++ turn ∷ []))
last_among act [] turn among = any_left (λ (d : Deed). does act ≡ d) (deeds_of turn.move) [] (any_left (λ (d : Deed). does act ≡ d) _ (finds_in turn.move.step turn.move.answer) among)
last_among act (t ∷ turns) turn among = any_right (λ (d : Deed). does act ≡ d) (deeds_of t.move) (deeds (turns ++ turn ∷ [])) (last_among act turns turn among)

-- ---- a record and the bucket

idle_last : (r : Record) → steps_of (r ∷ []) ≡ [] → (before : List Record) → steps_of (before ++ r ∷ []) ≡ steps_of before
idle_last r idle [] = idle
idle_last r idle (Began caller command ∷ before) = idle_last r idle before
idle_last r idle (Moved caller luck None reply ∷ before) = idle_last r idle before
idle_last r idle (Moved caller luck (Some made) reply ∷ before) = ap (λ ms. (record { step = made.0; luck = luck; answer = made.1 }) ∷ ms) (idle_last r idle before)
idle_last r idle (Stopped caller ∷ before) = idle_last r idle before

module _ (h : History) (legal : IsLegal h) (n : ℕ) (digest : List ℕ) where
  -- the entries of the bucket at a place
  abbrev pub bucket : ℕ → List Entry
  bucket place = bucket_at h (take place h.records) digest

  -- the bucket was removed by a call
  record IsDropped : Type 0 where
    pub caller : ℕ
    pub move : MoveAt h n caller
    pub by : MoveOfCall h n caller move
    pub names : Names
    pub among : IsAmong (does (Drop names)) (deeds (call_after (now_before h n).tree move.luck move.made by.call).turns)
    pub here : is_path_of (home h.setup) (bucket_names_of digest) names ≡ true

  -- what the record at the place did to the bucket: nothing, one entry more, or it removed it
  abbrev Changes : Type 0
  Changes =
      (bucket (suc n) ≡ bucket n)
      ⊎ (((e : Entry) × WrittenIn h n (suc n) e × (bucket (suc n) ≡ bucket n ++ e ∷ [])) ⊎ ((bucket (suc n) ≡ []) × IsDropped))

  held : (place : ℕ) → bucket place ≡ list_of ((acted h (take place h.records)).buckets digest)
  held place = ap (λ v. list_of (v.buckets digest)) ((value_follows_acts h legal).acts (take place h.records) (drop place h.records) (sym (take-append-drop place h.records)))

  module _ (r : Record) (is : slice_get h.records n ≡ Some r) where
    next : acted h (take (suc n) h.records) ≡ acted h (take n h.records ++ r ∷ [])
    next = ap (acted h) (split_at h.records n r is).next

    no_step : steps_of (r ∷ []) ≡ [] → Changes
    no_step idle =
        inl (held (suc n) ∙ ap (λ v. list_of (v.buckets digest)) (next ∙ ap (acts (home h.setup) (opening_value h)) (idle_last r idle (take n h.records))) ∙ sym (held n))

  module _ (caller : ℕ) (luck : Luck) (made : Made) (reply : Option Reply) (is : slice_get h.records n ≡ Some (Moved caller luck (Some made) reply)) where
    abbrev move : MoveAt h n caller
    move = record { luck = luck; made = Some made; reply = reply; is = is }

    -- the bucket after the step
    abbrev pub Becomes : Act → List Entry → Type 0
    Becomes act es = list_of ((change (home h.setup) act (acted h (take n h.records))).buckets digest) ≡ es

    pub becomes : (act : Act) (es : List Entry) → act_of made.0 luck made.1 ≡ act → Becomes act es → bucket (suc n) ≡ es
    becomes act es e to =
        held (suc n)
        ∙ ap (λ v. list_of (v.buckets digest)) (next (Moved caller luck (Some made) reply) is ∙ acts_last (home h.setup) (opening_value h) (take n h.records) caller luck made reply)
        ∙ ap (λ a. list_of ((change (home h.setup) a (acted h (take n h.records))).buckets digest)) e ∙ to

    among : (by : MoveOfCall h n caller move) (act : Act) → act_of made.0 luck made.1 ≡ act → IsAmong (does act) (deeds_of_act act)
        → IsAmong (does act) (deeds (call_after (now_before h n).tree luck (Some made) by.call).turns)
    among by act e did = last_among act by.call.turns (turn_of (now_before h n).tree luck made) (subst (λ a. IsAmong (does act) (deeds_of_act a)) (sym e) did)

    unchanged : (act : Act) → act_of made.0 luck made.1 ≡ act → Becomes act (list_of ((acted h (take n h.records)).buckets digest)) → Changes
    unchanged act e to = inl (becomes act _ e to ∙ sym (held n))

    added : (by : MoveOfCall h n caller move) (names : Names) (e : Entry) (es : List Entry) → act_of made.0 luck made.1 ≡ AddEntries names (e ∷ es) → (b : Bool) → is_path_of (home h.setup) (bucket_names_of digest) names ≡ b → Changes
    added by names e es act true here =
        let own = adds_own h legal (call_after (now_before h n).tree luck (Some made) by.call) reply by.reaches names e es (among by (AddEntries names (e ∷ es)) act (inl refl)) in
        let v = acted h (take n h.records) in
        let to : Becomes (AddEntries names (e ∷ es)) (list_of (v.buckets digest) ++ e ∷ [])
        = ap (λ b. list_of (cond b (Some (list_of (v.buckets digest) ++ e ∷ es)) (v.buckets digest))) here ∙ ap (λ l. list_of (v.buckets digest) ++ e ∷ l) own.0 in
        inr (inl (
          e,
          record { place = n; from = omega arith; to = omega arith; caller = caller; move = move; call = by.call; is = by.is; writes = own.1 },
          becomes (AddEntries names (e ∷ es)) _ act to ∙ ap (λ l. l ++ e ∷ []) (sym (held n)),
        ))
    added by names e es act false here =
        let v = acted h (take n h.records) in
        unchanged (AddEntries names (e ∷ es)) act (ap (λ b. list_of (cond b (Some (list_of (v.buckets digest) ++ e ∷ es)) (v.buckets digest))) here)

    dropped : (by : MoveOfCall h n caller move) (names : Names) → act_of made.0 luck made.1 ≡ Drop names → (b : Bool) → is_path_of (home h.setup) (bucket_names_of digest) names ≡ b → Changes
    dropped by names act true here =
        let v = acted h (take n h.records) in
        inr (inr (
          becomes (Drop names) [] act (ap (λ b. list_of (cond b None (v.buckets digest))) here),
          record { caller = caller; move = move; by = by; names = names; among = among by (Drop names) act (inl refl); here = here },
        ))
    dropped by names act false here =
        let v = acted h (take n h.records) in
        unchanged (Drop names) act (ap (λ b. list_of (cond b None (v.buckets digest))) here)

    empty : (names : Names) → act_of made.0 luck made.1 ≡ AddEntries names [] → (b : Bool) → is_path_of (home h.setup) (bucket_names_of digest) names ≡ b → Changes
    empty names act true here =
        let v = acted h (take n h.records) in
        unchanged (AddEntries names []) act (ap (λ b. list_of (cond b (Some (list_of (v.buckets digest) ++ [])) (v.buckets digest))) here ∙ append-nil (list_of (v.buckets digest)))
    empty names act false here =
        let v = acted h (take n h.records) in
        unchanged (AddEntries names []) act (ap (λ b. list_of (cond b (Some (list_of (v.buckets digest) ++ [])) (v.buckets digest))) here)

    step_changes : (act : Act) → act_of made.0 luck made.1 ≡ act → Changes
    step_changes (AddEntries names []) e = empty names e (is_path_of (home h.setup) (bucket_names_of digest) names) refl
    step_changes (AddEntries names (x ∷ es)) e = added (moves_are_of_calls h legal n caller move) names x es e (is_path_of (home h.setup) (bucket_names_of digest) names) refl
    step_changes (Drop names) e = dropped (moves_are_of_calls h legal n caller move) names e (is_path_of (home h.setup) (bucket_names_of digest) names) refl
    step_changes act e = unchanged act e refl

  record_changes : (r : Record) → slice_get h.records n ≡ Some r → Changes
  record_changes (Moved caller luck (Some made) reply) is = step_changes caller luck made reply is (act_of made.0 luck made.1) refl
  record_changes r is = no_step r is refl

  changes : Changes
  changes = search (rules, at_place, record_changes)

-- ---- entries were written

module _ (h : History) where
  pub written_wider : (m n k l : ℕ) → k ≤ m → n ≤ l → (e : Entry) → WrittenIn h m n e → WrittenIn h k l e
  written_wider m n k l from to e w = search rules

  pub entries_are_written : IsLegal h → EntriesAreWritten h
  entries_are_written legal zero digest =
      All-same (WrittenIn h 0 0) (bucket_at h [] digest) [] (ap (λ v. list_of (v.buckets digest)) (value_follows_acts h legal).nothing) (All-nil (WrittenIn h 0 0))
  entries_are_written legal (suc n) digest =
      let Q = WrittenIn h 0 (suc n) in
      let old : All Q (bucket h legal n digest n) = All-weaker (WrittenIn h 0 n) Q (written_wider 0 n 0 (suc n) (omega arith) (omega arith)) (bucket h legal n digest n) (entries_are_written legal n digest) in
      elim (changes h legal n digest) [
        | inl same ↦ All-same Q _ _ same old
        | inr (inl adds) ↦ All-same Q _ _ adds.2 (All-push Q (bucket h legal n digest n) adds.0 old (written_wider n (suc n) 0 (suc n) (omega arith) (omega arith) adds.0 adds.1))
        | inr (inr drops) ↦ All-same Q _ [] drops.0 (All-nil Q)
      ]

-- ---- what is found was written

-- one of these entries answers so, if nothing did before
found_among : (P : Entry → Type 0) (key : List ℕ) (f : Found) (es : List Entry) (before : Option Found) → All P es → fold (after_entry key) before es ≡ Some f
    → (before ≡ Some f) ⊎ ((e : Entry) × P e × (answer_to key e ≡ Some (Some f)))
found_among P key f [] before all is = inl is
found_among P key f (e ∷ es) before all is =
    elim (found_among P key f es (after_entry key before e) (All-tail P e es all) is) [
      | inl here ↦ by (answer_to key e) refl here
      | inr later ↦ inr later
    ]
  where
    by : (answer : Option (Option Found)) → answer_to key e ≡ answer → unwrap_or answer before ≡ Some f → (before ≡ Some f) ⊎ ((e : Entry) × P e × (answer_to key e ≡ Some (Some f)))
    by None none now = inl now
    by (Some x) some now = inr (e, All-head P e es all, some ∙ ap Some now)

pub found_was_written : (h : History) → IsLegal h → FoundWasWritten h
found_was_written h legal place key found is =
    elim (found_among (WrittenIn h 0 place) key found (bucket_at h (take place h.records) (sha1 key)) None (entries_are_written h legal place (sha1 key)) is) [
      | inl never ↦ absurd cc
      | inr wrote ↦ wrote
    ]

-- ---- lookups follow writes

module _ (h : History) (legal : IsLegal h) (key : List ℕ) where
  -- an entry more answers, or the lookup finds what it found
  one_more : (e : Entry) (es more : List Entry) → more ≡ es ++ e ∷ [] → (answer : Option (Option Found)) → answer_to key e ≡ answer
      → (latest key more ≡ latest key es) ⊎ (answer_to key e ≡ Some (latest key more))
  one_more e es more is answer none = grind (arith, common_steps)

  not_dropped : (m n place : ℕ) → m ≤ place → place < n → MovesAre h m n (LeavesBucket key) → IsDropped h legal place (sha1 key) → ⊥
  not_dropped m n place from to leaves d =
      let apart = drops_others h legal (call_after (now_before h place).tree d.move.luck d.move.made d.by.call) d.move.reply d.by.reaches key
      (subst (LeavesBucket key) (after_command (now_before h place).tree d.move.luck d.move.made d.by.call) (leaves place d.caller d.by.call from to d.move d.by.is)) d.names d.among in
      let no : true ≡ false = sym d.here ∙ apart in absurd cc
    where
      after_command : (t : Tree) (luck : Luck) (made : Option Made) (call : Call) → call.command ≡ (call_after t luck made call).command
      after_command t luck None call = refl
      after_command t luck (Some made) call = refl

  -- what is found so many places on
  abbrev Follows : ℕ → ℕ → Type 0
  Follows m n = (lookup_at h n key ≡ lookup_at h m key) ⊎ WasWritten h m n key (lookup_at h n key)

  follows_next : (m n : ℕ) → m ≤ n → MovesAre h m (suc n) (LeavesBucket key) → Follows m n → Follows m (suc n)
  follows_next m n from leaves so =
      elim (changes h legal n (sha1 key)) [
        | inl same ↦ as_before (ap (latest key) same)
        | inr (inl adds) ↦
            elim (one_more adds.0 (bucket h legal n (sha1 key) n) (bucket h legal n (sha1 key) (suc n)) adds.2 (answer_to key adds.0) refl) [
              | inl same ↦ as_before same
              | inr answers ↦ inr (adds.0, written_wider h n (suc n) m (suc n) from (omega arith) adds.0 adds.1, answers)
            ]
        | inr (inr drops) ↦ absurd (not_dropped m (suc n) n from (omega arith) leaves drops.1)
      ]
    where
      as_before : lookup_at h (suc n) key ≡ lookup_at h n key → Follows m (suc n)
      as_before same =
          elim so [
            | inl was ↦ inl (same ∙ was)
            | inr wrote ↦ inr (wrote.0, written_wider h m n m (suc n) (omega arith) (omega arith) wrote.0 wrote.1, wrote.2 ∙ ap Some (sym same))
          ]

  follows : (m k : ℕ) → MovesAre h m (m + k) (LeavesBucket key) → Follows m (m + k)
  follows m zero leaves = let same : m ≡ m + 0 = omega arith in subst (Follows m) same (inl refl)
  follows m (suc k) leaves =
      let same : suc (m + k) ≡ m + suc k = omega arith in
      subst (Follows m) same
      (follows_next m (m + k) (omega arith) (subst (λ n. MovesAre h m n (LeavesBucket key)) (sym same) leaves)
      (follows m k (λ place caller call from to move is. leaves place caller call from (omega (arith, to)) move is)))

pub lookups_follow_writes : (h : History) → IsLegal h → LookupsFollowWrites h
lookups_follow_writes h legal key m n le leaves =
    let same : m + (n - m) ≡ n = omega (arith, le) in
    subst (λ l. Follows h legal key m l) same (follows h legal key m (n - m) (subst (λ l. MovesAre h m l (LeavesBucket key)) (sym same) leaves))

-- ---- a command that spares the key

pub answers_own : (key : List ℕ) (e : Entry) (x : Option Found) → answer_to key e ≡ Some x → e.key ≡ key
answers_own key e x a = search rules

pub spared : (key : List ℕ) (c : Command) (site : Site) (e : Entry) (x : Option Found) → SparesKey key c → WritesEntry site c e → answer_to key e ≡ Some x → ⊥
spared key c site e x spares w a = grind (arith, answers_own)

pub spares_leaves : (key : List ℕ) (c : Command) → SparesKey key c → LeavesBucket key c
spares_leaves key c s = grind (arith, common_steps)

pub lookups_stay : (h : History) → IsLegal h → LookupsStay h
lookups_stay h legal key m n le spares =
    elim (lookups_follow_writes h legal key m n le (λ place caller call from to move is. spares_leaves key call.command (spares place caller call from to move is))) [
      | inl same ↦ same
      | inr wrote ↦
          let w = wrote.1 in
          absurd (spared key w.call.command (call_site h.setup w.call.number) wrote.0 _ (spares w.place w.caller w.call w.from w.to w.move w.is) w.writes wrote.2)
    ]

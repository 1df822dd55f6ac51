-- What lines and their beginnings add to a bucket's bytes; the last entry that answers to a key decides a lookup.
use Rattle.std.proofs.{lemmas.{Grind.{common_steps}, List.{take-append-le, map-append, reverse-append, Sums.{fold-append}}, Str.{is_utf8-from_IsUtf8}, Slice.Eq.{bytes_eq-Decides}}, Common.{rules, ◌≡◌, ℕ, zero, suc, ◌+◌, ◌-◌, ◌<◌, ◌≤◌, List, [], ◌∷◌, ◌++◌, Bool, true, cond, length, take, Option, Some, None, option_and_then, map, bytes_eq, refl, ap, ◌∙◌, arith, append-nil, length-append, inl, inr, ◌⊎◌, option_map, drop, fold, sym}}
use Rattle.std.specs.{List.{cons_option}, Str.{is_utf8}, Prelude.{unwrap_or, is_some, if◌then◌else◌, reverse}, Option.{option_to_list, option_flatten}}
use Rattle.hex.specs.Hex.{lower_digits}
use Rattle.serde_json.specs.Data.{object}
use Rattle.cacache_core.specs.Integrity.{sha256_hex}
use Rattle.cacache_entry.specs.{Entry.{Entry, members_of, text_of, piece_of, line_of}, EntryTexts.{entry_read, read_entry}, FittingEntries.{IsEntry, IsWritable}, Bucket.{cut, without_cr, entry_of_parts, entry_of_piece, pieces_of, entries_of, Found, answer_to, after_entry, latest, NoneAnswers, decides, count_to_deciding, pieces_read}, EntryLaws.{EmptyHoldsNothing, LinesAppend, TornTextsReadAsNothing, TornLinesAddNothing, TornLinesHurtNoOther, LastAnswerDecides, NoAnswerIsNone, LastLineIsEnough}}
use Rattle.cacache_entry.proofs.{Pieces.{lacks, lacks-append, lacks-take, cut-append, cut-lacks, without_cr-lacks, entries_split, found, cut-last, entries-piece, entries-last}, EntryTexts.{lacks-sha256_hex, IsUtf8-piece}, PlainTexts.{lacks-plain, plain-compact_text}, ReadsBack.{MembersAreWhole-members_of, read_entry-text_of}, Torn.{read-torn}, EntryUtf8.{IsUtf8-text_of}}
use Rattle.memchr.specs.Find.{IsLastByte, is_byte}

-- after bytes and a line feed, a piece without LF and CR adds the entry that it is
entries_piece : (x p : List ℕ) (o : Option Entry) → lacks 10 p ≡ true → lacks 13 p ≡ true → entry_of_piece p ≡ o → entries_of (x ++ 10 ∷ p) ≡ entries_of x ++ cons_option o []
entries_piece x p o no_lf no_cr is = search (rules, entries_split, cut-lacks, without_cr-lacks)

both_none : (b : Bool) → let none : Option Entry = None in cond b none none ≡ none
both_none b = grind (arith, common_steps)

-- a list is taken past a byte in its middle
take_past : (s t : List ℕ) (b m k : ℕ) → k ≡ length s + suc m → take k (s ++ b ∷ t) ≡ s ++ b ∷ take m t
take_past [] t b m zero e = absurd (omega arith)
take_past [] t b m (suc k) e = let same : k ≡ m = omega arith in ap (λ i. b ∷ take i t) same
take_past (x ∷ s) t b m zero e = absurd (omega arith)
take_past (x ∷ s) t b m (suc k) e = ap (λ l. x ∷ l) (take_past s t b m k (omega arith))

-- a proper beginning of an entry's text reads as nothing
pub torn_texts_read_as_nothing : TornTextsReadAsNothing
torn_texts_read_as_nothing e n h f short = read-torn (members_of e) (MembersAreWhole-members_of e h f) n short

module _ (e : Entry) (h : IsEntry e) (f : IsWritable e) where
  lacks-text_of : (at : ℕ) → at < 32 → lacks at (text_of e) ≡ true
  lacks-text_of at low = lacks-plain at low (text_of e) (plain-compact_text (object (members_of e)) (MembersAreWhole-members_of e h f))

  lacks-piece_of : (at : ℕ) → at < 32 → lacks at (0 ∷ lower_digits) ≡ true → lacks at (9 ∷ []) ≡ true → lacks at (piece_of e) ≡ true
  lacks-piece_of at low digits tab = search (rules, lacks-append, lacks-sha256_hex, lacks-text_of)

  -- a TAB cuts bytes in two that begin with the digest and hold no further TAB
  two_parts : (t : List ℕ) → lacks 9 t ≡ true → cut 9 (sha256_hex (text_of e) ++ 9 ∷ t) ≡ sha256_hex (text_of e) ∷ t ∷ []
  two_parts t alone = search (rules, cut-append, cut-lacks, lacks-sha256_hex)

  -- the piece of an entry is that entry
  pub entry_of_piece-whole : entry_of_piece (piece_of e) ≡ Some e
  entry_of_piece-whole =
      ap (λ b. cond b (entry_of_parts (cut 9 (piece_of e))) None) (is_utf8-from_IsUtf8 (piece_of e) (IsUtf8-piece (text_of e) (text_of e) (IsUtf8-text_of e h f.time)))
      ∙ ap entry_of_parts (two_parts (text_of e) (lacks-text_of 9 (omega arith))) ∙ ap (λ b. cond b (read_entry (text_of e)) None) ((bytes_eq-Decides (sha256_hex (text_of e)) (sha256_hex (text_of e))).1 refl)
      ∙ read_entry-text_of e h f

  torn_parts : (k : ℕ) → k < length (piece_of e) → (k < length (sha256_hex (text_of e)) + 1) ⊎ (length (sha256_hex (text_of e)) + 1 ≤ k) → entry_of_parts (cut 9 (take k (piece_of e))) ≡ None
  torn_parts k short (inl first) =
      let digest = sha256_hex (text_of e) in
      ap (λ p. entry_of_parts (cut 9 p)) (take-append-le k digest (9 ∷ text_of e) (omega arith))
      ∙ ap entry_of_parts (cut-lacks 9 (take k digest) (lacks-take 9 k digest (lacks-sha256_hex 9 (text_of e) refl)))
  torn_parts k short (inr past) =
      let digest = sha256_hex (text_of e) in
      let m = k - (length digest + 1) in
      let inside : m < length (text_of e) = omega (arith, length-append digest (9 ∷ text_of e)) in
      let rest = take m (text_of e) in
      ap (λ p. entry_of_parts (cut 9 p)) (take_past digest (text_of e) 9 m k (omega arith)) ∙ ap entry_of_parts (two_parts rest (lacks-take 9 m (text_of e) (lacks-text_of 9 (omega arith))))
      ∙ ap (λ o. cond (bytes_eq digest (sha256_hex rest)) (option_and_then entry_read o) None) (torn_texts_read_as_nothing e m h f inside) ∙ both_none (bytes_eq digest (sha256_hex rest))

  entry_of_piece-torn : (k : ℕ) → k < length (piece_of e) → entry_of_piece (take k (piece_of e)) ≡ None
  entry_of_piece-torn k short = search (rules, torn_parts, both_none)

-- after any bytes, a line adds its entry
pub lines_append : LinesAppend
lines_append x e h f = entries_piece x (piece_of e) (Some e) (lacks-piece_of e h f 10 (omega arith) refl refl) (lacks-piece_of e h f 13 (omega arith) refl refl) (entry_of_piece-whole e h f)

-- the pieces of bytes followed by a line
pub pieces_of-line : (x : List ℕ) (e : Entry) → IsEntry e → IsWritable e → pieces_of (x ++ line_of e) ≡ pieces_of x ++ piece_of e ∷ []
pieces_of-line x e h f =
    let p = piece_of e in
    ap (map without_cr) (cut-append 10 x p ∙ ap (λ ps. cut 10 x ++ ps) (cut-lacks 10 p (lacks-piece_of e h f 10 (omega arith) refl refl)))
    ∙ map-append without_cr (cut 10 x) (p ∷ []) ∙ ap (λ q. pieces_of x ++ q ∷ []) (without_cr-lacks p (lacks-piece_of e h f 13 (omega arith) refl refl))

pub empty_holds_nothing : EmptyHoldsNothing
empty_holds_nothing = ap (λ o. cons_option o []) (both_none (is_utf8 []))

-- after any bytes, a proper beginning of a line adds no entry
pub torn_lines_add_nothing : TornLinesAddNothing
torn_lines_add_nothing x e zero h f short = ap entries_of (append-nil x)
torn_lines_add_nothing x e (suc k) h f short =
    let piece = piece_of e in
    entries_piece x (take k piece) None (lacks-take 10 k piece (lacks-piece_of e h f 10 (omega arith) refl refl)) (lacks-take 13 k piece (lacks-piece_of e h f 13 (omega arith) refl refl)) (entry_of_piece-torn e h f k (omega arith))
    ∙ append-nil (entries_of x)

-- nor does it harm the line that follows it
pub torn_lines_hurt_no_other : TornLinesHurtNoOther
torn_lines_hurt_no_other x e f n h fits short h' fits' = search (rules, lines_append, torn_lines_add_nothing)

-- ---- the last entry that answers to a key decides a lookup

-- entries that don't answer change nothing
after_none : (key : List ℕ) (found : Option Found) (es : List Entry) → NoneAnswers key es → fold (after_entry key) found es ≡ found
after_none key found [] h = refl
after_none key found (e ∷ es) h = ap (λ a. fold (after_entry key) (unwrap_or a found) es) h.0 ∙ after_none key found es h.1

pub last_answer_decides : LastAnswerDecides
last_answer_decides key before after e found is none =
    fold-append (after_entry key) None before (e ∷ after) ∙ ap (λ a. fold (after_entry key) (unwrap_or a (latest key before)) after) is ∙ after_none key found after none

pub no_answer_is_none : NoAnswerIsNone
no_answer_is_none key es none = after_none key None es none

-- ---- the pieces from the end

-- one more entry, if there is one, answers in place of those before it
latest-more : (key : List ℕ) (es : List Entry) (o : Option Entry) → latest key (es ++ option_to_list o) ≡ unwrap_or (option_and_then (answer_to key) o) (latest key es)
latest-more key es o = grind (arith, common_steps)

-- a lookup finds what the piece after the last line feed answers; otherwise, what is found before that line feed
pub latest-last : (key bs p : List ℕ) (i : ℕ) (answer : Option (Option Found)) → IsLastByte (is_byte 10) bs (Some i) → p ≡ drop (i + 1) bs → answer ≡ option_and_then (answer_to key) (entry_of_piece (without_cr p))
    → unwrap_or answer (latest key (entries_of (take i bs))) ≡ latest key (entries_of bs)
latest-last key bs p i answer h behind is =
    let before = latest key (entries_of (take i bs)) in
    ap (λ a. unwrap_or a before) (is ∙ ap (λ q. option_and_then (answer_to key) (entry_of_piece (without_cr q))) behind)
    ∙ sym (latest-more key (entries_of (take i bs)) (entry_of_piece (without_cr (drop (i + 1) bs)))) ∙ ap (latest key) (sym (entries-last bs i h))

flat : {A B : Type 0} (f : A → B) (o : Option (Option A)) → option_map f (option_flatten o) ≡ unwrap_or (option_map (option_map f) o) None
flat f o = grind (arith, common_steps)

-- in a single piece, a lookup finds what the piece answers, if it does
pub latest-alone : {A : Type 0} (view : A → Found) (key p : List ℕ) (answer : Option (Option A)) → IsLastByte (is_byte 10) p None → option_map (option_map view) answer ≡ option_and_then (answer_to key) (entry_of_piece (without_cr p))
    → option_map view (option_flatten answer) ≡ latest key (entries_of p)
latest-alone view key p answer h is =
    flat view answer ∙ ap (λ a. unwrap_or a None) is ∙ sym (latest-more key [] (entry_of_piece (without_cr p))) ∙ ap (latest key) (sym (entries-piece p (found 10 p None h)))

-- ---- how many pieces are read

-- the pieces before the last line feed, and the piece after it
pieces_of-last : (bs : List ℕ) (i : ℕ) → IsLastByte (is_byte 10) bs (Some i) → pieces_of bs ≡ pieces_of (take i bs) ++ without_cr (drop (i + 1) bs) ∷ []
pieces_of-last bs i h = ap (map without_cr) (cut-last bs i h) ∙ map-append without_cr (cut 10 (take i bs)) (drop (i + 1) bs ∷ [])

count_first : (key : List ℕ) (o : Option (Option Found)) (p : List ℕ) (ps : List (List ℕ)) → o ≡ option_and_then (answer_to key) (entry_of_piece p) → count_to_deciding key (p ∷ ps) ≡ (if is_some o then 1 else suc (count_to_deciding key ps))
count_first key o p ps is = ap (λ a. if is_some a then 1 else suc (count_to_deciding key ps)) (sym is)

-- a lookup reads the piece after the last line feed; if that doesn't decide, it reads the pieces before it too
pub pieces_read-last : (key bs p : List ℕ) (i : ℕ) (answer : Option (Option Found)) → IsLastByte (is_byte 10) bs (Some i) → p ≡ drop (i + 1) bs → answer ≡ option_and_then (answer_to key) (entry_of_piece (without_cr p))
    → pieces_read key bs ≡ (if is_some answer then 1 else suc (pieces_read key (take i bs)))
pieces_read-last key bs p i answer h behind is =
    let q = without_cr (drop (i + 1) bs) in
    ap (λ ps. count_to_deciding key (reverse ps)) (pieces_of-last bs i h) ∙ ap (count_to_deciding key) (reverse-append (pieces_of (take i bs)) (q ∷ []))
    ∙ count_first key answer q (reverse (pieces_of (take i bs))) (is ∙ ap (λ l. option_and_then (answer_to key) (entry_of_piece (without_cr l))) behind)

either_one : (b : Bool) → (if b then 1 else suc 0) ≡ 1
either_one b = grind (arith, common_steps)

-- in a single piece, it reads that piece
pub pieces_read-alone : (key p : List ℕ) → IsLastByte (is_byte 10) p None → pieces_read key p ≡ 1
pieces_read-alone key p h = ap (λ ps. count_to_deciding key (reverse (map without_cr ps))) (found 10 p None h) ∙ either_one (decides key (without_cr p))

pub last_line_is_enough : LastLineIsEnough
last_line_is_enough key x e found h f is =
    let p = piece_of e in
    ap (λ ps. count_to_deciding key (reverse ps)) (pieces_of-line x e h f) ∙ ap (count_to_deciding key) (reverse-append (pieces_of x) (p ∷ []))
    ∙ count_first key (Some found) p (reverse (pieces_of x)) (sym (ap (option_and_then (answer_to key)) (entry_of_piece-whole e h f) ∙ is))

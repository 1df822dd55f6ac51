-- How lists grow and are cut, and bytes are cut into pieces, from their beginning and from their end.
use Rattle.std.proofs.{lemmas.{Grind.{common_steps}, Bool.{eq-eqb, and_parts, and_from, eqb-true}, List.{drop_more, get_or-drop, map-append, Elements.{filter_map-append}}, Str.{IsUtf8-from_is_utf8, is_utf8-from_IsUtf8}, Slice.Eq.{bytes_eq-Decides}}, Common.{arith, ◌≡◌, List, ◌++◌, Result, ◌≢◌, ℕ, zero, suc, [], ◌∷◌, Bool, true, not, ◌&&◌, ◌==◌, cond, length, take, get_or, ◌-◌, refl, rules, ◌+◌, ◌<◌, ◌≤◌, false, Option, Some, None, drop, sym, ap, ◌∙◌, bytes_eq, take-append-drop, length-drop}}
use Rattle.std.specs.{Prelude.{OnOk, if◌then◌else◌, MatchOption, IsUtf8, is_some, map, filter_map}, Result.{is_ok}, List.{onto_first, cons_option}, Option.{option_to_list}, Str.{is_utf8}}
use Rattle.cacache_entry.specs.{Bucket.{cut, without_cr, entry_of_parts, entry_of_piece, entries_of, CutsAt}, Entry.{Entry}, EntryTexts.{read_entry}, EntryLaws.{EntriesSplit}}
use Rattle.cacache_core.specs.Integrity.{sha256_hex}
use Rattle.memchr.specs.Find.{IsFirstByte, IsLastByte, is_byte}

-- what always holds also holds on success
pub if_ok : {T E : Type 0} (r : Result T E) (P : Type 0) → P → OnOk r P
if_ok r P p = grind (arith, common_steps)

-- a growth by `more` that makes the whole
pub appended : {A T E : Type 0} (r : Result T E) (new old more whole : List A) → new ≡ (if is_ok r then old ++ more else old) → old ++ more ≡ whole → OnOk r (new ≡ whole)
appended r new old more whole is same = grind (arith, common_steps)

-- ---- how a list is cut

-- no byte is `at`
abbrev pub lacks : ℕ → List ℕ → Bool
lacks at [] = true
lacks at (b ∷ bs) = not (b == at) && lacks at bs

-- a byte that two lists lack isn't in the two together
pub lacks-append : (at : ℕ) (xs ys : List ℕ) → lacks at xs ≡ true → lacks at ys ≡ true → lacks at (xs ++ ys) ≡ true
lacks-append at [] ys h k = k
lacks-append at (x ∷ xs) ys h k = let p = and_parts _ _ h in and_from _ _ p.0 (lacks-append at xs ys p.1 k)

-- nor in a beginning of them
pub lacks-take : (at n : ℕ) (xs : List ℕ) → lacks at xs ≡ true → lacks at (take n xs) ≡ true
lacks-take at zero xs h = refl
lacks-take at (suc n) [] h = refl
lacks-take at (suc n) (x ∷ xs) h = let p = and_parts _ _ h in and_from _ _ p.0 (lacks-take at n xs p.1)

onto_first_some : (t : Bool) (b : ℕ) (ps : List (List ℕ)) → cond t ([] ∷ ps) (onto_first b ps) ≢ []
onto_first_some t b ps e = grind (arith, common_steps)

-- a list is cut into one piece or more
pub cut_some : (at : ℕ) (xs : List ℕ) → cut at xs ≢ []
cut_some at [] e = cc
cut_some at (x ∷ xs) e = onto_first_some (x == at) x (cut at xs) e

onto_first-append : (b : ℕ) (ps qs : List (List ℕ)) → ps ≢ [] → onto_first b (ps ++ qs) ≡ onto_first b ps ++ qs
onto_first-append b ps qs some = grind (arith, common_steps)

step : (t : Bool) (b : ℕ) (ps qs rs : List (List ℕ)) → ps ≢ [] → rs ≡ ps ++ qs → cond t ([] ∷ rs) (onto_first b rs) ≡ cond t ([] ∷ ps) (onto_first b ps) ++ qs
step t b ps qs rs some e = grind (arith, onto_first-append)

-- a cut between two lists makes the pieces of both
pub cut-append : (at : ℕ) (xs ys : List ℕ) → cut at (xs ++ at ∷ ys) ≡ cut at xs ++ cut at ys
cut-append at [] ys = rw (eq-eqb at at refl) refl
cut-append at (x ∷ xs) ys = step (x == at) x (cut at xs) (cut at ys) (cut at (xs ++ at ∷ ys)) (cut_some at xs) (cut-append at xs ys)

uncut : (t : Bool) (b : ℕ) (bs : List ℕ) (ps : List (List ℕ)) → not t ≡ true → ps ≡ bs ∷ [] → cond t ([] ∷ ps) (onto_first b ps) ≡ (b ∷ bs) ∷ []
uncut t b bs ps h e = grind (arith, common_steps)

-- a list without the byte is one piece
pub cut-lacks : (at : ℕ) (xs : List ℕ) → lacks at xs ≡ true → cut at xs ≡ xs ∷ []
cut-lacks at [] h = refl
cut-lacks at (x ∷ xs) h = let p = and_parts _ _ h in uncut (x == at) x xs (cut at xs) p.0 (cut-lacks at xs p.1)

lacks-get_or : (at : ℕ) (xs : List ℕ) (i : ℕ) → not (0 == at) ≡ true → lacks at xs ≡ true → not (get_or xs i 0 == at) ≡ true
lacks-get_or at [] i z h = z
lacks-get_or at (x ∷ xs) zero z h = (and_parts _ _ h).0
lacks-get_or at (x ∷ xs) (suc i) z h = lacks-get_or at xs i z (and_parts _ _ h).1

kept : {A : Type 0} (t : Bool) (a b : A) → not t ≡ true → cond t a b ≡ b
kept t a b h = grind (arith, common_steps)

-- a list without a CR keeps its end
pub without_cr-lacks : (xs : List ℕ) → lacks 13 xs ≡ true → without_cr xs ≡ xs
without_cr-lacks xs h = kept (get_or xs (length xs - 1) 0 == 13) (take (length xs - 1) xs) xs (lacks-get_or 13 xs (length xs - 1) refl h)

-- ---- how bytes are cut into pieces, from their beginning and from their end

differs : (t : Bool) → (t ≡ true → ⊥) → not t ≡ true
differs t h = grind (arith, common_steps)

-- if every element of a list differs from the byte, the list lacks it
pub lacks-from : (at : ℕ) (bs : List ℕ) → ((k : ℕ) → k < length bs → (get_or bs k 0 == at) ≡ true → ⊥) → lacks at bs ≡ true
lacks-from at [] h = refl
lacks-from at (b ∷ bs) h = and_from _ _ (differs (b == at) (h 0 (omega arith))) (lacks-from at bs (λ k l. h (suc k) (omega arith)))

-- and its beginning lacks it, if the elements before i differ
pub lacks-front : (at i : ℕ) (bs : List ℕ) → ((k : ℕ) → k < i → (get_or bs k 0 == at) ≡ true → ⊥) → lacks at (take i bs) ≡ true
lacks-front at zero bs h = refl
lacks-front at (suc i) [] h = refl
lacks-front at (suc i) (b ∷ bs) h = and_from _ _ (differs (b == at) (h 0 (omega arith))) (lacks-front at i bs (λ k l. h (suc k) (omega arith)))

-- and its end lacks it, if the elements from i on differ
lacks-back : (at i : ℕ) (bs : List ℕ) → ((k : ℕ) → i ≤ k → k < length bs → (get_or bs k 0 == at) ≡ true → ⊥) → lacks at (drop i bs) ≡ true
lacks-back at i bs h = lacks-from at (drop i bs) (λ k l e. h (i + k) (omega arith) (omega (arith, length-drop i bs)) (ap (λ b. b == at) (sym (get_or-drop i bs k 0)) ∙ e))

-- a list around one of its places
around : (at : ℕ) (bs : List ℕ) (i : ℕ) → i < length bs → get_or bs i 0 ≡ at → bs ≡ take i bs ++ at ∷ drop (i + 1) bs
around at bs i inside is = sym (take-append-drop i bs) ∙ ap (λ l. take i bs ++ l) (drop_more bs i 0 inside ∙ ap (λ b. b ∷ drop (i + 1) bs) is)

-- the first piece ends at the first place of the byte
pub cuts_at : (at : ℕ) (bs : List ℕ) (i : ℕ) → i < length bs → get_or bs i 0 ≡ at → lacks at (take i bs) ≡ true → CutsAt at bs i
cuts_at at bs i inside is front =
    let alone = cut-lacks at (take i bs) front in
    (inside, is, ap (cut at) (around at bs i inside is) ∙ cut-append at (take i bs) (drop (i + 1) bs) ∙ ap (λ ps. ps ++ cut at (drop (i + 1) bs)) alone, alone)

more_parts : (a b : List ℕ) (ps : List (List ℕ)) → ps ≢ [] → entry_of_parts (a ∷ b ∷ ps) ≡ None
more_parts a b ps some = grind (arith, common_steps)

-- two cuts or more
pub too_many : (a b c : List ℕ) → entry_of_parts (a ∷ b ∷ cut 9 c) ≡ None
too_many a b c = more_parts a b (cut 9 c) (cut_some 9 c)

-- ---- what `memchr` finds

-- `memchr` finds the place at which the first piece ends
pub found : (at : ℕ) (bs : List ℕ) (r : Option ℕ) → IsFirstByte (is_byte at) bs r → MatchOption r (cut at bs ≡ bs ∷ []) (λ i. CutsAt at bs i)
found at bs r h = grind (arith, cut-lacks, lacks-from, cuts_at, lacks-front)

-- ---- the entry of a piece, from its parts

unread : (b : Bool) (o : Option Entry) → o ≡ None → cond b o None ≡ None
unread b o e = grind (arith, common_steps)

-- a piece that isn't UTF-8 is no entry
pub entry_of_piece-not_utf8 : (p : List ℕ) → (IsUtf8 p → ⊥) → None ≡ entry_of_piece p
entry_of_piece-not_utf8 p bad = by (is_utf8 p) refl
  where
    by : (b : Bool) → is_utf8 p ≡ b → None ≡ cond b (entry_of_parts (cut 9 p)) None
    by true e = absurd (bad (IsUtf8-from_is_utf8 p e))
    by false e = refl

again : (p rest : List ℕ) (i : ℕ) → CutsAt 9 p i → rest ≡ drop (i + 1) p → (r : Option ℕ) → MatchOption r (cut 9 rest ≡ rest ∷ []) (λ k. CutsAt 9 rest k) → is_some r ≡ true → entry_of_parts (cut 9 p) ≡ None
again p rest i h e r m s = grind (arith, too_many)

-- nor is one with a further TAB
pub entry_of_piece-more : (p rest : List ℕ) (i : ℕ) → CutsAt 9 p i → rest ≡ drop (i + 1) p → (r : Option ℕ) → MatchOption r (cut 9 rest ≡ rest ∷ []) (λ k. CutsAt 9 rest k) → is_some r ≡ true → None ≡ entry_of_piece p
entry_of_piece-more p rest i h e r m s = sym (unread (is_utf8 p) (entry_of_parts (cut 9 p)) (again p rest i h e r m s))

alone : (rest : List ℕ) (r : Option ℕ) → MatchOption r (cut 9 rest ≡ rest ∷ []) (λ k. CutsAt 9 rest k) → is_some r ≡ false → cut 9 rest ≡ rest ∷ []
alone rest r m s = grind (arith, common_steps)

two : (p rest : List ℕ) (i : ℕ) → CutsAt 9 p i → rest ≡ drop (i + 1) p → (r : Option ℕ) → MatchOption r (cut 9 rest ≡ rest ∷ []) (λ k. CutsAt 9 rest k) → is_some r ≡ false → cut 9 p ≡ take i p ∷ rest ∷ []
two p rest i h e r m s = h.2 ∙ ap (λ l. take i p ∷ cut 9 l) (sym e) ∙ ap (λ ps. take i p ∷ ps) (alone rest r m s)

unequal : (a b : List ℕ) → (a ≡ b → ⊥) → bytes_eq a b ≡ false
unequal a b h = search rules

-- nor is one with another digest
pub entry_of_piece-wrong : (p rest : List ℕ) (i : ℕ) → CutsAt 9 p i → rest ≡ drop (i + 1) p → (r : Option ℕ) → MatchOption r (cut 9 rest ≡ rest ∷ []) (λ k. CutsAt 9 rest k) → is_some r ≡ false
    → (take i p ≡ sha256_hex rest → ⊥) → None ≡ entry_of_piece p
entry_of_piece-wrong p rest i h e r m s wrong = search (rules, unread, two, unequal)

-- any other piece is the entry that its text reads as
pub entry_of_piece-read : (p rest : List ℕ) (i : ℕ) → IsUtf8 p → CutsAt 9 p i → rest ≡ drop (i + 1) p → (r : Option ℕ) → MatchOption r (cut 9 rest ≡ rest ∷ []) (λ k. CutsAt 9 rest k) → is_some r ≡ false
    → take i p ≡ sha256_hex rest → entry_of_piece p ≡ read_entry rest
entry_of_piece-read p rest i utf8 h e r m s right =
    ap (λ b. cond b (entry_of_parts (cut 9 p)) None) (is_utf8-from_IsUtf8 p utf8) ∙ ap entry_of_parts (two p rest i h e r m s)
    ∙ ap (λ b. cond b (read_entry rest) None) ((bytes_eq-Decides (take i p) (sha256_hex rest)).1 right)

-- ---- the loops over the pieces

one : (o : Option Entry) → cons_option o [] ≡ option_to_list o
one o = grind (arith, common_steps)

-- bytes without a line feed are one piece
pub entries-piece : (p : List ℕ) → cut 10 p ≡ p ∷ [] → entries_of p ≡ option_to_list (entry_of_piece (without_cr p))
entries-piece p e = ap (λ ps. filter_map entry_of_piece (map without_cr ps)) e ∙ one (entry_of_piece (without_cr p))

-- the entries of the first piece and of what follows it
pub entries-first : (bs : List ℕ) (i : ℕ) → CutsAt 10 bs i → entries_of bs ≡ option_to_list (entry_of_piece (without_cr (take i bs))) ++ entries_of (drop (i + 1) bs)
entries-first bs i h = search rules

-- the entries of bytes with a line feed between them
pub entries_split : EntriesSplit
entries_split x y =
    ap (λ ps. filter_map entry_of_piece (map without_cr ps)) (cut-append 10 x y)
    ∙ ap (filter_map entry_of_piece) (map-append without_cr (cut 10 x) (cut 10 y)) ∙ filter_map-append entry_of_piece (map without_cr (cut 10 x)) (map without_cr (cut 10 y))

-- the pieces before the last line feed, and the piece after it
pub cut-last : (bs : List ℕ) (i : ℕ) → IsLastByte (is_byte 10) bs (Some i) → cut 10 bs ≡ cut 10 (take i bs) ++ drop (i + 1) bs ∷ []
cut-last bs i h =
    ap (cut 10) (around 10 bs i h.0.high (eqb-true _ _ h.1)) ∙ cut-append 10 (take i bs) (drop (i + 1) bs)
    ∙ ap (λ ps. cut 10 (take i bs) ++ ps) (cut-lacks 10 (drop (i + 1) bs) (lacks-back 10 (i + 1) bs h.0.after))

-- the entries of the bytes before the last line feed, and of the piece after it
pub entries-last : (bs : List ℕ) (i : ℕ) → IsLastByte (is_byte 10) bs (Some i) → entries_of bs ≡ entries_of (take i bs) ++ option_to_list (entry_of_piece (without_cr (drop (i + 1) bs)))
entries-last bs i h =
    let behind = drop (i + 1) bs in
    ap entries_of (around 10 bs i h.0.high (eqb-true _ _ h.1)) ∙ entries_split (take i bs) behind
    ∙ ap (λ es. entries_of (take i bs) ++ es) (entries-piece behind (cut-lacks 10 behind (lacks-back 10 (i + 1) bs h.0.after)))

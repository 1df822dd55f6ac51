-- A proper beginning of an object's text reads as nothing.
use Rattle.std.proofs.{lemmas.{Grind.{common_steps}, Bool.{ne_eqb, ltb-true, true≢false}, Fmt.{decimal_is_IsNumeral}}, Common.{rules, ◌≡◌, ℕ, zero, suc, ◌/◌, ◌%◌, ◌<◌, ◌≤◌, negsuc, Bool, true, false, cond, List, [], ◌∷◌, ◌++◌, Option, Some, None, length, take, decimal, refl, sym, ap, ap₂, ◌∙◌, subst, arith, append-nil, inl, inr, ◌⊎◌}}
use Rattle.std.specs.{Prelude.{⊤, nat_lt}, Char.{digit_char, digit_value}, Str.Parse.{AllDigits}}
use Rattle.json.specs.{Token.{Token}, Lex.{Class, other, class, Mode, between, in_word, in_string, tokens}, Print.{token_text, escape_letter, escape_byte, escape, quoted}, Tree.{json_tokens}}
use Rattle.json.proofs.{OnLiterals.{json_on_literals}, Unique.Spelling.{value-json_tokens_back}}
use Rattle.json.specs.Json as json
use Rattle.serde_json.specs.{Data.{Num, unsigned, negative, Data, null, boolean, number, string, array, object, Items, no_items, item, Members, no_members, member}, Read.{read, max_depth}, Written.{number_text, comma_if, compact_text, items_text, members_text}}
use Rattle.cacache_entry.specs.FittingEntries.{IsWholeNumber, IsWhole, ItemsAreWhole, MembersAreWhole}
use Rattle.cacache_entry.proofs.{ReadsBack.{from_grammar}, Levels.{next, after_byte, level, mode, level-value}}

-- before each byte, a bracket is open
abbrev pub Stays : ℕ → Mode → List ℕ → Type 0
Stays k m [] = ⊤
Stays k m (x ∷ xs) = (1 ≤ k) × Stays (after_byte k m (class x) x) (next m (class x)) xs

-- so a proper beginning leaves one open
Stays-take : (k : ℕ) (m : Mode) (xs : List ℕ) (n : ℕ) → n < length xs → Stays k m xs → 1 ≤ level k m (take n xs)
Stays-take k m [] n short h = absurd (omega arith)
Stays-take k m (x ∷ xs) zero short h = h.0
Stays-take k m (x ∷ xs) (suc n) short h = Stays-take (after_byte k m (class x) x) (next m (class x)) xs n (omega arith) h.1

-- the bytes xs lead from the level k and the mode m to the level l and the mode o
record Leads (k : ℕ) (m : Mode) (xs : List ℕ) (l : ℕ) (o : Mode) : Type 0 where
  stays : Stays k m xs
  level : level k m xs ≡ l
  mode : mode m xs ≡ o

Stays-append : (k : ℕ) (m : Mode) (xs ys : List ℕ) → Stays k m xs → Stays (level k m xs) (mode m xs) ys → Stays k m (xs ++ ys)
Stays-append k m [] ys h g = g
Stays-append k m (x ∷ xs) ys h g = (h.0, Stays-append (after_byte k m (class x) x) (next m (class x)) xs ys h.1 g)

level-append : (k : ℕ) (m : Mode) (xs ys : List ℕ) → level k m (xs ++ ys) ≡ level (level k m xs) (mode m xs) ys
level-append k m [] ys = refl
level-append k m (x ∷ xs) ys = level-append (after_byte k m (class x) x) (next m (class x)) xs ys

mode-append : (m : Mode) (xs ys : List ℕ) → mode m (xs ++ ys) ≡ mode (mode m xs) ys
mode-append m [] ys = refl
mode-append m (x ∷ xs) ys = mode-append (next m (class x)) xs ys

then : (k l i : ℕ) (m n o : Mode) (xs ys : List ℕ) → Leads k m xs l n → Leads l n ys i o → Leads k m (xs ++ ys) i o
then k l i m n o xs ys h g =
    record {
      stays = Stays-append k m xs ys h.stays (subst (λ a. Stays a (mode m xs) ys) (sym h.level) (subst (λ b. Stays l b ys) (sym h.mode) g.stays));
      level = level-append k m xs ys ∙ ap₂ (λ a b. level a b ys) h.level h.mode ∙ g.level;
      mode = mode-append m xs ys ∙ ap (λ b. mode b ys) h.mode ∙ g.mode;
    }

-- ---- bytes inside a string

-- a byte other than the quote and the backslash stays in the string
plain_class : (x : ℕ) → (x ≡ 34 → ⊥) → (x ≡ 92 → ⊥) → next in_string (class x) ≡ in_string
plain_class x q b = search (rules, next)

module _ (k : ℕ) (some : 1 ≤ k) where
  stay_string : (x : ℕ) → (x ≡ 34 → ⊥) → (x ≡ 92 → ⊥) → Leads k in_string (x ∷ []) k in_string
  stay_string x q b = record { stays = (some, tt); level = refl; mode = plain_class x q b }

  short : (l : ℕ) → Leads k in_string (92 ∷ l ∷ []) k in_string
  short l = record { stays = (some, (some, tt)); level = refl; mode = refl }

  hex : (c d : ℕ) → (c ≡ 34 → ⊥) → (c ≡ 92 → ⊥) → (d ≡ 34 → ⊥) → (d ≡ 92 → ⊥) → Leads k in_string (92 ∷ 117 ∷ 48 ∷ 48 ∷ c ∷ d ∷ []) k in_string
  hex c d c1 c2 d1 d2 =
      let front : Leads k in_string (92 ∷ 117 ∷ 48 ∷ 48 ∷ []) k in_string = record { stays = (some, (some, (some, (some, tt)))); level = refl; mode = refl } in
      then k k k in_string in_string in_string (92 ∷ 117 ∷ 48 ∷ 48 ∷ []) (c ∷ d ∷ []) front (then k k k in_string in_string in_string (c ∷ []) (d ∷ []) (stay_string c c1 c2) (stay_string d d1 d2))

  escaped : (t u : Bool) (l x : ℕ) → (t ≡ false → (x ≡ 34 → ⊥) × (x ≡ 92 → ⊥)) → (u ≡ true → x < 32)
      → Leads k in_string (cond t (92 ∷ l ∷ []) (cond u (92 ∷ 117 ∷ 48 ∷ 48 ∷ digit_char (x / 16) ∷ digit_char (x % 16) ∷ []) (x ∷ []))) k in_string
  escaped true u l x h g = short l
  escaped false true l x h g =
      let low = g refl in
      hex (digit_char (x / 16)) (digit_char (x % 16)) (λ e. absurd (grind arith)) (λ e. absurd (grind arith)) (λ e. absurd (grind arith)) (λ e. absurd (grind arith))
  escaped false false l x h g = let p = h refl in stay_string x p.0 p.1

  no_letter : (x : ℕ) → nat_lt 0 (escape_letter x) ≡ false → (x ≡ 34 → ⊥) × (x ≡ 92 → ⊥)
  no_letter x h = (λ e. true≢false (ap (λ y. nat_lt 0 (escape_letter y)) (sym e) ∙ h), λ e. true≢false (ap (λ y. nat_lt 0 (escape_letter y)) (sym e) ∙ h))

  -- an escaped byte stays in the string
  Leads-escape_byte : (x : ℕ) → Leads k in_string (escape_byte x) k in_string
  unfolding escape_byte
  Leads-escape_byte x = escaped (nat_lt 0 (escape_letter x)) (nat_lt x 32) (escape_letter x) x (no_letter x) (λ e. ltb-true x 32 e)

  Leads-escape : (s : List ℕ) → Leads k in_string (escape s) k in_string
  Leads-escape [] = record { stays = tt; level = refl; mode = refl }
  Leads-escape (x ∷ s) = then k k k in_string in_string in_string (escape_byte x) (escape s) (Leads-escape_byte x) (Leads-escape s)

  -- a quoted text returns to the mode and level at which it began
  Leads-quoted : (s : List ℕ) → Leads k between (quoted s) k between
  Leads-quoted s =
      let inside = then k k k in_string in_string between (escape s) (34 ∷ []) (Leads-escape s) (record { stays = (some, tt); level = refl; mode = refl }) in
      record { stays = (some, inside.stays); level = inside.level; mode = inside.mode }

-- ---- values

-- a value may have ended here
abbrev Rests : Mode → Type 0
Rests m = (m ≡ between) ⊎ (m ≡ in_word)

-- if a comma comes first, a value may have ended before it
abbrev At : Bool → Mode → Type 0
At true m = Rests m
At false m = m ≡ between

At-Rests : (later : Bool) (m : Mode) → At later m → Rests m
At-Rests later m h = grind (arith, common_steps)

-- a value may end in either of the two modes
abbrev Goes : ℕ → Mode → List ℕ → Type 0
Goes k m xs = (o : Mode) × Rests o × Leads k m xs k o

-- a digit is no operator, space, quote or backslash
digit_class : (d : ℕ) → digit_value d < 10 → class d ≡ other
digit_class d h =
    let low : 48 ≤ d = grind arith in
    let high : d ≤ 57 = grind arith in
    rw (
      ne_eqb d 34 (λ e. omega arith),
      ne_eqb d 92 (λ e. omega arith),
      ne_eqb d 123 (λ e. omega arith),
      ne_eqb d 125 (λ e. omega arith),
      ne_eqb d 91 (λ e. omega arith),
      ne_eqb d 93 (λ e. omega arith),
      ne_eqb d 58 (λ e. omega arith),
      ne_eqb d 44 (λ e. omega arith),
      ne_eqb d 32 (λ e. omega arith),
      ne_eqb d 9 (λ e. omega arith),
      ne_eqb d 10 (λ e. omega arith),
      ne_eqb d 13 (λ e. omega arith),
    ) refl

word_byte : (k : ℕ) (m : Mode) (c : Class) (x : ℕ) → Rests m → c ≡ other → (next m c ≡ in_word) × (after_byte k m c x ≡ k)
word_byte k m c x which h = grind (arith, common_steps)

Goes-digits : (k : ℕ) (m : Mode) (ds : List ℕ) → 1 ≤ k → Rests m → AllDigits 10 ds → Goes k m ds
Goes-digits k m [] some r h = (m, r, record { stays = tt; level = refl; mode = refl })
Goes-digits k m (d ∷ ds) some r h =
    let step = word_byte k m (class d) d r (digit_class d h.0) in
    let one : Leads k m (d ∷ []) k in_word = record { stays = (some, tt); level = step.1; mode = step.0 } in
    let rest = Goes-digits k in_word ds some (inr refl) h.1 in
    (rest.0, rest.1, then k k k m in_word rest.0 (d ∷ []) ds one rest.2)

Goes-number : (k : ℕ) (n : Num) → 1 ≤ k → IsWholeNumber n → Goes k between (number_text n)
Goes-number k (unsigned n) some h = Goes-digits k between (decimal n) some (inl refl) (decimal_is_IsNumeral n h).0.1
Goes-number k (negative (negsuc n)) some h =
    let rest = Goes-digits k in_word (decimal (suc n)) some (inr refl) (decimal_is_IsNumeral (suc n) (omega arith)).0.1 in
    let one : Leads k between (45 ∷ []) k in_word = record { stays = (some, tt); level = refl; mode = refl } in
    (rest.0, rest.1, then k k k between in_word rest.0 (45 ∷ []) (decimal (suc n)) one rest.2)
Goes-number k n some h = absurd h

Goes-boolean : (k : ℕ) (b : Bool) → 1 ≤ k → Goes k between (token_text (Token.boolean b))
Goes-boolean k b some = grind (arith, level, mode)

Leads-comma : (k : ℕ) (later : Bool) (m : Mode) → 1 ≤ k → At later m → Leads k m (comma_if later) k between
Leads-comma k later m some e = grind (arith, level, mode)

closes_array : (k : ℕ) (m : Mode) → Rests m → Leads (suc k) m (93 ∷ []) k between
closes_array k m which = grind (arith, level, mode)

closes_object : (k : ℕ) (m : Mode) → Rests m → Leads (suc k) m (125 ∷ []) k between
closes_object k m which = grind (arith, level, mode)

mutual
  -- the text of a value returns to its level
  Goes-value : (k : ℕ) (d : Data) → 1 ≤ k → IsWhole d → Goes k between (compact_text d)
  Goes-value k null some h = (in_word, inr refl, record { stays = (some, (some, (some, (some, tt)))); level = refl; mode = refl })
  Goes-value k (boolean b) some h = Goes-boolean k b some
  Goes-value k (number n) some h = Goes-number k n some h
  Goes-value k (string s) some h = (between, inl refl, Leads-quoted k some s)
  Goes-value k (array ds) some h = let inside = Leads-items k false ds between refl h in (between, inl refl, record { stays = (some, inside.stays); level = inside.level; mode = inside.mode })
  Goes-value k (object ms) some h = let inside = Leads-members k false ms between refl h in (between, inl refl, record { stays = (some, inside.stays); level = inside.level; mode = inside.mode })

  Leads-items : (k : ℕ) (later : Bool) (ds : Items) (m : Mode) → At later m → ItemsAreWhole ds → Leads (suc k) m (items_text later ds) k between
  Leads-items k later no_items m a h = closes_array k m (At-Rests later m a)
  Leads-items k later (item d ds) m a h =
      let some : 1 ≤ suc k = omega arith in
      let value = Goes-value (suc k) d some h.0 in
      then (suc k) (suc k) k m between between (comma_if later) (compact_text d ++ items_text true ds) (Leads-comma (suc k) later m some a)
      (then (suc k) (suc k) k between value.0 between (compact_text d) (items_text true ds) value.2 (Leads-items k true ds value.0 value.1 h.1))

  Leads-members : (k : ℕ) (later : Bool) (ms : Members) (m : Mode) → At later m → MembersAreWhole ms → Leads (suc k) m (members_text later ms) k between
  Leads-members k later no_members m a h = closes_object k m (At-Rests later m a)
  Leads-members k later (member n d ms) m a h =
      let some : 1 ≤ suc k = omega arith in
      let value = Goes-value (suc k) d some h.0 in
      let colon : Leads (suc k) between (58 ∷ []) (suc k) between = record { stays = (some, tt); level = refl; mode = refl } in
      let rest = compact_text d ++ members_text true ms in
      then (suc k) (suc k) k m between between (comma_if later) (quoted n ++ 58 ∷ rest) (Leads-comma (suc k) later m some a)
      (then (suc k) (suc k) k between between between (quoted n) (58 ∷ rest) (Leads-quoted (suc k) some n)
      (then (suc k) (suc k) k between between between (58 ∷ []) rest colon
      (then (suc k) (suc k) k between value.0 between (compact_text d) (members_text true ms) value.2 (Leads-members k true ms value.0 value.1 h.1))))

-- ---- what a text that leaves a bracket open reads as

-- a text that leaves a bracket open reads as nothing
refused : (t : List ℕ) (o : Option (json.Json × List Token)) → json.value max_depth (tokens t) ≡ o → 1 ≤ level 0 between t → from_grammar o ≡ None
refused t (Some (j, [])) e h =
    let none : level 0 between t ≡ 0 = level-value t j (value-json_tokens_back max_depth (tokens t) [] j e ∙ append-nil (json_tokens j)) in
    absurd (omega arith)
refused t o e h = refl

empty : read [] ≡ None
unfolding json_on_literals
empty = refl

-- a proper beginning of an object's text reads as nothing, the empty one too
pub read-torn : (ms : Members) → MembersAreWhole ms → (n : ℕ) → n < length (compact_text (object ms)) → read (take n (compact_text (object ms))) ≡ None
read-torn ms h zero short = empty
read-torn ms h (suc n) short =
    let body = members_text false ms in
    refused (123 ∷ take n body) _ refl (Stays-take 1 between body n (omega arith) (Leads-members 0 false ms between refl h).stays)

-- An entry's text has no control character; a text without those, quotes and backslashes needs no escapes.
use Rattle.std.proofs.{lemmas.{Grind.{common_steps}, Bool.{ne_eqb, and_parts, and_from, le-leb, leb-true}, Fmt.{decimal_is_IsNumeral}}, Common.{rules, ◌≡◌, ℕ, suc, ◌/◌, ◌%◌, ◌<◌, ◌≤◌, negsuc, List, [], ◌∷◌, ◌++◌, Bool, true, false, not, ◌&&◌, ◌==◌, cond, decimal, refl, ap, ap₂, arith, ◌⊎◌}}
use Rattle.std.specs.{Prelude.{nat_le}, Char.{digit_char, digit_value}, Str.Parse.{AllDigits}}
use Rattle.json.{specs.{Token.{Token}, Print.{token_text, escape_byte, escape, quoted}}, proofs.Printed.Strings.{escape_byte_plain}}
use Rattle.serde_json.specs.{Data.{Num, unsigned, negative, Data, null, boolean, number, string, array, object, Items, no_items, item, Members, no_members, member}, Written.{number_text, comma_if, compact_text, items_text, members_text}}
use Rattle.cacache_entry.{specs.FittingEntries.{IsWholeNumber, IsWhole, ItemsAreWhole, MembersAreWhole}, proofs.Pieces.{lacks}}

-- no byte is below 32
abbrev pub plain : List ℕ → Bool
plain [] = true
plain (b ∷ bs) = nat_le 32 b && plain bs

-- two plain lists together are plain
pub plain-append : (xs ys : List ℕ) → plain xs ≡ true → plain ys ≡ true → plain (xs ++ ys) ≡ true
plain-append [] ys h k = k
plain-append (x ∷ xs) ys h k = let p = and_parts _ _ h in and_from _ _ p.0 (plain-append xs ys p.1 k)

-- a plain list lacks each control character
pub lacks-plain : (at : ℕ) → at < 32 → (xs : List ℕ) → plain xs ≡ true → lacks at xs ≡ true
lacks-plain at low [] h = refl
lacks-plain at low (x ∷ xs) h =
    let p = and_parts _ _ h in
    let some = leb-true 32 x p.0 in
    and_from _ _ (ap not (ne_eqb x at (λ e. omega arith))) (lacks-plain at low xs p.1)

more : (b : ℕ) (bs : List ℕ) → 32 ≤ b → plain bs ≡ true → plain (b ∷ bs) ≡ true
more b bs h k = and_from _ _ (le-leb 32 b h) k

letter : (a b c d e f : Bool) (x : ℕ) → (a ≡ true → 32 ≤ x) → let l = cond a x (cond b 98 (cond c 102 (cond d 110 (cond e 114 (cond f 116 0))))) in 0 < l → 32 ≤ l
letter a b c d e f x h some = grind (arith, common_steps)

either : (x : ℕ) → ((x == 34) ≡ true) ⊎ ((x == 92) ≡ true) → 32 ≤ x
either x which = grind (arith, common_steps)

escaped : (t u : Bool) (l x : ℕ) → (t ≡ true → 32 ≤ l) → (u ≡ false → 32 ≤ x)
    → plain (cond t (92 ∷ l ∷ []) (cond u (92 ∷ 117 ∷ 48 ∷ 48 ∷ digit_char (x / 16) ∷ digit_char (x % 16) ∷ []) (x ∷ []))) ≡ true
escaped t u l x h k = grind (arith, more)

-- an escaped byte is plain
plain-escape_byte : (x : ℕ) → plain (escape_byte x) ≡ true
unfolding escape_byte
plain-escape_byte x = search (rules, escaped, letter, either)

plain-escape : (s : List ℕ) → plain (escape s) ≡ true
plain-escape [] = refl
plain-escape (x ∷ s) = plain-append (escape_byte x) (escape s) (plain-escape_byte x) (plain-escape s)

plain-quoted : (s : List ℕ) → plain (quoted s) ≡ true
plain-quoted s = plain-append (escape s) (34 ∷ []) (plain-escape s) refl

plain-digits : (ds : List ℕ) → AllDigits 10 ds → plain ds ≡ true
plain-digits [] h = refl
plain-digits (d ∷ ds) h = let is : digit_value d < 10 = h.0 in more d ds (grind arith) (plain-digits ds h.1)

plain-number_text : (n : Num) → IsWholeNumber n → plain (number_text n) ≡ true
plain-number_text (unsigned n) h = plain-digits (decimal n) (decimal_is_IsNumeral n h).0.1
plain-number_text (negative (negsuc n)) h = plain-digits (decimal (suc n)) (decimal_is_IsNumeral (suc n) (omega arith)).0.1
plain-number_text n h = absurd h

plain-comma_if : (later : Bool) → plain (comma_if later) ≡ true
plain-comma_if later = grind (arith, common_steps)

plain-boolean : (b : Bool) → plain (token_text (Token.boolean b)) ≡ true
plain-boolean b = grind (arith, common_steps)

mutual
  -- the text of a value of whole numbers is plain
  pub plain-compact_text : (d : Data) → IsWhole d → plain (compact_text d) ≡ true
  plain-compact_text null h = refl
  plain-compact_text (boolean b) h = plain-boolean b
  plain-compact_text (number n) h = plain-number_text n h
  plain-compact_text (string s) h = plain-quoted s
  plain-compact_text (array ds) h = plain-items_text false ds h
  plain-compact_text (object ms) h = plain-members_text false ms h

  plain-items_text : (later : Bool) (ds : Items) → ItemsAreWhole ds → plain (items_text later ds) ≡ true
  plain-items_text later no_items h = refl
  plain-items_text later (item d ds) h =
      plain-append (comma_if later) _ (plain-comma_if later) (plain-append (compact_text d) _ (plain-compact_text d h.0) (plain-items_text true ds h.1))

  plain-members_text : (later : Bool) (ms : Members) → MembersAreWhole ms → plain (members_text later ms) ≡ true
  plain-members_text later no_members h = refl
  plain-members_text later (member k d ms) h =
      plain-append (comma_if later) _ (plain-comma_if later)
      (plain-append (quoted k) _ (plain-quoted k) (plain-append (compact_text d) _ (plain-compact_text d h.0) (plain-members_text true ms h.1)))

-- a byte that needs no escape, before bytes that need none
pub escape-more : (x : ℕ) (xs : List ℕ) → 32 ≤ x → (x ≡ 34 → ⊥) → (x ≡ 92 → ⊥) → escape xs ≡ xs → escape (x ∷ xs) ≡ x ∷ xs
escape-more x xs printable no_quote no_backslash rest = ap₂ (λ (b bs : List ℕ). b ++ bs) (escape_byte_plain x no_quote no_backslash printable) rest

-- How an entry's text is put together, and the hex digits of a digest.
use Rattle.std.proofs.{Common.{rules, ◌≡◌, ℕ, Option, List, [], ◌∷◌, ◌++◌, codes, decimal, refl, ap, ◌∙◌, append-nil, append_assoc, zero, suc, ◌/◌, ◌%◌, ◌<◌, Bool, true, not, ◌&&◌, ◌==◌, get_or, arith}, lemmas.{Grind.{common_steps}, Bool.{and_parts, and_from, ltb-true}, Str.{IsUtf8-append, IsUtf8-from_ascii}}}
use Rattle.std.specs.{Prelude.{nat_lt}, Str.{IsUtf8, IsAscii}}
use Rattle.json.specs.{Print.{quoted, escape_byte, print, print_from}, Token.{Token, begin_array, string}, Tree.{items_tokens}}
use Rattle.serde_json.{specs.{Data.{array}, Written.{compact_text, items_outline}}, proofs.Texts.{print-outline}}
use Rattle.cacache_entry.specs.{Entry.{Entry, text_or_null, byte_items, bytes_or_null, front_of, text_of, texts_then, numbers_then}, EntryLaws.{bare_entry}, Tokens.{byte_tokens}}
use Rattle.cacache_entry.proofs.Pieces.{lacks, lacks-append}
use Rattle.hex.{specs.Hex.{lower_digits, encode_with}, proofs.HexLemmas.{IsAscii-encode_with}}
use Rattle.sha2.specs.Sha256.{sha256}
use Rattle.cacache_core.specs.Integrity.{sha256_hex}

behind : (o a k b i c t d s f : List ℕ) → ((((((((o ++ a) ++ k) ++ b) ++ i) ++ c) ++ t) ++ d) ++ s) ++ f ≡ o ++ (a ++ (k ++ (b ++ (i ++ (c ++ (t ++ (d ++ (s ++ f))))))))
behind o a k b i c t d s f = simp append_assoc refl

-- the bytes that are appended part by part are the text up to the metadata
pub front-pushed : (o : List ℕ) (e : Entry)
    → ((((((((o ++ codes "{\"key\":") ++ quoted e.key) ++ codes ",\"integrity\":") ++ compact_text (text_or_null e.integrity)) ++ codes ",\"time\":") ++ decimal e.time) ++ codes ",\"size\":") ++ decimal e.size) ++ codes ",\"metadata\":" ≡ o ++ front_of e
front-pushed o e = search (rules, behind)

nested : (a k b i c t d s f m g r z : List ℕ) → (a ++ (k ++ (b ++ (i ++ (c ++ (t ++ (d ++ (s ++ f)))))))) ++ (m ++ (g ++ (r ++ z))) ≡ a ++ (k ++ (b ++ (i ++ (c ++ (t ++ (d ++ (s ++ (f ++ (m ++ (g ++ (r ++ z)))))))))))
nested a k b i c t d s f m g r z = simp append_assoc refl

-- the text up to the metadata, followed by the rest, is the whole text
pub front-text : (e : Entry) → front_of e ++ (compact_text e.metadata ++ (codes ",\"raw_metadata\":" ++ (compact_text (bytes_or_null e.raw_metadata) ++ 125 ∷ []))) ≡ text_of e
unfolding escape_byte
front-text e = search (rules, nested)

-- the parts of an entry without metadata, in the order of its text
pub bare-text : (key : List ℕ) (integrity : Option (List ℕ)) (time size : ℕ)
    → texts_then key integrity (numbers_then time size (codes "\"metadata\":null,\"raw_metadata\":null}")) ≡ text_of (bare_entry key integrity time size)
unfolding escape_byte
bare-text key integrity time size = refl

text_behind : (o f m g r z : List ℕ) → ((((o ++ f) ++ m) ++ g) ++ r) ++ z ≡ o ++ (f ++ (m ++ (g ++ (r ++ z))))
text_behind o f m g r z = simp append_assoc refl

-- the bytes that are appended part by part are the text
pub text-pushed : (o : List ℕ) (e : Entry)
    → ((((o ++ front_of e) ++ compact_text e.metadata) ++ codes ",\"raw_metadata\":") ++ compact_text (bytes_or_null e.raw_metadata)) ++ 125 ∷ [] ≡ o ++ text_of e
text-pushed o e = search (rules, text_behind, front-text)

-- what is printed for one text
pub print-string : (s : List ℕ) → print (string s ∷ []) ≡ quoted s
unfolding print_from escape_byte
print-string s = append-nil (quoted s)

items_tokens-byte_items : (bs : List ℕ) → byte_tokens bs ≡ items_tokens (items_outline (byte_items bs))
items_tokens-byte_items [] = refl
items_tokens-byte_items (b ∷ bs) = ap (λ ts. Token.number (decimal b) ∷ ts) (items_tokens-byte_items bs)

-- what is printed for raw metadata
pub print-bytes : (bs : List ℕ) → print (begin_array ∷ byte_tokens bs) ≡ compact_text (array (byte_items bs))
print-bytes bs = ap (λ ts. print (begin_array ∷ ts)) (items_tokens-byte_items bs) ∙ print-outline (array (byte_items bs))

-- ---- the hex digits of a digest: no control character is among them, and they are UTF-8

lacks-digit : (at : ℕ) (t : List ℕ) (i : ℕ) → lacks at (0 ∷ t) ≡ true → lacks at (get_or t i 0 ∷ []) ≡ true
lacks-digit at [] i h = h
lacks-digit at (x ∷ t) zero h = let p = and_parts (not (0 == at)) (lacks at (x ∷ t)) h in and_from _ _ (and_parts (not (x == at)) (lacks at t) p.1).0 refl
lacks-digit at (x ∷ t) (suc i) h =
    let p = and_parts (not (0 == at)) (lacks at (x ∷ t)) h in
    lacks-digit at t i (and_from (not (0 == at)) (lacks at t) p.0 (and_parts (not (x == at)) (lacks at t) p.1).1)

lacks-encode_with : (at : ℕ) (t xs : List ℕ) → lacks at (0 ∷ t) ≡ true → lacks at (encode_with t xs) ≡ true
unfolding encode_with
lacks-encode_with at t [] h = refl
lacks-encode_with at t (x ∷ xs) h =
    lacks-append at (get_or t (x / 16) 0 ∷ []) (get_or t (x % 16) 0 ∷ encode_with t xs) (lacks-digit at t (x / 16) h)
    (lacks-append at (get_or t (x % 16) 0 ∷ []) (encode_with t xs) (lacks-digit at t (x % 16) h) (lacks-encode_with at t xs h))

-- a byte that is neither 0 nor a digit isn't among the digits
pub lacks-sha256_hex : (at : ℕ) (b : List ℕ) → lacks at (0 ∷ lower_digits) ≡ true → lacks at (sha256_hex b) ≡ true
lacks-sha256_hex at b h = lacks-encode_with at lower_digits (sha256 b) h

below_128 : List ℕ → Bool
below_128 [] = true
below_128 (x ∷ xs) = nat_lt x 128 && below_128 xs

IsAscii-below_128 : (xs : List ℕ) → below_128 xs ≡ true → IsAscii xs
unfolding below_128
IsAscii-below_128 [] h i = omega arith
IsAscii-below_128 (x ∷ xs) h zero = ltb-true x 128 (and_parts _ _ h).0
IsAscii-below_128 (x ∷ xs) h (suc i) = IsAscii-below_128 xs (and_parts _ _ h).1 i

IsAscii-lower_digits : IsAscii lower_digits
unfolding below_128
IsAscii-lower_digits = IsAscii-below_128 lower_digits refl

IsAscii-tab : (i : ℕ) → get_or (9 ∷ []) i 0 < 128
IsAscii-tab i = grind (arith, common_steps)

-- a digest, a TAB and a UTF-8 text together are UTF-8
pub IsUtf8-piece : (b t : List ℕ) → IsUtf8 t → IsUtf8 (sha256_hex b ++ 9 ∷ t)
IsUtf8-piece b t h =
    IsUtf8-append (sha256_hex b) (9 ∷ t) (IsUtf8-from_ascii _ (IsAscii-encode_with lower_digits (sha256 b) IsAscii-lower_digits))
    (IsUtf8-append (9 ∷ []) t (IsUtf8-from_ascii (9 ∷ []) IsAscii-tab) h)

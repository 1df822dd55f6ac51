-- An entry's text is UTF-8, since each of its parts is.
use Rattle.std.proofs.{Common.{◌≡◌, ℕ, ◌<◌, ◌^◌, List, [], ◌∷◌, ◌++◌, Bool, true, false, Option, Some, None, codes, decimal, refl, subst, arith}, lemmas.{Fmt.{IsAscii-decimal}, Str.{IsUtf8-append, IsUtf8-from_ascii, IsUtf8-nil}}}
use Rattle.std.specs.Prelude.{IsUtf8}
use Rattle.json.{specs.Print.{quoted}, proofs.Printed.Utf8.{are_ascii, IsUtf8-are_ascii, IsUtf8-quoted}}
use Rattle.serde_json.specs.Written.{comma_if, compact_text, items_text}
use Rattle.cacache_entry.specs.{Entry.{Entry, text_or_null, byte_items, bytes_or_null, front_of, text_of}, FittingEntries.{EachIsByte, AreBytes, IsUtf8IfAny, IsEntry}}
use Rattle.cacache_entry.proofs.EntryTexts.{front-text}

IsUtf8-decimal : (n : ℕ) → n < 2 ^ 64 → IsUtf8 (decimal n)
IsUtf8-decimal n h = IsUtf8-from_ascii (decimal n) (IsAscii-decimal n h)

pub IsUtf8-comma_if : (later : Bool) → IsUtf8 (comma_if later)
IsUtf8-comma_if true = IsUtf8-are_ascii (44 ∷ []) refl
IsUtf8-comma_if false = IsUtf8-nil

IsUtf8-text_or_null : (o : Option (List ℕ)) → IsUtf8IfAny o → IsUtf8 (compact_text (text_or_null o))
IsUtf8-text_or_null None h = IsUtf8-are_ascii _ refl
IsUtf8-text_or_null (Some text) h = IsUtf8-quoted text h

IsUtf8-byte_items : (later : Bool) (bs : List ℕ) → EachIsByte bs → IsUtf8 (items_text later (byte_items bs))
IsUtf8-byte_items later [] h = IsUtf8-are_ascii (93 ∷ []) refl
IsUtf8-byte_items later (b ∷ bs) h =
    IsUtf8-append (comma_if later) _ (IsUtf8-comma_if later)
    (IsUtf8-append (decimal b) _ (IsUtf8-decimal b (omega (arith, h.0))) (IsUtf8-byte_items true bs h.1))

IsUtf8-bytes_or_null : (o : Option (List ℕ)) → AreBytes o → IsUtf8 (compact_text (bytes_or_null o))
IsUtf8-bytes_or_null None h = IsUtf8-are_ascii _ refl
IsUtf8-bytes_or_null (Some bs) h = IsUtf8-append (91 ∷ []) _ (IsUtf8-are_ascii (91 ∷ []) refl) (IsUtf8-byte_items false bs h)

-- an ASCII name, a UTF-8 value and UTF-8 after them are UTF-8
IsUtf8-member : (name value rest : List ℕ) → are_ascii name ≡ true → IsUtf8 value → IsUtf8 rest → IsUtf8 (name ++ (value ++ rest))
IsUtf8-member name value rest ascii h after = IsUtf8-append name (value ++ rest) (IsUtf8-are_ascii name ascii) (IsUtf8-append value rest h after)

IsUtf8-front_of : (e : Entry) → IsEntry e → e.time < 2 ^ 64 → IsUtf8 (front_of e)
IsUtf8-front_of e h early =
    let integrity = compact_text (text_or_null e.integrity) in
    IsUtf8-member (codes "{\"key\":") (quoted e.key) _ refl (IsUtf8-quoted e.key h.key)
    (IsUtf8-member (codes ",\"integrity\":") integrity _ refl (IsUtf8-text_or_null e.integrity h.integrity)
    (IsUtf8-member (codes ",\"time\":") (decimal e.time) _ refl (IsUtf8-decimal e.time early)
    (IsUtf8-member (codes ",\"size\":") (decimal e.size) (codes ",\"metadata\":") refl (IsUtf8-decimal e.size h.size)
    (IsUtf8-are_ascii (codes ",\"metadata\":") refl))))

-- the text of a well-formed entry with an early time is UTF-8
pub IsUtf8-text_of : (e : Entry) → IsEntry e → e.time < 2 ^ 64 → IsUtf8 (text_of e)
IsUtf8-text_of e h early =
    let raw = compact_text (bytes_or_null e.raw_metadata) in
    subst IsUtf8 (front-text e)
    (IsUtf8-append (front_of e) (compact_text e.metadata ++ (codes ",\"raw_metadata\":" ++ (raw ++ 125 ∷ []))) (IsUtf8-front_of e h early)
    (IsUtf8-append (compact_text e.metadata) (codes ",\"raw_metadata\":" ++ (raw ++ 125 ∷ [])) h.metadata.utf8
    (IsUtf8-member (codes ",\"raw_metadata\":") raw (125 ∷ []) refl (IsUtf8-bytes_or_null e.raw_metadata h.raw_metadata) (IsUtf8-are_ascii (125 ∷ []) refl))))

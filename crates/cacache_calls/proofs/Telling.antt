-- A value and an integrity print as UTF-8, with names in order and numbers in range, because their parts do.
use Rattle.std.proofs.{lemmas.{Grind.{common_steps}, Bool.{or_parts, ltb-true, and_parts}, Fmt.{IsAscii-decimal, IsAscii-signed}, Str.{IsUtf8-append, IsUtf8-from_ascii, IsUtf8-nil, IsUtf8-string_bytes, Ascii.{IsAscii-nil, IsAscii-cons}}}, Common.{◌≡◌, ℕ, pos, negsuc, List, [], ◌∷◌, Bool, true, false, refl, arith, string_bytes, String, Global, BTreeMap, string_cmp, Less, Vec, subst, sym, rules, ◌&&◌}}
use Rattle.std.specs.{Prelude.{IsUtf8, decimal, nat_lt}, Fmt.{signed_decimal}, List.{AllByRecursion, Sorted.{IsStrictlySortedBy}}, Map.{keys_of}, Str.{IsAscii}}
use Rattle.json.{specs.Print.{quoted}, proofs.Printed.Utf8.{IsUtf8-are_ascii, IsUtf8-quoted}}
use Rattle.serde_json.specs.{Data.{Num, unsigned, negative, float, null, boolean, number, string, array, object, Items, no_items, item, Members, no_members, member}, Written.{comma_if, compact_text, number_text, items_text, members_text, has_float, items_have_float, members_have_float}, View.{view, number_view, items_view, members_view}, declared.{number.Number.{Number}, value.Value.{Value, the_lemmas}}}
use Rattle.serde_json.proofs.Views.{view-Array, view-Object}
use Rattle.cacache_entry.specs.FittingEntries.{IsJson, AreAbove, ItemsAreOrdered, MembersAreOrdered, IsWholeNumber, ItemsAreWhole, MembersAreWhole}
use Rattle.cacache_entry.proofs.EntryUtf8.{IsUtf8-comma_if}
use Rattle.cacache_calls.specs.JsonCode.{IsRanged, AllJson, NamedJson}
use Rattle.base64.{specs.Engines.{standard}, proofs.EngineFacts.{IsAscii-encode_of}}
use Rattle.cacache_core.specs.{declared.integrity.{algorithm.Algorithm.{Algorithm, TheVariants.{Sha1, Sha256, Sha384, Sha512}}, digest.Hash.{Hash}}, Texts.{name_of, hash_text, integrity_text}}
use Rattle.serde_json.specs.declared.value.Value as value

-- ---- numbers

IsUtf8-number : (n : Num) → IsRanged n → IsUtf8 (number_text n)
IsUtf8-number (unsigned n) h = IsUtf8-from_ascii (decimal n) (IsAscii-decimal n h)
IsUtf8-number (negative (negsuc n)) h = IsUtf8-from_ascii (signed_decimal (negsuc n)) (IsAscii-signed (negsuc n) (omega (arith, h)))
IsUtf8-number (negative (pos _)) h = elim h [ ]
IsUtf8-number (float x) h = IsUtf8-nil

whole_number : (n : Num) → IsRanged n → has_float (number n) ≡ false → IsWholeNumber n
whole_number n h e = grind (arith, common_steps)

-- a number in range is JSON
pub IsJson-number : (n : Num) → IsRanged n → IsJson (number n)
IsJson-number n h = record { utf8 = IsUtf8-number n h; ordered = tt; in_range = whole_number n h }

-- ---- arrays

IsUtf8-items : (later : Bool) (ds : Items) → AllJson ds → IsUtf8 (items_text later ds)
IsUtf8-items later no_items h = IsUtf8-are_ascii (93 ∷ []) refl
IsUtf8-items later (item d ds) h = IsUtf8-append (comma_if later) _ (IsUtf8-comma_if later) (IsUtf8-append (compact_text d) _ h.0.utf8 (IsUtf8-items true ds h.1))

ordered_items : (ds : Items) → AllJson ds → ItemsAreOrdered ds
ordered_items no_items h = tt
ordered_items (item d ds) h = (h.0.ordered, ordered_items ds h.1)

whole_items : (ds : Items) → AllJson ds → items_have_float ds ≡ false → ItemsAreWhole ds
whole_items no_items h e = tt
whole_items (item d ds) h e = let parts = or_parts (has_float d) _ e in (h.0.in_range parts.0, whole_items ds h.1 parts.1)

-- an array of JSON is JSON
pub IsJson-array : (ds : Items) → AllJson ds → IsJson (array ds)
IsJson-array ds h = record {
  utf8 = IsUtf8-append (91 ∷ []) _ (IsUtf8-are_ascii (91 ∷ []) refl) (IsUtf8-items false ds h);
  ordered = ordered_items ds h;
  in_range = whole_items ds h;
}

-- ---- objects

IsUtf8-members : (later : Bool) (ms : Members) → NamedJson ms → IsUtf8 (members_text later ms)
IsUtf8-members later no_members h = IsUtf8-are_ascii (125 ∷ []) refl
IsUtf8-members later (member k d ms) h =
    IsUtf8-append (comma_if later) _ (IsUtf8-comma_if later)
    (IsUtf8-append (quoted k) _ (IsUtf8-quoted k h.0)
    (IsUtf8-append (58 ∷ []) _ (IsUtf8-are_ascii (58 ∷ []) refl)
    (IsUtf8-append (compact_text d) _ h.1.utf8 (IsUtf8-members true ms h.2))))

whole_members : (ms : Members) → NamedJson ms → members_have_float ms ≡ false → MembersAreWhole ms
whole_members no_members h e = tt
whole_members (member k d ms) h e = let parts = or_parts (has_float d) _ e in (h.1.in_range parts.0, whole_members ms h.2 parts.1)

-- the contents of a map, as the logic sees them
abbrev Named : Type 0
Named = String Global × Value

above : (k : String Global) (es : List Named) → AllByRecursion (λ y. string_cmp k y ≡ Less) (keys_of es) → AreAbove (string_bytes k) (members_view es)
above k [] h = tt
above k (e ∷ es) h = (h.0, above k es h.1)

ordered_members : (es : List Named) → IsStrictlySortedBy string_cmp (keys_of es) → NamedJson (members_view es) → MembersAreOrdered (members_view es)
unfolding IsStrictlySortedBy
ordered_members [] s h = tt
ordered_members (e ∷ es) s h = (above e.0 es s.0, h.1.ordered, ordered_members es s.1 h.2)

-- an object of JSON with UTF-8 names in ascending order is JSON
pub IsJson-object : (es : List Named) → IsStrictlySortedBy string_cmp (keys_of es) → NamedJson (members_view es) → IsJson (object (members_view es))
IsJson-object es s h = record {
  utf8 = IsUtf8-append (123 ∷ []) _ (IsUtf8-are_ascii (123 ∷ []) refl) (IsUtf8-members false (members_view es) h);
  ordered = ordered_members es s h;
  in_range = whole_members (members_view es) h;
}

pub IsJson-null : IsJson null
IsJson-null = record { utf8 = IsUtf8-are_ascii _ refl; ordered = tt; in_range = λ e. tt }

pub IsJson-boolean : (b : Bool) → IsJson (boolean b)
IsJson-boolean true = record { utf8 = IsUtf8-are_ascii _ refl; ordered = tt; in_range = λ e. tt }
IsJson-boolean false = record { utf8 = IsUtf8-are_ascii _ refl; ordered = tt; in_range = λ e. tt }

pub IsJson-string : (s : List ℕ) → IsUtf8 s → IsJson (string s)
IsJson-string s h = record { utf8 = IsUtf8-quoted s h; ordered = tt; in_range = λ e. tt }

-- ---- values

pub of_null : IsJson (view value.Null)
of_null = let seen : view value.Null ≡ null = search (rules, the_lemmas) in subst IsJson (sym seen) IsJson-null

pub of_boolean : (b : Bool) → IsJson (view (value.Bool b))
of_boolean b = let seen : view (value.Bool b) ≡ boolean b = search (rules, the_lemmas) in subst IsJson (sym seen) (IsJson-boolean b)

pub of_number : (x : Number) → IsRanged (number_view x) → IsJson (view (value.Number x))
of_number x h = let seen : view (value.Number x) ≡ number (number_view x) = search (rules, the_lemmas) in subst IsJson (sym seen) (IsJson-number (number_view x) h)

pub of_string : (s : String Global) → IsJson (view (value.String s))
of_string s = let seen : view (value.String s) ≡ string (string_bytes s) = search (rules, the_lemmas) in subst IsJson (sym seen) (IsJson-string (string_bytes s) (IsUtf8-string_bytes s))

pub of_array : (v : Vec Value Global) → AllJson (items_view v.items) → IsJson (view (value.Array v))
of_array v h = subst IsJson (sym (view-Array v)) (IsJson-array (items_view v.items) h)

pub of_object : (m : BTreeMap (String Global) Value) → IsStrictlySortedBy string_cmp (keys_of m.entries) → NamedJson (members_view m.entries) → IsJson (view (value.Object m))
of_object m s h = subst IsJson (sym (view-Object m)) (IsJson-object m.entries s h)

-- ---- the text of an integrity is UTF-8

abbrev are_ascii : List ℕ → Bool
are_ascii [] = true
are_ascii (b ∷ bs) = nat_lt b 128 && are_ascii bs

ascii_so : (bs : List ℕ) → are_ascii bs ≡ true → IsAscii bs
ascii_so [] h = IsAscii-nil
ascii_so (b ∷ bs) h = IsAscii-cons b bs (ltb-true b 128 (and_parts _ _ h).0) (ascii_so bs (and_parts _ _ h).1)

ascii_utf8 : (bs : List ℕ) → are_ascii bs ≡ true → IsUtf8 bs
ascii_utf8 bs h = IsUtf8-from_ascii bs (ascii_so bs h)

name_utf8 : (a : Algorithm) → IsUtf8 (name_of a)
name_utf8 Sha1 = ascii_utf8 (name_of Sha1) refl
name_utf8 Sha256 = ascii_utf8 (name_of Sha256) refl
name_utf8 Sha384 = ascii_utf8 (name_of Sha384) refl
name_utf8 Sha512 = ascii_utf8 (name_of Sha512) refl

hash_utf8 : (h : Hash) → IsUtf8 (hash_text h)
hash_utf8 h =
    IsUtf8-append (name_of h.algorithm) _ (name_utf8 h.algorithm)
    (IsUtf8-append (45 ∷ []) _ (ascii_utf8 (45 ∷ []) refl) (IsUtf8-from_ascii _ (IsAscii-encode_of standard h.digest)))

pub integrity_utf8 : (i : List Hash) → IsUtf8 (integrity_text i)
integrity_utf8 [] = IsUtf8-nil
integrity_utf8 (h ∷ []) = hash_utf8 h
integrity_utf8 (h ∷ g ∷ hs) = IsUtf8-append (hash_text h) _ (hash_utf8 h) (IsUtf8-append (32 ∷ []) _ (ascii_utf8 (32 ∷ []) refl) (integrity_utf8 (g ∷ hs)))

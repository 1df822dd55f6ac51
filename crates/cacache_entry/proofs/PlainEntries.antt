-- An entry without metadata can be written, and its piece is that entry.
use Rattle.std.proofs.{Common.{◌≡◌, ℕ, ◌<◌, ◌^◌, List, Option, Some, None, option_map, sym, ap, ◌∙◌, subst}, lemmas.Str.{IsUtf8-string_bytes}}
use Rattle.std.specs.{Prelude.{IsUtf8, String, string_bytes}, declared.alloc.Global.{Global}}
use Rattle.cacache_entry.specs.{Bucket.{entry_of_piece}, Entry.{piece_of}, EntryLaws.{bare_entry}, FittingEntries.{IsUtf8IfAny}, View.{entry_view}, declared.metadata.SerializableMetadata.{SerializableMetadata}}
use Rattle.cacache_entry.proofs.{EntryCauses.{bare_entries_fit}, Lookups.{entry_of_piece-whole}}

-- if an optional text of the program is there, it is UTF-8
pub utf8_if_any : (o : Option (String Global)) → IsUtf8IfAny (option_map string_bytes o)
utf8_if_any None = tt
utf8_if_any (Some text) = IsUtf8-string_bytes text

-- if an entry of the program has no metadata, its piece reads as that entry
pub piece-is_entry : (e : SerializableMetadata) (key : List ℕ) (integrity : Option (List ℕ)) (time size : ℕ) (piece : List ℕ)
    → entry_view e ≡ bare_entry key integrity time size → piece ≡ piece_of (bare_entry key integrity time size) → time < 2 ^ 64 → size < 2 ^ 64
    → entry_of_piece piece ≡ Some (entry_view e)
piece-is_entry e key integrity time size piece is same t s =
    let k : IsUtf8 key = subst IsUtf8 (ap (λ x. x.key) is) (IsUtf8-string_bytes e.key) in
    let i : IsUtf8IfAny integrity = subst IsUtf8IfAny (ap (λ x. x.integrity) is) (utf8_if_any e.integrity) in
    let fits = bare_entries_fit key integrity time size k i t s in
    ap entry_of_piece same ∙ entry_of_piece-whole (bare_entry key integrity time size) fits.0 fits.1 ∙ ap Some (sym is)

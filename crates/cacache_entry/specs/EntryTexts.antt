-- Which entry a text reads as.
use Rattle.std.specs.Prelude.{ℕ, List, [], ◌∷◌, nat_lt, if◌then◌else◌, codes, Option, Some, None, option_map, option_and_then}
use Rattle.serde_json.specs.{Data.{Data, null, boolean, number, string, array, object, Items, no_items, item}, Find.{get, as_number, as_str, as_u64}, Read.{read}, Written.{has_float}}
use Rattle.cacache_entry.specs.Entry.{Entry}

-- null is no text; any value other than a text or null is refused
abbrev pub text_or_none : Data → Option (Option (List ℕ))
text_or_none null = Some None
text_or_none (boolean b) = None
text_or_none (number n) = None
text_or_none (string s) = Some (Some s)
text_or_none (array ds) = None
text_or_none (object ms) = None

-- a whole number from 0 to 2^64-1
abbrev pub whole_of : Data → Option ℕ
whole_of d = option_and_then as_u64 (as_number d)

-- a whole number from 0 to 255
abbrev pub byte_of : Data → Option ℕ
byte_of d = option_and_then (λ n. if nat_lt n 256 then Some n else None) (whole_of d)

-- items that are all bytes
abbrev pub bytes_of : Items → Option (List ℕ)
bytes_of no_items = Some []
bytes_of (item d ds) = option_and_then (λ b. option_map (λ bs. b ∷ bs) (bytes_of ds)) (byte_of d)

-- null is no bytes; any value other than null or an array of bytes is refused
abbrev pub bytes_or_none : Data → Option (Option (List ℕ))
bytes_or_none null = Some None
bytes_or_none (boolean b) = None
bytes_or_none (number n) = None
bytes_or_none (string s) = None
bytes_or_none (array ds) = option_map Some (bytes_of ds)
bytes_or_none (object ms) = None

-- a value whose numbers are all whole in 64 bits: any other number reads as a float
abbrev pub whole_value : Data → Option Data
whole_value d = if has_float d then None else Some d

-- what a missing member counts as
abbrev pub or_null : Option Data → Data
or_null None = null
or_null (Some d) = d

-- the entry that a value represents
abbrev pub entry_read : Data → Option Entry
entry_read d =
    option_and_then (λ time.
    option_and_then (λ size.
    option_and_then (λ key.
    option_and_then (λ integrity.
    option_and_then (λ raw.
    option_map (λ metadata. record {
      key = key;
      integrity = integrity;
      time = time;
      size = size;
      metadata = metadata;
      raw_metadata = raw;
    })
    (option_and_then whole_value (get (codes "metadata") d)))
    (bytes_or_none (or_null (get (codes "raw_metadata") d))))
    (text_or_none (or_null (get (codes "integrity") d))))
    (option_and_then as_str (get (codes "key") d)))
    (option_and_then whole_of (get (codes "size") d)))
    (option_and_then whole_of (get (codes "time") d))

-- the entry that a text reads as, in any spelling
abbrev pub read_entry : List ℕ → Option Entry
read_entry t = option_and_then entry_read (read t)

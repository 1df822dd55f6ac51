-- What an index entry is, its text and the parts of that, and the line that holds it.
use Rattle.std.specs.Prelude.{ℕ, Bool, if◌then◌else◌, List, [], ◌∷◌, ◌++◌, codes, decimal, Option, Some, None}
use Rattle.json.specs.Print.{quoted}
use Rattle.serde_json.specs.{Data.{unsigned, Data, null, number, string, array, object, Items, no_items, item, Members, no_members, member}, Written.{compact_text}}
use Rattle.cacache_core.specs.Integrity.{sha256_hex}

-- what a line of a bucket says; an entry without an integrity is a tombstone
pub record Entry : Type 0 where
  pub key : List ℕ
  pub integrity : Option (List ℕ)
  pub time : ℕ
  pub size : ℕ
  pub metadata : Data
  pub raw_metadata : Option (List ℕ)

-- a text, or null if there is none
abbrev pub text_or_null : Option (List ℕ) → Data
text_or_null None = null
text_or_null (Some s) = string s

-- bytes as items
abbrev pub byte_items : List ℕ → Items
byte_items [] = no_items
byte_items (b ∷ bs) = item (number (unsigned b)) (byte_items bs)

-- bytes as an array, or null if there are none
abbrev pub bytes_or_null : Option (List ℕ) → Data
bytes_or_null None = null
bytes_or_null (Some bs) = array (byte_items bs)

-- the members of an entry, in the order in which they are written
abbrev pub members_of : Entry → Members
members_of e =
    member (codes "key") (string e.key)
    (member (codes "integrity") (text_or_null e.integrity)
    (member (codes "time") (number (unsigned e.time))
    (member (codes "size") (number (unsigned e.size))
    (member (codes "metadata") e.metadata
    (member (codes "raw_metadata") (bytes_or_null e.raw_metadata) no_members)))))

-- the text of an entry: its members as one compact object
abbrev pub text_of : Entry → List ℕ
text_of e = compact_text (object (members_of e))

-- the text of an entry up to its metadata
abbrev pub front_of : Entry → List ℕ
front_of e =
    codes "{\"key\":" ++ (quoted e.key
    ++ (codes ",\"integrity\":" ++ (compact_text (text_or_null e.integrity)
    ++ (codes ",\"time\":" ++ (decimal e.time
    ++ (codes ",\"size\":" ++ (decimal e.size
    ++ codes ",\"metadata\":")))))))

-- the piece of an entry: the digest of its text, a TAB, its text
abbrev pub piece_of : Entry → List ℕ
piece_of e = sha256_hex (text_of e) ++ 9 ∷ text_of e

-- the line of an entry: an LF and its piece
abbrev pub line_of : Entry → List ℕ
line_of e = 10 ∷ piece_of e

-- what closes the line of a durable commit: an LF
abbrev pub closing : Bool → List ℕ
closing durable = if durable then 10 ∷ [] else []

-- the line of an entry, as its commit appends it
abbrev pub closed_line : Bool → Entry → List ℕ
closed_line durable e = line_of e ++ closing durable

-- ---- the text of an entry without metadata, cut into its parts

-- a key and an integrity, as an entry's text begins with them, and the rest
abbrev pub texts_then : List ℕ → Option (List ℕ) → List ℕ → List ℕ
texts_then key integrity rest =
    codes "{\"key\":" ++ (quoted key
    ++ (codes ",\"integrity\":" ++ (compact_text (text_or_null integrity) ++ rest)))

-- a time and a size, as they follow the integrity, each with its comma, and the rest
abbrev pub numbers_then : ℕ → ℕ → List ℕ → List ℕ
numbers_then time size rest =
    codes ",\"time\":" ++ (decimal time
    ++ 44 ∷ (codes "\"size\":" ++ (decimal size ++ 44 ∷ rest)))

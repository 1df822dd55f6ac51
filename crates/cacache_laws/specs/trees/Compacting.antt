-- The bytes of a bucket that a compaction leaves, and which lines stay.
use Rattle.std.specs.{Prelude.{◌≡◌, ◌++◌, ◌==◌, ◌&&◌, ◌||◌, ℕ, List, [], ◌∷◌, Bool, true, false, Option, None, Some, if◌then◌else◌, bytes_eq, filter, filter_map, fold, is_some, length, not, option_and_then, option_map}, List.{flat_map, list_any}}
use Rattle.cacache_core.specs.Integrity.{sha256_hex}
use Rattle.cacache_entry.specs.{Entry.{Entry, closing}, Bucket.{cut, without_cr, entry_of_piece, entries_of, answer_of, latest}}
use Rattle.cacache_calls.specs.Walking.{once, items_in}

-- ---- what a piece is

-- whether what a TAB cuts begins with a text's digest and the text
abbrev pub signed_parts : List (List ℕ) → Bool
signed_parts (digest ∷ text ∷ others) = bytes_eq digest (sha256_hex text)
signed_parts parts = false

-- whether a piece between line feeds is a line: its digest is right
abbrev pub is_line : List ℕ → Bool
is_line p = signed_parts (cut 9 (without_cr p))

-- a key, and whether an entry of it is found; none is found at a tombstone
abbrev pub Decision : Type 0
Decision = List ℕ × Bool

-- what an entry decides: nothing if its integrity can't be read
abbrev pub decision_of : Entry → Option Decision
decision_of e = option_map (λ answer. (e.key, is_some answer)) (answer_of e e.integrity)

-- what a piece decides: nothing if it can't be read as an entry
abbrev pub decision : List ℕ → Option Decision
decision p = option_and_then decision_of (entry_of_piece (without_cr p))

-- ---- lines

-- a line's bytes, and what it decides; an odd line decides nothing
abbrev pub Line : Type 0
Line = List ℕ × Option Decision

-- a piece, if it is a line
abbrev pub line_of_piece : List ℕ → Option Line
line_of_piece p = if is_line p then Some (p, decision p) else None

-- the lines of a bucket's bytes, in order
abbrev pub lines_of : List ℕ → List Line
lines_of x = filter_map line_of_piece (cut 10 x)

-- the key that a line decides
abbrev pub key_of : Line → Option (List ℕ)
key_of l = option_map (λ d. d.0) l.1

-- the keys that lines decide
abbrev pub decided : List Line → List (List ℕ)
decided ls = filter_map key_of ls

-- whether a line is odd
abbrev pub is_odd : Line → Bool
is_odd l = not (is_some l.1)

-- ---- what stays

-- whether a deciding line stays: no later line decides its key, and it finds an entry or an odd
-- line came before it
abbrev pub lasts : Bool → Decision → List Line → Bool
lasts odd d later = not (list_any (bytes_eq d.0) (decided later)) && (d.1 || odd)

-- the lines that stay; the first argument says whether an odd line came before them
abbrev pub kept : Bool → List Line → List Line
kept odd [] = []
kept odd ((text, None) ∷ ls) = (text, None) ∷ kept true ls
kept odd ((text, Some d) ∷ ls) =
    if lasts odd d ls then (text, Some d) ∷ kept odd ls else kept odd ls

-- lines, each after a line feed
abbrev pub text_of : List Line → List ℕ
text_of ls = flat_map (λ l. 10 ∷ l.0) ls

-- whether bytes end with a line feed
abbrev pub is_closed : List ℕ → Bool
is_closed x = fold (λ closed b. b == 10) false x

-- the lines that stay, and a last line feed if the compaction is durable or the bytes have one
unfoldable pub compact_text : Bool → List ℕ → List ℕ
compact_text durable x = text_of (kept false (lines_of x)) ++ closing (durable || is_closed x)

-- ---- laws: of our own lookups and listings

-- the odd lines of bytes
abbrev pub odd_lines : List ℕ → List Line
odd_lines x = filter is_odd (lines_of x)

-- each lookup finds in the second bytes what it finds in the first, and a listing gives the same
-- for both; both have the same odd lines; no two lines of the second decide one key; and without
-- odd lines the second have one entry for each item
pub record IsCompactOf (x y : List ℕ) : Type 0 where
  pub finds : (key : List ℕ) → latest key (entries_of y) ≡ latest key (entries_of x)
  pub lists : items_in y ≡ items_in x
  pub odd : odd_lines y ≡ odd_lines x
  pub once_each : once (decided (lines_of y)) ≡ decided (lines_of y)
  pub lean : odd_lines x ≡ [] → length (entries_of y) ≡ length (items_in x)

-- so it is with a bucket's bytes that are compacted
abbrev pub CompactTextsAnswer : Type 0
CompactTextsAnswer = (durable : Bool) (x : List ℕ) → IsCompactOf x (compact_text durable x)

-- a second compaction changes nothing, unless it is the first durable one
abbrev pub CompactTextsSettle : Type 0
CompactTextsSettle =
    (again durable : Bool) (x : List ℕ)
    → compact_text again (compact_text durable x) ≡ compact_text (again || durable) x

-- compacted bytes end with a line feed if the compaction is durable or the bytes end with one
abbrev pub CompactTextsClose : Type 0
CompactTextsClose =
    (durable : Bool) (x : List ℕ) → is_closed (compact_text durable x) ≡ (durable || is_closed x)

-- ---- laws: of other readers

-- what another reader reads a piece as: a key, and whether it is an entry or a tombstone
abbrev pub Reader : Type 0
Reader = List ℕ → Option Decision

-- what the reader finds for the key after one more piece: the piece, if it is an entry of the key
abbrev pub found_at : List ℕ → Option (List ℕ) → List ℕ → Option Decision → Option (List ℕ)
found_at key found p None = found
found_at key found p (Some d) =
    if bytes_eq key d.0 then (if d.1 then Some p else None) else found

-- the line that a reader finds for a key: the last that it reads with the key, if it is an entry
abbrev pub found_by : Reader → List ℕ → List ℕ → Option (List ℕ)
found_by read key x = fold (λ found p. found_at key found p (read p)) None (cut 10 x)

-- it reads nothing but lines, and each line that decides a key as we do
pub record ReadsLines (read : Reader) : Type 0 where
  pub lines : (p : List ℕ) → is_line p ≡ false → read p ≡ None
  pub decisions : (p : List ℕ) (d : Decision) → decision p ≡ Some d → read p ≡ Some d

-- each such reader finds in compacted bytes the line that it finds in the bytes
abbrev pub CompactTextsKeepFound : Type 0
CompactTextsKeepFound =
    (read : Reader) (durable : Bool) (x key : List ℕ) → ReadsLines read
    → found_by read key (compact_text durable x) ≡ found_by read key x

-- Which entries can be written, what lines add to a bucket, and what a lookup finds.
use Rattle.std.specs.Prelude.{◌≡◌, ◌<◌, ◌≤◌, ◌^◌, ◌↔◌, ℕ, length, take, List, [], ◌∷◌, ◌++◌, Option, Some, None, false, IsUtf8}
use Rattle.serde_json.specs.{Data.{null, depth}, Read.{read}, Written.{has_float}}
use Rattle.cacache_entry.specs.{Entry.{Entry, text_of, line_of}, FittingEntries.{IsUtf8IfAny, IsEntry, IsWritable, cause_of}, Bucket.{entries_of, Found, answer_to, latest, NoneAnswers, pieces_read}}

-- ---- entries

-- a well-formed entry has no cause against it if and only if it fits
abbrev pub NoCauseIsFit : Type 0
NoCauseIsFit = (e : Entry) → IsEntry e → (cause_of e ≡ None) ↔ IsWritable e

-- a well-formed entry fits if its time is early and its metadata whole and flat
abbrev pub FlatEntriesFit : Type 0
FlatEntriesFit =
    (e : Entry) → IsEntry e → e.time < 2 ^ 64
    → has_float e.metadata ≡ false → depth e.metadata ≤ 126
    → IsWritable e

-- the entry of a key with no metadata
abbrev pub bare_entry : List ℕ → Option (List ℕ) → ℕ → ℕ → Entry
bare_entry key integrity time size = record {
  key = key;
  integrity = integrity;
  time = time;
  size = size;
  metadata = null;
  raw_metadata = None;
}

-- if its texts are UTF-8 and its numbers in range, it is well-formed and fits
abbrev pub BareEntriesFit : Type 0
BareEntriesFit =
    (key : List ℕ) (integrity : Option (List ℕ)) (time size : ℕ)
    → IsUtf8 key → IsUtf8IfAny integrity → time < 2 ^ 64 → size < 2 ^ 64
    → IsEntry (bare_entry key integrity time size) × IsWritable (bare_entry key integrity time size)

-- ---- buckets

-- an empty bucket holds no entry
abbrev pub EmptyHoldsNothing : Type 0
EmptyHoldsNothing = entries_of [] ≡ []

-- bytes with a line feed between them hold the entries of both
abbrev pub EntriesSplit : Type 0
EntriesSplit = (x y : List ℕ) → entries_of (x ++ 10 ∷ y) ≡ entries_of x ++ entries_of y

-- after any bytes, a line adds its entry
abbrev pub LinesAppend : Type 0
LinesAppend =
    (x : List ℕ) (e : Entry) → IsEntry e → IsWritable e
    → entries_of (x ++ line_of e) ≡ entries_of x ++ e ∷ []

-- a proper beginning of an entry's text, the empty one too, reads as no JSON value
abbrev pub TornTextsReadAsNothing : Type 0
TornTextsReadAsNothing =
    (e : Entry) (n : ℕ) → IsEntry e → IsWritable e → n < length (text_of e)
    → read (take n (text_of e)) ≡ None

-- after any bytes, a proper beginning of a line adds no entry
abbrev pub TornLinesAddNothing : Type 0
TornLinesAddNothing =
    (x : List ℕ) (e : Entry) (n : ℕ) → IsEntry e → IsWritable e → n < length (line_of e)
    → entries_of (x ++ take n (line_of e)) ≡ entries_of x

-- nor does it harm the line that follows it
abbrev pub TornLinesHurtNoOther : Type 0
TornLinesHurtNoOther =
    (x : List ℕ) (e f : Entry) (n : ℕ)
    → IsEntry e → IsWritable e → n < length (line_of e) → IsEntry f → IsWritable f
    → entries_of (x ++ take n (line_of e) ++ line_of f) ≡ entries_of x ++ f ∷ []

-- ---- lookups

-- a lookup finds what the last entry that answers to the key says
abbrev pub LastAnswerDecides : Type 0
LastAnswerDecides =
    (key : List ℕ) (before after : List Entry) (e : Entry) (found : Option Found)
    → answer_to key e ≡ Some found → NoneAnswers key after
    → latest key (before ++ e ∷ after) ≡ found

-- and it finds nothing if no entry answers
abbrev pub NoAnswerIsNone : Type 0
NoAnswerIsNone = (key : List ℕ) (es : List Entry) → NoneAnswers key es → latest key es ≡ None

-- if an entry that answers is appended to any bytes, its line is all that a lookup reads
abbrev pub LastLineIsEnough : Type 0
LastLineIsEnough =
    (key x : List ℕ) (e : Entry) (found : Option Found)
    → IsEntry e → IsWritable e → answer_to key e ≡ Some found
    → pieces_read key (x ++ line_of e) ≡ 1

-- Which entries the bytes of a bucket hold, and what a lookup of a key answers.
use Rattle.std.specs.{Prelude.{◌≡◌, ◌<◌, ◌+◌, drop, ℕ, ◌-◌, length, take, slice_index, List, [], ◌∷◌, ◌==◌, if◌then◌else◌, Option, None, map, filter_map, bytes_eq, suc, Bool, Some, Result, Ok, Err, is_some, option_map, option_and_then, unwrap_or, fold, reverse}, List.{slice_split}, Str.{is_utf8}}
use Rattle.cacache_core.specs.{Integrity.{sha256_hex}, declared.{errors.IntegrityFault.{IntegrityFault}, integrity.digest.Hash.{Hash}}, Texts.{read_integrity}}
use Rattle.cacache_entry.specs.{Entry.{Entry}, EntryTexts.{read_entry}}
use Rattle.serde_json.specs.Data.{Data}

-- the parts between the bytes c
abbrev pub cut : ℕ → List ℕ → List (List ℕ)
cut c = slice_split (λ b. b == c)

-- the bytes without one CR at their end
abbrev pub without_cr : List ℕ → List ℕ
without_cr bs = if (slice_index bs (length bs - 1) == 13) then take (length bs - 1) bs else bs

-- the entry of a piece that a TAB cuts in two: a digest and a text
abbrev pub entry_of_parts : List (List ℕ) → Option Entry
entry_of_parts [] = None
entry_of_parts (digest ∷ []) = None
entry_of_parts (digest ∷ text ∷ []) =
    if bytes_eq digest (sha256_hex text) then read_entry text else None
entry_of_parts (digest ∷ text ∷ more ∷ others) = None

-- the entry that a piece is
abbrev pub entry_of_piece : List ℕ → Option Entry
entry_of_piece p = if is_utf8 p then entry_of_parts (cut 9 p) else None

-- the pieces of a bucket's bytes: its line feeds cut them apart, and each loses one CR at its end
abbrev pub pieces_of : List ℕ → List (List ℕ)
pieces_of x = map without_cr (cut 10 x)

-- the entries of a bucket's bytes, in order; each other piece is skipped, and nothing else
abbrev pub entries_of : List ℕ → List Entry
entries_of x = filter_map entry_of_piece (pieces_of x)

-- the first part that the bytes c cut out ends at place i, which holds a c
abbrev pub CutsAt : ℕ → List ℕ → ℕ → Type 0
CutsAt c bs i =
    (i < length bs)
    × (slice_index bs i ≡ c)
    × (cut c bs ≡ take i bs ∷ cut c (drop (i + 1) bs))
    × (cut c (take i bs) ≡ take i bs ∷ [])

-- ---- what a lookup of a key answers

-- a found entry, with the integrity that its text reads as
pub record Found : Type 0 where
  pub key : List ℕ
  pub integrity : List Hash
  pub time : ℕ
  pub size : ℕ
  pub metadata : Data
  pub raw_metadata : Option (List ℕ)

-- the entry with its integrity
abbrev pub found_of : Entry → List Hash → Found
found_of e i = record {
  key = e.key;
  integrity = i;
  time = e.time;
  size = e.size;
  metadata = e.metadata;
  raw_metadata = e.raw_metadata;
}

-- what the text of an integrity answers; an unreadable text answers nothing
abbrev pub answer_read : Result (List Hash) IntegrityFault → Option (Option (List Hash))
answer_read (Ok i) = Some (Some i)
answer_read (Err fault) = None

-- what an entry's integrity answers; an entry without one is a tombstone, which answers that there is none
abbrev pub answer_of_integrity : Option (List ℕ) → Option (Option (List Hash))
answer_of_integrity None = Some None
answer_of_integrity (Some text) = answer_read (read_integrity text)

-- what an entry with this integrity answers
abbrev pub answer_of : Entry → Option (List ℕ) → Option (Option Found)
answer_of e o = option_map (option_map (found_of e)) (answer_of_integrity o)

-- what an entry answers to a lookup of the key
abbrev pub answer_to : List ℕ → Entry → Option (Option Found)
answer_to key e = if bytes_eq e.key key then answer_of e e.integrity else None

-- what is found after one more entry: its answer, or what was found before
abbrev pub after_entry : List ℕ → Option Found → Entry → Option Found
after_entry key found e = unwrap_or (answer_to key e) found

-- the lookup: each answer to the key replaces the one before it
abbrev pub latest : List ℕ → List Entry → Option Found
latest key es = fold (after_entry key) None es

-- no entry answers to the key
abbrev pub NoneAnswers : List ℕ → List Entry → Type 0
NoneAnswers key [] = Unit {0}
NoneAnswers key (e ∷ es) = (answer_to key e ≡ None) × NoneAnswers key es

-- ---- how much a lookup reads

-- whether a piece decides: it is an entry that answers to the key
abbrev pub decides : List ℕ → List ℕ → Bool
decides key piece = is_some (option_and_then (answer_to key) (entry_of_piece piece))

-- how many pieces there are up to and including the first that decides; all, if none does
abbrev pub count_to_deciding : List ℕ → List (List ℕ) → ℕ
count_to_deciding key [] = 0
count_to_deciding key (p ∷ ps) = if decides key p then 1 else suc (count_to_deciding key ps)

-- how many pieces a lookup reads, from the last to the first that decides
abbrev pub pieces_read : List ℕ → List ℕ → ℕ
pieces_read key x = count_to_deciding key (reverse (pieces_of x))

-- The word `ls`.
use Rattle.std.specs.{Prelude.{◌≡◌, ◌⊎◌, ◌++◌, ◌∷◌, [], ℕ, List, Option, Some, None, Bool, true, false, Ok, Err, is_err, map, filter_map}, List.{list_any, flat_map, Sorted.{IsPermutation, IsSorted}}, Io.KnownBytes.{Appends}, Ordering.{nat_cmp, ordering_then}, Cmp.Lexicographic.{slice_cmp}, declared.cmp.Ordering.{Ordering}}
use Rattle.cacache.specs.{Stores.{LogItem}, Calls.{Env, Reply, Ls, Listed, Calls, Item, plain_item}, Entries.{Found}}
use Rattle.cacache_program.specs.{PrintedEntries.{entry_text}, Output.{AppendsPart, PutsOut}}

-- ---- the lines

-- a line before its line feed, and the key that orders it
pub record Line : Type 0 where
  pub key : List ℕ
  pub text : List ℕ

-- the line of an entry that was found
abbrev pub output_line : Found → Line
output_line f = record { key = f.key; text = entry_text f }

-- the line of an item; an error has none
abbrev pub line_in : Item → Option Line
line_in (Ok found) = Some (output_line found)
line_in (Err error) = None

-- lines are ordered by key and then by text, byte by byte
abbrev pub line_cmp : Line → Line → Ordering
line_cmp a b = ordering_then (slice_cmp nat_cmp a.key b.key) (slice_cmp nat_cmp a.text b.text)

-- these are the items' lines, in order
abbrev pub AreLinesOf : List Item → List Line → Type 0
AreLinesOf items lines = IsPermutation (filter_map line_in items) lines × IsSorted line_cmp lines

-- lines as they are printed
abbrev pub listing_text : List Line → List ℕ
listing_text lines = flat_map (λ l. l.text ++ 10 ∷ []) lines

-- the text is that of the items' lines, in order
abbrev pub IsPrintedListing : List Item → List ℕ → Type 0
IsPrintedListing items text = (lines : List Line) × AreLinesOf items lines × (text ≡ listing_text lines)

-- ---- what is put out

-- an error is among the items
abbrev pub has_error : List Item → Bool
has_error items = list_any is_err items

-- the text is put out; with an error the status is 1, even if all of it was
abbrev pub PutsListing : Bool → List ℕ → Option (List ℕ) → Option (List ℕ) → ℕ → Type 0
PutsListing false text before after status = PutsOut text before after status
PutsListing true text before after status =
    (status ≡ 1) × (Appends before after text ⊎ AppendsPart before after text)

-- what is put out for a reply: nothing if the call was refused
abbrev pub TellsListing : Reply → Option (List ℕ) → Option (List ℕ) → ℕ → Type 0
TellsListing (Listed items) before after status =
    (text : List ℕ) × IsPrintedListing items text
    × PutsListing (has_error items) text before after status
TellsListing reply before after status = (status ≡ 1) × (after ≡ before)

-- the log gained a run of the listing, and its reply was printed
abbrev pub PrintsListing :
    {S C N : Type 0} → (S → Option (List LogItem)) → List ℕ
    → Env S C N → Env S C N → Option (List ℕ) → Option (List ℕ) → ℕ → Type 0
PrintsListing log cache old new before after status =
    (reply : Reply) × Calls log old new cache Ls reply × TellsListing reply before after status

-- items as the reply that they stand for
abbrev pub listing_reply : List Item → Reply
listing_reply items = Listed (map plain_item items)

-- No cause speaks against an entry if and only if the entry fits.
use Rattle.std.proofs.{lemmas.{Grind.{common_steps}, Bool.{leb-false, ltb-false}}, Common.{rules, ◌≡◌, ℕ, ◌^◌, ◌<◌, ◌≤◌, List, [], ◌∷◌, Bool, false, not, Option, Some, None, refl, sym, arith}}
use Rattle.std.specs.Prelude.{nat_lt, nat_le, if◌then◌else◌}
use Rattle.serde_json.specs.{Data.{depth, items_depth, object}, Read.{max_depth}, Written.{has_float}}
use Rattle.cacache_core.specs.declared.errors.SerdeCause.{SerdeCause, TheVariants.{TimeTooLarge, NotWhole, TooDeep}}
use Rattle.cacache_entry.specs.{Entry.{Entry, text_or_null, byte_items, bytes_or_null, members_of}, FittingEntries.{IsEntry, IsWritable, cause_of}, EntryLaws.{NoCauseIsFit, FlatEntriesFit, bare_entry, BareEntriesFit}}
use Rattle.cacache_entry.proofs.{ReadsBack.{has_float-IsWhole}, WellRead.{IsJson-null}}

-- the first of three causes
abbrev first_cause : Bool → Bool → Bool → Option SerdeCause
first_cause late float deep = if late then Some TimeTooLarge else if float then Some NotWhole else if deep then Some TooDeep else None

record NoCause (late float deep : Bool) : Type 0 where
  early : late ≡ false
  whole : float ≡ false
  flat : deep ≡ false

no_cause : (late float deep : Bool) → first_cause late float deep ≡ None → NoCause late float deep
no_cause late float deep e = grind (arith, common_steps)

-- an entry with no cause against it has an early time
pub is_early : (e : Entry) → cause_of e ≡ None → e.time < 2 ^ 64
is_early e h = leb-false _ _ (no_cause _ _ _ h).early

-- and no number that isn't whole
pub has_no_float : (e : Entry) → cause_of e ≡ None → has_float e.metadata ≡ false
has_no_float e h = (no_cause (nat_le (2 ^ 64) e.time) (has_float e.metadata) (nat_lt max_depth (depth (object (members_of e)))) h).whole

-- and nests no deeper than its limit
pub nests : (e : Entry) → cause_of e ≡ None → depth (object (members_of e)) ≤ max_depth
nests e h = ltb-false _ _ (no_cause (nat_le (2 ^ 64) e.time) (has_float e.metadata) (nat_lt max_depth (depth (object (members_of e)))) h).flat

-- a well-formed entry with no cause against it fits
pub Fits-no_cause : (e : Entry) → IsEntry e → cause_of e ≡ None → IsWritable e
Fits-no_cause e h none = record { time = is_early e none; size = h.size; whole = h.metadata.in_range (has_no_float e none); nests = nests e none }

-- ---- how deep an entry nests

depth-text_or_null : (o : Option (List ℕ)) → depth (text_or_null o) ≤ 0
depth-text_or_null o = grind (arith, common_steps)

depth-byte_items : (bs : List ℕ) → items_depth (byte_items bs) ≤ 0
depth-byte_items [] = omega arith
depth-byte_items (b ∷ bs) = omega (arith, depth-byte_items bs)

depth-bytes_or_null : (o : Option (List ℕ)) → depth (bytes_or_null o) ≤ 1
depth-bytes_or_null o = grind (arith, depth-byte_items)

-- the text nests too deep if and only if the metadata nests deeper than 126 levels
pub is_deep : (e : Entry) → nat_lt max_depth (depth (object (members_of e))) ≡ not (nat_le (depth e.metadata) 126)
is_deep e = search (rules, depth-text_or_null, depth-bytes_or_null)

-- an early entry with only whole numbers, which nests flat enough, has no cause against it
pub cause_of-none : (e : Entry) → e.time < 2 ^ 64 → has_float e.metadata ≡ false → depth e.metadata ≤ 126 → None ≡ cause_of e
cause_of-none e early whole flat = search (rules, is_deep)

-- metadata of an entry that nests no deeper than its limit
pub flat_metadata : (e : Entry) → cause_of e ≡ None → depth e.metadata ≤ 126
flat_metadata e h = omega (arith, nests e h)

-- ---- the laws

no_cause-Fits : (e : Entry) → IsWritable e → cause_of e ≡ None
no_cause-Fits e f = sym (cause_of-none e f.time (has_float-IsWhole e.metadata f.whole) (omega (arith, f.nests)))

pub no_cause_is_fit : NoCauseIsFit
no_cause_is_fit e h = (λ none. Fits-no_cause e h none, λ f. no_cause-Fits e f)

pub flat_entries_fit : FlatEntriesFit
flat_entries_fit e h early whole flat = Fits-no_cause e h (sym (cause_of-none e early whole flat))

pub bare_entries_fit : BareEntriesFit
bare_entries_fit key integrity time size k i early small =
    let e = bare_entry key integrity time size in
    let is : IsEntry e = record { key = k; integrity = i; size = small; metadata = IsJson-null; raw_metadata = tt } in
    (is, flat_entries_fit e is early refl (omega arith))

-- Lookups of keys, reads of contents, checks that one exists, and exports.
use Rattle.std.specs.Prelude.{ℕ, List, Bool, false, if◌then◌else◌, Option, None, Some, length}
use Rattle.cacache_core.specs.{declared.errors.{Fault.{Fault}, IntegrityFault.TheVariants.{Check}, Error.TheVariants.{IntegrityError, EntryNotFound}}, Integrity.{actual}, Matching.{meets}}
use Rattle.cacache_calls.specs.{declared.{reply.Reply.TheVariants.{Read, Exists, Done, LookedUp}, carried.{Content.{Content}, Aim.{Aim}, Lookup.{Lookup}}, command.{How.{How, TheVariants.{Copy, Reflink, HardLink}}, Export.{Export}}}, State.{State, over, doing, opening_file, copying, to_verify, reflink, hard_link, reading}, Common.{ends_with, fails}, Steps.{content_path}, Removing.{remove_found}}
use Rattle.cacache_entry.specs.Bucket.{entries_of, Found, latest}
use Rattle.cacache_core.specs.declared.errors.Fault.TheVariants as faults
use Rattle.cacache_calls.specs.declared.carried.Aim.TheVariants as aims

-- a read returns only bytes that match the integrity
abbrev pub checked : Content → List ℕ → State
checked k bytes =
    if meets k.integrity bytes then over (Read bytes)
    else ends_with (IntegrityError (Check k.integrity (actual k.integrity bytes)))

-- whether the content exists, as the store reports
abbrev pub answer_there : Bool → State
answer_there there = over (Exists there)

-- a check that failed counts as "doesn't exist"
abbrev pub answer_absent : Fault → State
answer_absent fault = over (Exists false)

-- ---- exports: an unchecked one is a single step; a checked one reads the content to its end first

-- an export of the file at a path, with the verified count, if any
abbrev pub export_from : How → List ℕ → List ℕ → Option ℕ → State
export_from Copy from to verified = copying from to verified
export_from Reflink from to verified = doing (reflink from to) (over Done)
export_from HardLink from to verified = doing (hard_link from to) (over Done)

-- an export of a content
abbrev pub export_content : Content → Export → Option ℕ → State
export_content k e verified = export_from e.how (content_path k.cache k.integrity) e.to verified

-- a checked export reads the content first
abbrev pub export : Content → Export → State
export k e = if e.checked then opening_file (to_verify k e) else export_content k e None

-- the call exports only bytes that match the integrity
abbrev pub verified : Content → Export → List ℕ → State
verified k e bytes =
    if meets k.integrity bytes then export_content k e (Some (length bytes))
    else ends_with (IntegrityError (Check k.integrity (actual k.integrity bytes)))

-- a copy returns the verified count if there is one, otherwise its own count
abbrev pub copied_count : Option ℕ → ℕ → ℕ
copied_count None n = n
copied_count (Some verified) n = verified

-- ---- lookups of keys, and what the call does with the entry that it finds

-- the result of a lookup of the key in the bytes of a bucket
unfoldable pub found_in : List ℕ → List ℕ → Option Found
found_in key bytes = latest key (entries_of bytes)

-- the content of the entry that was found
abbrev pub found_content : Lookup → Found → Content
found_content l f = record { cache = l.cache; integrity = f.integrity }

-- what the lookup is for; if it found nothing, only a report and a removal go on
abbrev pub found_for : Lookup → Aim → Option Found → State
found_for l aims.Report found = over (LookedUp found)
found_for l aims.Remove found = remove_found l.cache l.key found
found_for l aims.Read (Some f) = reading (found_content l f)
found_for l (aims.Export e) (Some f) = export (found_content l f) e
found_for l aim None = ends_with (EntryNotFound l.cache l.key)

-- the call looks up the key in the bytes of its bucket
abbrev pub after_bucket : Lookup → List ℕ → State
after_bucket l bytes = found_for l l.aim (found_in l.key bytes)

-- a bucket that doesn't exist counts as an empty one
abbrev pub no_bucket : Lookup → Fault → State
no_bucket l faults.NotFound = found_for l l.aim None
no_bucket l fault = fails fault

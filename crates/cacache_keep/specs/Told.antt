-- What the calls' values say about their logs.
use Rattle.std.specs.Prelude.{◌≡◌, ℕ, List, Option, map, string_bytes}
use Rattle.cacache_store.specs.declared.store.log.LogItem.{LogItem}
use Rattle.cacache_entry.specs.{Bucket.{Found}, View.{found_view}, declared.metadata.Metadata.{Metadata}}
use Rattle.cacache_calls.specs.State.{Site}
use Rattle.cacache_keep.specs.{declared.{checking.OddLines.{OddLines}, planning.Planned.{Planned}, repairing.Repaired.{Repaired}, sweeping.Swept.{Swept}, verifying.Verdict.{Verdict}}, Calls.{AsksEach}, Checking.{odd_in}, Keeping.{VerifiesCache}, Planning.{PlansCache, sized_of}, Reading.{Judged, damaged_bytes_of, good_bytes_of}, Missing.{Look}, Repairing.{BuriesAll, BuriesEach, RepairsFrom, RepairsWith}, Sweeping.{SweepsCache}}

-- these contents were read, and the verdict gives the bytes of the good ones and of the damaged ones
abbrev pub TellsBytes : Verdict → List Judged → Type 0
TellsBytes v reads =
    (v.good_bytes ≡ good_bytes_of reads) × (v.damaged_bytes ≡ damaged_bytes_of reads)

-- the log gained a verification, and this is its verdict; it tells the buckets with odd lines that the
-- listing of the index read
abbrev pub VerifiesAs :
    Site → Verdict → Option (List LogItem) → Option (List LogItem) → Type 0
VerifiesAs site v old new =
    (it : VerifiesCache site v.good v.damaged.items
    (map found_view v.dangling.items) (map string_bytes v.strange.items) old new)
    × TellsBytes v it.reading.reads × (v.odd.items ≡ odd_in it.listing.2.0)

-- the log gained a plan, which this tells, with the buckets with odd lines that the listing read
abbrev pub PlansAs :
    Site → Planned → Option (List LogItem) → Option (List LogItem) → Type 0
PlansAs site p old new =
    (it : PlansCache site p.kept (map sized_of p.unused.items) old new)
    × (p.odd.items ≡ odd_in it.1.listing.2.0)

-- the log gained a question for the content of each entry, and these are those without one
abbrev pub AsksAs : Site → List Found → List Metadata
    → Option (List LogItem) → Option (List LogItem) → Type 0
AsksAs site entries dangling old new = AsksEach site entries (map found_view dangling) old new

-- the log gained the calls that bury the keys of these entries, and these are the buried ones
abbrev pub BuriesAs : Site → Look → List Metadata → List Metadata
    → Option (List LogItem) → Option (List LogItem) → Type 0
BuriesAs site look entries buried old new =
    BuriesEach site look (map found_view entries) (map found_view buried) old new

-- so it did after a look at the contents
abbrev pub BuriesAllAs : Site → List Metadata → List Metadata
    → Option (List LogItem) → Option (List LogItem) → Type 0
BuriesAllAs site entries buried old new =
    BuriesAll site (map found_view entries) (map found_view buried) old new

-- the log gained a repair of a cache whose index has these entries, and this tells what it did
abbrev pub RepairsFromAs :
    Site → List Found → Repaired → Option (List LogItem) → Option (List LogItem) → Type 0
RepairsFromAs site entries r old new =
    RepairsFrom site entries r.damaged.items (map found_view r.dangling.items) old new

-- so it did after a listing of the index
abbrev pub RepairsAs :
    OddLines → Site → Repaired → Option (List LogItem) → Option (List LogItem) → Type 0
RepairsAs odd site r old new =
    RepairsWith odd site r.damaged.items (map found_view r.dangling.items) old new

-- the log gained a sweep of the cache, and this says what it did
abbrev pub SweepsAs :
    List ℕ → Swept → Option (List LogItem) → Option (List LogItem) → Type 0
SweepsAs cache s old new =
    SweepsCache cache s.files s.bytes (map string_bytes s.strange.items) old new

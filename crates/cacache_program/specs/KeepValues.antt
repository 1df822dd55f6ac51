-- What is printed for the values that the calls of `cacache-keep` give.
use Rattle.std.specs.Prelude.{ℕ, List, length, map, string_bytes}
use Rattle.cacache.specs.Entries.{found_view}
use Rattle.cacache_keep.specs.declared.{collecting.{Collected.{Collected}, Collection.{Collection}}, compacting.Compacted.{Compacted}, planning.Planned.{Planned}, pruning.{PrunePlan.{PrunePlan}, Pruned.{Pruned}}, repairing.Repaired.{Repaired}, sweeping.Swept.{Swept}, verifying.Verdict.{Verdict}}
use Rattle.cacache_program.specs.{WordCollect.{collected_text, collection_text}, WordCompact.{compacted_text}, WordList.{listed_text}, WordPlan.{planned_text}, WordPrune.{prune_text, pruned_text}, WordRepair.{repaired_text}, WordSweep.{swept_text}, WordVerify.{Findings, verdict_status, verdict_text}}

-- ---- a verification

-- the counts of the verdict
abbrev pub text_of_verdict : Verdict → List ℕ
text_of_verdict v =
    verdict_text v.good (length v.damaged.items) (length v.dangling.items) (length v.strange.items)

-- its status
abbrev pub status_of_verdict : Verdict → ℕ
status_of_verdict v =
    verdict_status (length v.damaged.items) (length v.dangling.items) (length v.strange.items)

-- what it found
abbrev pub findings_of : Verdict → Findings
findings_of v = (
  v.good,
  v.damaged.items,
  map found_view v.dangling.items,
  map string_bytes v.strange.items,
  v.odd.items,
)

-- its counts, and the list after them
abbrev pub list_of_verdict : Verdict → List ℕ
list_of_verdict v = listed_text (findings_of v)

-- ---- the other calls

-- the counts of a collection
abbrev pub text_of_collected : Collected → List ℕ
text_of_collected c = collected_text c.kept (length c.dropped.items)

-- the counts of a collection with options
abbrev pub text_of_collection : Collection → List ℕ
text_of_collection c = collection_text c

-- the counts of a plan, and a line for each bucket with an odd line
abbrev pub text_of_planned : Planned → List ℕ
text_of_planned p = planned_text p.kept (length p.unused.items) p.odd.items

-- the counts of a sweep
abbrev pub text_of_swept : Swept → List ℕ
text_of_swept s = swept_text s.files s.bytes (length s.strange.items)

-- the counts of a repair
abbrev pub text_of_repaired : Repaired → List ℕ
text_of_repaired r = repaired_text (length r.damaged.items) (length r.dangling.items)

-- the counts of a compaction
abbrev pub text_of_compacted : Compacted → List ℕ
text_of_compacted c = compacted_text c.buckets c.bytes

-- the counts of a plan of a pruning, its entries and buckets
abbrev pub text_of_prune_plan : PrunePlan → List ℕ
text_of_prune_plan p =
    prune_text p.bytes_before p.bytes_after (map found_view p.dropped.items) p.odd.items

-- the counts of a pruning, and its entries
abbrev pub text_of_pruned : Pruned → List ℕ
text_of_pruned p =
    pruned_text p.bytes_before p.bytes_after (map found_view p.dropped.items)
    (map found_view p.left.items)

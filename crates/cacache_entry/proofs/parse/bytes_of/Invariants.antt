use Rattle.std.proofs.Common.{◌≡◌, ◌++◌, drop, option_map}
use Rattle.serde_json.specs.View.{items_view}
use Rattle.cacache_entry.specs.EntryTexts.{bytes_of}
use Rattle.cacache_entry.proofs.parse.bytes_of.Given as goal

abbrev pub invariant-loop-item : goal.invariant-loop-item
invariant-loop-item l = option_map (λ bs. l.bytes.items ++ bs) (bytes_of (items_view (drop l.item-index l.item-items))) ≡ bytes_of (items_view l.item-items)

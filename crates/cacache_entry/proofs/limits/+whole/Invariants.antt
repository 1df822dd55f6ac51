use Rattle.std.proofs.Common.{◌≡◌, drop}
use Rattle.serde_json.specs.{Written.{items_have_float, members_have_float}, View.{items_view, members_view}}
use Rattle.cacache_entry.proofs.limits.+whole.Given as goal

abbrev pub invariant-items_are_whole-loop-item : goal.invariant-items_are_whole-loop-item
invariant-items_are_whole-loop-item l = items_have_float (items_view (drop l.item-index l.item-items)) ≡ items_have_float (items_view l.item-items)

abbrev pub invariant-members_are_whole-loop-key : goal.invariant-members_are_whole-loop-key
invariant-members_are_whole-loop-key l = members_have_float (members_view l._key-iterator) ≡ members_have_float (members_view l.members.entries)

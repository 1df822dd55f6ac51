use Rattle.std.proofs.Common.{drop}
use Rattle.serde_json.specs.View.{items_view, members_view}
use Rattle.cacache_calls.specs.JsonCode.{AllJson, NamedJson}
use Rattle.cacache_calls.proofs.values.+json.Given as goal

abbrev pub invariant-look_through_items-loop-item : goal.invariant-look_through_items-loop-item
invariant-look_through_items-loop-item l = AllJson (items_view (drop l.item-index l.item-items)) → AllJson (items_view l.item-items)

abbrev pub invariant-look_through_members-loop-name : goal.invariant-look_through_members-loop-name
invariant-look_through_members-loop-name l = NamedJson (members_view l._name-iterator) → NamedJson (members_view l.members.entries)

use Rattle.std.{proofs.Common.{◌≡◌, drop}, specs.Prelude.{nat_le}}
use Rattle.serde_json.specs.{Data.{items_depth, members_depth}, View.{items_view, members_view}}
use Rattle.cacache_entry.proofs.limits.+nested.Given as goal

abbrev pub invariant-items_nest_within-loop-item : goal.invariant-items_nest_within-loop-item
invariant-items_nest_within-loop-item l = nat_le (items_depth (items_view (drop l.item-index l.item-items))) l.levels ≡ nat_le (items_depth (items_view l.item-items)) l.levels

abbrev pub invariant-members_nest_within-loop-key : goal.invariant-members_nest_within-loop-key
invariant-members_nest_within-loop-key l = nat_le (members_depth (members_view l._key-iterator)) l.levels ≡ nat_le (members_depth (members_view l.members.entries)) l.levels

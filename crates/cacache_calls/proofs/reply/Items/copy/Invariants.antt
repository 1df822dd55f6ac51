use Rattle.std.proofs.Common.{◌≡◌, take}
use Rattle.cacache_calls.proofs.reply.Items.copy.Given as goal

abbrev pub invariant-loop-item : goal.invariant-loop-item
invariant-loop-item l = l.items.items ≡ take l.item-index l.self

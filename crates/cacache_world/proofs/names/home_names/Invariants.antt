use Rattle.std.{proofs.Common.{◌≡◌, false, length, take, filter}, specs.List.{list_any}}
use Rattle.cacache_core.specs.Paths.{pieces, is_above, is_name}
use Rattle.cacache_world.proofs.names.home_names.Given as goal

abbrev pub invariant-loop-piece : goal.invariant-loop-piece
invariant-loop-piece l = record {
  gathered : l.names.items ≡ filter is_name (take (length l.yielded) (pieces l.text));
  none_above : list_any is_above (take (length l.yielded) (pieces l.text)) ≡ false;
}

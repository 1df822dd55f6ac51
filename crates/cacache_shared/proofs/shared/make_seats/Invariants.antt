use Rattle.std.proofs.Common.{◌≡◌, ◌+◌, ◌≤◌, vec_len, vec_capacity}
use Rattle.cacache_shared.{proofs.Callers.{records_below}, specs.Seats.{fresh_seats}}
use Rattle.cacache_shared.proofs.shared.make_seats.Given as goal

abbrev pub invariant-loop-caller : goal.invariant-loop-caller
invariant-loop-caller g l = record {
  parts : l.rest.parts + l.caller ≡ l.count;
  amount : l.rest.amount ≡ 0;
  seats : l.seats.items ≡ fresh_seats l.world.records l.caller;
  len : vec_len l.seats ≡ l.caller;
  room : l.count ≤ vec_capacity l.seats;
  total : l.book.total ≡ records_below l.world.records l.caller;
}

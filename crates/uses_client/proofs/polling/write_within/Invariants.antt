-- Each poll so far was pending.
use Rattle.std.proofs.Common.{◌≡◌, ◌<◌}
use Rattle.futures.specs.{declared.task.Poll.TheVariants.{Pending}, Task.{IsArmed, Keeps}}
use Rattle.uses_client.specs.Writing.{WritesWithin}
use Rattle.uses_client.proofs.polling.write_within.Given as goal

abbrev pub invariant-loop : goal.invariant-loop
invariant-loop g l =
    WritesWithin g.W.PollWrite.polls l.fn.write.writer.now l.fn.write.rest.now l.write.writer.now l.write.rest.now l.counter Pending
    × (l.write.writer.ghost_name ≡ l.fn.write.writer.ghost_name)
    × (0 < l.counter → IsArmed l.cx) × Keeps l.fn.cx l.cx

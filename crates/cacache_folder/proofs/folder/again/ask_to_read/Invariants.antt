use Rattle.std.specs.Prelude.{◌≡◌, length}
use Rattle.cacache_system.specs.declared.call.SystemCall.TheVariants.{Read}
use Rattle.cacache_folder.specs.Goings.{Waits}
use Rattle.cacache_folder.proofs.folder.again.ask_to_read.Given as goal

-- all reads so far were interrupted
abbrev pub invariant-loop : goal.invariant-loop
invariant-loop g l = record {
  same : g.Y.System.number l.file ≡ g.Y.System.number l.fn.file;
  waits : Waits (Read (g.Y.System.number l.fn.file) (length l.fn.buf))
      (g.Y.System.calls l.fn.system) (g.Y.System.calls l.system);
}

use Rattle.std.specs.Prelude.{◌≡◌}
use Rattle.cacache_system.specs.declared.call.SystemCall.TheVariants.{Write}
use Rattle.cacache_folder.specs.Goings.{Waits}
use Rattle.cacache_folder.proofs.folder.again.ask_to_write.Given as goal

-- all writes so far were interrupted
abbrev pub invariant-loop : goal.invariant-loop
invariant-loop g l = record {
  same : g.Y.System.number l.file ≡ g.Y.System.number l.fn.file;
  waits : Waits (Write (g.Y.System.number l.fn.file) l.buf)
      (g.Y.System.calls l.fn.system) (g.Y.System.calls l.system);
}

use Rattle.std.specs.Prelude.{◌≡◌, length}
use Rattle.cacache_system.specs.declared.call.SystemCall.TheVariants.{ReadNames}
use Rattle.cacache_folder.specs.Goings.{Waits}
use Rattle.cacache_folder.proofs.folder.again.ask_for_names.Given as goal

-- all reads so far were interrupted
abbrev pub invariant-loop : goal.invariant-loop
invariant-loop g l = record {
  same : g.Y.System.folder_number l.folder ≡ g.Y.System.folder_number l.fn.folder;
  waits : Waits (ReadNames (g.Y.System.folder_number l.fn.folder) (length l.fn.buf))
      (g.Y.System.calls l.fn.system) (g.Y.System.calls l.system);
}

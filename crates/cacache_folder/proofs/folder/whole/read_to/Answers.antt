use Rattle.std.proofs.Common.{take, length, arith, ap}
use Rattle.std_io.specs.IoError.{error_kind}
use Rattle.cacache_system.specs.CallsOf as calls
use Rattle.cacache_folder.proofs.Reading.{insists_as, insists_fails, cut_front}
use Rattle.cacache_folder.proofs.folder.whole.read_to.Goals as goal

pub returns-in-Ok-clause-made : goal.returns-in-Ok-clause-made
returns-in-Ok-clause-made g c =
    insists_as (g.Y.System.number c.args.file.now) _ _ (take c.in-Ok.count c.ask_to_read.new.buf) _ (g.Y.System.calls c.args.system.now) (g.Y.System.calls c.ask_to_read.new.system)
    c.in-Ok.ensures.made (ap (λ bytes. length bytes) c.deref_mut.ensures.value) (grind (arith, cut_front))

pub returns-in-Err-clause-made : goal.returns-in-Err-clause-made
returns-in-Err-clause-made g c =
    insists_fails (g.Y.System.number c.args.file.now) _ _ (error_kind c.in-Err.error) (g.Y.System.calls c.args.system.now) (g.Y.System.calls c.ask_to_read.new.system) c.in-Err.ensures.made
    (ap (λ bytes. length bytes) c.deref_mut.ensures.value)

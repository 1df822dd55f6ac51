use Rattle.cacache_system.specs.declared.call.SystemCall.TheVariants as asks
use Rattle.cacache_system.specs.declared.call.CallResult.TheVariants as says
use Rattle.cacache_system.specs.Seen.{said}
use Rattle.cacache_folder.proofs.CallRuns.{insists_run}
use Rattle.cacache_folder.proofs.folder.temp.SystemTempTempFile.write_some.Goals as goal

pub returns-clause-ran : goal.returns-clause-ran
returns-clause-ran g c =
    insists_run (asks.Write (g.Y.System.number c.args.self.now.file) c.args.buf.now) (said says.Count c.ask_to_write.result)
    (g.Y.System.calls c.args.self.now.system) (g.Y.System.calls c.ask_to_write.new.system) c.ask_to_write.ensures.made

use Rattle.std.proofs.Common.{false, ap}
use Rattle.std_io.specs.IoError.{error_kind}
use Rattle.cacache_system.specs.declared.call.SystemCall.TheVariants as asks
use Rattle.cacache_system.specs.declared.call.CallResult.TheVariants as says
use Rattle.cacache_system.specs.CallsOf as calls
use Rattle.cacache_folder.proofs.{CallRuns.{insists_run}, Answering.{answers_run, writes, write_told, write_failed}}
use Rattle.cacache_folder.proofs.folder.runner.Runner.write_temp.Goals as goal

pub returns-in-Ok-clause-ran : goal.returns-in-Ok-clause-ran
returns-in-Ok-clause-ran g c =
    let file = g.Y.System.number c.args.temp.file in
    let bytes = c.as_slice.result.now in
    answers_run (writes file c.args.temp.path c.args.bytes) _ (calls.trying false (asks.Write file bytes)) (says.Count c.in-Ok.count)
    (g.Y.System.calls c.args.self.now.system) (g.Y.System.calls c.ask_to_write.new.system) (insists_run (asks.Write file bytes) (says.Count c.in-Ok.count) (g.Y.System.calls c.args.self.now.system) (g.Y.System.calls c.ask_to_write.new.system) c.in-Ok.ensures.made)
    (ap (λ b. calls.trying false (asks.Write file b)) c.as_slice.ensures)
    (write_told file (g.Y.System.number c.ask_to_write.new.file) c.args.temp.path c.args.bytes c.in-Ok.count c.in-Ok.ensures.same)

pub returns-in-Err-clause-ran : goal.returns-in-Err-clause-ran
returns-in-Err-clause-ran g c =
    let file = g.Y.System.number c.args.temp.file in
    let bytes = c.as_slice.result.now in
    let why = error_kind c.in-Err.error in
    answers_run (writes file c.args.temp.path c.args.bytes) _ (calls.trying false (asks.Write file bytes)) (says.Failed why)
    (g.Y.System.calls c.args.self.now.system) (g.Y.System.calls c.ask_to_write.new.system) (insists_run (asks.Write file bytes) (says.Failed why) (g.Y.System.calls c.args.self.now.system) (g.Y.System.calls c.ask_to_write.new.system) c.in-Err.ensures.made)
    (ap (λ b. calls.trying false (asks.Write file b)) c.as_slice.ensures)
    (write_failed file (g.Y.System.number c.ask_to_write.new.file) c.args.temp.path c.args.bytes why _ c.in-Err.ensures.same c.failed_answer.ensures.answer)

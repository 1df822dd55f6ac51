use Rattle.std.proofs.Common.{refl}
use Rattle.std_io.specs.IoError.{error_kind}
use Rattle.cacache_system.specs.declared.call.CallResult.TheVariants as says
use Rattle.cacache_system.specs.CallsOf as calls
use Rattle.cacache_folder.proofs.Answering.{answers_run, reads, read_told, read_failed}
use Rattle.cacache_folder.proofs.folder.runner.Runner.read_file.Goals as goal

pub returns-in-Ok-clause-ran : goal.returns-in-Ok-clause-ran
returns-in-Ok-clause-ran g c =
    let file = g.Y.System.number c.args.file.file in
    answers_run (reads file c.args.file.left c.args.max) _ _ (says.Bytes c.in-Ok.bytes)
    (g.Y.System.calls c.args.self.now.system) (g.Y.System.calls c.read_piece.new.system) c.in-Ok.ensures.ran refl
    (read_told file (g.Y.System.number c.read_piece.new.file.file) c.args.file.left c.read_piece.new.file.left c.args.max c.in-Ok.bytes c.in-Ok.ensures.number c.in-Ok.ensures.left)

pub returns-in-Err-clause-ran : goal.returns-in-Err-clause-ran
returns-in-Err-clause-ran g c =
    let file = g.Y.System.number c.args.file.file in
    let why = error_kind c.in-Err.error in
    answers_run (reads file c.args.file.left c.args.max) _ _ (says.Failed why)
    (g.Y.System.calls c.args.self.now.system) (g.Y.System.calls c.read_piece.new.system) c.in-Err.ensures.ran refl
    (read_failed file (g.Y.System.number c.read_piece.new.file.file) c.args.file.left c.read_piece.new.file.left c.args.max why _
    c.in-Err.ensures.number c.in-Err.ensures.same c.failed_answer.ensures.answer)

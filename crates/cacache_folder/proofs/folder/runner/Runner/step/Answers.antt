use Rattle.std.proofs.Common.{refl, sym, ap, subst}
use Rattle.cacache_system.specs.declared.call.SystemCall.TheVariants as asks
use Rattle.cacache_system.specs.declared.call.CallResult.TheVariants as says
use Rattle.cacache_system.specs.{Seen.{said}, AnswersOf.{StepRuns}}
use Rattle.cacache_system.specs.CallsOf as calls
use Rattle.cacache_store.specs.declared.store.step.Step.TheVariants as steps
use Rattle.cacache_folder.{specs.{FolderNumbers.{numbered, answered}, Moves.{Persists}}, proofs.Answering.{answers_run, answers_call, persists_answer, temp_of, by_path, whole_of}}
use Rattle.cacache_folder.proofs.folder.runner.Runner.step.Goals as goal

pub returns-in-CreateTemp-clause-ran : goal.returns-in-CreateTemp-clause-ran
returns-in-CreateTemp-clause-ran g c =
    subst (λ step. StepRuns (numbered g.Y.System.number step) (answered g.Y.System.number c.created.result) (g.Y.System.calls c.args.self.now.system) (g.Y.System.calls c.create_temp-made.new.system)) (sym c.in-CreateTemp.is)
    (answers_run (steps.CreateTemp c.in-CreateTemp.path) _ (calls.taking_memory (calls.only (asks.CreateNew c.as_str.result.now 384))) (said (λ made. says.Opened (g.Y.System.number made.1)) c.create_temp-made.result)
    (g.Y.System.calls c.args.self.now.system) (g.Y.System.calls c.create_temp-made.new.system) c.create_temp-made.ensures (ap (λ p. calls.taking_memory (calls.only (asks.CreateNew p 384))) c.as_str.ensures.same) c.created.ensures.answer)

pub returns-in-Write-clause-ran : goal.returns-in-Write-clause-ran
returns-in-Write-clause-ran g c =
    subst (λ step. StepRuns (numbered g.Y.System.number step) (answered g.Y.System.number c.write_temp.result) (g.Y.System.calls c.args.self.now.system) (g.Y.System.calls c.write_temp.new.self.system)) (sym c.in-Write.is)
    c.write_temp.ensures.ran

pub returns-in-SyncTemp-clause-ran : goal.returns-in-SyncTemp-clause-ran
returns-in-SyncTemp-clause-ran g c =
    subst (λ step. StepRuns (numbered g.Y.System.number step) (answered g.Y.System.number c.synced.result) (g.Y.System.calls c.args.self.now.system) (g.Y.System.calls c.sync-done.new.self)) (sym c.in-SyncTemp.is)
    (answers_call (steps.SyncTemp (temp_of (g.Y.System.number c.in-SyncTemp.temp.file) c.in-SyncTemp.temp.path)) _ (asks.Sync (g.Y.System.number c.in-SyncTemp.temp.file)) (said (λ _. says.Done) c.sync-done.result)
    (g.Y.System.calls c.args.self.now.system) (g.Y.System.calls c.sync-done.new.self) c.sync-done.ensures refl c.synced.ensures.answer)

pub returns-in-Persist-clause-ran : goal.returns-in-Persist-clause-ran
returns-in-Persist-clause-ran g c =
    let temp = temp_of (g.Y.System.number c.in-Persist.temp.file) c.in-Persist.temp.path in
    subst (λ step. StepRuns (numbered g.Y.System.number step) (answered g.Y.System.number c.moved.result) (g.Y.System.calls c.args.self.now.system) (g.Y.System.calls c.persist-done.new.self.system)) (sym c.in-Persist.is)
    (persists_answer temp c.in-Persist.path c.persist-done.result _ (g.Y.System.calls c.args.self.now.system) (g.Y.System.calls c.persist-done.new.self.system)
    (subst (λ p. Persists temp p c.persist-done.result (g.Y.System.calls c.args.self.now.system) (g.Y.System.calls c.persist-done.new.self.system)) c.as_str-in-Persist.ensures.same c.persist-done.ensures.ran) c.moved.ensures.answer)

pub returns-in-Open-clause-ran : goal.returns-in-Open-clause-ran
returns-in-Open-clause-ran g c =
    subst (λ step. StepRuns (numbered g.Y.System.number step) (answered g.Y.System.number c.readable.result) (g.Y.System.calls c.args.self.now.system) (g.Y.System.calls c.open_with-file.new.system)) (sym c.in-Open.is)
    (answers_run (steps.Open c.in-Open.path) _ (calls.taking_memory (calls.opening calls.to_give c.as_str-in-Open.result.now)) (said (λ made. says.Opened (g.Y.System.number made.1)) c.open_with-file.result)
    (g.Y.System.calls c.args.self.now.system) (g.Y.System.calls c.open_with-file.new.system) c.open_with-file.ensures (ap (λ p. calls.taking_memory (calls.opening calls.to_give p)) c.as_str-in-Open.ensures.same) c.readable.ensures.answer)

pub returns-in-Read-clause-ran : goal.returns-in-Read-clause-ran
returns-in-Read-clause-ran g c =
    subst (λ step. StepRuns (numbered g.Y.System.number step) (answered g.Y.System.number c.read_file.result) (g.Y.System.calls c.args.self.now.system) (g.Y.System.calls c.read_file.new.self.system)) (sym c.in-Read.is)
    c.read_file.ensures.ran

pub returns-in-Ok-clause-ran : goal.returns-in-Ok-clause-ran
returns-in-Ok-clause-ran g c = c.in-Ok.ensures.ran (by_path g.Y.System.number c.args.step c.in_default.not-CreateTemp c.in_default.not-Write c.in_default.not-Persist c.in_default.not-Open c.in_default.not-Read c.in_default.not-SyncTemp)

pub returns-in-Ok-clause-whole : goal.returns-in-Ok-clause-whole
returns-in-Ok-clause-whole g c = whole_of _ _ c.in-Ok.ensures.done

pub returns-in-Err-clause-ran : goal.returns-in-Err-clause-ran
returns-in-Err-clause-ran g c =
    subst (λ answer. StepRuns (numbered g.Y.System.number c.args.step) answer (g.Y.System.calls c.args.self.now.system) (g.Y.System.calls c.do_by_path.new.self.system)) (sym c.failed_answer.ensures.answer)
    (c.in-Err.ensures.ran (by_path g.Y.System.number c.args.step c.in_default.not-CreateTemp c.in_default.not-Write c.in_default.not-Persist c.in_default.not-Open c.in_default.not-Read c.in_default.not-SyncTemp))

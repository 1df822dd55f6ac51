use Rattle.std.proofs.Common.{refl, sym, ap, subst, ◌∙◌}
use Rattle.std_io.specs.IoError.{error_kind}
use Rattle.cacache_system.specs.declared.call.SystemCall.TheVariants as asks
use Rattle.cacache_system.specs.declared.call.CallResult.TheVariants as says
use Rattle.std_io.specs.declared.io.kind.ErrorKind.TheVariants as kind
use Rattle.cacache_system.specs.{Seen.{said}, AnswersOf.{StepRuns, failed_with, starts_at}}
use Rattle.cacache_system.specs.CallsOf as calls
use Rattle.cacache_store.specs.declared.store.step.Step.TheVariants as steps
use Rattle.cacache_store.specs.declared.store.answer.Answer.TheVariants as answers
use Rattle.cacache_folder.specs.FolderNumbers.{numbered, answered, answered_or, value_or}
use Rattle.cacache_folder.proofs.{CallRuns.{run_one, run_none, run_as}, Answering.{answers_run, arm_as, arm_run, value_is, by_path, by_file, whole_of}}
use Rattle.cacache_folder.proofs.folder.runner.Runner.do_by_path.Goals as goal

pub returns-in-MakeDirs-clause-ran : goal.returns-in-MakeDirs-clause-ran
returns-in-MakeDirs-clause-ran g c =
    λ _. subst (λ step. StepRuns (numbered g.Y.System.number step) (answered_or g.Y.System.number (numbered g.Y.System.number step) c.done.result) (g.Y.System.calls c.args.self.now.system) (g.Y.System.calls c.make_dirs.new.self.system)) (sym c.in-MakeDirs.is)
    (arm_as g.Y.System.number (steps.MakeDirs c.in-MakeDirs.path) (λ _. answers.Done) c.make_dirs.result c.done.result (g.Y.System.calls c.args.self.now.system) (g.Y.System.calls c.make_dirs.new.self.system)
    (subst (λ p. StepRuns (steps.MakeDirs p) (value_or (λ _. answers.Done) (steps.MakeDirs p) c.make_dirs.result) (g.Y.System.calls c.args.self.now.system) (g.Y.System.calls c.make_dirs.new.self.system)) c.as_str.ensures.same c.make_dirs.ensures.ran) c.done.ensures)

pub returns-in-Append-clause-ran : goal.returns-in-Append-clause-ran
returns-in-Append-clause-ran g c =
    λ _. subst (λ step. StepRuns (numbered g.Y.System.number step) (answered_or g.Y.System.number (numbered g.Y.System.number step) c.took.result) (g.Y.System.calls c.args.self.now.system) (g.Y.System.calls c.append.new.system)) (sym c.in-Append.is)
    (arm_run g.Y.System.number (steps.Append c.in-Append.path c.in-Append.bytes) (calls.appending c.as_str-in-Append.result.now c.as_slice.result.now) says.Count (λ n. answers.Took n) c.append.result c.took.result (g.Y.System.calls c.args.self.now.system) (g.Y.System.calls c.append.new.system)
    c.append.ensures.ran (ap (λ p. calls.appending p c.as_slice.result.now) c.as_str-in-Append.ensures.same ∙ ap (λ b. calls.appending c.in-Append.path b) c.as_slice.ensures) (λ _. refl) (λ _. refl) c.took.ensures)

pub returns-in-ReadAll-clause-ran : goal.returns-in-ReadAll-clause-ran
returns-in-ReadAll-clause-ran g c =
    λ _. subst (λ step. StepRuns (numbered g.Y.System.number step) (answered_or g.Y.System.number (numbered g.Y.System.number step) c.whole.result) (g.Y.System.calls c.args.self.now.system) (g.Y.System.calls c.read_all.new.self.system)) (sym c.in-ReadAll.is)
    (arm_run g.Y.System.number (steps.ReadAll c.in-ReadAll.path) (calls.opening_whole c.as_str-in-ReadAll.result.now) says.Bytes (λ b. answers.Bytes b) c.read_all.result c.whole.result (g.Y.System.calls c.args.self.now.system) (g.Y.System.calls c.read_all.new.self.system)
    c.read_all.ensures.ran (ap (λ p. calls.opening_whole p) c.as_str-in-ReadAll.ensures.same) (λ _. refl) (λ _. refl) c.whole.ensures)

pub returns-in-Exists-clause-ran : goal.returns-in-Exists-clause-ran
returns-in-Exists-clause-ran g c =
    λ _. subst (λ step. StepRuns (numbered g.Y.System.number step) (answered_or g.Y.System.number (numbered g.Y.System.number step) c.there.result) (g.Y.System.calls c.args.self.now.system) (g.Y.System.calls c.exists.new.system)) (sym c.in-Exists.is)
    (arm_as g.Y.System.number (steps.Exists c.in-Exists.path) (λ is. answers.There is) c.exists.result c.there.result (g.Y.System.calls c.args.self.now.system) (g.Y.System.calls c.exists.new.system)
    (subst (λ p. StepRuns (steps.Exists p) (value_or (λ is. answers.There is) (steps.Exists p) c.exists.result) (g.Y.System.calls c.args.self.now.system) (g.Y.System.calls c.exists.new.system)) c.as_str-in-Exists.ensures.same c.exists.ensures) c.there.ensures)

pub returns-in-Size-clause-ran : goal.returns-in-Size-clause-ran
returns-in-Size-clause-ran g c =
    λ _. subst (λ step. StepRuns (numbered g.Y.System.number step) (answered_or g.Y.System.number (numbered g.Y.System.number step) c.length_of.result) (g.Y.System.calls c.args.self.now.system) (g.Y.System.calls c.size.new.system)) (sym c.in-Size.is)
    (arm_run g.Y.System.number (steps.Size c.in-Size.path) (calls.sizing c.as_str-in-Size.result.now) says.Info (λ info. answers.Length info.size) c.size.result c.length_of.result (g.Y.System.calls c.args.self.now.system) (g.Y.System.calls c.size.new.system)
    c.size.ensures (ap (λ p. calls.sizing p) c.as_str-in-Size.ensures.same) (λ _. refl) (λ _. refl) c.length_of.ensures)

pub returns-in-Symlink-clause-ran : goal.returns-in-Symlink-clause-ran
returns-in-Symlink-clause-ran g c =
    λ _. subst (λ step. StepRuns (numbered g.Y.System.number step) (answered_or g.Y.System.number (numbered g.Y.System.number step) c.done-in-Symlink.result) (g.Y.System.calls c.args.self.now.system) (g.Y.System.calls c.symlink.new.self)) (sym c.in-Symlink.is)
    (arm_run g.Y.System.number (steps.Symlink c.in-Symlink.target c.in-Symlink.path) (calls.only (asks.Symlink c.as_str-in-Symlink.result.now c.as_str-in-Symlink-2.result.now)) (λ _. says.Done) (λ _. answers.Done) c.symlink.result c.done-in-Symlink.result (g.Y.System.calls c.args.self.now.system) (g.Y.System.calls c.symlink.new.self)
    (run_one (calls.only (asks.Symlink c.as_str-in-Symlink.result.now c.as_str-in-Symlink-2.result.now)) (asks.Symlink c.as_str-in-Symlink.result.now c.as_str-in-Symlink-2.result.now) (said (λ _. says.Done) c.symlink.result) (said (λ _. says.Done) c.symlink.result) (g.Y.System.calls c.args.self.now.system) (g.Y.System.calls c.symlink.new.self) c.symlink.ensures refl refl) (ap (λ p. calls.only (asks.Symlink p c.as_str-in-Symlink-2.result.now)) c.as_str-in-Symlink.ensures.same ∙ ap (λ p. calls.only (asks.Symlink c.in-Symlink.target p)) c.as_str-in-Symlink-2.ensures.same) (λ _. refl) (λ _. refl) c.done-in-Symlink.ensures)

pub returns-in-Copy-clause-ran : goal.returns-in-Copy-clause-ran
returns-in-Copy-clause-ran g c =
    λ _. subst (λ step. StepRuns (numbered g.Y.System.number step) (answered_or g.Y.System.number (numbered g.Y.System.number step) c.took-in-Copy.result) (g.Y.System.calls c.args.self.now.system) (g.Y.System.calls c.copy.new.system)) (sym c.in-Copy.is)
    (arm_as g.Y.System.number (steps.Copy c.in-Copy.from c.in-Copy.to) (λ n. answers.Took n) c.copy.result c.took-in-Copy.result (g.Y.System.calls c.args.self.now.system) (g.Y.System.calls c.copy.new.system) (
      starts_at c.unwrap_or-number.result,
      said says.Count c.copy.result,
      subst (λ log. calls.RunLogged (calls.asking_source c.unwrap_or-number.result c.in-Copy.from c.in-Copy.to) (said says.Count c.copy.result) log (g.Y.System.calls c.copy.new.system)) c.random.ensures.unlogged
          (run_as (calls.asking_source c.unwrap_or-number.result c.as_str-in-Copy.result.now c.as_str-in-Copy-2.result.now) (calls.asking_source c.unwrap_or-number.result c.in-Copy.from c.in-Copy.to) (said says.Count c.copy.result) (g.Y.System.calls c.random.new.self) (g.Y.System.calls c.copy.new.system) c.copy.ensures
          (ap (λ p. calls.asking_source c.unwrap_or-number.result p c.as_str-in-Copy-2.result.now) c.as_str-in-Copy.ensures.same ∙ ap (λ p. calls.asking_source c.unwrap_or-number.result c.in-Copy.from p) c.as_str-in-Copy-2.ensures.same)),
      value_is (steps.Copy c.in-Copy.from c.in-Copy.to) says.Count (λ n. answers.Took n) c.copy.result (λ _. refl) (λ _. refl),
    ) c.took-in-Copy.ensures)

pub returns-in-HardLink-clause-ran : goal.returns-in-HardLink-clause-ran
returns-in-HardLink-clause-ran g c =
    λ _. subst (λ step. StepRuns (numbered g.Y.System.number step) (answered_or g.Y.System.number (numbered g.Y.System.number step) c.done-in-HardLink.result) (g.Y.System.calls c.args.self.now.system) (g.Y.System.calls c.hard_link.new.self)) (sym c.in-HardLink.is)
    (arm_run g.Y.System.number (steps.HardLink c.in-HardLink.from c.in-HardLink.to) (calls.only (asks.HardLink c.as_str-in-HardLink.result.now c.as_str-in-HardLink-2.result.now)) (λ _. says.Done) (λ _. answers.Done) c.hard_link.result c.done-in-HardLink.result (g.Y.System.calls c.args.self.now.system) (g.Y.System.calls c.hard_link.new.self)
    (run_one (calls.only (asks.HardLink c.as_str-in-HardLink.result.now c.as_str-in-HardLink-2.result.now)) (asks.HardLink c.as_str-in-HardLink.result.now c.as_str-in-HardLink-2.result.now) (said (λ _. says.Done) c.hard_link.result) (said (λ _. says.Done) c.hard_link.result) (g.Y.System.calls c.args.self.now.system) (g.Y.System.calls c.hard_link.new.self) c.hard_link.ensures refl refl) (ap (λ p. calls.only (asks.HardLink p c.as_str-in-HardLink-2.result.now)) c.as_str-in-HardLink.ensures.same ∙ ap (λ p. calls.only (asks.HardLink c.in-HardLink.from p)) c.as_str-in-HardLink-2.ensures.same) (λ _. refl) (λ _. refl) c.done-in-HardLink.ensures)

pub returns-in-ReadDir-clause-ran : goal.returns-in-ReadDir-clause-ran
returns-in-ReadDir-clause-ran g c =
    λ _. subst (λ step. StepRuns (numbered g.Y.System.number step) (answered_or g.Y.System.number (numbered g.Y.System.number step) c.listed.result) (g.Y.System.calls c.args.self.now.system) (g.Y.System.calls c.read_dir.new.self.system)) (sym c.in-ReadDir.is)
    (arm_as g.Y.System.number (steps.ReadDir c.in-ReadDir.path) (λ names. answers.Names names) c.read_dir.result c.listed.result (g.Y.System.calls c.args.self.now.system) (g.Y.System.calls c.read_dir.new.self.system)
    (subst (λ p. StepRuns (steps.ReadDir p) (value_or (λ names. answers.Names names) (steps.ReadDir p) c.read_dir.result) (g.Y.System.calls c.args.self.now.system) (g.Y.System.calls c.read_dir.new.self.system)) c.as_str-in-ReadDir.ensures.same c.read_dir.ensures.ran) c.listed.ensures)

pub returns-in-RemoveFile-clause-ran : goal.returns-in-RemoveFile-clause-ran
returns-in-RemoveFile-clause-ran g c =
    λ _. subst (λ step. StepRuns (numbered g.Y.System.number step) (answered_or g.Y.System.number (numbered g.Y.System.number step) c.done-in-RemoveFile.result) (g.Y.System.calls c.args.self.now.system) (g.Y.System.calls c.remove_file.new.self)) (sym c.in-RemoveFile.is)
    (arm_run g.Y.System.number (steps.RemoveFile c.in-RemoveFile.path) (calls.only (asks.RemoveFile c.as_str-in-RemoveFile.result.now)) (λ _. says.Done) (λ _. answers.Done) c.remove_file.result c.done-in-RemoveFile.result (g.Y.System.calls c.args.self.now.system) (g.Y.System.calls c.remove_file.new.self)
    (run_one (calls.only (asks.RemoveFile c.as_str-in-RemoveFile.result.now)) (asks.RemoveFile c.as_str-in-RemoveFile.result.now) (said (λ _. says.Done) c.remove_file.result) (said (λ _. says.Done) c.remove_file.result) (g.Y.System.calls c.args.self.now.system) (g.Y.System.calls c.remove_file.new.self) c.remove_file.ensures refl refl) (ap (λ p. calls.only (asks.RemoveFile p)) c.as_str-in-RemoveFile.ensures.same) (λ _. refl) (λ _. refl) c.done-in-RemoveFile.ensures)

pub returns-in-RemoveDir-clause-ran : goal.returns-in-RemoveDir-clause-ran
returns-in-RemoveDir-clause-ran g c =
    λ _. subst (λ step. StepRuns (numbered g.Y.System.number step) (answered_or g.Y.System.number (numbered g.Y.System.number step) c.done-in-RemoveDir.result) (g.Y.System.calls c.args.self.now.system) (g.Y.System.calls c.remove_folder.new.self)) (sym c.in-RemoveDir.is)
    (arm_run g.Y.System.number (steps.RemoveDir c.in-RemoveDir.path) (calls.only (asks.RemoveFolder c.as_str-in-RemoveDir.result.now)) (λ _. says.Done) (λ _. answers.Done) c.remove_folder.result c.done-in-RemoveDir.result (g.Y.System.calls c.args.self.now.system) (g.Y.System.calls c.remove_folder.new.self)
    (run_one (calls.only (asks.RemoveFolder c.as_str-in-RemoveDir.result.now)) (asks.RemoveFolder c.as_str-in-RemoveDir.result.now) (said (λ _. says.Done) c.remove_folder.result) (said (λ _. says.Done) c.remove_folder.result) (g.Y.System.calls c.args.self.now.system) (g.Y.System.calls c.remove_folder.new.self) c.remove_folder.ensures refl refl) (ap (λ p. calls.only (asks.RemoveFolder p)) c.as_str-in-RemoveDir.ensures.same) (λ _. refl) (λ _. refl) c.done-in-RemoveDir.ensures)

pub returns-in-SyncFile-clause-ran : goal.returns-in-SyncFile-clause-ran
returns-in-SyncFile-clause-ran g c =
    λ _. subst (λ step. StepRuns (numbered g.Y.System.number step) (answered_or g.Y.System.number (numbered g.Y.System.number step) c.done-in-SyncFile.result) (g.Y.System.calls c.args.self.now.system) (g.Y.System.calls c.sync_file.new.system)) (sym c.in-SyncFile.is)
    (arm_run g.Y.System.number (steps.SyncFile c.in-SyncFile.path) (calls.opening calls.to_sync c.as_str-in-SyncFile.result.now) (λ _. says.Done) (λ _. answers.Done) c.sync_file.result c.done-in-SyncFile.result (g.Y.System.calls c.args.self.now.system) (g.Y.System.calls c.sync_file.new.system)
    c.sync_file.ensures (ap (λ p. calls.opening calls.to_sync p) c.as_str-in-SyncFile.ensures.same) (λ _. refl) (λ _. refl) c.done-in-SyncFile.ensures)

pub returns-in-SyncDir-clause-ran : goal.returns-in-SyncDir-clause-ran
returns-in-SyncDir-clause-ran g c =
    λ _. subst (λ step. StepRuns (numbered g.Y.System.number step) (answered_or g.Y.System.number (numbered g.Y.System.number step) c.done-in-SyncDir.result) (g.Y.System.calls c.args.self.now.system) (g.Y.System.calls c.sync_dir.new.system)) (sym c.in-SyncDir.is)
    (arm_run g.Y.System.number (steps.SyncDir c.in-SyncDir.path) (calls.opening calls.to_sync_folder c.as_str-in-SyncDir.result.now) (λ _. says.Done) (λ _. answers.Done) c.sync_dir.result c.done-in-SyncDir.result (g.Y.System.calls c.args.self.now.system) (g.Y.System.calls c.sync_dir.new.system)
    c.sync_dir.ensures (ap (λ p. calls.opening calls.to_sync_folder p) c.as_str-in-SyncDir.ensures.same) (λ _. refl) (λ _. refl) c.done-in-SyncDir.ensures)

pub returns-in_default-clause-ran : goal.returns-in_default-clause-ran
returns-in_default-clause-ran g c =
    λ is. absurd (by_file g.Y.System.number c.args.step.now c.in_default.not-MakeDirs c.in_default.not-Append c.in_default.not-ReadAll c.in_default.not-Exists c.in_default.not-Size c.in_default.not-Symlink c.in_default.not-Copy c.in_default.not-Reflink c.in_default.not-HardLink c.in_default.not-ReadDir c.in_default.not-RemoveFile c.in_default.not-RemoveDir c.in_default.not-SyncFile c.in_default.not-SyncDir is)

pub returns-in-Reflink-clause-ran : goal.returns-in-Reflink-clause-ran
returns-in-Reflink-clause-ran g c =
    λ _. subst (λ step. StepRuns (numbered g.Y.System.number step) (failed_with (numbered g.Y.System.number step) (error_kind c.from.result)) (g.Y.System.calls c.args.self.now.system) (g.Y.System.calls c.args.self.now.system)) (sym c.in-Reflink.is)
    (answers_run (steps.Reflink c.in-Reflink.field-0 c.in-Reflink.field-1) _ (calls.over (says.Failed kind.Unsupported)) (says.Failed kind.Unsupported) (g.Y.System.calls c.args.self.now.system) (g.Y.System.calls c.args.self.now.system)
    (run_none (calls.over (says.Failed kind.Unsupported)) (says.Failed kind.Unsupported) (g.Y.System.calls c.args.self.now.system) refl) refl
    (ap (λ why. failed_with (steps.Reflink c.in-Reflink.field-0 c.in-Reflink.field-1) why) c.from.ensures))

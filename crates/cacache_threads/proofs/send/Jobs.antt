-- A job may go to another thread.
use denote.RattleType.{RattleType}
use denote.Param.Send.{IsSend, sendable}
use Rattle.std.proofs.Crossing.{crosses}
use Rattle.cacache_core.specs.contracts.integrity.checker.IntegrityChecker as IntegrityChecker
use Rattle.cacache_core.specs.contracts.integrity.hasher.Hasher as Hasher
use Rattle.cacache_jobs.specs.contracts.hashing.Hashing as Hashing
use Rattle.cacache_jobs.specs.contracts.inserting.Insertion as Insertion
use Rattle.cacache_jobs.specs.contracts.job.Job as Job
use Rattle.cacache_jobs.specs.contracts.job.Standing as Standing
use Rattle.cacache_calls.specs.contracts.carried.Lookup as Lookup
use Rattle.cacache_jobs.specs.contracts.phase.Phase as Phase
use Rattle.cacache_calls.specs.contracts.carried.Content as Content
use Rattle.cacache_jobs.specs.contracts.stage.Last as Last
use Rattle.cacache_jobs.specs.contracts.stage.Stage as Stage
use Rattle.cacache_jobs.specs.contracts.stage.Then as Then
use Rattle.cacache_calls.specs.contracts.carried.Commit as Commit
use Rattle.cacache_jobs.specs.contracts.syncing.Goal as Goal
use Rattle.cacache_jobs.specs.contracts.syncing.Syncing as Syncing
use Rattle.cacache_calls.specs.contracts.target.Target as Target
use Rattle.cacache_threads.proofs.send.{Values.{Step-send, crosses_core}, Commands.{Export-send, Options-send, Reply-send}, Walks.{Visit-send, Walk-send}}

Hasher-send : IsSend (Hasher.the_field).row
Hasher-send = search (crosses, sendable) depth 30 fits 20000

Checker-send : IsSend (IntegrityChecker.the_field).row
Checker-send = search (Hasher-send, crosses_core, crosses, sendable) depth 30 fits 20000

Commit-send : IsSend (Commit.the_field).row
Commit-send = search (Options-send, crosses_core, crosses, sendable) depth 30 fits 20000

module _ (M : RattleType) (m : IsSend M) where
  Target-send : IsSend (Target.the_field M).row
  Target-send = search (Options-send, crosses_core, crosses, sendable) depth 30 fits 20000

Insertion-send : IsSend (Insertion.the_field).row
Insertion-send = search (crosses_core, crosses, sendable) depth 30 fits 20000

Goal-send : IsSend (Goal.the_field).row
Goal-send = search (Commit-send, Insertion-send, crosses_core, crosses, sendable) depth 30 fits 20000

Syncing-send : IsSend (Syncing.the_field).row
Syncing-send = search (Goal-send, crosses_core, crosses, sendable) depth 30 fits 20000

Lookup-send : IsSend (Lookup.the_field).row
Lookup-send = search (Export-send, crosses_core, crosses, sendable) depth 30 fits 20000

Content-send : IsSend (Content.the_field).row
Content-send = search (crosses_core, crosses, sendable) depth 30 fits 20000

Hashing-send : IsSend (Hashing.the_field).row
Hashing-send = search (Checker-send, Hasher-send, Target-send, Export-send, crosses_core, crosses, sendable) depth 30 fits 20000

Last-send : IsSend (Last.the_field).row
Last-send = search (crosses_core, crosses, sendable) depth 30 fits 20000

ruleset parts = (Commit-send, Target-send, Insertion-send, Syncing-send, Lookup-send, Content-send, Hashing-send, Last-send, Visit-send, Walk-send)

module _ (T : RattleType) (t : IsSend T) where
  Then-send : IsSend (Then.the_field T).row
  Then-send = search (parts, crosses_core, crosses, sendable) depth 30 fits 20000

  Stage-send : IsSend (Stage.the_field T).row
  Stage-send = search (Then-send, parts, crosses_core, crosses, sendable) depth 30 fits 20000

  module _ (F : RattleType) (f : IsSend F) where
    Phase-send : IsSend (Phase.the_field F T).row
    Phase-send = search (Stage-send, Step-send, Reply-send, crosses, sendable) depth 30 fits 20000

    Standing-send : IsSend (Standing.the_field F T).row
    Standing-send = search (Phase-send, Stage-send, crosses, sendable) depth 30 fits 20000

    pub Job-send : IsSend (Job.the_field F T).row
    Job-send = search (Standing-send, crosses, sendable) depth 30 fits 20000

-- One move of one call.
use Rattle.std.specs.Prelude.{◌≡◌, ◌⊎◌, Option, Some, None, IsTrue}
use Rattle.cacache_core.specs.declared.errors.Error.TheVariants.{OutOfMemory}
use Rattle.cacache_store.specs.declared.store.plain.{PlainFile.{PlainFile}, PlainTemp.{PlainTemp}}
use Rattle.cacache_disk.specs.{declared.luck.Luck.{Luck}, Tree.{Tree}, Apply.{apply}}
use Rattle.cacache_calls.specs.{declared.reply.Reply.{Reply, TheVariants.{Refused}}, State.{State}, Table.{after}}
use Rattle.cacache_jobs.specs.{declared.job.Job.{Job}, Jobs.{Stands, GoesTo, Tells, can_go_on}}
use Rattle.cacache_history.specs.History.{Made, Ends, MayMove}
use Rattle.cacache_world.specs.declared.{event.Move.{Move}, turn.{After.{After}, Turn.{Turn}}}
use Rattle.cacache_world.specs.declared.event.Move.TheVariants as moves
use Rattle.cacache_world.specs.declared.turn.After.TheVariants as ways
use Rattle.cacache_world.specs.declared.turn.Turn.TheVariants as turns

-- a call on a disk in memory; contracts see its files as they are
abbrev pub DiskJob : Type 0
DiskJob = Job PlainFile PlainTemp

-- the job is in this state, and no step is out
abbrev pub JobStands : DiskJob → State → Type 0
JobStands job s = Stands (λ file. file) (λ temp. temp) job s

-- unless memory was refused
abbrev pub GoesInto : DiskJob → State → Type 0
GoesInto job s = GoesTo (λ file. file) (λ temp. temp) job s

-- a reply is said twice, unless there was no memory for its copy
abbrev pub IsSaid : Reply → Reply → Reply → Type 0
IsSaid reply said kept = (kept ≡ said) × ((said ≡ reply) ⊎ (said ≡ Refused OutOfMemory))

-- both are the reply of a call that is over; if there is none, the call wants a step
abbrev pub AreOwn : DiskJob → Option (Reply × Reply) → Type 0
AreOwn job None = (s : State) → JobStands job s → Tells None s
AreOwn job (Some replies) =
    (replies.1 ≡ replies.0) × ((s : State) → JobStands job s → Tells (Some replies.1) s)

-- ---- after a step

-- the reply that is kept for the history
abbrev pub reply_after : After → Option Reply
reply_after (ways.On job) = None
reply_after (ways.Over said kept) = Some kept

-- what the caller gets
abbrev pub said_of : After → Option Reply
said_of (ways.On job) = None
said_of (ways.Over said kept) = Some said

-- the job that goes on, if any
abbrev pub job_of : After → Option DiskJob
job_of (ways.On job) = Some job
job_of (ways.Over said kept) = None

-- a call that goes on is in this state; one that is over has the same reply twice
abbrev pub StandsAfter : After → State → Type 0
StandsAfter (ways.On job) s = JobStands job s × IsTrue (can_go_on job)
StandsAfter (ways.Over said kept) s = said ≡ kept

-- in each state that the job went to it goes on, or is over
abbrev pub TurnGoesOn : DiskJob → After → Type 0
TurnGoesOn job after =
    (s : State) → GoesInto job s → Ends s (reply_after after) × StandsAfter after s

-- the reply of a move
abbrev pub told_by : Move → Option Reply
told_by moves.More = None
told_by (moves.Done reply) = Some reply

-- the parts of what is left after a step
abbrev pub AreTurnParts : After → Option DiskJob → Option Reply → Move → Type 0
AreTurnParts after job kept move =
    (job ≡ job_of after) × (kept ≡ reply_after after) × (told_by move ≡ said_of after)

-- ---- a move

-- the step that the job wanted in each state that it was in, and its state after the step
abbrev pub IsMade : DiskJob → Luck → Tree → Made → After → Tree → Type 0
IsMade job luck old made next new =
    (s : State) → JobStands job s
    → MayMove old s luck (Some made) (reply_after next)
    × (new ≡ (apply old made.0 luck).1) × StandsAfter next (after s made.1)

-- a step was made; or memory was refused, and the job is as it was; or it was over before any step,
-- with its own reply
abbrev pub IsTurn : DiskJob → Luck → Tree → Turn → Tree → Type 0
IsTurn job luck old (turns.Made step answer next) new =
    IsMade job luck old (step, answer) next new
IsTurn job luck old (turns.Back same) new =
    (new ≡ old) × IsTrue (can_go_on same) × ((s : State) → JobStands job s → JobStands same s)
IsTurn job luck old (turns.Over said kept) new =
    (new ≡ old) × (kept ≡ said) × ((s : State) → JobStands job s → Tells (Some kept) s)

-- The standing of a job between two calls of its functions.
use Rattle.std.specs.Prelude.{◌≡◌, ◌⊎◌, Bool, true, false, Option, Some, None}
use Rattle.cacache_core.specs.declared.errors.Error.TheVariants.{OutOfMemory}
use Rattle.cacache_store.specs.{declared.store.plain.{PlainFile.{PlainFile}, PlainTemp.{PlainTemp}}, Plain.{PlainStep, plain_step}}
use Rattle.cacache_calls.specs.{State.{State, over}, Runs.{plain_reply}, Table.{wants}, declared.reply.Reply.{Reply, TheVariants.{Refused}}}
use Rattle.cacache_jobs.specs.{declared.{phase.Phase.{Phase}, job.{Next.{Next}, Standing.{Standing}, Job.{Job}}}, JobStates.{IsAt, PhaseAt}}
use Rattle.cacache_jobs.specs.declared.phase.Phase.TheVariants as phases
use Rattle.cacache_jobs.specs.declared.job.Next.TheVariants as next
use Rattle.cacache_jobs.specs.declared.job.Standing.TheVariants as standings

-- ---- standings

-- no step is out, and the call is in this state
abbrev pub IdleAt :
    {F T : Type 0} → (F → PlainFile) → (T → PlainTemp) → Standing F T → State → Type 0
IdleAt file temp (standings.At phase) s = PhaseAt file temp phase s
IdleAt file temp standing s = ⊥

-- the call is in this state, and this step is out
abbrev pub OutAt : {F T : Type 0} → (T → PlainTemp) → Standing F T → State → PlainStep → Type 0
OutAt temp (standings.Out stage) s step = IsAt temp stage step s
OutAt temp standing s step = ⊥

-- the call ended out of memory
abbrev pub LostMemory : {F T : Type 0} → Phase F T → Type 0
LostMemory (phases.Over reply) = plain_reply reply ≡ Refused OutOfMemory
LostMemory phase = ⊥

-- the call goes on to this state, unless memory was refused
abbrev pub PhaseGoesTo :
    {F T : Type 0} → (F → PlainFile) → (T → PlainTemp) → Phase F T → State → Type 0
PhaseGoesTo file temp phase s = PhaseAt file temp phase s ⊎ LostMemory phase

-- no step is out, and the call goes on to this state, unless memory was refused
abbrev pub GoesOnTo :
    {F T : Type 0} → (F → PlainFile) → (T → PlainTemp) → Standing F T → State → Type 0
GoesOnTo file temp (standings.At phase) s = PhaseGoesTo file temp phase s
GoesOnTo file temp standing s = ⊥

-- a step is out
abbrev pub is_out : {F T : Type 0} → Standing F T → Bool
is_out (standings.Out stage) = true
is_out standing = false

-- no step is out, and the reply hasn't been handed out
abbrev pub is_idle : {F T : Type 0} → Standing F T → Bool
is_idle (standings.At phase) = true
is_idle standing = false

-- the reply of a call that is over
abbrev pub reply_over : {F T : Type 0} → Phase F T → Option Reply
reply_over (phases.Over reply) = Some reply
reply_over phase = None

-- the reply of a call that is over, until it is handed out
abbrev pub reply_at : {F T : Type 0} → Standing F T → Option Reply
reply_at (standings.At phase) = reply_over phase
reply_at standing = None

-- ---- jobs

-- the job is in this state, and no step is out
abbrev pub Stands : {F T : Type 0} → (F → PlainFile) → (T → PlainTemp) → Job F T → State → Type 0
Stands file temp job s = IdleAt file temp job.standing s

-- the job is in this state, and this step is out
abbrev pub HasOut : {F T : Type 0} → (T → PlainTemp) → Job F T → State → PlainStep → Type 0
HasOut temp job s step = OutAt temp job.standing s step

-- the job goes on to this state, unless memory was refused
abbrev pub GoesTo : {F T : Type 0} → (F → PlainFile) → (T → PlainTemp) → Job F T → State → Type 0
GoesTo file temp job s = GoesOnTo file temp job.standing s

-- a step is out
abbrev pub has_out : {F T : Type 0} → Job F T → Bool
has_out job = is_out job.standing

-- no step is out, and the reply hasn't been handed out
abbrev pub can_go_on : {F T : Type 0} → Job F T → Bool
can_go_on job = is_idle job.standing

-- the reply of a job that is over and hasn't handed it out
abbrev pub reply_in : {F T : Type 0} → Job F T → Option Reply
reply_in job = reply_at job.standing

-- the job hands out a step
abbrev pub is_step : {F T : Type 0} → Next F T → Bool
is_step (next.Step step) = true
is_step (next.Over reply) = false

-- what a job hands out in this state, and its standing after that
abbrev pub HandsOut :
    {F T : Type 0} → (F → PlainFile) → (T → PlainTemp) → Next F T → Job F T → State → Type 0
HandsOut file temp (next.Step step) job s = HasOut temp job s (plain_step file temp step)
HandsOut file temp (next.Over reply) job s = s ≡ over (plain_reply reply)

-- an optional reply that fits this state: a reply is that of a call that is over;
-- if there is none, the call has a next step
abbrev pub Tells : Option Reply → State → Type 0
Tells (Some reply) s = s ≡ over (plain_reply reply)
Tells None s = (step : PlainStep) × (wants s ≡ Some step)

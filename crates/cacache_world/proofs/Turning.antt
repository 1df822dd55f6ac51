-- A move of a job is one of its call.
use Rattle.std.proofs.Common.{◌≡◌, ◌⊎◌, inl, inr, None, Some, sym, ap, ◌∙◌}
use Rattle.cacache_core.specs.declared.errors.Error.TheVariants.{OutOfMemory}
use Rattle.cacache_store.specs.Plain.{PlainStep}
use Rattle.cacache_calls.specs.{declared.reply.Reply.{Reply, TheVariants.{Refused}}, State.{State, over}, Table.{wants}, Runs.{plain_reply}}
use Rattle.cacache_jobs.{specs.Jobs.{OutAt, Tells}, proofs.Running.{out_wants, turn_at}}
use Rattle.cacache_history.{specs.History.{Ends}, proofs.Histories.Places.{memory_plain}}
use Rattle.cacache_world.specs.Turned.{DiskJob, JobStands, GoesInto, IsSaid}

pub wanted_out : (job : DiskJob) (s : State) (step : PlainStep) → OutAt (λ temp. temp) job.standing s step → wants s ≡ Some step
wanted_out job s step out = out_wants (λ file. file) (λ temp. temp) job.standing s step out

pub stands_where : (job : DiskJob) (s : State) → GoesInto job s → JobStands job s ⊎ JobStands job (over (Refused OutOfMemory))
stands_where job s goes = turn_at (λ file. file) (λ temp. temp) job.standing s goes

-- a call that is over wants no step
pub over_wants_none : (s : State) (reply : Reply) → s ≡ over reply → wants s ≡ None
over_wants_none s reply e = ap wants e

-- a call that gives no reply isn't over
pub not_over : (s : State) (reply : Reply) → Tells None s → s ≡ over reply → ⊥
not_over s reply wanted e = let no : None ≡ Some wanted.0 = sym (over_wants_none s reply e) ∙ wanted.1 in absurd cc

over_inner : (reply : Reply) → over (Refused OutOfMemory) ≡ over (plain_reply reply) → reply ≡ Refused OutOfMemory
over_inner reply e = memory_plain reply (let same : Refused OutOfMemory ≡ plain_reply reply = cc in sym same)

-- the reply that is kept of a call that is over
pub ends_so : (s : State) (reply said kept : Reply) → s ≡ over (plain_reply reply) → IsSaid reply said kept → Ends s (Some kept)
ends_so s reply said kept e (same, inl is) = inl (e ∙ ap (λ r. over (plain_reply r)) (sym (same ∙ is)))
ends_so s reply said kept e (same, inr is) = inr (same ∙ is)

-- the same, if the job may have lost its memory
pub ends_lost : (s : State) (reply said kept : Reply) → over (Refused OutOfMemory) ≡ over (plain_reply reply) → IsSaid reply said kept → Ends s (Some kept)
ends_lost s reply said kept e (same, inl is) = inr (same ∙ is ∙ over_inner reply e)
ends_lost s reply said kept e (same, inr is) = inr (same ∙ is)

-- a job that went to a state and handed a step out
pub goes_step : (job : DiskJob) (s : State) (step : PlainStep) → GoesInto job s → ((t : State) → JobStands job t → wants t ≡ Some step) → (wants s ≡ Some step) × JobStands job s
goes_step job s step goes wanted = by (stands_where job s goes)
  where
    by : JobStands job s ⊎ JobStands job (over (Refused OutOfMemory)) → (wants s ≡ Some step) × JobStands job s
    by (inl stands) = (wanted s stands, stands)
    by (inr lost) = let no : None ≡ Some step = wanted (over (Refused OutOfMemory)) lost in absurd cc

-- a job that went to a state and handed its reply out
pub goes_over : (job : DiskJob) (s : State) (reply said kept : Reply) → GoesInto job s → ((t : State) → JobStands job t → t ≡ over (plain_reply reply)) → IsSaid reply said kept → Ends s (Some kept)
goes_over job s reply said kept goes is_over is = by (stands_where job s goes)
  where
    by : JobStands job s ⊎ JobStands job (over (Refused OutOfMemory)) → Ends s (Some kept)
    by (inl stands) = ends_so s reply said kept (is_over s stands) is
    by (inr lost) = ends_lost s reply said kept (is_over (over (Refused OutOfMemory)) lost) is

-- How a run grows by one step, how a call follows it, and which bytes a call by key answers.
use Rattle.std.proofs.Common.{◌≡◌, ◌⊎◌, inl, inr, ◌<◌, List, [], ◌∷◌, ◌++◌, Option, Some, None, Ok, Err, option_map, true, refl, sym, ap, subst, arith, append_assoc, append-nil}
use Rattle.std.specs.Prelude.{Result}
use Rattle.cacache_core.specs.declared.errors.Error.{Error, TheVariants.{OutOfMemory}}
use Rattle.cacache_store.specs.{declared.store.{plain.{PlainFile.{PlainFile}, PlainTemp.{PlainTemp}}, log.LogItem.{LogItem, TheVariants.{Made}}}, Plain.{PlainStep, PlainAnswer, Fits, Logs}}
use Rattle.cacache_calls.specs.{declared.{reply.Reply.{Reply, TheVariants.{Refused, Stored, Read, LookedUp, Exists, Copied, Listed, Done}}, command.Command.{Command}}, State.{State, over, Site}, Table.{wants, after, opening}, Runs.{EndsAs, Moves, Runs, Gains, Ran, effort, plain_reply}, Verifying.{UnlessRefused}}
use Rattle.cacache_calls.proofs.{Effort.{falls}, Going.{no_memory_after, answer_cases, gains_one, no_gain}, Replies.{gets_meet}, Verifying.{exports_verify, links_read_whole}}
use Rattle.cacache_jobs.specs.{declared.{phase.Phase.{Phase}, job.Standing.{Standing}}, JobStates.{Leads, PhaseAt}, Jobs.{IdleAt, OutAt, LostMemory, PhaseGoesTo, GoesOnTo, is_idle}, Effort.{phase_effort, result_effort}, ReadFirst.{FindsBytes, ReadsFirst}}
use Rattle.cacache_jobs.proofs.PhaseEffort.{phase_effort_is}
use Rattle.cacache_store.specs.declared.store.answer.Answer.TheVariants as answers
use Rattle.cacache_jobs.specs.declared.phase.Phase.TheVariants as phases
use Rattle.cacache_jobs.specs.declared.job.Standing.TheVariants as standings
use Rattle.cacache_calls.specs.declared.command.Command.TheVariants as commands

-- the steps so far lead from the first state to this one
pub record Reached (s0 : State) (old new : Option (List LogItem)) (s : State) : Type 0 where
  pub moves : Moves
  pub gains : Gains old new moves
  pub goes : (more : Moves) (r : Reply) → Runs s more r → Runs s0 (moves ++ more) r

-- any run may end out of memory
pub memory_runs : (s : State) (more : Moves) (r : Reply) → Runs (over (Refused OutOfMemory)) more r → Runs s more r
memory_runs s [] r (inl e) = inr cc
memory_runs s [] r (inr e) = inr e
memory_runs s (move ∷ more) r h = absurd (let e : None ≡ Some move.0 = h.0 in cc)

-- a run's reply may be lost out of memory
pub memory_lost : (s : State) (moves : Moves) (r : Reply) → Runs s moves r → Runs s moves (Refused OutOfMemory)
memory_lost s [] r h = inr refl
memory_lost s (move ∷ moves) r h = (h.0, h.1, memory_lost (after s move.1) moves r h.2)

-- a call that ended out of memory
stops : {s0 : State} {old new : Option (List LogItem)} {s : State} → Reached s0 old new s → Reached s0 old new (over (Refused OutOfMemory))
stops {s = s} x = record { moves = x.moves; gains = x.gains; goes = λ more r h. x.goes more r (memory_runs s more r h) }

-- one more step
pub steps : {s0 : State} {old new next : Option (List LogItem)} {s : State} (a : PlainStep) (t : PlainAnswer) → Reached s0 old new s → wants s ≡ Some a → Fits a t → Logs new next a t → Reached s0 old next (after s t)
steps {s0} {old} {new} {next} {s} a t x w fits logs =
    elim (answer_cases t) [
      | inl p ↦ rw p.1 (rw (no_memory_after s a p.0 w) (stops {s = s} (let e : next ≡ new = rw p.1 at logs in rw e x)))
      | inr n ↦ record {
        moves = x.moves ++ (a, t) ∷ [];
        gains = let e : next ≡ option_map (λ log. log ++ Made a t ∷ []) new = rw n at logs in rw e (gains_one old new x.moves (a, t) x.gains);
        goes = λ more r h. rw append_assoc (x.goes ((a, t) ∷ more) r (w, fits, h));
      }
    ]

-- a call that has a next step isn't over
wants_some : (s : State) (a : PlainStep) → wants s ≡ Some a → 0 < effort s
wants_some s a w =
    let below : effort (after s (answers.NoMemory a)) < effort s = falls s a (answers.NoMemory a) w refl in
    omega arith

module _ {F T : Type 0} (file : F → PlainFile) (temp : T → PlainTemp) where
  memory_at : (p : Phase F T) → LostMemory p → PhaseAt file temp p (over (Refused OutOfMemory))
  memory_at (phases.Wanting stage step) e = absurd e
  memory_at (phases.Over reply) e = ap over (sym e)

  -- after an answer, or at its beginning, a call is in the given state, or it is over out of memory
  pub phase_at : (p : Phase F T) (s : State) → PhaseGoesTo file temp p s → PhaseAt file temp p s ⊎ PhaseAt file temp p (over (Refused OutOfMemory))
  phase_at p s (inl e) = inl e
  phase_at p s (inr e) = inr (memory_at p e)

  -- the same for a job
  pub turn_at : (p : Standing F T) (s : State) → GoesOnTo file temp p s → IdleAt file temp p s ⊎ IdleAt file temp p (over (Refused OutOfMemory))
  turn_at (standings.At phase) s e = phase_at phase s e
  turn_at (standings.Out stage) s e = absurd e
  turn_at standings.Told s e = absurd e

  pub out_wants : (q : Standing F T) (s : State) (a : PlainStep) → OutAt temp q s a → wants s ≡ Some a
  out_wants (standings.At phase) s a e = absurd e
  out_wants (standings.Out stage) s a e = e.wanted
  out_wants standings.Told s a e = absurd e

  -- a job that is idle in a state can go on
  pub stands_idle : (p : Standing F T) (s : State) → IdleAt file temp p s → is_idle p ≡ true
  stands_idle (standings.At phase) s e = refl
  stands_idle (standings.Out stage) s e = absurd e
  stands_idle standings.Told s e = absurd e

  falls_on : (p : Phase F T) (r : Result (Phase F T) Error) (s : State) (a : PlainStep) (t : PlainAnswer) → PhaseAt file temp p s → wants s ≡ Some a → Fits a t → Leads file temp r (after s t) → result_effort file temp r < phase_effort file temp p
  falls_on p (Ok next) s a t now w fits leads = rw (phase_effort_is file temp next (after s t) leads) (rw (phase_effort_is file temp p s now) (falls s a t w fits))
  falls_on p (Err e) s a t now w fits leads = rw (phase_effort_is file temp p s now) (wants_some s a w)

  -- with each step the bound falls
  pub result_shrinks : (q r : Result (Phase F T) Error) (p : Phase F T) (s : State) (a : PlainStep) (t : PlainAnswer) → q ≡ Ok p → PhaseAt file temp p s → wants s ≡ Some a → Fits a t → Leads file temp r (after s t) → result_effort file temp r < result_effort file temp q
  result_shrinks q r p s a t is now w fits leads = subst (λ (x : Result (Phase F T) Error). result_effort file temp r < result_effort file temp x) (sym is) (falls_on p r s a t now w fits leads)

-- a run of a call that is over
pub ended : {s0 : State} {old new : Option (List LogItem)} {s : State} (r : Reply) → Reached s0 old new s → s ≡ over r → Ran s0 r old new
ended r x e = (x.moves ++ [], x.goes [] r (inl e), simp append-nil x.gains)

-- a run of a call that an error ends
pub ended_by : {s0 : State} {old new : Option (List LogItem)} {s : State} (e : Error) → Reached s0 old new s → EndsAs e s → Ran s0 (plain_reply (Refused e)) old new
ended_by e x (inl is) = ended (plain_reply (Refused e)) x is
ended_by e x (inr is) = (x.moves ++ [], x.goes [] (plain_reply (Refused e)) (inr (ap (λ (y : Error). plain_reply (Refused y)) is)), simp append-nil x.gains)

pub start : (s : State) (log : Option (List LogItem)) → Reached s log log s
start s log = record { moves = []; gains = no_gain log; goes = λ more r h. h }

-- ---- a call by key answers only bytes that meet what its own read of the bucket found; exports and links read first

-- a call by key that answers bytes began with a read of its bucket
pub finds_bytes : (site : Site) (command : Command) (r : Reply) (old new : Option (List LogItem)) → Ran (opening site command) r old new → FindsBytes site.cache command r old new
finds_bytes site (commands.Get key) (Read bytes) old new ran =
    (ran.0, ran.2, gets_meet site key ran.0 bytes ran.1)
finds_bytes site command r old new ran = tt

-- if P implies Q, and P holds unless a call was refused, then Q holds unless it was refused
unless_so : (P Q : Type 0) (r : Reply) → (P → Q) → UnlessRefused P r → UnlessRefused Q r
unless_so P Q (Refused e) k h = tt
unless_so P Q (Stored i) k h = k h
unless_so P Q (Read bytes) k h = k h
unless_so P Q (LookedUp found) k h = k h
unless_so P Q (Exists there) k h = k h
unless_so P Q (Copied n) k h = k h
unless_so P Q (Listed items) k h = k h
unless_so P Q Done k h = k h

-- an export or a link that isn't refused reads first
pub reads_first : (site : Site) (command : Command) (r : Reply) (old new : Option (List LogItem)) → Ran (opening site command) r old new → ReadsFirst site command r old new
reads_first site (commands.Export source e) r old new ran = λ checked.
    unless_so _ _ r (λ so. (ran.0, ran.2, so)) (exports_verify site source e ran.0 r checked ran.1)
reads_first site (commands.Link link) r old new ran =
    unless_so _ _ r (λ so. (ran.0, ran.2, so)) (links_read_whole site link ran.0 r ran.1)
reads_first site command r old new ran = tt

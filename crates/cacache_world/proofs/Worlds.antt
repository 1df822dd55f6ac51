-- What a world keeps, with one more record.
use Rattle.std.proofs.{Common.{◌≡◌, inl, Ok, ◌==◌, ◌<◌, ◌+◌, ℕ, zero, suc, Bool, true, false, cond, List, [], ◌∷◌, ◌++◌, Option, None, Some, IsTrue, replicate, slice_get, slice_set, option_map, refl, sym, ap, subst, ◌∙◌}, lemmas.Bool.{eqb-true, eqb-false}}
use Rattle.cacache_disk.specs.{declared.luck.Luck.{Luck}, Tree.{Tree, bare}, Apply.{apply}}
use Rattle.cacache_core.specs.Paths.{home_of}
use Rattle.cacache_value.specs.Placed.{LieApart, with_files}
use Rattle.cacache_calls.specs.{declared.{command.Command.{Command}, reply.Reply.{Reply}}, State.{State}, Table.{after, opening}, Runs.{plain_reply}}
use Rattle.cacache_jobs.specs.Jobs.{Tells, can_go_on}
use Rattle.cacache_history.specs.{declared.record.Record.{Record, TheVariants.{Began, Moved, Stopped}}, Setup.{Setup, call_site}, History.{Call, Now, History, Made, tree_in, initial, call_after, moved_call, unless_over, new_call, now_after, replayed, MayMove, MayCome, Legal, IsLegal}}
use Rattle.cacache_world.specs.{declared.{turn.After.{After}, event.WorldFault.{WorldFault}}, Turned.{DiskJob, JobStands, StandsAfter, reply_after, said_of, job_of, IsMade}, WorldKept.{history_of, setup_of, adding, last, JobAt, Keeps, TellsOwn}, Faults.{MayAsk, IsTurnedAway, IsFreeAt, IsUnready, IsFree, HasCall, CantBegin}}
use Rattle.cacache_world.proofs.Turning.{over_wants_none}
use Rattle.cacache_world.specs.declared.turn.After.TheVariants as ways
use Rattle.cacache_world.specs.declared.event.Move.TheVariants as moves
use Rattle.cacache_world.specs.declared.event.WorldFault.TheVariants as faults

replay-push : (s : Setup) (w : Now) (records : List Record) (r : Record) → replayed s w (records ++ r ∷ []) ≡ now_after s (replayed s w records) r
replay-push s w [] r = refl
replay-push s w (x ∷ records) r = replay-push s (now_after s w x) records r

legal-push : (s : Setup) (w : Now) (records : List Record) (r : Record) → Legal s w records → MayCome s (replayed s w records) r → Legal s w (records ++ r ∷ [])
legal-push s w [] r legal may = (may, tt)
legal-push s w (x ∷ records) r legal may = (legal.0, legal-push s (now_after s w x) records r legal.1 may)

last_more : (h : History) (r : Record) → last (adding h r) ≡ now_after h.setup (last h) r
last_more h r = replay-push h.setup (initial h.setup) h.records r

legal_more : (h : History) (r : Record) → IsLegal h → MayCome h.setup (last h) r → IsLegal (adding h r)
legal_more h r legal may = record { apart = legal.apart; opens = legal.opens; legal = legal-push h.setup (initial h.setup) h.records r legal.legal may }

-- ---- places

set_here : (jobs : List (Option DiskJob)) (caller : ℕ) (old x : Option DiskJob) → slice_get jobs caller ≡ Some old → slice_get (slice_set jobs caller x) caller ≡ Some x
set_here [] caller old x e = let no : None ≡ Some old = e in absurd cc
set_here (j ∷ jobs) zero old x e = refl
set_here (j ∷ jobs) (suc caller) old x e = set_here jobs caller old x e

set_other : (jobs : List (Option DiskJob)) (caller : ℕ) (x : Option DiskJob) (k : ℕ) → (k ≡ caller → ⊥) → slice_get (slice_set jobs caller x) k ≡ slice_get jobs k
set_other [] caller x k ne = refl
set_other (j ∷ jobs) zero x zero ne = absurd (ne refl)
set_other (j ∷ jobs) zero x (suc k) ne = refl
set_other (j ∷ jobs) (suc caller) x zero ne = refl
set_other (j ∷ jobs) (suc caller) x (suc k) ne = set_other jobs caller x k (λ e. ne (ap suc e))

set_jobs : (jobs : List (Option DiskJob)) (caller : ℕ) (old x : Option DiskJob) (now : ℕ → Option Call) (y : Option Call) → slice_get jobs caller ≡ Some old
    → ((k : ℕ) → JobAt (slice_get jobs k) (now k)) → JobAt (Some x) y → (k : ℕ) → JobAt (slice_get (slice_set jobs caller x) k) (cond (k == caller) y (now k))
set_jobs jobs caller old x now y e all here k = by (k == caller) refl
  where
    by : (b : Bool) → (k == caller) ≡ b → JobAt (slice_get (slice_set jobs caller x) k) (cond b y (now k))
    by true is = subst (λ o. JobAt o y) (sym (ap (slice_get (slice_set jobs caller x)) (eqb-true k caller is) ∙ set_here jobs caller old x e)) here
    by false is = subst (λ o. JobAt o (now k)) (sym (set_other jobs caller x k (eqb-false k caller is))) (all k)

pub set_again : {X : Type 0} (xs : List X) (k : ℕ) (a b : X) → slice_set (slice_set xs k a) k b ≡ slice_set xs k b
set_again [] k a b = refl
set_again (x ∷ xs) zero a b = refl
set_again (x ∷ xs) (suc k) a b = ap (λ ys. x ∷ ys) (set_again xs k a b)

-- the call of a caller that has a job
has_call : (job : DiskJob) (o : Option (Option DiskJob)) (call : Option Call) → o ≡ Some (Some job) → JobAt o call → (c : Call) × (call ≡ Some c) × JobStands job c.state
has_call job None call e h = let no : None ≡ Some (Some job) = e in absurd cc
has_call job (Some None) call e h = let no : Some None ≡ Some (Some job) = e in absurd cc
has_call job (Some (Some j)) None e h = absurd h
has_call job (Some (Some j)) (Some c) e h = let same : j ≡ job = cc in (c, refl, subst (λ x. JobStands x c.state) same h.0)

has_ready : (job : DiskJob) (o : Option (Option DiskJob)) (call : Option Call) → o ≡ Some (Some job) → JobAt o call → IsTrue (can_go_on job)
has_ready job None call e h = let no : None ≡ Some (Some job) = e in absurd cc
has_ready job (Some None) call e h = let no : Some None ≡ Some (Some job) = e in absurd cc
has_ready job (Some (Some j)) None e h = absurd h
has_ready job (Some (Some j)) (Some c) e h = let same : j ≡ job = cc in subst (λ x. IsTrue (can_go_on x)) same h.1

no_call : (o : Option (Option DiskJob)) (call : Option Call) → o ≡ Some None → JobAt o call → call ≡ None
no_call None call e h = h
no_call (Some None) call e h = h
no_call (Some (Some job)) call e h = let no : Some (Some job) ≡ Some None = e in absurd cc

back_job : (job same : DiskJob) (o : Option (Option DiskJob)) (call : Option Call) → o ≡ Some (Some job) → JobAt o call → ((s : State) → JobStands job s → JobStands same s) → IsTrue (can_go_on same)
    → JobAt (Some (Some same)) call
back_job job same None call e h to ready = let no : None ≡ Some (Some job) = e in absurd cc
back_job job same (Some None) call e h to ready = let no : Some None ≡ Some (Some job) = e in absurd cc
back_job job same (Some (Some j)) None e h to ready = absurd h
back_job job same (Some (Some j)) (Some c) e h to ready = let is : j ≡ job = cc in (to c.state (subst (λ x. JobStands x c.state) is h.0), ready)

-- ---- one more record

keeps_more : (h : History) (r : Record) (t t' : Tree) (b b' : ℕ) (jobs jobs' : List (Option DiskJob)) → Keeps h t b jobs → MayCome h.setup (last h) r
    → (now_after h.setup (last h) r).tree ≡ t' → (now_after h.setup (last h) r).begun ≡ b'
    → ((k : ℕ) → JobAt (slice_get jobs' k) ((now_after h.setup (last h) r).calls k)) → Keeps (adding h r) t' b' jobs'
keeps_more h r t t' b b' jobs jobs' k may tree begun at = record {
  legal = legal_more h r k.legal may;
  tree = ap (λ w. w.tree) (last_more h r) ∙ tree;
  begun = ap (λ w. w.begun) (last_more h r) ∙ begun;
  calls = λ m. subst (λ w. JobAt (slice_get jobs' m) (w.calls m)) (sym (last_more h r)) (at m);
}

-- what an event leaves: one more record, and what a world keeps
pub record Left (h : History) (r : Record) (t : Tree) (b : ℕ) (jobs : List (Option DiskJob)) : Type 0 where
  pub may : MayCome h.setup (last h) r
  pub keeps : Keeps (adding h r) t b jobs

pub stop_left : (h : History) (t : Tree) (b : ℕ) (jobs jobs' : List (Option DiskJob)) (caller : ℕ) (job : DiskJob) → Keeps h t b jobs → slice_get jobs caller ≡ Some (Some job)
    → jobs' ≡ slice_set jobs caller None → Left h (Stopped caller) t b jobs'
stop_left h t b jobs jobs' caller job k here gone =
    let c = has_call job (slice_get jobs caller) _ here (k.calls caller) in
    record {
      may = (c.0, c.1);
      keeps = keeps_more h (Stopped caller) t t b b jobs jobs' k (c.0, c.1) k.tree k.begun
          (subst (λ xs. (m : ℕ) → JobAt (slice_get xs m) ((now_after h.setup (last h) (Stopped caller)).calls m)) (sym gone)
          (set_jobs jobs caller (Some job) None (last h).calls None here k.calls refl));
    }

pub begin_left : (h : History) (t : Tree) (b : ℕ) (jobs jobs' : List (Option DiskJob)) (caller : ℕ) (command : Command) (job : DiskJob) → Keeps h t b jobs → slice_get jobs caller ≡ Some None
    → caller < h.setup.callers → MayAsk h.setup b command → JobStands job (opening (call_site h.setup b) command) → IsTrue (can_go_on job) → jobs' ≡ slice_set jobs caller (Some job)
    → Left h (Began caller command) t (b + 1) jobs'
begin_left h t b jobs jobs' caller command job k free within may stands ready set =
    let ask : MayAsk h.setup (last h).begun command = subst (λ n. MayAsk h.setup n command) (sym k.begun) may in
    let come : MayCome h.setup (last h) (Began caller command) = (within, no_call (slice_get jobs caller) _ free (k.calls caller), ask.0, ask.1) in
    let there : JobStands job (opening (call_site h.setup (last h).begun) command) = subst (λ n. JobStands job (opening (call_site h.setup n) command)) (sym k.begun) stands in
    record {
      may = come;
      keeps = keeps_more h (Began caller command) t t b (b + 1) jobs jobs' k come k.tree (ap (λ n. n + 1) k.begun)
          (subst (λ xs. (m : ℕ) → JobAt (slice_get xs m) ((now_after h.setup (last h) (Began caller command)).calls m)) (sym set)
          (set_jobs jobs caller None (Some job) (last h).calls (Some (new_call h.setup (last h).begun command)) free k.calls (there, ready)));
    }

-- a call that was over before any step
pub over_left : (h : History) (t : Tree) (b : ℕ) (jobs jobs' : List (Option DiskJob)) (caller : ℕ) (job : DiskJob) (luck : Luck) (reply : Reply) → Keeps h t b jobs → slice_get jobs caller ≡ Some (Some job)
    → ((s : State) → JobStands job s → Tells (Some reply) s) → jobs' ≡ slice_set jobs caller None → Left h (Moved caller luck None (Some reply)) t b jobs'
over_left h t b jobs jobs' caller job luck reply k here ends gone =
    let c = has_call job (slice_get jobs caller) _ here (k.calls caller) in
    let is = ends c.0.state c.2 in
    let come : MayCome h.setup (last h) (Moved caller luck None (Some reply)) = (c.0, c.1, (over_wants_none c.0.state (plain_reply reply) is, inl is)) in
    record {
      may = come;
      keeps = keeps_more h (Moved caller luck None (Some reply)) t t b b jobs jobs' k come k.tree k.begun
          (subst (λ xs. (m : ℕ) → JobAt (slice_get xs m) ((now_after h.setup (last h) (Moved caller luck None (Some reply))).calls m)) (sym gone)
          (set_jobs jobs caller (Some job) None (last h).calls None here k.calls refl));
    }

-- the caller gets the call's own reply
pub tells_own : (h : History) (t : Tree) (b : ℕ) (jobs : List (Option DiskJob)) (caller : ℕ) (job : DiskJob) (reply : Reply) → Keeps h t b jobs → slice_get jobs caller ≡ Some (Some job)
    → ((s : State) → JobStands job s → Tells (Some reply) s) → TellsOwn h caller None (moves.Done reply)
tells_own h t b jobs caller job reply k here ends = let c = has_call job (slice_get jobs caller) _ here (k.calls caller) in (c.0, c.1, ends c.0.state c.2)

job_after : (a : After) (c : Call) → StandsAfter a c.state → JobAt (Some (job_of a)) (unless_over (reply_after a) (Some c))
job_after (ways.On job) c h = h
job_after (ways.Over said kept) c h = refl

-- a call that made a step
pub move_left : (h : History) (t t' : Tree) (b : ℕ) (jobs jobs' : List (Option DiskJob)) (caller : ℕ) (job : DiskJob) (luck : Luck) (made : Made) (a : After) → Keeps h t b jobs → slice_get jobs caller ≡ Some (Some job)
    → IsMade job luck t made a t' → jobs' ≡ slice_set jobs caller (job_of a) → Left h (Moved caller luck (Some made) (reply_after a)) t' b jobs'
move_left h t t' b jobs jobs' caller job luck made a k here is set =
    let c = has_call job (slice_get jobs caller) _ here (k.calls caller) in
    let m = is c.0.state c.2 in
    let come : MayCome h.setup (last h) (Moved caller luck (Some made) (reply_after a)) = (c.0, c.1, subst (λ y. MayMove y c.0.state luck (Some made) (reply_after a)) (sym k.tree) m.0) in
    let call_is : moved_call (last h) caller luck (Some made) ≡ Some (call_after (last h).tree luck (Some made) c.0) = ap (option_map (call_after (last h).tree luck (Some made))) c.1 in
    record {
      may = come;
      keeps = keeps_more h (Moved caller luck (Some made) (reply_after a)) t t' b b jobs jobs' k come (ap (λ y. (apply y made.0 luck).1) k.tree ∙ sym m.1) k.begun
          (subst (λ xs. (n : ℕ) → JobAt (slice_get xs n) ((now_after h.setup (last h) (Moved caller luck (Some made) (reply_after a))).calls n)) (sym set)
          (set_jobs jobs caller (Some job) (job_of a) (last h).calls _ here k.calls
          (subst (λ y. JobAt (Some (job_of a)) (unless_over (reply_after a) y)) (sym call_is) (job_after a (call_after (last h).tree luck (Some made) c.0) m.2))));
    }

said_is : (a : After) (s : State) → StandsAfter a s → said_of a ≡ reply_after a
said_is (ways.On job) s h = refl
said_is (ways.Over said kept) s h = ap Some h

-- the caller gets the reply that the history has
pub told_is : (h : History) (t t' : Tree) (b : ℕ) (jobs : List (Option DiskJob)) (caller : ℕ) (job : DiskJob) (luck : Luck) (made : Made) (a : After) → Keeps h t b jobs → slice_get jobs caller ≡ Some (Some job)
    → IsMade job luck t made a t' → said_of a ≡ reply_after a
told_is h t t' b jobs caller job luck made a k here is =
    let c = has_call job (slice_get jobs caller) _ here (k.calls caller) in
    said_is a (after c.0.state made.1) (is c.0.state c.2).2

-- a call that had its step handed back
pub back_keeps : (h : History) (t : Tree) (b : ℕ) (jobs jobs' : List (Option DiskJob)) (caller : ℕ) (job same : DiskJob) → Keeps h t b jobs → slice_get jobs caller ≡ Some (Some job)
    → ((s : State) → JobStands job s → JobStands same s) → IsTrue (can_go_on same) → jobs' ≡ slice_set jobs caller (Some same) → Keeps h t b jobs'
back_keeps h t b jobs jobs' caller job same k here to ready set = record {
  legal = k.legal;
  tree = k.tree;
  begun = k.begun;
  calls = λ m. subst (λ xs. JobAt (slice_get xs m) ((last h).calls m)) (sym set) (by m (m == caller) refl);
}
  where
    by : (m : ℕ) (x : Bool) → (m == caller) ≡ x → JobAt (slice_get (slice_set jobs caller (Some same)) m) ((last h).calls m)
    by m true is =
        subst (λ o. JobAt o ((last h).calls m)) (sym (ap (slice_get (slice_set jobs caller (Some same))) (eqb-true m caller is) ∙ set_here jobs caller (Some job) (Some same) here))
        (subst (λ n. JobAt (Some (Some same)) ((last h).calls n)) (sym (eqb-true m caller is)) (back_job job same (slice_get jobs caller) _ here (k.calls caller) to ready))
    by m false is = subst (λ o. JobAt o ((last h).calls m)) (sym (set_other jobs caller (Some same) m (eqb-false m caller is))) (k.calls m)

pub keeps_ready : (h : History) (t : Tree) (b : ℕ) (jobs : List (Option DiskJob)) (caller : ℕ) (job : DiskJob) → Keeps h t b jobs → slice_get jobs caller ≡ Some (Some job) → IsTrue (can_go_on job)
keeps_ready h t b jobs caller job k here = has_ready job (slice_get jobs caller) _ here (k.calls caller)

-- ---- the parts of a world

pub same_parts : (cache : List ℕ) (outside : List (List ℕ × List ℕ)) (n n' : ℕ) (records records' : List Record) → n' ≡ n → records' ≡ records
    → history_of (setup_of cache outside n') records' ≡ history_of (setup_of cache outside n) records
same_parts cache outside n n' records records' e f = λ i. history_of (setup_of cache outside (e i)) (f i)

pub keeps_same : (h h' : History) (t : Tree) (b : ℕ) (jobs : List (Option DiskJob)) → h' ≡ h → Keeps h t b jobs → Keeps h' t b jobs
keeps_same h h' t b jobs e k = subst (λ x. Keeps x t b jobs) (sym e) k

-- ---- before anything happened

none_at : (n k : ℕ) → JobAt (slice_get (replicate n None) k) None
none_at zero k = refl
none_at (suc n) zero = refl
none_at (suc n) (suc k) = none_at n k

pub new_keeps : (cache : List ℕ) (outside : List (List ℕ × List ℕ)) (n : ℕ) (jobs : List (Option DiskJob)) (t : Tree) → LieApart (home_of cache) outside → with_files bare outside ≡ Ok t → jobs ≡ replicate n None
    → Keeps (history_of (setup_of cache outside n) []) t 0 jobs
new_keeps cache outside n jobs t apart opens f = record {
  legal = record { apart = apart; opens = opens ∙ ap Ok (sym (ap tree_in opens)); legal = tt };
  tree = ap tree_in opens;
  begun = refl;
  calls = λ k. subst (λ xs. JobAt (slice_get xs k) None) (sym f) (none_at n k);
}

-- ---- why an event can't be

pub keeps_call : (h : History) (t : Tree) (b : ℕ) (jobs : List (Option DiskJob)) (caller : ℕ) (job : DiskJob) → Keeps h t b jobs → slice_get jobs caller ≡ Some (Some job) → HasCall h caller
keeps_call h t b jobs caller job k here = let c = has_call job (slice_get jobs caller) _ here (k.calls caller) in (c.0, c.1)

is_free : (h : History) (t : Tree) (b : ℕ) (jobs : List (Option DiskJob)) (caller : ℕ) → Keeps h t b jobs → IsFreeAt h.setup.callers jobs caller → IsFree h caller
is_free h t b jobs caller k e = (e.0, no_call (slice_get jobs caller) _ e.1 (k.calls caller))

pub cant_begin : (h : History) (t : Tree) (b : ℕ) (jobs : List (Option DiskJob)) (caller : ℕ) (command : Command) (fault : WorldFault) → Keeps h t b jobs
    → IsUnready h.setup.callers jobs caller h.setup command fault → CantBegin h caller command fault
cant_begin h t b jobs caller command faults.NoCaller k e = e
cant_begin h t b jobs caller command faults.Busy k e = keeps_call h t b jobs caller e.0 k e.1
cant_begin h t b jobs caller command faults.Idle k e = absurd e
cant_begin h t b jobs caller command faults.BadCommand k e = (is_free h t b jobs caller k e.0, e.1)
cant_begin h t b jobs caller command faults.OutOfMemory k e = is_free h t b jobs caller k e

-- ---- why no call is ready

pub away_unready : (count : ℕ) (jobs : List (Option DiskJob)) (caller : ℕ) (s : Setup) (command : Command) (fault : WorldFault) → IsFreeAt count jobs caller → IsTurnedAway s command fault
    → IsUnready count jobs caller s command fault
away_unready count jobs caller s command faults.NoCaller free e = absurd e
away_unready count jobs caller s command faults.Busy free e = absurd e
away_unready count jobs caller s command faults.Idle free e = e
away_unready count jobs caller s command faults.BadCommand free e = (free, e)
away_unready count jobs caller s command faults.OutOfMemory free e = free

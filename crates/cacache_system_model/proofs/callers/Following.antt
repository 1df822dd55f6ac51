-- A history follows what callers do on one machine, act by act.
use Rattle.std.proofs.Common.{◌≡◌, ◌⊎◌, inl, inr, ◌≤◌, ◌+◌, ◌^◌, ◌==◌, ℕ, Bool, true, false, cond, List, [], ◌∷◌, ◌++◌, Option, None, Some, Ok, option_map, refl, sym, ap, subst, ◌∙◌, arith}
use Rattle.cacache_core.specs.{declared.errors.{Fault.{Fault, TheVariants.{Device}}, Error.TheVariants.{OutOfMemory}}, Paths.{Names}}
use Rattle.cacache_store.specs.declared.store.answer.Answer.TheVariants as answers
use Rattle.cacache_store.specs.Plain.{PlainStep, PlainAnswer}
use Rattle.cacache_disk.specs.{declared.luck.Luck.{Luck, TheVariants.{Plain, Fail}}, Tree.{Tree, look}, Apply.{apply}}
use Rattle.cacache_value.specs.Placed.{LieApart}
use Rattle.cacache_system.specs.AnswersOf.{answer_of}
use Rattle.cacache_system_model.specs.{Machine.{Machine}, Laws.{step_on, answer_on, outcome, LeavesFresh}, Mirrors.{Mirrors}, Chains.{StepMade, temps_left, IsMade, OnDisk}, callers.{Acts.{Act, begins, steps as makes, ends, stops, SystemState, EndsFailed, step_of, answer_in, NeedsFit, unless_ended, after_act, after_acts, MakesStep, MayAct, EachMay, IsMoved, IsRecordOf, AreRecordsOf}, Made.{history_of, now_left, AreTemps, CacheOn, CachesBegin, CachesGoOn, system_at, MakesHistory, MakeHistories, SystemsMakeHistories}}}
use Rattle.cacache_system_model.proofs.{Chaining.{steps_on_disk}, Lasting.{failed_apply}, callers.{OpenTemps.{temps_kept}, Fitting.{fits_so, failed_temps}}}
use Rattle.cacache_calls.specs.{declared.{command.Command.{Command}, reply.Reply.{Reply, TheVariants.{Refused}}}, State.{State, over}, Table.{wants, after, opening}, Runs.{plain_reply}, Sound.{MayBegin}}
use Rattle.cacache_calls.proofs.Going.{no_memory_after}
use Rattle.cacache_history.specs.{declared.record.Record.{Record, TheVariants.{Began, Moved, Stopped}}, Setup.{Setup, call_site, home, may_export, is_outside}, History.{Call, Now, tree_in, initial, new_call, call_after, unless_over, moved_call, now_after, replayed, Ends, MayMove, MayCome, Legal}}
use Rattle.cacache_history.proofs.{Headline.{headline}, Histories.{Holding.{AllHold, of_caller, made_proper, next_holds, all_hold, first_holds, replay_more}, Places.{memory_plain}}}

abbrev pub state_of : Call → State
state_of call = call.state

-- what callers did on a machine and a history agree
pub record Agree (s : Setup) (w : SystemState) (now : Now) : Type 0 where
  pub mirrors : Mirrors w.temps w.machine.tree now.tree
  pub states : (k : ℕ) → w.states k ≡ option_map state_of (now.calls k)
  pub begun : w.begun ≡ now.begun
  pub all : AllHold s now
  pub temps : AreTemps (home s) w.temps

-- ---- calls of callers

pub has_call : (o : Option Call) (x : Option State) (state : State) → x ≡ option_map state_of o → x ≡ Some state → (call : Call) × (o ≡ Some call) × (call.state ≡ state)
has_call None x state e is = let no : None ≡ Some state = sym e ∙ is in absurd cc
has_call (Some call) x state e is = let same : Some call.state ≡ Some state = sym e ∙ is in (call, refl, cc)

pub no_call : (o : Option Call) (x : Option State) → x ≡ option_map state_of o → x ≡ None → o ≡ None
no_call None x e is = refl
no_call (Some call) x e is = let no : Some call.state ≡ None = sym e ∙ is in absurd cc

set_same : (b : Bool) (x a : Option State) (y c : Option Call) → x ≡ option_map state_of y → a ≡ option_map state_of c → cond b x a ≡ option_map state_of (cond b y c)
set_same true x a y c h k = h
set_same false x a y c h k = k

moved_same : (reply : Option Reply) (t : Tree) (luck : Luck) (step : PlainStep) (a : PlainAnswer) (o : Option Call) (x : Option State) → x ≡ option_map state_of o
    → unless_ended reply (option_map (λ (state : State). after state a) x) ≡ option_map state_of (unless_over reply (option_map (call_after t luck (Some (step, a))) o))
moved_same (Some r) t luck step a o x e = refl
moved_same None t luck step a None x e = ap (option_map (λ (state : State). after state a)) e
moved_same None t luck step a (Some call) x e = ap (option_map (λ (state : State). after state a)) e

-- ---- a step that came back, as one that failed

abbrev back : Luck
back = Fail Device None

back_fails : (t : Tree) (step : PlainStep) → (fault : Fault) × ((apply t step back).0 ≡ answers.Failed fault) × ((apply t step back).1 ≡ t)
back_fails t step = let f = failed_apply t step in (f.0, ap (λ (r : PlainAnswer × Tree). r.0) f.1, ap (λ (r : PlainAnswer × Tree). r.1) f.1)

memory_over : (reply : Option Reply) → Ends (over (Refused OutOfMemory)) reply → reply ≡ Some (Refused OutOfMemory)
memory_over None (step, e) = let no : None ≡ Some step = e in absurd cc
memory_over (Some r) (inl e) = ap Some (memory_plain r (let same : Refused OutOfMemory ≡ plain_reply r = cc in sym same))
memory_over (Some r) (inr e) = ap Some e

back_reply : (state : State) (made : StepMade) (reply : Option Reply) → wants state ≡ Some (step_of made) → answer_of made.step made.end ≡ answers.NoMemory made.step
    → Ends (after state (answer_in made)) reply → reply ≡ Some (Refused OutOfMemory)
back_reply state made reply wanted is ended =
    let lost : after state (answer_in made) ≡ over (Refused OutOfMemory)
    = ap (λ a. after state (answer_on made.after a)) is ∙ no_memory_after state (step_of made) (step_on made.after made.step) wanted in
    memory_over reply (subst (λ (x : State). Ends x reply) lost ended)

-- ---- one act

-- a step that was made is recorded as a move, and one that failed by the caller giving its call up
abbrev pub Told : {A B : Type 0} → ℕ → StepMade → Option Reply → A ⊎ B → Record → Type 0
Told caller made reply (inl is_made) r = IsMoved caller made reply r
Told caller made reply (inr failed) r = r ≡ Stopped caller

-- an act's record may come, and what it leaves agrees with what the act leaves
pub record Follows (s : Setup) (w : SystemState) (now : Now) (act : Act) : Type 0 where
  pub r : Record
  pub of_act : IsRecordOf act r
  pub may : MayCome s now r
  pub agree : Agree s (after_act s w act) (now_after s now r)

module _ (s : Setup) (apart : LieApart (home s) s.outside) (w : SystemState) (now : Now) (agree : Agree s w now) where
  begin_follows : (caller : ℕ) (command : Command) → MayAct s w (begins caller command) → Follows s w now (begins caller command)
  begin_follows caller command (within, free, may, named) =
      let come : MayCome s now (Began caller command)
      = (within, no_call (now.calls caller) (w.states caller) (agree.states caller) free, subst (λ n. MayBegin (call_site s n) (may_export s) (is_outside s) command) agree.begun may, named) in
      record {
        r = Began caller command;
        of_act = refl;
        may = come;
        agree = record {
          mirrors = agree.mirrors;
          states = λ k. set_same (k == caller) (Some (opening (call_site s w.begun) command)) (w.states k) (Some (new_call s now.begun command)) (now.calls k)
              (ap (λ n. Some (opening (call_site s n) command)) agree.begun) (agree.states k);
          begun = ap (λ n. n + 1) agree.begun;
          all = next_holds s apart now (Began caller command) come agree.all;
          temps = agree.temps;
        };
      }

  over_follows : (caller : ℕ) (reply : Reply) → MayAct s w (ends caller reply) → Follows s w now (ends caller reply)
  over_follows caller reply (state, stands, none, ended) =
      let c = has_call (now.calls caller) (w.states caller) state (agree.states caller) stands in
      let come : MayCome s now (Moved caller Plain None (Some reply))
      = (c.0, c.1, (ap wants c.2 ∙ none, subst (λ (x : State). Ends x (Some reply)) (sym c.2) ended)) in
      record {
        r = Moved caller Plain None (Some reply);
        of_act = (Plain, refl);
        may = come;
        agree = record {
          mirrors = agree.mirrors;
          states = λ k. set_same (k == caller) None (w.states k) None (now.calls k) refl (agree.states k);
          begun = agree.begun;
          all = next_holds s apart now (Moved caller Plain None (Some reply)) come agree.all;
          temps = agree.temps;
        };
      }

  stop_follows : (caller : ℕ) → MayAct s w (stops caller) → Follows s w now (stops caller)
  stop_follows caller (state, stands) =
      let c = has_call (now.calls caller) (w.states caller) state (agree.states caller) stands in
      record {
        r = Stopped caller;
        of_act = refl;
        may = (c.0, c.1);
        agree = record {
          mirrors = agree.mirrors;
          states = λ k. set_same (k == caller) None (w.states k) None (now.calls k) refl (agree.states k);
          begun = agree.begun;
          all = next_holds s apart now (Stopped caller) (c.0, c.1) agree.all;
          temps = agree.temps;
        };
      }

  module _ (caller : ℕ) (made : StepMade) (call : Call) (is : now.calls caller ≡ Some call) where
    -- what agrees behind a move
    moved_agree : (luck : Luck) (answer : PlainAnswer) (reply : Option Reply) → MayMove now.tree call.state luck (Some (step_of made, answer)) reply
        → Mirrors (temps_left w.temps made) made.after.tree (apply now.tree (step_of made) luck).1
        → unless_ended reply (option_map (λ (state : State). after state (answer_in made)) (w.states caller))
        ≡ option_map state_of (unless_over reply (moved_call now caller luck (Some (step_of made, answer))))
        → Agree s (after_act s w (makes caller made reply)) (now_after s now (Moved caller luck (Some (step_of made, answer)) reply))
    moved_agree luck answer reply may mirrors states = record {
      mirrors = mirrors;
      states = λ k. set_same (k == caller) _ (w.states k) _ (now.calls k) states (agree.states k);
      begun = agree.begun;
      all = next_holds s apart now (Moved caller luck (Some (step_of made, answer)) reply) (call, is, may) agree.all;
      temps = temps_kept (home s) w.temps (step_of made) (answer_in made)
          (made_proper s apart now.tree luck (step_of made, answer) reply call (of_caller s call _ is (agree.all.calls caller)) may) agree.temps;
    }

    abbrev Moves : Option Reply → Type 0
    Moves reply = (g : Follows s w now (makes caller made reply)) × IsMoved caller made reply g.r

    done_follows : (reply : Option Reply) (luck : Luck) (new : Tree) → wants call.state ≡ Some (step_of made) → NeedsFit (step_of made) (answer_in made) → Ends (after call.state (answer_in made)) reply
        → apply now.tree (step_of made) luck ≡ outcome (answer_in made) new → Mirrors (temps_left w.temps made) made.after.tree new
        → Moves reply
    done_follows reply luck new wanted fits ended done mirrors =
        let answer : answer_in made ≡ (apply now.tree (step_of made) luck).0 = sym (ap (λ (r : PlainAnswer × Tree). r.0) done) in
        let tree : new ≡ (apply now.tree (step_of made) luck).1 = sym (ap (λ (r : PlainAnswer × Tree). r.1) done) in
        let may : MayMove now.tree call.state luck (Some (step_of made, answer_in made)) reply = (wanted, answer, fits_so now.tree (step_of made) luck (answer_in made) answer fits, ended) in
        let moved : IsMoved caller made reply (Moved caller luck (Some (step_of made, answer_in made)) reply) = (luck, answer_in made, refl, inl refl) in (
          record {
            r = Moved caller luck (Some (step_of made, answer_in made)) reply;
            of_act = inl moved;
            may = (call, is, may);
            agree = moved_agree luck (answer_in made) reply may (subst (λ (t : Tree). Mirrors (temps_left w.temps made) made.after.tree t) tree mirrors)
                (moved_same reply now.tree luck (step_of made) (answer_in made) (now.calls caller) (w.states caller) (agree.states caller));
          },
          moved,
        )

    back_follows : answer_of made.step made.end ≡ answers.NoMemory made.step → wants call.state ≡ Some (step_of made) → Mirrors (temps_left w.temps made) made.after.tree now.tree
        → Moves (Some (Refused OutOfMemory))
    back_follows lost wanted mirrors =
        let f = back_fails now.tree (step_of made) in
        let reply : Option Reply = Some (Refused OutOfMemory) in
        let answer : PlainAnswer = answers.Failed f.0 in
        let may : MayMove now.tree call.state back (Some (step_of made, answer)) reply = (wanted, sym f.1, tt, inr refl) in
        let moved : IsMoved caller made reply (Moved caller back (Some (step_of made, answer)) reply) = (back, answer, refl, inr (lost, f.0, refl)) in (
          record {
            r = Moved caller back (Some (step_of made, answer)) reply;
            of_act = inl moved;
            may = (call, is, may);
            agree = moved_agree back answer reply may (subst (λ (t : Tree). Mirrors (temps_left w.temps made) made.after.tree t) (sym f.2) mirrors) refl;
          },
          moved,
        )

    on_disk_follows : (reply : Option Reply) → wants call.state ≡ Some (step_of made) → NeedsFit (step_of made) (answer_in made) → Ends (after call.state (answer_in made)) reply
        → (LeavesFresh made.before made.step (answer_of made.step made.end) made.after → ⊥) → OnDisk w.temps now.tree made → Moves reply
    on_disk_follows reply wanted fits ended clean (inl (luck, new, done, mirrors)) = done_follows reply luck new wanted fits ended done mirrors
    on_disk_follows reply wanted fits ended clean (inr (inr left)) = absurd (clean left)
    on_disk_follows reply wanted fits ended clean (inr (inl (lost, mirrors))) =
        subst Moves (sym (back_reply call.state made reply wanted lost ended)) (back_follows lost wanted mirrors)

    -- a step that failed, and whose caller gives its call up
    failed_follows : (reply : Option Reply) → Mirrors w.temps made.before.tree now.tree → EndsFailed made reply → (g : Follows s w now (makes caller made reply)) × (g.r ≡ Stopped caller)
    failed_follows reply mirrors f =
        let temps : temps_left w.temps made ≡ w.temps = failed_temps made f.why f.failed w.temps in (
          record {
            r = Stopped caller;
            of_act = inr (refl, f);
            may = (call, is);
            agree = record {
              mirrors = subst (λ (x : Names → Bool). Mirrors x made.after.tree now.tree) (sym temps) (subst (λ (t : Tree). Mirrors w.temps t now.tree) (sym f.same) mirrors);
              states = λ k. set_same (k == caller) (unless_ended reply (option_map (λ (state : State). after state (answer_in made)) (w.states caller))) (w.states k) None (now.calls k)
                  (ap (λ (q : Option Reply). unless_ended q (option_map (λ (state : State). after state (answer_in made)) (w.states caller))) f.over) (agree.states k);
              begun = agree.begun;
              all = next_holds s apart now (Stopped caller) (call, is) agree.all;
              temps = subst (AreTemps (home s)) (sym temps) agree.temps;
            };
          },
          refl,
        )

    made_follows : (reply : Option Reply) → wants call.state ≡ Some (step_of made) → NeedsFit (step_of made) (answer_in made) → Ends (after call.state (answer_in made)) reply
        → (LeavesFresh made.before made.step (answer_of made.step made.end) made.after → ⊥) → Mirrors w.temps made.before.tree now.tree
        → (so : IsMade w.temps made ⊎ EndsFailed made reply) → (g : Follows s w now (makes caller made reply)) × Told caller made reply so g.r
    made_follows reply wanted fits ended clean mirrors (inl is_made) = on_disk_follows reply wanted fits ended clean (steps_on_disk w.temps now.tree made mirrors is_made)
    made_follows reply wanted fits ended clean mirrors (inr failed) = failed_follows reply mirrors failed

  pub step_follows : (caller : ℕ) (made : StepMade) (reply : Option Reply) → (m : MakesStep w caller made reply) → (g : Follows s w now (makes caller made reply)) × Told caller made reply m.is_made g.r
  step_follows caller made reply m =
      let c = has_call (now.calls caller) (w.states caller) m.state (agree.states caller) m.stands in
      made_follows caller made c.0 c.1 reply (ap wants c.2 ∙ m.wanted) m.fits (subst (λ (x : State). Ends (after x (answer_in made)) reply) (sym c.2) m.over) m.clean
      (subst (λ (x : Machine). Mirrors w.temps x.tree now.tree) (sym m.here) agree.mirrors) m.is_made

  pub act_follows : (act : Act) → MayAct s w act → Follows s w now act
  act_follows (begins caller command) may = begin_follows caller command may
  act_follows (makes caller made reply) may = (step_follows caller made reply may).0
  act_follows (ends caller reply) may = over_follows caller reply may
  act_follows (stops caller) may = stop_follows caller may

-- ---- many acts

pub record FollowAll (s : Setup) (w : SystemState) (now : Now) (acts : List Act) : Type 0 where
  pub records : List Record
  pub of_acts : AreRecordsOf acts records
  pub legal : Legal s now records
  pub agree : Agree s (after_acts s w acts) (replayed s now records)

-- what follows an act and those after it
abbrev pub then_all : (s : Setup) (w : SystemState) (now : Now) (act : Act) (acts : List Act) → (f : Follows s w now act) → FollowAll s (after_act s w act) (now_after s now f.r) acts → FollowAll s w now (act ∷ acts)
then_all s w now act acts f g = record {
  records = f.r ∷ g.records;
  of_acts = (f.r, g.records, refl, f.of_act, g.of_acts);
  legal = (f.may, g.legal);
  agree = g.agree;
}

-- acts that may be by a rule, which may be wherever the two agree
module _ (s : Setup) (apart : LieApart (home s) s.outside) (May : SystemState → Act → Type 0) (may_act : (w : SystemState) (now : Now) → Agree s w now → (act : Act) → May w act → MayAct s w act) where
  acts_follow : (acts : List Act) (w : SystemState) (now : Now) → Agree s w now → EachMay May s w acts → FollowAll s w now acts
  acts_follow [] w now agree may = record { records = []; of_acts = refl; legal = tt; agree = agree }
  acts_follow (act ∷ acts) w now agree (may, later) =
      let f = act_follows s apart w now agree act (may_act w now agree act may) in
      then_all s w now act acts f (acts_follow acts (after_act s w act) (now_after s now f.r) f.agree later)

-- ---- from a cache on

pub caches_begin : CachesBegin
caches_begin s m apart is =
    let opened : (initial s).tree ≡ m.tree = ap tree_in is in (
      record {
        past = [];
        temps = λ q. false;
        legal = record { apart = apart; opens = is ∙ ap Ok (sym opened); legal = tt };
        over = λ k. refl;
        few = (let none : 0 ≤ 2 ^ 64 = omega arith in none);
        mirrors = record { files = λ q e. absurd cc; same = λ q. ap (λ (t : Tree). look t q) opened };
        are_temps = λ q e. absurd cc;
      },
      refl,
      λ q. refl,
    )

pub legal_join : (s : Setup) (now : Now) (past records : List Record) → Legal s now past → Legal s (replayed s now past) records → Legal s now (past ++ records)
legal_join s now [] records old legal = legal
legal_join s now (r ∷ past) records old legal = (old.0, legal_join s (now_after s now r) past records old.1 legal)

module _ (s : Setup) (m : Machine) (cache : CacheOn s m) where
  pub first_agree : Agree s (system_at s m cache) (now_left s cache.past)
  first_agree = record {
    mirrors = cache.mirrors;
    states = λ k. ap (option_map state_of) (sym (cache.over k));
    begun = refl;
    all = all_hold s cache.legal.apart (initial s) cache.past cache.legal.legal (first_holds (history_of s cache.past) cache.legal);
    temps = cache.are_temps;
  }

  -- acts that a history follows from there
  abbrev pub makes_history : (acts : List Act) → FollowAll s (system_at s m cache) (now_left s cache.past) acts → MakesHistory s cache.past acts (after_acts s (system_at s m cache) acts)
  makes_history acts f =
      let last = after_acts s (system_at s m cache) acts in
      let agree : Agree s last (now_left s (cache.past ++ f.records)) = subst (Agree s last) (sym (replay_more s (initial s) cache.past f.records)) f.agree in
      record {
        records = f.records;
        of_acts = f.of_acts;
        headline = headline (history_of s (cache.past ++ f.records))
            (record { apart = cache.legal.apart; opens = cache.legal.opens; legal = legal_join s (initial s) cache.past f.records cache.legal.legal f.legal });
        mirrors = agree.mirrors;
        are_temps = agree.temps;
        over = λ k none. no_call ((now_left s (cache.past ++ f.records)).calls k) (last.states k) (agree.states k) none;
        begun = agree.begun;
      }

pub caches_go_on : CachesGoOn
caches_go_on s past acts last made ended few = (
  record {
    past = past ++ made.records;
    temps = last.temps;
    legal = made.headline.legal;
    over = λ k. made.over k (ended k);
    few = subst (λ (n : ℕ). n ≤ 2 ^ 64) made.begun few;
    mirrors = made.mirrors;
    are_temps = made.are_temps;
  },
  refl,
)

pub make_histories : (May : Setup → SystemState → Act → Type 0) → ((s : Setup) → LieApart (home s) s.outside → (w : SystemState) (now : Now) → Agree s w now → (act : Act) → May s w act → MayAct s w act)
    → MakeHistories May
make_histories May may_act s m cache acts each =
    makes_history s m cache acts (acts_follow s cache.legal.apart (May s) (may_act s cache.legal.apart) acts (system_at s m cache) (now_left s cache.past) (first_agree s m cache) each)

pub systems_make_histories : SystemsMakeHistories
systems_make_histories = make_histories MayAct (λ s apart w now agree act may. may)

-- At each place the temporary file of a durable put that is moved next is synced, or gone.
use Rattle.std.proofs.{lemmas.Grind.{common_steps}, Common.{rules, ◌≡◌, inl, ◌<◌, ◌≤◌, ◌^◌, ◌==◌, ℕ, Bool, true, cond, List, [], ◌∷◌, ◌++◌, Option, None, Some, Ok, option_map, refl, sym, ap, subst, ◌∙◌, arith}}
use Rattle.cacache_core.specs.Paths.{Names, names_of}
use Rattle.cacache_store.specs.{declared.store.plain.PlainTemp.{PlainTemp}, Plain.{PlainStep, PlainAnswer}}
use Rattle.cacache_store.specs.declared.store.step.Step.TheVariants as steps
use Rattle.cacache_disk.{specs.{declared.luck.Luck.{Luck}, Tree.{Tree}, Apply.{apply}}, proofs.Roots.{same_self}}
use Rattle.cacache_calls.specs.{declared.{command.{Command.{Command}, Put.{Put}}, reply.Reply.{Reply}}, Answers.{synced_in}, Sound.{Allowed, Sound}, State.{State, persisting}, Steps.{temp_path}, Table.{opening}}
use Rattle.cacache_calls.proofs.Sound.{steps_allowed}
use Rattle.cacache_calls.specs.declared.command.Command.TheVariants as commands
use Rattle.cacache_value.{specs.{Kinds.{Temporary, path_kind}, Placed.{LieApart, Placed, Proper}}, proofs.Applying.{of_names}}
use Rattle.cacache_history.specs.{declared.record.Record.{Record, TheVariants.{Began, Moved, Stopped}}, Setup.{Setup, call_site, home, is_outside, may_export}, History.{Call, History, IsLegal, Legal, Made, MayMove, Now, new_call, initial, call_after, now_after, now_at, replayed, unless_over}, Values.{steps_of}, durable.{QuietMoves.{FewCalls}, Outlasting.{moment_at}}}
use Rattle.cacache_history.proofs.{Histories.Holding.{AllHold, CallHolds, ended_at, first_holds, legal_before, made_proper, next_holds, of_caller, replay_more, set_at}, Syncing.{temp_synced}, durable.{CallNumbers.{Numbered, first_numbered, more_begun, next_numbered, number_below, numbers_apart, temps_apart}, DurableStates.{IsDurable, Moves, stays_durable}, QuietSteps.{temp_for}, TempSteps.{IsReady, Spares, ready_next}, Traces.{made_move}}}
use Rattle.cacache_loss.specs.ChangedNames as loss
use Rattle.cacache_loss.specs.{Fixing.{Fixed, fixed_after, is_synced}, Moments.{Moment, after}}
use Rattle.cacache_loss.specs.Moments as moments

-- a temporary file is gone or synced
abbrev pub IsSynced : Moment → PlainTemp → Type 0
IsSynced m file = (q : Names) → names_of file.path ≡ Ok q → IsReady q m

-- that of a durable put is, if it is moved next
abbrev pub TempAt : Moment → Option Call → Type 0
TempAt m None = Unit {0}
TempAt m (Some call) = (p : Put) → call.command ≡ commands.Put p → p.options.durable ≡ true → IsDurable (IsSynced m) call.state

pub record TempsHold (m : Moment) (w : Now) : Type 0 where
  pub tree : m.tree ≡ w.tree
  pub temps : (k : ℕ) → TempAt m (w.calls k)

-- ---- what a sync leaves

synced_so : (a : PlainAnswer) (new : PlainTemp) → synced_in a ≡ Ok new → is_synced a ≡ true
synced_so a new e = grind (arith, common_steps)

sync_leaves : (fixed : Fixed) (t new : Tree) (f : PlainTemp) (q : Names) (step : PlainStep) (a : PlainAnswer) → ◌≡◌ {A = Option PlainStep} (Some (steps.SyncTemp f)) (Some step)
    → is_synced a ≡ true → names_of f.path ≡ Ok q → ((fixed_after fixed t new step a).files q).whole ≡ true
sync_leaves fixed t new f q (steps.SyncTemp g) a is done named =
    let same : f ≡ g = cc in
    let path : names_of g.path ≡ Ok q = ap (λ (f : PlainTemp). names_of f.path) (sym same) ∙ named in
    rw (done, path, same_self q) refl
sync_leaves fixed t new f q step a is done named = absurd cc

sync_gives : (t : Tree) (f new : PlainTemp) (step : PlainStep) (luck : Luck) (a : PlainAnswer) → ◌≡◌ {A = Option PlainStep} (Some (steps.SyncTemp f)) (Some step)
    → a ≡ (apply t step luck).0 → synced_in a ≡ Ok new → f ≡ new
sync_gives t f new step luck a is told e = grind (arith, temp_synced)

-- ---- a move

module _ (s : Setup) (apart : LieApart (home s) s.outside) (m : Moment) (w : Now) (all : AllHold s w) (numbered : Numbered w) (few : w.begun ≤ 2 ^ 64) (h : TempsHold m w)
    (caller : ℕ) (luck : Luck) (made : Made) (call : Call) (is : w.calls caller ≡ Some call) (reply : Option Reply) (may : MayMove w.tree call.state luck (Some made) reply) where
  abbrev later : Moment
  later = moments.next m (made_move luck made)

  mine : CallHolds s call
  mine = of_caller s call _ is (all.calls caller)

  small : (k : ℕ) (a : Call) → w.calls k ≡ Some a → a.number < 2 ^ 64
  small k a here = omega (arith, number_below w numbered k a here, few)

  placed : Placed (home s) m.tree
  placed = subst (Placed (home s)) (sym h.tree) all.placed

  proper : Proper (home s) made.0
  proper = made_proper s apart w.tree luck made reply call mine may

  -- another call's temporary file is spared
  spares : (other : Call) (p : List ℕ) (q : Names) → other.number < 2 ^ 64 → (other.number ≡ call.number → ⊥) → p ≡ temp_path s.cache other.number → names_of p ≡ Ok q
      → (step : PlainStep) → Allowed (call_site s call.number) (may_export s) (is_outside s) step → Spares q step
  spares other p q less differ at named step a = grind (arith, temps_apart, small)

  moves_still : (other : Call) → other.number < 2 ^ 64 → (other.number ≡ call.number → ⊥) → (state : State) → Sound (call_site s other.number) (may_export s) (is_outside s) state
      → Moves (IsSynced m) state → Moves (IsSynced later) state
  moves_still other less differ (persisting c file) sound synced = λ q named.
      ready_next (home s) q m (made_move luck made) (of_names (λ n. path_kind (home s) n ≡ Temporary) file.path q (temp_for s other.number file.path sound.1) named) placed proper
      (spares other file.path q less differ sound.1 named made.0 (steps_allowed (call_site s call.number) (may_export s) (is_outside s) call.state made.0 mine.sound may.0))
      (synced q named)
  moves_still other less differ state sound synced = absurd synced

  -- other calls
  other_temp : (k : ℕ) (o : Option Call) → w.calls k ≡ o → (k ≡ caller → ⊥) → TempAt m o → TempAt later o
  other_temp k None here differ old = tt
  other_temp k (Some other) here differ old = search (rules, moves_still, small, numbers_apart, of_caller)

  synced_later : (f new : PlainTemp) → ◌≡◌ {A = Option PlainStep} (Some (steps.SyncTemp f)) (Some made.0) → synced_in made.1 ≡ Ok new → IsSynced later new
  synced_later f new sync e = search (rules, sync_gives, sync_leaves, synced_so)

  -- the call itself
  own_temp : TempAt m (Some call) → TempAt later (Some (call_after w.tree luck (Some made) call))
  own_temp old = λ p put durable. stays_durable (IsSynced m) (IsSynced later) made.0 made.1 synced_later call.state (old p put durable) may.0

  moved_temp : (o : Option Call) → o ≡ Some call → TempAt later (option_map (call_after w.tree luck (Some made)) o)
  moved_temp o e = subst (λ o. TempAt later (option_map (call_after w.tree luck (Some made)) o)) (sym e) (own_temp (subst (TempAt m) is (h.temps caller)))

  temp_after : (k : ℕ) (b : Bool) → (k == caller) ≡ b → TempAt later (cond b (unless_over reply (option_map (call_after w.tree luck (Some made)) (w.calls caller))) (w.calls k))
  temp_after k b e = grind (arith, ended_at, moved_temp, other_temp)

  pub move_temps : TempsHold later (now_after s w (Moved caller luck (Some made) reply))
  move_temps = search (rules, temp_after)

-- ---- any record

kept_call : (m : Moment) (t : Tree) (luck : Luck) (o : Option Call) → TempAt m o → TempAt m (option_map (call_after t luck None) o)
kept_call m t luck o h = grind (arith, common_steps)

began_temp : (m : Moment) (s : Setup) (n : ℕ) (command : Command) → TempAt m (Some (new_call s n command))
began_temp m s n command = λ p put durable. subst (λ c. IsDurable (IsSynced m) (opening (call_site s n) c)) (sym put) (inl durable)

module _ (s : Setup) (apart : LieApart (home s) s.outside) where
  temps_hold : (m : Moment) (w : Now) (records : List Record) → Legal s w records → AllHold s w → Numbered w → (replayed s w records).begun ≤ 2 ^ 64 → TempsHold m w
      → TempsHold (after m (steps_of records)) (replayed s w records)
  temps_hold m w [] legal all numbered few h = h
  temps_hold m w (Began caller command ∷ records) legal all numbered few h =
      temps_hold m (now_after s w (Began caller command)) records legal.1 (next_holds s apart w (Began caller command) legal.0 all) (next_numbered s w (Began caller command) numbered) few
      (record { tree = h.tree; temps = λ k. set_at (TempAt m) (k == caller) (Some (new_call s w.begun command)) (w.calls k) (began_temp m s w.begun command) (h.temps k) })
  temps_hold m w (Moved caller luck None reply ∷ records) legal all numbered few h =
      temps_hold m (now_after s w (Moved caller luck None reply)) records legal.1 (next_holds s apart w (Moved caller luck None reply) legal.0 all)
      (next_numbered s w (Moved caller luck None reply) numbered) few
      (record { tree = h.tree; temps = λ k. set_at (TempAt m) (k == caller) _ (w.calls k) (ended_at (TempAt m) tt reply _ (kept_call m w.tree luck (w.calls caller) (h.temps caller))) (h.temps k) })
  temps_hold m w (Moved caller luck (Some made) reply ∷ records) legal all numbered few h =
      temps_hold (moments.next m (made_move luck made)) (now_after s w (Moved caller luck (Some made) reply)) records legal.1
      (next_holds s apart w (Moved caller luck (Some made) reply) legal.0 all) (next_numbered s w (Moved caller luck (Some made) reply) numbered) few
      (move_temps s apart m w all numbered (omega (arith, more_begun s (now_after s w (Moved caller luck (Some made) reply)) records, few)) h caller luck made legal.0.0 legal.0.1 reply legal.0.2)
  temps_hold m w (Stopped caller ∷ records) legal all numbered few h =
      temps_hold m (now_after s w (Stopped caller)) records legal.1 (next_holds s apart w (Stopped caller) legal.0 all) (next_numbered s w (Stopped caller) numbered) few
      (record { tree = h.tree; temps = λ k. set_at (TempAt m) (k == caller) None (w.calls k) tt (h.temps k) })

-- at each place of a legal history of few calls
pub temps_at : (h : History) → IsLegal h → FewCalls h → (before rest : List Record) → h.records ≡ before ++ rest → TempsHold (moment_at h before) (now_at h before)
temps_at h legal few before rest is =
    temps_hold h.setup legal.apart (loss.opening (initial h.setup).tree) (initial h.setup) before (legal_before h legal before rest is) (first_holds h legal) (first_numbered h.setup)
    (omega (arith, more_begun h.setup (now_at h before) rest, subst (λ w. w.begun ≤ 2 ^ 64) (ap (now_at h) is ∙ replay_more h.setup (initial h.setup) before rest) few))
    (record { tree = refl; temps = λ k. tt })

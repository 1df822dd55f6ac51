-- Callers as a store of real folders has them, on one machine: their temporary files hold there what their states say.
use Rattle.std.proofs.Common.{rules, arith, ◌≡◌, ◌≤◌, ◌^◌, ◌+◌, ℕ, List, [], ◌∷◌, Option, None, Some, sym, ap, subst, ◌∙◌}
use Rattle.cacache_value.specs.Placed.{LieApart}
use Rattle.cacache_calls.specs.{declared.{command.Command.{Command}, reply.Reply.{Reply}}, Table.{opening}, Sound.{MayBegin}}
use Rattle.cacache_history.specs.{declared.record.Record.{Record}, Setup.{Setup, call_site, home, may_export, is_outside}, History.{Now, now_after, replayed, NamesIntegrity}}
use Rattle.cacache_history.proofs.durable.CallNumbers.{Numbered, next_numbered, first_numbered}
use Rattle.cacache_system.specs.Seen.{NumberedFile, NumberedTemp}
use Rattle.cacache_store.specs.declared.store.plain.PlainFile.{PlainFile}
use Rattle.cacache_system_model.specs.{Machine.{Machine}, callers.{Acts.{Act, begins, steps as makes, ends, stops, SystemState}, Made.{now_left, CacheOn, system_at}, Storing.{MayStore}}}
use Rattle.cacache_system_model.proofs.callers.{NextActs.{NumberedState, numbered_after, MayNext}, Covering.{may_act}, Following.{Follows, act_follows, first_agree}, Files.{file_in, open_in, opens_free}, PathsOf.{HasPaths, opens_paths}, NextSteps.{HasHandle, HasOpen, PathsAt, Holds, at_state, no_paths, no_state, no_open, makes_storing_step, step_holds}}

module _ (s : Setup) (apart : LieApart (home s) s.outside) (f : NumberedState) (now : Now) (all : Holds s f now) where
  abbrev w : SystemState
  w = f.system

  begin_holds : (caller : ℕ) (command : Command) → MayBegin (call_site s w.begun) (may_export s) (is_outside s) command → NamesIntegrity command → w.begun + 1 ≤ 2 ^ 64 → (g : Follows s w now (begins caller command)) → Holds s (numbered_after s f (begins caller command)) (now_after s now g.r)
  begin_holds caller command may named few g = record {
    agree = g.agree;
    numbered = next_numbered s now g.r all.numbered;
    few = subst (λ (n : ℕ). n ≤ 2 ^ 64) g.agree.begun few;
    handles = λ k.
        at_state (HasHandle w.temps w.machine (f.held k)) k caller (Some (opening (call_site s w.begun) command)) (w.states k)
        (λ same. begun_handle (f.held k)) (λ differ. all.handles k);
    opens = λ k.
        at_state (HasOpen (f.opened k)) k caller (Some (opening (call_site s w.begun) command)) (w.states k) (λ same. begun_open (f.opened k)) (λ differ. all.opens k);
    paths = λ k.
        at_state (PathsAt (home s)) k caller (Some (opening (call_site s w.begun) command)) (w.states k)
        (λ same state e. let begun : opening (call_site s w.begun) command ≡ state = cc in
        subst (HasPaths (home s)) begun (opens_paths s w.begun command apart may named)) (λ differ. all.paths k);
  }
    where
      begun_handle : (o : Option NumberedTemp) → HasHandle w.temps w.machine o (Some (opening (call_site s w.begun) command))
      begun_handle o state e file is =
          let same : opening (call_site s w.begun) command ≡ state = cc in
          let no : None ≡ Some file = sym (opens_free (call_site s w.begun) command).0 ∙ ap file_in same ∙ is in absurd cc

      begun_open : (o : Option (NumberedFile × PlainFile)) → HasOpen o (Some (opening (call_site s w.begun) command))
      begun_open o state e file is =
          let same : opening (call_site s w.begun) command ≡ state = cc in
          let no : None ≡ Some file = sym (opens_free (call_site s w.begun) command).1 ∙ ap open_in same ∙ is in absurd cc

  few_now : w.begun ≤ 2 ^ 64
  few_now = subst (λ (n : ℕ). n ≤ 2 ^ 64) (sym all.agree.begun) all.few

  over_holds : (caller : ℕ) (reply : Reply) → (g : Follows s w now (ends caller reply)) → Holds s (numbered_after s f (ends caller reply)) (now_after s now g.r)
  over_holds caller reply g = search (rules, next_numbered, few_now, at_state, no_state, no_open, no_paths)

  stop_holds : (caller : ℕ) → (g : Follows s w now (stops caller)) → Holds s (numbered_after s f (stops caller)) (now_after s now g.r)
  stop_holds caller g = search (rules, next_numbered, few_now, at_state, no_state, no_open, no_paths)

  -- an act is one whose steps have what `MayStore` asks
  pub may_store : (act : Act) → MayNext s f act → MayStore s w act
  may_store act may = grind (arith, makes_storing_step)

  pub next_act : (act : Act) → MayNext s f act → (g : Follows s w now act) × Holds s (numbered_after s f act) (now_after s now g.r)
  next_act (begins caller command) (may, few) =
      let g = act_follows s apart w now all.agree (begins caller command) may in (g, begin_holds caller command may.2 may.3 few g)
  next_act (makes caller made reply) m =
      let g = act_follows s apart w now all.agree (makes caller made reply) (may_act s apart w now all.agree (makes caller made reply) (may_store (makes caller made reply) m)) in
      (g, step_holds s apart f now all caller made reply m g)
  next_act (ends caller reply) may = let g = act_follows s apart w now all.agree (ends caller reply) may in (g, over_holds caller reply g)
  next_act (stops caller) may = let g = act_follows s apart w now all.agree (stops caller) may in (g, stop_holds caller g)

all_numbered : (s : Setup) (now : Now) (records : List Record) → Numbered now → Numbered (replayed s now records)
all_numbered s now [] h = h
all_numbered s now (r ∷ records) h = all_numbered s (now_after s now r) records (next_numbered s now r h)

-- at first all of it holds
pub first_holds : (s : Setup) (m : Machine) (cache : CacheOn s m) → Holds s (record { system = system_at s m cache; held = λ caller. None; opened = λ caller. None }) (now_left s cache.past)
first_holds s m cache = search (rules, first_agree, all_numbered, first_numbered, no_state, no_open, no_paths)

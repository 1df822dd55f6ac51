-- What holds at each place of a legal history.
use Rattle.std.proofs.{Common.{arith, rules, ◌≡◌, ◌==◌, ℕ, Bool, cond, List, [], ◌∷◌, ◌++◌, Option, None, Some, option_map, refl, sym, ap, subst}, lemmas.Grind.{common_steps}}
use Rattle.cacache_store.specs.Plain.{Fits}
use Rattle.cacache_disk.{specs.{declared.luck.Luck.{Luck}, Tree.{Tree, Rooted}, Apply.{apply}}, proofs.KeptFolders.{steps_keep_rooted}}
use Rattle.cacache_calls.specs.{declared.{command.Command.{Command}, reply.Reply.{Reply}}, Table.{after, opening}, Runs.{Goes}, Sound.{Sound, MayBegin}}
use Rattle.cacache_calls.proofs.{Going.{goes_on}, Sound.{begins_sound, stays_sound}}
use Rattle.cacache_value.{specs.Placed.{Placed, Proper, LieApart, IsOpening}, proofs.{OpeningTrees.{files_open}, Traces.{steps_keep_placed}}}
use Rattle.cacache_history.specs.{declared.record.Record.{Record, TheVariants.{Began, Moved, Stopped}}, Setup.{Setup, call_site, home, may_export, is_outside}, History.{Turn, Call, Now, History, Made, initial, new_call, turn_of, call_after, unless_over, moved_tree, now_after, replayed, now_at, NamesIntegrity, MayMove, MayCome, Legal, IsLegal}, Turns.{made_in, EachTurn}}
use Rattle.cacache_history.proofs.{Contents.{Carrying.{own_of, Carries, Makes, opening_carries, carries_makes, carries_on}, Righted.{TreeRight, stays_right, opening_right}}, StepActs.{sound_proper}, Entries.Spelled.{TreeFormed, step_formed, opening_formed}, Each.{each_join}}

-- the tree that a turn found was one of the cache's, and the turn's answer is the disk's there
pub record TurnHolds (s : Setup) (turn : Turn) : Type 0 where
  pub placed : Placed (home s) turn.place
  pub rooted : Rooted turn.place
  pub formed : TreeFormed (home s) turn.place
  pub answered : turn.move.answer ≡ (apply turn.place turn.move.step turn.move.luck).0
  pub fits : Fits turn.move.step turn.move.answer

abbrev pub TurnsHold : Setup → List Turn → Type 0
TurnsHold s [] = Unit {0}
TurnsHold s (turn ∷ turns) = TurnHolds s turn × TurnsHold s turns

-- the turns took the call from its opening to its state, which is sound
pub record CallHolds (s : Setup) (call : Call) : Type 0 where
  pub may : MayBegin (call_site s call.number) (may_export s) (is_outside s) call.command
  pub named : NamesIntegrity call.command
  pub goes : Goes (opening (call_site s call.number) call.command) (made_in call.turns) call.state
  pub sound : Sound (call_site s call.number) (may_export s) (is_outside s) call.state
  pub turns : TurnsHold s call.turns
  pub carries : Carries (own_of (call_site s call.number) call.command) call.state
  pub makes : EachTurn (λ turn. Makes (own_of (call_site s call.number) call.command) turn.move.step) call.turns

abbrev pub CallAt : Setup → Option Call → Type 0
CallAt s None = Unit {0}
CallAt s (Some call) = CallHolds s call

pub record AllHold (s : Setup) (w : Now) : Type 0 where
  pub placed : Placed (home s) w.tree
  pub rooted : Rooted w.tree
  pub formed : TreeFormed (home s) w.tree
  pub right : TreeRight (home s) w.tree
  pub calls : (caller : ℕ) → CallAt s (w.calls caller)

-- ---- a call

pub begins_hold : (s : Setup) (n : ℕ) (command : Command) → MayBegin (call_site s n) (may_export s) (is_outside s) command → NamesIntegrity command → CallHolds s (new_call s n command)
begins_hold s n command may named = search (rules, begins_sound, opening_carries)

made_more : (turns : List Turn) (turn : Turn) → made_in (turns ++ turn ∷ []) ≡ made_in turns ++ (turn.move.step, turn.move.answer) ∷ []
made_more [] turn = refl
made_more (t ∷ turns) turn = ap (λ moves. (t.move.step, t.move.answer) ∷ moves) (made_more turns turn)

module _ (s : Setup) (w : Now) (h : AllHold s w) (luck : Luck) where
  -- a call that moved
  pub moved_holds : (made : Option Made) (reply : Option Reply) (call : Call) → CallHolds s call → MayMove w.tree call.state luck made reply
      → CallHolds s (call_after w.tree luck made call)
  moved_holds None reply call mine may = mine
  moved_holds (Some made) reply call mine may = record {
    may = mine.may;
    named = mine.named;
    goes = subst (λ moves. Goes (opening (call_site s call.number) call.command) moves (after call.state made.1)) (sym (made_more call.turns (turn_of w.tree luck made)))
        (goes_on (opening (call_site s call.number) call.command) (made_in call.turns) call.state made.0 made.1 mine.goes may.0 may.2);
    sound = stays_sound (call_site s call.number) (may_export s) (is_outside s) call.state made.0 made.1 mine.sound may.0 may.2;
    turns = each_join (TurnHolds s) call.turns (turn_of w.tree luck made ∷ []) mine.turns (record { placed = h.placed; rooted = h.rooted; formed = h.formed; answered = may.1; fits = may.2 }, tt);
    carries = carries_on (own_of (call_site s call.number) call.command) w.tree luck made.1 call.state made.0 mine.carries may.0 may.1;
    makes = each_join (λ (turn : Turn). Makes (own_of (call_site s call.number) call.command) turn.move.step) call.turns (turn_of w.tree luck made ∷ []) mine.makes
        (carries_makes (own_of (call_site s call.number) call.command) call.state made.0 mine.carries may.0, tt);
  }

-- ---- any record

-- what holds of both calls holds of the one that a test picks
pub set_at : (P : Option Call → Type 0) (b : Bool) (x y : Option Call) → P x → P y → P (cond b x y)
set_at P b x y h k = grind (arith, common_steps)

-- and it holds once the call is over, if it holds of none
pub ended_at : (P : Option Call → Type 0) → P None → (reply : Option Reply) (call : Option Call) → P call → P (unless_over reply call)
ended_at P none reply call h = grind (arith, common_steps)

-- what holds of a caller's call holds of this one, if it is that call
pub of_caller : (s : Setup) (call : Call) (o : Option Call) → o ≡ Some call → CallAt s o → CallHolds s call
of_caller s call o e h = subst (CallAt s) e h

module _ (s : Setup) (apart : LieApart (home s) s.outside) where
  -- the step that a call made was proper
  pub made_proper : (t : Tree) (luck : Luck) (made : Made) (reply : Option Reply) (call : Call) → CallHolds s call → MayMove t call.state luck (Some made) reply → Proper (home s) made.0
  made_proper t luck made reply call mine may = sound_proper s call.number apart call.state made.0 mine.sound may.0

  pub tree_holds : (w : Now) (luck : Luck) (made : Option Made) (reply : Option Reply) (call : Call) → AllHold s w → CallHolds s call → MayMove w.tree call.state luck made reply
      → Placed (home s) (moved_tree w.tree luck made) × Rooted (moved_tree w.tree luck made) × TreeFormed (home s) (moved_tree w.tree luck made)
      × TreeRight (home s) (moved_tree w.tree luck made)
  tree_holds w luck None reply call h mine may = (h.placed, h.rooted, h.formed, h.right)
  tree_holds w luck (Some made) reply call h mine may =
      let proper = made_proper w.tree luck made reply call mine may in
      let makes = carries_makes (own_of (call_site s call.number) call.command) call.state made.0 mine.carries may.0 in (
        steps_keep_placed (home s) w.tree made.0 luck h.placed proper,
        steps_keep_rooted w.tree made.0 luck h.rooted,
        step_formed (home s) w.tree made.0 luck h.placed proper h.formed,
        stays_right s call.number call.command w.tree made.0 luck h.placed proper makes h.right,
      )

  move_holds : (w : Now) (caller : ℕ) (luck : Luck) (made : Option Made) (reply : Option Reply) (call : Call) → w.calls caller ≡ Some call
      → MayMove w.tree call.state luck made reply → AllHold s w → AllHold s (now_after s w (Moved caller luck made reply))
  move_holds w caller luck made reply call e may h =
      let mine = of_caller s call _ e (h.calls caller) in
      let tree = tree_holds w luck made reply call h mine may in
      record {
        placed = tree.0;
        rooted = tree.1;
        formed = tree.2;
        right = tree.3;
        calls = λ k. set_at (CallAt s) (k == caller) _ (w.calls k)
            (ended_at (CallAt s) tt reply _ (subst (λ o. CallAt s (option_map (call_after w.tree luck made) o)) (sym e) (moved_holds s w h luck made reply call mine may)))
            (h.calls k);
      }

  pub next_holds : (w : Now) (r : Record) → MayCome s w r → AllHold s w → AllHold s (now_after s w r)
  next_holds w (Began caller command) may h = search (rules, set_at, begins_hold)
  next_holds w (Moved caller luck made reply) may h = move_holds w caller luck made reply may.0 may.1 may.2 h
  next_holds w (Stopped caller) may h = search (rules, set_at)

  pub all_hold : (w : Now) (records : List Record) → Legal s w records → AllHold s w → AllHold s (replayed s w records)
  all_hold w [] legal h = h
  all_hold w (r ∷ records) legal h = all_hold (now_after s w r) records legal.1 (next_holds w r legal.0 h)

-- ---- the opening

pub first_opens : (h : History) → IsLegal h → IsOpening (home h.setup) (initial h.setup).tree
first_opens h legal = files_open (home h.setup) h.setup.outside (initial h.setup).tree legal.apart legal.opens

pub first_holds : (h : History) → IsLegal h → AllHold h.setup (initial h.setup)
first_holds h legal =
    let o = first_opens h legal in
    record { placed = o.placed; rooted = o.rooted; formed = opening_formed (home h.setup) (initial h.setup).tree o; right = opening_right (home h.setup) (initial h.setup).tree o; calls = λ caller. tt }

-- ---- places of a history

pub legal_front : (s : Setup) (w : Now) (before later : List Record) → Legal s w (before ++ later) → Legal s w before
legal_front s w [] later legal = tt
legal_front s w (r ∷ before) later legal = (legal.0, legal_front s (now_after s w r) before later legal.1)

pub legal_rest : (s : Setup) (w : Now) (before later : List Record) → Legal s w (before ++ later) → Legal s (replayed s w before) later
legal_rest s w [] later legal = legal
legal_rest s w (r ∷ before) later legal = legal_rest s (now_after s w r) before later legal.1

pub replay_more : (s : Setup) (w : Now) (before more : List Record) → replayed s w (before ++ more) ≡ replayed s (replayed s w before) more
replay_more s w [] more = refl
replay_more s w (r ∷ before) more = replay_more s (now_after s w r) before more

module _ (h : History) (legal : IsLegal h) (before later : List Record) (is : h.records ≡ before ++ later) where
  whole : Legal h.setup (initial h.setup) (before ++ later)
  whole = subst (Legal h.setup (initial h.setup)) is legal.legal

  -- the records before a place, and those after it
  pub legal_before : Legal h.setup (initial h.setup) before
  legal_before = legal_front h.setup (initial h.setup) before later whole

  pub legal_after : Legal h.setup (now_at h before) later
  legal_after = legal_rest h.setup (initial h.setup) before later whole

  pub held_at : AllHold h.setup (now_at h before)
  held_at = all_hold h.setup legal.apart (initial h.setup) before legal_before (first_holds h legal)

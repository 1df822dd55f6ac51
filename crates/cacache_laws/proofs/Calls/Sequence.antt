-- Calls in sequence: each keeps what holds of the tree, and answers by it.
use Rattle.std.{proofs.Common.{rules, ◌≡◌, inl, inr, List, [], ◌∷◌, ◌++◌, Option, None, Some, refl, sym, ap, subst, ◌∙◌, append-nil, append_assoc}, specs.Prelude.{map}}
use Rattle.cacache_store.specs.declared.store.log.LogItem.{LogItem, TheVariants.{Made}}
use Rattle.cacache_disk.specs.{declared.luck.Luck.TheVariants.{Plain}, Tree.{Tree, bare}, Apply.{apply}, Replay.{replay, IsReplayable, tree_of, IsLog}}
use Rattle.cacache_calls.specs.{declared.reply.Reply.{Reply}, Runs.{Moves, Runs, plain_reply}, Sound.{MayBegin}, State.{State}, Table.{after, opening}}
use Rattle.cacache_calls.proofs.EarnedErrors.{io_errors_have_causes}
use Rattle.cacache_value.specs.{Placed.{LieApart}, Acts.{IsTrace, tree_after, acts}, Value.{wide_value, cache_part, value_of_tree}}
use Rattle.cacache_value.proofs.{OpeningTrees.{files_open}, Traces.{traces_act}}
use Rattle.cacache_history.specs.{Setup.{Setup, call_site, home, may_export, is_outside}, History.{Now, Ends, MayMove, NamesIntegrity, new_call, call_after, turn_of}, Turns.{made_in, EachTurn}, Commits.{deeds}}
use Rattle.cacache_history.proofs.{Entries.{Bucketed.{Keeps, KeyedTurn, move_keyed, opening_keyed}, Spelled.{opening_formed}, Owned.{opening_own}}, Histories.{Holding.{AllHold, CallHolds, TurnsHold, begins_hold, moved_holds, made_proper, tree_holds}, Places.{memory_plain}, TurnReplies.{reads_value}}, Contents.{Carrying.{own_of, Makes}, Righted.{opening_right}, Commits.{cases, plain_refused}}}
use Rattle.cacache_history.specs.History as histories
use Rattle.cacache_laws.specs.Sequence.{SequenceCall, AreMade, MayBeMade, planted_log, tree_on, turns_on, AreAnswered, plain_moves, Alike, after_deeds, CallIsAnswered, IsSound, AllAnswer, RunsAreCalls, OpeningsAreSound, CallsAreAnswered, SequencesAnswer}
use Rattle.cacache_laws.proofs.{Calls.Replays.{moves_alike, replay_more, replayable_rest, moves_lead, moves_answered, files_lead, calls_lengthen}, Readings.Looks.{found_before}, Putting.Persisting.{puts_find_nothing}}

-- the moves of a run, as those of a call
pub runs_are_calls : RunsAreCalls
runs_are_calls s command number reply old new ran = (
  record { command = command; number = number; moves = ran.0; reply = reply },
  refl,
  refl,
  refl,
  record { run = ran.1; gained = cc },
)

-- a tree, while no call is on its way
abbrev pub alone : Tree → Now
alone t = record { tree = t; calls = λ caller. None; begun = 0 }

-- a call of a world after these moves
abbrev pub on_its_way : Tree → Moves → histories.Call → histories.Call
on_its_way t [] call = call
on_its_way t (m ∷ moves) call = on_its_way (apply t m.0 Plain).1 moves (call_after t Plain (Some m) call)

-- ---- turns and moves

pub turns_made : (t : Tree) (moves : Moves) → made_in (turns_on t moves) ≡ moves
turns_made t [] = refl
turns_made t (m ∷ moves) = ap (λ l. m ∷ l) (turns_made (apply t m.0 Plain).1 moves)

turns_gained : (t : Tree) (moves : Moves) (call : histories.Call) → (on_its_way t moves call).turns ≡ call.turns ++ turns_on t moves
turns_gained t [] call = sym (append-nil call.turns)
turns_gained t (m ∷ moves) call =
    turns_gained (apply t m.0 Plain).1 moves (call_after t Plain (Some m) call) ∙ append_assoc call.turns (turn_of t Plain m ∷ []) (turns_on (apply t m.0 Plain).1 moves)

same_command : (t : Tree) (moves : Moves) (call : histories.Call) → (on_its_way t moves call).command ≡ call.command
same_command t [] call = refl
same_command t (m ∷ moves) call = same_command (apply t m.0 Plain).1 moves (call_after t Plain (Some m) call)

same_number : (t : Tree) (moves : Moves) (call : histories.Call) → (on_its_way t moves call).number ≡ call.number
same_number t [] call = refl
same_number t (m ∷ moves) call = same_number (apply t m.0 Plain).1 moves (call_after t Plain (Some m) call)

pub moves_after : (t : Tree) (moves : Moves) → tree_after t (plain_moves moves) ≡ tree_on t moves
moves_after t [] = refl
moves_after t (m ∷ moves) = moves_after (apply t m.0 Plain).1 moves

-- ---- a run

-- what a run keeps
pub record RunHolds (s : Setup) (t : Tree) (moves : Moves) (call : histories.Call) : Type 0 where
  pub calls : CallHolds s (on_its_way t moves call)
  pub tree : AllHold s (alone (tree_on t moves))
  pub trace : IsTrace (home s) t (plain_moves moves)
  pub keeps : Keeps s (tree_on t moves)
  pub keyed : EachTurn (KeyedTurn s) (turns_on t moves)

-- how a run goes on, as a move of a world
pub run_ends : (st : State) (moves : Moves) (r : Reply) → Runs st moves (plain_reply r) → (reply : Option Reply) × Ends st reply
run_ends st [] r (inl e) = (Some r, inl e)
run_ends st [] r (inr e) = (Some r, inr (memory_plain r e))
run_ends st (m ∷ moves) r run = (None, (m.0, run.0))

module _ (s : Setup) (apart : LieApart (home s) s.outside) where
  pub run_holds : (t : Tree) (moves : Moves) (r : Reply) (call : histories.Call) → AllHold s (alone t) → Keeps s t → CallHolds s call → Runs call.state moves (plain_reply r) → AreAnswered t moves
      → RunHolds s t moves call
  run_holds t [] r call tree keeps mine run answered = record { calls = mine; tree = tree; trace = tt; keeps = keeps; keyed = tt }
  run_holds t (m ∷ moves) r call tree keeps mine run answered =
      let e = run_ends (after call.state m.1) moves r run.2 in
      let may : MayMove t call.state Plain (Some m) e.0 = (run.0, answered.0, run.1, e.1) in
      let holds = tree_holds s apart (alone t) Plain (Some m) e.0 call tree mine may in
      let next : AllHold s (alone (apply t m.0 Plain).1) = record { placed = holds.0; rooted = holds.1; formed = holds.2; right = holds.3; calls = λ k. tt } in
      let kept = move_keyed s apart (alone t) Plain (Some m) e.0 call tree mine may keeps in
      let more = run_holds (apply t m.0 Plain).1 moves r (call_after t Plain (Some m) call) next kept (moved_holds s (alone t) tree Plain (Some m) e.0 call mine may) run.2 answered.1 in
      record {
        calls = more.calls;
        tree = more.tree;
        trace = (made_proper s apart t Plain m e.0 call mine may, answered.0, more.trace);
        keeps = more.keeps;
        keyed = (keeps, more.keyed);
      }

  -- ---- a call

  -- its steps make contents of nothing but the call's own
  makes_own : (t : Tree) (call : SequenceCall) → CallHolds s (on_its_way t call.moves (new_call s call.number call.command))
      → EachTurn (λ turn. Makes (own_of (call_site s call.number) call.command) turn.move.step) (turns_on t call.moves)
  makes_own t call holds =
      let start = new_call s call.number call.command in
      let now = on_its_way t call.moves start in
      subst (EachTurn (λ turn. Makes (own_of (call_site s call.number) call.command) turn.move.step)) (turns_gained t call.moves start)
      (subst (λ c. EachTurn (λ turn. Makes (own_of (call_site s call.number) c) turn.move.step) now.turns) (same_command t call.moves start)
      (subst (λ n. EachTurn (λ turn. Makes (own_of (call_site s n) now.command) turn.move.step) now.turns) (same_number t call.moves start) holds.makes))

  pub moves_follow : (t : Tree) (moves : Moves) → value_of_tree (home s) (tree_on t moves) ≡ cache_part (home s) (acts (home s) (wide_value (home s) t) (plain_moves moves))
      → Alike (value_of_tree (home s) (tree_on t moves)) (after_deeds (home s) (deeds (turns_on t moves)) (value_of_tree (home s) t))
  moves_follow t moves e =
      let same : Alike (wide_value (home s) t) (value_of_tree (home s) t) = record { contents = λ a. refl; lists = λ d. refl } in
      let h = moves_alike (home s) t moves (wide_value (home s) t) (value_of_tree (home s) t) same in
      subst (λ v. Alike v (after_deeds (home s) (deeds (turns_on t moves)) (value_of_tree (home s) t))) (sym e) (record { contents = h.contents; lists = h.lists })

  call_answers : (t : Tree) (call : SequenceCall) → AllHold s (alone t) → Keeps s t → MayBegin (call_site s call.number) (may_export s) (is_outside s) call.command → NamesIntegrity call.command
      → Runs (opening (call_site s call.number) call.command) call.moves (plain_reply call.reply) → AreAnswered t call.moves
      → CallIsAnswered s t call × AllHold s (alone (tree_on t call.moves)) × Keeps s (tree_on t call.moves)
  call_answers t call tree keeps may named run answered =
      let start = new_call s call.number call.command in
      let holds = run_holds t call.moves call.reply start tree keeps (begins_hold s call.number call.command may named) run answered in
      let turns = turns_on t call.moves in
      let made : made_in turns ≡ call.moves = turns_made t call.moves in
      let hold : TurnsHold s turns = subst (TurnsHold s) (turns_gained t call.moves start) holds.calls.turns in
      let ran : Runs (opening (call_site s call.number) call.command) (made_in turns) (plain_reply call.reply)
      = subst (λ moves. Runs (opening (call_site s call.number) call.command) moves (plain_reply call.reply)) (sym made) run in (
        record {
          disk = answered;
          acts = ap (value_of_tree (home s)) (sym (moves_after t call.moves)) ∙ traces_act (home s) t (plain_moves call.moves) tree.placed holds.trace;
          follows = moves_follow t call.moves (ap (value_of_tree (home s)) (sym (moves_after t call.moves)) ∙ traces_act (home s) t (plain_moves call.moves) tree.placed holds.trace);
          found = λ a more is e. found_before s a is more t call.moves tree.placed holds.trace hold e;
          puts = λ p path more is e.
              puts_find_nothing (home s) (call_site s call.number) p t call.moves (plain_reply call.reply) path more tree.rooted tree.placed holds.trace
              (subst (λ c. Runs (opening (call_site s call.number) c) call.moves (plain_reply call.reply)) is run) e;
          reads = elim (reads_value s call.number call.command turns (plain_reply call.reply) named hold holds.keyed ran) [
            | inl e ↦ inl (memory_plain call.reply e)
            | inr reads ↦ inr reads
          ];
          commits = cases s call.number (Some call.reply) (plain_reply call.reply) (plain_refused call.reply) call.command turns may hold (makes_own t call holds.calls) ran;
          causes = io_errors_have_causes (call_site s call.number) call.command call.moves (plain_reply call.reply) run;
        },
        holds.tree,
        holds.keeps,
      )

  -- ---- all calls

  calls_answer : (old : List LogItem) (calls : List SequenceCall) (new : List LogItem) → MayBeMade s calls → AreMade s old calls new → IsReplayable bare new → AllHold s (alone (replay bare old)) → Keeps s (replay bare old)
      → AllAnswer s (replay bare old) calls (replay bare new)
  calls_answer old [] new may made logged tree keeps = ap (replay bare) made
  calls_answer old (call ∷ calls) new may made logged tree keeps =
      let moves = map (λ m. Made m.0 m.1) call.moves in
      let rest = calls_lengthen s made.0 calls new made.2 in
      let whole : new ≡ old ++ (moves ++ rest.more) = rest.is ∙ ap (λ log. log ++ rest.more) made.1.gained ∙ append_assoc old moves rest.more in
      let answered = moves_answered (replay bare old) call.moves rest.more (replayable_rest bare old (moves ++ rest.more) (subst (IsReplayable bare) whole logged)) in
      let leads : replay bare made.0 ≡ tree_on (replay bare old) call.moves
      = ap (replay bare) made.1.gained ∙ replay_more bare old moves ∙ moves_lead (replay bare old) call.moves in
      let one = call_answers (replay bare old) call tree keeps may.0 may.1 made.1.run answered in (
        one.0,
        subst (λ t. AllAnswer s t calls (replay bare new)) leads
            (calls_answer made.0 calls new may.2 made.2 logged (subst (λ t. AllHold s (alone t)) (sym leads) one.1) (subst (Keeps s) (sym leads) one.2)),
      )

pub sequences_answer : SequencesAnswer
unfolding tree_of IsLog
sequences_answer s calls log apart may made logged =
    let rest = calls_lengthen s (planted_log s.outside) calls log made in
    let opens = files_lead bare s.outside rest.more (subst (IsReplayable bare) rest.is logged) in
    let o = files_open (home s) s.outside (replay bare (planted_log s.outside)) apart opens in
    calls_answer s apart (planted_log s.outside) calls log may made logged
    (record { placed = o.placed; rooted = o.rooted; formed = opening_formed (home s) (replay bare (planted_log s.outside)) o; right = opening_right (home s) (replay bare (planted_log s.outside)) o; calls = λ caller. tt })
    (record { keyed = opening_keyed (home s) (replay bare (planted_log s.outside)) o; own = opening_own (home s) (replay bare (planted_log s.outside)) o })

-- ---- one call

-- a sound tree, while no call is on its way
pub holds_alone : (s : Setup) (t : Tree) → IsSound (home s) t → AllHold s (alone t)
holds_alone s t sound = record { placed = sound.placed; rooted = sound.rooted; formed = sound.formed; right = sound.right; calls = λ caller. tt }

pub keeps_alone : (s : Setup) (t : Tree) → IsSound (home s) t → Keeps s t
keeps_alone s t sound = record { keyed = sound.keyed; own = sound.own }

pub sound_alone : (s : Setup) (t : Tree) → AllHold s (alone t) → Keeps s t → IsSound (home s) t
sound_alone s t hold keeps = record { placed = hold.placed; rooted = hold.rooted; formed = hold.formed; right = hold.right; keyed = keeps.keyed; own = keeps.own }

pub openings_are_sound : OpeningsAreSound
openings_are_sound folder t o = search (rules, opening_formed, opening_right, opening_keyed, opening_own)

pub calls_answer_alone : CallsAreAnswered
unfolding tree_of IsLog
calls_answer_alone s call old new apart may sound made logged =
    let moves = map (λ m. Made m.0 m.1) call.moves in
    let all : new ≡ old ++ (moves ++ []) = made.gained ∙ ap (λ l. old ++ l) (sym (append-nil (map (λ m. Made m.0 m.1) call.moves))) in
    let answered = moves_answered (replay bare old) call.moves [] (replayable_rest bare old (moves ++ []) (subst (IsReplayable bare) all logged)) in
    let leads : replay bare new ≡ tree_on (replay bare old) call.moves
    = ap (replay bare) made.gained ∙ replay_more bare old moves ∙ moves_lead (replay bare old) call.moves in
    let one = call_answers s apart (replay bare old) call (holds_alone s (replay bare old) sound) (keeps_alone s (replay bare old) sound) may.0 may.1 made.run answered in
    (one.0, subst (IsSound (home s)) (sym leads) (sound_alone s (tree_on (replay bare old) call.moves) one.1 one.2), leads)

-- The log of a store in memory, part by part and call by call; the deeds of a call alone change contents and entries.
use Rattle.std.proofs.{Common.{arith, ◌≡◌, ℕ, List, [], ◌∷◌, ◌++◌, None, Result, Ok, Err, refl, sym, ap, ◌∙◌, append-nil, append_assoc, inl, inr, Some, Bool, true, false, cond, Option, subst}, lemmas.{Grind.{common_steps}, List.{map-append}}}
use Rattle.std.specs.{Prelude.{map}, Result.{result_err}}
use Rattle.cacache_core.specs.{declared.errors.Fault.{Fault}, Paths.{Names, content_names, bucket_names_of}}
use Rattle.cacache_store.specs.{declared.store.log.LogItem.{LogItem, TheVariants.{Made}}, Plain.{PlainStep, PlainAnswer}}
use Rattle.cacache_disk.specs.{declared.luck.Luck.TheVariants.{Plain}, Tree.{Tree}, Apply.{apply, planted}, LedTo.{and_then}, Replay.{changed, after, replay, IsReplayable}}
use Rattle.cacache_calls.specs.{Runs.{Moves}, declared.{reply.Reply.{Reply}, command.Command.{Command}}, Promises.{Faulted}}
use Rattle.cacache_value.specs.{Placed.{with_files}, Kinds.{is_path_of}, Value.{InFile, AtLink, Value}, Acts.{Act, Nothing, PutBytes, PutLink, AddEntries, Drop, act_of, change, list_of, acts}}
use Rattle.cacache_history.specs.{Setup.{Setup}, Commits.{Deed, does, finds, deeds_of_act, finds_in, deeds}}
use Rattle.cacache_laws.specs.{Sequence.{SequenceCall, AreMade, planted_log, tree_on, AreAnswered, turns_on, plain_moves, Alike, after_deeds}, Caches.{Called, Grows, GrowthsJoin, ExcusesLast}}
use Rattle.cacache_entry.specs.Entry.{Entry}
use Rattle.cacache_store.specs.declared.store.step.Step.TheVariants as steps
use Rattle.cacache_store.specs.declared.store.answer.Answer.TheVariants as answers

pub replay_more : (t : Tree) (log more : List LogItem) → replay t (log ++ more) ≡ replay (replay t log) more
replay_more t [] more = refl
replay_more t (item ∷ log) more = replay_more (after t item) log more

pub replayable_rest : (t : Tree) (log more : List LogItem) → IsReplayable t (log ++ more) → IsReplayable (replay t log) more
replayable_rest t [] more h = h
replayable_rest t (item ∷ log) more h = replayable_rest (after t item) log more h.1

-- ---- moves

pub moves_lead : (t : Tree) (moves : Moves) → replay t (map (λ m. Made m.0 m.1) moves) ≡ tree_on t moves
moves_lead t [] = refl
moves_lead t (m ∷ moves) = moves_lead (apply t m.0 Plain).1 moves

pub moves_answered : (t : Tree) (moves : Moves) (more : List LogItem) → IsReplayable t (map (λ m. Made m.0 m.1) moves ++ more) → AreAnswered t moves
moves_answered t [] more h = tt
moves_answered t (m ∷ moves) more h = (h.0, moves_answered (apply t m.0 Plain).1 moves more h.1)

-- ---- files

-- a file that was planted without a fault
pub planted_so : (t : Tree) (r : Result Tree Fault) → result_err r ≡ None → r ≡ Ok (changed t r)
planted_so t r e = grind (arith, common_steps)

pub files_lead : (t : Tree) (files : List (List ℕ × List ℕ)) (more : List LogItem) → IsReplayable t (planted_log files ++ more) → with_files t files ≡ Ok (replay t (planted_log files))
files_lead t [] more h = refl
files_lead t (file ∷ files) more h =
    ap (λ r. and_then r (λ new. with_files new files)) (planted_so t (planted t file.0 file.1) h.0)
    ∙ files_lead (changed t (planted t file.0 file.1)) files more h.1

-- ---- calls

-- what the log gains by calls comes after what was there
pub record Longer (old new : List LogItem) : Type 0 where
  pub more : List LogItem
  pub is : new ≡ old ++ more

pub calls_lengthen : (s : Setup) (old : List LogItem) (calls : List SequenceCall) (new : List LogItem) → AreMade s old calls new → Longer old new
calls_lengthen s old [] new made = record { more = []; is = made ∙ sym (append-nil old) }
calls_lengthen s old (call ∷ calls) new made =
    let rest = calls_lengthen s made.0 calls new made.2 in
    let moves = map (λ m. Made m.0 m.1) call.moves in
    record { more = moves ++ rest.more; is = rest.is ∙ ap (λ log. log ++ rest.more) made.1.gained ∙ append_assoc old moves rest.more }

-- ---- how a log grows by calls, one part after another

pub some_same : (a b : List LogItem) → Some a ≡ Some b → a ≡ b
some_same a b e = cc

-- a call makes the log grow
pub calls_grow : (cache : List ℕ) (command : Command) (r : Reply) (old new : List LogItem) → Called cache command r old new → Grows old new
calls_grow cache command r old new c = (c.ran.0, some_same new (old ++ map (λ m. Made m.0 m.1) c.ran.0) c.ran.2)

pub joined : (old mid new : List LogItem) (xs ys : Moves) → mid ≡ old ++ map (λ m. Made m.0 m.1) xs → new ≡ mid ++ map (λ m. Made m.0 m.1) ys
    → new ≡ old ++ map (λ m. Made m.0 m.1) (xs ++ ys)
joined old mid new xs ys e f =
    f ∙ ap (λ l. l ++ map (λ m. Made m.0 m.1) ys) e ∙ append_assoc old (map (λ m. Made m.0 m.1) xs) (map (λ m. Made m.0 m.1) ys)
    ∙ ap (λ l. old ++ l) (sym (map-append (λ m. Made m.0 m.1) xs ys))

pub growths_join : GrowthsJoin
growths_join old mid new g h = (g.0 ++ h.0, joined old mid new g.0 h.0 g.1 h.1)

faulted_later : (xs ys : Moves) (fault : Fault) → Faulted ys fault → Faulted (xs ++ ys) fault
faulted_later [] ys fault h = h
faulted_later (m ∷ xs) ys fault h = inr (faulted_later xs ys fault h)

pub excuses_last : ExcusesLast
excuses_last e old mid new g (inl m) = inl m
excuses_last e old mid new g (inr h) = inr (g.0 ++ h.0, joined old mid new g.0 h.0 g.1 h.1, h.2, faulted_later g.0 h.0 h.2 h.3)

-- ---- one act

added : (b : Bool) (o p : Option (List Entry)) (new : List Entry) → list_of o ≡ list_of p
    → list_of (cond b (Some (list_of o ++ new)) o) ≡ list_of (cond b (Some (list_of p ++ new)) p)
added b o p new e = grind (arith, common_steps)

dropped : (b : Bool) (o p : Option (List Entry)) → list_of o ≡ list_of p → list_of (cond b None o) ≡ list_of (cond b None p)
dropped b o p e = grind (arith, common_steps)

none_added : (b : Bool) (o : Option (List Entry)) → list_of (cond b (Some (list_of o ++ [])) o) ≡ list_of o
none_added b o = grind (arith, common_steps)

module _ (folder : Option Names) where
  pub change_alike : (act : Act) (v w : Value) → Alike v w → Alike (change folder act v) (change folder act w)
  change_alike act v w h = grind (arith, added, dropped)

  -- an act, and its deeds
  act_alike : (act : Act) (v w : Value) → Alike v w → Alike (change folder act v) (after_deeds folder (deeds_of_act act) w)
  act_alike act v w h = grind (arith, change_alike, none_added)

  -- ---- one after another

  after_more : (ds more : List Deed) (w : Value) → after_deeds folder (ds ++ more) w ≡ after_deeds folder more (after_deeds folder ds w)
  after_more [] more w = refl
  after_more (does act ∷ ds) more w = after_more ds more (change folder act w)
  after_more (finds path ∷ ds) more w = after_more ds more w

  after_finds : (step : PlainStep) (answer : PlainAnswer) (w : Value) → after_deeds folder (finds_in step answer) w ≡ w
  after_finds step answer w = grind (arith, common_steps)

  pub moves_alike : (t : Tree) (moves : Moves) (v w : Value) → Alike v w
      → Alike (acts folder v (plain_moves moves)) (after_deeds folder (deeds (turns_on t moves)) w)
  moves_alike t [] v w h = h
  moves_alike t (m ∷ moves) v w h =
      let act = act_of m.0 Plain m.1 in
      let here = deeds_of_act (act_of m.0 Plain m.1) in
      let found = finds_in m.0 m.1 in
      let rest = deeds (turns_on (apply t m.0 Plain).1 moves) in
      let one : after_deeds folder (here ++ found) w ≡ after_deeds folder here w = after_more here found w ∙ after_finds m.0 m.1 (after_deeds folder here w) in
      subst (Alike (acts folder (change folder act v) (plain_moves moves))) (sym (after_more (here ++ found) rest w))
      (moves_alike (apply t m.0 Plain).1 moves (change folder act v) (after_deeds folder (here ++ found) w)
      (subst (Alike (change folder act v)) (sym one) (act_alike act v w h)))

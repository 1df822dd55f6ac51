-- Calls that only look leave the tree, and a lookup finds the entry that was added last.
use Rattle.std.proofs.{Common.{rules, ◌≡◌, ℕ, cond, List, [], ◌∷◌, ◌++◌, Option, None, Some, refl, ap, ◌∙◌, arith, sym, subst, true, append_assoc}, lemmas.{Slice.Eq.{bytes_eq-Decides}, Grind.{common_steps}}}
use Rattle.std.specs.Prelude.{bytes_eq, map}
use Rattle.cacache_entry.{specs.{Entry.{Entry}, Bucket.{Found, answer_of, latest}}, proofs.Lookups.{last_answer_decides}}
use Rattle.cacache_store.specs.{declared.store.log.LogItem.{LogItem, TheVariants.{Made}}, Plain.{PlainStep, PlainAnswer}}
use Rattle.cacache_laws.specs.{Caches.{Called}, Looks.{OnlyLooks, HoldsSame}, Sequence.{tree_on, turns_on, AreAnswered, IsSound, plain_moves}}
use Rattle.cacache_laws.proofs.{Readings.ReadAnswers.{reading_keeps, listing_keeps, asking_keeps, opening_keeps, piece_keeps, sizing_keeps}, Calls.Replays.{some_same, replay_more, moves_lead}}
use Rattle.cacache_calls.specs.{declared.{command.Command.{Command}, reply.Reply.{Reply}}, Runs.{Moves, Runs}, State.{State, Site}, Table.{after}, Licence.{May, allows, looking_on, AllMay}, Steps.{content_path}}
use Rattle.cacache_calls.proofs.Within.{calls_keep_to}
use Rattle.cacache_core.specs.{Paths.{Names, home_of}, declared.integrity.digest.Hash.{Hash}, Integrity.{IsHash}}
use Rattle.cacache_disk.specs.{declared.luck.Luck.TheVariants.{Plain}, Tree.{Tree, bare}, Apply.{apply}, Replay.{replay, tree_of}}
use Rattle.cacache_value.specs.{Value.{value_of_tree, Value, wide_value}, Acts.{Act, PutBytes, PutLink, AddEntries, Drop, act_of, change, IsTrace}, Placed.{Placed}}
use Rattle.cacache_value.proofs.Traces.{steps_act, steps_keep_placed}
use Rattle.cacache_history.specs.{Setup.{Setup, home}, Turns.{EachTurn}, History.{turn_of}, Commits.{Deed, finds, deeds_of_act, finds_in, deeds}, Values.{IsThere}}
use Rattle.cacache_history.proofs.{Histories.{Holding.{TurnsHold, TurnHolds}, ShownTurns.{there_at}}, Entries.AddedEntries.{blob_is}}
use Rattle.cacache_store.specs.declared.store.step.Step.TheVariants as steps
use Rattle.cacache_store.specs.declared.store.answer.Answer.TheVariants as answers

same_key : (key : List ℕ) (x : Option (Option Found)) → cond (bytes_eq key key) x None ≡ x
same_key key x = ap (λ b. cond b x None) ((bytes_eq-Decides key key).1 refl)

pub finds_last : (key : List ℕ) (e : Entry) (found : Option Found) (before entries : List Entry) → e.key ≡ key → answer_of e e.integrity ≡ Some found → entries ≡ before ++ e ∷ []
    → latest key entries ≡ found
finds_last key e found before entries mine is all = search (rules, last_answer_decides, same_key)

-- ---- steps that leave the tree

step_leaves : (t : Tree) (step : PlainStep) → May (allows looking_on step) → (apply t step Plain).1 ≡ t
step_leaves t step may = grind (arith, reading_keeps, opening_keeps, piece_keeps, asking_keeps, sizing_keeps, listing_keeps)

-- ---- moves

pub moves_keep : (t : Tree) (moves : Moves) → AllMay looking_on moves → tree_on t moves ≡ t
moves_keep t [] may = refl
moves_keep t (m ∷ moves) may = ap (λ x. tree_on x moves) (step_leaves t m.0 may.0) ∙ moves_keep t moves may.1

-- their turns find that tree
pub moves_place : (t first : Tree) (moves : Moves) → first ≡ t → AllMay looking_on moves → EachTurn (λ turn. turn.place ≡ t) (turns_on first moves)
moves_place t first [] here may = tt
moves_place t first (m ∷ moves) here may = (here, moves_place t (apply first m.0 Plain).1 moves (step_leaves first m.0 may.0 ∙ here) may.1)

pub run_turns : (x : Setup) (t : Tree) (s : State) (moves : Moves) (r : Reply) → IsSound (home x) t → AllMay looking_on moves → Runs s moves r → AreAnswered t moves → TurnsHold x (turns_on t moves)
run_turns x t s [] r sound may run answered = tt
run_turns x t s (m ∷ moves) r sound may run answered = (
  record { placed = sound.placed; rooted = sound.rooted; formed = sound.formed; answered = answered.0; fits = run.1 },
  run_turns x (apply t m.0 Plain).1 (after s m.1) moves r (subst (IsSound (home x)) (sym (step_leaves t m.0 may.0)) sound) may.1 run.2 answered.1,
)

-- a call that only looks leaves the whole tree: other caches too, and files apart from them
pub tree_stays : (cache : List ℕ) (command : Command) (r : Reply) (old new : List LogItem) → OnlyLooks command
    → Called cache command r old new → tree_of new ≡ tree_of old
unfolding tree_of
tree_stays cache command r old new looks c =
    let site : Site = record { cache = cache; base = c.base; number = c.number } in
    ap (replay bare) (some_same new (old ++ map (λ m. Made m.0 m.1) c.ran.0) c.ran.2)
    ∙ replay_more bare old (map (λ m. Made m.0 m.1) c.ran.0)
    ∙ moves_lead (replay bare old) c.ran.0
    ∙ moves_keep (replay bare old) c.ran.0 (calls_keep_to looking_on site command c.ran.0 r looks c.ran.1)

-- so it leaves what the cache holds
pub looks_keep : (cache : List ℕ) (command : Command) (r : Reply) (old new : List LogItem) → OnlyLooks command
    → Called cache command r old new → HoldsSame cache old new
looks_keep cache command r old new looks c = ap (value_of_tree (home_of cache)) (tree_stays cache command r old new looks c)

-- an act whose deeds aren't first leaves contents
pub no_deeds : (home : Option Names) (path : List ℕ) (more : List Deed) (act : Act) (rest : List Deed) → deeds_of_act act ++ rest ≡ finds path ∷ more
    → (rest ≡ finds path ∷ more) × ((v : Value) (a : Hash) → (change home act v).contents a ≡ v.contents a)
no_deeds home path more act rest e = grind (arith, common_steps)

module _ (s : Setup) (a : Hash) (is : IsHash a) (more : List Deed) where
  -- a question that is answered yes, or otherwise what comes later
  asked : (t : Tree) (step : PlainStep) (answer : PlainAnswer) (rest : List Deed) → finds_in step answer ++ rest ≡ finds (content_path s.cache (a ∷ [])) ∷ more
      → TurnHolds s (turn_of t Plain (step, answer))
      → (rest ≡ finds (content_path s.cache (a ∷ [])) ∷ more → IsThere ((value_of_tree (home s) t).contents a))
      → IsThere ((value_of_tree (home s) t).contents a)
  asked t (steps.Exists p) (answers.There true) rest e holds later =
      let same : p ≡ content_path s.cache (a ∷ []) = cc in
      let seen = there_at s (turn_of t Plain (steps.Exists p, answers.There true)) holds a [] is (ap steps.Exists same) in
      blob_is t ((value_of_tree (home s) t).contents a) (sym seen)
  asked t step answer rest e holds later = later e

  pub found_before : (t : Tree) (moves : Moves) → Placed (home s) t → IsTrace (home s) t (plain_moves moves) → TurnsHold s (turns_on t moves)
      → deeds (turns_on t moves) ≡ finds (content_path s.cache (a ∷ [])) ∷ more → IsThere ((value_of_tree (home s) t).contents a)
  found_before t [] placed trace hold e = absurd cc
  found_before t (m ∷ moves) placed trace hold e =
      let rest = deeds (turns_on (apply t m.0 Plain).1 moves) in
      let whole : deeds_of_act (act_of m.0 Plain m.1) ++ (finds_in m.0 m.1 ++ deeds (turns_on (apply t m.0 Plain).1 moves)) ≡ finds (content_path s.cache (a ∷ [])) ∷ more
      = sym (append_assoc (deeds_of_act (act_of m.0 Plain m.1)) (finds_in m.0 m.1) (deeds (turns_on (apply t m.0 Plain).1 moves))) ∙ e in
      let n = no_deeds (home s) (content_path s.cache (a ∷ [])) more (act_of m.0 Plain m.1) (finds_in m.0 m.1 ++ rest) whole in
      let same : (wide_value (home s) (apply t m.0 Plain).1).contents a ≡ (wide_value (home s) t).contents a
      = ap (λ (v : Value). v.contents a) (steps_act (home s) t m.0 Plain placed trace.0)
      ∙ ap (λ x. (change (home s) (act_of m.0 Plain x) (wide_value (home s) t)).contents a) (sym trace.1) ∙ n.1 (wide_value (home s) t) a in
      asked t m.0 m.1 rest n.0 hold.0
      (λ later. subst IsThere same (found_before (apply t m.0 Plain).1 moves (steps_keep_placed (home s) t m.0 Plain placed trace.0) trace.2 hold.1 later))

-- A temporary file stays as long as calls don't move it and remove nothing.
use Rattle.std.proofs.{Common.{arith, rules, ◌≡◌, ℕ, Bool, true, false, List, [], ◌∷◌, ◌++◌, Option, None, Some, Result, Ok, Err, refl, sym, ap, subst, ◌∙◌}, lemmas.Grind.{common_steps}}
use Rattle.std.specs.List.{AllByRecursion}
use Rattle.cacache_core.specs.{declared.errors.Fault.{Fault}, Paths.{Names, names_of, home_of, names_below, temp_names}}
use Rattle.cacache_core.specs.declared.errors.Fault.TheVariants as faults
use Rattle.cacache_store.specs.{declared.store.log.LogItem.{LogItem}, Plain.{PlainStep, PlainAnswer}}
use Rattle.cacache_store.specs.declared.store.step.Step.TheVariants as steps
use Rattle.cacache_disk.specs.{declared.{luck.Luck.TheVariants.{Plain}, node.Node.{Node, TheVariants.{File}}}, Tree.{Tree, look}, Apply.{apply}, Replay.{tree_of}}
use Rattle.cacache_calls.specs.{declared.{command.Command.{Command}, reply.Reply.{Reply}}, Licence.{AllMay, Licence, May, allows}, Runs.{Moves, Runs}, Sound.{Allowed, MayBegin, Sound}, State.{Site, State}, Steps.{temp_path}, Table.{after, opening}}
use Rattle.cacache_calls.proofs.{Sound.{begins_sound, stays_sound, steps_allowed}, Within.{calls_keep_to}}
use Rattle.cacache_calls.specs.declared.command.Command.TheVariants as commands
use Rattle.cacache_value.specs.{Kinds.{Temporary, path_kind}, Placed.{Placed, Proper}, Acts.{IsTrace}}
use Rattle.cacache_value.proofs.{PathKinds.{kind-below}, Temps.{Takes, as_was, came, temp_at, went}, Traces.{steps_keep_placed}}
use Rattle.cacache_history.{specs.{History.{NamesIntegrity}, Setup.{call_site, is_outside, may_export}}, proofs.durable.CallNumbers.{temps_named, same_number}}
use Rattle.cacache_laws.specs.{Caches.{Called, IsCache, setup_at}, OpenSucceeds.{FileAt, OthersKeepFiles, PutsKeepFiles, without_takings}, Sequence.{plain_moves, tree_on}}
use Rattle.cacache_laws.proofs.{Calls.InParts.{logs_lead}, Spares.Unused.{calls_trace, own_file}}

-- ---- steps

-- none of the moves does
abbrev NoneTakes : Names → Moves → Type 0
NoneTakes q = AllByRecursion (λ (m : PlainStep × PlainAnswer). Takes q m.0 → ⊥)

module _ (home : Option Names) (q : Names) (temporary : path_kind home q ≡ Temporary) (node : Node) where
  -- it is there
  abbrev Stays : Tree → Type 0
  Stays x = look x q ≡ Some node

  step_stays : (t : Tree) (step : PlainStep) → Placed home t → Proper home step → (Takes q step → ⊥) → Stays t → Stays (apply t step Plain).1
  step_stays t step placed proper never e = search (rules, temp_at, as_was, came, went)

  moves_stay : (t : Tree) (moves : Moves) → Placed home t → IsTrace home t (plain_moves moves) → NoneTakes q moves → Stays t → Stays (tree_on t moves)
  moves_stay t [] placed trace never e = e
  moves_stay t (m ∷ moves) placed trace never e =
      moves_stay (apply t m.0 Plain).1 moves (steps_keep_placed home t m.0 Plain placed trace.0) trace.2 never.1 (step_stays t m.0 placed trace.0 never.0 e)

-- ---- calls

-- if none of a call's moves takes it away, the file of this number stays
call_keeps : (cache : List ℕ) (command : Command) (r : Reply) (old new : List LogItem) (c : Called cache command r old new) (number : ℕ)
    → MayBegin (call_site (setup_at cache c.base) c.number) (may_export (setup_at cache c.base)) (is_outside (setup_at cache c.base)) command → NamesIntegrity command → IsCache cache old
    → ((folder : Names) → home_of cache ≡ Some folder → NoneTakes (folder ++ temp_names number) c.ran.0) → FileAt (temp_path cache number) old → FileAt (temp_path cache number) new
call_keeps cache command r old new c number may named sound never file = at (home_of cache) refl
  where
    at : (home : Option Names) → home_of cache ≡ home → FileAt (temp_path cache number) new
    at None e =
        let both : Ok file.0 ≡ Err faults.InvalidInput = sym file.2 ∙ temps_named cache number ∙ ap (λ h. names_below h (temp_names number)) e in absurd cc
    at (Some folder) e =
        let both : ◌≡◌ {A = Result Names Fault} (Ok file.0) (Ok (folder ++ temp_names number)) = sym file.2 ∙ temps_named cache number ∙ ap (λ h. names_below h (temp_names number)) e in
        let same : file.0 ≡ folder ++ temp_names number = cc in
        let kind = subst (λ h. path_kind h (folder ++ temp_names number) ≡ Temporary) (sym e) (kind-below folder (temp_names number)) in
        let stays = moves_stay (home_of cache) (folder ++ temp_names number) kind (File file.1) (tree_of old) c.ran.0 sound.placed (calls_trace cache command r old new c may named sound) (never folder e)
        (ap (look (tree_of old)) (sym same) ∙ file.3) in
        (folder ++ temp_names number, file.1, file.2 ∙ ap Ok same, ap (λ t. look t (folder ++ temp_names number)) (logs_lead old new c.ran.0 c.ran.2 c.logged).1 ∙ stays)

not_taken : (q : Names) (step : PlainStep) → May (allows without_takings step) → Takes q step → ⊥
not_taken q step may e = grind (arith, common_steps)

none_taken : (q : Names) (moves : Moves) → AllMay without_takings moves → NoneTakes q moves
none_taken q [] may = tt
none_taken q (m ∷ moves) may = (not_taken q m.0 may.0, none_taken q moves may.1)

pub others_keep_files : OthersKeepFiles
others_keep_files cache command r old new c number may named keeps sound file =
    let site : Site = record { cache = cache; base = c.base; number = c.number } in
    call_keeps cache command r old new c number may named sound
    (λ folder is. none_taken (folder ++ temp_names number) c.ran.0 (calls_keep_to without_takings site command c.ran.0 r keeps c.ran.1)) file

-- what a put may do
abbrev of_put : Licence
of_put = record { prepares = true; commits = true; links = true; inserts = true; lists = true; exports = true; removes = false }

module _ (site : Site) (apart outside : List ℕ → Bool) (q : Names) (differ : names_of (temp_path site.cache site.number) ≡ Ok q → ⊥) where
  not_own : (step : PlainStep) → Allowed site apart outside step → May (allows of_put step) → Takes q step → ⊥
  not_own step allowed may e = grind (arith, common_steps)

  none_own : (s : State) (moves : Moves) (r : Reply) → Sound site apart outside s → Runs s moves r → AllMay of_put moves → NoneTakes q moves
  none_own s [] r sound run may = tt
  none_own s (m ∷ moves) r sound run may = (
    not_own m.0 (steps_allowed site apart outside s m.0 sound run.0) may.0,
    none_own (after s m.1) moves r (stays_sound site apart outside s m.0 m.1 sound run.0 run.1) run.2 may.1,
  )

pub puts_keep_files : PutsKeepFiles
puts_keep_files cache p r old new c number may sound few less differ file =
    let site : Site = record { cache = cache; base = c.base; number = c.number } in
    let apart = may_export (setup_at cache c.base) in
    let outside = is_outside (setup_at cache c.base) in
    call_keeps cache (commands.Put p) r old new c number may tt sound
    (λ folder is.
    none_own site apart outside (folder ++ temp_names number) (λ e. differ (sym (same_number cache folder c.number number less few (own_file cache folder c.number number is e)))) (opening site (commands.Put p)) c.ran.0 r
    (begins_sound site apart outside (commands.Put p) may) c.ran.1 (calls_keep_to of_put site (commands.Put p) c.ran.0 r tt c.ran.1))
    file

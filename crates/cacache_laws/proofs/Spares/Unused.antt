-- Which temporary files calls leave.
-- The removal of a temporary file leaves what the cache holds.
use Rattle.std.proofs.{Common.{arith, rules, ◌≡◌, inl, inr, ℕ, Bool, true, false, List, [], ◌∷◌, ◌++◌, Option, None, Some, Result, Ok, refl, sym, ap, subst, ◌∙◌, Err, append-nil}, lemmas.{Grind.{common_steps}, List.{append_cancel_left}, Bool.{cond-false}}}
use Rattle.std.specs.Prelude.{IfOk}
use Rattle.cacache_disk.specs.{Replay.{IsLog, tree_of}, Tree.{Tree, bare, same_path}, declared.luck.Luck.TheVariants.{Plain}, Apply.{apply}}
use Rattle.cacache_disk.proofs.{Maps.{same_path-true}, Roots.{bare_below, same_self}, KeptFolders.{steps_keep_rooted}}
use Rattle.cacache_laws.specs.{OpenWriters.{GivesUpTemp, drop_temp, LeavesKnownCache}, Beside.{FitsEntry}, Caches.{IsCache, Called, setup_at}, Sequence.{tree_on, plain_moves, Alike, IsSound, after_deeds, turns_on}, Succeeds.{IsUnused, IsTidy, StaysUnused, without_commits, OthersLeaveNone, PutsLeaveOwn, PutsLeaveTidy, IsReady, FreshIsReady, SameIsReady}}
use Rattle.cacache_laws.proofs.{Calls.{InParts.{logs_lead}, Sequence.{run_holds, holds_alone, keeps_alone, moves_after, moves_follow}, Replays.{some_same}}, Readings.{Standing.{caches_stand}, GivenReads.{same_stays_known}}, Sure.{Succeeds.{puts_answer}, SureSpares.{Creates, NoneCreates, moves_spare}}, Putting.{Deeds.{stays_known}, OpenWriters.{gains_grow}}}
use Rattle.cacache_core.specs.{declared.errors.Fault.{Fault}, Paths.{Names, names_of, home_of, names_below, temp_names, content_names, bucket_names_of}}
use Rattle.cacache_store.specs.{declared.store.log.LogItem.{LogItem}, Plain.{PlainStep, PlainAnswer}}
use Rattle.cacache_calls.specs.{declared.{command.{Command.{Command}, Put.{Put}}, reply.Reply.{Reply}}, Licence.{May, allows, AllMay}, Runs.{Moves, Runs}, Sound.{MayBegin, Sound, Allowed}, State.{State, Site}, Steps.{temp_path}, Table.{opening, after}}
use Rattle.cacache_calls.proofs.{Sound.{begins_sound, steps_allowed, stays_sound}, Within.{calls_keep_to}}
use Rattle.cacache_value.specs.{Kinds.{node_below, Content, Bucket, Temporary, IsFor, is_path_of, path_kind}, Placed.{Placed}, Acts.{IsTrace, Act, Drop, act_at, act_if_done, list_of}, Value.{Value, value_of_tree}}
use Rattle.cacache_value.proofs.{PathKinds.{kind-below, unseen, paths_are_for}, Traces.{steps_keep_placed, traces_act}}
use Rattle.cacache_history.specs.{Setup.{call_site, may_export, is_outside}, History.{NamesIntegrity, new_call}, Commits.{deeds, deeds_of_act}}
use Rattle.cacache_history.proofs.{Histories.Holding.{begins_hold}, durable.CallNumbers.{temps_named, same_number}, Entries.{Spelled.{step_formed}, Bucketed.{step_keyed}, Owned.{step_own}}, Contents.Righted.{stays_right}}
use Rattle.cacache_store.specs.declared.store.step.Step.TheVariants as steps
use Rattle.cacache_calls.specs.declared.command.Command.TheVariants as commands
use Rattle.cacache_store.specs.declared.store.answer.Answer.TheVariants as answers

-- ---- moves of a call

-- the steps of a call are proper ones, on the tree of the log
pub calls_trace : (cache : List ℕ) (command : Command) (r : Reply) (old new : List LogItem) (c : Called cache command r old new)
    → MayBegin (call_site (setup_at cache c.base) c.number) (may_export (setup_at cache c.base)) (is_outside (setup_at cache c.base)) command → NamesIntegrity command → IsCache cache old
    → IsTrace (home_of cache) (tree_of old) (plain_moves c.ran.0)
calls_trace cache command r old new c may named sound =
    let s = setup_at cache c.base in
    let run = subst (λ x. Runs (opening (call_site (setup_at cache c.base) c.number) command) c.ran.0 x) (sym c.plain) c.ran.1 in
    (run_holds s tt (tree_of old) c.ran.0 r (new_call s c.number command) (holds_alone s (tree_of old) sound) (keeps_alone s (tree_of old) sound) (begins_hold s c.number command may named) run
    (logs_lead old new c.ran.0 c.ran.2 c.logged).0).trace

-- if none of the moves makes the file, it stays unused
stays_none : (home : Option Names) (number : ℕ) (t : Tree) (moves : Moves) → Placed home t → IsTrace home t (plain_moves moves)
    → ((folder : Names) → home ≡ Some folder → NoneCreates (folder ++ temp_names number) moves) → node_below home t (temp_names number) ≡ None → node_below home (tree_on t moves) (temp_names number) ≡ None
stays_none None number t moves placed trace never e = refl
stays_none (Some folder) number t moves placed trace never e = search (rules, moves_spare, kind-below)

-- the same of a call
call_leaves : (cache : List ℕ) (command : Command) (r : Reply) (old new : List LogItem) (c : Called cache command r old new) (number : ℕ)
    → MayBegin (call_site (setup_at cache c.base) c.number) (may_export (setup_at cache c.base)) (is_outside (setup_at cache c.base)) command → NamesIntegrity command → IsCache cache old
    → ((folder : Names) → home_of cache ≡ Some folder → NoneCreates (folder ++ temp_names number) c.ran.0) → IsUnused cache number old → IsUnused cache number new
call_leaves cache command r old new c number may named sound never unused =
    subst (λ t. node_below (home_of cache) t (temp_names number) ≡ None) (sym (logs_lead old new c.ran.0 c.ran.2 c.logged).1)
    (stays_none (home_of cache) number (tree_of old) c.ran.0 sound.placed (calls_trace cache command r old new c may named sound) never unused)

-- ---- calls that make no temporary file

not_made : (q : Names) (step : PlainStep) → May (allows without_commits step) → Creates q step → ⊥
not_made q step may e = grind (arith, common_steps)

none_made : (q : Names) (moves : Moves) → AllMay without_commits moves → NoneCreates q moves
none_made q [] may = tt
none_made q (m ∷ moves) may = (not_made q m.0 may.0, none_made q moves may.1)

pub others_leave_none : OthersLeaveNone
others_leave_none cache command r old new c may named keeps sound number unused =
    let site : Site = record { cache = cache; base = c.base; number = c.number } in
    call_leaves cache command r old new c number may named sound
    (λ folder is. none_made (folder ++ temp_names number) c.ran.0 (calls_keep_to without_commits site command c.ran.0 r keeps c.ran.1)) unused

-- ---- puts

module _ (site : Site) (apart outside : List ℕ → Bool) (q : Names) (differ : names_of (temp_path site.cache site.number) ≡ Ok q → ⊥) where
  other_file : (step : PlainStep) → Allowed site apart outside step → Creates q step → ⊥
  other_file step allowed e = grind (arith, common_steps)

  other_files : (s : State) (moves : Moves) (r : Reply) → Sound site apart outside s → Runs s moves r → NoneCreates q moves
  other_files s [] r sound run = tt
  other_files s (m ∷ moves) r sound run = (
    other_file m.0 (steps_allowed site apart outside s m.0 sound run.0),
    other_files (after s m.1) moves r (stays_sound site apart outside s m.0 m.1 sound run.0 run.1) run.2,
  )

-- a put's file is that of its number
pub own_file : (cache : List ℕ) (folder : Names) (n m : ℕ) → home_of cache ≡ Some folder → names_of (temp_path cache n) ≡ Ok (folder ++ temp_names m) → folder ++ temp_names n ≡ folder ++ temp_names m
own_file cache folder n m is e =
    let both : ◌≡◌ {A = Result Names Fault} (Ok (folder ++ temp_names n)) (Ok (folder ++ temp_names m)) = sym (temps_named cache n ∙ ap (λ h. names_below h (temp_names n)) is) ∙ e in
    cc

-- a put makes no other file
put_leaves : (cache : List ℕ) (p : Put) (r : Reply) (old new : List LogItem) (c : Called cache (commands.Put p) r old new) (number : ℕ)
    → MayBegin (call_site (setup_at cache c.base) c.number) (may_export (setup_at cache c.base)) (is_outside (setup_at cache c.base)) (commands.Put p) → IsCache cache old
    → ((folder : Names) → folder ++ temp_names c.number ≡ folder ++ temp_names number → ⊥) → IsUnused cache number old → IsUnused cache number new
put_leaves cache p r old new c number may sound differ unused =
    let site : Site = record { cache = cache; base = c.base; number = c.number } in
    let apart = may_export (setup_at cache c.base) in
    let outside = is_outside (setup_at cache c.base) in
    call_leaves cache (commands.Put p) r old new c number may tt sound
    (λ folder is.
    other_files site apart outside (folder ++ temp_names number) (λ e. differ folder (own_file cache folder c.number number is e)) (opening site (commands.Put p)) c.ran.0 r
    (begins_sound site apart outside (commands.Put p) may) c.ran.1)
    unused

pub puts_leave_own : PutsLeaveOwn
puts_leave_own cache p r old new c number may sound few less differ unused =
    put_leaves cache p r old new c number may sound (λ folder e. differ (sym (same_number cache folder c.number number less few e))) unused

-- a number that names the put's own file, or another one
by_file : (cache : List ℕ) (p : Put) (r : Reply) (old new : List LogItem) (c : Called cache (commands.Put p) r old new) (number : ℕ) → FitsEntry cache p → IsCache cache old
    → IsUnused cache c.number new → (b : Bool) → same_path (temp_names number) (temp_names c.number) ≡ b → IsUnused cache number old → IsUnused cache number new
by_file cache p r old new c number fits sound own true e unused = search (rules, same_path-true)
by_file cache p r old new c number fits sound own false e unused =
    put_leaves cache p r old new c number fits sound
    (λ folder s.
    let same = append_cancel_left folder (temp_names c.number) (temp_names number) s in
    let other : true ≡ false = sym (same_self (temp_names number)) ∙ ap (same_path (temp_names number)) (sym same) ∙ e in absurd cc)
    unused

pub puts_leave_tidy : PutsLeaveTidy
puts_leave_tidy cache p r old new c folder fits sound tidy =
    elim (puts_answer cache p r old new c folder (caches_stand cache old sound) (tidy c.number)) [
      | inl e ↦ inl e
      | inr h ↦ inr (λ number. by_file cache p r old new c number fits sound h.1 (same_path (temp_names number) (temp_names c.number)) refl (tidy number))
    ]

-- ---- a new store

nowhere : (home : Option Names) (number : ℕ) → node_below home bare (temp_names number) ≡ None
nowhere home number = grind (arith, bare_below)

fresh_is_tidy : (cache : List ℕ) → IsTidy cache []
unfolding tree_of
fresh_is_tidy cache number = nowhere (home_of cache) number

pub fresh_is_ready : FreshIsReady
fresh_is_ready cache folder = record { folder = folder; tidy = fresh_is_tidy cache }

pub same_is_ready : SameIsReady
same_is_ready cache old new same ready = search rules

-- a call that makes no temporary file leaves a cache that is ready so
pub stays_ready : (cache : List ℕ) (old new : List LogItem) → StaysUnused cache old new → IsReady cache old → IsReady cache new
stays_ready cache old new stays ready = record { folder = ready.folder; tidy = λ number. stays number (ready.tidy number) }

-- ---- what a removal does

module _ (home : Option Names) where
  -- at the path of a temporary file there is neither a content nor a bucket
  drop_alike : (r : Result Names Fault) (v : Value) → IfOk r (λ names. path_kind home names ≡ Temporary) → Alike (after_deeds home (deeds_of_act (act_at r Drop) ++ []) v) v
  drop_alike r v is = grind (arith, unseen)

  done_alike : (a : PlainAnswer) (act : Act) (v : Value) → Alike (after_deeds home (deeds_of_act act ++ []) v) v → Alike (after_deeds home (deeds_of_act (act_if_done a act) ++ []) v) v
  done_alike a act v h = grind (arith, common_steps)

module _ (cache path : List ℕ) (t : Tree) (sound : IsSound (home_of cache) t) where
  -- the tree after it is sound
  pub still_sound : IsSound (home_of cache) (apply t (steps.RemoveFile path) Plain).1
  still_sound = record {
    placed = steps_keep_placed (home_of cache) t (steps.RemoveFile path) Plain sound.placed tt;
    rooted = steps_keep_rooted t (steps.RemoveFile path) Plain sound.rooted;
    formed = step_formed (home_of cache) t (steps.RemoveFile path) Plain sound.placed tt sound.formed;
    right = stays_right (setup_at cache []) 0 commands.Clear t (steps.RemoveFile path) Plain sound.placed tt tt sound.right;
    keyed = step_keyed (home_of cache) t sound.placed sound.keyed (steps.RemoveFile path) Plain tt tt;
    own = step_own (home_of cache) t (steps.RemoveFile path) Plain sound.placed tt tt sound.own;
  }

-- what it holds stays, whatever its contents and buckets are
module _ (cache path : List ℕ) (t : Tree) (placed : Placed (home_of cache) t) where
  pub still_alike : (a : PlainAnswer) → IsFor (home_of cache) Temporary path → a ≡ (apply t (steps.RemoveFile path) Plain).0
      → Alike (value_of_tree (home_of cache) (apply t (steps.RemoveFile path) Plain).1) (value_of_tree (home_of cache) t)
  still_alike a is answered =
      let moves : Moves = (steps.RemoveFile path, a) ∷ [] in
      let v = value_of_tree (home_of cache) t in
      let acts = ap (value_of_tree (home_of cache)) (sym (moves_after t moves)) ∙ traces_act (home_of cache) t (plain_moves moves) placed (tt, answered, tt) in
      let follows = moves_follow (setup_at cache []) tt t moves acts in
      let same : deeds (turns_on t moves) ≡ deeds_of_act (act_if_done a (act_at (names_of path) Drop)) ++ []
      = ap (λ l. l ++ []) (append-nil (deeds_of_act (act_if_done a (act_at (names_of path) Drop)))) in
      let none : Alike (after_deeds (home_of cache) (deeds (turns_on t moves)) v) v
      = subst (λ ds. Alike (after_deeds (home_of cache) ds v) v) (sym same) (done_alike (home_of cache) a (act_at (names_of path) Drop) v (drop_alike (home_of cache) (names_of path) v is)) in
      record { contents = λ x. follows.contents x ∙ none.contents x; lists = λ d. follows.lists d ∙ none.lists d }

-- ---- the law

pub temp_for : (cache : List ℕ) (number : ℕ) → IsFor (home_of cache) Temporary (temp_path cache number)
unfolding temp_path
temp_for cache number = (paths_are_for cache).temporary number

-- nothing came to the log
pub unchanged : (cache : List ℕ) (old new : List LogItem) → IsCache cache old → new ≡ old → LeavesKnownCache cache old new
unchanged cache old new sound same = search (rules, same_stays_known)

-- giving up leaves a cache, and all that was known of it still holds
pub giving_up_lasts : (cache : List ℕ) (number : ℕ) (old new : List LogItem) → IsCache cache old
    → GivesUpTemp cache number (Some old) (Some new) → IsLog new → LeavesKnownCache cache old new
giving_up_lasts cache number old new sound (inl same) logged = unchanged cache old new sound (some_same new old same)
giving_up_lasts cache number old new sound (inr h) logged =
    let path = temp_path cache number in
    let moves : Moves = (drop_temp cache number, h.0) ∷ [] in
    let lead = logs_lead old new moves h.1 logged in
    let t = tree_of old in
    let alike = still_alike cache path t sound.placed h.0 (temp_for cache number) lead.0.0 in (
      subst (IsSound (home_of cache)) (sym lead.1) (still_sound cache path t sound),
      stays_known cache old new (subst (λ x. Alike (value_of_tree (home_of cache) x) (value_of_tree (home_of cache) (tree_of old))) (sym lead.1) alike),
      gains_grow old new moves h.1,
    )

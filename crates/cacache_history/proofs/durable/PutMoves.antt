-- What a durable put that answered made, in order: its content, the syncs of its folders, and what its entry takes.
use Rattle.std.proofs.Common.{arith, rules, ◌≡◌, ◌⊎◌, inl, inr, ◌==◌, ℕ, Bool, true, false, cond, List, [], ◌∷◌, ◌++◌, Option, None, Some, Result, Ok, Err, drop, refl, ap, subst, ◌∙◌}
use Rattle.cacache_core.specs.declared.{errors.{Fault.{Fault}, Error.{Error, TheVariants.{IoError, OutOfMemory}}}, integrity.digest.Hash.{Hash}}
use Rattle.cacache_core.specs.declared.errors.Fault.TheVariants as faults
use Rattle.cacache_store.specs.{declared.store.plain.PlainTemp.{PlainTemp}, Plain.{PlainAnswer}}
use Rattle.cacache_store.specs.declared.store.answer.Answer.TheVariants as answers
use Rattle.cacache_store.specs.declared.store.step.Step.TheVariants as steps
use Rattle.cacache_calls.specs.{declared.{answers.Refusal.{Refusal}, command.Put.{Put}, carried.Commit.{Commit}}, Answers.{done_in, temp_in, written_in, synced_in, there_in}, Steps.{content_path, content_folders}, State.{State, creating, writing, syncing, persisting, confirming, Site, make_folder}, Common.{ends_with, fails, go_on, sync_up}, Storing.{insertion_of, indexed, sized, compared, placed, secured, secured_found, write_rest, after_write, after_confirm, put_commit}, Table.{opening}, Runs.{Moves}}
use Rattle.cacache_calls.specs.declared.answers.Refusal.TheVariants as refusals
use Rattle.cacache_calls.specs.declared.command.Command.TheVariants as commands
use Rattle.cacache_history.specs.History.{Made}
use Rattle.cacache_history.proofs.durable.CommitMoves.{Appends, HasDirs, Stores, all_dirs, does, done_is, goes_on, inserted, later_appends, made_is, makes, refused, synced, there_is}

module _ (i : List Hash) where
  -- ---- a commit, once its content is there

  module _ (c : Commit) where
    -- with a key its entry is added
    abbrev pub Adds : Option (List ℕ) → Moves → Type 0
    Adds None moves = Unit {0}
    Adds (Some key) moves = Appends i (insertion_of c key) moves

    later_adds : (key : Option (List ℕ)) (front moves all : Moves) → all ≡ front ++ moves → Adds key moves → Adds key all
    later_adds key front moves all e a = grind (arith, later_appends)

    either : (b : Bool) (s : State) (e : Error) (moves : Moves) → Stores i (cond b s (ends_with e)) moves → Stores i s moves
    either true s e moves run = run
    either false s e moves run = refused i e moves run

    by_size : (size : Option ℕ) (moves : Moves) → Stores i (sized c size) moves → Stores i (indexed c c.key) moves
    by_size size moves run = grind (arith, either)

    by_integrity : (expected : Option (List Hash)) (moves : Moves) → Stores i (compared c expected) moves → Stores i (indexed c c.key) moves
    by_integrity expected moves run = grind (arith, by_size, either)

    module _ (durable : c.options.durable ≡ true) where
      by_key : (key : Option (List ℕ)) (moves : Moves) → Stores i (indexed c key) moves → Adds key moves
      by_key key moves run = grind (arith, inserted)

      -- the folders are synced, and then the entry is added
      pub secures : (moves : Moves) → Stores i (secured c) moves → HasDirs (content_folders c.cache c.computed) moves × Adds c.key moves
      secures moves run =
          let up : Stores i (sync_up (content_folders c.cache c.computed) (placed c)) moves
          = subst (λ b. Stores i (cond b (sync_up (content_folders c.cache c.computed) (placed c)) (placed c)) moves) durable run in
          let d = synced i (content_folders c.cache c.computed) (placed c) moves up in (
            all_dirs i (content_folders c.cache c.computed) (placed c) moves d,
            later_adds c.key d.front d.more moves d.is (by_key c.key d.more (by_integrity c.options.integrity d.more d.runs)),
          )

      -- before them the content, if it was found
      pub secures_found : (moves : Moves) → Stores i (secured_found c) moves
          → (more : Moves) × (moves ≡ (steps.SyncFile (content_path c.cache c.computed), answers.Done) ∷ more) × Stores i (secured c) more
      secures_found moves run = search (rules, does)

    -- ---- and before

    -- its content is put, or found
    abbrev pub PutsOrFinds : Made → Moves → Type 0
    PutsOrFinds m more =
        (((f : PlainTemp) × (m ≡ (steps.Persist f (content_path c.cache c.computed), answers.Done))) × Stores i (secured c) more)
        ⊎ ((m ≡ (steps.Exists (content_path c.cache c.computed), answers.There true)) × Stores i (secured_found c) more)

    -- so one of these moves does
    pub record Places (moves : Moves) : Type 0 where
      pub front : Moves
      pub move : Made
      pub more : Moves
      pub is : moves ≡ front ++ move ∷ more
      pub puts : PutsOrFinds move more

    later_places : (m : Made) (moves all : Moves) → all ≡ m ∷ moves → Places moves → Places all
    later_places m moves all e p = record { front = m ∷ p.front; move = p.move; more = p.more; is = e ∙ ap (λ moves. m ∷ moves) p.is; puts = p.puts }

    confirms : (fault : Fault) (a : PlainAnswer) (r : Result Bool Refusal) (more : Moves) → there_in a ≡ r → Stores i (go_on r (λ _. fails fault) (after_confirm c fault)) more
        → (a ≡ answers.There true) × Stores i (secured_found c) more
    confirms fault a (Ok true) more e run = (there_is a true e, run)
    confirms fault a (Err refusals.Memory) more e run = refused i OutOfMemory more run
    confirms fault a r more e run = refused i (IoError fault []) more run

    confirmed : (fault : Fault) (moves : Moves) → Stores i (confirming c fault) moves → Places moves
    confirmed fault moves run =
        makes i (confirming c fault) (steps.Exists (content_path c.cache c.computed)) moves refl
        (λ m more is step fits next.
        let d = confirms fault m.1 (there_in m.1) more refl next in
        record { front = []; move = m; more = more; is = is; puts = inr (made_is m (steps.Exists (content_path c.cache c.computed)) (answers.There true) step d.0, d.1) }) run

    persists : (file : PlainTemp) (m : Made) (r : Result (Unit {0}) Refusal) (more all : Moves) → done_in m.1 ≡ r → all ≡ m ∷ more → Some (steps.Persist file (content_path c.cache c.computed)) ≡ Some m.0
        → Stores i (go_on r (confirming c) (λ _. secured c)) more → Places all
    persists file m (Ok u) more all e is step run =
        record { front = []; move = m; more = more; is = is; puts = inl ((file, made_is m (steps.Persist file (content_path c.cache c.computed)) answers.Done step (done_is m.1 u e)), run) }
    persists file m (Err (refusals.Fault fault)) more all e is step run = later_places m more all is (confirmed fault more run)
    persists file m (Err refusals.Memory) more all e is step run = refused i OutOfMemory more run

    persisted : (file : PlainTemp) (moves : Moves) → Stores i (persisting c file) moves → Places moves
    persisted file moves run =
        makes i (persisting c file) (steps.Persist file (content_path c.cache c.computed)) moves refl
        (λ m more is step fits next. persists file m (done_in m.1) more moves refl is step next) run

    moved_on : (file : PlainTemp) (b : Bool) (moves : Moves) → Stores i (cond b (syncing c file) (persisting c file)) moves → Places moves
    moved_on file false moves run = persisted file moves run
    moved_on file true moves run =
        makes i (syncing c file) (steps.SyncTemp file) moves refl
        (λ m more is step fits next. let d = goes_on i (synced_in m.1) (persisting c) more next in later_places m more moves is (persisted d.0 more d.2)) run

    rest_written : (file : PlainTemp) (rest : List ℕ) (moves : Moves) → ((file : PlainTemp) (rest : List ℕ) → Stores i (writing c file rest) moves → Places moves)
        → Stores i (write_rest c file rest) moves → Places moves
    rest_written file rest moves k run = grind (arith, does, later_places, moved_on)

    written : (moves : Moves) (file : PlainTemp) (rest : List ℕ) → Stores i (writing c file rest) moves → Places moves
    written [] file rest (inl e) = absurd cc
    written [] file rest (inr e) = absurd cc
    written (m ∷ moves) file rest run =
        let d = goes_on i (written_in m.1) (after_write c rest) moves run.2 in
        later_places m moves (m ∷ moves) refl
        (rest_written d.0.0 (drop d.0.1 rest) moves (written moves) (wrote (d.0.1 == 0) (write_rest c d.0.0 (drop d.0.1 rest)) moves d.2))
      where
        wrote : (b : Bool) (s : State) (moves : Moves) → Stores i (cond b (fails faults.WriteZero) s) moves → Stores i s moves
        wrote true s moves run = refused i (IoError faults.WriteZero []) moves run
        wrote false s moves run = run

    created : (number : ℕ) (bytes : List ℕ) (moves : Moves) → Stores i (creating number c bytes) moves → Places moves
    created number bytes moves run =
        makes i (creating number c bytes) (steps.CreateTemp _) moves refl
        (λ m more is step fits next.
        let d = goes_on i (temp_in m.1) (λ file. write_rest c file bytes) more next in
        later_places m more moves is (rest_written d.0 bytes more (written more) d.2)) run

  -- ---- a put

  pub put_places : (site : Site) (p : Put) (moves : Moves) → Stores i (opening site (commands.Put p)) moves → Places (put_commit site.cache p) moves
  put_places site p moves run =
      let d = does i (make_folder _) (creating site.number (put_commit site.cache p) p.data) moves run in
      later_places (put_commit site.cache p) _ d.0 moves d.1 (created (put_commit site.cache p) site.number p.data d.0 d.2)

-- What the opening of a writer leaves in a cache.
-- What the commit of a writer leaves in a cache.
use Rattle.std.proofs.{Common.{arith, rules, ◌≡◌, ◌⊎◌, inl, inr, ℕ, false, List, [], ◌∷◌, ◌++◌, Option, None, Some, Result, Ok, Err, map, refl, sym, ap, subst, ◌∙◌, append-nil, append_assoc}, lemmas.Grind.{common_steps}}
use Rattle.serde_json.specs.Data.{null}
use Rattle.cacache_core.specs.{declared.{errors.{Error.{Error, TheVariants.{IoError, OutOfMemory}}, Fault.{Fault}}, integrity.{algorithm.Algorithm.TheVariants.{Sha256}, digest.Hash.{Hash}}}, Paths.{Names, names_of, home_of}, Integrity.{IsHash}}
use Rattle.cacache_store.specs.{declared.store.{log.LogItem.{LogItem, TheVariants.{Made}}, plain.PlainTemp.{PlainTemp}}, Plain.{PlainAnswer}}
use Rattle.cacache_disk.specs.{declared.{luck.Luck.TheVariants.{Plain}, node.Node.TheVariants.{File}}, Tree.{Tree, put}, LedTo.{free}, Apply.{apply, unless, made_temp}, Replay.{tree_of, IsLog}}
use Rattle.cacache_calls.specs.{declared.{command.Put.{Put}, reply.Reply.{Reply}}, Promises.{Faulted, HasCause, own_of}, Common.{fails}, Steps.{temp_folder, temp_path, content_path}, Runs.{Moves, Goes, Gains, Runs, plain_reply}, State.{State}, Storing.{put_commit, persist, insertion_of, write_rest}, Table.{opening}, SingleSteps.{Does, FailsAt}, Sound.{FormedIfWritten}}
use Rattle.cacache_value.specs.{Acts.{MakeFolders, act_at, act_with, folders_left, PutBytes}, Value.{value_of_tree}}
use Rattle.cacache_history.specs.{Setup.{call_site}, Commits.{deeds_of_act, deeds, Deed, finds, deeds_of, CommitsAs}, History.{Turn}, Values.{IsThere}}
use Rattle.cacache_history.proofs.durable.CommitPlaces.{goes_runs}
use Rattle.cacache_laws.specs.{Sequence.{tree_on, turns_on, Alike, after_deeds, IsSound}, InParts.{Begun, moves_in, with_part, IsOnItsWay}, Caches.{IsCache, Grows, IsExcused, setup_at}, OpenWriters.{LeavesKnownCache, make_folder, make_file, OpensWriter, IsOpened, CommitsBytes}}
use Rattle.cacache_laws.proofs.{Putting.Deeds.{stays_known}, Calls.{Replays.{some_same}, InParts.{logs_lead, calls_begin, parts_go_on, parts_answer, writes_are_parts}}, trees.Logged.{gains_join}}
use Rattle.cacache_store.specs.declared.store.answer.Answer.TheVariants as answers
use Rattle.cacache_store.specs.declared.store.step.Step.TheVariants as steps
use Rattle.cacache_calls.specs.declared.command.Command.TheVariants as commands
use Rattle.cacache_calls.specs.declared.reply.Reply.TheVariants as replies

-- ---- logs

pub gains_none : (old : Option (List LogItem)) (new : List LogItem) → Some new ≡ old → Gains old (Some new) []
gains_none old new same = grind (arith, common_steps)

pub gains_grow : (old new : List LogItem) (moves : Moves) → Gains (Some old) (Some new) moves → Grows old new
gains_grow old new moves g = (moves, some_same new (old ++ map (λ m. Made m.0 m.1) moves) g)

-- an error that a step of these excuses
pub excused_step : (old new : List LogItem) (moves : Moves) → Gains (Some old) (Some new) moves → (e : Error) (fault : Fault) → Faulted moves fault
    → (e ≡ OutOfMemory) ⊎ ((message : List ℕ) × (e ≡ IoError fault message)) → IsExcused e old new
excused_step old new moves g e fault h h2 = grind (arith, some_same)

-- ---- the deeds of an opening

folders_made : (r : Result Names Fault) (count : Names → Option ℕ) → deeds_of_act (act_at r (λ names. act_with (count names) (MakeFolders names))) ≡ []
folders_made r count = grind (arith, common_steps)

pub folder_first : (t : Tree) (path : List ℕ) (a : PlainAnswer) (more : Moves) → deeds (turns_on (apply t (steps.MakeDirs path) Plain).1 more) ≡ []
    → deeds (turns_on t ((steps.MakeDirs path, a) ∷ more)) ≡ []
folder_first t path a more none = search (rules, folders_made)

made_so : (t : Tree) (path : List ℕ) (new : Names → Tree) (r : Result Names Fault) (file : PlainTemp) → answers.Temp file ≡ (unless r t (λ names. (answers.Temp (made_temp path), new names))).0
    → file ≡ made_temp path
made_so t path new r file e = grind (arith, common_steps)

pub temp_made : (t : Tree) (path : List ℕ) (file : PlainTemp) → answers.Temp file ≡ (apply t (steps.CreateTemp path) Plain).0 → file ≡ made_temp path
unfolding apply
temp_made t path file e = made_so t path (λ names. put t names (File [])) (free t path) file e

-- ---- an opening

-- a put of nothing: its opening is that of each put
abbrev pub put_nothing : Put
put_nothing = record {
  key = None;
  «data» = [];
  moment = 0;
  options = record {
    algorithm = Sha256;
    size = None;
    integrity = None;
    metadata = null;
    raw_metadata = None;
    durable = false;
  };
}

-- its moves begin a put of nothing, and did nothing to contents or buckets
pub record Opening (cache : List ℕ) (number : ℕ) (old new : List LogItem) : Type 0 where
  pub moves : Moves
  pub next : State
  pub goes : Goes (opening (call_site (setup_at cache []) number) (commands.Put put_nothing)) moves next
  pub nothing : deeds (turns_on (tree_of old) moves) ≡ []
  pub gains : Gains (Some old) (Some new) moves

module _ (cache : List ℕ) (number : ℕ) (old new : List LogItem) where
  -- one that ends with an error
  abbrev Fails : Error → Type 0
  Fails e = Opening cache number old new × IsExcused e old new

  folder_fails : (e : Error) (fault : Fault) → (e ≡ OutOfMemory) ⊎ ((message : List ℕ) × (e ≡ IoError fault message)) → Does (make_folder cache number) (answers.Failed fault) (Some old) (Some new)
      → Fails e
  folder_fails e fault is g =
      let moves : Moves = (make_folder cache number, answers.Failed fault) ∷ [] in
      let nothing = folder_first (tree_of old) (temp_folder cache) (answers.Failed fault) [] refl in
      (record { moves = moves; next = fails fault; goes = (refl, tt, refl); nothing = nothing; gains = g }, excused_step old new moves g e fault (inl refl) is)

  folder_errs : (e : Error) → FailsAt (make_folder cache number) e (Some old) (Some new) → Fails e
  folder_errs (IoError fault message) h = folder_fails (IoError fault message) fault (inr (message, refl)) h
  folder_errs OutOfMemory (inl same) = search (rules, gains_none)
  folder_errs OutOfMemory (inr h) = folder_fails OutOfMemory h.0 (inl refl) h.1
  folder_errs e h = absurd h

  module _ (mid : Option (List LogItem)) (made : Does (make_folder cache number) answers.Done (Some old) mid) where
    -- the folder, and then this
    then_gains : (more : Moves) → Gains mid (Some new) more → Gains (Some old) (Some new) ((make_folder cache number, answers.Done) ∷ more)
    then_gains more g = gains_join (Some old) mid (Some new) ((make_folder cache number, answers.Done) ∷ []) more made g

    file_fails : (e : Error) (fault : Fault) → (e ≡ OutOfMemory) ⊎ ((message : List ℕ) × (e ≡ IoError fault message)) → Does (make_file cache number) (answers.Failed fault) mid (Some new) → Fails e
    file_fails e fault is g =
        let more : Moves = (make_file cache number, answers.Failed fault) ∷ [] in
        let gains = then_gains more g in
        let nothing = folder_first (tree_of old) (temp_folder cache) answers.Done more refl in (
          record { moves = (make_folder cache number, answers.Done) ∷ more; next = fails fault; goes = (refl, tt, (refl, tt, refl)); nothing = nothing; gains = gains },
          excused_step old new ((make_folder cache number, answers.Done) ∷ more) gains e fault (inr (inl refl)) is,
        )

    file_errs : (e : Error) → FailsAt (make_file cache number) e mid (Some new) → Fails e
    file_errs (IoError fault message) h = file_fails (IoError fault message) fault (inr (message, refl)) h
    file_errs OutOfMemory (inl same) = (
      record {
        moves = (make_folder cache number, answers.Done) ∷ [];
        next = _;
        goes = (refl, tt, refl);
        nothing = folder_first (tree_of old) (temp_folder cache) answers.Done [] refl;
        gains = then_gains [] (gains_none mid new same);
      },
      inl refl,
    )
    file_errs OutOfMemory (inr h) = file_fails OutOfMemory h.0 (inl refl) h.1
    file_errs e h = absurd h

  failed : (e : Error) → OpensWriter cache number (Err e) (Some old) (Some new) → Fails e
  failed e h = grind (arith, folder_errs, file_errs)

  -- one that opened the file
  opened_so : IsLog new → (file : PlainTemp) → OpensWriter cache number (Ok file) (Some old) (Some new) → Opening cache number old new × (file ≡ made_temp (temp_path cache number))
  opened_so logged file h =
      let more : Moves = (make_file cache number, answers.Temp file) ∷ [] in
      let gains = then_gains h.0 h.1 more h.2 in
      let lead = logs_lead old new ((make_folder cache number, answers.Done) ∷ more) gains logged in
      let same = temp_made (apply (tree_of old) (make_folder cache number) Plain).1 (temp_path cache number) file lead.0.1.0 in (
        record {
          moves = (make_folder cache number, answers.Done) ∷ more;
          next = persist (put_commit cache put_nothing) file;
          goes = (refl, tt, (refl, ap (λ (f : PlainTemp). f.path) same, refl));
          nothing = folder_first (tree_of old) (temp_folder cache) answers.Done more refl;
          gains = gains;
        },
        same,
      )

  pub opening_made : IsLog new → (r : Result PlainTemp Error) → OpensWriter cache number r (Some old) (Some new) → Opening cache number old new
  opening_made logged (Err e) h = (failed e h).0
  opening_made logged (Ok file) h = (opened_so logged file h).0

-- the writer's file is empty at first; an error is excused
abbrev pub HasOpened : List ℕ → ℕ → Result PlainTemp Error → List LogItem → List LogItem → Type 0
HasOpened cache number (Ok file) old new = (file.path ≡ temp_path cache number) × (file.bytes ≡ Some []) × IsOpened cache number
HasOpened cache number (Err e) old new = IsExcused e old new

module _ (cache : List ℕ) (number : ℕ) (old new : List LogItem) (sound : IsCache cache old) (logged : IsLog new) where
  -- what it keeps, as far as it goes
  part_keeps : Opening cache number old new → LeavesKnownCache cache old new
  part_keeps o =
      let s = setup_at cache [] in
      let lead = logs_lead old new o.moves o.gains logged in
      let call : Begun = record { command = commands.Put put_nothing; number = number; parts = [] } in
      let way = calls_begin s (commands.Put put_nothing) number (λ key e. absurd cc) tt in
      let changes = (parts_go_on s call (opening (call_site s number) (commands.Put put_nothing)) o.next (tree_of old) o.moves tt way sound o.goes lead.0).1 in
      let same : Alike (value_of_tree (home_of cache) (tree_on (tree_of old) o.moves)) (value_of_tree (home_of cache) (tree_of old))
      = subst (λ ds. Alike (value_of_tree (home_of cache) (tree_on (tree_of old) o.moves)) (after_deeds (home_of cache) ds (value_of_tree (home_of cache) (tree_of old)))) o.nothing changes.follows in (
        subst (IsSound (home_of cache)) (sym lead.1) changes.sound,
        stays_known cache old new (subst (λ t. Alike (value_of_tree (home_of cache) t) (value_of_tree (home_of cache) (tree_of old))) (sym lead.1) same),
        gains_grow old new o.moves o.gains,
      )

  opens : (r : Result PlainTemp Error) → OpensWriter cache number r (Some old) (Some new) → LeavesKnownCache cache old new × HasOpened cache number r old new
  opens (Err e) h = let o = failed cache number old new e h in (part_keeps o.0, o.1)
  opens (Ok file) h =
      let o = opened_so cache number old new logged file h in (
        part_keeps o.0,
        (ap (λ (f : PlainTemp). f.path) o.1, ap (λ (f : PlainTemp). f.bytes) o.1, record { old = old; new = new; sound = sound; opens = (h.0, h.1, subst (λ f. Does (make_file cache number) (answers.Temp f) h.0 (Some new)) o.1 h.2); logged = logged }),
      )

-- a writer's opening leaves a cache, and all that was known of it still holds
pub writers_open : (cache : List ℕ) (number : ℕ) (r : Result PlainTemp Error) (old new : List LogItem) → IsCache cache old
    → OpensWriter cache number r (Some old) (Some new) → IsLog new → LeavesKnownCache cache old new × HasOpened cache number r old new
writers_open cache number r old new sound h logged = opens cache number old new sound logged r h

deeds_through : (xs ys : List Turn) → deeds (xs ++ ys) ≡ deeds xs ++ deeds ys
deeds_through [] ys = refl
deeds_through (turn ∷ xs) ys = ap (λ l. deeds_of turn.move ++ l) (deeds_through xs ys) ∙ sym (append_assoc (deeds_of turn.move) (deeds xs) (deeds ys))

-- the later of two parts has all deeds, if the earlier one has none
pub deeds_later : (xs ys : List Turn) → deeds xs ≡ [] → deeds (xs ++ ys) ≡ deeds ys
deeds_later xs ys none = deeds_through xs ys ∙ ap (λ l. l ++ deeds ys) none

-- the same holds of faults
fault_later : (xs ys : Moves) (fault : Fault) → (Faulted xs fault → ⊥) → Faulted (xs ++ ys) fault → Faulted ys fault
fault_later [] ys fault none h = h
fault_later (m ∷ xs) ys fault none (inl h) = absurd (none (inl h))
fault_later (m ∷ xs) ys fault none (inr h) = fault_later xs ys fault (λ later. none (inr later)) h

pub cause_later : (own : Fault → Type 0) (xs ys : Moves) (r : Reply) → ((fault : Fault) → Faulted xs fault → ⊥) → HasCause own (xs ++ ys) r → HasCause own ys r
cause_later own xs ys r none h = grind (arith, fault_later)

-- what is known of a commit: all steps of its writer are a run of a put, and its own steps answer as a put does
pub record Ended (cache : List ℕ) (p : Put) (number : ℕ) (r : Reply) (old new : List LogItem) : Type 0 where
  pub whole : Moves
  pub run : Runs (opening (call_site (setup_at cache []) number) (commands.Put p)) whole r
  pub moves : Moves
  pub gained : new ≡ old ++ map (λ m. Made m.0 m.1) moves
  pub follows : Alike (value_of_tree (home_of cache) (tree_on (tree_of old) moves)) (after_deeds (home_of cache) (deeds (turns_on (tree_of old) moves)) (value_of_tree (home_of cache) (tree_of old)))
  pub found : (a : Hash) (more : List Deed) → IsHash a → deeds (turns_on (tree_of old) moves) ≡ finds (content_path cache (a ∷ [])) ∷ more
      → IsThere ((value_of_tree (home_of cache) (tree_of old)).contents a)
  pub commits : CommitsAs (put_commit cache p) (λ names. PutBytes names p.data) (deeds (turns_on (tree_of old) moves)) (Some r)
  pub causes : HasCause (own_of (commands.Put p)) moves (plain_reply r)
  pub sound : IsCache cache new
  pub leads : tree_of new ≡ tree_on (tree_of old) moves

module _ (cache : List ℕ) (p : Put) (number : ℕ) (may : (key : List ℕ) → p.key ≡ Some key → FormedIfWritten (insertion_of (put_commit cache p) key)) (o : IsOpened cache number) where
  -- the two steps of the opening
  abbrev pub opened_by : Moves
  opened_by = (make_folder cache number, answers.Done) ∷ (make_file cache number, answers.Temp (made_temp (temp_path cache number))) ∷ []

  opened_faultless : (fault : Fault) → Faulted opened_by fault → ⊥
  opened_faultless fault h = grind (arith, common_steps)

  abbrev pub started : Begun
  started = record { command = commands.Put p; number = number; parts = [] }

  abbrev pub opened : Begun
  opened = with_part started (tree_of o.old) opened_by

  pub is_opened : IsOnItsWay (setup_at cache []) opened (write_rest (put_commit cache p) (made_temp (temp_path cache number)) p.data)
  is_opened =
      let s = setup_at cache [] in
      let gains = gains_join (Some o.old) o.opens.0 (Some o.new) ((make_folder cache number, answers.Done) ∷ []) ((make_file cache number, answers.Temp (made_temp (temp_path cache number))) ∷ []) o.opens.1 o.opens.2 in
      let lead = logs_lead o.old o.new opened_by gains o.logged in
      let way = calls_begin s (commands.Put p) number may tt in
      (parts_go_on s started (opening (call_site s number) (commands.Put p)) (write_rest (put_commit cache p) (made_temp (temp_path cache number)) p.data) (tree_of o.old) opened_by tt way o.sound
      (refl, tt, (refl, refl, refl)) lead.0).0

  pub ended : (r : Reply) (old new : List LogItem) → IsCache cache old → CommitsBytes cache p number r old new → Ended cache p number r old new
  ended r old new sound c =
      let s = setup_at cache [] in
      let w = writes_are_parts s opened (put_commit cache p) (made_temp (temp_path cache number)) c.file p.data (tree_of old) is_opened sound refl c.path_is c.bytes_are in
      let call = with_part opened (tree_of old) w.0 in
      let state = persist (put_commit cache p) c.file in
      let lead = logs_lead old new c.ran.0 c.ran.2 c.logged in
      let a = parts_answer s call state (tree_of old) c.ran.0 r tt w.1 sound (subst (Runs state c.ran.0) (sym c.plain) c.ran.1) lead.0 in
      let turns = turns_on (tree_of old) c.ran.0 in
      let before = turns_on (tree_of o.old) opened_by in
      let hidden = turns_on (tree_of old) w.0 in
      let none : deeds (turns_on (tree_of o.old) opened_by) ≡ []
      = folder_first (tree_of o.old) (temp_folder cache) answers.Done ((make_file cache number, answers.Temp (made_temp (temp_path cache number))) ∷ []) refl in
      let own : deeds (before ++ (hidden ++ (turns ++ []))) ≡ deeds turns
      = deeds_later before (hidden ++ (turns ++ [])) none ∙ deeds_later hidden (turns ++ []) w.2.nothing ∙ ap deeds (append-nil turns) in
      let cause = cause_later (own_of (commands.Put p)) w.0 (c.ran.0 ++ []) (plain_reply r) w.2.faultless
      (cause_later (own_of (commands.Put p)) opened_by (w.0 ++ (c.ran.0 ++ [])) (plain_reply r) opened_faultless a.0.causes) in
      record {
        whole = moves_in call.parts ++ c.ran.0;
        run = goes_runs (opening (call_site s number) (commands.Put p)) state (moves_in call.parts) c.ran.0 r w.1.goes c.ran.1;
        moves = c.ran.0;
        gained = some_same new (old ++ map (λ m. Made m.0 m.1) c.ran.0) c.ran.2;
        follows = a.1.follows;
        found = a.1.found;
        commits = subst (λ ds. CommitsAs (put_commit cache p) (λ names. PutBytes names p.data) ds (Some r)) own a.0.commits;
        causes = subst (λ moves. HasCause (own_of (commands.Put p)) moves (plain_reply r)) (append-nil c.ran.0) cause;
        sound = subst (IsSound (home_of cache)) (sym lead.1) a.1.sound;
        leads = lead.1;
      }

-- a commit leaves a cache, if its entry is well-formed or refused
pub commits_last : (cache : List ℕ) (p : Put) (number : ℕ) (r : Reply) (old new : List LogItem)
    → ((key : List ℕ) → p.key ≡ Some key → FormedIfWritten (insertion_of (put_commit cache p) key)) → IsOpened cache number
    → IsCache cache old → CommitsBytes cache p number r old new → IsCache cache new × Grows old new
commits_last cache p number r old new may o sound c = let e = ended cache p number may o r old new sound c in (e.sound, gains_grow old new c.ran.0 c.ran.2)

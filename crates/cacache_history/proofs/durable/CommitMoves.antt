-- What a durable insertion that answered made, in order: its line, and the syncs of its bucket and of that one's folders.
use Rattle.std.proofs.{lemmas.{Grind.{common_steps}, Bool.{leb-true}}, Common.{◌≡◌, inl, inr, ◌≤◌, ℕ, Bool, true, false, cond, nat_le, List, [], ◌∷◌, ◌++◌, Option, None, Some, Result, Ok, Err, length, refl, sym, ap, subst, ◌∙◌, append_assoc, arith}}
use Rattle.cacache_core.specs.declared.errors.Fault.TheVariants as faults
use Rattle.cacache_core.specs.declared.{errors.{SerdeCause.{SerdeCause}, Error.{Error, TheVariants.{IoError, SerdeError, OutOfMemory}}}, integrity.digest.Hash.{Hash}}
use Rattle.cacache_store.specs.declared.store.answer.Answer.TheVariants as answers
use Rattle.cacache_store.specs.declared.store.step.Step.TheVariants as steps
use Rattle.cacache_store.specs.Plain.{Fits, PlainStep, PlainAnswer}
use Rattle.cacache_calls.specs.{declared.{answers.Refusal.{Refusal}, reply.Reply.TheVariants.{Stored}}, Answers.{done_in, there_in, taken_in}, Steps.{bucket_path, bucket_folders}, State.{State, doing, appending, over, Insertion, Errand, make_folder, sync_file, sync_dir}, Common.{ends_with, fails, go_on, errand_step, sync_up}, Inserting.{insert, unless_refused, refused_cause, bucket_line, recorded, after_append}, Table.{wants, after}, Runs.{Moves, Runs}}
use Rattle.cacache_calls.specs.declared.answers.Refusal.TheVariants as refusals
use Rattle.cacache_history.{specs.History.{Made}, proofs.{durable.Ending.{Has}, Each.{any_left, any_right}}}

-- ---- moves

-- each of these folders is synced
abbrev pub HasDirs : List (List ℕ) → Moves → Type 0
HasDirs [] moves = Unit {0}
HasDirs (p ∷ folders) moves = Has (steps.SyncDir p, answers.Done) moves × HasDirs folders moves

dirs_left : (folders : List (List ℕ)) (front more : Moves) → HasDirs folders front → HasDirs folders (front ++ more)
dirs_left [] front more h = tt
dirs_left (p ∷ folders) front more h = (any_left (λ (m : Made). m ≡ (steps.SyncDir p, answers.Done)) front more h.0, dirs_left folders front more h.1)

dirs_right : (folders : List (List ℕ)) (front more : Moves) → HasDirs folders more → HasDirs folders (front ++ more)
dirs_right [] front more h = tt
dirs_right (p ∷ folders) front more h = (any_right (λ (m : Made). m ≡ (steps.SyncDir p, answers.Done)) front more h.0, dirs_right folders front more h.1)

-- ---- answers

pub done_is : (a : PlainAnswer) (u : Unit {0}) → done_in a ≡ Ok u → a ≡ answers.Done
done_is a u e = grind (arith, common_steps)

pub there_is : (a : PlainAnswer) (b : Bool) → there_in a ≡ Ok b → a ≡ answers.There b
there_is a b e = grind (arith, common_steps)

took_is : (a : PlainAnswer) (n : ℕ) → taken_in a ≡ Ok n → a ≡ answers.Took n
took_is a n e = grind (arith, common_steps)

pub made_is : (m : Made) (step : PlainStep) (answer : PlainAnswer) → Some step ≡ Some m.0 → m.1 ≡ answer → m ≡ (step, answer)
made_is (a, b) step answer e f = let same : a ≡ step = cc in rw (same, f) refl

module _ (i : List Hash) where
  -- the moves are a run from this state, and the call answered
  abbrev pub Stores : State → Moves → Type 0
  Stores s moves = Runs s moves (Stored i)

  -- ---- one step

  pub refused : {X : Type 0} (e : Error) (moves : Moves) → Stores (ends_with e) moves → X
  refused e [] (inl same) = absurd cc
  refused e [] (inr same) = absurd cc
  refused e (m ∷ moves) run = let no : None ≡ Some m.0 = run.0 in absurd cc

  pub goes_on : {X : Type 0} (a : Result X Refusal) (next : X → State) (moves : Moves) → Stores (go_on a fails next) moves → (x : X) × (a ≡ Ok x) × Stores (next x) moves
  goes_on (Ok x) next moves run = (x, refl, run)
  goes_on (Err (refusals.Fault fault)) next moves run = refused (IoError fault []) moves run
  goes_on (Err refusals.Memory) next moves run = refused OutOfMemory moves run

  -- a state that wants a step makes it
  pub makes : {X : Type 0} (s : State) (step : PlainStep) (moves : Moves) → wants s ≡ Some step
      → ((m : Made) (more : Moves) → moves ≡ m ∷ more → Some step ≡ Some m.0 → Fits m.0 m.1 → Stores (after s m.1) more → X) → Stores s moves → X
  makes s step [] w k (inl e) = let no : None ≡ Some step = ap wants (sym e) ∙ w in absurd cc
  makes s step [] w k (inr e) = absurd cc
  makes s step (m ∷ moves) w k run = k m moves refl (sym w ∙ run.0) run.1 run.2

  -- an errand that is done
  pub does : (errand : Errand) (s : State) (moves : Moves) → Stores (doing errand s) moves → (more : Moves) × (moves ≡ (errand_step errand, answers.Done) ∷ more) × Stores s more
  does errand s moves run =
      makes (doing errand s) (errand_step errand) moves refl
      (λ m more is step fits next.
      let d = goes_on (done_in m.1) (λ _. s) more next in
      (more, is ∙ ap (λ x. x ∷ more) (made_is m (errand_step errand) answers.Done step (done_is m.1 d.0 d.1)), d.2)) run

  -- ---- syncs of folders

  -- the folders are synced, and then the call goes on from a state
  pub record Synced (folders : List (List ℕ)) (s : State) (moves : Moves) : Type 0 where
    pub front : Moves
    pub more : Moves
    pub is : moves ≡ front ++ more
    pub dirs : HasDirs folders front
    pub runs : Stores s more

  pub synced : (folders : List (List ℕ)) (s : State) (moves : Moves) → Stores (sync_up folders s) moves → Synced folders s moves
  synced [] s moves run = record { front = []; more = moves; is = refl; dirs = tt; runs = run }
  synced (p ∷ deeper) s moves run =
      let d = synced deeper (doing (sync_dir p) s) moves run in
      let one = does (sync_dir p) s d.more d.runs in
      record {
        front = d.front ++ (steps.SyncDir p, answers.Done) ∷ [];
        more = one.0;
        is = d.is ∙ ap (λ m. d.front ++ m) one.1 ∙ sym (append_assoc d.front ((steps.SyncDir p, answers.Done) ∷ []) one.0);
        dirs = (any_right (λ (m : Made). m ≡ (steps.SyncDir p, answers.Done)) d.front _ (inl refl), dirs_left deeper d.front _ d.dirs);
        runs = one.2;
      }

  -- they are synced somewhere in the moves
  pub all_dirs : (folders : List (List ℕ)) (s : State) (moves : Moves) → Synced folders s moves → HasDirs folders moves
  all_dirs folders s moves d = subst (HasDirs folders) (sym d.is) (dirs_left folders d.front d.more d.dirs)

  -- ---- an entry

  -- its line is taken whole, and then its bucket is synced, and the folders that lead there
  pub record Appends (j : Insertion) (moves : Moves) : Type 0 where
    pub front : Moves
    pub more : Moves
    pub is : moves ≡ front ++ (steps.Append (bucket_path j.cache j.entry.key) (bucket_line j), answers.Took (length (bucket_line j))) ∷ more
    pub written : refused_cause j ≡ None
    pub file : Has (steps.SyncFile (bucket_path j.cache j.entry.key), answers.Done) more
    pub dirs : HasDirs (bucket_folders j.cache j.entry.key) more

  module _ (j : Insertion) (durable : j.durable ≡ true) (written : refused_cause j ≡ None) where
    recorded_all : (moves : Moves) → Stores (recorded j) moves
        → Has (steps.SyncFile (bucket_path j.cache j.entry.key), answers.Done) moves × HasDirs (bucket_folders j.cache j.entry.key) moves
    recorded_all moves run =
        let path = bucket_path j.cache j.entry.key in
        let folders = bucket_folders j.cache j.entry.key in
        let synced_first : Stores (doing (sync_file (bucket_path j.cache j.entry.key)) (sync_up (bucket_folders j.cache j.entry.key) (over j.reply))) moves
        = subst (λ b. Stores (cond b (doing (sync_file (bucket_path j.cache j.entry.key)) (sync_up (bucket_folders j.cache j.entry.key) (over j.reply))) (over j.reply)) moves) durable run in
        let d = does (sync_file path) (sync_up folders (over j.reply)) moves synced_first in
        let all = all_dirs folders (over j.reply) d.0 (synced folders (over j.reply) d.0 d.2) in (
          subst (Has (steps.SyncFile (bucket_path j.cache j.entry.key), answers.Done)) (sym d.1) (inl refl),
          subst (HasDirs (bucket_folders j.cache j.entry.key)) (sym d.1) (dirs_right (bucket_folders j.cache j.entry.key) ((steps.SyncFile (bucket_path j.cache j.entry.key), answers.Done) ∷ []) d.0 all),
        )

    took_all : (b : Bool) (n : ℕ) (moves : Moves) → nat_le (length (bucket_line j)) n ≡ b → n ≤ length (bucket_line j) → Stores (cond b (recorded j) (fails faults.ShortAppend)) moves
        → (n ≡ length (bucket_line j)) × Stores (recorded j) moves
    took_all true n moves e fits run = (omega (arith, fits, leb-true (length (bucket_line j)) n e), run)
    took_all false n moves e fits run = refused (IoError faults.ShortAppend []) moves run

    appended : (moves : Moves) → Stores (appending j) moves → Appends j moves
    appended moves run =
        makes (appending j) (steps.Append (bucket_path j.cache j.entry.key) (bucket_line j)) moves refl
        (λ m more is step fits next.
        let d = goes_on (taken_in m.1) (after_append j) more next in
        let made : m ≡ (steps.Append (bucket_path j.cache j.entry.key) (bucket_line j), answers.Took d.0)
        = made_is m (steps.Append (bucket_path j.cache j.entry.key) (bucket_line j)) (answers.Took d.0) step (took_is m.1 d.0 d.1) in
        let count : d.0 ≤ length (bucket_line j) = subst (λ (m : Made). Fits m.0 m.1) made fits in
        let all = took_all (nat_le (length (bucket_line j)) d.0) d.0 more refl count d.2 in
        let rest = recorded_all more all.1 in
        record {
          front = [];
          more = more;
          is = is ∙ ap (λ x. x ∷ more) (made ∙ ap (λ n. (steps.Append (bucket_path j.cache j.entry.key) (bucket_line j), answers.Took n)) all.0);
          written = written;
          file = rest.0;
          dirs = rest.1;
        }) run

  pub later_appends : (j : Insertion) (front moves all : Moves) → all ≡ front ++ moves → Appends j moves → Appends j all
  later_appends j front moves all e a = record {
    front = front ++ a.front;
    more = a.more;
    is = e ∙ ap (λ m. front ++ m) a.is ∙ sym (append_assoc front a.front _);
    written = a.written;
    file = a.file;
    dirs = a.dirs;
  }

  unless_refused_appends : (j : Insertion) (durable : j.durable ≡ true) (cause : Option SerdeCause) (moves : Moves) → refused_cause j ≡ cause → Stores (unless_refused j cause) moves → Appends j moves
  unless_refused_appends j durable None moves e run =
      let d = does (make_folder _) (appending j) moves run in
      later_appends j (_ ∷ []) d.0 moves d.1 (appended j durable e d.0 d.2)
  unless_refused_appends j durable (Some cause) moves e run = refused (SerdeError cause []) moves run

  pub inserted : (j : Insertion) → j.durable ≡ true → (moves : Moves) → Stores (insert j) moves → Appends j moves
  inserted j durable moves run = unless_refused_appends j durable (refused_cause j) moves refl run

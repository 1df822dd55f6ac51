-- A link's commit is that of the bytes that its call read from the target.
use Rattle.std.proofs.{Common.{◌≡◌, ◌⊎◌, inl, inr, ℕ, ◌+◌, ◌==◌, ◌<◌, ◌^◌, false, cond, List, [], ◌∷◌, ◌++◌, Some, None, Result, length, drop, refl, sym, ap, subst, ◌∙◌, append_assoc, append-nil, length-append, arith}, lemmas.{Option.{same_Some}, Bool.{ne_eqb}, List.{drop_all}}}
use Rattle.cacache_core.specs.declared.errors.Fault.TheVariants as faults
use Rattle.cacache_core.specs.declared.errors.Error.{Error}
use Rattle.cacache_store.specs.{declared.store.plain.{PlainFile.{PlainFile}, PlainTemp.{PlainTemp}}, Plain.{Fits, PlainAnswer}}
use Rattle.cacache_store.specs.declared.store.step.Step.TheVariants as steps
use Rattle.cacache_store.specs.declared.store.answer.Answer.TheVariants as answers
use Rattle.cacache_calls.specs.{declared.{answers.Refusal.{Refusal}, command.{Link.{Link}, Put.{Put}}, reply.Reply.{Reply, TheVariants.{Refused}}, carried.Commit.{Commit}, target.Target.{Target}}, Answers.{done_in, file_in, got_in, length_in}, Common.{fails, go_on}, Effects.{effect, effects_of, IsRefused, DoesNothing, Commits}, Linking.{link_target, with_size, after_size, commit_for, after_read}, Steps.{temp_path, temp_folder, content_path}, Runs.{Moves, Runs}, State.{State, persisting, linking, confirming, sizing, opening_file, hashing, over, Site, to_link}, Storing.{persist, link, write_rest, secured, move_in}, Table.{piece, opening}, Verifying.{Gives, ReadsWhole}}
use Rattle.cacache_calls.proofs.{Effects.{puts_commit}, Going.{moves_on}}
use Rattle.cacache_calls.specs.declared.command.Command.TheVariants as commands
use Rattle.cacache_history.specs.Commits.{ReadsTarget}

-- ---- from the link on, a call goes as a put

-- a run from another state, with the same effects
record Twin (s : State) (moves : Moves) (r : Reply) : Type 0 where
  pub twin : Moves
  pub runs : Runs s twin r
  pub same : effects_of twin ≡ effects_of moves

module _ (r : Reply) (c : Commit) (target : List ℕ) (file : PlainTemp) where
  linked : (moves : Moves) → Runs (linking c target) moves r → Twin (persisting c file) moves r
  linked [] (inl e) = absurd cc
  linked [] (inr e) = record { twin = []; runs = inr e; same = refl }
  linked ((a, t) ∷ moves) run =
      let same : a ≡ steps.Symlink target (content_path c.cache c.computed) = sym (same_Some _ _ run.0) in
      rw same (by_answer t (subst (λ x. Fits x t) same run.1) run.2)
    where
      by_answer : (t : PlainAnswer) → Fits (steps.Symlink target (content_path c.cache c.computed)) t → Runs (go_on (done_in t) (confirming c) (λ _. secured c)) moves r
          → Twin (persisting c file) ((steps.Symlink target (content_path c.cache c.computed), t) ∷ moves) r
      by_answer answers.Done fits run =
          record { twin = (steps.Persist file (content_path c.cache c.computed), answers.Done) ∷ moves; runs = (refl, tt, run); same = refl }
      by_answer (answers.Failed fault) fits run =
          record { twin = (steps.Persist file (content_path c.cache c.computed), answers.Failed fault) ∷ moves; runs = (refl, tt, run); same = refl }
      by_answer (answers.NoMemory step) fits run =
          record { twin = (steps.Persist file (content_path c.cache c.computed), answers.NoMemory (steps.Persist file (content_path c.cache c.computed))) ∷ moves; runs = (refl, refl, run); same = refl }
      by_answer t fits run = absurd fits

  -- if the put is durable, its file is synced first
  first_synced : (moves : Moves) → Twin (persisting c file) moves r → Twin (move_in c file) moves r
  first_synced moves x =
      moves_on (λ s. Twin s moves r) c file (record { twin = (steps.SyncTemp file, answers.Synced file) ∷ x.twin; runs = (refl, refl, x.runs); same = x.same }) x

  made : (a : Result (Unit {0}) Refusal) (moves : Moves) → Runs (go_on a fails (λ _. linking c target)) moves r → Twin (go_on a fails (λ _. move_in c file)) moves r
  made a moves run = grind (arith, first_synced, linked)

  into_folder : (moves : Moves) → Runs (link c target) moves r → Twin (persist c file) moves r
  into_folder [] (inl e) = absurd cc
  into_folder [] (inr e) = record { twin = []; runs = inr e; same = refl }
  into_folder (m ∷ moves) run =
      let x = made (done_in m.1) moves run.2 in
      record { twin = m ∷ x.twin; runs = (run.0, run.1, x.runs); same = ap (λ es. effect m.0 m.1 es) x.same }

-- ---- a put of the same bytes

not_none : (b : ℕ) (bs : List ℕ) → (length (b ∷ bs) == 0) ≡ false
not_none b bs = ne_eqb (length (b ∷ bs)) 0 (λ none. omega (arith, none))

-- one write takes all bytes
written : (r : Reply) (c : Commit) (file : PlainTemp) (bytes : List ℕ) (moves : Moves) → Runs (persist c file) moves r → Twin (write_rest c file bytes) moves r
written r c file [] moves run = record { twin = moves; runs = run; same = refl }
written r c file (b ∷ bs) moves run = record {
  twin = (steps.Write file (b ∷ bs), answers.Wrote file (length (b ∷ bs))) ∷ moves;
  runs = (
    refl,
    (omega arith, refl),
    subst (λ x. Runs (cond x (fails faults.WriteZero) (write_rest c file (drop (length (b ∷ bs)) (b ∷ bs)))) moves r) (sym (not_none b bs))
        (subst (λ rest. Runs (write_rest c file rest) moves r) (sym (drop_all (length (b ∷ bs)) (b ∷ bs) (omega arith))) run),
  );
  same = refl;
}

abbrev put_of : Target ℕ → List ℕ → Put
put_of t bytes = record { key = t.key; «data» = bytes; moment = t.moment; options = record t.options { durable = false } }

abbrev put_site : Target ℕ → Site
put_site t = record { cache = t.cache; base = []; number = 0 }

abbrev empty_file : Target ℕ → PlainTemp
empty_file t = record { path = temp_path t.cache 0; bytes = Some [] }

-- the put of a link's bytes has the link's commit
link_commits : (r : Reply) (t : Target ℕ) (bytes : List ℕ) (moves : Moves) → Runs (link (commit_for t bytes) t.path) moves r → Commits (commit_for t bytes) (effects_of moves) r
link_commits r t bytes moves run =
    let c = commit_for t bytes in
    let x = into_folder r c t.path (empty_file t) moves run in
    let w = written r c (empty_file t) bytes x.twin x.runs in
    let first : Moves = (steps.MakeDirs (temp_folder t.cache), answers.Done) ∷ (steps.CreateTemp (temp_path t.cache 0), answers.Temp (empty_file t)) ∷ w.twin in
    let commits = puts_commit (put_site t) (put_of t bytes) first r ((refl, tt, (refl, refl, w.runs))) in
    subst (λ es. Commits (commit_for t bytes) es r) (w.same ∙ x.same) commits

-- ---- calls that are over

module _ (r : Reply) where
  over_nothing : (e : Error) (moves : Moves) → Runs (over (Refused e)) moves r → DoesNothing (effects_of moves) r
  over_nothing e [] (inl is) = let same : Refused e ≡ r = cc in (refl, subst IsRefused same tt)
  over_nothing e [] (inr is) = (refl, subst IsRefused (sym is) tt)
  over_nothing e (m ∷ moves) run = absurd (let none : None ≡ Some m.0 = run.0 in cc)

-- ---- the target is read

module _ (r : Reply) (t : Target ℕ) where
  -- the link's commit, if these bytes were read
  abbrev pub CommitsOf : Moves → List ℕ → Type 0
  CommitsOf moves bytes = (length bytes < 2 ^ 64) × Commits (commit_for t bytes) (effects_of moves) r

  abbrev Brings : PlainFile → List ℕ → Moves → Type 0
  Brings file bytes moves = DoesNothing (effects_of moves) r ⊎ ((more : List ℕ) × Gives file more moves × CommitsOf moves (bytes ++ more))

  reads : (file : PlainFile) (bytes : List ℕ) (moves : Moves) → file.left + length bytes < 2 ^ 64 → Runs (hashing (to_link t) file bytes) moves r → Brings file bytes moves
  reads file bytes [] small (inl e) = absurd cc
  reads file bytes [] small (inr e) = inl (refl, subst IsRefused (sym e) tt)
  reads file bytes ((a, x) ∷ moves) small run =
      let same : a ≡ steps.Read file piece = sym (same_Some _ _ run.0) in
      rw same (by_answer (λ g so_far bound. reads g so_far moves bound) x (subst (λ y. Fits y x) same run.1) run.2)
    where
      by_answer : ((g : PlainFile) (so_far : List ℕ) → g.left + length so_far < 2 ^ 64 → Runs (hashing (to_link t) g so_far) moves r → Brings g so_far moves) → (x : PlainAnswer)
          → Fits (steps.Read file piece) x → Runs (go_on (got_in x) fails (after_read (to_link t) bytes)) moves r → Brings file bytes ((steps.Read file piece, x) ∷ moves)
      by_answer more (answers.Got g []) fits run = inr ([], (refl, refl), subst (CommitsOf moves) (sym (append-nil bytes)) ((omega (arith, small), link_commits r t bytes moves run)))
      by_answer more (answers.Got g (b ∷ bs)) fits run =
          elim (more g (bytes ++ b ∷ bs) (omega (arith, small, fits.1, length-append bytes (b ∷ bs))) run) [
            | inl nothing ↦ inl nothing
            | inr y ↦ inr ((b ∷ bs) ++ y.0, (refl, y.0, refl, y.1), subst (CommitsOf moves) (append_assoc bytes (b ∷ bs) y.0) y.2)
          ]
      by_answer more (answers.Failed fault) fits run = inl (over_nothing r _ moves run)
      by_answer more (answers.NoMemory step) fits run = inl (over_nothing r _ moves run)
      by_answer more x fits run = absurd fits

  opens : (moves : Moves) → Runs (opening_file (to_link t)) moves r → DoesNothing (effects_of moves) r ⊎ ReadsWhole t.path (CommitsOf moves) moves
  opens [] (inl e) = absurd cc
  opens [] (inr e) = inl (refl, subst IsRefused (sym e) tt)
  opens ((a, x) ∷ moves) run =
      let same : a ≡ steps.Open t.path = sym (same_Some _ _ run.0) in
      rw same (by_answer x (subst (λ y. Fits y x) same run.1) run.2)
    where
      by_answer : (x : PlainAnswer) → Fits (steps.Open t.path) x → Runs (go_on (file_in x) fails (λ file. hashing (to_link t) file [])) moves r
          → DoesNothing (effects_of moves) r ⊎ ReadsWhole t.path (CommitsOf moves) ((steps.Open t.path, x) ∷ moves)
      by_answer (answers.File file) fits run =
          elim (reads file [] moves (omega (arith, fits)) run) [
            | inl nothing ↦ inl nothing
            | inr y ↦ inr (file, y.0, moves, refl, y.1, y.2)
          ]
      by_answer (answers.Failed fault) fits run = inl (over_nothing r _ moves run)
      by_answer (answers.NoMemory step) fits run = inl (over_nothing r _ moves run)
      by_answer x fits run = absurd fits

sizes : (r : Reply) (t : Target ℕ) (moves : Moves) → Runs (sizing t) moves r → DoesNothing (effects_of moves) r ⊎ ReadsTarget t.path (CommitsOf r t moves) moves
sizes r t [] (inl e) = absurd cc
sizes r t [] (inr e) = inl (refl, subst IsRefused (sym e) tt)
sizes r t ((a, x) ∷ moves) run =
    let same : a ≡ steps.Size t.path = sym (same_Some _ _ run.0) in
    rw same (by_answer x (subst (λ y. Fits y x) same run.1) run.2)
  where
    by_answer : (x : PlainAnswer) → Fits (steps.Size t.path) x → Runs (go_on (length_in x) fails (after_size t)) moves r
        → DoesNothing (effects_of moves) r ⊎ ReadsTarget t.path (CommitsOf r t moves) ((steps.Size t.path, x) ∷ moves)
    by_answer (answers.Length n) fits run =
        elim (opens r (with_size t n) moves run) [
          | inl nothing ↦ inl nothing
          | inr whole ↦ inr (n, moves, refl, whole)
        ]
    by_answer (answers.Failed fault) fits run = inl (over_nothing r _ moves run)
    by_answer (answers.NoMemory step) fits run = inl (over_nothing r _ moves run)
    by_answer x fits run = absurd fits

pub links_read : (site : Site) (l : Link) (moves : Moves) (r : Reply) → Runs (opening site (commands.Link l)) moves r
    → DoesNothing (effects_of moves) r ⊎ ReadsTarget (link_target site l).path (CommitsOf r (link_target site l) moves) moves
links_read site l moves r run = sizes r (link_target site l) moves run

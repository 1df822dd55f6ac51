-- Syncs that are done, and what is at the place of a commit's move.
use Rattle.std.proofs.Common.{arith, ◌≡◌, inl, inr, ℕ, List, [], ◌∷◌, Option, None, Some, Ok, Err, refl, sym, ap, subst, ◌∙◌, ◌==◌, length, rules, ◌++◌, append_assoc}
use Rattle.std.specs.Prelude.{Result}
use Rattle.cacache_core.specs.{declared.errors.Fault.{Fault, TheVariants.{IsADirectory}}, Paths.{Names, home_of, is_bad, names_of}}
use Rattle.cacache_disk.specs.{declared.luck.Luck.{Luck}, Tree.{Tree, look}, LedTo.{and_then, bytes_there, file_at, folder, followed, leads, or_fault, place, way_fault}, Apply.{apply, unless}}
use Rattle.cacache_value.{specs.Acts.{IsTrace, Move}, proofs.Shows.{apply_answer}}
use Rattle.cacache_loss.specs.{Syncs.{SyncsText, SyncsTexts, IsFileSync, SyncsFile}, Moments.{AreCalm, IsCalm, Moment, after}, LostTrees.{OfCache}}
use Rattle.cacache_loss.proofs.SyncedFolders.{named_home}
use Rattle.cacache_calls.specs.{Runs.{Moves}, declared.reply.Reply.{Reply}}
use Rattle.cacache_history.proofs.{durable.{Ending.{Has, HasStep, PlaceOf}, CommitMoves.{HasDirs}, QuietSteps.{calm_at}, Traces.{moment_more, of_cache_at}}, Histories.Holding.{replay_more}}
use Rattle.cacache_history.specs.{History.{Made, Call, History, IsLegal, Now, now_after, now_at, replayed}, declared.record.Record.{Record, TheVariants.{Moved}}, Setup.{Setup, home}, Values.{steps_of}, durable.{Outlasting.{moment_at}, QuietMoves.{AreQuiet}}}
use Rattle.cacache_store.specs.declared.store.step.Step.TheVariants as steps
use Rattle.cacache_store.specs.declared.store.answer.Answer.TheVariants as answers
use Rattle.cacache_loss.specs.Moments as moments

-- ---- in the words of losses

syncs_text : (p : List ℕ) (moves : List Move) → HasStep (steps.SyncDir p, answers.Done) moves → SyncsText p moves
syncs_text p [] h = absurd h
syncs_text p (m ∷ moves) (inl e) = inl e
syncs_text p (m ∷ moves) (inr h) = inr (syncs_text p moves h)

pub syncs_texts : (folders : List (List ℕ)) (more : Moves) (moves : List Move) → ((m : Made) → Has m more → HasStep m moves) → HasDirs folders more → SyncsTexts folders moves
syncs_texts [] more moves has dirs = tt
syncs_texts (p ∷ folders) more moves has dirs = (syncs_text p moves (has (steps.SyncDir p, answers.Done) dirs.0), syncs_texts folders more moves has dirs.1)

pub syncs_file : (p : List ℕ) (path : Names) (moves : List Move) → names_of p ≡ Ok path → HasStep (steps.SyncFile p, answers.Done) moves → SyncsFile path moves
syncs_file p path [] is h = absurd h
syncs_file p path (m ∷ moves) is (inl e) = inl (subst (λ step. IsFileSync path step m.answer) (sym e.0) (is, e.1))
syncs_file p path (m ∷ moves) is (inr h) = inr (syncs_file p path moves is h)

-- ---- a folder that is synced has names

no_folder : (t : Tree) (p : List ℕ) (fault : Fault) → names_of p ≡ Err fault → folder t p ≡ Err fault
unfolding folder place
no_folder t p fault e = rw e refl

not_done : (t : Tree) (p : List ℕ) (luck : Luck) (fault : Fault) → names_of p ≡ Err fault → (apply t (steps.SyncDir p) luck).0 ≡ answers.Done → ⊥
not_done t p luck fault e =
    apply_answer (λ a. a ≡ answers.Done → ⊥) (λ other done. absurd cc) t (steps.SyncDir p) luck (λ most. rw (no_folder t p fault e) (λ done. absurd cc))

-- what a text names, if it can't fail
named_or : (p : List ℕ) (r : Result Names Fault) → names_of p ≡ r → ((fault : Fault) → r ≡ Err fault → ⊥) → (names : Names) × (names_of p ≡ Ok names)
named_or p (Ok names) is no_fault = (names, is)
named_or p (Err fault) is no_fault = absurd (no_fault fault refl)

dir_named : (home : Option Names) (t : Tree) (moves : List Move) (p : List ℕ) → IsTrace home t moves → HasStep (steps.SyncDir p, answers.Done) moves → (names : Names) × (names_of p ≡ Ok names)
dir_named home t [] p trace h = absurd h
dir_named home t (m ∷ moves) p trace (inl e) =
    let done : (apply t (steps.SyncDir p) m.luck).0 ≡ answers.Done = ap (λ step. (apply t step m.luck).0) (sym e.0) ∙ sym trace.1 ∙ e.1 in
    named_or p (names_of p) refl (λ fault is. not_done t p m.luck fault is done)
dir_named home t (m ∷ moves) p trace (inr h) = dir_named home (apply t m.step m.luck).1 moves p trace.2 h

-- so a cache with a synced folder has the names of that folder
pub cache_named : (folder : Names) (t : Tree) (moves : List Move) (cache : List ℕ) → home_of cache ≡ Some folder → IsTrace (Some folder) t moves
    → HasStep (steps.SyncDir cache, answers.Done) moves → names_of cache ≡ Ok folder
cache_named folder t moves cache is trace h =
    let n = dir_named (Some folder) t moves cache trace h in
    let same : Some n.0 ≡ Some folder = sym (named_home cache n.0 (length cache == 0) (is_bad cache) refl refl n.1) ∙ is in
    let names : n.0 ≡ folder = cc in
    n.1 ∙ ap Ok names

-- ---- something is at the path of a file that is synced

module _ (t : Tree) (p : List ℕ) (path : Names) (is : names_of p ≡ Ok path) (none : look t path ≡ None) where
  followed_here : followed 16 t path ≡ Ok path
  unfolding followed
  followed_here = rw none refl

  no_bytes : (o : Option Fault) (bytes : List ℕ) → and_then (and_then (or_fault o path) (followed 16 t)) (λ names. bytes_there IsADirectory (look t names)) ≡ Ok bytes → ⊥
  no_bytes None bytes e =
      let there : bytes_there IsADirectory (look t path) ≡ Ok bytes = ap (λ r. and_then r (λ names. bytes_there IsADirectory (look t names))) (sym followed_here) ∙ e in
      let nothing : bytes_there IsADirectory None ≡ Ok bytes = ap (bytes_there IsADirectory) (sym none) ∙ there in
      absurd cc
  no_bytes (Some fault) bytes e = absurd cc

  no_file : (bytes : List ℕ) → file_at t p IsADirectory ≡ Ok bytes → ⊥
  unfolding file_at leads place
  no_file bytes e = no_bytes (way_fault t [] path) bytes (rw is at e)

  unless_done : (r : Result (List ℕ) Fault) → file_at t p IsADirectory ≡ r → (unless r t (λ bytes. (answers.Done, t))).0 ≡ answers.Done → ⊥
  unless_done r e done = grind (arith, no_file)

  pub none_synced : (luck : Luck) → (apply t (steps.SyncFile p) luck).0 ≡ answers.Done → ⊥
  none_synced luck =
      apply_answer (λ a. a ≡ answers.Done → ⊥) (λ other done. absurd cc) t (steps.SyncFile p) luck (λ most. unless_done (file_at t p IsADirectory) refl)

-- ---- what is at the place of a commit's move, while others remove, link and export nothing

quiet_later : (s : Setup) (path : Names) (w : Now) (more later : List Record) → AreQuiet s path w (more ++ later) → AreQuiet s path (replayed s w more) later
quiet_later s path w [] later quiet = quiet
quiet_later s path w (r ∷ more) later quiet = quiet_later s path (now_after s w r) more later quiet.1

-- the place of a commit's move, in a legal history that has only quiet moves from a place before it on
pub record QuietPlace (h : History) (folder path : Names) (before rest : List Record) (caller : ℕ) (made : Made) (more : Moves) : Type 0 where
  pub legal : IsLegal h
  pub home_is : home h.setup ≡ Some folder
  pub is : h.records ≡ before ++ rest
  pub quiet : AreQuiet h.setup path (now_at h before) rest
  pub reply : Reply
  pub call : Call
  pub place : PlaceOf h.setup caller reply (now_at h before) rest call made more

module _ {h : History} {folder path : Names} {before rest : List Record} {caller : ℕ} {made : Made} {more : Moves} (q : QuietPlace h folder path before rest caller made more) where
  -- the records before the move, its own, and the move
  abbrev pub here : List Record
  here = before ++ q.place.between

  abbrev pub own_record : Record
  own_record = Moved caller q.place.luck (Some made) q.place.told

  abbrev pub own_move : Move
  own_move = record { step = made.0; luck = q.place.luck; answer = made.1 }

  pub split : h.records ≡ here ++ own_record ∷ q.place.later
  split = q.is ∙ ap (λ records. before ++ records) q.place.is ∙ sym (append_assoc before q.place.between (own_record ∷ q.place.later))

  -- from there on all moves are quiet
  pub quiet_here : AreQuiet h.setup path (now_at h here) (own_record ∷ q.place.later)
  quiet_here = search (rules, replay_more, quiet_later)

  calm_here : AreCalm (Some folder) (moment_at h here) (own_move ∷ steps_of q.place.later)
  calm_here = subst (λ home. AreCalm home (moment_at h here) (own_move ∷ steps_of q.place.later)) q.home_is (calm_at h q.legal here (own_record ∷ q.place.later) split path quiet_here)

  -- so the move is calm, and those after it are
  pub calm_move : IsCalm (Some folder) (moment_at h here) own_move
  calm_move = let c = calm_here in (c.1.0, c.0.0, c.0.1)

  pub calm_later : AreCalm (Some folder) (moments.next (moment_at h here) own_move) (steps_of q.place.later)
  calm_later = let c = calm_here in (c.0.2, c.1.1)

  pub cache_here : OfCache (Some folder) (moment_at h here)
  cache_here = subst (λ home. OfCache home (moment_at h here)) q.home_is (of_cache_at h q.legal here (own_record ∷ q.place.later) split).0

  -- the moment after the later moves
  abbrev pub after_own : Moment
  after_own = after (moments.next (moment_at h here) own_move) (steps_of q.place.later)

  -- they lead to the end
  pub leads_to_end : moment_at h h.records ≡ after_own
  leads_to_end = ap (moment_at h) split ∙ moment_more h here (own_record ∷ q.place.later)

  -- what the commit syncs after the move is synced there
  pub texts_here : (folders : List (List ℕ)) → HasDirs folders more → SyncsTexts folders (steps_of q.place.later)
  texts_here folders dirs = syncs_texts folders more (steps_of q.place.later) q.place.has dirs

  -- if the cache's folder is synced there, the cache's text names that folder
  pub cache_text : Has (steps.SyncDir h.setup.cache, answers.Done) more → names_of h.setup.cache ≡ Ok folder
  cache_text synced =
      let c = calm_later in
      cache_named folder (moments.next (moment_at h here) own_move).tree (steps_of q.place.later) h.setup.cache q.home_is c.0 (q.place.has (steps.SyncDir h.setup.cache, answers.Done) synced)

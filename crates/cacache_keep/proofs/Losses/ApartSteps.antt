-- What parts of a log do from a moment on: to the tree that they find, and to what of it is fixed.
-- Steps that leave what stands at a path, and what of it is fixed.
use Rattle.std.proofs.{Common.{◌≡◌, inl, inr, List, [], ◌∷◌, ◌++◌, Option, Some, refl, sym, ap, subst, ◌∙◌, ◌⊎◌, ℕ, Bool, true, false, cond, None, Result, Ok, Err}, ByRecursion.{All-append}}
use Rattle.std.specs.{Prelude.{unwrap_or}, List.{AllByRecursion}}
use Rattle.cacache_core.specs.{declared.errors.{Error.{Error, TheVariants.{IoError, OutOfMemory}}, Fault.{Fault, TheVariants.{IsADirectory}}}, Paths.{Names, names_of}}
use Rattle.cacache_store.specs.{declared.store.{log.LogItem.{LogItem}, plain.PlainTemp.{PlainTemp}, step.Step.TheVariants.{MakeDirs, CreateTemp, Write, Persist, ReadAll, ReadDir, SyncTemp, SyncFile, SyncDir}}, Plain.{PlainStep, PlainAnswer}}
use Rattle.cacache_disk.specs.{declared.{luck.Luck.TheVariants.{Plain}, node.Node.{Node, TheVariants.{File}}}, Tree.{Tree, bytes_of, cut, look, Rooted}, Apply.{apply}, Replay.{tree_of, IsLog}, LedTo.{file_at, folder, leads}}
use Rattle.cacache_disk.proofs.Maps.{same_path-true}
use Rattle.cacache_calls.specs.{Runs.{Gains, Moves}, SingleSteps.{Does, FailsAt}}
use Rattle.cacache_laws.specs.Sequence.{tree_on, plain_moves, AreAnswered}
use Rattle.cacache_laws.proofs.{Calls.InParts.{logs_lead}, trees.{Logged.{answered_split, gains_join, log_rooted}, HiddenKeys.{moves_rooted}}, results.LinkerResults.{moves_same}}
use Rattle.cacache_loss.specs.{Moments.{Moment, after, next, is_calm}, declared.fixing.Fixing.{Fixing}, Fixing.{Fixed, changed, file_synced, fixed_after, folder_synced, is_at, is_child_of, is_sync, is_synced, synced, temp_synced}}
use Rattle.cacache_loss.proofs.{KeptPaths.{sync_tree}, StepCases.{PersistCase, asked_keeps, cut_misses, dirs_keep, make_keeps, moved, persist_case, put_misses, refused, step_keeps, temp_keeps}, Reaching.{Misses, at_names, file_kept, moved_false, name_kept, rewrites_false, writes_false}}
use Rattle.cacache_keep.proofs.{Stopped.{gains_none}, TreeRuns.{Leads}}
use Rattle.cacache_store.specs.declared.store.answer.Answer.TheVariants as answers

-- the moment after these moves
abbrev pub later : Moment → Moves → Moment
later w moves = after w (plain_moves moves)

pub later_tree : (w : Moment) (moves : Moves) → (later w moves).tree ≡ tree_on w.tree moves
later_tree w [] = refl
later_tree w (m ∷ moves) = later_tree (next w (record { step = m.0; luck = Plain; answer = m.1 })) moves

pub later_split : (w : Moment) (one two : Moves) → later w (one ++ two) ≡ later (later w one) two
later_split w [] two = refl
later_split w (m ∷ one) two = later_split (next w (record { step = m.0; luck = Plain; answer = m.1 })) one two

pub later_rooted : (w : Moment) (moves : Moves) → Rooted w.tree → Rooted (later w moves).tree
later_rooted w moves rooted = subst Rooted (sym (later_tree w moves)) (moves_rooted moves w.tree rooted)

-- moves that a log gained; this is so of them from each moment on whose tree answers them
pub record Fixes (P : Moment → Moves → Type 0) (old new : Option (List LogItem)) : Type 0 where
  pub moves : Moves
  pub gains : Gains old new moves
  pub tells : (w : Moment) → Rooted w.tree → AreAnswered w.tree moves → P w moves

pub fixes_none : (P : Moment → Moves → Type 0) (old new : Option (List LogItem)) → new ≡ old → ((w : Moment) → P w []) → Fixes P old new
fixes_none P old new e so = record { moves = []; gains = gains_none old new e; tells = λ w rooted a. so w }

pub fixes_step : (P : Moment → Moves → Type 0) (step : PlainStep) (answer : PlainAnswer) (old new : Option (List LogItem)) → Does step answer old new
    → ((w : Moment) → Rooted w.tree → answer ≡ (apply w.tree step Plain).0 → P w ((step, answer) ∷ [])) → Fixes P old new
fixes_step P step answer old new does so = record { moves = (step, answer) ∷ []; gains = does; tells = λ w rooted a. so w rooted a.0 }

pub fixes_then : (P Q R : Moment → Moves → Type 0) (old mid new : Option (List LogItem)) → Fixes P old mid → Fixes Q mid new
    → ((w : Moment) (one two : Moves) → Rooted w.tree → P w one → Q (later w one) two → R w (one ++ two)) → Fixes R old new
fixes_then P Q R old mid new one two so = record {
  moves = one.moves ++ two.moves;
  gains = gains_join old mid new one.moves two.moves one.gains two.gains;
  tells = λ w rooted a.
      let parts = answered_split w.tree one.moves two.moves a in
      let next = later_rooted w one.moves rooted in
      so w one.moves two.moves rooted (one.tells w rooted parts.0) (two.tells (later w one.moves) next (subst (λ t. AreAnswered t two.moves) (sym (later_tree w one.moves)) parts.1));
}

pub fixes_as : (P Q : Moment → Moves → Type 0) (old new : Option (List LogItem)) → Fixes P old new → ((w : Moment) (moves : Moves) → Rooted w.tree → P w moves → Q w moves) → Fixes Q old new
fixes_as P Q old new one so = record { moves = one.moves; gains = one.gains; tells = λ w rooted a. so w one.moves rooted (one.tells w rooted a) }

-- a step that failed, if that is so whichever fault it was, and if no step was made
pub fixes_failed : (P : Moment → Moves → Type 0) (step : PlainStep) (e : Error) (old new : Option (List LogItem)) → FailsAt step e old new
    → ((w : Moment) → P w []) → ((w : Moment) (fault : Fault) → Rooted w.tree → answers.Failed fault ≡ (apply w.tree step Plain).0 → P w ((step, answers.Failed fault) ∷ [])) → Fixes P old new
fixes_failed P step (IoError fault message) old new fails none so = fixes_step P step (answers.Failed fault) old new fails (λ w rooted e. so w fault rooted e)
fixes_failed P step OutOfMemory old new (inl same) none so = fixes_none P old new same none
fixes_failed P step OutOfMemory old new (inr (fault, does)) none so = fixes_step P step (answers.Failed fault) old new does (λ w rooted e. so w fault rooted e)
fixes_failed P step e old new fails none so = absurd fails

-- what is so of the trees
abbrev pub OfTrees : (Tree → Tree → Type 0) → Moment → Moves → Type 0
OfTrees P w moves = P w.tree (later w moves).tree

pub fixes_leads : (P : Tree → Tree → Type 0) (old new : Option (List LogItem)) → Leads P old new → Fixes (OfTrees P) old new
fixes_leads P old new l = record {
  moves = l.moves;
  gains = l.gains;
  tells = λ w rooted a. subst (λ t. P w.tree t) (sym (later_tree w l.moves)) (l.tells w.tree rooted a);
}

-- ---- the moves that a log gained

-- on the log of a store in memory, from a moment that has its tree
pub fixes_on : (P : Moment → Moves → Type 0) (old new : List LogItem) (moves : Moves) (w : Moment) → IsLog new → Gains (Some old) (Some new) moves → w.tree ≡ tree_of old → Fixes P (Some old) (Some new) → P w moves
fixes_on P old new moves w logged gains tree f =
    let lead = logs_lead old new f.moves f.gains logged in
    subst (P w) (moves_same old new f.moves moves f.gains gains) (f.tells w (subst Rooted (sym tree) (log_rooted old)) (subst (λ t. AreAnswered t f.moves) (sym tree) lead.0))

-- the tree after that
pub tree_then : (old new : List LogItem) (moves : Moves) (w : Moment) → IsLog new → Gains (Some old) (Some new) moves → w.tree ≡ tree_of old → (later w moves).tree ≡ tree_of new
tree_then old new moves w logged gains tree =
    let lead = logs_lead old new moves gains logged in
    later_tree w moves ∙ ap (λ t. tree_on t moves) tree ∙ sym lead.1

-- a path names what it is said to name
pub named_there : (path : List ℕ) (q : Names) → is_at (names_of path) q ≡ true → names_of path ≡ Ok q
named_there path q = by (names_of path)
  where
    by : (r : Result Names Fault) → is_at r q ≡ true → r ≡ Ok q
    by (Ok names) here = ap Ok (sym (same_path-true q names here))
    by (Err fault) here = absurd cc

-- a step that makes folders, or that reads, syncs, writes or moves what lies elsewhere
abbrev pub Apart : Names → PlainStep → Type 0
Apart q (MakeDirs p) = Unit {0}
Apart q (CreateTemp p) = is_at (names_of p) q ≡ false
Apart q (Write f bytes) = is_at (names_of f.path) q ≡ false
Apart q (Persist f p) = (is_at (names_of f.path) q ≡ false) × (is_at (names_of p) q ≡ false)
Apart q (ReadAll p) = Unit {0}
Apart q (ReadDir p) = Unit {0}
Apart q (SyncTemp f) = is_at (names_of f.path) q ≡ false
Apart q (SyncFile p) = Unit {0}
Apart q (SyncDir p) = Unit {0}
Apart q step = ⊥

abbrev pub IsWhole : Fixed → Names → Type 0
IsWhole fixed q = (fixed.files q).whole ≡ true

-- the node is still there; its bytes are as far fixed or synced, and the name as far or further
pub record Kept (w v : Moment) (q : Names) (node : Node) : Type 0 where
  pub stands : look v.tree q ≡ Some node
  pub files : (v.fixed.files q ≡ w.fixed.files q) ⊎ (v.fixed.files q ≡ synced (bytes_of (Some node)))
  pub name : (v.fixed.names q ≡ w.fixed.names q) ⊎ (v.fixed.names q ≡ None)

-- a name that is fixed stays so
pub name_still : (w v : Moment) (q : Names) (node : Node) → Kept w v q node → w.fixed.names q ≡ None → v.fixed.names q ≡ None
name_still w v q node k none = by k.name
  where
    by : (v.fixed.names q ≡ w.fixed.names q) ⊎ (v.fixed.names q ≡ None) → v.fixed.names q ≡ None
    by (inl same) = same ∙ none
    by (inr fixed) = fixed

-- a whole file stays so
pub whole_still : (w v : Moment) (q : Names) (node : Node) → Kept w v q node → IsWhole w.fixed q → IsWhole v.fixed q
whole_still w v q node k whole = by k.files
  where
    by : (v.fixed.files q ≡ w.fixed.files q) ⊎ (v.fixed.files q ≡ synced (bytes_of (Some node))) → IsWhole v.fixed q
    by (inl same) = ap (λ (f : Fixing). f.whole) same ∙ whole
    by (inr now) = ap (λ (f : Fixing). f.whole) now

-- and so does one that is synced
pub synced_still : (w v : Moment) (q : Names) (node : Node) → Kept w v q node → w.fixed.files q ≡ synced (bytes_of (Some node)) → v.fixed.files q ≡ synced (bytes_of (Some node))
synced_still w v q node k before = by k.files
  where
    by : (v.fixed.files q ≡ w.fixed.files q) ⊎ (v.fixed.files q ≡ synced (bytes_of (Some node))) → v.fixed.files q ≡ synced (bytes_of (Some node))
    by (inl same) = same ∙ before
    by (inr now) = now

pub kept_none : (w : Moment) (q : Names) (node : Node) → look w.tree q ≡ Some node → Kept w w q node
kept_none w q node there = record { stands = there; files = inl refl; name = inl refl }

pub kept_then : (w v u : Moment) (q : Names) (node : Node) → Kept w v q node → Kept v u q node → Kept w u q node
kept_then w v u q node one two = record { stands = two.stands; files = so two.files; name = by two.name }
  where
    so : (u.fixed.files q ≡ v.fixed.files q) ⊎ (u.fixed.files q ≡ synced (bytes_of (Some node))) → (u.fixed.files q ≡ w.fixed.files q) ⊎ (u.fixed.files q ≡ synced (bytes_of (Some node)))
    so (inr now) = inr now
    so (inl same) = on one.files
      where
        on : (v.fixed.files q ≡ w.fixed.files q) ⊎ (v.fixed.files q ≡ synced (bytes_of (Some node))) → (u.fixed.files q ≡ w.fixed.files q) ⊎ (u.fixed.files q ≡ synced (bytes_of (Some node)))
        on (inl before) = inl (same ∙ before)
        on (inr now) = inr (same ∙ now)

    by : (u.fixed.names q ≡ v.fixed.names q) ⊎ (u.fixed.names q ≡ None) → (u.fixed.names q ≡ w.fixed.names q) ⊎ (u.fixed.names q ≡ None)
    by (inr fixed) = inr fixed
    by (inl same) = on one.name
      where
        on : (v.fixed.names q ≡ w.fixed.names q) ⊎ (v.fixed.names q ≡ None) → (u.fixed.names q ≡ w.fixed.names q) ⊎ (u.fixed.names q ≡ None)
        on (inl before) = inl (same ∙ before)
        on (inr fixed) = inr (same ∙ fixed)

-- ---- one step

module _ (t : Tree) (fixed : Fixed) (q : Names) (node : Node) (there : look t q ≡ Some node) where
  abbrev KeptIn : Tree → Fixed → Type 0
  KeptIn new then = Kept (record { tree = t; fixed = fixed }) (record { tree = new; fixed = then }) q node

  -- a step that is no sync
  missed : (step : PlainStep) (answer : PlainAnswer) (new : Tree) → look new q ≡ Some node → is_calm step ≡ true → Misses q step → KeptIn new (changed fixed t new step answer)
  missed step answer new stays calm misses = record {
    stands = stays;
    files = inl (file_kept fixed t new step answer q (Some node) there stays (moved_false step answer q misses) (rewrites_false t step q calm) (writes_false step q misses));
    name = inl (name_kept fixed t new step answer q (Some node) there stays (moved_false step answer q misses));
  }

  -- a sync
  by_sync : (step : PlainStep) (b : Bool) (then : Fixed) → is_sync step ≡ true → (then.files q ≡ fixed.files q) ⊎ (then.files q ≡ synced (bytes_of (Some node)))
      → (then.names q ≡ fixed.names q) ⊎ (then.names q ≡ None) → KeptIn (apply t step Plain).1 (cond b then fixed)
  by_sync step b then is files name = subst (λ new. KeptIn new (cond b then fixed)) (sym (sync_tree t step Plain is)) (by b)
    where
      by : (b : Bool) → KeptIn t (cond b then fixed)
      by true = record { stands = there; files = files; name = name }
      by false = record { stands = there; files = inl refl; name = inl refl }

  cond_synced : (b : Bool) → (cond b (synced (bytes_of (look t q))) (fixed.files q) ≡ fixed.files q) ⊎ (cond b (synced (bytes_of (look t q))) (fixed.files q) ≡ synced (bytes_of (Some node)))
  cond_synced true = inr (ap (λ o. synced (bytes_of o)) there)
  cond_synced false = inl refl

  cond_either : (b : Bool) → (cond b None (fixed.names q) ≡ fixed.names q) ⊎ (cond b None (fixed.names q) ≡ None)
  cond_either true = inr refl
  cond_either false = inl refl

  move_stays : (f : PlainTemp) (p : List ℕ) (o : PlainAnswer × Tree) → Misses q (Persist f p) → PersistCase t f p o → look o.1 q ≡ Some node
  move_stays f p o misses (refused fault e) = rw e there
  move_stays f p o misses (moved bytes old new has is to e) =
      rw e (put_misses (cut t old) new q (File bytes) (at_names p new q misses.1 to) ∙ cut_misses t old q (at_names f.path old q misses.0 is) ∙ there)

  pub step_kept : (step : PlainStep) (answer : PlainAnswer) → Apart q step → KeptIn (apply t step Plain).1 (fixed_after fixed t (apply t step Plain).1 step answer)
  step_kept (MakeDirs p) answer apart = missed (MakeDirs p) answer _ (dirs_keep t q (Some node) there p Plain (λ names count named. make_keeps t [] names q node count there)) refl tt
  step_kept (CreateTemp p) answer apart = missed (CreateTemp p) answer _ (temp_keeps t q (Some node) there p Plain (λ names is. at_names p names q apart is)) refl apart
  step_kept (Write f bytes) answer apart = missed (Write f bytes) answer _ (step_keeps t q (Some node) there (Write f bytes) Plain (λ most. there)) refl apart
  step_kept (Persist f p) answer apart = missed (Persist f p) answer _ (move_stays f p (apply t (Persist f p) Plain) apart (persist_case t f p Plain)) refl apart
  step_kept (ReadAll p) answer apart = missed (ReadAll p) answer _ (step_keeps t q (Some node) there (ReadAll p) Plain (λ most. asked_keeps t q (Some node) there (file_at t p IsADirectory) _)) refl tt
  step_kept (ReadDir p) answer apart = missed (ReadDir p) answer _ (step_keeps t q (Some node) there (ReadDir p) Plain (λ most. asked_keeps t q (Some node) there (folder t p) _)) refl tt
  step_kept (SyncTemp f) answer apart =
      by_sync (SyncTemp f) (is_synced answer) (temp_synced fixed f) refl (inl (ap (λ b. cond b (synced (unwrap_or f.bytes [])) (fixed.files q)) apart)) (inl refl)
  step_kept (SyncFile p) answer apart = by_sync (SyncFile p) (is_synced answer) (file_synced fixed t p) refl (cond_synced (is_at (leads t p) q)) (inl refl)
  step_kept (SyncDir p) answer apart = by_sync (SyncDir p) (is_synced answer) (folder_synced fixed p) refl (inl refl) (cond_either (is_child_of (names_of p) q))
  step_kept step answer apart = absurd apart

-- ---- many steps

abbrev pub EachApart : Names → Moves → Type 0
EachApart q = AllByRecursion (λ (m : PlainStep × PlainAnswer). Apart q m.0)

pub apart_join : (q : Names) (one two : Moves) → EachApart q one → EachApart q two → EachApart q (one ++ two)
apart_join q = All-append (λ (m : PlainStep × PlainAnswer). Apart q m.0)

pub moves_kept : (w : Moment) (moves : Moves) (q : Names) (node : Node) → look w.tree q ≡ Some node → EachApart q moves → Kept w (later w moves) q node
moves_kept w [] q node there apart = kept_none w q node there
moves_kept w (m ∷ moves) q node there apart =
    let v = next w (record { step = m.0; luck = Plain; answer = m.1 }) in
    let one : Kept w (next w (record { step = m.0; luck = Plain; answer = m.1 })) q node = step_kept w.tree w.fixed q node there m.0 m.1 apart.0 in
    kept_then w v (later w (m ∷ moves)) q node one (moves_kept v moves q node one.stands apart.1)

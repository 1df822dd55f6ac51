-- What a calm step keeps at a path that it doesn't reach, and calm moves that leave a temporary file alone.
use Rattle.std.proofs.{lemmas.Grind.{common_steps}, Common.{rules, ◌≡◌, ◌+◌, ℕ, Bool, true, false, cond, List, [], ◌∷◌, ◌++◌, Option, None, Some, refl, ◌∙◌, arith}}
use Rattle.cacache_core.specs.Paths.{Names, names_of}
use Rattle.cacache_store.specs.{declared.store.step.Step.TheVariants.{MakeDirs, CreateTemp, Write, Persist, Append, Symlink, Copy, Reflink, HardLink, RemoveFile, RemoveDir, SyncTemp, SyncFile, SyncDir}, Plain.{PlainStep, PlainAnswer}}
use Rattle.cacache_disk.specs.{declared.{luck.Luck.{Luck}, node.Node.{Node, TheVariants.{Folder, File}}}, Tree.{Tree, look, cut}, Apply.{apply, make_some}}
use Rattle.cacache_disk.proofs.{Changes.{MakeFolders, Makes, MoveFile, NoChange, PutNode, TreeChange, by_changes, made_by}, FoundNodes.{dirs_ok, free_ok, kept_ok, replaceable_ok}, KeptFolders.{steps_keep_rooted, is_child-snoc}}
use Rattle.cacache_value.specs.{Kinds.{Content, Bucket, Temporary, Way, path_kind}, Placed.{Placed, Proper}, Acts.{Move}}
use Rattle.cacache_value.proofs.{Applying.{of_names}, Temps.{written}, Traces.{steps_keep_placed}}
use Rattle.cacache_loss.specs.{Fixing.{Fixed, Fixing, file_after, file_synced, fixed_after, is_sync, is_synced, name_after, synced, temp_synced, moved_to, moves_file, rewrites_at, writes_at}, Moments.{EachMove, Moment, next, AreCalm, CalmStep, HandlesTemp, IsCalm, is_calm}, LostTrees.{OfCache}, Syncs.{IsFolderSync, Leaves, LeavesStep, SpareTemp, Spares}, LossLaws.{SparedTempsAreLeft}}
use Rattle.cacache_loss.proofs.{StepCases.{cut_misses, make_keeps, put_misses, make_apart}, Reaching.{at_false, Misses, rewrites_false, writes_false, moved_false, at_names, file_kept, name_kept}}

module _ (home : Option Names) (t : Tree) (placed : Placed home t) (q : Names) (here : Option Node) (there : look t q ≡ here)
    (made : (names : Names) (count : ℕ) → path_kind home names ≡ Way → look (make_some t [] names count) q ≡ here) where
  change_keeps : (step : PlainStep) (c : TreeChange) → is_calm step ≡ true → Proper home step → Misses q step → Makes t step c → look (made_by t c) q ≡ here
  change_keeps (MakeDirs p) (MakeFolders names most) calm is misses m = made names most (of_names (λ n. path_kind home n ≡ Way) p names is (dirs_ok t p names m))
  change_keeps (CreateTemp p) (PutNode names node) calm is misses m = put_misses t names q node (at_names p names q misses (free_ok t p names m.0).0) ∙ there
  change_keeps (Persist f p) (MoveFile from to bytes) calm is misses m =
      put_misses (cut t from) to q (File bytes) (at_names p to q misses.1 (replaceable_ok t p to m.2).0)
      ∙ cut_misses t from q (at_names f.path from q misses.0 (kept_ok t f.path from m.1).0) ∙ there
  change_keeps (Append p bytes) (PutNode names node) calm is misses m = put_misses t names q node (at_names p names q misses (written home t placed p names (names_of p) is.0 refl m)) ∙ there
  change_keeps (Symlink target p) c calm is misses m = absurd cc
  change_keeps (Copy p r) c calm is misses m = absurd cc
  change_keeps (Reflink p r) c calm is misses m = absurd cc
  change_keeps (HardLink p r) c calm is misses m = absurd cc
  change_keeps (RemoveFile p) c calm is misses m = absurd cc
  change_keeps (RemoveDir p) c calm is misses m = absurd cc
  change_keeps step NoChange calm is misses m = there
  change_keeps step c calm is misses m = absurd m

  pub keeps : (step : PlainStep) (luck : Luck) → is_calm step ≡ true → Proper home step → Misses q step → look (apply t step luck).1 q ≡ here
  keeps step luck calm is misses = by_changes (λ new. look new q ≡ here) t step luck (λ c m. change_keeps step c calm is misses m)

  -- what is fixed there stays as well
  pub files_keep : (fixed : Fixed) (step : PlainStep) (luck : Luck) (answer : PlainAnswer) → is_calm step ≡ true → Proper home step → Misses q step
      → file_after fixed t (apply t step luck).1 step answer q ≡ fixed.files q
  files_keep fixed step luck answer calm is misses = search (rules, file_kept, keeps, moved_false, rewrites_false, writes_false)

  pub names_kept : (fixed : Fixed) (step : PlainStep) (luck : Luck) (answer : PlainAnswer) → is_calm step ≡ true → Proper home step → Misses q step
      → name_after fixed t (apply t step luck).1 step answer q ≡ fixed.names q
  names_kept fixed step luck answer calm is misses = search (rules, name_kept, keeps, moved_false)

-- ---- syncs

-- no sync changes the tree
pub sync_tree : (t : Tree) (step : PlainStep) (luck : Luck) → is_sync step ≡ true → (apply t step luck).1 ≡ t
sync_tree t step luck e = by_changes (λ new. new ≡ t) t step luck (by step e)
  where
    by : (step : PlainStep) → is_sync step ≡ true → (c : TreeChange) → Makes t step c → made_by t c ≡ t
    by step e NoChange m = refl
    by (SyncTemp f) e c m = absurd m
    by (SyncFile p) e c m = absurd m
    by (SyncDir p) e c m = absurd m
    by step e c m = absurd cc

-- calm moves one by one
pub each_calm : (home : Option Names) (w : Moment) (moves : List Move) → AreCalm home w moves → EachMove (IsCalm home) w moves
each_calm home w [] calm = tt
each_calm home w (m ∷ moves) calm = ((calm.1.0, calm.0.0, calm.0.1), each_calm home (next w m) moves (calm.0.2, calm.1.1))

-- a whole file that is synced, or not, is whole
pub cond_whole : (b : Bool) (all : List ℕ) (f : Fixing) → f.whole ≡ true → (cond b (synced all) f).whole ≡ true
cond_whole b all f e = grind (arith, common_steps)

-- the tree stays that of a cache
pub cache_next : (home : Option Names) (w : Moment) (m : Move) → OfCache home w → Proper home m.step → OfCache home (next w m)
cache_next home w m of_cache is = (steps_keep_placed home w.tree m.step m.luck of_cache.0 is, steps_keep_rooted w.tree m.step m.luck of_cache.1)

-- ---- names of folders

pub cond_none : {A : Type 0} (b : Bool) (o : Option A) → o ≡ None → cond b None o ≡ None
cond_none b o e = grind (arith, common_steps)

pub none_cond : {A : Type 0} (b : Bool) (o : Option A) → o ≡ None → cond b o None ≡ None
none_cond b o e = grind (arith, common_steps)

-- what a sync fixes, or what was fixed
cond_names : (b : Bool) (later fixed : Fixed) (q : Names) → later.names q ≡ None → fixed.names q ≡ None → (cond b later fixed).names q ≡ None
cond_names b later fixed q new old = grind (arith, common_steps)

-- every step misses the folders of the way
way_misses : (home : Option Names) (q : Names) (step : PlainStep) → path_kind home q ≡ Way → Proper home step → HandlesTemp home step → Misses q step
way_misses home q (CreateTemp p) at is handles = at_false home Temporary Way q (names_of p) is at (λ e. cc)
way_misses home q (Write f bytes) at is handles = at_false home Temporary Way q (names_of f.path) handles at (λ e. cc)
way_misses home q (Persist f p) at is handles =
    (at_false home Temporary Way q (names_of f.path) is.0 at (λ e. cc), at_false home Content Way q (names_of p) is.1 at (λ e. cc))
way_misses home q (Append p bytes) at is handles = at_false home Bucket Way q (names_of p) is.0 at (λ e. cc)
way_misses home q step at is handles = tt

-- a name that is fixed stays fixed while the folder is there
pub fixed_next : (home : Option Names) (t : Tree) (fixed : Fixed) (q : Names) (step : PlainStep) (luck : Luck) (answer : PlainAnswer) → Placed home t
    → path_kind home q ≡ Way → look t q ≡ Some Folder → CalmStep home step → Proper home step → fixed.names q ≡ None
    → (fixed_after fixed t (apply t step luck).1 step answer).names q ≡ None
fixed_next home t fixed q (SyncTemp f) luck answer placed at there calm is e = cond_names (is_synced answer) (temp_synced fixed f) fixed q e e
fixed_next home t fixed q (SyncFile p) luck answer placed at there calm is e = cond_names (is_synced answer) (file_synced fixed t p) fixed q e e
fixed_next home t fixed q (SyncDir p) luck answer placed at there calm is e = search (rules, cond_names, cond_none)
fixed_next home t fixed q step luck answer placed at there calm is e =
    names_kept home t placed q (Some Folder) there (λ names count way. make_keeps t [] names q Folder count there) fixed step luck answer calm.0 is (way_misses home q step at is calm.1) ∙ e

-- a folder that is synced fixes its names
pub sync_fixes : (d : Names) (name : List ℕ) (fixed : Fixed) (t new : Tree) (step : PlainStep) (answer : PlainAnswer) → IsFolderSync d step answer
    → (fixed_after fixed t new step answer).names (d ++ name ∷ []) ≡ None
sync_fixes d name fixed t new (SyncDir p) answer is = rw (is.1, is.0, is_child-snoc d name) refl
sync_fixes d name fixed t new step answer is = absurd is

-- ---- calm moves that spare a temporary file leave it alone

module _ (home : Option Names) (q : Names) (at : path_kind home q ≡ Temporary) where
  misses : (step : PlainStep) → Proper home step → Spares q step → Misses q step
  misses (CreateTemp p) is spares = spares
  misses (Write f bytes) is spares = spares
  misses (Persist f p) is spares = (spares, at_false home Content Temporary q (names_of p) is.1 at (λ e. cc))
  misses (Append p bytes) is spares = at_false home Bucket Temporary q (names_of p) is.0 at (λ e. cc)
  misses step is spares = tt

  -- the four parts of being left, of any step
  abbrev IsLeft : Tree → PlainStep → Tree → PlainAnswer → Type 0
  IsLeft old step new answer =
      (look new q ≡ look old q) × (writes_at step q ≡ false) × (rewrites_at old step q ≡ false) × (moved_to (moves_file step answer) q ≡ false)

  step_left : (w : Moment) (step : PlainStep) (new : Tree) (answer : PlainAnswer) → IsLeft w.tree step new answer → LeavesStep q w step new answer
  step_left w step new answer left = grind (arith, common_steps)

  spared : (t : Tree) (step : PlainStep) (luck : Luck) (answer : PlainAnswer) → Placed home t → is_calm step ≡ true → Proper home step → Spares q step
      → IsLeft t step (apply t step luck).1 answer
  spared t step luck answer placed calm is spares = (
    keeps home t placed q (look t q) refl (λ names count way. make_apart home Temporary t [] names q count at (λ e. cc) way) step luck calm is (misses step is spares),
    writes_false step q (misses step is spares),
    rewrites_false t step q calm,
    moved_false step answer q (misses step is spares),
  )

  all_spared : (w : Moment) (moves : List Move) → OfCache home w → EachMove (IsCalm home) w moves → SpareTemp q moves → EachMove (Leaves q) w moves
  all_spared w [] of_cache calm spares = tt
  all_spared w (m ∷ moves) of_cache calm spares = (
    step_left w m.step (next w m).tree m.answer (spared w.tree m.step m.luck m.answer of_cache.0 calm.0.0.0 calm.0.1 spares.0),
    all_spared (next w m) moves (cache_next home w m of_cache calm.0.1) calm.1 spares.1,
  )

pub spared_temps_are_left : SparedTempsAreLeft
spared_temps_are_left home q w moves at of_cache calm spares = all_spared home q at w moves of_cache (each_calm home w moves calm) spares

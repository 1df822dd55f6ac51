-- Open temporary files and fresh ones from call to call, and what steps leave at their paths.
use Rattle.std.proofs.{Common.{◌≡◌, ℕ, List, [], refl, sym, ap, subst, ◌∙◌, arith, false, rules, Bool, true}, lemmas.{Bool.{false_from_ne_true}, Grind.{common_steps}}}
use Rattle.std.specs.Prelude.{Option, None, Some, Result, Ok, Err, IfOk}
use Rattle.cacache_core.specs.{declared.errors.Fault.{Fault, TheVariants.{InvalidInput}}, Paths.{Names, names_of}}
use Rattle.cacache_disk.specs.{declared.{luck.Luck.{TheVariants.{Plain, Fail, Take}, Luck}, node.Node.{Node, TheVariants.{File, Folder}}}, Tree.{Tree, look, put, cut, same_path}, LedTo.{and_then, place, where_free, free, leads, writable, file_at}, Apply.{apply}}
use Rattle.cacache_disk.proofs.{Maps.{same_path-true}, Changes.{TreeChange, NoChange, PutNode, MoveFile, MakeFolders, CutNode, Makes, made_by, by_changes}, FoundNodes.{dirs_ok, free_ok, kept_ok, replaceable_ok, removable_ok, emptied_ok}, Roots.{same_self}}
use Rattle.cacache_system_model.specs.{Machine.{Machine, OpensIf, CopiesBytes, found_bytes}, Calls.{OccursSomehow}, Mirrors.{without, with_new, temps_after}, callers.Made.{AreTemps}}
use Rattle.cacache_system_model.proofs.{Fresh.{look_new, own_place, own_writable, put_new, free_at_place}, callers.OpenCalls.{Moves}}
use Rattle.cacache_store.specs.Plain.{PlainStep, PlainAnswer}
use Rattle.cacache_loss.{specs.Fixing.{is_at}, proofs.{StepCases.{make_apart, put_misses, cut_misses}, Reaching.{at_names, at_false}}}
use Rattle.cacache_value.specs.{Kinds.{PathKind, Content, Bucket, Temporary, Way, Elsewhere, path_kind, IsFor}, Placed.{Placed, Proper}}
use Rattle.cacache_value.proofs.{Applying.{of_names, writable_out}, Temps.{written}}
use Rattle.cacache_system.specs.declared.call.SystemCall.TheVariants as asks
use Rattle.cacache_system.specs.declared.call.CallResult.TheVariants as says
use Rattle.cacache_store.specs.declared.store.step.Step.TheVariants as steps
use Rattle.cacache_store.specs.declared.store.answer.Answer.TheVariants as answers

-- a file was put where nothing was
abbrev pub IsNew : Tree → List ℕ → Type 0
IsNew t path = (old : Tree) × (names : Names) × (bytes : List ℕ) × (look old names ≡ None) × (place old path ≡ Ok names) × (t ≡ put old names (File bytes))

pub new_moves : (t : Tree) (path : List ℕ) → IsNew t path → Moves t path
new_moves t path (old, names, bytes, none, placed, is) =
    (names, bytes, ap (λ (x : Tree). place x path) is ∙ own_place old names bytes none path placed, ap (λ (x : Tree). look x names) is ∙ look_new old names bytes none)

-- ---- it is made

free_at : (here : Option Node) (old names : Names) → where_free here old ≡ Ok names → (here ≡ None) × (old ≡ names)
free_at None old names e = (refl, cc)
free_at (Some node) old names e = absurd cc

pub free_so : (t : Tree) (r : Result Names Fault) (names : Names) → and_then r (λ x. where_free (look t x) x) ≡ Ok names → (r ≡ Ok names) × (look t names ≡ None)
free_so t (Ok old) names e = let f = free_at (look t old) old names e in (ap Ok f.1, sym (ap (look t) f.1) ∙ f.0)
free_so t (Err fault) names e = absurd cc

made_at : (t : Tree) (path : List ℕ) (r : Result Names Fault) (m n : Machine) (number : ℕ) → free t path ≡ r → m.tree ≡ t → OpensIf r (λ names. put m.tree names (File [])) m (says.Opened number) n → IsNew n.tree path
made_at t path (Ok names) m n number is same (k, is_said, none, (tree, files, synced, folders)) =
    let f = free_so t (place t path) names (sym (free_at_place t path (place t path) refl) ∙ is) in
    (t, names, [], f.1, f.0, tree ∙ ap (λ (x : Tree). put x names (File [])) same)
made_at t path (Err fault) m n number is same (why, is_said, of, memory, stays) = let no : says.Opened number ≡ says.Failed why = is_said in absurd cc

pub made_new : (path : List ℕ) (mode : ℕ) (m n : Machine) (number : ℕ) → OccursSomehow m (asks.CreateNew path mode) (says.Opened number) n → IsNew n.tree path
made_new path mode m n number (Plain, h) = made_at m.tree path (free m.tree path) m n number refl refl h
made_new path mode m n number (Take most, h) = made_at m.tree path (free m.tree path) m n number refl refl h
made_new path mode m n number (Fail fault part, (why, is_said, of, missed, left)) = let no : says.Opened number ≡ says.Failed why = is_said in absurd cc

-- ---- it is filled

copied_new : (path : List ℕ) (source : Result (List ℕ) Fault) (m n : Machine) (count : ℕ) → IsNew m.tree path → CopiesBytes source (writable m.tree path) m (says.Count count) n → IsNew n.tree path
copied_new path (Ok more) m n count (old, names, bytes, none, placed, is) h =
    let at : writable m.tree path ≡ Ok names = ap (λ (x : Tree). writable x path) is ∙ own_writable old names bytes none path placed in
    let copied : CopiesBytes (Ok more) (Ok names) m (says.Count count) n = subst (λ (r : Result Names Fault). CopiesBytes (Ok more) r m (says.Count count) n) at h in
    (old, names, more, none, placed, copied.1.0 ∙ ap (λ (x : Tree). put x names (File more)) is ∙ put_new old names bytes none more)
copied_new path (Err fault) m n count new (why, is_said, of, memory, stays) = let no : says.Count count ≡ says.Failed why = is_said in absurd cc

pub filled_new : (from path : List ℕ) (m n : Machine) (count : ℕ) → IsNew m.tree path → OccursSomehow m (asks.CopyFile from path) (says.Count count) n → IsNew n.tree path
filled_new from path m n count new (Plain, h) = copied_new path (found_bytes (leads m.tree from) (writable m.tree path) (file_at m.tree from InvalidInput)) m n count new h
filled_new from path m n count new (Take most, h) = copied_new path (found_bytes (leads m.tree from) (writable m.tree path) (file_at m.tree from InvalidInput)) m n count new h
filled_new from path m n count new (Fail fault part, (why, is_said, of, missed, left)) = let no : says.Count count ≡ says.Failed why = is_said in absurd cc

-- ---- what the steps of calls leave at a path of a temporary file

-- a step that makes, writes, moves and removes no file at this path of a temporary one
abbrev pub Misses : Names → PlainStep → Type 0
Misses q (steps.CreateTemp p) = is_at (names_of p) q ≡ false
Misses q (steps.Write f bytes) = is_at (names_of f.path) q ≡ false
Misses q (steps.Persist f p) = is_at (names_of f.path) q ≡ false
Misses q (steps.RemoveFile p) = is_at (names_of p) q ≡ false
Misses q step = Unit {0}

-- what isn't for temporary files is no path of one
pub is_elsewhere : (h : Option Names) (q : Names) (r : Result Names Fault) → path_kind h q ≡ Temporary → IfOk r (λ names. path_kind h names ≡ Temporary → ⊥) → is_at r q ≡ false
is_elsewhere h q r at other = grind (arith, other, same_path-true)

module _ (h : Option Names) (t : Tree) (placed : Placed h t) (q : Names) (at : path_kind h q ≡ Temporary) (no_folder : look t q ≡ Some Folder → ⊥) where
  other : (k : PathKind) (names : Names) → path_kind h names ≡ k → (Temporary ≡ k → ⊥) → same_path q names ≡ false
  other k names is apart = false_from_ne_true (same_path q names) (λ e. apart (sym at ∙ ap (path_kind h) (same_path-true q names e) ∙ is))

  named : (k : PathKind) (p : List ℕ) (names : Names) → IsFor h k p → (Temporary ≡ k → ⊥) → names_of p ≡ Ok names → same_path q names ≡ false
  named k p names is apart e = other k names (of_names (λ n. path_kind h n ≡ k) p names is e) apart

  -- what is put at a path of another kind leaves it
  puts_apart : (k : PathKind) (p : List ℕ) (names : Names) (node : Node) → IsFor h k p → (Temporary ≡ k → ⊥) → names_of p ≡ Ok names → look (put t names node) q ≡ look t q
  puts_apart k p names node is apart e = put_misses t names q node (named k p names is apart e)

  change_keeps : (step : PlainStep) (c : TreeChange) → Proper h step → Misses q step → Makes t step c → look (made_by t c) q ≡ look t q
  change_keeps (steps.MakeDirs p) (MakeFolders names most) is misses m = make_apart h Temporary t [] names q most at (λ e. cc) (of_names (λ n. path_kind h n ≡ Way) p names is (dirs_ok t p names m))
  change_keeps (steps.CreateTemp p) (PutNode names node) is misses m = put_misses t names q node (at_names p names q misses (free_ok t p names m.0).0)
  change_keeps (steps.Persist f p) (MoveFile from to bytes) is misses m =
      put_misses (cut t from) to q (File bytes) (named Content p to is.1 (λ s. cc) (replaceable_ok t p to m.2).0) ∙ cut_misses t from q (at_names f.path from q misses (kept_ok t f.path from m.1).0)
  change_keeps (steps.Append p bytes) (PutNode names node) is misses m = puts_apart Bucket p names node is.0 (λ s. cc) (written h t placed p names (names_of p) is.0 refl m)
  change_keeps (steps.Symlink target p) (PutNode names node) is misses m = puts_apart Content p names node is.0 (λ s. cc) (free_ok t p names m.0).0
  change_keeps (steps.Copy p r) (PutNode names node) is misses m = put_misses t names q node (other Elsewhere names (writable_out h t r names placed is m).0 (λ s. cc))
  change_keeps (steps.Reflink p r) (PutNode names node) is misses m = puts_apart Elsewhere r names node is (λ s. cc) (free_ok t r names m).0
  change_keeps (steps.HardLink p r) (PutNode names node) is misses m = puts_apart Elsewhere r names node is (λ s. cc) (free_ok t r names m.0).0
  change_keeps (steps.RemoveFile p) (CutNode names) is misses m = cut_misses t names q (at_names p names q misses (removable_ok t p names m).0)
  change_keeps (steps.RemoveDir p) (CutNode names) is misses m =
      cut_misses t names q (false_from_ne_true (same_path q names) (λ e. no_folder (ap (look t) (same_path-true q names e) ∙ (emptied_ok t p names m).1)))
  change_keeps step NoChange is misses m = refl
  change_keeps step c is misses m = absurd m

  pub look_kept : (step : PlainStep) (luck : Luck) → Proper h step → Misses q step → look (apply t step luck).1 q ≡ look t q
  look_kept step luck is misses = by_changes (λ new. look new q ≡ look t q) t step luck (λ c m. change_keeps step c is misses m)

-- ---- the open temporary files after a step

new_kind : (h : Option Names) (temps : Names → Bool) (r : Result Names Fault) → IfOk r (λ names. path_kind h names ≡ Temporary) → AreTemps h temps → AreTemps h (with_new temps r)
new_kind h temps r is old q e = grind (arith, same_path-true)

fewer_kind : (h : Option Names) (temps : Names → Bool) (r : Result Names Fault) → AreTemps h temps → AreTemps h (without temps r)
fewer_kind h temps r old q e = grind (arith, common_steps)

-- a step of a proper cache opens temporary files only where they belong
pub temps_kept : (h : Option Names) (temps : Names → Bool) (step : PlainStep) (a : PlainAnswer) → Proper h step → AreTemps h temps → AreTemps h (temps_after temps step a)
temps_kept h temps step a is old = grind (arith, new_kind, fewer_kind)

with_new_keeps : (temps : Names → Bool) (r : Result Names Fault) (q : Names) → temps q ≡ true → with_new temps r q ≡ true
with_new_keeps temps r q e = grind (arith, common_steps)

pub with_new_here : (temps : Names → Bool) (r : Result Names Fault) (names : Names) → r ≡ Ok names → with_new temps r names ≡ true
with_new_here temps r names is = search (rules, same_self)

without_same : (temps : Names → Bool) (r : Result Names Fault) (q : Names) → is_at r q ≡ false → without temps r q ≡ temps q
without_same temps r q e = grind (arith, common_steps)

pub temps_spare : (h : Option Names) (temps : Names → Bool) (step : PlainStep) (a : PlainAnswer) (q : Names) → path_kind h q ≡ Temporary → Proper h step → Misses q step → temps q ≡ true
    → temps_after temps step a q ≡ true
temps_spare h temps (steps.CreateTemp p) (answers.Temp f) q at is misses e = with_new_keeps temps (names_of p) q e
temps_spare h temps (steps.CreateTemp p) a q at is misses e = e
temps_spare h temps (steps.Persist f p) answers.Done q at is misses e =
    without_same (without temps (names_of f.path)) (names_of p) q (at_false h Content Temporary q (names_of p) is.1 at (λ s. cc)) ∙ without_same temps (names_of f.path) q misses ∙ e
temps_spare h temps (steps.Persist f p) a q at is misses e = e
temps_spare h temps (steps.RemoveFile p) answers.Done q at is misses e = without_same temps (names_of p) q misses ∙ e
temps_spare h temps (steps.RemoveFile p) a q at is misses e = e
temps_spare h temps step a q at is misses e = e

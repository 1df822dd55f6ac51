-- The step theorem, one kind of step after another.
use Rattle.std.proofs.{Common.{arith, rules, ◌≡◌, ℕ, false, List, [], ◌∷◌, ◌++◌, Option, None, Some, Ok, Err, take, refl, sym, ap, subst, ◌∙◌}, lemmas.{Grind.{common_steps}, List.{take_min}}}
use Rattle.std.specs.Prelude.{Result, IfOk}
use Rattle.cacache_core.specs.{declared.errors.Fault.{Fault, TheVariants.{NotFound, IsADirectory, InvalidInput}}, Paths.{names_of}}
use Rattle.cacache_store.specs.{declared.store.{plain.PlainTemp.{PlainTemp}, step.Step.TheVariants.{MakeDirs, CreateTemp, Write, Persist, Append, ReadAll, Open, Read, Size, Exists, Symlink, Copy, Reflink, HardLink, ReadDir, RemoveFile, RemoveDir, SyncTemp, SyncFile, SyncDir}, answer.Answer.TheVariants.{Took, Failed}}, Plain.{PlainStep, PlainAnswer}}
use Rattle.cacache_disk.specs.{declared.{luck.Luck.{Luck, TheVariants.{Plain, Fail, Take}}, node.Node.{Node, TheVariants.{File, Link}}}, Tree.{Tree, Names, look, put, cut, bytes_of, is_folder}, LedTo.{dirs, free, known, kept, replaceable, writable, file_at, linked, removable, emptied, folder}, Apply.{apply, plain, unless, taken, made_up, making, make_some}}
use Rattle.cacache_disk.proofs.{PutNodes.{folders-cut}, FoundNodes.{free_ok, kept_ok, replaceable_ok, removable_ok, emptied_ok}, Changes.{apply_tree, unless_tree}}
use Rattle.cacache_entry.specs.{Entry.{piece_of, closing}, Bucket.{entries_of}}
use Rattle.cacache_value.specs.{Kinds.{PathKind, Content, Bucket, Temporary, Way, Elsewhere, path_kind, IsFor}, Value.{InFile, wide_value}, Acts.{Act, Nothing, PutBytes, PutLink, AddEntries, Drop, MakeFolders, DropFolder, put_blob, act_at, act_with, amount_left, folders_left, act_of, change}, Placed.{MayStand, Placed, Proper}}
use Rattle.cacache_value.proofs.{PutValues.{placed_put, placed_cut, put_hidden, cut_hidden, put_content, put_bucket, cut_file, cut_folder}, Applying.{suits, Reaches, found, missing, bucket_reached, unreachable, unmakeable, of_names, linked_ok, writable_out, Acted, unless_acted, apply_acted, apply_refused, refused, amount_left-made_up}, MadeFolders.{made, no_dirs_fault, bucket_left}}

pub known_ok : (o : Option (List ℕ)) (bytes : List ℕ) → known o ≡ Ok bytes → o ≡ Some bytes
known_ok o bytes e = grind (arith, common_steps)

no_folder_in : (home : Option Names) (here : Option Node) → MayStand home here Bucket → is_folder here ≡ false
no_folder_in home here s = grind (arith, common_steps)

-- a placed tree with the same value
abbrev pub Same : Option Names → Tree → Tree → Type 0
Same home t new = Placed home new × (wide_value home new ≡ wide_value home t)

module _ (home : Option Names) (t : Tree) (placed : Placed home t) where
  -- a step that never changes the tree
  quiet : (step : PlainStep) (luck : Luck) → ((most : Option ℕ) → Same home t (plain t step most).1) → Same home t (apply t step luck).1
  quiet step luck h = apply_tree (Same home t) t step luck (placed, refl) h

  asked_only : {A : Type 0} (r : Result A Fault) (answer : A → PlainAnswer) → Same home t (unless r t (λ a. (answer a, t))).1
  asked_only r answer = unless_tree (Same home t) r t (λ a. (answer a, t)) (placed, refl) (λ a is. (placed, refl))

  -- a file or link put at a path at which the cache keeps nothing
  put_aside : (names : Names) (node : Node) (k : PathKind) → path_kind home names ≡ k → (Content ≡ k → ⊥) → (Bucket ≡ k → ⊥) → MayStand home (Some node) k
      → is_folder (Some node) ≡ false → is_folder (look t names) ≡ false
      → Same home t (put t names node)
  put_aside names node k is c b s fresh old = (
    placed_put home t names node (subst (MayStand home (Some node)) (sym is) s) placed,
    put_hidden home t names node (λ e. c (e ∙ is)) (λ e. b (e ∙ is)) fresh old,
  )

  -- a path's names, and what the path is for
  for_names : (path : List ℕ) (names : Names) (k : PathKind) → IsFor home k path → names_of path ≡ Ok names → path_kind home names ≡ k
  for_names path names k is e = of_names (λ n. path_kind home n ≡ k) path names is e

  temp_kept : (p : List ℕ) (luck : Luck) → IsFor home Temporary p → Same home t (apply t (CreateTemp p) luck).1
  temp_kept p luck is =
      quiet (CreateTemp p) luck (λ most. unless_tree (Same home t) (free t p) t _ (placed, refl) (λ names found.
      let f = free_ok t p names found in
      put_aside names (File []) Temporary (for_names p names Temporary is f.0) (λ e. cc) (λ e. cc) tt refl f.1))

  -- ---- steps that put what the cache doesn't keep

  out : (names : Names) (node : Node) → path_kind home names ≡ Elsewhere → MayStand home (Some node) Elsewhere → is_folder (Some node) ≡ false
      → is_folder (look t names) ≡ false → Same home t (put t names node)
  out names node is s fresh old = put_aside names node Elsewhere is (λ e. cc) (λ e. cc) s fresh old

  copy_kept : (p q : List ℕ) (luck : Luck) → IsFor home Elsewhere q → Same home t (apply t (Copy p q) luck).1
  copy_kept p q luck is =
      quiet (Copy p q) luck (λ most. unless_tree (Same home t) (file_at t p InvalidInput) t _ (placed, refl) (λ bytes read.
      unless_tree (Same home t) (writable t q) t _ (placed, refl) (λ names found.
      let f = writable_out home t q names placed is found in
      out names (File (take (taken most bytes) bytes)) f.0 tt refl f.1)))

  reflink_kept : (p q : List ℕ) (luck : Luck) → IsFor home Elsewhere q → Same home t (apply t (Reflink p q) luck).1
  reflink_kept p q luck is =
      quiet (Reflink p q) luck (λ most. unless_tree (Same home t) (free t q) t _ (placed, refl) (λ names found.
      unless_tree (Same home t) (file_at t p IsADirectory) t _ (placed, refl) (λ bytes read.
      let f = free_ok t q names found in
      out names (File bytes) (for_names q names Elsewhere is f.0) tt refl f.1)))

  hard_link_kept : (p q : List ℕ) (luck : Luck) → IsFor home Elsewhere q → Same home t (apply t (HardLink p q) luck).1
  hard_link_kept p q luck is =
      quiet (HardLink p q) luck (λ most. unless_tree (Same home t) (free t q) t _ (placed, refl) (λ names found.
      unless_tree (Same home t) (linked t p) t _ (placed, refl) (λ node there.
      let f = free_ok t q names found in
      let l = linked_ok home t p node placed there in
      out names node (for_names q names Elsewhere is f.0) l.0 l.1 f.1)))

  -- ---- steps that put or cut what the cache keeps

  named : (path : List ℕ) (names : Names) (act : Names → Act) (new : Tree) → names_of path ≡ Ok names
      → wide_value home new ≡ change home (act names) (wide_value home t)
      → wide_value home new ≡ change home (act_at (names_of path) act) (wide_value home t)
  named path names act new is e = e ∙ ap (λ r. change home (act_at r act) (wide_value home t)) (sym is)

  link_placed : (target p : List ℕ) (luck : Luck) → IsFor home Content p → IsFor home Elsewhere target
      → Placed home (apply t (Symlink target p) luck).1
  link_placed target p luck is leads_out =
      apply_tree (Placed home) t (Symlink target p) luck placed (λ most. unless_tree (Placed home) (free t p) t _ placed (λ names found.
      let f = free_ok t p names found in
      placed_put home t names (Link target) (subst (MayStand home (Some (Link target))) (sym (for_names p names Content is f.0)) leads_out) placed))

  link_acted : (target p : List ℕ) (luck : Luck) → IsFor home Content p → Acted home t (Symlink target p) luck (apply t (Symlink target p) luck)
  link_acted target p luck is =
      apply_acted home t (Symlink target p) (λ luck fault. refl) luck refl (λ most. unless_acted home t (Symlink target p) (λ luck fault. refl) luck (free t p) _ (λ names found.
      let f = free_ok t p names found in
      named p names (λ n. PutLink n target) (put t names (Link target)) f.0 (put_content home t names (Link target) (for_names p names Content is f.0) refl f.1)))

  drop_placed : (p : List ℕ) (luck : Luck) → Placed home (apply t (RemoveFile p) luck).1
  drop_placed p luck = apply_tree (Placed home) t (RemoveFile p) luck placed (λ most. unless_tree (Placed home) (removable t p) t _ placed (λ names found. placed_cut home t names placed))

  drop_acted : (p : List ℕ) (luck : Luck) → Acted home t (RemoveFile p) luck (apply t (RemoveFile p) luck)
  drop_acted p luck =
      apply_acted home t (RemoveFile p) (λ luck fault. refl) luck refl (λ most. unless_acted home t (RemoveFile p) (λ luck fault. refl) luck (removable t p) _ (λ names found.
      let f = removable_ok t p names found in
      named p names Drop (cut t names) f.0 (cut_file home t names f.1)))

  drop_folder_placed : (p : List ℕ) (luck : Luck) → Placed home (apply t (RemoveDir p) luck).1
  drop_folder_placed p luck = apply_tree (Placed home) t (RemoveDir p) luck placed (λ most. unless_tree (Placed home) (emptied t p) t _ placed (λ names found. placed_cut home t names placed))

  drop_folder_acted : (p : List ℕ) (luck : Luck) → Acted home t (RemoveDir p) luck (apply t (RemoveDir p) luck)
  drop_folder_acted p luck =
      apply_acted home t (RemoveDir p) (λ luck fault. refl) luck refl (λ most. unless_acted home t (RemoveDir p) (λ luck fault. refl) luck (emptied t p) _ (λ names found.
      let f = emptied_ok t p names found in
      named p names DropFolder (cut t names) f.0 (cut_folder home t names f.1)))

  -- ---- a file that moves to a content's path

  persist_placed : (f : PlainTemp) (p : List ℕ) (luck : Luck) → IsFor home Content p → Placed home (apply t (Persist f p) luck).1
  persist_placed f p luck is =
      apply_tree (Placed home) t (Persist f p) luck placed (λ most. unless_tree (Placed home) (known f.bytes) t _ placed (λ bytes known.
      unless_tree (Placed home) (kept t f.path) t _ placed (λ old there.
      unless_tree (Placed home) (replaceable t p) t _ placed (λ new found.
      let g = replaceable_ok t p new found in
      placed_put home (cut t old) new (File bytes) (subst (MayStand home (Some (File bytes))) (sym (for_names p new Content is g.0)) tt) (placed_cut home t old placed)))))

  persisted : (old new : Names) (bytes : List ℕ) → path_kind home old ≡ Temporary → path_kind home new ≡ Content → is_folder (look t old) ≡ false
      → is_folder (look t new) ≡ false
      → wide_value home (put (cut t old) new (File bytes)) ≡ put_blob home new (Some (InFile bytes)) (wide_value home t)
  persisted old new bytes k l e f =
      put_content home (cut t old) new (File bytes) l refl (folders-cut t old new e ∙ f)
      ∙ ap (put_blob home new (Some (InFile bytes))) (cut_hidden home t old (λ e. let apart : Content ≡ Temporary = e ∙ k in cc) (λ e. let apart : Bucket ≡ Temporary = e ∙ k in cc) e)

  persist_acted : (f : PlainTemp) (p : List ℕ) (luck : Luck) → IsFor home Temporary f.path → IsFor home Content p
      → Acted home t (Persist f p) luck (apply t (Persist f p) luck)
  persist_acted f p luck from is =
      let none = λ (luck : Luck) (fault : Fault). let same : act_of (Persist f p) luck (Failed fault) ≡ Nothing = refl in same in
      apply_acted home t (Persist f p) none luck refl (λ most. unless_acted home t (Persist f p) none luck (known f.bytes) _ (λ bytes known.
      unless_acted home t (Persist f p) none luck (kept t f.path) _ (λ old there.
      unless_acted home t (Persist f p) none luck (replaceable t p) _ (λ new found.
      let g = kept_ok t f.path old there in
      let h = replaceable_ok t p new found in
      named p new (λ n. act_with f.bytes (PutBytes n)) (put (cut t old) new (File bytes)) h.0
      (persisted old new bytes (for_names f.path old Temporary from g.0) (for_names p new Content is h.0) g.1 h.1
      ∙ ap (λ o. change home (act_with o (PutBytes new)) (wide_value home t)) (sym (known_ok f.bytes bytes known)))))))

  -- ---- an append to a bucket

  appended : (p : List ℕ) (names : Names) (y : List ℕ) (n : ℕ) → path_kind home names ≡ Bucket → is_folder (look t names) ≡ false
      → wide_value home (put t names (File (bytes_of (look t names) ++ take n (10 ∷ y)))) ≡ change home (AddEntries names (entries_of (take n (10 ∷ y)))) (wide_value home t)
  appended p names y n k old = put_bucket home t names _ (entries_of (take n (10 ∷ y))) k old (bucket_left (look t names) y n)

  -- an append that reaches the bucket
  module _ (p y : List ℕ) (names : Names) (is : names_of p ≡ Ok names) (k : path_kind home names ≡ Bucket) where
    added : (luck : Luck) (answer : PlainAnswer) (n : ℕ) (new : Tree) → amount_left luck answer ≡ Some n
        → new ≡ put t names (File (bytes_of (look t names) ++ take n (10 ∷ y))) → Acted home t (Append p (10 ∷ y)) luck (answer, new)
    added luck answer n new l e =
        ap (wide_value home) e ∙ appended p names y n k (no_folder_in home (look t names) (suits home t names Bucket k placed))
        ∙ ap (λ o. change home (act_with o (λ count. AddEntries names (entries_of (take count (10 ∷ y))))) (wide_value home t)) (sym l)
        ∙ ap (λ r. change home (act_at r (λ n. act_with (amount_left luck answer) (λ count. AddEntries n (entries_of (take count (10 ∷ y)))))) (wide_value home t)) (sym is)

    nothing_added : (luck : Luck) (answer : PlainAnswer) → amount_left luck answer ≡ None → Acted home t (Append p (10 ∷ y)) luck (answer, t)
    nothing_added luck answer l = search rules

    append_reached : (luck : Luck) → Reaches names (writable t p) → Acted home t (Append p (10 ∷ y)) luck (apply t (Append p (10 ∷ y)) luck)
    unfolding apply
    append_reached Plain (found w) = rw w (added Plain (Took (taken None (10 ∷ y))) (taken None (10 ∷ y)) _ refl refl)
    append_reached (Take most) (found w) = rw w (added (Take most) (Took (taken (Some most) (10 ∷ y))) (taken (Some most) (10 ∷ y)) _ refl refl)
    append_reached (Fail fault None) (found w) = rw w (nothing_added (Fail fault None) (Failed (made_up fault)) (amount_left-made_up fault None))
    append_reached (Fail fault (Some n)) (found w) =
        rw w (added (Fail fault (Some n)) (Failed (made_up fault)) n _ (amount_left-made_up fault (Some n))
        (ap (λ b. put t names (File (bytes_of (look t names) ++ b))) (take_min n (10 ∷ y))))
    append_reached Plain (missing w) = rw w (nothing_added Plain (Failed NotFound) refl)
    append_reached (Take most) (missing w) = rw w (nothing_added (Take most) (Failed NotFound) refl)
    append_reached (Fail fault part) (missing w) = rw w (nothing_added (Fail fault part) (Failed NotFound) refl)

  file_put : (names : Names) (bytes : List ℕ) → path_kind home names ≡ Bucket → Placed home (put t names (File bytes))
  file_put names bytes k = placed_put home t names (File bytes) (subst (MayStand home (Some (File bytes))) (sym k) tt) placed

  reached_placed : (p : List ℕ) (names : Names) (bytes : Names → List ℕ) (answer : Names → PlainAnswer) → path_kind home names ≡ Bucket
      → Reaches names (writable t p)
      → Placed home (unless (writable t p) t (λ n. (answer n, put t n (File (bytes n))))).1
  reached_placed p names bytes answer k h = grind (arith, found, file_put, missing)

  append_kept : (p y : List ℕ) (luck : Luck) (r : Result Names Fault) → names_of p ≡ r → IfOk r (λ n. path_kind home n ≡ Bucket)
      → Placed home (apply t (Append p (10 ∷ y)) luck).1 × Acted home t (Append p (10 ∷ y)) luck (apply t (Append p (10 ∷ y)) luck)
  append_kept p y luck (Ok names) is k = (
    apply_tree (Placed home) t (Append p (10 ∷ y)) luck placed (λ most. reached_placed p names (λ n. bytes_of (look t n) ++ take (taken most (10 ∷ y)) (10 ∷ y)) (λ n. Took (taken most (10 ∷ y))) k (bucket_reached home t p names placed is k)),
    append_reached p y names is k luck (bucket_reached home t p names placed is k),
  )
  append_kept p y luck (Err fault) is k =
      let none : (most : Option ℕ) → plain t (Append p (10 ∷ y)) most ≡ (Failed fault, t) = λ most. rw (unreachable t p fault is) refl in
      (subst (λ o. Placed home o.1) (sym (apply_refused t (Append p (10 ∷ y)) luck fault none)) placed, refused home t (Append p (10 ∷ y)) luck fault none (rw is refl))

  -- ---- folders on the way

  module _ (p : List ℕ) (names : Names) (is : names_of p ≡ Ok names) (k : path_kind home names ≡ Way) where
    made_dirs : (luck : Luck) (answer : PlainAnswer) (n : ℕ) → folders_left names luck answer ≡ Some n
        → Acted home t (MakeDirs p) luck (answer, make_some t [] names n)
    made_dirs luck answer n l =
        (made home t [] names n k placed).1
        ∙ ap (λ o. change home (act_with o (MakeFolders names)) (wide_value home t)) (sym l)
        ∙ ap (λ r. change home (act_at r (λ n. act_with (folders_left n luck answer) (MakeFolders n))) (wide_value home t)) (sym is)

    no_dirs : (luck : Luck) (answer : PlainAnswer) → folders_left names luck answer ≡ None → Acted home t (MakeDirs p) luck (answer, t)
    no_dirs luck answer l = search rules

    dirs_found : dirs t p ≡ Ok names
    unfolding dirs
    dirs_found = rw (is, no_dirs_fault home t [] names k placed) refl

    dirs_acted : (luck : Luck) → dirs t p ≡ Ok names → Acted home t (MakeDirs p) luck (apply t (MakeDirs p) luck)
    unfolding apply
    dirs_acted luck w = grind (arith, made_dirs, no_dirs, amount_left-made_up)

    dirs_placed : (luck : Luck) → Placed home (apply t (MakeDirs p) luck).1
    dirs_placed luck = apply_tree (Placed home) t (MakeDirs p) luck placed (λ most. rw dirs_found (made home t [] names (making most names) k placed).0)

  dirs_kept : (p : List ℕ) (luck : Luck) (r : Result Names Fault) → names_of p ≡ r → IfOk r (λ n. path_kind home n ≡ Way)
      → Placed home (apply t (MakeDirs p) luck).1 × Acted home t (MakeDirs p) luck (apply t (MakeDirs p) luck)
  dirs_kept p luck (Ok names) is k = (dirs_placed p names is k luck, dirs_acted p names is k luck (dirs_found p names is k))
  dirs_kept p luck (Err fault) is k =
      let none : (most : Option ℕ) → plain t (MakeDirs p) most ≡ (Failed fault, t) = λ most. rw (unmakeable t p fault is) refl in
      (subst (λ o. Placed home o.1) (sym (apply_refused t (MakeDirs p) luck fault none)) placed, refused home t (MakeDirs p) luck fault none (rw is refl))

  -- ---- every step

  pub step_kept : (step : PlainStep) (luck : Luck) → Proper home step → Placed home (apply t step luck).1 × Acted home t step luck (apply t step luck)
  step_kept (MakeDirs p) luck is = dirs_kept p luck (names_of p) refl is
  step_kept (CreateTemp p) luck is = temp_kept p luck is
  step_kept (Write f bytes) luck is = quiet (Write f bytes) luck (λ most. (placed, refl))
  step_kept (Persist f p) luck is = (persist_placed f p luck is.1, persist_acted f p luck is.0 is.1)
  step_kept (Append p bytes) luck is =
      subst (λ b. Placed home (apply t (Append p b) luck).1 × Acted home t (Append p b) luck (apply t (Append p b) luck)) (sym is.1.same)
      (append_kept p (piece_of is.1.entry ++ closing is.1.durable) luck (names_of p) refl is.0)
  step_kept (ReadAll p) luck is = quiet (ReadAll p) luck (λ most. asked_only (file_at t p IsADirectory) _)
  step_kept (Open p) luck is = quiet (Open p) luck (λ most. asked_only (file_at t p IsADirectory) _)
  step_kept (Read f size) luck is = quiet (Read f size) luck (λ most. (placed, refl))
  step_kept (Size p) luck is = quiet (Size p) luck (λ most. asked_only (file_at t p IsADirectory) _)
  step_kept (Exists p) luck is = quiet (Exists p) luck (λ most. (placed, refl))
  step_kept (Symlink target p) luck is = (link_placed target p luck is.0 is.1, link_acted target p luck is.0)
  step_kept (Copy p q) luck is = copy_kept p q luck is
  step_kept (Reflink p q) luck is = reflink_kept p q luck is
  step_kept (HardLink p q) luck is = hard_link_kept p q luck is
  step_kept (ReadDir p) luck is = quiet (ReadDir p) luck (λ most. asked_only (folder t p) _)
  step_kept (RemoveFile p) luck is = (drop_placed p luck, drop_acted p luck)
  step_kept (RemoveDir p) luck is = (drop_folder_placed p luck, drop_folder_acted p luck)
  step_kept (SyncTemp f) luck is = quiet (SyncTemp f) luck (λ most. (placed, refl))
  step_kept (SyncFile p) luck is = quiet (SyncFile p) luck (λ most. asked_only (file_at t p IsADirectory) _)
  step_kept (SyncDir p) luck is = quiet (SyncDir p) luck (λ most. asked_only (folder t p) _)

-- Trees that mirror each other still do after a step.
use Rattle.std.proofs.Common.{◌≡◌, ◌-◌, ◌==◌, ℕ, Bool, true, false, cond, if◌then◌else◌, List, [], ◌∷◌, ◌++◌, take, refl, sym, ap, subst, ◌∙◌}
use Rattle.std.specs.Prelude.{Option, None, Some, Result, Ok, Err}
use Rattle.cacache_core.specs.{declared.errors.Fault.{Fault, TheVariants.{IsADirectory, InvalidInput}}, Paths.{Names, names_of}}
use Rattle.cacache_store.specs.{declared.store.{plain.PlainTemp.{PlainTemp}, answer.Name.{Name}}, Plain.{PlainStep, PlainAnswer}}
use Rattle.cacache_store.specs.declared.store.step.Step.TheVariants as steps
use Rattle.cacache_store.specs.declared.store.answer.Answer.TheVariants as answers
use Rattle.cacache_disk.specs.{declared.{luck.Luck.{Luck, TheVariants.{Plain, Fail, Take}}, node.Node.{Node, TheVariants.{Folder, File, Link}}}, Tree.{Tree, look, put, cut, same_path, bytes_of}, LedTo.{place, leads, file_at, writable, free, replaceable, kept, known, linked, removable, folder, emptied, dirs}, Apply.{apply, plain, unless, if_missing, make_some, making, taken, lengthened, is_there, is_taking, is_parted, left_by, fails, fault_told, made_up}}
use Rattle.cacache_disk.proofs.{Maps.{same_path-true}, PutNodes.{look-put, look-cut}, FoundNodes.{free_ok, replaceable_ok, kept_ok, removable_ok, emptied_ok, free_none}}
use Rattle.cacache_system_model.specs.Mirrors.{hollow, Mirrors, all_but, without, with_new, temps_after, IsNoTemp, SparesOpen, StepsMirror}
use Rattle.cacache_system_model.proofs.Mirroring.{shapes, found_same, writable_same, free_same, replaceable_same, removable_same, folder_same, kept_same, dirs_same, listing_same, emptied_same, look_same_at, file_same, linked_same}

-- ---- nodes that are put and cut

abbrev shown : Bool → Option Node → Option Node
shown temp here = if temp then hollow here else here

put_at : (c temp : Bool) (node : Node) (a b : Option Node) → b ≡ shown temp a → cond c (Some node) b ≡ shown (if c then false else temp) (cond c (Some node) a)
put_at true temp node a b same = refl
put_at false temp node a b same = same

put_file : (c temp : Bool) (node : Node) (a : Option Node) → (temp ≡ true → hollow a ≡ Some (File [])) → (if c then false else temp) ≡ true → hollow (cond c (Some node) a) ≡ Some (File [])
put_file true temp node a file is = absurd cc
put_file false temp node a file is = file is

-- a node is put at the same path of both
pub put_mirrors : (temps : Names → Bool) (t d : Tree) (names : Names) (node : Node) → Mirrors temps t d → Mirrors (all_but temps names) (put t names node) (put d names node)
put_mirrors temps t d names node m = record {
  files = λ q is. ap hollow (look-put t names node q) ∙ put_file (same_path q names) (temps q) node (look t q) (m.files q) is;
  same = λ q.
      look-put d names node q ∙ put_at (same_path q names) (temps q) node (look t q) (look d q) (m.same q)
      ∙ ap (shown (all_but temps names q)) (sym (look-put t names node q));
}

cut_at : (c temp : Bool) (a b : Option Node) → b ≡ shown temp a → cond c None b ≡ shown (if c then false else temp) (cond c None a)
cut_at true temp a b same = refl
cut_at false temp a b same = same

cut_file : (c temp : Bool) (a : Option Node) → (temp ≡ true → hollow a ≡ Some (File [])) → (if c then false else temp) ≡ true → hollow (cond c None a) ≡ Some (File [])
cut_file true temp a file is = absurd cc
cut_file false temp a file is = file is

pub cut_mirrors : (temps : Names → Bool) (t d : Tree) (names : Names) → Mirrors temps t d → Mirrors (all_but temps names) (cut t names) (cut d names)
cut_mirrors temps t d names m = record {
  files = λ q is. ap hollow (look-cut t names q) ∙ cut_file (same_path q names) (temps q) (look t q) (m.files q) is;
  same = λ q.
      look-cut d names q ∙ cut_at (same_path q names) (temps q) (look t q) (look d q) (m.same q)
      ∙ ap (shown (all_but temps names q)) (sym (look-cut t names q));
}

-- the same files are open
same_temps : (temps others : Names → Bool) (t d : Tree) → ((q : Names) → temps q ≡ others q) → Mirrors temps t d → Mirrors others t d
same_temps temps others t d same m = record {
  files = λ q is. m.files q (same q ∙ is);
  same = λ q. m.same q ∙ ap (λ (b : Bool). shown b (look t q)) (same q);
}

not_there : (temps : Names → Bool) (names q : Names) (c : Bool) → same_path q names ≡ c → temps names ≡ false → (if c then false else temps q) ≡ temps q
not_there temps names q true same none = sym (ap temps (same_path-true q names same) ∙ none)
not_there temps names q false same none = refl

all_stay : (temps : Names → Bool) (names : Names) → temps names ≡ false → (q : Names) → all_but temps names q ≡ temps q
all_stay temps names none q = not_there temps names q (same_path q names) refl none

put_apart : (temps : Names → Bool) (t d : Tree) (names : Names) (node : Node) → temps names ≡ false → Mirrors temps t d → Mirrors temps (put t names node) (put d names node)
put_apart temps t d names node none m = same_temps (all_but temps names) temps (put t names node) (put d names node) (all_stay temps names none) (put_mirrors temps t d names node m)

cut_apart : (temps : Names → Bool) (t d : Tree) (names : Names) → temps names ≡ false → Mirrors temps t d → Mirrors temps (cut t names) (cut d names)
cut_apart temps t d names none m = same_temps (all_but temps names) temps (cut t names) (cut d names) (all_stay temps names none) (cut_mirrors temps t d names m)

new_at : (c temp : Bool) (a b : Option Node) → b ≡ shown temp a → cond c (Some (File [])) b ≡ shown (if c then true else temp) (cond c (Some (File [])) a)
new_at true temp a b same = refl
new_at false temp a b same = same

new_file : (c temp : Bool) (a : Option Node) → (temp ≡ true → hollow a ≡ Some (File [])) → (if c then true else temp) ≡ true → hollow (cond c (Some (File [])) a) ≡ Some (File [])
new_file true temp a file is = refl
new_file false temp a file is = file is

-- a temporary file is made
new_mirrors : (temps : Names → Bool) (t d : Tree) (names : Names) → Mirrors temps t d → Mirrors (with_new temps (Ok names)) (put t names (File [])) (put d names (File []))
new_mirrors temps t d names m = record {
  files = λ q is. ap hollow (look-put t names (File []) q) ∙ new_file (same_path q names) (temps q) (look t q) (m.files q) is;
  same = λ q.
      look-put d names (File []) q ∙ new_at (same_path q names) (temps q) (look t q) (look d q) (m.same q)
      ∙ ap (shown (with_new temps (Ok names) q)) (sym (look-put t names (File []) q));
}

-- what is no file is no temporary file
no_temp_at : (temps : Names → Bool) (t d : Tree) (names : Names) (o : Option Node) (b : Bool) → Mirrors temps t d → look t names ≡ o → temps names ≡ b → (hollow o ≡ Some (File []) → ⊥) → temps names ≡ false
no_temp_at temps t d names o true m is at other = absurd (other (ap hollow (sym is) ∙ m.files names at))
no_temp_at temps t d names o false m is at other = at

free_no_temp : (temps : Names → Bool) (t d : Tree) (path : List ℕ) (names : Names) → Mirrors temps t d → free t path ≡ Ok names → temps names ≡ false
free_no_temp temps t d path names m is = no_temp_at temps t d names None (temps names) m (free_none t path names is) refl (λ e. cc)

-- ---- folders that are made

abbrev made_on : Tree → Names → Names → Option Node → Bool → ℕ → Tree
made_on t here rest o none count = make_some (if_missing o (cond none t (put t here Folder)) t) here rest (if_missing o (count - 1) count)

made_so : (temps : Names → Bool) (t d : Tree) (here rest : Names) (o : Option Node) (temp none : Bool) (count : ℕ) → Mirrors temps t d → look t here ≡ o → temps here ≡ temp
    → ((t d : Tree) (count : ℕ) → Mirrors temps t d → Mirrors temps (make_some t here rest count) (make_some d here rest count))
    → Mirrors temps (made_on t here rest o none count) (made_on d here rest (shown temp o) none count)
made_so temps t d here rest None true none count m is at next = absurd (let wrong : hollow None ≡ Some (File []) = ap hollow (sym is) ∙ m.files here at in cc)
made_so temps t d here rest None false true count m is at next = next t d (count - 1) m
made_so temps t d here rest None false false count m is at next = next (put t here Folder) (put d here Folder) (count - 1) (put_apart temps t d here Folder at m)
made_so temps t d here rest (Some Folder) true none count m is at next = next t d count m
made_so temps t d here rest (Some node) false none count m is at next = next t d count m
made_so temps t d here rest o true none count m is at next = next t d count m

make_mirrors : (temps : Names → Bool) (t d : Tree) (above rest : Names) (count : ℕ) → Mirrors temps t d → Mirrors temps (make_some t above rest count) (make_some d above rest count)
make_mirrors temps t d above [] count m = m
make_mirrors temps t d above (name ∷ rest) count m =
    let here = above ++ name ∷ [] in
    subst (λ (o : Option Node). Mirrors temps (made_on t here rest (look t here) (count == 0) count) (made_on d here rest o (count == 0) count)) (sym (m.same here))
    (made_so temps t d here rest (look t here) (temps here) (count == 0) count m refl refl (λ t d count m. make_mirrors temps t d here rest count m))

-- ---- one step

abbrev Same : (Names → Bool) → PlainStep → PlainAnswer × Tree → PlainAnswer × Tree → Type 0
Same temps step a b = (b.0 ≡ a.0) × Mirrors (temps_after temps step a.0) a.1 b.1

-- a step goes on from what was found on both
ends_so : {A : Type 0} (temps : Names → Bool) (step : PlainStep) (t d : Tree) (r s : Result A Fault) (f g : A → PlainAnswer × Tree) → s ≡ r
    → ((fault : Fault) → Same temps step (answers.Failed fault, t) (answers.Failed fault, d)) → ((a : A) → r ≡ Ok a → Same temps step (f a) (g a)) → Same temps step (unless r t f) (unless s d g)
ends_so temps step t d (Ok a) s f g same failed next = subst (λ (x : Result _ Fault). Same temps step (f a) (unless x d g)) (sym same) (next a refl)
ends_so temps step t d (Err fault) s f g same failed next = subst (λ (x : Result _ Fault). Same temps step (answers.Failed fault, t) (unless x d g)) (sym same) (failed fault)

module _ (temps : Names → Bool) (t d : Tree) (m : Mirrors temps t d) where
  create_same : (p : List ℕ) (k : Option ℕ) → Same temps (steps.CreateTemp p) (plain t (steps.CreateTemp p) k) (plain d (steps.CreateTemp p) k)
  create_same p k =
      ends_so temps (steps.CreateTemp p) t d (free t p) (free d p) _ _ (free_same t d (shapes temps t d m) p) (λ fault. (refl, m))
      (λ names is. (refl, subst (λ (r : Result Names Fault). Mirrors (with_new temps r) (put t names (File [])) (put d names (File []))) (sym (free_ok t p names is).0) (new_mirrors temps t d names m)))

  symlink_same : (target p : List ℕ) (k : Option ℕ) → Same temps (steps.Symlink target p) (plain t (steps.Symlink target p) k) (plain d (steps.Symlink target p) k)
  symlink_same target p k =
      ends_so temps (steps.Symlink target p) t d (free t p) (free d p) _ _ (free_same t d (shapes temps t d m) p) (λ fault. (refl, m))
      (λ names is. (refl, put_apart temps t d names (Link target) (free_no_temp temps t d p names m is) m))

  dirs_made : (p : List ℕ) (k : Option ℕ) → Same temps (steps.MakeDirs p) (plain t (steps.MakeDirs p) k) (plain d (steps.MakeDirs p) k)
  dirs_made p k =
      ends_so temps (steps.MakeDirs p) t d (dirs t p) (dirs d p) _ _ (dirs_same t d (shapes temps t d m) p) (λ fault. (refl, m))
      (λ names is. (refl, make_mirrors temps t d [] names (making k names) m))

  append_same : (p bytes : List ℕ) (k : Option ℕ) → IsNoTemp temps (writable t p) → Same temps (steps.Append p bytes) (plain t (steps.Append p bytes) k) (plain d (steps.Append p bytes) k)
  append_same p bytes k spares =
      ends_so temps (steps.Append p bytes) t d (writable t p) (writable d p) _ _ (writable_same t d (shapes temps t d m) p) (λ fault. (refl, m))
      (λ names is.
      let none : temps names ≡ false = subst (λ (r : Result Names Fault). IsNoTemp temps r) is spares in (
        refl,
        subst (λ (o : Option Node). Mirrors temps (lengthened t names (take (taken k bytes) bytes)) (put d names (File (bytes_of o ++ take (taken k bytes) bytes)))) (sym (look_same_at temps t d names m none))
            (put_apart temps t d names (File (bytes_of (look t names) ++ take (taken k bytes) bytes)) none m),
      ))

  read_all_same : (p : List ℕ) (k : Option ℕ) → IsNoTemp temps (leads t p) → Same temps (steps.ReadAll p) (plain t (steps.ReadAll p) k) (plain d (steps.ReadAll p) k)
  read_all_same p k spares =
      ends_so temps (steps.ReadAll p) t d (file_at t p IsADirectory) (file_at d p IsADirectory) _ _ (file_same temps t d p IsADirectory m spares) (λ fault. (refl, m)) (λ bytes is. (refl, m))

  open_same : (p : List ℕ) (k : Option ℕ) → IsNoTemp temps (leads t p) → Same temps (steps.Open p) (plain t (steps.Open p) k) (plain d (steps.Open p) k)
  open_same p k spares =
      ends_so temps (steps.Open p) t d (file_at t p IsADirectory) (file_at d p IsADirectory) _ _ (file_same temps t d p IsADirectory m spares) (λ fault. (refl, m)) (λ bytes is. (refl, m))

  size_same : (p : List ℕ) (k : Option ℕ) → IsNoTemp temps (leads t p) → Same temps (steps.Size p) (plain t (steps.Size p) k) (plain d (steps.Size p) k)
  size_same p k spares =
      ends_so temps (steps.Size p) t d (file_at t p IsADirectory) (file_at d p IsADirectory) _ _ (file_same temps t d p IsADirectory m spares) (λ fault. (refl, m)) (λ bytes is. (refl, m))

  sync_file_same : (p : List ℕ) (k : Option ℕ) → IsNoTemp temps (leads t p) → Same temps (steps.SyncFile p) (plain t (steps.SyncFile p) k) (plain d (steps.SyncFile p) k)
  sync_file_same p k spares =
      ends_so temps (steps.SyncFile p) t d (file_at t p IsADirectory) (file_at d p IsADirectory) _ _ (file_same temps t d p IsADirectory m spares) (λ fault. (refl, m)) (λ bytes is. (refl, m))

  sync_dir_same : (p : List ℕ) (k : Option ℕ) → Same temps (steps.SyncDir p) (plain t (steps.SyncDir p) k) (plain d (steps.SyncDir p) k)
  sync_dir_same p k =
      ends_so temps (steps.SyncDir p) t d (folder t p) (folder d p) _ _ (folder_same t d (shapes temps t d m) p) (λ fault. (refl, m)) (λ names is. (refl, m))

  read_dir_same : (p : List ℕ) (k : Option ℕ) → Same temps (steps.ReadDir p) (plain t (steps.ReadDir p) k) (plain d (steps.ReadDir p) k)
  read_dir_same p k =
      ends_so temps (steps.ReadDir p) t d (folder t p) (folder d p) _ _ (folder_same t d (shapes temps t d m) p) (λ fault. (refl, m))
      (λ names is. (ap (λ (l : List Name). let a : PlainAnswer = answers.Names l in a) (listing_same t d (shapes temps t d m) names), m))

  exists_same : (p : List ℕ) (k : Option ℕ) → Same temps (steps.Exists p) (plain t (steps.Exists p) k) (plain d (steps.Exists p) k)
  exists_same p k = (ap is_there (found_same t d (shapes temps t d m) p), m)

  copy_same : (p q : List ℕ) (k : Option ℕ) → IsNoTemp temps (leads t p) → IsNoTemp temps (writable t q) → Same temps (steps.Copy p q) (plain t (steps.Copy p q) k) (plain d (steps.Copy p q) k)
  copy_same p q k source target =
      ends_so temps (steps.Copy p q) t d (file_at t p InvalidInput) (file_at d p InvalidInput) _ _ (file_same temps t d p InvalidInput m source) (λ fault. (refl, m)) (λ bytes is.
      ends_so temps (steps.Copy p q) t d (writable t q) (writable d q) _ _ (writable_same t d (shapes temps t d m) q) (λ fault. (refl, m))
      (λ names at. (refl, put_apart temps t d names (File (take (taken k bytes) bytes)) (subst (λ (r : Result Names Fault). IsNoTemp temps r) at target) m)))

  reflink_same : (p q : List ℕ) (k : Option ℕ) → IsNoTemp temps (leads t p) → Same temps (steps.Reflink p q) (plain t (steps.Reflink p q) k) (plain d (steps.Reflink p q) k)
  reflink_same p q k source =
      ends_so temps (steps.Reflink p q) t d (free t q) (free d q) _ _ (free_same t d (shapes temps t d m) q) (λ fault. (refl, m)) (λ names is.
      ends_so temps (steps.Reflink p q) t d (file_at t p IsADirectory) (file_at d p IsADirectory) _ _ (file_same temps t d p IsADirectory m source) (λ fault. (refl, m))
      (λ bytes at. (refl, put_apart temps t d names (File bytes) (free_no_temp temps t d q names m is) m)))

  hard_link_same : (p q : List ℕ) (k : Option ℕ) → IsNoTemp temps (place t p) → Same temps (steps.HardLink p q) (plain t (steps.HardLink p q) k) (plain d (steps.HardLink p q) k)
  hard_link_same p q k source =
      ends_so temps (steps.HardLink p q) t d (free t q) (free d q) _ _ (free_same t d (shapes temps t d m) q) (λ fault. (refl, m)) (λ names is.
      ends_so temps (steps.HardLink p q) t d (linked t p) (linked d p) _ _ (linked_same temps t d p m source) (λ fault. (refl, m))
      (λ node at. (refl, put_apart temps t d names node (free_no_temp temps t d q names m is) m)))

  remove_file_same : (p : List ℕ) (k : Option ℕ) → Same temps (steps.RemoveFile p) (plain t (steps.RemoveFile p) k) (plain d (steps.RemoveFile p) k)
  remove_file_same p k =
      ends_so temps (steps.RemoveFile p) t d (removable t p) (removable d p) _ _ (removable_same t d (shapes temps t d m) p) (λ fault. (refl, m))
      (λ names is. (refl, subst (λ (r : Result Names Fault). Mirrors (without temps r) (cut t names) (cut d names)) (sym (removable_ok t p names is).0) (cut_mirrors temps t d names m)))

  remove_dir_same : (p : List ℕ) (k : Option ℕ) → Same temps (steps.RemoveDir p) (plain t (steps.RemoveDir p) k) (plain d (steps.RemoveDir p) k)
  remove_dir_same p k =
      ends_so temps (steps.RemoveDir p) t d (emptied t p) (emptied d p) _ _ (emptied_same t d (shapes temps t d m) p) (λ fault. (refl, m))
      (λ names is. (refl, cut_apart temps t d names (no_temp_at temps t d names (Some Folder) (temps names) m (emptied_ok t p names is).1 refl (λ e. cc)) m))

  persist_same : (f : PlainTemp) (p : List ℕ) (k : Option ℕ) → Same temps (steps.Persist f p) (plain t (steps.Persist f p) k) (plain d (steps.Persist f p) k)
  persist_same f p k =
      ends_so temps (steps.Persist f p) t d (known f.bytes) (known f.bytes) _ _ refl (λ fault. (refl, m)) (λ bytes known_is.
      ends_so temps (steps.Persist f p) t d (kept t f.path) (kept d f.path) _ _ (kept_same t d (shapes temps t d m) f.path) (λ fault. (refl, m)) (λ old is.
      ends_so temps (steps.Persist f p) t d (replaceable t p) (replaceable d p) _ _ (replaceable_same t d (shapes temps t d m) p) (λ fault. (refl, m)) (λ new at. (
        refl,
        subst (λ (r : Result Names Fault). Mirrors (without (without temps r) (names_of p)) (put (cut t old) new (File bytes)) (put (cut d old) new (File bytes))) (sym (kept_ok t f.path old is).0)
            (subst (λ (r : Result Names Fault). Mirrors (without (all_but temps old) r) (put (cut t old) new (File bytes)) (put (cut d old) new (File bytes))) (sym (replaceable_ok t p new at).0)
            (put_mirrors (all_but temps old) (cut t old) (cut d old) new (File bytes) (cut_mirrors temps t d old m))),
      ))))

  plain_same : (step : PlainStep) (k : Option ℕ) → SparesOpen temps t step → Same temps step (plain t step k) (plain d step k)
  plain_same (steps.MakeDirs p) k spares = dirs_made p k
  plain_same (steps.CreateTemp p) k spares = create_same p k
  plain_same (steps.Persist f p) k spares = persist_same f p k
  plain_same (steps.Append p bytes) k spares = append_same p bytes k spares
  plain_same (steps.ReadAll p) k spares = read_all_same p k spares
  plain_same (steps.Open p) k spares = open_same p k spares
  plain_same (steps.Exists p) k spares = exists_same p k
  plain_same (steps.Size p) k spares = size_same p k spares
  plain_same (steps.Symlink target p) k spares = symlink_same target p k
  plain_same (steps.Copy p q) k spares = copy_same p q k spares.0 spares.1
  plain_same (steps.Reflink p q) k spares = reflink_same p q k spares
  plain_same (steps.HardLink p q) k spares = hard_link_same p q k spares
  plain_same (steps.ReadDir p) k spares = read_dir_same p k
  plain_same (steps.RemoveFile p) k spares = remove_file_same p k
  plain_same (steps.RemoveDir p) k spares = remove_dir_same p k
  plain_same (steps.SyncFile p) k spares = sync_file_same p k spares
  plain_same (steps.SyncDir p) k spares = sync_dir_same p k
  plain_same step k spares = (refl, m)

-- ---- any luck

failed_stay : (temps : Names → Bool) (step : PlainStep) (fault : Fault) → temps_after temps step (answers.Failed fault) ≡ temps
failed_stay temps (steps.CreateTemp p) fault = refl
failed_stay temps (steps.Persist f p) fault = refl
failed_stay temps (steps.RemoveFile p) fault = refl
failed_stay temps _ fault = refl

parted_stay : (temps : Names → Bool) (step : PlainStep) (answer : PlainAnswer) → is_parted step ≡ true → temps_after temps step answer ≡ temps
parted_stay temps (steps.MakeDirs p) answer is = refl
parted_stay temps (steps.Append p bytes) answer is = refl
parted_stay temps (steps.Copy p q) answer is = refl
parted_stay temps _ answer is = absurd (let wrong : false ≡ true = is in cc)

module _ (temps : Names → Bool) (t d : Tree) (step : PlainStep) (m : Mirrors temps t d) (spares : SparesOpen temps t step) where
  left_so : (part : ℕ) (c : Bool) → is_parted step ≡ c → Mirrors temps (if c then (plain t step (Some part)).1 else t) (if c then (plain d step (Some part)).1 else d)
  left_so part true is =
      subst (λ (x : Names → Bool). Mirrors x (plain t step (Some part)).1 (plain d step (Some part)).1) (parted_stay temps step (plain t step (Some part)).0 is) (plain_same temps t d m step (Some part) spares).1
  left_so part false is = m

  left_mirrors : (part : Option ℕ) → Mirrors temps (left_by t step part) (left_by d step part)
  left_mirrors None = m
  left_mirrors (Some part) = left_so part (is_parted step) refl

  fails_same : (o : Option Fault) (fault : Fault) (part : Option ℕ) → Same temps step (fails o fault t (left_by t step part)) (fails o fault d (left_by d step part))
  fails_same None fault part = (refl, subst (λ (x : Names → Bool). Mirrors x (left_by t step part) (left_by d step part)) (sym (failed_stay temps step (made_up fault))) (left_mirrors part))
  fails_same (Some own) fault part = (refl, subst (λ (x : Names → Bool). Mirrors x t d) (sym (failed_stay temps step own)) m)

  luck_same : (luck : Luck) → Same temps step (apply t step luck) (apply d step luck)
  unfolding apply
  luck_same Plain = plain_same temps t d m step None spares
  luck_same (Take most) = plain_same temps t d m step (if is_taking step then Some most else None) spares
  luck_same (Fail fault part) =
      subst (λ (o : Option Fault). Same temps step (fails (fault_told (plain t step None).0) fault t (left_by t step part)) (fails o fault d (left_by d step part)))
      (ap fault_told (sym (plain_same temps t d m step None spares).0)) (fails_same (fault_told (plain t step None).0) fault part)

pub steps_mirror : StepsMirror
steps_mirror temps t d step luck m spares =
    let same = luck_same temps t d step m spares luck in
    record { answers = same.0; mirrors = same.1 }

-- Which change a step makes to a tree, and what a change does at a path.
use Rattle.std.proofs.{lemmas.Grind.{common_steps}, Common.{arith, ◌≡◌, ◌⊎◌, inl, inr, ◌-◌, ◌==◌, ℕ, Bool, true, false, cond, List, [], ◌∷◌, ◌++◌, Option, None, Some, Ok, take, refl, ap, ◌∙◌}}
use Rattle.std.specs.Prelude.{Result, ◌||◌}
use Rattle.cacache_core.specs.declared.errors.Fault.{Fault, TheVariants.{IsADirectory, InvalidInput}}
use Rattle.cacache_store.specs.{declared.store.step.Step.TheVariants.{MakeDirs, CreateTemp, Persist, Append, ReadAll, Open, Size, Symlink, Copy, Reflink, HardLink, ReadDir, RemoveFile, RemoveDir, SyncFile, SyncDir}, Plain.{PlainStep, PlainAnswer}}
use Rattle.cacache_disk.specs.{declared.{luck.Luck.{Luck}, node.Node.{Node, TheVariants.{Folder, File, Link}}}, Tree.{Tree, Names, bytes_of, cut, fronts, is_among, look, put, same_path}, LedTo.{dirs, free, known, kept, replaceable, writable, file_at, linked, folder, removable, emptied}, Apply.{apply, plain, unless, if_missing, make_some, making, taken, fails, left_by}}
use Rattle.cacache_disk.proofs.{Maps.{same_path-true}, PutNodes.{look-cut, look-put}}

-- a change of a tree
pub data TreeChange : Type 0 where
  NoChange : TreeChange
  PutNode : Names → Node → TreeChange
  MoveFile : Names → Names → List ℕ → TreeChange
  MakeFolders : Names → ℕ → TreeChange
  CutNode : Names → TreeChange

-- the tree after a change
abbrev pub made_by : Tree → TreeChange → Tree
made_by t NoChange = t
made_by t (PutNode p node) = put t p node
made_by t (MoveFile from to bytes) = put (cut t from) to (File bytes)
made_by t (MakeFolders p most) = make_some t [] p most
made_by t (CutNode p) = cut t p

-- a change that a step may make, and what the step looked up for it
abbrev pub Makes : Tree → PlainStep → TreeChange → Type 0
Makes t step NoChange = Unit {0}
Makes t (MakeDirs p) (MakeFolders names most) = dirs t p ≡ Ok names
Makes t (CreateTemp p) (PutNode names node) = (free t p ≡ Ok names) × (node ≡ File [])
Makes t (Persist f p) (MoveFile from to bytes) = (known f.bytes ≡ Ok bytes) × (kept t f.path ≡ Ok from) × (replaceable t p ≡ Ok to)
Makes t (Append p line) (PutNode names node) = writable t p ≡ Ok names
Makes t (Symlink target p) (PutNode names node) = (free t p ≡ Ok names) × (node ≡ Link target)
Makes t (Copy p q) (PutNode names node) = writable t q ≡ Ok names
Makes t (Reflink p q) (PutNode names node) = free t q ≡ Ok names
Makes t (HardLink p q) (PutNode names node) = (free t q ≡ Ok names) × (linked t p ≡ Ok node)
Makes t (RemoveFile p) (CutNode names) = removable t p ≡ Ok names
Makes t (RemoveDir p) (CutNode names) = emptied t p ≡ Ok names
Makes t step c = ⊥

-- the change puts a node at the path
abbrev pub Puts : Tree → TreeChange → Names → Node → Type 0
Puts t (PutNode p new) q node = (q ≡ p) × (node ≡ new)
Puts t (MoveFile from to bytes) q node = (q ≡ to) × (node ≡ File bytes)
Puts t (MakeFolders p most) q node = (look t q ≡ None) × (node ≡ Folder) × (is_among q (fronts [] p) ≡ true)
Puts t c q node = ⊥

-- the change takes away what is at the path
abbrev pub Cuts : TreeChange → Names → Type 0
Cuts (MoveFile from to bytes) q = q ≡ from
Cuts (CutNode p) q = q ≡ p
Cuts c q = ⊥

-- what is at a path is as it was, or the change put it there or took it away
pub data At (t : Tree) (change : TreeChange) (q : Names) (new : Option Node) : Type 0 where
  at_rest : new ≡ look t q → At t change q new
  at_put : (node : Node) → Puts t change q node → new ≡ Some node → At t change q new
  at_cut : Cuts change q → new ≡ None → At t change q new

-- what a step does at a path, by the change that it makes
abbrev pub StepAt : Tree → PlainStep → Names → Tree → Type 0
StepAt t step q new = (change : TreeChange) × Makes t step change × At t change q (look new q)

-- ---- what holds of the tree before, and after as much of the step as you like, holds after it

module _ (P : Tree → Type 0) where
  cond_tree : (b : Bool) (x y : Tree) → P x → P y → P (cond b x y)
  cond_tree b x y h k = grind (arith, common_steps)

  fails_tree : (own : Option Fault) (fault : Fault) (t left : Tree) → P t → P left → P (fails own fault t left).1
  fails_tree own fault t left h k = grind (arith, common_steps)

  left_tree : (t : Tree) (step : PlainStep) (part : Option ℕ) → P t → ((most : Option ℕ) → P (plain t step most).1) → P (left_by t step part)
  left_tree t step part h k = grind (arith, cond_tree)

  pub apply_tree : (t : Tree) (step : PlainStep) (luck : Luck) → P t → ((most : Option ℕ) → P (plain t step most).1) → P (apply t step luck).1
  unfolding apply
  apply_tree t step luck h k = grind (arith, fails_tree, left_tree)

  pub unless_tree : {A : Type 0} (r : Result A Fault) (t : Tree) (go : A → PlainAnswer × Tree) → P t → ((a : A) → r ≡ Ok a → P (go a).1) → P (unless r t go).1
  unless_tree r t go h k = grind (arith, common_steps)

-- ---- each step makes a change

module _ (P : Tree → Type 0) (t : Tree) where
  -- what each change of the step keeps
  abbrev Kept : PlainStep → Type 0
  Kept step = (c : TreeChange) → Makes t step c → P (made_by t c)

  asked : {A : Type 0} (step : PlainStep) (r : Result A Fault) (answer : A → PlainAnswer) → Kept step → P (unless r t (λ a. (answer a, t))).1
  asked step r answer k = unless_tree P r t _ (k NoChange tt) (λ a is. k NoChange tt)

  plain_changes : (step : PlainStep) (most : Option ℕ) → Kept step → P (plain t step most).1
  plain_changes (MakeDirs p) most k = unless_tree P (dirs t p) t _ (k NoChange tt) (λ names is. k (MakeFolders names (making most names)) is)
  plain_changes (CreateTemp p) most k = unless_tree P (free t p) t _ (k NoChange tt) (λ names is. k (PutNode names (File [])) (is, refl))
  plain_changes (Persist f p) most k =
      unless_tree P (known f.bytes) t _ (k NoChange tt) (λ bytes has.
      unless_tree P (kept t f.path) t _ (k NoChange tt) (λ old there.
      unless_tree P (replaceable t p) t _ (k NoChange tt) (λ new is. k (MoveFile old new bytes) (has, there, is))))
  plain_changes (Append p line) most k =
      unless_tree P (writable t p) t _ (k NoChange tt) (λ names is. k (PutNode names (File (bytes_of (look t names) ++ take (taken most line) line))) is)
  plain_changes (Symlink target p) most k = unless_tree P (free t p) t _ (k NoChange tt) (λ names is. k (PutNode names (Link target)) (is, refl))
  plain_changes (Copy p q) most k =
      unless_tree P (file_at t p InvalidInput) t _ (k NoChange tt) (λ bytes has.
      unless_tree P (writable t q) t _ (k NoChange tt) (λ names is. k (PutNode names (File (take (taken most bytes) bytes))) is))
  plain_changes (Reflink p q) most k =
      unless_tree P (free t q) t _ (k NoChange tt) (λ names is.
      unless_tree P (file_at t p IsADirectory) t _ (k NoChange tt) (λ bytes has. k (PutNode names (File bytes)) is))
  plain_changes (HardLink p q) most k =
      unless_tree P (free t q) t _ (k NoChange tt) (λ names is.
      unless_tree P (linked t p) t _ (k NoChange tt) (λ node has. k (PutNode names node) (is, has)))
  plain_changes (RemoveFile p) most k = unless_tree P (removable t p) t _ (k NoChange tt) (λ names is. k (CutNode names) is)
  plain_changes (RemoveDir p) most k = unless_tree P (emptied t p) t _ (k NoChange tt) (λ names is. k (CutNode names) is)
  plain_changes (ReadAll p) most k = asked (ReadAll p) (file_at t p IsADirectory) _ k
  plain_changes (Open p) most k = asked (Open p) (file_at t p IsADirectory) _ k
  plain_changes (Size p) most k = asked (Size p) (file_at t p IsADirectory) _ k
  plain_changes (ReadDir p) most k = asked (ReadDir p) (folder t p) _ k
  plain_changes (SyncFile p) most k = asked (SyncFile p) (file_at t p IsADirectory) _ k
  plain_changes (SyncDir p) most k = asked (SyncDir p) (folder t p) _ k
  plain_changes step most k = k NoChange tt

  -- what each change of a step keeps, the step keeps
  pub by_changes : (step : PlainStep) (luck : Luck) → ((c : TreeChange) → Makes t step c → P (made_by t c)) → P (apply t step luck).1
  by_changes step luck k = apply_tree P t step luck (k NoChange tt) (λ most. plain_changes step most k)

-- ---- what a change does at a path

-- a folder was made where nothing was, if it may be
abbrev Made : Option Node → Option Node → Bool → Type 0
Made old new b = (new ≡ old) ⊎ ((old ≡ None) × (new ≡ Some Folder) × (b ≡ true))

made_both : (old mid new : Option Node) (b c : Bool) → Made old mid b → Made mid new c → Made old new (b || c)
made_both old mid new b c which is = grind (arith, common_steps)

module _ (t : Tree) (p q : Names) where
  put_made : (b : Bool) → look t p ≡ None → same_path q p ≡ b → Made (look t q) (look (put t p Folder) q) b
  put_made b none is = grind (arith, same_path-true, look-put)

  one_made : (here : Option Node) (stop : Bool) → look t p ≡ here → Made (look t q) (look (if_missing here (cond stop t (put t p Folder)) t) q) (same_path q p)
  one_made here stop is = grind (arith, put_made)

all_made : (t : Tree) (above rest q : Names) (count : ℕ) → Made (look t q) (look (make_some t above rest count) q) (is_among q (fronts above rest))
all_made t above [] q count = inl refl
all_made t above (name ∷ rest) q count =
    let p = above ++ name ∷ [] in
    let mid = if_missing (look t p) (cond (count == 0) t (put t p Folder)) t in
    made_both (look t q) (look mid q) _ (same_path q p) (is_among q (fronts p rest)) (one_made t p q (look t p) (count == 0) refl)
    (all_made mid p rest q (if_missing (look t p) (count - 1) count))

module _ (t : Tree) (c : TreeChange) (q : Names) where
  put_here : (old : Tree) (p : Names) (node : Node) (b : Bool) → same_path q p ≡ b → (q ≡ p → Puts t c q node) → At t c q (look old q) → At t c q (look (put old p node) q)
  put_here old p node true is put left = at_put node (put (same_path-true q p is)) (look-put old p node q ∙ ap (λ b. cond b (Some node) (look old q)) is)
  put_here old p node false is put left = rw (look-put old p node q ∙ ap (λ b. cond b (Some node) (look old q)) is) left

  cut_here : (p : Names) (b : Bool) → same_path q p ≡ b → (q ≡ p → Cuts c q) → At t c q (look (cut t p) q)
  cut_here p b is same = grind (arith, same_path-true, look-cut)

change_at : (t : Tree) (c : TreeChange) (q : Names) → At t c q (look (made_by t c) q)
change_at t NoChange q = at_rest refl
change_at t (PutNode p node) q = put_here t (PutNode p node) q t p node (same_path q p) refl (λ e. (e, refl)) (at_rest refl)
change_at t (MoveFile from to bytes) q =
    let c = MoveFile from to bytes in
    put_here t c q (cut t from) to (File bytes) (same_path q to) refl (λ e. (e, refl)) (cut_here t c q from (same_path q from) refl (λ e. e))
change_at t (MakeFolders p most) q =
    elim (all_made t [] p q most) [
      | inl e ↦ at_rest e
      | inr h ↦ at_put Folder (h.0, refl, h.2) h.1
    ]
change_at t (CutNode p) q = cut_here t (CutNode p) q p (same_path q p) refl (λ e. e)

-- what a step does at a path
pub step_at : (t : Tree) (step : PlainStep) (luck : Luck) (q : Names) → StepAt t step q (apply t step luck).1
step_at t step luck q = by_changes (StepAt t step q) t step luck (λ c makes. (c, makes, change_at t c q))

-- What a clearing that doesn't break off leaves of a tree.
use Rattle.std.proofs.Common.{rules, ◌≡◌, inl, inr, ◌==◌, ◌<◌, ◌≤◌, ◌+◌, ◌-◌, ℕ, zero, suc, Bool, true, false, cond, nat_le, List, [], ◌∷◌, ◌++◌, None, Some, Ok, length, refl, sym, ap, subst, ◌∙◌, arith, append_assoc, eqb-true}
use Rattle.std.specs.Prelude.{nat_lt}
use Rattle.cacache_core.specs.declared.errors.Fault.TheVariants as faults
use Rattle.cacache_core.specs.{declared.errors.Error.TheVariants.{IoError}, Paths.{join, Names, names_of}}
use Rattle.cacache_store.specs.declared.store.step.Step.TheVariants as steps
use Rattle.cacache_store.specs.declared.store.answer.Answer.TheVariants as answers
use Rattle.cacache_store.specs.{declared.store.answer.{Kind.{Kind}, Name.{Name}}, Plain.{PlainAnswer}}
use Rattle.cacache_store.specs.declared.store.answer.Kind.TheVariants as kinds
use Rattle.cacache_disk.specs.{declared.{luck.Luck.TheVariants.{Plain}, node.Node.{Node, TheVariants.{Folder, File, Link}}}, Tree.{Tree, look, cut, listing, kind_of, Rooted}}
use Rattle.cacache_disk.proofs.KeptFolders.{steps_keep_rooted}
use Rattle.cacache_calls.specs.declared.command.Command.TheVariants as commands
use Rattle.cacache_calls.specs.{declared.{reply.Reply.{Reply, TheVariants.{Listed, Refused}}, visit.{Visit.{Visit, TheVariants.{Enter, RemoveFile, RemoveFolder}}, Task.{Task, TheVariants.{Make, Stumble}}}}, Common.{fails}, State.{State, walking, over, Walk}, Walking.{failed, give, miss, walk_on, task_for_name, tasks_of, leaving, too_many, entered}, Runs.{Moves, Runs}}
use Rattle.cacache_laws.specs.{Sequence.{tree_on}, trees.{Walks.{is_leaf}, Idle.{BreaksOff}}}
use Rattle.cacache_laws.proofs.{Removing.Sheds.{Shed, ShedAll, among, cut_sheds, folder_apart, sheds_more, under, lists_folder, empties, none_listed, told_still, long_names, child_gone, folder_shed}, trees.{Children.{none_below, proper_child}, Covering.{named_on}, Stepping.{MadeOn, Whole, goes, said_over}, Twins.Twice.{leaf_goes}}}
use Rattle.cacache_history.proofs.{Listings.ToldFolders.{Told, AreDistinct, listing_told, listing_distinct}, Each.{Each}}

-- ---- steps

-- ---- names

deep : (level : ℕ) → (level + 1 == 0) ≡ false
deep level = search rules

leads_on : (t : Tree) (moves more : Moves) (mid : Tree) (later : Moves) (last : Tree) → tree_on t moves ≡ tree_on t more → tree_on t more ≡ tree_on mid later → tree_on mid later ≡ last → tree_on t moves ≡ last
leads_on t moves more mid later last e f g = e ∙ f ∙ g

-- ---- a clearing with this reply

module _ (r : Reply) (whole : BreaksOff commands.Clear r → ⊥) where
  pub alive : Whole r
  alive e = whole (inl e)

  -- the walk goes on with these tasks, on a tree for which this is so
  pub record Swept (s : State) (t : Tree) (m : MadeOn s t r) (todo : List Task) (Is : Tree → Type 0) : Type 0 where
    pub w : Walk
    pub clears : w.clears ≡ true
    pub new : Tree
    pub rooted : Rooted new
    pub on : MadeOn (walk_on todo w) new r
    pub leads : tree_on t m.moves ≡ tree_on new on.moves
    pub fewer : length on.moves ≤ length m.moves
    pub is : Is new

  -- it doesn't break off
  too_deep : (moves : Moves) → Runs (fails faults.TooDeep) moves r → ⊥
  too_deep moves run = whole (inr (said_over (Refused (IoError faults.TooDeep [])) r moves alive run))

  never_deeper : (w : Walk) (next : Walk → State) (moves : Moves) → w.clears ≡ true → Runs (miss w next faults.TooDeep) moves r → ⊥
  never_deeper w next moves clears run = too_deep moves (subst (λ b. Runs (cond b (fails faults.TooDeep) (give w (failed faults.TooDeep ∷ []) next)) moves r) clears run)

  pub never_too_many : (w : Walk) (moves : Moves) → w.clears ≡ true → Runs (too_many w) moves r → ⊥
  never_too_many w moves clears run = too_deep moves (subst (λ b. Runs (cond b (fails faults.TooDeep) (over (Listed (w.items ++ failed faults.TooDeep ∷ [])))) moves r) clears run)

  -- what may be visited: a file or link, or a folder that isn't the top one
  abbrev pub Ready : Tree → Visit → Names → Type 0
  Ready t (Enter path level) p = (names_of path ≡ Ok p) × (look t p ≡ Some Folder) × ((level == 0) ≡ false) × ((length p == 0) ≡ false)
  Ready t (RemoveFile path) p = (names_of path ≡ Ok p) × (is_leaf (look t p) ≡ true)
  Ready t other p = ⊥

  -- each visit with so few moves sheds what it visits
  abbrev pub Visits : ℕ → Type 0
  Visits fuel =
      (v : Visit) (p : Names) (todo : List Task) (w : Walk) (t : Tree) (m : MadeOn (walking w v todo) t r)
      → length m.moves < fuel → w.clears ≡ true → Rooted t → Ready t v p
      → Swept (walking w v todo) t m todo (λ new. Shed t new p)

  module _ (fuel : ℕ) (visits : Visits fuel) where
    -- one name of a folder
    folder_swept : (b : Bool) (path : List ℕ) (level : ℕ) (p : Names) (name : List ℕ) (rest : List Task) (w : Walk) (t : Tree)
        → (m : MadeOn (walk_on (cond b (Make (Enter path (level + 1))) (Stumble faults.TooDeep path) ∷ rest) w) t r) → length m.moves < fuel → w.clears ≡ true → Rooted t → names_of path ≡ Ok (p ++ name ∷ []) → look t (p ++ name ∷ []) ≡ Some Folder
        → Swept (walk_on (cond b (Make (Enter path (level + 1))) (Stumble faults.TooDeep path) ∷ rest) w) t m rest (λ new. Shed t new (p ++ name ∷ []))
    folder_swept true path level p name rest w t m low clears rooted named there = visits (Enter path (level + 1)) (p ++ name ∷ []) rest w t m low clears rooted (named, there, deep level, long_names p name)
    folder_swept false path level p name rest w t m low clears rooted named there = absurd (never_deeper w (walk_on rest) m.moves clears m.run)

    file_swept : (b : Bool) (path : List ℕ) (q : Names) (rest : List Task) (w : Walk) (t : Tree) → b ≡ false
        → (m : MadeOn (walk_on (cond b (Stumble faults.NotADirectory path) (Make (RemoveFile path)) ∷ rest) w) t r) → length m.moves < fuel → w.clears ≡ true → Rooted t → names_of path ≡ Ok q → is_leaf (look t q) ≡ true
        → Swept (walk_on (cond b (Stumble faults.NotADirectory path) (Make (RemoveFile path)) ∷ rest) w) t m rest (λ new. Shed t new q)
    file_swept true path q rest w t e m low clears rooted named there = absurd cc
    file_swept false path q rest w t e m low clears rooted named there = visits (RemoveFile path) q rest w t m low clears rooted (named, there)

    kind_swept : (k : Kind) (node : Node) (path : List ℕ) (level : ℕ) (p : Names) (name : List ℕ) (rest : List Task) (w : Walk) (t : Tree) → k ≡ kind_of node → look t (p ++ name ∷ []) ≡ Some node → (level == 0) ≡ false
        → (m : MadeOn (walk_on (task_for_name true level path k ∷ rest) w) t r) → length m.moves < fuel → w.clears ≡ true → Rooted t → names_of path ≡ Ok (p ++ name ∷ [])
        → Swept (walk_on (task_for_name true level path k ∷ rest) w) t m rest (λ new. Shed t new (p ++ name ∷ []))
    kind_swept kinds.Folder Folder path level p name rest w t is there inner m low clears rooted named = folder_swept (nat_lt level 16) path level p name rest w t m low clears rooted named there
    kind_swept kinds.File (File bytes) path level p name rest w t is there inner m low clears rooted named = file_swept (level == 0) path (p ++ name ∷ []) rest w t inner m low clears rooted named (ap is_leaf there)
    kind_swept kinds.Link (Link target) path level p name rest w t is there inner m low clears rooted named = visits (RemoveFile path) (p ++ name ∷ []) rest w t m low clears rooted (named, ap is_leaf there)
    kind_swept k node path level p name rest w t is there inner m low clears rooted named = absurd cc

    -- names of a folder, one after another
    all_swept : (ns : List Name) (path : List ℕ) (p : Names) (level : ℕ) (todo : List Task) (w : Walk) (t : Tree) → (level == 0) ≡ false
        → (m : MadeOn (walk_on (tasks_of true level path ns ++ todo) w) t r) → length m.moves < fuel → w.clears ≡ true → Rooted t → names_of path ≡ Ok p → Each (Told t p) ns → AreDistinct ns
        → Swept (walk_on (tasks_of true level path ns ++ todo) w) t m todo (λ new. ShedAll t new p ns)
    all_swept [] path p level todo w t inner m low clears rooted named told apart = record { w = w; clears = clears; new = t; rooted = rooted; on = m; leads = refl; fewer = omega arith; is = λ q. refl }
    all_swept (n ∷ ns) path p level todo w t inner m low clears rooted named told apart =
        let own = named_on path p n.name named (proper_child t p n.name told.0.node rooted told.0.stands) in
        let one = kind_swept n.kind told.0.node (join path n.name) level p n.name (tasks_of true level path ns ++ todo) w t told.0.kind told.0.stands inner m low clears rooted own in
        let more = all_swept ns path p level todo one.w one.new inner one.on (omega (arith, one.fewer, low)) one.clears one.rooted named (told_still t one.new p n.name ns one.is apart.0 told.1) apart.1 in
        record {
          w = more.w;
          clears = more.clears;
          new = more.new;
          rooted = more.rooted;
          on = more.on;
          leads = ◌∙◌ {c = tree_on more.new more.on.moves} one.leads more.leads;
          fewer = omega (arith, one.fewer, more.fewer);
          is = sheds_more t one.new more.new p n ns one.is more.is;
        }

  -- ---- a folder below the top one

  -- after a folder was listed come its names, and then the folder
  entered_run : (w : Walk) (path : List ℕ) (level : ℕ) (todo : List Task) (names : List Name) (moves : Moves) → w.clears ≡ true → (level == 0) ≡ false → Runs (entered w path level todo names) moves r
      → Runs (walk_on (tasks_of true level path names ++ Make (RemoveFolder path) ∷ todo) (record w { left = w.left - length names })) moves r
  entered_run w path level todo names moves clears inner run =
      let cleared = subst (λ b. Runs (cond (nat_le (length names) w.left) (walk_on (tasks_of b level path names ++ leaving b level path ++ todo) (record w { left = w.left - length names })) (too_many w)) moves r) clears run in
      let left = subst (λ b. Runs (cond (nat_le (length names) w.left) (walk_on (tasks_of true level path names ++ cond b [] (Make (RemoveFolder path) ∷ []) ++ todo) (record w { left = w.left - length names })) (too_many w)) moves r) inner cleared in
      subst (λ tasks. Runs (walk_on tasks (record w { left = w.left - length names })) moves r) (append_assoc (tasks_of true level path names) (Make (RemoveFolder path) ∷ []) todo)
      (by (nat_le (length names) w.left) left)
    where
      by : (b : Bool) → Runs (cond b (walk_on (tasks_of true level path names ++ (Make (RemoveFolder path) ∷ []) ++ todo) (record w { left = w.left - length names })) (too_many w)) moves r
          → Runs (walk_on (tasks_of true level path names ++ (Make (RemoveFolder path) ∷ []) ++ todo) (record w { left = w.left - length names })) moves r
      by true run = run
      by false run = absurd (never_too_many w moves clears run)

  pub visited : (fuel : ℕ) → Visits fuel
  visited zero v p todo w t m low clears rooted ready = absurd (omega (arith, low))
  visited (suc fuel) (RemoveFile path) p todo w t m low clears rooted ready =
      let gone = leaf_goes t path p (look t p) rooted ready.0 refl ready.1 in
      let next = goes (walking w (RemoveFile path) todo) (steps.RemoveFile path) t r answers.Done (cut t p) m refl gone alive in
      record {
        w = w;
        clears = clears;
        new = cut t p;
        rooted = subst Rooted (ap (λ (a : PlainAnswer × Tree). a.1) gone) (steps_keep_rooted t (steps.RemoveFile path) Plain rooted);
        on = next.on;
        leads = next.leads;
        fewer = omega (arith, next.shorter);
        is = cut_sheds t p rooted (λ n. none_below t p n [] rooted (λ folder. let wrong : true ≡ false = sym ready.1 ∙ ap is_leaf folder in cc));
      }
  visited (suc fuel) (Enter path level) p todo w t m low clears rooted ready =
      let first = goes (walking w (Enter path level) todo) (steps.ReadDir path) t r (answers.Names (listing t p)) t m refl (lists_folder t path p rooted ready.0 ready.1) alive in
      let inside : MadeOn (walk_on (tasks_of true level path (listing t p) ++ Make (RemoveFolder path) ∷ todo) (record w { left = w.left - length (listing t p) })) t r
      = record { moves = first.on.moves; run = entered_run w path level todo (listing t p) first.on.moves clears ready.2 first.on.run; answered = first.on.answered } in
      let x = all_swept fuel (visited fuel) (listing t p) path p level (Make (RemoveFolder path) ∷ todo) (record w { left = w.left - length (listing t p) }) t ready.2 inside (omega (arith, first.shorter, low)) clears rooted ready.0 (listing_told t p) (listing_distinct t p) in
      let none = λ (n : List ℕ). child_gone t x.new p n (look t (p ++ n ∷ [])) x.is refl in
      let there : look x.new p ≡ Some Folder = x.is p ∙ ap (λ b. cond b None (look t p)) (folder_apart p (listing t p)) ∙ ready.1 in
      let gone = empties x.new path p x.rooted ready.0 there ready.3 (none_listed x.new p (listing x.new p) (listing_told x.new p) none) in
      let last = goes (walking x.w (RemoveFolder path) todo) (steps.RemoveDir path) x.new r answers.Done (cut x.new p) x.on refl gone alive in
      record {
        w = x.w;
        clears = x.clears;
        new = cut x.new p;
        rooted = subst Rooted (ap (λ (a : PlainAnswer × Tree). a.1) gone) (steps_keep_rooted x.new (steps.RemoveDir path) Plain x.rooted);
        on = last.on;
        leads = leads_on t m.moves first.on.moves x.new x.on.moves (tree_on (cut x.new p) last.on.moves) first.leads x.leads last.leads;
        fewer = omega (arith, first.shorter, x.fewer, last.shorter);
        is = λ q. cut_sheds x.new p x.rooted none q ∙ folder_shed t x.new p q (listing t p) (under p q) (among p (listing t p) q) refl refl (x.is q);
      }
  visited _ v p todo w t m low clears rooted ready = absurd ready

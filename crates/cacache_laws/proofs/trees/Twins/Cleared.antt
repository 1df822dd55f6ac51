-- A clearing of both trees, one of which lacks idle contents.
-- A removal that is made on two logs.
use Rattle.std.proofs.{lemmas.Grind.{common_steps}, Common.{rules, ◌≡◌, ◌⊎◌, inl, inr, ◌-◌, ℕ, suc, Bool, true, false, cond, nat_le, List, [], ◌∷◌, ◌++◌, None, Some, Result, Ok, Err, length, refl, sym, ap, subst, ◌∙◌, arith, append-nil}}
use Rattle.std.specs.Prelude.{bytes_eq}
use Rattle.cacache_core.specs.{declared.errors.{Fault.{Fault}, Error.TheVariants.{IoError}}, Paths.{join, content_area, index_area, temp_area, Names, names_of, home_of}}
use Rattle.cacache_store.specs.declared.store.{answer.{Kind.{Kind}, Name.{Name}}, log.LogItem.{LogItem}}
use Rattle.cacache_disk.specs.{declared.{luck.Luck.TheVariants.{Plain}, node.Node.{Node, TheVariants.{Folder, File, Link}}}, Tree.{Tree, look, listing, kind_of, Rooted}, LedTo.{folder}, Apply.{apply}, Replay.{tree_of}}
use Rattle.cacache_calls.specs.{declared.{reply.Reply.{Reply, TheVariants.{Listed, Done, Refused}}, visit.{Task.{Task}, Visit.TheVariants.{Enter, RemoveFile}}, command.Command.{Command}}, Common.{fails}, State.{over, Walk, Site}, Walking.{most, failed, give, miss, walk_on, walk_ends, task_for_name, tasks_of, too_many, walk}, Runs.{Moves, Runs}, Steps.{content_path}, Table.{opening}}
use Rattle.cacache_value.{specs.Kinds.{Content, Way, Stray, path_kind}, proofs.PathKinds.{kind-below}}
use Rattle.cacache_laws.specs.{Sequence.{tree_on}, trees.{Walks.{is_leaf}, Idle.{BreaksOff, LacksIdle, Removed}}}
use Rattle.cacache_laws.proofs.{Removing.Sheds.{Shed, ShedAll, among, sheds_more, lists_folder, told_still, long_names}, trees.{Children.{child_path, folder_found, folder_there, proper_child, same_listing}, Covering.{home_named, named_on}, Twins.{Twice.{Follows, lacks_still, same_node}, Fully.{lacks_at, Both, key_goes, last_removed}}, Stepping.{MadeOn, goes, over_stays, said_over, Whole}, Swept.{Swept, alive, never_too_many, visited}, Logged.{log_rooted}}, Calls.InParts.{logs_lead}}
use Rattle.cacache_history.proofs.{Listings.ToldFolders.{Told, AreDistinct, listing_told, listing_distinct}, Each.{Each}}
use Rattle.cacache_core.specs.declared.errors.Fault.TheVariants as faults
use Rattle.cacache_store.specs.declared.store.step.Step.TheVariants as steps
use Rattle.cacache_store.specs.declared.store.answer.Answer.TheVariants as answers
use Rattle.cacache_store.specs.declared.store.answer.Kind.TheVariants as kinds
use Rattle.cacache_calls.specs.declared.command.Command.TheVariants as commands

-- ---- the top folder

-- a file in the top folder ends a clearing
abbrev is_end : Kind → Bool
is_end kinds.File = true
is_end other = false

-- a name of a folder
abbrev pub IsFolderName : Name → Type 0
IsFolderName n = n.kind ≡ kinds.Folder

-- the names before it
abbrev before : List Name → List Name
before [] = []
before (n ∷ ns) = cond (is_end n.kind) [] (n ∷ before ns)

module _ (r : Reply) (whole : BreaksOff commands.Clear r → ⊥) where
  -- a clearing that misses something ends there, and isn't done
  missed : (t : Tree) (w : Walk) (todo : List Task) (fault : Fault) (moves : Moves) → w.clears ≡ true → Runs (miss w (walk_on todo) fault) moves r → (tree_on t moves ≡ t) × (r ≡ Done → ⊥)
  missed t w todo fault moves clears run =
      let failed_now = subst (λ b. Runs (cond b (fails fault) (give w (failed fault ∷ []) (walk_on todo))) moves r) clears run in
      let said = said_over (Refused (IoError fault [])) r moves (alive r whole) failed_now in
      (over_stays t _ r moves failed_now, λ done. let wrong : Done ≡ Refused (IoError fault []) = sym done ∙ said in cc)

  ended : (t : Tree) (w : Walk) (moves : Moves) → w.clears ≡ true → Runs (walk_ends w) moves r → (tree_on t moves ≡ t) × (r ≡ Done)
  ended t w moves clears run =
      let done = subst (λ b. Runs (cond b (over Done) (over (Listed w.items))) moves r) clears run in
      (over_stays t Done r moves done, said_over Done r moves (alive r whole) done)

  -- the walk ends at this name, or goes on without it
  abbrev TopName : (k : Kind) (path : List ℕ) (q : Names) (rest : List Task) (w : Walk) (t : Tree) → MadeOn (walk_on (task_for_name true 0 path k ∷ rest) w) t r → Type 0
  TopName k path q rest w t m =
      ((is_end k ≡ true) × (tree_on t m.moves ≡ t) × (r ≡ Done → ⊥))
      ⊎ ((is_end k ≡ false) × Swept r whole (walk_on (task_for_name true 0 path k ∷ rest) w) t m rest (λ new. Shed t new q))

  top_name : (k : Kind) (node : Node) (path : List ℕ) (p : Names) (name : List ℕ) (rest : List Task) (w : Walk) (t : Tree) → k ≡ kind_of node → look t (p ++ name ∷ []) ≡ Some node
      → (m : MadeOn (walk_on (task_for_name true 0 path k ∷ rest) w) t r) → w.clears ≡ true → Rooted t → names_of path ≡ Ok (p ++ name ∷ []) → TopName k path (p ++ name ∷ []) rest w t m
  top_name kinds.Folder Folder path p name rest w t is there m clears rooted named = search (rules, visited, long_names)
  top_name kinds.File (File bytes) path p name rest w t is there m clears rooted named =
      let miss = missed t w rest faults.NotADirectory m.moves clears m.run in inl (refl, miss.0, miss.1)
  top_name kinds.Link (Link target) path p name rest w t is there m clears rooted named = search (rules, visited)
  top_name k node path p name rest w t is there m clears rooted named = absurd cc

  -- it is done and there was no file, or it isn't and there was one
  abbrev EndsAs : List Name → Type 0
  EndsAs ns = ((before ns ≡ ns) × (r ≡ Done)) ⊎ ((r ≡ Done → ⊥) × (Each IsFolderName ns → ⊥))

  sheds_none : (t new : Tree) (p : Names) (ns : List Name) → ns ≡ [] → new ≡ t → ShedAll t new p ns
  sheds_none t new p ns none same q = ap (λ x. look x q) same ∙ rw none refl

  top_swept : (ns : List Name) (cache : List ℕ) (p : Names) (w : Walk) (t : Tree) → (m : MadeOn (walk_on (tasks_of true 0 cache ns ++ []) w) t r) → w.clears ≡ true → Rooted t → names_of cache ≡ Ok p → Each (Told t p) ns → AreDistinct ns
      → ShedAll t (tree_on t m.moves) p (before ns) × EndsAs ns
  top_swept [] cache p w t m clears rooted named told apart = (sheds_none t (tree_on t m.moves) p [] refl (ended t w m.moves clears m.run).0, inl (refl, (ended t w m.moves clears m.run).1))
  top_swept (n ∷ ns) cache p w t m clears rooted named told apart =
      let own = named_on cache p n.name named (proper_child t p n.name told.0.node rooted told.0.stands) in
      elim (top_name n.kind told.0.node (join cache n.name) p n.name (tasks_of true 0 cache ns ++ []) w t told.0.kind told.0.stands m clears rooted own) [
        | inl end ↦ (sheds_none t (tree_on t m.moves) p (before (n ∷ ns)) (ap (λ b. cond b [] (n ∷ before ns)) end.0) end.1, inr (end.2, λ folders. let wrong : true ≡ false = sym end.0 ∙ ap is_end folders.0 in cc))
        | inr on ↦ (
            let x = on.1 in
            let rest = top_swept ns cache p x.w x.new x.on x.clears x.rooted named (told_still t x.new p n.name ns x.is apart.0 told.1) apart.1 in
            let all = sheds_more t x.new (tree_on x.new x.on.moves) p n (before ns) x.is rest.0 in
            let this : before (n ∷ ns) ≡ n ∷ before ns = ap (λ b. cond b [] (n ∷ before ns)) on.0 in (
              subst (λ l. ShedAll t (tree_on t m.moves) p l) (sym this) (subst (λ y. ShedAll t y p (n ∷ before ns)) (sym x.leads) all),
              elim rest.1 [ inl all ↦ inl (this ∙ ap (λ l. n ∷ l) all.0, all.1) | inr file ↦ inr (file.0, λ folders. file.1 folders.1) ],
            ))
      ]

-- ---- one tree

-- what a clearing leaves of a tree: what it is without the names before the first file, or all if the cache has no folder
pub data Cleared (r : Reply) (cache : List ℕ) (t new : Tree) : Type 0 where
  swept : (p : Names) → names_of cache ≡ Ok p → look t p ≡ Some Folder → ShedAll t new p (before (listing t p)) → ((before (listing t p) ≡ listing t p) × (r ≡ Done)) ⊎ ((r ≡ Done → ⊥) × (Each IsFolderName (listing t p) → ⊥)) → Cleared r cache t new
  kept : ((p : Names) → names_of cache ≡ Ok p → look t p ≡ Some Folder → ⊥) → new ≡ t → (r ≡ Done → ⊥) → Cleared r cache t new

module _ (r : Reply) (whole : BreaksOff commands.Clear r → ⊥) (cache : List ℕ) (t : Tree) (rooted : Rooted t) (m : MadeOn (walk true cache) t r) where
  abbrev first_walk : Walk
  first_walk = record { clears = true; items = []; left = most }

  names_run : (b : Bool) (names : List Name) (moves : Moves) → Runs (cond b (walk_on (tasks_of true 0 cache names ++ [] ++ []) (record first_walk { left = most - length names })) (too_many first_walk)) moves r
      → Runs (walk_on (tasks_of true 0 cache names ++ []) (record first_walk { left = most - length names })) moves r
  names_run true names moves run = subst (λ tasks. Runs (walk_on tasks (record first_walk { left = most - length names })) moves r) (append-nil (tasks_of true 0 cache names ++ [])) run
  names_run false names moves run = absurd (never_too_many r whole first_walk moves refl run)

  cleared_at : (f : Result Names Fault) → folder t cache ≡ f → Cleared r cache t (tree_on t m.moves)
  unfolding apply
  cleared_at (Ok p) is =
      let at = folder_found t cache p is in
      let go = goes (walk true cache) (steps.ReadDir cache) t r (answers.Names (listing t p)) t m refl (lists_folder t cache p rooted at.0 at.1) (alive r whole) in
      let inside : MadeOn (walk_on (tasks_of true 0 cache (listing t p) ++ []) (record first_walk { left = most - length (listing t p) })) t r
      = record { moves = go.on.moves; run = names_run (nat_le (length (listing t p)) most) (listing t p) go.on.moves go.on.run; answered = go.on.answered } in
      let all = top_swept r whole (listing t p) cache p (record first_walk { left = most - length (listing t p) }) t inside refl rooted at.0 (listing_told t p) (listing_distinct t p) in
      swept p at.0 at.1 (subst (λ x. ShedAll t x p (before (listing t p))) (sym go.leads) all.0) all.1
  cleared_at (Err fault) is =
      let fails_so : apply t (steps.ReadDir cache) Plain ≡ (answers.Failed fault, t) = rw is refl in
      let go = goes (walk true cache) (steps.ReadDir cache) t r (answers.Failed fault) t m refl fails_so (alive r whole) in
      let miss = missed r whole t first_walk [] fault go.on.moves refl go.on.run in
      kept (λ p named there. let wrong : Err fault ≡ Ok p = sym is ∙ folder_there t cache p rooted named there in cc) (go.leads ∙ miss.0) miss.1

  pub cleared : Cleared r cache t (tree_on t m.moves)
  cleared = cleared_at (folder t cache) refl

-- ---- both trees

not_content : (b c d : Bool) → cond b Way (cond c Way (cond d Way Stray)) ≡ Content → ⊥
not_content b c d e = grind (arith, common_steps)

module _ (cache : List ℕ) (home : Names) (full lean rest left : Tree) (is : home_of cache ≡ Some home) (l : LacksIdle cache home full lean) where
  named_home : (p : Names) → names_of cache ≡ Ok p → home ≡ p
  named_home p named = let both : Some home ≡ Some p = sym is ∙ home_named cache p named in cc

  -- in the top folder both have the same
  same_child : (name : List ℕ) → look lean (home ++ name ∷ []) ≡ look full (home ++ name ∷ [])
  same_child name = search (rules, same_node, not_content, kind-below)

  same_names : listing lean home ≡ listing full home
  same_names = same_listing lean full home (λ q child.
      let q_is = child_path home q child in
      ap (look lean) q_is ∙ same_child _ ∙ ap (look full) (sym q_is))

  same_top : look lean home ≡ look full home
  same_top = same_node cache home full lean is l home (λ c.
      let way : Way ≡ Content = sym (kind-below home []) ∙ ap (path_kind (Some home)) (append-nil home) ∙ c in cc)

  both_shed : (ns : List Name) → ShedAll full rest home ns → ShedAll lean left home ns → LacksIdle cache home rest left
  both_shed ns one two = lacks_still cache home full lean rest left l (λ q node e. within q node (among home ns q) (sym (one q) ∙ e)) (λ q. follows q (among home ns q) (one q) (two q))
    where
      within : (q : Names) (node : Node) (b : Bool) → cond b None (look full q) ≡ Some node → look full q ≡ Some node
      within q node true e = absurd cc
      within q node false e = e

      follows : (q : Names) (b : Bool) → look rest q ≡ cond b None (look full q) → look left q ≡ cond b None (look lean q) → Follows full lean rest left q
      follows q true e f = inl (f ∙ sym e)
      follows q false e f = inr (e, f)

  pub both_cleared : {x y : Reply} → Cleared x cache full rest → Cleared y cache lean left → LacksIdle cache home rest left
  both_cleared (swept p named there one end) (swept q other here two other_end) =
      let first : ShedAll full rest home (before (listing full home)) = subst (λ x. ShedAll full rest x (before (listing full x))) (sym (named_home p named)) one in
      let second : ShedAll lean left home (before (listing lean home)) = subst (λ x. ShedAll lean left x (before (listing lean x))) (sym (named_home q other)) two in
      both_shed (before (listing full home)) first (subst (λ ns. ShedAll lean left home (before ns)) same_names second)
  both_cleared (swept p named there one end) (kept never same unfinished) =
      let p_is = named_home p named in
      absurd (never p named (ap (look lean) (sym p_is) ∙ same_top ∙ ap (look full) p_is ∙ there))
  both_cleared (kept never same unfinished) (swept q other here two end) =
      let q_is = named_home q other in
      absurd (never q other (ap (look full) (sym q_is) ∙ sym same_top ∙ ap (look lean) q_is ∙ here))
  both_cleared (kept never same unfinished) (kept other again too) = lacks_at cache home rest left full lean same again l

module _ (cache : List ℕ) (command : Command) (old new : List LogItem) (x : Removed cache command old new) where
  abbrev pub place : Site
  place = record { cache = cache; base = x.called.base; number = x.called.number }

  -- on the tree of its log
  abbrev pub run_of : MadeOn (opening place command) (tree_of old) x.reply
  run_of = record {
    moves = x.called.ran.0;
    run = x.called.ran.1;
    answered = (logs_lead old new x.called.ran.0 x.called.ran.2 x.called.logged).0;
  }

  pub leads_to : tree_of new ≡ tree_on (tree_of old) x.called.ran.0
  leads_to = (logs_lead old new x.called.ran.0 x.called.ran.2 x.called.logged).1

module _ (cache : List ℕ) (home : Names) (full rest lean left : List LogItem) (is : home_of cache ≡ Some home) (l : LacksIdle cache home (tree_of full) (tree_of lean)) where
  -- at the trees that the runs of a removal lead to, it is so
  LacksAfter : (command : Command) → Removed cache command full rest → Removed cache command lean left → Type 0
  LacksAfter command one two = LacksIdle cache home (tree_on (tree_of full) one.called.ran.0) (tree_on (tree_of lean) two.called.ran.0)

  both_of : (command : Command) (one : Removed cache command full rest) (two : Removed cache command lean left) → Whole one.reply → Whole two.reply → Both (opening (place cache command full rest one) command) (opening (place cache command lean left two) command) (tree_of full) (tree_of lean)
  both_of command one two whole sound = record {
    reply = one.reply;
    whole = whole;
    run = run_of cache command full rest one;
    other = two.reply;
    sound = sound;
    second = run_of cache command lean left two;
  }

  removed : (command : Command) (one : Removed cache command full rest) (two : Removed cache command lean left) → LacksAfter command one two
  unfolding LacksAfter both_of
  removed (commands.RemoveHash i) one two = last_removed cache home (content_path cache i) (tree_of full) (tree_of lean) (log_rooted full) (log_rooted lean) l (both_of (commands.RemoveHash i) one two one.whole two.whole)
  removed (commands.RemoveFully key) one two = key_goes cache home is key (tree_of full) (tree_of lean) (log_rooted full) (log_rooted lean) l (both_of (commands.RemoveFully key) one two one.whole two.whole)
  removed commands.Clear one two =
      both_cleared cache home (tree_of full) (tree_of lean) (tree_on (tree_of full) one.called.ran.0) (tree_on (tree_of lean) two.called.ran.0) is l
      (cleared one.reply one.whole cache (tree_of full) (log_rooted full) (run_of cache commands.Clear full rest one))
      (cleared two.reply two.whole cache (tree_of lean) (log_rooted lean) (run_of cache commands.Clear lean left two))
  removed command one two = absurd (let wrong : false ≡ true = one.removal in cc)

-- a tree still lacks idle contents alone after a removal that is made on both, whatever each of the two answers
pub still_lacks_idle : (cache : List ℕ) (home : Names) (command : Command) (full rest lean left : List LogItem) → home_of cache ≡ Some home
    → Removed cache command full rest → Removed cache command lean left → LacksIdle cache home (tree_of full) (tree_of lean)
    → LacksIdle cache home (tree_of rest) (tree_of left)
unfolding LacksAfter
still_lacks_idle cache home command full rest lean left is one two l =
    lacks_at cache home (tree_of rest) (tree_of left) (tree_on (tree_of full) one.called.ran.0) (tree_on (tree_of lean) two.called.ran.0) (leads_to cache command full rest one) (leads_to cache command lean left two)
    (removed cache home full rest lean left is l command one two)

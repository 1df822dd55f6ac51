-- What a step does on a tree that lets it succeed, and how a call ends if all of its steps do.
use Rattle.std.proofs.{Common.{◌≡◌, inl, inr, Bool, true, false, cond, List, [], ◌∷◌, None, Some, sym, ap, subst, ◌∙◌, rules, ◌<◌, ℕ, ◌++◌, Option, Ok, Err, length, take, refl, arith, append_assoc}, lemmas.{Grind.{common_steps}, List.Elements.{All-head, All-tail}}}
use Rattle.std.specs.{Prelude.{All, IfOk}, List.{AllByRecursion}}
use Rattle.cacache_store.specs.{declared.store.{log.LogItem.{LogItem}, plain.PlainTemp.{PlainTemp}}, Plain.{PlainStep, PlainAnswer}}
use Rattle.cacache_disk.specs.{declared.{luck.Luck.TheVariants.{Plain}, node.Node.{Node, TheVariants.{Folder, File, Link}}}, Tree.{Tree, look, put, cut, bytes_of, Rooted}, Apply.{apply, make_some, made_temp}, Replay.{tree_of, IsLog}, LedTo.{way_fault, place, known, leads, followed, free, writable, file_at, folder, dirs}}
use Rattle.cacache_disk.proofs.{KeptFolders.{outcome_rooted}, PlantedNodes.{full}, PutNodes.{look-put}, Roots.{same_self}, Standing.{upper_folder, way_clear}}
use Rattle.cacache_calls.specs.{declared.reply.Reply.{Reply}, Replies.{OrMemory}, Runs.{Moves, Runs, Ran}, State.{State, over}, Table.{wants, after}}
use Rattle.cacache_laws.specs.Sequence.{tree_on, AreAnswered}
use Rattle.cacache_laws.proofs.{Calls.InParts.{logs_lead}, Putting.WrittenFiles.{Stands, way_into, kept_so, replaceable_so}, trees.Covering.{named_on}}
use Rattle.cacache_core.specs.{declared.errors.Fault.{Fault}, Paths.{Names, names_of, names_below, IsProperName, home_of, join, joined, folders_to}}
use Rattle.cacache_core.proofs.JoinedNames.{joined_texts_name}
use Rattle.cacache_value.specs.{Kinds.{PathKind, Content, Bucket, Way, path_kind, is_used, kind_below, IsFor}, Placed.{MayStand, Placed, Proper}}
use Rattle.cacache_value.proofs.{Applying.{OnlyMissing, way_missing}, PathKinds.{kind-below}, MadeFolders.{no_dirs_fault}, Traces.{steps_keep_placed}}
use Rattle.cacache_loss.proofs.StepCases.{make_keeps}
use Rattle.cacache_core.specs.declared.errors.Fault.TheVariants as faults
use Rattle.cacache_store.specs.declared.store.step.Step.TheVariants as steps
use Rattle.cacache_store.specs.declared.store.answer.Answer.TheVariants as answers

-- from this state on this tree a call ends so, or memory is refused
abbrev pub EndsSo : (Tree → Reply → Type 0) → Tree → State → Type 0
EndsSo Q t s = (moves : Moves) (r : Reply) → Runs s moves r → AreAnswered t moves → OrMemory (Q (tree_on t moves) r) r

module _ (Q : Tree → Reply → Type 0) where
  pub ends : (t : Tree) (r : Reply) → Q t r → EndsSo Q t (over r)
  ends t r q [] x (inl e) answered = let same : r ≡ x = cc in inr (subst (Q t) same q)
  ends t r q [] x (inr e) answered = inl e
  ends t r q (m ∷ moves) x run answered = absurd cc

  -- a step with this answer and tree, if the state after it ends so
  pub goes : (t new : Tree) (s : State) (step : PlainStep) (a : PlainAnswer) → wants s ≡ Some step → apply t step Plain ≡ (a, new) → EndsSo Q new (after s a) → EndsSo Q t s
  goes t new s step a want is next [] r (inl e) answered = let no : Some step ≡ None = sym want ∙ ap wants e in absurd cc
  goes t new s step a want is next [] r (inr e) answered = inl e
  goes t new s step a want is next (m ∷ moves) r run answered =
      let made : m.0 ≡ step = (let both : Some step ≡ Some m.0 = sym want ∙ run.0 in cc) in
      let result : apply t m.0 Plain ≡ (a, new) = ap (λ x. apply t x Plain) made ∙ is in
      let tree : (apply t m.0 Plain).1 ≡ new = ap (λ (x : PlainAnswer × Tree). x.1) result in
      let answer : m.1 ≡ a = answered.0 ∙ ap (λ (x : PlainAnswer × Tree). x.0) result in
      subst (λ x. OrMemory (Q (tree_on x moves) r) r) (sym tree)
      (next moves r (subst (λ x. Runs (after s x) moves r) answer run.2) (subst (λ x. AreAnswered x moves) tree answered.1))

-- a reply and a state that are chosen by the same test
pub both : (P : Reply → State → Type 0) (b : Bool) (x y : Reply) (u v : State) → P x u → P y v → P (cond b x y) (cond b u v)
both P true x y u v p q = p
both P false x y u v p q = q

-- the log of a store in memory gained such a run
pub of_log : (Q : Tree → Reply → Type 0) (s : State) (r : Reply) (old new : List LogItem) → EndsSo Q (tree_of old) s → Ran s r (Some old) (Some new) → IsLog new → OrMemory (Q (tree_of new) r) r
of_log Q s r old new ends ran logged =
    let lead = logs_lead old new ran.0 ran.2 logged in
    subst (λ t. OrMemory (Q t r) r) (sym lead.1) (ends ran.0 r ran.1 lead.0)

-- ---- what a step does on a tree that lets it succeed

-- each thing is where it may be
pub record Ground (home : Names) (t : Tree) : Type 0 where
  pub placed : Placed (Some home) t
  pub rooted : Rooted t

-- a step that a call may make leaves it so
pub goes_to : (home : Names) (t new : Tree) (step : PlainStep) (a : PlainAnswer) → Ground home t → Proper (Some home) step → apply t step Plain ≡ (a, new) → Ground home new
goes_to home t new step a g proper is = record {
  placed = subst (Placed (Some home)) (ap (λ (r : PlainAnswer × Tree). r.1) is) (steps_keep_placed (Some home) t step Plain g.placed proper);
  rooted = outcome_rooted t new step Plain a g.rooted is;
}

-- ---- paths below the cache's folder

-- a path's text has these names below the folder, and is for this
pub record Lies (home : Names) (p : List ℕ) (ns : Names) (k : PathKind) : Type 0 where
  pub named : names_of p ≡ Ok (home ++ ns)
  pub kind : path_kind (Some home) (home ++ ns) ≡ k

pub joined_lies : (cache : List ℕ) (home ns : Names) (k : PathKind) → home_of cache ≡ Some home → All IsProperName ns → 0 < length ns → kind_below ns ≡ k → Lies home (joined cache ns) ns k
joined_lies cache home ns k is all some kind = search (rules, joined_texts_name, kind-below)

pub is_for : (home : Names) (p : List ℕ) (ns : Names) (k : PathKind) → Lies home p ns k → IsFor (Some home) k p
is_for home p ns k lies = subst (λ r. IfOk r (λ names. path_kind (Some home) names ≡ k)) (sym lies.named) lies.kind

-- ---- where a path leads

-- into a folder that is there
pub place_in : (t : Tree) (p : List ℕ) (front : Names) (name : List ℕ) → Rooted t → names_of p ≡ Ok (front ++ name ∷ []) → look t front ≡ Some Folder → place t p ≡ Ok (front ++ name ∷ [])
unfolding place
place_in t p front name rooted is there = rw (is, way_into t [] front name rooted there) refl

-- to what is there
pub place_at : (t : Tree) (p : List ℕ) (names : Names) (node : Node) → Rooted t → names_of p ≡ Ok names → look t names ≡ Some node → place t p ≡ Ok names
unfolding place
place_at t p names node rooted is there = rw (is, way_clear t [] names node rooted there) refl

-- to a place for something, or a folder on the way is missing
pub data Reached (t : Tree) (p : List ℕ) (names : Names) : Type 0 where
  arrives : place t p ≡ Ok names → Reached t p names
  missing : look t names ≡ None → place t p ≡ Err faults.NotFound → Reached t p names

reached_none : (t : Tree) (p : List ℕ) (names : Names) (fault : Option Fault) → way_fault t [] names ≡ fault → OnlyMissing fault → names_of p ≡ Ok names → look t names ≡ None → Reached t p names
unfolding place
reached_none t p names fault e h is none = grind (arith, common_steps)

pub reached : (home : Names) (t : Tree) (p : List ℕ) (names : Names) → Ground home t → names_of p ≡ Ok names → is_used (path_kind (Some home) names) ≡ true → (here : Option Node) → look t names ≡ here → Reached t p names
reached home t p names g is used None e = reached_none t p names (way_fault t [] names) refl (way_missing (Some home) t [] names used g.placed) is e
reached home t p names g is used (Some node) e = arrives (place_at t p names node g.rooted is e)

-- ---- folders

module _ (home : Names) (t : Tree) (g : Ground home t) (p : List ℕ) (ns : Names) (lies : Lies home p ns Way) where
  pub makes_dirs : apply t (steps.MakeDirs p) Plain ≡ (answers.Done, make_some t [] (home ++ ns) (length (home ++ ns)))
  unfolding apply dirs
  makes_dirs = rw (lies.named, no_dirs_fault (Some home) t [] (home ++ ns) lies.kind g.placed) refl

  pub dirs_ground : Ground home (make_some t [] (home ++ ns) (length (home ++ ns)))
  dirs_ground = goes_to home t (make_some t [] (home ++ ns) (length (home ++ ns))) (steps.MakeDirs p) answers.Done g (is_for home p ns Way lies) makes_dirs

  pub dirs_stand : look (make_some t [] (home ++ ns) (length (home ++ ns))) (home ++ ns) ≡ Some Folder
  dirs_stand = full t [] (home ++ ns) (length (home ++ ns)) g.rooted.top (no_dirs_fault (Some home) t [] (home ++ ns) lies.kind g.placed) (omega arith)

  pub dirs_keep : (q : Names) (node : Node) → look t q ≡ Some node → look (make_some t [] (home ++ ns) (length (home ++ ns))) q ≡ Some node
  dirs_keep q node e = make_keeps t [] (home ++ ns) q node (length (home ++ ns)) e

-- a folder that is there is synced
pub syncs_dir : (t : Tree) (p : List ℕ) (names : Names) → Rooted t → names_of p ≡ Ok names → look t names ≡ Some Folder → apply t (steps.SyncDir p) Plain ≡ (answers.Done, t)
unfolding apply folder
syncs_dir t p names rooted is there = rw (place_at t p names Folder rooted is there, there) refl

-- each of these folders is
abbrev pub SyncsAll : Tree → List (List ℕ) → Type 0
SyncsAll t = AllByRecursion (λ (p : List ℕ). apply t (steps.SyncDir p) Plain ≡ (answers.Done, t))

-- the folders that lead to what is there are synced too
pub syncs_folders : (t : Tree) (p : List ℕ) (above ns : Names) (node : Node) → Rooted t → names_of p ≡ Ok above → All IsProperName ns → look t (above ++ ns) ≡ Some node → SyncsAll t (folders_to p ns)
syncs_folders t p above [] node rooted is all there = tt
syncs_folders t p above (n ∷ ns) node rooted is all there = (
  syncs_dir t p above rooted is (upper_folder t above ns n node rooted there),
  syncs_folders t (join p n) (above ++ n ∷ []) ns node rooted (named_on p above n is (All-head IsProperName n ns all)) (All-tail IsProperName n ns all)
      (ap (look t) (append_assoc above (n ∷ []) ns) ∙ there),
)

-- ---- a temporary file

pub creates : (t : Tree) (p : List ℕ) (front : Names) (name : List ℕ) → Rooted t → names_of p ≡ Ok (front ++ name ∷ []) → look t front ≡ Some Folder → look t (front ++ name ∷ []) ≡ None
    → apply t (steps.CreateTemp p) Plain ≡ (answers.Temp (made_temp p), put t (front ++ name ∷ []) (File []))
unfolding apply free
creates t p front name rooted is there none = rw (place_in t p front name rooted is there, none) refl

pub look_own : (t : Tree) (q : Names) (node : Node) → look (put t q node) q ≡ Some node
look_own t q node = look-put t q node q ∙ ap (λ b. cond b (Some node) (look t q)) (same_self q)

pub persists : (home : Names) (t : Tree) (file : PlainTemp) (path : List ℕ) (names : Names) (s : Stands t file) → place t path ≡ Ok names → MayStand (Some home) (look t names) Content
    → apply t (steps.Persist file path) Plain ≡ (answers.Done, put (cut t s.names) names (File s.bytes))
unfolding apply
persists home t file path names s led may =
    let is_known : known file.bytes ≡ Ok s.bytes = ap known s.known_to_be in
    rw (is_known, kept_so t file s, replaceable_so (Some home) t path names led may) refl

-- ---- a bucket

writable_so : (home : Names) (t : Tree) (p : List ℕ) (names : Names) (here : Option Node) → look t names ≡ here → MayStand (Some home) here Bucket → place t p ≡ Ok names → writable t p ≡ Ok names
unfolding writable leads followed
writable_so home t p names here is s led = grind (arith, common_steps)

pub appends : (home : Names) (t : Tree) (p : List ℕ) (names : Names) (line : List ℕ) → MayStand (Some home) (look t names) Bucket → place t p ≡ Ok names
    → apply t (steps.Append p line) Plain ≡ (answers.Took (length line), put t names (File (bytes_of (look t names) ++ take (length line) line)))
unfolding apply
appends home t p names line may led = rw (writable_so home t p names (look t names) refl may led) refl

pub file_so : (t : Tree) (p : List ℕ) (names : Names) (bytes : List ℕ) → place t p ≡ Ok names → look t names ≡ Some (File bytes) → file_at t p faults.IsADirectory ≡ Ok bytes
unfolding file_at leads followed
file_so t p names bytes led there = rw (led, there, there) refl

pub syncs_file : (t : Tree) (p : List ℕ) (names : Names) (bytes : List ℕ) → place t p ≡ Ok names → look t names ≡ Some (File bytes) → apply t (steps.SyncFile p) Plain ≡ (answers.Done, t)
unfolding apply
syncs_file t p names bytes led there = rw (file_so t p names bytes led there) refl

-- A listing in which all steps succeed.
use Rattle.std.proofs.{Common.{arith, ◌≡◌, inl, inr, ◌+◌, ◌-◌, ℕ, Bool, true, false, cond, nat_le, List, [], ◌∷◌, ◌++◌, Option, None, Some, Ok, option_map, length, take, refl, sym, ap, subst, ◌∙◌, append_assoc}, lemmas.{Grind.{common_steps}, List.Elements.{All-head}}}
use Rattle.std.specs.{Prelude.{filter_map, suc, map as each}, List.{AllByRecursion, cons_option}}
use Rattle.hex.specs.Hex.{encode_lower}
use Rattle.sha1.specs.Sha1.{sha1}
use Rattle.cacache_core.specs.{declared.errors.Error.TheVariants.{IoError}, Paths.{Names, names_of, IsProperName, cut_digits, index_area, join}}
use Rattle.cacache_core.proofs.{PathLemmas.{keys_have_digests}, ProperNames.{names_are_proper}}
use Rattle.cacache_core.specs.declared.errors.Fault.TheVariants as faults
use Rattle.cacache_store.specs.declared.store.answer.Answer.TheVariants as answers
use Rattle.cacache_store.specs.{declared.store.answer.{Kind.{Kind}, Name.{Name}}, Plain.{PlainStep, PlainAnswer}}
use Rattle.cacache_store.specs.declared.store.step.Step.TheVariants as steps
use Rattle.cacache_disk.specs.{declared.{luck.Luck.TheVariants.{Plain}, node.Node.{Node, TheVariants.{Folder, File, Link}}}, Tree.{Tree, look, listing, kind_of, Rooted}, LedTo.{folder}, Apply.{apply}, Replay.{tree_of}}
use Rattle.cacache_entry.specs.{Bucket.{entries_of, Found, latest}, Entry.{Entry}}
use Rattle.cacache_calls.specs.declared.command.Command.TheVariants as commands
use Rattle.cacache_calls.specs.{declared.{reply.Reply.{Reply, TheVariants.{Listed}}, visit.{Task.{Task, TheVariants.{Make, Stumble}}, Visit.{Visit, TheVariants.{Enter, ReadBucket}}}}, Replies.{OrMemory}, Runs.{Moves, Runs}, State.{State, walking, over, Item, Walk}, Table.{opening}, Walking.{after_visit, failed, items_in, listed, most, once, task_for_name, tasks_of, too_many, walk, walk_on}}
use Rattle.cacache_value.{specs.{Kinds.{Bucket, Way, kind_in_area, node_below, path_kind, is_used}, Placed.{MayStand}}, proofs.{Applying.{suits}, PathKinds.{kind-below}}}
use Rattle.cacache_history.proofs.{Listings.ToldFolders.{Told, listing_told}, Each.{Each}}
use Rattle.cacache_laws.specs.{Sequence.{AreAnswered}, Succeeds.{IsItemOrTooDeep, ListsAll, ListingsAnswer}}
use Rattle.cacache_laws.proofs.{trees.{Children.{proper_child}, Covering.{named_on}, Listing.{lists}}, Sure.{Succeeds.{back, ground}, SureRuns.{EndsSo, ends, goes, of_log, Ground, Reached, arrives, missing, file_so, place_at, reached}}, Removing.Sheds.{lists_folder}}

-- ---- items

-- each is an entry, or says that there were too many
abbrev AllItems : List Item → Type 0
AllItems = AllByRecursion IsItemOrTooDeep

both_all : (xs ys : List Item) → AllItems xs → AllItems ys → AllItems (xs ++ ys)
both_all [] ys h k = k
both_all (x ∷ xs) ys h k = (h.0, both_all xs ys h.1 k)

front_all : (n : ℕ) (xs : List Item) → AllItems xs → AllItems (take n xs)
front_all (suc n) (x ∷ xs) h = (h.0, front_all n xs h.1)
front_all n xs h = tt

more_all : (o : Option Found) (items : List Item) → AllItems items → AllItems (cons_option (option_map Ok o) items)
more_all o items h = grind (arith, common_steps)

keys_all : (es : List Entry) (keys : List (List ℕ)) → AllItems (filter_map (λ key. option_map Ok (latest key es)) keys)
keys_all es [] = tt
keys_all es (key ∷ keys) = more_all (latest key es) (filter_map (λ key. option_map Ok (latest key es)) keys) (keys_all es keys)

-- those of a bucket are entries
bucket_all : (bytes : List ℕ) → AllItems (items_in bytes)
unfolding items_in
bucket_all bytes = keys_all (entries_of bytes) (once (each (λ (e : Entry). e.key) (entries_of bytes)))

-- ---- replies

-- a listing gave such items
abbrev IsFine : Reply → Type 0
IsFine = ListsAll (Some Folder)

over_fine : (fine : Reply) → IsFine fine → (moves : Moves) (r : Reply) → Runs (over fine) moves r → OrMemory (IsFine r) r
over_fine fine is [] r (inl e) = let same : fine ≡ r = cc in inr (subst IsFine same is)
over_fine fine is [] r (inr e) = inl e
over_fine fine is (m ∷ moves) r run = absurd cc

many_fine : (items : List Item) (left : ℕ) → AllItems items → (moves : Moves) (r : Reply) → Runs (too_many (lists items left)) moves r → OrMemory (IsFine r) r
many_fine items left all moves r run = over_fine (Listed (items ++ failed faults.TooDeep ∷ [])) (both_all items (failed faults.TooDeep ∷ []) all (refl, tt)) moves r run

-- ---- what is in the index

no_link : (home : Option Names) (target : List ℕ) (rest : Names) → MayStand home (Some (Link target)) (kind_in_area Bucket 3 rest) → ⊥
no_link home target rest s = grind (arith, common_steps)

pub no_folder : (t : Tree) (p : List ℕ) (names : Names) → look t names ≡ None → Reached t p names → apply t (steps.ReadDir p) Plain ≡ (answers.Failed faults.NotFound, t)
unfolding apply folder
no_folder t p names e h = grind (arith, arrives, missing)

gives_all : (t : Tree) (p : List ℕ) (names : Names) (bytes : List ℕ) → Rooted t → names_of p ≡ Ok names → look t names ≡ Some (File bytes) → apply t (steps.ReadAll p) Plain ≡ (answers.Bytes bytes, t)
unfolding apply
gives_all t p names bytes rooted is there = rw (file_so t p names bytes (place_at t p names (File bytes) rooted is there) there) refl

module _ (home : Names) (t : Tree) (g : Ground home t) where
  -- a visit that a listing makes: of a folder or a file in the index
  abbrev Good : Visit → Type 0
  Good (Enter p level) = (rest : Names) × (names_of p ≡ Ok (home ++ index_area ∷ rest)) × (look t (home ++ index_area ∷ rest) ≡ Some Folder)
  Good (ReadBucket p) = (rest : Names) × (bytes : List ℕ) × (names_of p ≡ Ok (home ++ index_area ∷ rest)) × (look t (home ++ index_area ∷ rest) ≡ Some (File bytes))
  Good other = ⊥

  -- it stumbles only over what is too deep
  abbrev GoodTask : Task → Type 0
  GoodTask (Make v) = Good v
  GoodTask (Stumble fault p) = fault ≡ faults.TooDeep

  abbrev GoodTasks : List Task → Type 0
  GoodTasks = AllByRecursion GoodTask

  more_good : (xs ys : List Task) → GoodTasks xs → GoodTasks ys → GoodTasks (xs ++ ys)
  more_good [] ys h k = k
  more_good (x ∷ xs) ys h k = (h.0, more_good xs ys h.1 k)

  deeper_good : (b : Bool) (p : List ℕ) (level : ℕ) → Good (Enter p (level + 1)) → GoodTask (cond b (Make (Enter p (level + 1))) (Stumble faults.TooDeep p))
  deeper_good b p level good = grind (arith, common_steps)

  one_good : (k : Kind) (node : Node) (level : ℕ) (p : List ℕ) (rest : Names) → k ≡ kind_of node → names_of p ≡ Ok (home ++ index_area ∷ rest) → look t (home ++ index_area ∷ rest) ≡ Some node
      → GoodTask (task_for_name false level p k)
  one_good k node level p rest e is there = grind (arith, deeper_good, no_link, suits, kind-below)

  names_good : (level : ℕ) (p : List ℕ) (rest : Names) → names_of p ≡ Ok (home ++ index_area ∷ rest) → (ns : List Name) → Each (Told t (home ++ index_area ∷ rest)) ns → GoodTasks (tasks_of false level p ns)
  names_good level p rest is [] told = tt
  names_good level p rest is (n ∷ ns) told =
      let stands = told.0.stands in
      let proper = proper_child t (home ++ index_area ∷ rest) n.name told.0.node g.rooted stands in
      let same = append_assoc home (index_area ∷ rest) (n.name ∷ []) in (
        one_good n.kind told.0.node level (join p n.name) (rest ++ n.name ∷ []) told.0.kind (named_on p (home ++ index_area ∷ rest) n.name is proper ∙ ap Ok same) (ap (look t) (sym same) ∙ stands),
        names_good level p rest is ns told.1,
      )

  -- ---- the walk

  -- with these moves each listing on its way gives such items
  abbrev Walks : Moves → Type 0
  Walks moves =
      (items : List Item) (left : ℕ) (v : Visit) (todo : List Task) (r : Reply) → AllItems items → Good v → GoodTasks todo → Runs (walking (lists items left) v todo) moves r → AreAnswered t moves → OrMemory (IsFine r) r

  module _ (moves : Moves) (walks : Walks moves) (r : Reply) (answered : AreAnswered t moves) where
    given : (b : Bool) (items : List Item) (left : ℕ) (next : Walk → State) → AllItems items → (Runs (next (lists items left)) moves r → OrMemory (IsFine r) r)
        → Runs (cond b (next (lists items left)) (too_many (lists (take most items) left))) moves r → OrMemory (IsFine r) r
    given true items left next all go run = go run
    given false items left next all go run = many_fine (take most items) left (front_all most items all) moves r run

    goes_on : (todo : List Task) (items : List Item) (left : ℕ) → AllItems items → GoodTasks todo → Runs (walk_on todo (lists items left)) moves r → OrMemory (IsFine r) r
    goes_on [] items left all good run = over_fine (Listed items) all moves r run
    goes_on (Stumble fault p ∷ todo) items left all good run =
        let new = both_all items (failed fault ∷ []) all (ap (λ f. IoError f []) good.0, tt) in
        given (nat_le (length items + length (failed fault ∷ [])) most) (items ++ failed fault ∷ []) left (walk_on todo) new (goes_on todo (items ++ failed fault ∷ []) left new good.1) run
    goes_on (Make v ∷ todo) items left all good run = walks items left v todo r all good.0 good.1 run answered

    listed_on : (bytes : List ℕ) (todo : List Task) (items : List Item) (left : ℕ) → AllItems items → GoodTasks todo → Runs (listed (lists items left) todo bytes) moves r → OrMemory (IsFine r) r
    listed_on bytes todo items left all good run =
        let new = both_all items (items_in bytes) all (bucket_all bytes) in
        given (nat_le (length items + length (items_in bytes)) most) (items ++ items_in bytes) left (walk_on todo) new (goes_on todo (items ++ items_in bytes) left new good) run

    entered_on : (b : Bool) (tasks : List Task) (items : List Item) (left fewer : ℕ) → AllItems items → GoodTasks tasks → Runs (cond b (walk_on tasks (lists items fewer)) (too_many (lists items left))) moves r → OrMemory (IsFine r) r
    entered_on true tasks items left fewer all good run = goes_on tasks items fewer all good run
    entered_on false tasks items left fewer all good run = many_fine items left all moves r run

  -- what a step answered, and that it left the tree
  first : (m : PlainStep × PlainAnswer) (moves : Moves) (step : PlainStep) (a : PlainAnswer) → Some step ≡ Some m.0 → AreAnswered t (m ∷ moves) → apply t step Plain ≡ (a, t) → (m.1 ≡ a) × AreAnswered t moves
  first m moves step a want answered is =
      let made : m.0 ≡ step = cc in
      let result : apply t m.0 Plain ≡ (a, t) = ap (λ x. apply t x Plain) made ∙ is in
      (answered.0 ∙ ap (λ (x : PlainAnswer × Tree). x.0) result, subst (λ x. AreAnswered x moves) (ap (λ (x : PlainAnswer × Tree). x.1) result) answered.1)

  walks_all : (moves : Moves) → Walks moves
  walks_all [] items left v todo r all good goods (inl e) answered = absurd cc
  walks_all [] items left v todo r all good goods (inr e) answered = inl e
  walks_all (m ∷ moves) items left (Enter p level) todo r all good goods run answered =
      let names = home ++ index_area ∷ good.0 in
      let ns = listing t (home ++ index_area ∷ good.0) in
      let f = first m moves (steps.ReadDir p) (answers.Names ns) run.0 answered (lists_folder t p names g.rooted good.1 good.2) in
      let after = subst (λ a. Runs (after_visit (lists items left) (Enter p level) todo a) moves r) f.0 run.2 in
      entered_on moves (walks_all moves) r f.1 (nat_le (length ns) left) (tasks_of false level p ns ++ [] ++ todo) items left (left - length ns) all
      (more_good (tasks_of false level p ns ++ []) todo (more_good (tasks_of false level p ns) [] (names_good level p good.0 good.1 ns (listing_told t names)) tt) goods) after
  walks_all (m ∷ moves) items left (ReadBucket p) todo r all good goods run answered =
      let names = home ++ index_area ∷ good.0 in
      let f = first m moves (steps.ReadAll p) (answers.Bytes good.1) run.0 answered (gives_all t p names good.1 g.rooted good.2 good.3) in
      let after = subst (λ a. Runs (after_visit (lists items left) (ReadBucket p) todo a) moves r) f.0 run.2 in
      listed_on moves (walks_all moves) r f.1 good.1 todo items left all goods after
  walks_all _ items left v todo r all good goods run answered = absurd good

-- ---- a listing

index_proper : IsProperName index_area
index_proper = All-head IsProperName index_area (cut_digits (encode_lower (sha1 []))) (names_are_proper.buckets (sha1 []) (keys_have_digests []))

module _ (cache : List ℕ) (home : Names) (is : names_of cache ≡ Ok home) (t : Tree) (g : Ground home t) where
  index_named : names_of (join cache index_area) ≡ Ok (home ++ index_area ∷ [])
  index_named = named_on cache home index_area is index_proper

  index_way : path_kind (Some home) (home ++ index_area ∷ []) ≡ Way
  index_way = kind-below home (index_area ∷ [])

  by_index : (here : Option Node) → look t (home ++ index_area ∷ []) ≡ here → MayStand (Some home) here Way → EndsSo (λ _ r. ListsAll here r) t (walk false (join cache index_area))
  by_index None e s =
      let Q : Tree → Reply → Type 0 = λ _ r. r ≡ Listed (failed faults.NotFound ∷ []) in
      goes Q t t (walk false (join cache index_area)) (steps.ReadDir (join cache index_area)) (answers.Failed faults.NotFound) refl
      (no_folder t (join cache index_area) (home ++ index_area ∷ []) e (reached home t (join cache index_area) (home ++ index_area ∷ []) g index_named (ap is_used index_way) (look t (home ++ index_area ∷ [])) refl))
      (ends Q t (Listed (failed faults.NotFound ∷ [])) refl)
  by_index (Some Folder) e s = λ moves r run answered.
      walks_all home t g moves [] most (Enter (join cache index_area) 0) [] r tt ([], index_named, e) tt run answered
  by_index here e s = absurd s

  pub lists_so : EndsSo (λ _ r. ListsAll (look t (home ++ index_area ∷ [])) r) t (walk false (join cache index_area))
  lists_so = by_index (look t (home ++ index_area ∷ [])) refl (suits (Some home) t (home ++ index_area ∷ []) Way index_way g.placed)

pub listings_answer : ListingsAnswer
listings_answer cache r old new folder standing c =
    let home = folder.0 in
    let t = tree_of old in
    back cache home folder.1 (λ h. OrMemory (ListsAll (node_below h (tree_of old) (index_area ∷ [])) r) r)
    (of_log (λ _ x. ListsAll (look t (home ++ index_area ∷ [])) x) (opening (record { cache = cache; base = c.base; number = c.number }) commands.Ls) r old new
    (lists_so cache home folder.1 t (ground cache old home folder.1 standing)) c.ran c.logged)

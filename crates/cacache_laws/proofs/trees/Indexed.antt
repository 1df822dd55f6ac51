-- On a tree that nobody changes, a listing reads each bucket and lists the entry of each key.
-- The listed addresses are those that the value holds.
use Rattle.std.proofs.{lemmas.{Grind.{common_steps}, List.Elements.{All-cons, All-nil}}, Common.{rules, ◌≡◌, inl, inr, ℕ, ◌+◌, List, [], ◌∷◌, ◌++◌, Option, Some, None, Bool, true, false, cond, nat_lt, Result, Ok, Err, refl, sym, ap, ap₂, subst, ◌∙◌, append_assoc, arith}}
use Rattle.std.specs.Prelude.{◌↔◌, Contains, map}
use Rattle.cacache_calls.specs.declared.command.Command.TheVariants as commands
use Rattle.cacache_calls.specs.{declared.{reply.Reply.TheVariants.{Listed}, visit.{Task.{Task, TheVariants.{Make, Stumble}}, Visit.TheVariants.{Enter, ReadBucket}}}, Table.{opening}, Runs.{Runs, Moves}, State.{Item, Site}, Walking.{task_for_name, tasks_of, items_in}, Replies.{items_given, given_by}, Steps.{bucket_path}}
use Rattle.cacache_laws.specs.trees.{Index.{is_failure}, Walks.{is_leaf}, Answers.{AnsweredBy}, Contents.{ContentsShown, AreThoseOf, IsHeld, LiesBelow, HoldsJust}}
use Rattle.cacache_laws.proofs.{trees.{Members.{Member, contains_member, in_left, in_right, member_contains}, Children.{child_listed, none_below, proper_child, FolderShows, listed, missing, folder_shown}, Covering.{named_on, walks_find, walks_stay}, Listing.{ReadsAll, Good, listing_runs}, Logged.{copies, read_at, is_copy}}, Listings.ListedTurns.{lists_found}}
use Rattle.sha1.specs.Sha1.{sha1}
use Rattle.cacache_core.specs.{declared.{errors.Fault.{Fault, TheVariants.{NotFound, TooDeep, IsADirectory}}, integrity.digest.Hash.{Hash}}, Paths.{Names, names_of, home_of, IsProperName, join, joined, cut_digits, bucket_names, index_area, content_names, content_area}, Integrity.{IsHash}, Texts.{name_of}}
use Rattle.cacache_core.proofs.{JoinedNames.{joined_texts_name}, ProperNames.{names_are_proper, proper_bucket_folder, proper_content_folder, proper_content}, PathLemmas.{keys_have_digests}}
use Rattle.hex.specs.Hex.{encode_lower}
use Rattle.cacache_store.specs.{declared.store.{answer.{Kind.{Kind}, Name.{Name}, Answer.TheVariants.{Bytes}}, step.Step.TheVariants.{ReadAll}}, Plain.{PlainStep, PlainAnswer}}
use Rattle.cacache_disk.specs.{declared.{luck.Luck.TheVariants.{Plain}, node.Node.{Node, TheVariants.{Folder, File, Link}}}, Tree.{Tree, look, listing, Rooted}, LedTo.{and_then, or_fault, on_link, bytes_there, standing, way_fault, place, followed, leads, file_at}, Apply.{apply, unless}}
use Rattle.cacache_entry.specs.Bucket.{entries_of, Found, latest}
use Rattle.cacache_walks.specs.{Reading.{names_shown, ReadsFolders, top_folder, files_shown}, Listing.{Sorts, IsByHash, content_area_in}}
use Rattle.cacache_value.specs.Value.{Blob, InFile, AtLink, blob_in}
use Rattle.cacache_store.specs.declared.store.answer.Kind.TheVariants as kinds

-- ---- tasks

task_in : (level : ℕ) (p : List ℕ) (n : Name) (names : List Name) → Member n names → Member (task_for_name false level (join p n.name) n.kind) (tasks_of false level p names)
task_in level p n [] m = absurd m
task_in level p n (k ∷ ns) (inl same) = inl (ap (λ (x : Name). task_for_name false level (join p x.name) x.kind) same)
task_in level p n (k ∷ ns) (inr m) = inr (task_in level p n ns m)

-- whoever reads all stumbles over nothing
no_stumble : (moves : Moves) (todo : List Task) (fault : Fault) (path : List ℕ) → ReadsAll todo moves → Member (Stumble fault path) todo → ⊥
no_stumble moves [] fault path r m = m
no_stumble moves (Stumble other below ∷ todo) fault path r m = r
no_stumble [] (Make (Enter p level) ∷ todo) fault path r m = r
no_stumble (x ∷ moves) (Make v ∷ todo) fault path r (inl same) = absurd (let wrong : Stumble fault path ≡ Make v = same in cc)
no_stumble (x ∷ moves) (Make (Enter p level) ∷ todo) fault path r (inr m) = no_stumble moves (tasks_of false level p r.1.0 ++ todo) fault path r.1.2 (in_right (Stumble fault path) (tasks_of false level p r.1.0) todo m)
no_stumble (x ∷ moves) (Make (ReadBucket p) ∷ todo) fault path r (inr m) = no_stumble moves todo fault path r.1 m
no_stumble moves todo fault path r m = r

-- ---- on a tree

module _ (t : Tree) (rooted : Rooted t) where
  -- the tree's answer to a read of a path
  abbrev reads : List ℕ → PlainStep × PlainAnswer
  reads path = (ReadAll path, (apply t (ReadAll path) Plain).0)

  same_move : (m : PlainStep × PlainAnswer) (path : List ℕ) → m.0 ≡ ReadAll path → m.1 ≡ (apply t m.0 Plain).0 → reads path ≡ m
  same_move m path step answer = ap₂ (λ (s : PlainStep) (a : PlainAnswer). (s, a)) (sym step) (sym (answer ∙ ap (λ s. (apply t s Plain).0) step))

  -- a bucket that is to be read is read
  bucket_reached : (moves : Moves) (todo : List Task) (path : List ℕ) → ReadsAll todo moves → AnsweredBy t moves → Member (Make (ReadBucket path)) todo → Member (reads path) moves
  bucket_reached moves [] path r a k = absurd k
  bucket_reached moves (Stumble other below ∷ todo) path r a k = absurd r
  bucket_reached [] (Make (Enter p level) ∷ todo) path r a k = absurd r
  bucket_reached (m ∷ moves) (Make (Enter p level) ∷ todo) path r a (inl same) = absurd (let wrong : Make (ReadBucket path) ≡ Make (Enter p level) = same in cc)
  bucket_reached (m ∷ moves) (Make (Enter p level) ∷ todo) path r a (inr k) = inr (bucket_reached moves (tasks_of false level p r.1.0 ++ todo) path r.1.2 a.1 (in_right (Make (ReadBucket path)) (tasks_of false level p r.1.0) todo k))
  bucket_reached (m ∷ moves) (Make (ReadBucket p) ∷ todo) path r a (inl same) =
      let is : path ≡ p = (let e : Make (ReadBucket path) ≡ Make (ReadBucket p) = same in cc) in
      inl (same_move m path (r.0 ∙ ap ReadAll (sym is)) a.0)
  bucket_reached (m ∷ moves) (Make (ReadBucket p) ∷ todo) path r a (inr k) = inr (bucket_reached moves todo path r.1 a.1 k)
  bucket_reached moves todo path r a k = absurd r

  -- so is a file or link below a folder that is to be read
  abbrev Reaches : List Task → Moves → Type 0
  Reaches todo moves = (p : List ℕ) (level : ℕ) (base : Names) (x : List ℕ) (xs : Names) → Member (Make (Enter p level)) todo → names_of p ≡ Ok base → is_leaf (look t (base ++ x ∷ xs)) ≡ true → Member (reads (joined p (x ∷ xs))) moves

  no_leaf : (base : Names) (here : Option Node) → here ≡ None → is_leaf here ≡ true → ⊥
  no_leaf base here e leaf = let wrong : false ≡ true = ap is_leaf (sym e) ∙ leaf in cc

  module _ (m : PlainStep × PlainAnswer) (moves : Moves) (p : List ℕ) (level : ℕ) (base : Names) (names : List Name) (todo : List Task) (rest : ReadsAll (tasks_of false level p names ++ todo) moves) (a : AnsweredBy t moves) (next : Reaches (tasks_of false level p names ++ todo) moves) (named : names_of p ≡ Ok base) where
    a_bucket : (x : List ℕ) (kind : Kind) → Member (record { name = x; kind = kind }) names → task_for_name false level (join p x) kind ≡ Make (ReadBucket (join p x)) → Member (reads (join p x)) (m ∷ moves)
    a_bucket x kind member is =
        let task = subst (λ (k : Task). Member k (tasks_of false level p names)) is (task_in level p (record { name = x; kind = kind }) names member) in
        inr (bucket_reached moves (tasks_of false level p names ++ todo) (join p x) rest a (in_left (Make (ReadBucket (join p x))) (tasks_of false level p names) todo task))

    a_folder : (x y : List ℕ) (ys : Names) (b : Bool) → Member (cond b (Make (Enter (join p x) (level + 1))) (Stumble TooDeep (join p x))) (tasks_of false level p names) → look t (base ++ x ∷ []) ≡ Some Folder → is_leaf (look t (base ++ x ∷ y ∷ ys)) ≡ true → Member (reads (joined p (x ∷ y ∷ ys))) (m ∷ moves)
    a_folder x y ys true task is leaf =
        inr (next (join p x) (level + 1) (base ++ x ∷ []) y ys (in_left (Make (Enter (join p x) (level + 1))) (tasks_of false level p names) todo task) (named_on p base x named (proper_child t base x Folder rooted is)) (ap (λ n. is_leaf (look t n)) (append_assoc base (x ∷ []) (y ∷ ys)) ∙ leaf))
    a_folder x y ys false task is leaf = absurd (no_stumble moves (tasks_of false level p names ++ todo) TooDeep (join p x) rest (in_left (Stumble TooDeep (join p x)) (tasks_of false level p names) todo task))

    below_no : (x y : List ℕ) (ys : Names) (here : Option Node) → look t (base ++ x ∷ []) ≡ here → (here ≡ Some Folder → ⊥) → is_leaf (look t (base ++ x ∷ y ∷ ys)) ≡ true → ⊥
    below_no x y ys here is apart leaf = no_leaf base (look t (base ++ x ∷ y ∷ ys)) (ap (look t) (sym (append_assoc base (x ∷ []) (y ∷ ys))) ∙ none_below t (base ++ x ∷ []) y ys rooted (λ folder. apart (sym is ∙ folder))) leaf

    at_node : (x : List ℕ) (xs : Names) (here : Option Node) → look t (base ++ x ∷ []) ≡ here → names ≡ listing t base → is_leaf (look t (base ++ x ∷ xs)) ≡ true → Member (reads (joined p (x ∷ xs))) (m ∷ moves)
    at_node x [] None is all leaf = absurd (no_leaf base (look t (base ++ x ∷ [])) is leaf)
    at_node x [] (Some Folder) is all leaf = absurd (let wrong : false ≡ true = ap is_leaf (sym is) ∙ leaf in cc)
    at_node x (y ∷ ys) (Some Folder) is all leaf = a_folder x y ys (nat_lt level 16) (task_in level p (record { name = x; kind = kinds.Folder }) names (subst (Member _) (sym all) (child_listed t base x Folder is))) is leaf
    at_node x [] (Some (File bytes)) is all leaf = a_bucket x kinds.File (subst (Member _) (sym all) (child_listed t base x (File bytes) is)) refl
    at_node x [] (Some (Link target)) is all leaf = a_bucket x kinds.Link (subst (Member _) (sym all) (child_listed t base x (Link target) is)) refl
    at_node x (y ∷ ys) here is all leaf = absurd (below_no x y ys here is (λ e. cc) leaf)

    reached_first : (x : List ℕ) (xs : Names) → FolderShows t base names → is_leaf (look t (base ++ x ∷ xs)) ≡ true → Member (reads (joined p (x ∷ xs))) (m ∷ moves)
    reached_first x xs h leaf = grind (arith, listed, at_node, missing, no_leaf, none_below)

  reaches : (moves : Moves) (todo : List Task) → ReadsAll todo moves → AnsweredBy t moves → Reaches todo moves
  reaches moves [] r a p level base x xs k named leaf = absurd k
  reaches moves (Stumble other path ∷ todo) r a p level base x xs k named leaf = absurd r
  reaches [] (Make (Enter q l) ∷ todo) r a p level base x xs k named leaf = absurd r
  reaches (m ∷ moves) (Make (ReadBucket q) ∷ todo) r a p level base x xs (inl same) named leaf = absurd (let wrong : Make (Enter p level) ≡ Make (ReadBucket q) = same in cc)
  reaches (m ∷ moves) (Make (ReadBucket q) ∷ todo) r a p level base x xs (inr k) named leaf = inr (reaches moves todo r.1 a.1 p level base x xs k named leaf)
  reaches (m ∷ moves) (Make (Enter q l) ∷ todo) r a p level base x xs (inr k) named leaf =
      inr (reaches moves (tasks_of false l q r.1.0 ++ todo) r.1.2 a.1 p level base x xs (in_right (Make (Enter p level)) (tasks_of false l q r.1.0) todo k) named leaf)
  reaches (m ∷ moves) (Make (Enter q l) ∷ todo) r a p level base x xs (inl same) named leaf =
      let is : p ≡ q = (let e : Make (Enter p level) ≡ Make (Enter q l) = same in cc) in
      let named_q : names_of q ≡ Ok base = ap names_of (sym is) ∙ named in
      let names = r.1.0 in
      let shows = folder_shown t q base Plain names rooted named_q (ap (λ s. names_shown (apply t s Plain).0) (sym r.0) ∙ ap names_shown (sym a.0) ∙ r.1.1) in
      subst (λ (z : List ℕ). Member (reads (joined z (x ∷ xs))) (m ∷ moves)) (sym is)
      (reached_first m moves q l base names todo r.1.2 a.1 (reaches moves (tasks_of false l q names ++ todo) r.1.2 a.1) named_q x xs shows leaf)
  reaches moves todo r a p level base x xs k named leaf = absurd r

  -- ---- what can be read is a file or a link

  judged : (here : Option Node) (names : Names) (go : List ℕ → Result Names Fault) (bytes : List ℕ) → look t names ≡ here → and_then (on_link here names go) (λ n. bytes_there IsADirectory (look t n)) ≡ Ok bytes → is_leaf here ≡ true
  judged here names go bytes is e = grind (arith, common_steps)

  placed_leaf : (names : Names) (fault : Option Fault) (bytes : List ℕ) → and_then (and_then (or_fault fault names) (followed 16 t)) (λ n. bytes_there IsADirectory (look t n)) ≡ Ok bytes → is_leaf (look t names) ≡ true
  unfolding followed
  placed_leaf names fault bytes e = grind (arith, judged)

  file_leaf : (path : List ℕ) (names : Names) (bytes : List ℕ) → names_of path ≡ Ok names → file_at t path IsADirectory ≡ Ok bytes → is_leaf (look t names) ≡ true
  unfolding file_at leads place
  file_leaf path names bytes is e = placed_leaf names (way_fault t [] names) bytes (rw is at e)

  answered : (r : Result (List ℕ) Fault) (bytes : List ℕ) → (unless r t (λ b. (Bytes b, t))).0 ≡ Bytes bytes → r ≡ Ok bytes
  answered r bytes e = grind (arith, common_steps)

  read_leaf : (path : List ℕ) (names : Names) (bytes : List ℕ) → names_of path ≡ Ok names → (apply t (ReadAll path) Plain).0 ≡ Bytes bytes → is_leaf (look t names) ≡ true
  unfolding apply
  read_leaf path names bytes is e = file_leaf path names bytes is (answered (file_at t path IsADirectory) bytes e)

-- ---- lookups

given_member : (m : PlainStep × PlainAnswer) (moves : Moves) (x : Item) → Member m moves → Member x (given_by m.0 m.1) → Member x (items_given moves)
given_member m [] x k h = absurd k
given_member m (n ∷ moves) x (inl same) h = in_left x (given_by n.0 n.1) (items_given moves) (subst (λ (k : PlainStep × PlainAnswer). Member x (given_by k.0 k.1)) same h)
given_member m (n ∷ moves) x (inr k) h = in_right x (given_by n.0 n.1) (items_given moves) (given_member m moves x k h)

-- ---- the entry of a key

module _ (site : Site) (home : Names) (t : Tree) (rooted : Rooted t) (is : home_of site.cache ≡ Some home) where
  bucket_named : (key : List ℕ) → names_of (joined site.cache (bucket_names key)) ≡ Ok (home ++ bucket_names key)
  bucket_named key = joined_texts_name site.cache (bucket_names key) (names_are_proper.buckets (sha1 key) (keys_have_digests key)) (omega arith) ∙ rw is refl

  index_named : (key : List ℕ) → names_of (join site.cache index_area) ≡ Ok (home ++ index_area ∷ [])
  index_named key = joined_texts_name site.cache (index_area ∷ []) (All-cons IsProperName index_area [] proper_bucket_folder (All-nil IsProperName)) (omega arith) ∙ rw is refl

  item_in : (key bytes : List ℕ) (found : Found) (moves : Moves) (items : List Item) → (apply t (ReadAll (bucket_path site.cache key)) Plain).0 ≡ Bytes bytes → latest key (entries_of bytes) ≡ Some found → AnsweredBy t moves → Good items moves (Make (Enter (join site.cache index_area) 0) ∷ []) [] → Member (Ok found) items
  unfolding items_in bucket_path
  item_in key bytes found moves items answer e answered g =
      let rest = cut_digits (encode_lower (sha1 key)) in
      let path = joined site.cache (bucket_names key) in
      let leaf : is_leaf (look t ((home ++ index_area ∷ []) ++ rest)) ≡ true = ap (λ n. is_leaf (look t n)) (append_assoc home (index_area ∷ []) rest) ∙ read_leaf t rooted path (home ++ bucket_names key) bytes (bucket_named key) answer in
      let read = reaches t rooted moves (Make (Enter (join site.cache index_area) 0) ∷ []) g.reads answered (join site.cache index_area) 0 (home ++ index_area ∷ []) _ _ (inl refl) (index_named key) leaf in
      g.gives (Ok found) (given_member (reads t rooted path) moves (Ok found) read (rw answer (lists_found key (entries_of bytes) found e)))

-- a listing without such an error lists what the lookup of each key finds
pub lists_each_key : (site : Site) (home : Names) (t : Tree) (moves : Moves) (items : List Item) (key bytes : List ℕ) (found : Found)
    → home_of site.cache ≡ Some home → Rooted t → Runs (opening site commands.Ls) moves (Listed items) → AnsweredBy t moves
    → ((item : Item) → Contains items item → is_failure item ≡ false)
    → (apply t (ReadAll (bucket_path site.cache key)) Plain).0 ≡ Bytes bytes → latest key (entries_of bytes) ≡ Some found
    → Contains items (Ok found)
lists_each_key site home t moves items key bytes found is rooted run answered fine answer e = search (rules, listing_runs, contains_member, item_in, answered)

leaf_held : (here : Option Node) → is_leaf here ≡ true → (blob : Blob) × (blob_in here ≡ Some blob)
leaf_held (Some (File bytes)) e = (InFile bytes, refl)
leaf_held (Some (Link target)) e = (AtLink target, refl)
leaf_held here e = absurd cc

held_leaf : (here : Option Node) (blob : Blob) → blob_in here ≡ Some blob → is_leaf here ≡ true
held_leaf here blob e = grind (arith, common_steps)

pub top_named : (cache : List ℕ) (home : Names) → home_of cache ≡ Some home → names_of (join cache content_area) ≡ Ok (home ++ content_area ∷ [])
top_named cache home is = joined_texts_name cache (content_area ∷ []) (All-cons IsProperName content_area [] proper_content_folder (All-nil IsProperName)) (omega arith) ∙ rw is refl

pub contents_shown : ContentsShown
contents_shown cache home moves trees addresses is reads at sorts h hash =
    let top = join cache content_area in
    let base = home ++ content_area ∷ [] in
    let names = name_of h.algorithm ∷ cut_digits (encode_lower h.digest) in
    let named = top_named cache home is in
    let f = walks_find top base moves trees names named reads at (proper_content h hash) (omega arith) in
    let same = ap (look f.0) (append_assoc home (content_area ∷ []) names) in (
      f.0,
      f.1,
      (
        (λ c. leaf_held (look f.0 (home ++ content_names h)) (ap is_leaf (sym same) ∙ f.2.0 ((sorts h hash).0 c))),
        (λ s. (sorts h hash).1 (f.2.1 (ap is_leaf same ∙ held_leaf (look f.0 (home ++ content_names h)) s.0 s.1))),
      ),
    )

-- ---- on one tree

one_same : (h g : Hash) → h ∷ [] ≡ g ∷ [] → h ≡ g
one_same h g e = cc

-- members of lists of single hashes
one_in : (h : Hash) (hs : List Hash) → Member (h ∷ []) (map (λ x. x ∷ []) hs) → Member h hs
one_in h [] m = m
one_in h (g ∷ hs) (inl e) = inl (one_same h g e)
one_in h (g ∷ hs) (inr m) = inr (one_in h hs m)

in_one : (h : Hash) (hs : List Hash) → Member h hs → Member (h ∷ []) (map (λ x. x ∷ []) hs)
in_one h [] m = m
in_one h (g ∷ hs) (inl e) = inl (ap (λ x. x ∷ []) e)
in_one h (g ∷ hs) (inr m) = inr (in_one h hs m)

pub contains_one : (h : Hash) (hs : List Hash) → Contains hs h ↔ Contains (map (λ x. x ∷ []) hs) (h ∷ [])
contains_one h hs = search (rules, contains_member, in_one, member_contains, one_in)

module _ (cache : List ℕ) (files : List (List ℕ)) (addresses : List (List Hash)) (strange : List (List ℕ)) (sorts : Sorts cache files addresses strange) where
  those_of : AreThoseOf cache files addresses
  those_of h hash = (
    (λ c.
        let s = (sorts.contents (h ∷ [])).0 c in
        let same : h ≡ s.2.0 = one_same h s.2.0 s.2.2 in
        subst (λ p. Contains files p) (s.2.3 ∙ ap (λ (g : Hash). joined cache (content_names g)) (sym same)) s.1),
    (λ c. (sorts.contents (h ∷ [])).1 (joined cache (content_names h), c, (h, hash, refl, refl))),
  )

  address_hash : (h : Hash) → Contains addresses (h ∷ []) → IsHash h
  address_hash h c =
      let s = (sorts.contents (h ∷ [])).0 c in
      subst IsHash (sym (one_same h s.2.0 s.2.2)) s.2.1

module _ (cache : List ℕ) (home : Names) (t : Tree) (moves : Moves) (is : home_of cache ≡ Some home) (rooted : Rooted t)
    (reads : ReadsFolders (top_folder (content_area_in cache) ∷ []) moves) (answered : AnsweredBy t moves) where
  -- at the one tree
  lies_below : (path : List ℕ) → Contains (files_shown moves) path → LiesBelow cache home t path
  lies_below path c =
      let top = content_area_in cache in
      let base = home ++ content_area ∷ [] in
      let s = walks_stay top base moves (copies t moves) path (top_named cache home is) reads (read_at t moves rooted answered) c in
      let f = walks_find top base moves (copies t moves) s.0 (top_named cache home is) reads (read_at t moves rooted answered) s.2 s.1 in
      let leaf = f.2.0 (subst (λ p. Contains (files_shown moves) p) s.3 c) in
      let there : is_leaf (look t (home ++ content_area ∷ s.0)) ≡ true
      = ap (λ n. is_leaf (look t n)) (sym (append_assoc home (content_area ∷ []) s.0)) ∙ ap (λ x. is_leaf (look x (base ++ s.0))) (sym (is_copy t f.0 moves f.1)) ∙ leaf in
      (s.0, s.1, s.2, s.3, there)

  shown_below : (path : List ℕ) → LiesBelow cache home t path → Contains (files_shown moves) path
  shown_below path l =
      let base = home ++ content_area ∷ [] in
      let f = walks_find (content_area_in cache) base moves (copies t moves) l.0 (top_named cache home is) reads (read_at t moves rooted answered) l.2 l.1 in
      let leaf : is_leaf (look f.0 (base ++ l.0)) ≡ true
      = ap (λ x. is_leaf (look x (base ++ l.0))) (is_copy t f.0 moves f.1) ∙ ap (λ n. is_leaf (look t n)) (append_assoc home (content_area ∷ []) l.0) ∙ l.4 in
      subst (λ p. Contains (files_shown moves) p) (sym l.3) (f.2.1 leaf)

  module _ (addresses : List (List Hash)) (strange : List (List ℕ)) (sorts : Sorts cache (files_shown moves) addresses strange) (order : IsByHash addresses) where
    listed_one : (h : Hash) → Contains order.hashes h ↔ Contains addresses (h ∷ [])
    listed_one h = (
      (λ c. subst (λ l. Contains l (h ∷ [])) (sym order.single) ((contains_one h order.hashes).0 c)),
      (λ c. (contains_one h order.hashes).1 (subst (λ l. Contains l (h ∷ [])) order.single c)),
    )

    held_one : (h : Hash) → IsHash h → Contains addresses (h ∷ []) ↔ IsHeld home t h
    held_one h hash =
        let s = contents_shown cache home moves (copies t moves) addresses is reads (read_at t moves rooted answered) (those_of cache (files_shown moves) addresses strange sorts) h hash in
        subst (λ x. Contains addresses (h ∷ []) ↔ IsHeld home x h) (is_copy t s.0 moves s.1) s.2

    pub holds_just : HoldsJust cache home t order.hashes strange
    holds_just = record {
      ascend = order.ascend;
      formed = λ h c. address_hash cache (files_shown moves) addresses strange sorts h ((listed_one h).0 c);
      held = λ h hash. ((λ c. (held_one h hash).0 ((listed_one h).0 c)), (λ b. (listed_one h).1 ((held_one h hash).1 b)));
      others = λ path. (
        (λ c. let o = (sorts.others path).0 c in (lies_below path o.0, o.1)),
        (λ o. (sorts.others path).1 (shown_below path o.0, o.1)),
      );
    }

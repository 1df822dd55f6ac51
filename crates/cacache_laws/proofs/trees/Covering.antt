-- A walk finds what is below its folder, and nothing else.
use Rattle.std.proofs.{lemmas.{Grind.{common_steps}, List.Elements.{All-nil, All-cons, All-append}, Slice.Eq.{bytes_eq-Decides}}, Common.{rules, ◌≡◌, ◌==◌, ◌⊎◌, inl, inr, ◌+◌, ◌<◌, ℕ, Bool, true, false, List, [], ◌∷◌, ◌++◌, Option, None, Some, Ok, length, refl, sym, ap, subst, ◌∙◌, arith, append_assoc, append-nil}}
use Rattle.std.specs.Prelude.{All, IsTrue, unwrap_or, bytes_eq}
use Rattle.cacache_core.{specs.Paths.{Names, names_of, home_of, names_below, is_bad, IsProperName, join, joined}, proofs.JoinedNames.{joined_texts_name}}
use Rattle.cacache_store.specs.{declared.store.{answer.{Kind.{Kind}, Name.{Name}}, step.Step.TheVariants.{ReadDir}}, Plain.{PlainStep, PlainAnswer}}
use Rattle.cacache_store.specs.declared.store.answer.Kind.TheVariants as kinds
use Rattle.cacache_disk.specs.{declared.{luck.Luck.{Luck}, node.Node.{Node, TheVariants.{Folder, File, Link}}}, Tree.{Tree, look, listing, kind_of, Rooted}, Apply.{apply}}
use Rattle.cacache_calls.specs.Runs.{Moves}
use Rattle.cacache_walks.specs.Reading.{Folder as Spot, ReadsFolders, top_folder, folder_as, file_as, folders_in, file_paths, files_shown, names_shown, shown_by}
use Rattle.cacache_laws.specs.trees.Walks.{ReadAt, is_leaf, WalksFind, WalksStayBelow}
use Rattle.cacache_laws.proofs.trees.{Members.{Member, contains_member, member_contains, in_left, in_right, in_either, mapped, source}, Children.{child_listed, none_below, proper_child, FolderShows, listed, missing, folder_shown, shown_stands}}
use Rattle.cacache_history.proofs.Listings.ListingWalks.{joined_more}
use Rattle.cacache_loss.proofs.SyncedFolders.{named_home}

-- ---- the names of a path's text

pub home_named : (path : List ℕ) (base : Names) → names_of path ≡ Ok base → home_of path ≡ Some base
home_named path base is = named_home path base (length path == 0) (is_bad path) refl refl is

-- one name more
pub named_on : (path : List ℕ) (base : Names) (name : List ℕ) → names_of path ≡ Ok base → IsProperName name → names_of (join path name) ≡ Ok (base ++ name ∷ [])
named_on path base name is proper =
    joined_texts_name path (name ∷ []) (All-cons IsProperName name [] proper (All-nil IsProperName)) (omega arith)
    ∙ ap (λ h. names_below h (name ∷ [])) (home_named path base is)

-- ---- what one move shows

-- the names that a move showed, of a folder with these names
pub record Shown (g : Spot) (t : Tree) (p : Names) (m : PlainStep × PlainAnswer) (names : List Name) : Type 0 where
  pub rooted : Rooted t
  pub shows : FolderShows t p names
  pub files : shown_by m.0 m.1 ≡ file_paths g.path names

shown_in : (g : Spot) (t : Tree) (p : Names) (m : PlainStep × PlainAnswer) (names : List Name) (luck : Luck) → Rooted t → names_of g.path ≡ Ok p → m.0 ≡ ReadDir g.path → m.1 ≡ (apply t m.0 luck).0 → names_shown m.1 ≡ Some names → Shown g t p m names
shown_in g t p m names luck rooted named is answer e = search (rules, folder_shown)

-- ---- what is below is found

-- it is found, or at one of these places it isn't there
abbrev Covered : Moves → List Tree → List ℕ → Names → Type 0
Covered moves trees path names = Member path (files_shown moves) ⊎ ((t : Tree) × Member t trees × (is_leaf (look t names) ≡ false))

abbrev Covers : List Spot → Moves → List Tree → Type 0
Covers todo moves trees = (f : Spot) (base : Names) (x : List ℕ) (xs : Names) → Member f todo → names_of f.path ≡ Ok base → Covered moves trees (joined f.path (x ∷ xs)) (base ++ x ∷ xs)

later : (m : PlainStep × PlainAnswer) (moves : Moves) (t : Tree) (trees : List Tree) (path : List ℕ) (names : Names) → Covered moves trees path names → Covered (m ∷ moves) (t ∷ trees) path names
later m moves t trees path names (inl found) = inl (in_right path (shown_by m.0 m.1) (files_shown moves) found)
later m moves t trees path names (inr lacks) = inr (lacks.0, inr lacks.1, lacks.2)

module _ (g : Spot) (t : Tree) (p : Names) (m : PlainStep × PlainAnswer) (ns : List Name) (todo : List Spot) (moves : Moves) (trees : List Tree) (shown : Shown g t p m ns) (named : names_of g.path ≡ Ok p) (rest : Covers (folders_in g ns ++ todo) moves trees) where
  here_not : (x : List ℕ) (xs : Names) → is_leaf (look t (p ++ x ∷ xs)) ≡ false → Covered (m ∷ moves) (t ∷ trees) (joined g.path (x ∷ xs)) (p ++ x ∷ xs)
  here_not x xs is = inr (t, inl refl, is)

  a_file : (x : List ℕ) (kind : Kind) → Member (record { name = x; kind = kind }) ns → file_as kind (join g.path x) ≡ Some (join g.path x) → Covered (m ∷ moves) (t ∷ trees) (join g.path x) (p ++ x ∷ [])
  a_file x kind stands is = search (rules, in_left, mapped)

  below_leaf : (x : List ℕ) (y : List ℕ) (ys : Names) (node : Node) → look t (p ++ x ∷ []) ≡ Some node → (Some node ≡ Some Folder → ⊥) → is_leaf (look t (p ++ x ∷ y ∷ ys)) ≡ false
  below_leaf x y ys node is apart =
      ap is_leaf (ap (look t) (sym (append_assoc p (x ∷ []) (y ∷ ys))) ∙ none_below t (p ++ x ∷ []) y ys shown.rooted (λ folder. apart (sym is ∙ folder)))

  standing : (x : List ℕ) (xs : Names) (here : Option Node) → look t (p ++ x ∷ []) ≡ here → ns ≡ listing t p → Covered (m ∷ moves) (t ∷ trees) (joined g.path (x ∷ xs)) (p ++ x ∷ xs)
  standing x (y ∷ ys) None is all =
      here_not x (y ∷ ys) (ap is_leaf (ap (look t) (sym (append_assoc p (x ∷ []) (y ∷ ys))) ∙ none_below t (p ++ x ∷ []) y ys shown.rooted (λ folder. let e : None ≡ Some Folder = sym is ∙ folder in cc)))
  standing x (y ∷ ys) (Some Folder) is all =
      let member : Member (record { name = x; kind = kinds.Folder }) ns = subst (Member _) (sym all) (child_listed t p x Folder is) in
      let f : Spot = record { path = join g.path x; level = g.level + 1 } in
      let next = mapped (λ (n : Name). folder_as n.kind (join g.path n.name) g.level) (record { name = x; kind = kinds.Folder }) f ns member refl in
      later m moves t trees (joined g.path (x ∷ y ∷ ys)) (p ++ x ∷ y ∷ ys)
      (subst (Covered moves trees (joined g.path (x ∷ y ∷ ys))) (append_assoc p (x ∷ []) (y ∷ ys))
      (rest f (p ++ x ∷ []) y ys (in_left f (folders_in g ns) todo next) (named_on g.path p x named (proper_child t p x Folder shown.rooted is))))
  standing x [] (Some (File bytes)) is all = a_file x kinds.File (subst (Member _) (sym all) (child_listed t p x (File bytes) is)) refl
  standing x (y ∷ ys) (Some (File bytes)) is all = here_not x (y ∷ ys) (below_leaf x y ys (File bytes) is (λ e. cc))
  standing x [] (Some (Link target)) is all = a_file x kinds.Link (subst (Member _) (sym all) (child_listed t p x (Link target) is)) refl
  standing x (y ∷ ys) (Some (Link target)) is all = here_not x (y ∷ ys) (below_leaf x y ys (Link target) is (λ e. cc))
  standing x [] here is all = here_not x [] (ap is_leaf is)

  covered_first : (x : List ℕ) (xs : Names) → FolderShows t p ns → Covered (m ∷ moves) (t ∷ trees) (joined g.path (x ∷ xs)) (p ++ x ∷ xs)
  covered_first x xs (listed all) = standing x xs (look t (p ++ x ∷ [])) refl all
  covered_first x xs (missing apart none) = here_not x xs (ap is_leaf (none_below t p x xs shown.rooted apart))

covers : (moves : Moves) (trees : List Tree) (todo : List Spot) → ReadsFolders todo moves → ReadAt trees moves → Covers todo moves trees
covers [] trees [] r a f base x xs m named = absurd m
covers [] trees (g ∷ todo) r a f base x xs m named = absurd r
covers (m ∷ moves) trees [] r a f base x xs k named = absurd k
covers (m ∷ moves) [] (g ∷ todo) r a f base x xs k named = absurd a
covers (m ∷ moves) (t ∷ trees) (g ∷ todo) r a f base x xs k named =
    let ns = r.3.0 in
    let rest = covers moves trees (folders_in g ns ++ todo) r.3.2 a.2 in
    elim k [
      | inl same ↦
          let named_g : names_of g.path ≡ Ok base = ap (λ (h : Spot). names_of h.path) (sym same) ∙ named in
          let shown = shown_in g t base m ns a.1.0 a.0 named_g r.0 a.1.1 r.3.1 in
          subst (λ (h : Spot). Covered (m ∷ moves) (t ∷ trees) (joined h.path (x ∷ xs)) (base ++ x ∷ xs)) (sym same) (covered_first g t base m ns todo moves trees shown named_g rest x xs shown.shows)
      | inr among ↦ later m moves t trees (joined f.path (x ∷ xs)) (base ++ x ∷ xs) (rest f base x xs (in_right f (folders_in g ns) todo among) named)
    ]

-- ---- what is found is below

deeper_path : (k : Kind) (path : List ℕ) (level : ℕ) (f : Spot) → folder_as k path level ≡ Some f → f.path ≡ path
deeper_path k path level f e = grind (arith, common_steps)

file_leaf : (node : Node) (path found : List ℕ) → file_as (kind_of node) path ≡ Some found → (found ≡ path) × (is_leaf (Some node) ≡ true)
file_leaf node path found e = grind (arith, common_steps)

some_more : (ns : Names) (n : List ℕ) → 0 < length (ns ++ n ∷ [])
some_more ns n = grind (arith, common_steps)

module _ (top : List ℕ) (base : Names) where
  -- a folder's path is these names below the top
  record Named (f : Spot) : Type 0 where
    names : Names
    path : f.path ≡ joined top names
    proper : All IsProperName names
    named : names_of f.path ≡ Ok (base ++ names)

  -- a file or link is at this path at one of the places
  pub record Sound (trees : List Tree) (path : List ℕ) : Type 0 where
    pub at : Tree
    pub among : Member at trees
    pub names : Names
    pub some : 0 < length names
    pub proper : All IsProperName names
    pub path_is : path ≡ joined top names
    pub leaf : is_leaf (look at (base ++ names)) ≡ true

  AllNamed : List Spot → Type 0
  AllNamed todo = (f : Spot) → Member f todo → Named f

  module _ (g : Spot) (t : Tree) (m : PlainStep × PlainAnswer) (ns : List Name) (h : Named g) (shown : Shown g t (base ++ h.names) m ns) where
    proper_in : (n : Name) → Member n ns → IsProperName n.name
    proper_in n k = let s = shown_stands t (base ++ h.names) ns shown.shows n k in proper_child t (base ++ h.names) n.name s.node shown.rooted s.stands

    longer : (n : Name) → Member n ns → All IsProperName (h.names ++ n.name ∷ [])
    longer n k = All-append IsProperName h.names (n.name ∷ []) h.proper (All-cons IsProperName n.name [] (proper_in n k) (All-nil IsProperName))

    path_on : (n : Name) → join g.path n.name ≡ joined top (h.names ++ n.name ∷ [])
    path_on n = ap (λ p. join p n.name) h.path ∙ sym (joined_more top h.names n.name)

    folder_named : (f : Spot) → Member f (folders_in g ns) → Named f
    folder_named f k =
        let s = source (λ (n : Name). folder_as n.kind (join g.path n.name) g.level) f ns k in
        let is = deeper_path s.of.kind (join g.path s.of.name) g.level f s.gives in
        record {
          names = h.names ++ s.of.name ∷ [];
          path = is ∙ path_on s.of;
          proper = longer s.of s.member;
          named = ap names_of is ∙ named_on g.path (base ++ h.names) s.of.name h.named (proper_in s.of s.member) ∙ ap Ok (append_assoc base h.names (s.of.name ∷ []));
        }

    file_sound : (trees : List Tree) (path : List ℕ) → Member path (file_paths g.path ns) → Sound (t ∷ trees) path
    file_sound trees path k =
        let s = source (λ (n : Name). file_as n.kind (join g.path n.name)) path ns k in
        let stands = shown_stands t (base ++ h.names) ns shown.shows s.of s.member in
        let leaf = file_leaf stands.node (join g.path s.of.name) path (ap (λ kind. file_as kind (join g.path s.of.name)) (sym stands.kind) ∙ s.gives) in
        record {
          at = t;
          among = inl refl;
          names = h.names ++ s.of.name ∷ [];
          some = some_more h.names s.of.name;
          proper = longer s.of s.member;
          path_is = leaf.0 ∙ path_on s.of;
          leaf = ap is_leaf (ap (look t) (sym (append_assoc base h.names (s.of.name ∷ []))) ∙ stands.stands) ∙ leaf.1;
        }

  still : (t : Tree) (trees : List Tree) (path : List ℕ) → Sound trees path → Sound (t ∷ trees) path
  still t trees path s = record { at = s.at; among = inr s.among; names = s.names; some = s.some; proper = s.proper; path_is = s.path_is; leaf = s.leaf }

  all_named : (todo more : List Spot) → AllNamed todo → AllNamed more → AllNamed (todo ++ more)
  unfolding AllNamed
  all_named todo more a b f k = elim (in_either f todo more k) [ inl l ↦ a f l | inr r ↦ b f r ]

  sound : (moves : Moves) (trees : List Tree) (todo : List Spot) → ReadsFolders todo moves → ReadAt trees moves → AllNamed todo → (path : List ℕ) → Member path (files_shown moves) → Sound trees path
  unfolding AllNamed
  sound [] trees todo r a named path k = absurd k
  sound (m ∷ moves) trees [] r a named path k = absurd r
  sound (m ∷ moves) [] (g ∷ todo) r a named path k = absurd a
  sound (m ∷ moves) (t ∷ trees) (g ∷ todo) r a named path k =
      let ns = r.3.0 in
      let h = named g (inl refl) in
      let shown = shown_in g t (base ++ h.names) m ns a.1.0 a.0 h.named r.0 a.1.1 r.3.1 in
      elim (in_either path (shown_by m.0 m.1) (files_shown moves) k) [
        | inl here ↦ file_sound g t m ns h shown trees path (subst (Member path) shown.files here)
        | inr later ↦ still t trees path (sound moves trees (folders_in g ns ++ todo) r.3.2 a.2 (all_named (folders_in g ns) todo (folder_named g t m ns h shown) (λ f among. named f (inr among))) path later)
      ]

  first_named : names_of top ≡ Ok base → AllNamed (top_folder top ∷ [])
  unfolding AllNamed
  first_named is f h = grind (arith, common_steps)

-- ---- both

decided_at : (b : Bool) (p x : List ℕ) (xs : List (List ℕ)) → bytes_eq p x ≡ b → Member p xs ⊎ (Member p xs → ⊥) → Member p (x ∷ xs) ⊎ (Member p (x ∷ xs) → ⊥)
decided_at true p x xs is rest = inl (inl ((bytes_eq-Decides p x).0 is))
decided_at false p x xs is (inl m) = inl (inr m)
decided_at false p x xs is (inr apart) = inr (λ m. elim m [ inl e ↦ let wrong : false ≡ true = sym is ∙ (bytes_eq-Decides p x).1 e in absurd cc | inr k ↦ apart k ])

decided : (p : List ℕ) (xs : List (List ℕ)) → Member p xs ⊎ (Member p xs → ⊥)
decided p [] = inr (λ m. m)
decided p (x ∷ xs) = decided_at (bytes_eq p x) p x xs refl (decided p xs)

not_true : (b : Bool) → b ≡ false → IsTrue b → ⊥
not_true b e h = let wrong : false ≡ true = sym e ∙ h in cc

named_all : (top : List ℕ) (base ns : Names) → names_of top ≡ Ok base → All IsProperName ns → 0 < length ns → names_of (joined top ns) ≡ Ok (base ++ ns)
named_all top base ns is proper some = joined_texts_name top ns proper some ∙ ap (λ h. names_below h ns) (named_home top base (length top == 0) (is_bad top) refl refl is)

pub walks_find : WalksFind
walks_find top base moves trees [] is reads at proper some = absurd (omega (arith, some))
walks_find top base moves trees (x ∷ xs) is reads at proper some =
    elim (decided (joined top (x ∷ xs)) (files_shown moves)) [
      | inl found ↦
          let s = sound top base moves trees (top_folder top ∷ []) reads at (first_named top base is) (joined top (x ∷ xs)) found in
          let names : base ++ s.names ≡ base ++ x ∷ xs = (let both : Ok (base ++ s.names) ≡ Ok (base ++ x ∷ xs) = sym (named_all top base s.names is s.proper s.some) ∙ ap names_of (sym s.path_is) ∙ named_all top base (x ∷ xs) is proper some in cc) in
          let leaf : is_leaf (look s.at (base ++ x ∷ xs)) ≡ true = ap (λ n. is_leaf (look s.at n)) (sym names) ∙ s.leaf in
          (s.at, contains_member s.at trees s.among, ((λ _. leaf), (λ _. contains_member (joined top (x ∷ xs)) (files_shown moves) found)))
      | inr lost ↦ elim (covers moves trees (top_folder top ∷ []) reads at (top_folder top) base x xs (inl refl) is) [
        | inl found ↦ absurd (lost found)
        | inr l ↦ (l.0, contains_member l.0 trees l.1, ((λ c. absurd (lost (member_contains (joined top (x ∷ xs)) (files_shown moves) c))), (λ h. absurd (not_true _ l.2 h))))
      ]
    ]

pub walks_stay : WalksStayBelow
walks_stay top base moves trees path is reads at c =
    let s = sound top base moves trees (top_folder top ∷ []) reads at (first_named top base is) path (member_contains path (files_shown moves) c) in
    (s.names, s.some, s.proper, s.path_is)

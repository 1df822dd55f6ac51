-- The disk's table answers the same whether open temporary files have their bytes in the tree or are empty there.
use Rattle.std.proofs.Common.{◌≡◌, ◌==◌, ◌&&◌, T, ℕ, zero, suc, Bool, true, false, cond, if◌then◌else◌, List, [], ◌∷◌, ◌++◌, length, map, refl, sym, ap, subst, ◌∙◌}
use Rattle.std.specs.{Prelude.{Option, Some, Result, Ok, Err, IfOk}, FinMap.Entries.{below_all}, List.{filter_map, cons_option}, Ordering.{is_lt, eq_by_cmp}}
use Rattle.std.specs.FinMap as finite
use Rattle.cacache_core.specs.{declared.errors.Fault.{Fault, TheVariants.{NotEmpty, AlreadyExists, NotADirectory, TooDeep}}, Paths.{Names, names_of}}
use Rattle.cacache_store.specs.declared.store.answer.Name.{Name}
use Rattle.cacache_disk.specs.{declared.node.Node.{Node, TheVariants.{Folder, File, Link}}, Tree.{Tree, look, names_cmp, child_of, listing}, LedTo.{and_then, or_fault, through, way_fault, place, where_there, where_free, where_no_folder, where_removable, where_folder, where_file, bytes_there, linked_in, on_link, standing, followed, leads, found, file_at, writable, free, replaceable, kept, linked, removable, folder, where_empty, emptied, is_in_way, dirs_fault, dirs}}
use Rattle.cacache_disk.proofs.Maps.{total, only}
use Rattle.cacache_system_model.specs.Mirrors.{hollow, Mirrors}

-- ---- what goes by a node's shape

pub hollow_twice : (o : Option Node) → hollow (hollow o) ≡ hollow o
hollow_twice (Some Folder) = refl
hollow_twice o = refl

by_shape : {A : Type 0} (f : Option Node → A) → ((o : Option Node) → f (hollow o) ≡ f o) → (a b : Option Node) → hollow a ≡ hollow b → f a ≡ f b
by_shape f shape a b same = sym (shape a) ∙ ap f same ∙ shape b

through_shape : (later : Option Fault) (o : Option Node) → through (hollow o) later ≡ through o later
through_shape later (Some Folder) = refl
through_shape later o = refl

there_shape : (n : Names) (o : Option Node) → where_there (hollow o) n ≡ where_there o n
there_shape n (Some Folder) = refl
there_shape n o = refl

free_shape : (n : Names) (o : Option Node) → where_free (hollow o) n ≡ where_free o n
free_shape n (Some Folder) = refl
free_shape n o = refl

no_folder_shape : (n : Names) (o : Option Node) → where_no_folder (hollow o) n ≡ where_no_folder o n
no_folder_shape n (Some Folder) = refl
no_folder_shape n o = refl

removable_shape : (n : Names) (o : Option Node) → where_removable (hollow o) n ≡ where_removable o n
removable_shape n (Some Folder) = refl
removable_shape n o = refl

folder_shape : (n : Names) (o : Option Node) → where_folder (hollow o) n ≡ where_folder o n
folder_shape n (Some Folder) = refl
folder_shape n o = refl

file_shape : (n : Names) (o : Option Node) → where_file (hollow o) n ≡ where_file o n
file_shape n (Some Folder) = refl
file_shape n o = refl

link_shape : (n : Names) (go : List ℕ → Result Names Fault) (o : Option Node) → on_link (hollow o) n go ≡ on_link o n go
link_shape n go (Some Folder) = refl
link_shape n go o = refl

way_shape : (o : Option Node) → is_in_way (hollow o) ≡ is_in_way o
way_shape (Some Folder) = refl
way_shape o = refl

-- ---- two trees of one shape

-- the same is at all names, except for files' bytes
abbrev pub SameShape : Tree → Tree → Type 0
SameShape t d = (names : Names) → hollow (look d names) ≡ hollow (look t names)

shape_of : (temps : Bool) (a b : Option Node) → b ≡ (if temps then hollow a else a) → hollow b ≡ hollow a
shape_of true a b same = ap hollow same ∙ hollow_twice a
shape_of false a b same = ap hollow same

pub shapes : (temps : Names → Bool) (t d : Tree) → Mirrors temps t d → SameShape t d
shapes temps t d m names = shape_of (temps names) (look t names) (look d names) (m.same names)

and_same : {A B : Type 0} (r s : Result A Fault) (f g : A → Result B Fault) → r ≡ s → ((a : A) → s ≡ Ok a → f a ≡ g a) → and_then r f ≡ and_then s g
and_same r (Ok a) f g same next = ap (λ (x : Result _ Fault). and_then x f) same ∙ next a refl
and_same r (Err fault) f g same next = ap (λ (x : Result _ Fault). and_then x f) same

module _ (t d : Tree) (s : SameShape t d) where
  way_same : (above rest : Names) → way_fault d above rest ≡ way_fault t above rest
  way_same above (name ∷ next ∷ rest) =
      by_shape (λ o. through o (way_fault d (above ++ name ∷ []) (next ∷ rest))) (through_shape (way_fault d (above ++ name ∷ []) (next ∷ rest))) (look d (above ++ name ∷ [])) (look t (above ++ name ∷ [])) (s (above ++ name ∷ []))
      ∙ ap (through (look t (above ++ name ∷ []))) (way_same (above ++ name ∷ []) (next ∷ rest))
  way_same above rest = refl

  pub place_same : (path : List ℕ) → place d path ≡ place t path
  unfolding place
  place_same path = and_same (names_of path) (names_of path) (λ names. or_fault (way_fault d [] names) names) (λ names. or_fault (way_fault t [] names) names) refl (λ names is. ap (λ (o : Option Fault). or_fault o names) (way_same [] names))

  at_same : (judge : Option Node → Names → Result Names Fault) → ((n : Names) (o : Option Node) → judge (hollow o) n ≡ judge o n) → (r u : Result Names Fault) → r ≡ u
      → and_then r (λ names. judge (look d names) names) ≡ and_then u (λ names. judge (look t names) names)
  at_same judge shape r u same =
      and_same r u (λ names. judge (look d names) names) (λ names. judge (look t names) names) same (λ names is. by_shape (λ o. judge o names) (shape names) (look d names) (look t names) (s names))

  standing_same : (path : List ℕ) → standing d path ≡ standing t path
  unfolding standing
  standing_same path = at_same where_there there_shape (place d path) (place t path) (place_same path)

  followed_same : (most : ℕ) (names : Names) → followed most d names ≡ followed most t names
  unfolding followed
  followed_same zero names = by_shape (λ o. on_link o names (λ target. Err TooDeep)) (link_shape names (λ target. Err TooDeep)) (look d names) (look t names) (s names)
  followed_same (suc most) names =
      by_shape (λ o. on_link o names (λ target. and_then (standing d target) (followed most d))) (link_shape names (λ target. and_then (standing d target) (followed most d))) (look d names) (look t names) (s names)
      ∙ ap (on_link (look t names) names) (λ i target. and_same (standing d target) (standing t target) (followed most d) (followed most t) (standing_same target) (λ n is. followed_same most n) i)

  pub leads_same : (path : List ℕ) → leads d path ≡ leads t path
  unfolding leads
  leads_same path = and_same (place d path) (place t path) (followed 16 d) (followed 16 t) (place_same path) (λ n is. followed_same 16 n)

  pub found_same : (path : List ℕ) → found d path ≡ found t path
  unfolding found
  found_same path = at_same where_there there_shape (leads d path) (leads t path) (leads_same path)

  pub writable_same : (path : List ℕ) → writable d path ≡ writable t path
  unfolding writable
  writable_same path = at_same where_no_folder no_folder_shape (leads d path) (leads t path) (leads_same path)

  pub free_same : (path : List ℕ) → free d path ≡ free t path
  unfolding free
  free_same path = at_same where_free free_shape (place d path) (place t path) (place_same path)

  pub replaceable_same : (path : List ℕ) → replaceable d path ≡ replaceable t path
  unfolding replaceable
  replaceable_same path = at_same where_no_folder no_folder_shape (place d path) (place t path) (place_same path)

  pub removable_same : (path : List ℕ) → removable d path ≡ removable t path
  unfolding removable
  removable_same path = at_same where_removable removable_shape (place d path) (place t path) (place_same path)

  pub folder_same : (path : List ℕ) → folder d path ≡ folder t path
  unfolding folder
  folder_same path = at_same where_folder folder_shape (place d path) (place t path) (place_same path)

  pub kept_same : (path : List ℕ) → kept d path ≡ kept t path
  unfolding kept
  kept_same path = at_same where_file file_shape (names_of path) (names_of path) refl

  pub dirs_fault_same : (above rest : Names) → dirs_fault d above rest ≡ dirs_fault t above rest
  dirs_fault_same above [] = refl
  dirs_fault_same above (name ∷ rest) =
      ap (λ (b : Bool). cond b (Some (cond (length rest == 0) AlreadyExists NotADirectory)) (dirs_fault d (above ++ name ∷ []) rest)) (by_shape is_in_way way_shape (look d (above ++ name ∷ [])) (look t (above ++ name ∷ [])) (s (above ++ name ∷ [])))
      ∙ ap (cond (is_in_way (look t (above ++ name ∷ []))) (Some (cond (length rest == 0) AlreadyExists NotADirectory))) (dirs_fault_same (above ++ name ∷ []) rest)

  pub dirs_same : (path : List ℕ) → dirs d path ≡ dirs t path
  unfolding dirs
  dirs_same path = and_same (names_of path) (names_of path) (λ names. or_fault (dirs_fault d [] names) names) (λ names. or_fault (dirs_fault t [] names) names) refl (λ names is. ap (λ (o : Option Fault). or_fault o names) (dirs_fault_same [] names))

-- ---- listings

abbrev hollow_node : Node → Node
hollow_node Folder = Folder
hollow_node (File bytes) = File []
hollow_node (Link target) = Link target

abbrev hollow_entry : Names × Node → Names × Node
hollow_entry e = (e.0, hollow_node e.1)

child_shape : (folder : Names) (e : Names × Node) → child_of folder (hollow_entry e) ≡ child_of folder e
child_shape folder (names, Folder) = refl
child_shape folder e = refl

children : (folder : Names) (es : List (Names × Node)) → filter_map (child_of folder) (map hollow_entry es) ≡ filter_map (child_of folder) es
children folder [] = refl
children folder (e ∷ es) =
    ap (λ (o : Option Name). cons_option o (filter_map (child_of folder) (map hollow_entry es))) (child_shape folder e) ∙ ap (cons_option (child_of folder e)) (children folder es)

below_hollow : (x : Names) (es : List (Names × Node)) → below_all names_cmp x (map hollow_entry es) ≡ below_all names_cmp x es
below_hollow x [] = refl
below_hollow x (e ∷ es) = ap (λ (b : Bool). is_lt (names_cmp x e.0) && b) (below_hollow x es)

sorted_hollow : (es : List (Names × Node)) → finite.is_sorted names_cmp (map hollow_entry es) ≡ finite.is_sorted names_cmp es
sorted_hollow [] = refl
sorted_hollow (e ∷ es) =
    ap (λ (b : Bool). b && finite.is_sorted names_cmp (map hollow_entry es)) (below_hollow e.0 es) ∙ ap (λ (b : Bool). below_all names_cmp e.0 es && b) (sorted_hollow es)

some_hollow : (node : Node) → Some (hollow_node node) ≡ hollow (Some node)
some_hollow Folder = refl
some_hollow node = refl

found_hollow : (b : Bool) (node : Node) (o u : Option Node) → u ≡ hollow o → cond b (Some (hollow_node node)) u ≡ hollow (cond b (Some node) o)
found_hollow true node o u same = some_hollow node
found_hollow false node o u same = same

find_hollow : (q : Names) (es : List (Names × Node)) → finite.find names_cmp q (map hollow_entry es) ≡ hollow (finite.find names_cmp q es)
find_hollow q [] = refl
find_hollow q (e ∷ es) = found_hollow (eq_by_cmp names_cmp q e.0) e.1 (finite.find names_cmp q es) (finite.find names_cmp q (map hollow_entry es)) (find_hollow q es)

hollow_tree : Tree → Tree
hollow_tree t = finite.from_sorted (map hollow_entry (finite.entries t))

still_sorted : (t : Tree) → T (finite.is_sorted names_cmp (map hollow_entry (finite.entries t)))
still_sorted t = subst T (sym (sorted_hollow (finite.entries t))) (finite.entries_sorted t)

look_hollow : (t : Tree) (q : Names) → finite.get (hollow_tree t) q ≡ hollow (look t q)
unfolding hollow_tree
look_hollow t q =
    finite.get-from_sorted names_cmp (map hollow_entry (finite.entries t)) q (still_sorted t) ∙ find_hollow q (finite.entries t) ∙ ap hollow (sym (finite.get-entries t q))

entries_hollow : (t : Tree) → finite.entries (hollow_tree t) ≡ map hollow_entry (finite.entries t)
unfolding hollow_tree
entries_hollow t = finite.entries-from_sorted names_cmp (map hollow_entry (finite.entries t)) (still_sorted t)

same_entries : (t d : Tree) → SameShape t d → map hollow_entry (finite.entries d) ≡ map hollow_entry (finite.entries t)
same_entries t d s =
    sym (entries_hollow d)
    ∙ ap finite.entries (finite.same_map total only (hollow_tree d) (hollow_tree t) (λ q. look_hollow d q ∙ s q ∙ sym (look_hollow t q)))
    ∙ entries_hollow t

-- trees of one shape list the same
pub listing_same : (t d : Tree) → SameShape t d → (folder : Names) → listing d folder ≡ listing t folder
unfolding listing
listing_same t d s folder =
    sym (children folder (finite.entries d)) ∙ ap (filter_map (child_of folder)) (same_entries t d s) ∙ children folder (finite.entries t)

pub emptied_same : (t d : Tree) → SameShape t d → (path : List ℕ) → emptied d path ≡ emptied t path
unfolding emptied
emptied_same t d s path =
    and_same (folder d path) (folder t path) (where_empty d) (where_empty t) (folder_same t d s path)
    (λ names is. ap (λ (l : List Name). let r : Result Names Fault = if length names == 0 then Err NotEmpty else if length l == 0 then Ok names else Err NotEmpty in r) (listing_same t d s names))

-- ---- files that are no open temporary ones

pub look_same_at : (temps : Names → Bool) (t d : Tree) (names : Names) → Mirrors temps t d → temps names ≡ false → look d names ≡ look t names
look_same_at temps t d names m no_temp = m.same names ∙ ap (λ (b : Bool). if b then hollow (look t names) else look t names) no_temp

file_same_at : (temps : Names → Bool) (t d : Tree) (what : Fault) (r : Result Names Fault) → Mirrors temps t d → IfOk r (λ names. temps names ≡ false)
    → and_then r (λ names. bytes_there what (look d names)) ≡ and_then r (λ names. bytes_there what (look t names))
file_same_at temps t d what (Ok names) m no_temp = ap (bytes_there what) (look_same_at temps t d names m no_temp)
file_same_at temps t d what (Err fault) m no_temp = refl

pub file_same : (temps : Names → Bool) (t d : Tree) (path : List ℕ) (what : Fault) → Mirrors temps t d → IfOk (leads t path) (λ names. temps names ≡ false) → file_at d path what ≡ file_at t path what
unfolding file_at
file_same temps t d path what m no_temp =
    ap (λ (r : Result Names Fault). and_then r (λ names. bytes_there what (look d names))) (leads_same t d (shapes temps t d m) path) ∙ file_same_at temps t d what (leads t path) m no_temp

linked_same_at : (temps : Names → Bool) (t d : Tree) (r : Result Names Fault) → Mirrors temps t d → IfOk r (λ names. temps names ≡ false)
    → and_then r (λ names. linked_in (look d names)) ≡ and_then r (λ names. linked_in (look t names))
linked_same_at temps t d (Ok names) m no_temp = ap linked_in (look_same_at temps t d names m no_temp)
linked_same_at temps t d (Err fault) m no_temp = refl

pub linked_same : (temps : Names → Bool) (t d : Tree) (path : List ℕ) → Mirrors temps t d → IfOk (place t path) (λ names. temps names ≡ false) → linked d path ≡ linked t path
unfolding linked
linked_same temps t d path m no_temp =
    ap (λ (r : Result Names Fault). and_then r (λ names. linked_in (look d names))) (place_same t d (shapes temps t d m) path) ∙ linked_same_at temps t d (place t path) m no_temp

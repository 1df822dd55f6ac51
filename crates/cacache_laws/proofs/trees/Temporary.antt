-- A sweep takes the temporary files out of a tree, and nothing else.
use Rattle.std.proofs.{lemmas.{Grind.{common_steps}, Bool.{and_parts, eqb-true, false_from_ne_true}, List.{length-map, nil_from_length, Elements.{All-cons, All-nil}}, Slice.Eq.{bytes_eq-Decides}}, Common.{rules, ◌≡◌, ◌==◌, if◌then◌else◌, inl, inr, ℕ, Bool, true, false, cond, Option, List, [], ◌∷◌, ◌++◌, None, Some, Ok, map, filter, length, refl, sym, ap, subst, ◌∙◌, append_assoc, arith}}
use Rattle.std.specs.Prelude.{bytes_eq, codes}
use Rattle.cacache_core.specs.Paths.{Names, names_of, home_of, is_bad, is_name, pieces, IsProperName, join, temp_area, content_names, bucket_names_of}
use Rattle.cacache_core.proofs.{JoinedNames.{joined_texts_name}, ProperNames.{proper_temp_folder}}
use Rattle.cacache_store.specs.declared.store.{answer.{Kind.{Kind}, Name.{Name}, Answer.TheVariants.{Done}}, step.Step.TheVariants.{ReadDir, RemoveFile, Size}}
use Rattle.cacache_store.specs.declared.store.answer.Kind.TheVariants as kinds
use Rattle.cacache_disk.specs.{declared.{luck.Luck.TheVariants.{Plain}, node.Node.{Node, TheVariants.{Folder, File, Link}}}, Tree.{Tree, look, cut, kind_of, listing, same_path, Rooted}, Apply.{apply}}
use Rattle.cacache_disk.proofs.{Maps.{same_path-true}, PutNodes.{look-cut}, Roots.{same_self}}
use Rattle.cacache_laws.specs.{Sequence.{tree_on, AreAnswered}, trees.Temporary.{IsTemporary, LeavesUntemporary, area_of, cache_folder, is_file, is_temp_name, is_temporary, sized_removals, temp_area_in, temp_at}}
use Rattle.cacache_laws.proofs.{Readings.ReadAnswers.{sizing_keeps}, trees.{Children.{FolderShows, NoFolder, Stands, child_listed, folder_shown, listed, listed_child, missing, none_below, proper_child}, Keeping.{removed}, Collected.{from_kept, kept_in}, Covering.{named_on}, Members.{Member}}}
use Rattle.cacache_value.{specs.{Kinds.{PathKind, Content, Bucket, Temporary, path_kind}, Value.{blob_in, bucket_in}}, proofs.PathKinds.{kind-below}}
use Rattle.cacache_walks.specs.Reading.{names_shown}

-- ---- names in a folder

no_members : {X : Type 0} (xs : List X) → ((x : X) → Member x xs → ⊥) → xs ≡ []
no_members [] none = refl
no_members (x ∷ xs) none = absurd (none x (inl refl))

none_listed : (t : Tree) (p : Names) → Rooted t → NoFolder t p → listing t p ≡ []
none_listed t p rooted none =
    no_members (listing t p) (λ n m. let s = listed_child t p n m in let wrong : None ≡ Some s.node = sym (none_below t p n.name [] rooted none) ∙ s.stands in cc)

-- what a listing shows are the names that are there
all_shown : (t : Tree) (p : Names) (names : List Name) → Rooted t → FolderShows t p names → names ≡ listing t p
all_shown t p names rooted h = grind (arith, listed, missing, none_listed)

pub names_listed : (t : Tree) (path : List ℕ) (p : Names) (names : List Name) → Rooted t → names_of path ≡ Ok p
    → names_shown (apply t (ReadDir path) Plain).0 ≡ Some names → names ≡ listing t p
names_listed t path p names rooted is shown = all_shown t p names rooted (folder_shown t path p Plain names rooted is shown)

-- ---- what is in the place of the folder of temporary files

cache_named_by : (cache : List ℕ) (home : Names) (b : Bool) → (length cache == 0) ≡ b → home_of cache ≡ Some home
    → (names_of (if b then codes "." else cache) ≡ Ok home) × (home_of (if b then codes "." else cache) ≡ Some home)
unfolding names_of home_of pieces
cache_named_by cache home true empty is =
    let none : cache ≡ [] = nil_from_length cache (eqb-true (length cache) 0 empty) in
    let here : home_of [] ≡ Some home = ap home_of (sym none) ∙ is in
    (let same : [] ≡ home = cc in ap Ok same, here)
cache_named_by cache home false some is = search rules

-- the path of the cache folder names it
pub cache_named : (cache : List ℕ) (home : Names) → home_of cache ≡ Some home → (names_of (cache_folder cache) ≡ Ok home) × (home_of (cache_folder cache) ≡ Some home)
cache_named cache home is = cache_named_by cache home (length cache == 0) refl is

area_first : (n : Name) (names : List Name) (k : Kind) (b : Bool) → bytes_eq n.name temp_area ≡ b → (if b then Some n.kind else area_of names) ≡ Some k
    → (area_of names ≡ Some k → (m : Name) × Member m names × (m.name ≡ temp_area) × (m.kind ≡ k)) → (m : Name) × Member m (n ∷ names) × (m.name ≡ temp_area) × (m.kind ≡ k)
area_first n names k true same is more = (n, inl refl, (bytes_eq-Decides n.name temp_area).0 same, let kind : n.kind ≡ k = cc in kind)
area_first n names k false other is more = let m = more is in (m.0, inr m.1, m.2, m.3)

area_named : (names : List Name) (k : Kind) → area_of names ≡ Some k → (m : Name) × Member m names × (m.name ≡ temp_area) × (m.kind ≡ k)
area_named [] k is = absurd cc
area_named (n ∷ names) k is = area_first n names k (bytes_eq n.name temp_area) refl is (area_named names k)

area_passed : (n : Name) (names : List Name) (b : Bool) → bytes_eq n.name temp_area ≡ b → (if b then Some n.kind else area_of names) ≡ None
    → (n.name ≡ temp_area → ⊥) × (area_of names ≡ None)
area_passed n names true same is = absurd cc
area_passed n names false other is = (λ e. let wrong : false ≡ true = sym other ∙ (bytes_eq-Decides n.name temp_area).1 e in cc, is)

area_missing : (names : List Name) (m : Name) → area_of names ≡ None → Member m names → m.name ≡ temp_area → ⊥
area_missing [] m none at e = absurd at
area_missing (n ∷ names) m none (inl same) e = (area_passed n names (bytes_eq n.name temp_area) refl none).0 (ap (λ (x : Name). x.name) (sym same) ∙ e)
area_missing (n ∷ names) m none (inr at) e = area_missing names m (area_passed n names (bytes_eq n.name temp_area) refl none).1 at e

-- only a folder is one
abbrev pub AreaStands : Tree → Names → Option Kind → Type 0
AreaStands t p (Some kinds.Folder) = Unit {0}
AreaStands t p here = NoFolder t p

other_stands : (t : Tree) (home : Names) (k : Kind) (m : Name) → Stands t home m → m.name ≡ temp_area → m.kind ≡ k → (k ≡ kinds.Folder → ⊥) → NoFolder t (home ++ temp_area ∷ [])
other_stands t home k m s same kind other there =
    let both : Some s.node ≡ Some Folder = sym s.stands ∙ ap (λ (x : List ℕ). look t (home ++ x ∷ [])) same ∙ there in
    let node : s.node ≡ Folder = cc in
    other (sym kind ∙ s.kind ∙ ap kind_of node)

area_by : (t : Tree) (home : Names) (here : Option Kind) → area_of (listing t home) ≡ here → AreaStands t (home ++ temp_area ∷ []) here
area_by t home here is = grind (arith, area_missing, child_listed, area_named, other_stands, listed_child)

pub area_stands : (t : Tree) (home : Names) (around : List Name) → around ≡ listing t home → AreaStands t (home ++ temp_area ∷ []) (area_of around)
area_stands t home around is = subst (λ (l : List Name). AreaStands t (home ++ temp_area ∷ []) (area_of l)) (sym is) (area_by t home (area_of (listing t home)) refl)

-- if there is no folder, no name is in it
pub area_empty : (t : Tree) (home : Names) → Rooted t → NoFolder t (home ++ temp_area ∷ []) → [] ≡ listing t (home ++ temp_area ∷ [])
area_empty t home rooted none = sym (none_listed t (home ++ temp_area ∷ []) rooted none)

-- ---- removals from one folder

abbrev names_in : List (Name × ℕ) → List Name
names_in removed = map (λ r. r.0) removed

module _ (folder : List ℕ) (p : Names) (named : names_of folder ≡ Ok p) where
  -- a file that answers its size, and then goes
  one_goes : (t : Tree) (r : Name × ℕ) (more : List (Name × ℕ)) → IsProperName r.0.name → AreAnswered t (sized_removals folder (r ∷ more))
      → AreAnswered (cut t (p ++ r.0.name ∷ [])) (sized_removals folder more) × (tree_on t (sized_removals folder (r ∷ more)) ≡ tree_on (cut t (p ++ r.0.name ∷ [])) (sized_removals folder more))
  one_goes t r more proper a =
      let path = join folder r.0.name in
      let stays : (apply t (Size path) Plain).1 ≡ t = sizing_keeps t path in
      let rest = subst (λ x. AreAnswered x ((RemoveFile path, Done) ∷ sized_removals folder more)) stays a.1 in
      let gone : (apply t (RemoveFile path) Plain).1 ≡ cut t (p ++ r.0.name ∷ []) = removed t path (p ++ r.0.name ∷ []) (named_on folder p r.0.name named proper) (sym rest.0) in (
        subst (λ x. AreAnswered x (sized_removals folder more)) gone rest.1,
        ap (λ x. tree_on (apply x (RemoveFile path) Plain).1 (sized_removals folder more)) stays ∙ ap (λ x. tree_on x (sized_removals folder more)) gone,
      )

  pub others_stay : (rs : List (Name × ℕ)) (t : Tree) (q : Names) → ((n : Name) → Member n (names_in rs) → IsProperName n.name) → AreAnswered t (sized_removals folder rs)
      → ((n : Name) → Member n (names_in rs) → q ≡ p ++ n.name ∷ [] → ⊥) → look (tree_on t (sized_removals folder rs)) q ≡ look t q
  others_stay [] t q proper a apart = refl
  others_stay (r ∷ rs) t q proper a apart =
      let one = one_goes t r rs (proper r.0 (inl refl)) a in
      let off : same_path q (p ++ r.0.name ∷ []) ≡ false = false_from_ne_true (same_path q (p ++ r.0.name ∷ [])) (λ s. apart r.0 (inl refl) (same_path-true q (p ++ r.0.name ∷ []) s)) in
      ap (λ x. look x q) one.1 ∙ others_stay rs (cut t (p ++ r.0.name ∷ [])) q (λ n m. proper n (inr m)) one.0 (λ n m. apart n (inr m))
      ∙ look-cut t (p ++ r.0.name ∷ []) q ∙ rw off refl

  none_cut : (b : Bool) (t : Tree) (q : Names) → look t q ≡ None → cond b None (look t q) ≡ None
  none_cut b t q e = grind (arith, common_steps)

  none_still : (rs : List (Name × ℕ)) (t : Tree) (q : Names) → ((n : Name) → Member n (names_in rs) → IsProperName n.name) → AreAnswered t (sized_removals folder rs)
      → look t q ≡ None → look (tree_on t (sized_removals folder rs)) q ≡ None
  none_still [] t q proper a none = none
  none_still (r ∷ rs) t q proper a none =
      let one = one_goes t r rs (proper r.0 (inl refl)) a in
      ap (λ x. look x q) one.1
      ∙ none_still rs (cut t (p ++ r.0.name ∷ [])) q (λ n m. proper n (inr m)) one.0 (look-cut t (p ++ r.0.name ∷ []) q ∙ none_cut (same_path q (p ++ r.0.name ∷ [])) t q none)

  pub each_goes : (rs : List (Name × ℕ)) (t : Tree) (n : Name) → ((n : Name) → Member n (names_in rs) → IsProperName n.name) → AreAnswered t (sized_removals folder rs)
      → Member n (names_in rs) → look (tree_on t (sized_removals folder rs)) (p ++ n.name ∷ []) ≡ None
  each_goes [] t n proper a m = absurd m
  each_goes (r ∷ rs) t n proper a (inl same) =
      let q = p ++ r.0.name ∷ [] in
      let one = one_goes t r rs (proper r.0 (inl refl)) a in
      ap (λ (x : Name). look (tree_on t (sized_removals folder (r ∷ rs))) (p ++ x.name ∷ [])) same
      ∙ ap (λ x. look x (p ++ r.0.name ∷ [])) one.1
      ∙ none_still rs (cut t (p ++ r.0.name ∷ [])) q (λ n m. proper n (inr m)) one.0 (look-cut t (p ++ r.0.name ∷ []) q ∙ rw (same_self q) refl)
  each_goes (r ∷ rs) t n proper a (inr m) =
      let one = one_goes t r rs (proper r.0 (inl refl)) a in
      ap (λ x. look x (p ++ n.name ∷ [])) one.1 ∙ each_goes rs (cut t (p ++ r.0.name ∷ [])) n (λ n m. proper n (inr m)) one.0 m

-- ---- a sweep

pub temp_area_named : (cache : List ℕ) (home : Names) → home_of cache ≡ Some home → names_of (temp_area_in cache) ≡ Ok (home ++ temp_area ∷ [])
temp_area_named cache home is = joined_texts_name cache (temp_area ∷ []) (All-cons IsProperName temp_area [] proper_temp_folder (All-nil IsProperName)) (omega arith) ∙ rw is refl

pub file_node : (node : Node) (kind : Kind) → kind ≡ kind_of node → is_file kind ≡ true → (bytes : List ℕ) × (node ≡ File bytes)
file_node node kind is file = grind (arith, common_steps)

-- below a folder, one name deeper
deeper : (home : Names) (name : List ℕ) → (home ++ temp_area ∷ []) ++ name ∷ [] ≡ temp_at home name
deeper home name = append_assoc home (temp_area ∷ []) (name ∷ [])

not_temporary : (home q names : Names) (name : List ℕ) (kind : PathKind) → q ≡ home ++ names → path_kind (Some home) (home ++ names) ≡ kind → (kind ≡ Temporary → ⊥) → q ≡ temp_at home name → ⊥
not_temporary home q names name kind is of apart e = apart (sym of ∙ ap (path_kind (Some home)) (sym is ∙ e) ∙ kind-below home (temp_area ∷ name ∷ []))

module _ (cache : List ℕ) (home : Names) (is : home_of cache ≡ Some home) (t : Tree) (rooted : Rooted t)
    (names : List Name) (rs : List (Name × ℕ))
    (are_listed : names ≡ listing t (home ++ temp_area ∷ []))
    (each : names_in rs ≡ filter is_temporary names)
    (answered : AreAnswered t (sized_removals (temp_area_in cache) rs)) where
  abbrev p : Names
  p = home ++ temp_area ∷ []

  abbrev folder : List ℕ
  folder = temp_area_in cache

  among : (n : Name) → Member n (names_in rs) → Stands t p n × (is_temporary n ≡ true)
  among n m =
      let f = from_kept is_temporary n names (subst (λ l. Member n l) each m) in
      (listed_child t p n (subst (λ l. Member n l) are_listed f.0), f.1)

  proper : (n : Name) → Member n (names_in rs) → IsProperName n.name
  proper n m = let s = (among n m).0 in proper_child t p n.name s.node rooted s.stands

  -- each of them is a temporary file
  are_temporary : (n : Name) (q : Names) → Member n (names_in rs) → q ≡ p ++ n.name ∷ [] → IsTemporary home t q
  are_temporary n q m e =
      let a = among n m in
      let both = and_parts (is_file n.kind) (is_temp_name n.name) a.1 in
      let f = file_node a.0.node n.kind a.0.kind both.0 in
      (n.name, f.0, e ∙ deeper home n.name, both.1, ap (look t) e ∙ a.0.stands ∙ ap Some f.1)

  rest : (q : Names) → (IsTemporary home t q → ⊥) → look (tree_on t (sized_removals folder rs)) q ≡ look t q
  rest q apart = others_stay folder p (temp_area_named cache home is) rs t q proper answered (λ n m e. apart (are_temporary n q m e))

  gone : (q : Names) → IsTemporary home t q → look (tree_on t (sized_removals folder rs)) q ≡ None
  gone q (name, bytes, at, temp, stands) =
      let n : Name = record { name = name; kind = kinds.File } in
      let here : q ≡ p ++ name ∷ [] = at ∙ sym (deeper home name) in
      let listed = child_listed t p name (File bytes) (ap (look t) (sym here) ∙ stands) in
      let member = subst (λ l. Member n l) (sym each) (kept_in is_temporary n names temp (subst (λ l. Member n l) (sym are_listed) listed)) in
      ap (look (tree_on t (sized_removals folder rs))) here ∙ each_goes folder p (temp_area_named cache home is) rs t n proper answered member

  other : (below : Names) (kind : PathKind) → path_kind (Some home) (home ++ below) ≡ kind → (kind ≡ Temporary → ⊥) → look (tree_on t (sized_removals folder rs)) (home ++ below) ≡ look t (home ++ below)
  other below kind of apart = rest (home ++ below) (λ i. not_temporary home (home ++ below) below i.0 kind refl of apart i.2)

  leaves_untemporary : LeavesUntemporary home t (tree_on t (sized_removals (temp_area_in cache) rs)) (length rs)
  leaves_untemporary = record {
    counted = sym (length-map rs (λ r. r.0)) ∙ ap length (each ∙ ap (filter is_temporary) are_listed);
    gone = gone;
    rest = rest;
    contents = λ h hash. ap blob_in (other (content_names h) Content (kind-below home (content_names h)) (λ e. cc));
    buckets = λ digest d. ap bucket_in (other (bucket_names_of digest) Bucket (kind-below home (bucket_names_of digest)) (λ e. cc));
  }

-- what is left once those names in the folder of temporary files that show one were removed
pub sweeps_leave : (cache : List ℕ) (home : Names) (t : Tree) (names : List Name) (removed : List (Name × ℕ)) → home_of cache ≡ Some home
    → Rooted t → names ≡ listing t (home ++ temp_area ∷ []) → map (λ r. r.0) removed ≡ filter is_temporary names
    → AreAnswered t (sized_removals (temp_area_in cache) removed)
    → LeavesUntemporary home t (tree_on t (sized_removals (temp_area_in cache) removed)) (length removed)
sweeps_leave cache home t names rs is rooted all each answered = leaves_untemporary cache home is t rooted names rs all each answered

-- What the listings of an index find, and that they leave the tree.
use Rattle.std.proofs.{Common.{◌≡◌, inl, inr, ℕ, suc, List, [], ◌∷◌, ◌++◌, Bool, true, false, cond, Option, Some, Ok, map, filter, length, refl, sym, ap, subst, ◌∙◌, arith, append_assoc}, lemmas.{Bool.{and_parts}, List.Elements.{All-cons, All-nil}}, ByRecursion.{All-append}}
use Rattle.std.specs.List.{AllByRecursion, flat_map}
use Rattle.cacache_core.specs.{declared.errors.Error.{Error}, Paths.{Names, names_of, home_of, IsProperName, index_area, join}}
use Rattle.cacache_core.proofs.{JoinedNames.{joined_texts_name}, ProperNames.{proper_bucket_folder}}
use Rattle.cacache_store.specs.{declared.store.{answer.Name.{Name}, log.LogItem.{LogItem}}, Plain.{PlainAnswer}}
use Rattle.cacache_store.specs.declared.store.answer.Kind.TheVariants as kinds
use Rattle.cacache_store.specs.declared.store.step.Step.TheVariants as steps
use Rattle.cacache_disk.specs.{declared.{luck.Luck.TheVariants.{Plain}, node.Node.{Node, TheVariants.{Folder, File}}}, Tree.{Tree, kind_of, look, Rooted}, Apply.{apply}}
use Rattle.cacache_disk.proofs.Standing.{upper_folder}
use Rattle.cacache_laws.proofs.{Readings.ReadAnswers.{listing_keeps}, trees.{Children.{FolderShows, Stands, child_listed, folder_shown, listed, missing, proper_child, shown_stands}, Covering.{named_on}, Collected.{kept_in}, Members.{Member, in_left, in_right}, Temporary.{file_node}}}
use Rattle.cacache_laws.specs.trees.Temporary.{is_file}
use Rattle.cacache_walks.specs.Reading.{names_shown}
use Rattle.cacache_value.{specs.Kinds.{Bucket, path_kind}, proofs.PathKinds.{kind-below}}
use Rattle.cacache_keep.specs.{Buckets.{FindsBuckets, Listed, ListsInTurn, ListsParts, StopsFinding, StopsNextPart, StopsParts, belongs, index_area_in, is_hex_name, parts_in}, Sweeping.{ListsFolder}}
use Rattle.cacache_keep.proofs.TreeRuns.{Leads, leads_as, leads_failed, leads_none, leads_step, leads_then}

pub in_map : {X Y : Type 0} (f : X → Y) (x : X) (xs : List X) → Member x xs → Member (f x) (map f xs)
in_map f x [] m = absurd m
in_map f x (y ∷ xs) (inl e) = inl (ap f e)
in_map f x (y ∷ xs) (inr m) = inr (in_map f x xs m)

-- ---- paths in the index

-- the path names what lies so many names below the index
abbrev pub InIndex : Names → ℕ → List ℕ → Type 0
InIndex home depth path = (ns : Names) × (names_of path ≡ Ok (home ++ index_area ∷ ns)) × (length ns ≡ depth)

-- a bucket's file is there
pub record IsBucketFile (home : Names) (t : Tree) (path : List ℕ) : Type 0 where
  pub names : Names
  pub named : names_of path ≡ Ok names
  pub kind : path_kind (Some home) names ≡ Bucket
  pub below : Names
  pub split : names ≡ home ++ index_area ∷ below
  pub bytes : List ℕ
  pub stands : look t names ≡ Some (File bytes)

-- what is found above the last folders, and in them
abbrev pub IsPart : Names → Tree → Bool → ℕ → List ℕ → Type 0
IsPart home t false depth path = InIndex home depth path
IsPart home t true depth path = IsBucketFile home t path

pub bucket_kind : (home ns : Names) → length ns ≡ 3 → path_kind (Some home) (home ++ index_area ∷ ns) ≡ Bucket
bucket_kind home (a ∷ b ∷ c ∷ []) e = kind-below home (index_area ∷ a ∷ b ∷ c ∷ [])
bucket_kind home ns e = absurd (omega (arith, e))

pub longer : (ns : Names) (name : List ℕ) (depth : ℕ) → length ns ≡ depth → length (ns ++ name ∷ []) ≡ suc depth
longer [] name depth e = omega (arith, e)
longer (n ∷ ns) name depth e = ap suc (longer ns name (length ns) refl) ∙ ap suc e

module _ (home : Names) (t : Tree) (rooted : Rooted t) where
  -- a name in such a folder
  name_part : (last : Bool) (depth : ℕ) (f : List ℕ) (at : InIndex home depth f) (n : Name) → (last ≡ true → depth ≡ 2) → Stands t (home ++ index_area ∷ at.0) n → belongs last n ≡ true → IsPart home t last (suc depth) (join f n.name)
  name_part false depth f at n two s b =
      (at.0 ++ n.name ∷ [], named_on f (home ++ index_area ∷ at.0) n.name at.1 (proper_child t (home ++ index_area ∷ at.0) n.name s.node rooted s.stands) ∙ ap Ok (append_assoc home (index_area ∷ at.0) (n.name ∷ [])), longer at.0 n.name depth at.2)
  name_part true depth f at n two s b =
      let same : (home ++ index_area ∷ at.0) ++ n.name ∷ [] ≡ home ++ index_area ∷ (at.0 ++ n.name ∷ []) = append_assoc home (index_area ∷ at.0) (n.name ∷ []) in
      let file = file_node s.node n.kind s.kind (and_parts (is_file n.kind) (is_hex_name 36 n) b).0 in
      record {
        names = home ++ index_area ∷ (at.0 ++ n.name ∷ []);
        named = named_on f (home ++ index_area ∷ at.0) n.name at.1 (proper_child t (home ++ index_area ∷ at.0) n.name s.node rooted s.stands) ∙ ap Ok same;
        kind = bucket_kind home (at.0 ++ n.name ∷ []) (longer at.0 n.name depth at.2 ∙ ap suc (two refl));
        below = at.0 ++ n.name ∷ [];
        split = refl;
        bytes = file.0;
        stands = ap (look t) (sym same) ∙ s.stands ∙ ap Some file.1;
      }

  names_part : (last : Bool) (depth : ℕ) (f : List ℕ) (at : InIndex home depth f) (ns : List Name) → (last ≡ true → depth ≡ 2) → ((n : Name) → Member n ns → Stands t (home ++ index_area ∷ at.0) n)
      → AllByRecursion (IsPart home t last (suc depth)) (map (λ (n : Name). join f n.name) (filter (belongs last) ns))
  names_part last depth f at [] two stand = tt
  names_part last depth f at (n ∷ ns) two stand = by (belongs last n) refl (names_part last depth f at ns two (λ m k. stand m (inr k)))
    where
      by : (b : Bool) → belongs last n ≡ b → AllByRecursion (IsPart home t last (suc depth)) (map (λ (n : Name). join f n.name) (filter (belongs last) ns))
          → AllByRecursion (IsPart home t last (suc depth)) (map (λ (n : Name). join f n.name) (cond b (n ∷ filter (belongs last) ns) (filter (belongs last) ns)))
      by true is rest = (name_part last depth f at n two (stand n (inl refl)) is, rest)
      by false is rest = rest

-- ---- listings, one after another

-- each of the listings shows its folder, and the tree stays
abbrev ShowsEach : List Listed → Tree → Tree → Type 0
ShowsEach listings t u = (u ≡ t) × AllByRecursion (λ (l : Listed). (a : PlainAnswer) × (a ≡ (apply t (steps.ReadDir l.0) Plain).0) × (names_shown a ≡ Some l.1)) listings

abbrev ShowsOne : Listed → Tree → Tree → Type 0
ShowsOne l t u = (u ≡ t) × ((a : PlainAnswer) × (a ≡ (apply t (steps.ReadDir l.0) Plain).0) × (names_shown a ≡ Some l.1))

one_shown : (l : Listed) (old new : Option (List LogItem)) → ListsFolder l.0 l.1 old new → Leads (ShowsOne l) old new
one_shown l old new lists = leads_step (ShowsOne l) (steps.ReadDir l.0) lists.0 old new lists.1.gained (λ t rooted e. (listing_keeps t l.0, (lists.0, e, lists.1.shown)))

pub each_shown : (listings : List Listed) (old new : Option (List LogItem)) → ListsInTurn listings old new → Leads (ShowsEach listings) old new
each_shown [] old new lists = leads_as (λ t u. u ≡ t) (ShowsEach []) old new (leads_none old new lists) (λ t u rooted e. (e, tt))
each_shown (l ∷ listings) old new lists =
    leads_then (ShowsOne l) (ShowsEach listings) (ShowsEach (l ∷ listings)) old lists.0 new (one_shown l old lists.0 lists.1) (each_shown listings lists.0 new lists.2)
    (λ t u v rooted next one more.
    let all = subst (λ (x : Tree). (v ≡ x) × AllByRecursion (λ (k : Listed). (a : PlainAnswer) × (a ≡ (apply x (steps.ReadDir k.0) Plain).0) × (names_shown a ≡ Some k.1)) listings) one.0 more in
    (all.0, (one.1, all.1)))

-- ---- parts

-- these listings show their folders
abbrev pub AllShown : Tree → List Listed → Type 0
AllShown t listings = AllByRecursion (λ (l : Listed). (a : PlainAnswer) × (a ≡ (apply t (steps.ReadDir l.0) Plain).0) × (names_shown a ≡ Some l.1)) listings

module _ (home : Names) (t : Tree) (rooted : Rooted t) where
  parts_of : (last : Bool) (depth : ℕ) (listings : List Listed) → (last ≡ true → depth ≡ 2) → AllShown t listings
      → AllByRecursion (InIndex home depth) (map (λ (l : Listed). l.0) listings) → AllByRecursion (IsPart home t last (suc depth)) (flat_map (parts_in last) listings)
  parts_of last depth [] two all at = tt
  parts_of last depth (l ∷ listings) two all at =
      let shows = folder_shown t l.0 (home ++ index_area ∷ at.0.0) Plain l.1 rooted at.0.1 (ap names_shown (sym all.0.1) ∙ all.0.2) in
      All-append (IsPart home t last (suc depth)) (parts_in last l) (flat_map (parts_in last) listings)
      (names_part home t rooted last depth l.0 at.0 l.1 two (shown_stands t (home ++ index_area ∷ at.0.0) l.1 shows)) (parts_of last depth listings two all.1 at.1)

  -- what belongs in folders that lie in the index lies there
  parts_lie : (last : Bool) (depth : ℕ) (folders paths : List (List ℕ)) (old new : Option (List LogItem)) (p : ListsParts last folders paths old new) → (last ≡ true → depth ≡ 2) → AllShown t p.listings
      → AllByRecursion (InIndex home depth) folders → AllByRecursion (IsPart home t last (suc depth)) paths
  parts_lie last depth folders paths old new p two all at =
      subst (AllByRecursion (IsPart home t last (suc depth))) (sym p.which) (parts_of last depth p.listings two all (subst (AllByRecursion (InIndex home depth)) (sym p.each) at))

  -- and all of it is found
  name_found : (last : Bool) (f : List ℕ) (ns : List Name) (n : Name) → Member n ns → belongs last n ≡ true → Member (join f n.name) (map (λ (n : Name). join f n.name) (filter (belongs last) ns))
  name_found last f ns n m b = in_map (λ (n : Name). join f n.name) n (filter (belongs last) ns) (kept_in (belongs last) n ns b m)

  listing_found : (last : Bool) (l : Listed) (p : Names) (name : List ℕ) (node : Node) → FolderShows t p l.1 → look t p ≡ Some Folder → look t (p ++ name ∷ []) ≡ Some node
      → belongs last (record { name = name; kind = kind_of node }) ≡ true → Member (join l.0 name) (parts_in last l)
  listing_found last l p name node (listed all) stands there b =
      name_found last l.0 l.1 (record { name = name; kind = kind_of node }) (subst (Member (record { name = name; kind = kind_of node })) (sym all) (child_listed t p name node there)) b
  listing_found last l p name node (missing apart none) stands there b = absurd (apart stands)

  found_of : (last : Bool) (listings : List Listed) (f : List ℕ) (p : Names) (name : List ℕ) (node : Node) → AllShown t listings → Member f (map (λ (l : Listed). l.0) listings) → names_of f ≡ Ok p
      → look t p ≡ Some Folder → look t (p ++ name ∷ []) ≡ Some node → belongs last (record { name = name; kind = kind_of node }) ≡ true → Member (join f name) (flat_map (parts_in last) listings)
  found_of last [] f p name node all m named stands there b = absurd m
  found_of last (l ∷ listings) f p name node all (inl same) named stands there b =
      let shows = folder_shown t l.0 p Plain l.1 rooted (ap names_of (sym same) ∙ named) (ap names_shown (sym all.0.1) ∙ all.0.2) in
      subst (λ (g : List ℕ). Member (join g name) (flat_map (parts_in last) (l ∷ listings))) (sym same)
      (in_left (join l.0 name) (parts_in last l) (flat_map (parts_in last) listings) (listing_found last l p name node shows stands there b))
  found_of last (l ∷ listings) f p name node all (inr m) named stands there b =
      in_right (join f name) (parts_in last l) (flat_map (parts_in last) listings) (found_of last listings f p name node all.1 m named stands there b)

  part_found : (last : Bool) (folders paths : List (List ℕ)) (old new : Option (List LogItem)) (p : ListsParts last folders paths old new) → AllShown t p.listings
      → (f : List ℕ) (q : Names) (name : List ℕ) (node : Node) → Member f folders → names_of f ≡ Ok q → look t q ≡ Some Folder → look t (q ++ name ∷ []) ≡ Some node
      → belongs last (record { name = name; kind = kind_of node }) ≡ true → Member (join f name) paths
  part_found last folders paths old new p all f q name node m named stands there b =
      subst (Member (join f name)) (sym p.which) (found_of last p.listings f q name node all (subst (Member f) (sym p.each) m) named stands there b)

-- ---- buckets

-- names of a bucket below the index
abbrev pub AreBucketNames : List ℕ → List ℕ → List ℕ → Type 0
AreBucketNames a b c =
    (is_hex_name 2 (record { name = a; kind = kinds.Folder }) ≡ true) × (is_hex_name 2 (record { name = b; kind = kinds.Folder }) ≡ true)
    × (is_hex_name 36 (record { name = c; kind = kinds.File }) ≡ true)

-- the path of a bucket of these names is found, and that of the upper folder that leads to it
pub record IsFound (home : Names) (tops paths : List (List ℕ)) (a b c : List ℕ) : Type 0 where
  pub path : List ℕ
  pub member : Member path paths
  pub named : names_of path ≡ Ok (home ++ index_area ∷ a ∷ b ∷ c ∷ [])
  pub top : List ℕ
  pub top_member : Member top tops
  pub top_named : names_of top ≡ Ok (home ++ index_area ∷ a ∷ [])

-- the listings find the bucket files, all of them, and leave the tree
pub record FindsFiles (home : Names) (tops paths : List (List ℕ)) (t new : Tree) : Type 0 where
  pub stays : new ≡ t
  pub files : AllByRecursion (IsBucketFile home t) paths
  pub covers : (a b c bytes : List ℕ) → AreBucketNames a b c → look t (home ++ index_area ∷ a ∷ b ∷ c ∷ []) ≡ Some (File bytes)
      → IsFound home tops paths a b c

pub area_named : (cache : List ℕ) (home : Names) → home_of cache ≡ Some home → names_of (index_area_in cache) ≡ Ok (home ++ index_area ∷ [])
area_named cache home is = joined_texts_name cache (index_area ∷ []) (All-cons IsProperName index_area [] proper_bucket_folder (All-nil IsProperName)) (omega arith) ∙ rw is refl

index_named : (cache : List ℕ) (home : Names) → home_of cache ≡ Some home → AllByRecursion (InIndex home 0) (index_area_in cache ∷ [])
index_named cache home is = (([], area_named cache home is, refl), tt)

module _ (cache : List ℕ) (home : Names) (is : home_of cache ≡ Some home) (paths tops lows : List (List ℕ)) (old one two new : Option (List LogItem))
    (a : ListsParts false (index_area_in cache ∷ []) tops old one) (b : ListsParts false tops lows one two) (c : ListsParts true lows paths two new) where
  abbrev Shown : Tree → Tree → Type 0
  Shown t u = (u ≡ t) × AllShown t a.listings × AllShown t b.listings × AllShown t c.listings

  lists_all : Leads Shown old new
  lists_all =
      leads_then (ShowsEach a.listings) (λ t u. (u ≡ t) × AllShown t b.listings × AllShown t c.listings) Shown old one new (each_shown a.listings old one a.listing)
      (leads_then (ShowsEach b.listings) (ShowsEach c.listings) (λ t u. (u ≡ t) × AllShown t b.listings × AllShown t c.listings) one two new (each_shown b.listings one two b.listing) (each_shown c.listings two new c.listing)
      (λ t u v rooted next x y.
      let z = subst (λ (w : Tree). ShowsEach c.listings w v) x.0 y in
      (z.0, x.1, z.1)))
      (λ t u v rooted next x y.
      let z = subst (λ (w : Tree). (v ≡ w) × AllShown w b.listings × AllShown w c.listings) x.0 y in
      (z.0, x.1, z.1, z.2))

  module _ (t : Tree) (rooted : Rooted t) (s : AllShown t a.listings × AllShown t b.listings × AllShown t c.listings) where
    all_files : AllByRecursion (IsBucketFile home t) paths
    all_files =
        parts_lie home t rooted true 2 lows paths two new c (λ e. refl) s.2
        (parts_lie home t rooted false 1 tops lows one two b (λ e. absurd cc) s.1
        (parts_lie home t rooted false 0 (index_area_in cache ∷ []) tops old one a (λ e. absurd cc) s.0 (index_named cache home is)))

    all_covered : (x y z bytes : List ℕ) → AreBucketNames x y z → look t (home ++ index_area ∷ x ∷ y ∷ z ∷ []) ≡ Some (File bytes)
        → IsFound home tops paths x y z
    all_covered x y z bytes hex there =
        let index = area_named cache home is in
        let at_0 : look t ((home ++ index_area ∷ x ∷ y ∷ []) ++ z ∷ []) ≡ Some (File bytes) = ap (look t) (append_assoc home (index_area ∷ x ∷ y ∷ []) (z ∷ [])) ∙ there in
        let low : look t (home ++ index_area ∷ x ∷ y ∷ []) ≡ Some Folder = upper_folder t (home ++ index_area ∷ x ∷ y ∷ []) [] z (File bytes) rooted at_0 in
        let at_1 : look t ((home ++ index_area ∷ x ∷ []) ++ y ∷ []) ≡ Some Folder = ap (look t) (append_assoc home (index_area ∷ x ∷ []) (y ∷ [])) ∙ low in
        let top : look t (home ++ index_area ∷ x ∷ []) ≡ Some Folder = upper_folder t (home ++ index_area ∷ x ∷ []) [] y Folder rooted at_1 in
        let at_2 : look t ((home ++ index_area ∷ []) ++ x ∷ []) ≡ Some Folder = ap (look t) (append_assoc home (index_area ∷ []) (x ∷ [])) ∙ top in
        let base : look t (home ++ index_area ∷ []) ≡ Some Folder = upper_folder t (home ++ index_area ∷ []) [] x Folder rooted at_2 in
        let f = index_area_in cache in
        let named_1 = named_on (index_area_in cache) (home ++ index_area ∷ []) x index (proper_child t (home ++ index_area ∷ []) x Folder rooted at_2) ∙ ap Ok (append_assoc home (index_area ∷ []) (x ∷ [])) in
        let named_2 = named_on (join f x) (home ++ index_area ∷ x ∷ []) y named_1 (proper_child t (home ++ index_area ∷ x ∷ []) y Folder rooted at_1) ∙ ap Ok (append_assoc home (index_area ∷ x ∷ []) (y ∷ [])) in
        let named_3 = named_on (join (join f x) y) (home ++ index_area ∷ x ∷ y ∷ []) z named_2 (proper_child t (home ++ index_area ∷ x ∷ y ∷ []) z (File bytes) rooted at_0) ∙ ap Ok (append_assoc home (index_area ∷ x ∷ y ∷ []) (z ∷ [])) in
        let m_1 = part_found home t rooted false (index_area_in cache ∷ []) tops old one a s.0 (index_area_in cache) (home ++ index_area ∷ []) x Folder (inl refl) index base at_2 hex.0 in
        let m_2 = part_found home t rooted false tops lows one two b s.1 (join f x) (home ++ index_area ∷ x ∷ []) y Folder m_1 named_1 top at_1 hex.1 in
        let m_3 = part_found home t rooted true lows paths two new c s.2 (join (join f x) y) (home ++ index_area ∷ x ∷ y ∷ []) z (File bytes) m_2 named_2 low at_0 hex.2 in
        record { path = join (join (join f x) y) z; member = m_3; named = named_3; top = join f x; top_member = m_1; top_named = named_1 }

pub buckets_found : (cache : List ℕ) (home : Names) (tops paths : List (List ℕ)) (old new : Option (List LogItem)) → home_of cache ≡ Some home → FindsBuckets cache tops paths old new → Leads (FindsFiles home tops paths) old new
buckets_found cache home tops paths old new is (lows, one, two, a, b, c) =
    leads_as (Shown cache home is paths tops lows old one two new a b c) (FindsFiles home tops paths) old new (lists_all cache home is paths tops lows old one two new a b c)
    (λ t u rooted s. record {
      stays = s.0;
      files = all_files cache home is paths tops lows old one two new a b c t rooted (s.1, s.2, s.3);
      covers = all_covered cache home is paths tops lows old one two new a b c t rooted (s.1, s.2, s.3);
    })

-- ---- that it leaves the tree, also if an error ends it

abbrev pub Stays : Tree → Tree → Type 0
Stays t u = u ≡ t

pub stays_on : (t u v : Tree) → Rooted t → Rooted u → Stays t u → Stays u v → Stays t v
stays_on t u v rooted next e f = f ∙ e

part_stays : (rest : List (List ℕ)) (e : Error) (old new : Option (List LogItem)) → StopsNextPart rest e old new → Leads Stays old new
part_stays [] e old new stop = leads_none old new stop.1
part_stays (f ∷ rest) e old new stop = leads_failed Stays (steps.ReadDir f) e old new stop.1 (λ t. refl) (λ t fault rooted is. listing_keeps t f)

listings_stay : (listings : List Listed) (old new : Option (List LogItem)) → ListsInTurn listings old new → Leads Stays old new
listings_stay listings old new lists = leads_as (ShowsEach listings) Stays old new (each_shown listings old new lists) (λ t u rooted s. s.0)

parts_stay : (folders : List (List ℕ)) (e : Error) (old new : Option (List LogItem)) → StopsParts folders e old new → Leads Stays old new
parts_stay folders e old new stop = leads_then Stays Stays Stays old stop.between new (listings_stay stop.listings old stop.between stop.listing) (part_stays stop.rest e stop.between new stop.stop) stays_on

all_stay : (last : Bool) (folders paths : List (List ℕ)) (old new : Option (List LogItem)) → ListsParts last folders paths old new → Leads Stays old new
all_stay last folders paths old new p = listings_stay p.listings old new p.listing

pub finding_stays : (cache : List ℕ) (e : Error) (old new : Option (List LogItem)) → StopsFinding cache e old new → Leads Stays old new
finding_stays cache e old new (inl first) = parts_stay (index_area_in cache ∷ []) e old new first
finding_stays cache e old new (inr (tops, one, a, inl second)) = leads_then Stays Stays Stays old one new (all_stay false (index_area_in cache ∷ []) tops old one a) (parts_stay tops e one new second) stays_on
finding_stays cache e old new (inr (tops, one, a, inr (lows, two, b, third))) =
    leads_then Stays Stays Stays old one new (all_stay false (index_area_in cache ∷ []) tops old one a)
    (leads_then Stays Stays Stays one two new (all_stay false tops lows one two b) (parts_stay lows e two new third) stays_on) stays_on

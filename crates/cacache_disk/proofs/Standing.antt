-- One more link, and what the deepest node on a path says of the whole path.
use Rattle.std.proofs.{Common.{◌≡◌, ◌<◌, ◌-◌, ℕ, zero, suc, refl, arith, List, ◌+◌, [], ◌∷◌, ◌++◌, Option, None, length, take, drop, sym, ap, subst, ◌∙◌, append-nil, append_assoc}, lemmas.{Grind.{common_steps}, List.{take-append-drop, length-drop, take-take, length-take-le}}}
use Rattle.std.specs.Prelude.{Some, Ok}
use Rattle.cacache_core.specs.Paths.{Names, names_of}
use Rattle.cacache_disk.specs.{declared.node.Node.{TheVariants.{Link, Folder}, Node}, Tree.{Tree, look, Rooted, StandsIn}, LedTo.{followed, standing, and_then, way_fault, through, dirs_fault, place, or_fault}, Apply.{make_some}, Deepest.{IsMissing, IsDeepest, way_past, dirs_past, MakesFrom}}
use Rattle.cacache_disk.proofs.PathTexts.{drop_here, front_next}

pub followed_next : (most : ℕ) (t : Tree) (names : Names) (target : List ℕ) → Some (Link target) ≡ look t names → 0 < most
    → followed most t names ≡ and_then (standing t target) (followed (most - 1) t)
unfolding followed
followed_next zero t names target link some = absurd (omega arith)
followed_next (suc most) t names target link some = let e : suc most - 1 ≡ most = omega arith in rw (← link, e)

-- its target is there
pub followed_ok : (most : ℕ) (t : Tree) (names : Names) (target : List ℕ) (next : Names) → Some (Link target) ≡ look t names → 0 < most → Ok next ≡ standing t target
    → followed most t names ≡ followed (most - 1) t next
followed_ok most t names target next link some found = rw (followed_next most t names target link some, ← found) refl

-- ---- what the deepest node on a path says of the whole path

-- all nodes above a node are folders
pub upper_folder : (t : Tree) (p rest : Names) (name : List ℕ) (node : Node) → Rooted t → look t (p ++ name ∷ rest) ≡ Some node → look t p ≡ Some Folder
upper_folder t p [] name node rooted e = subst (StandsIn (look t p)) e (rooted.folders p name)
upper_folder t p (m ∷ rest) name node rooted e =
    let next = upper_folder t (p ++ name ∷ []) rest m node rooted (ap (look t) (append_assoc p (name ∷ []) (m ∷ rest)) ∙ e) in
    subst (StandsIn (look t p)) next (rooted.folders p name)

pub way_clear : (t : Tree) (p rest : Names) (node : Node) → Rooted t → look t (p ++ rest) ≡ Some node → way_fault t p rest ≡ None
way_clear t p (name ∷ m ∷ rest) node rooted e =
    let same = ap (look t) (append_assoc p (name ∷ []) (m ∷ rest)) ∙ e in
    rw (upper_folder t (p ++ name ∷ []) rest m node rooted same) (way_clear t (p ++ name ∷ []) (m ∷ rest) node rooted same)
way_clear t p rest node rooted e = refl

-- nothing is below a missing node
missing_child : (upper child : Option Node) → StandsIn upper child → upper ≡ None → child ≡ None
missing_child upper child s e = grind (arith, common_steps)

missing_below : (t : Tree) (p : Names) (name : List ℕ) → Rooted t → look t p ≡ None → look t (p ++ name ∷ []) ≡ None
missing_below t p name rooted e = missing_child (look t p) (look t (p ++ name ∷ [])) (rooted.folders p name) e

pub above_missing : (t : Tree) (p rest : Names) → Rooted t → look t p ≡ None → look t (p ++ rest) ≡ None
above_missing t p [] rooted e = ap (look t) (append-nil p) ∙ e
above_missing t p (name ∷ rest) rooted e =
    ap (look t) (sym (append_assoc p (name ∷ []) rest)) ∙ above_missing t (p ++ name ∷ []) rest rooted (missing_below t p name rooted e)

-- a node that is two things
same_node : (t : Tree) (p : Names) (a b : Node) → look t p ≡ Some a → look t p ≡ Some b → a ≡ b
same_node t p a b x y = let same : Some a ≡ Some b = sym x ∙ y in cc

-- ---- the way

way_to : (t : Tree) (p above rest : Names) (name : List ℕ) (node : Node) → Rooted t → look t p ≡ Some Folder → look t (p ++ above) ≡ Some node
    → way_fault t p (above ++ name ∷ rest) ≡ through (Some node) (way_fault t (p ++ above) (name ∷ rest))
way_to t p [] rest name node rooted top e =
    let same : node ≡ Folder = same_node t p node Folder (ap (look t) (sym (append-nil p)) ∙ e) top in
    rw (same, append-nil p) refl
way_to t p (a ∷ []) rest name node rooted top e = rw e refl
way_to t p (a ∷ b ∷ above) rest name node rooted top e =
    let deeper = ap (look t) (append_assoc p (a ∷ []) (b ∷ above)) ∙ e in
    let here : look t (p ++ a ∷ []) ≡ Some Folder = upper_folder t (p ++ a ∷ []) above b node rooted deeper in
    rw here (way_to t (p ++ a ∷ []) (b ∷ above) rest name node rooted here deeper ∙ ap (λ q. through (Some node) (way_fault t q (name ∷ rest))) (append_assoc p (a ∷ []) (b ∷ above)))

past : (t : Tree) (above rest : Names) (name : List ℕ) (node : Node) → look t (above ++ name ∷ []) ≡ None
    → through (Some node) (way_fault t above (name ∷ rest)) ≡ way_past node (suc (length rest))
past t above rest name node none = grind (arith, common_steps)

way_split : (t : Tree) (above rest : Names) (node : Node) → Rooted t → look t above ≡ Some node → IsMissing t above rest
    → way_fault t [] (above ++ rest) ≡ way_past node (length rest)
way_split t above [] node rooted e missing = way_clear t [] (above ++ []) node rooted (ap (look t) (append-nil above) ∙ e)
way_split t above (name ∷ rest) node rooted e missing = way_to t [] above rest name node rooted rooted.top e ∙ past t above rest name node missing

-- why the folders of a path don't lead there
pub way_is : (t : Tree) (path : Names) (count : ℕ) (node : Node) → Rooted t → IsDeepest t path count node → way_fault t [] path ≡ way_past node (length path - count)
way_is t path count node rooted deepest =
    ap (way_fault t []) (sym (take-append-drop count path))
    ∙ way_split t (take count path) (drop count path) node rooted deepest.stands deepest.missing
    ∙ ap (way_past node) (length-drop count path)

-- ---- folders to be made

dirs_missing : (t : Tree) (p rest : Names) → Rooted t → look t p ≡ None → dirs_fault t p rest ≡ None
dirs_missing t p [] rooted e = refl
dirs_missing t p (name ∷ rest) rooted e =
    let none = missing_below t p name rooted e in
    rw none (dirs_missing t (p ++ name ∷ []) rest rooted none)

dirs_below : (t : Tree) (p rest : Names) → Rooted t → IsMissing t p rest → dirs_fault t p rest ≡ None
dirs_below t p rest rooted missing = grind (arith, dirs_missing)

dirs_last : (t : Tree) (p rest : Names) (name : List ℕ) (node : Node) → Rooted t → look t (p ++ name ∷ []) ≡ Some node → IsMissing t (p ++ name ∷ []) rest
    → dirs_fault t p (name ∷ rest) ≡ dirs_past node (length rest)
dirs_last t p rest name node rooted e missing = grind (arith, dirs_below)

dirs_to : (t : Tree) (p above rest : Names) (node : Node) → Rooted t → look t p ≡ Some Folder → look t (p ++ above) ≡ Some node
    → IsMissing t (p ++ above) rest → dirs_fault t p (above ++ rest) ≡ dirs_past node (length rest)
dirs_to t p [] rest node rooted top e missing =
    let same : node ≡ Folder = same_node t p node Folder (ap (look t) (sym (append-nil p)) ∙ e) top in
    rw same (dirs_below t p rest rooted (subst (λ q. IsMissing t q rest) (append-nil p) missing))
dirs_to t p (a ∷ []) rest node rooted top e missing = dirs_last t p rest a node rooted e missing
dirs_to t p (a ∷ b ∷ above) rest node rooted top e missing =
    let deeper = ap (look t) (append_assoc p (a ∷ []) (b ∷ above)) ∙ e in
    let here : look t (p ++ a ∷ []) ≡ Some Folder = upper_folder t (p ++ a ∷ []) above b node rooted deeper in
    rw here (dirs_to t (p ++ a ∷ []) (b ∷ above) rest node rooted here deeper (subst (λ q. IsMissing t q rest) (sym (append_assoc p (a ∷ []) (b ∷ above))) missing))

-- why the folders of a path can't be made
pub dirs_is : (t : Tree) (path : Names) (count : ℕ) (node : Node) → Rooted t → IsDeepest t path count node → dirs_fault t [] path ≡ dirs_past node (length path - count)
dirs_is t path count node rooted deepest =
    ap (dirs_fault t []) (sym (take-append-drop count path))
    ∙ dirs_to t [] (take count path) (drop count path) node rooted rooted.top deepest.stands deepest.missing
    ∙ ap (dirs_past node) (length-drop count path)

-- each path on the way to a node has a node
stands_on : (t : Tree) (p above : Names) (name : List ℕ) (node : Node) → Rooted t → look t (p ++ name ∷ above) ≡ Some node → (here : Node) × (look t (p ++ name ∷ []) ≡ Some here)
stands_on t p [] name node rooted e = (node, e)
stands_on t p (next ∷ above) name node rooted e =
    (Folder, upper_folder t (p ++ name ∷ []) above next node rooted (ap (look t) (append_assoc p (name ∷ []) (next ∷ above)) ∙ e))

make_step : (t : Tree) (p rest : Names) (name : List ℕ) (node : Node) (most : ℕ) → look t (p ++ name ∷ []) ≡ Some node
    → make_some t p (name ∷ rest) most ≡ make_some t (p ++ name ∷ []) rest most
make_step t p rest name node most e = rw (e, make_some) refl

make_to : (t : Tree) (p above rest : Names) (node : Node) (most : ℕ) → Rooted t → look t (p ++ above) ≡ Some node
    → make_some t p (above ++ rest) most ≡ make_some t (p ++ above) rest most
make_to t p [] rest node most rooted e = ap (λ q. make_some t q rest most) (sym (append-nil p))
make_to t p (a ∷ above) rest node most rooted e =
    let here = stands_on t p above a node rooted e in
    let same : (p ++ a ∷ []) ++ above ≡ p ++ a ∷ above = append_assoc p (a ∷ []) above in
    make_step t p (above ++ rest) a here.0 most here.1
    ∙ make_to t (p ++ a ∷ []) above rest node most rooted (ap (look t) same ∙ e)
    ∙ ap (λ q. make_some t q rest most) same

-- folders are made only below the deepest node
pub makes_from : (t : Tree) (path : Names) (count : ℕ) (node : Node) → Rooted t → IsDeepest t path count node → MakesFrom t path count
makes_from t path count node rooted deepest most =
    ap (λ q. make_some t [] q most) (sym (take-append-drop count path))
    ∙ make_to t [] (take count path) (drop count path) node most rooted deepest.stands

-- ---- climbing

-- one name above what is missing
pub deepest_above : (t : Tree) (path : Names) (count : ℕ) (node : Node) → count < length path → look t (take count path) ≡ Some node
    → look t (take (count + 1) path) ≡ None → IsDeepest t path count node
deepest_above t path count node short e none =
    record {
      within = omega (arith, short);
      stands = e;
      missing = rw (drop_here path count [] short) (ap (look t) (front_next path count [] short) ∙ none);
    }

-- a node at a missing path less its last name is the deepest one
pub deepest_climbed : (t : Tree) (path above up : Names) (i count : ℕ) (node : Node) → i < length path → count ≡ length path - i - 1
    → above ≡ take (length path - i) path → up ≡ take (length above - 1) above → look t up ≡ Some node → look t (take (length path - i) path) ≡ None
    → IsDeepest t path count node
deepest_climbed t path above up i count node short last here shorter stands none =
    let size : length above ≡ length path - i = ap length here ∙ length-take-le (length path - i) path (omega arith) in
    let fewer : length above - 1 ≡ count = omega (arith, size, last) in
    let front : up ≡ take count path
    = shorter ∙ ap (λ n. take n above) fewer ∙ ap (take count) here ∙ take-take count (length path - i) path (omega (arith, last)) in
    let next : count + 1 ≡ length path - i = omega (arith, last, short) in
    deepest_above t path count node (omega (arith, last, short)) (ap (look t) (sym front) ∙ stands) (ap (λ n. look t (take n path)) next ∙ none)

-- ---- the node at a path

missing_rest : (t : Tree) (above rest : Names) → Rooted t → IsMissing t above rest → (length rest ≡ 0 → ⊥) → look t (above ++ rest) ≡ None
missing_rest t above [] rooted missing some = absurd (some refl)
missing_rest t above (name ∷ rest) rooted missing some =
    ap (look t) (sym (append_assoc above (name ∷ []) rest)) ∙ above_missing t (above ++ name ∷ []) rest rooted missing

-- a name is left below it
pub missing_whole : (t : Tree) (path : Names) (count : ℕ) (node : Node) → Rooted t → IsDeepest t path count node → (length path - count ≡ 0 → ⊥) → look t path ≡ None
missing_whole t path count node rooted deepest some =
    ap (look t) (sym (take-append-drop count path))
    ∙ missing_rest t (take count path) (drop count path) rooted deepest.missing (λ none. some (sym (length-drop count path) ∙ none))

pub place_is : (t : Tree) (path : List ℕ) (names : Names) (count : ℕ) (node : Node) → Rooted t → IsDeepest t names count node → names_of path ≡ Ok names
    → place t path ≡ or_fault (way_past node (length names - count)) names
unfolding place
place_is t path names count node rooted deepest named = rw (named, way_is t names count node rooted deepest) refl

-- Trees with a file where nothing was: every path that led to something still leads there.
use Rattle.std.{proofs.Common.{◌≡◌, ℕ, zero, suc, Bool, true, false, cond, List, [], ◌∷◌, ◌++◌, refl, sym, ap, subst, ◌∙◌}, specs.Prelude.{Option, None, Some, Result, Ok, Err}}
use Rattle.cacache_core.specs.{declared.errors.Fault.{Fault, TheVariants.{TooDeep}}, Paths.{Names, names_of, IsProperName}}
use Rattle.cacache_disk.specs.{declared.node.Node.{Node, TheVariants.{Folder, File, Link}}, Tree.{Tree, look, put, cut, same_path}, LedTo.{and_then, or_fault, through, way_fault, on_link, followed, place, standing, leads, found, file_at, writable, free, removable, replaceable, where_there, where_free, where_removable, where_no_folder, bytes_there}}
use Rattle.cacache_disk.proofs.{FoundNodes.{and_then_ok, or_fault_none, place_ok}, Maps.{same_path-true}, PutNodes.{cut-put, put-cut_same, look-put}, Roots.{same_self}}
use Rattle.cacache_system.specs.CallsOf.{above_of, in_folder}
use Rattle.cacache_system_model.{specs.Machine.{EndsInName}, proofs.{Views.{found_at, file_from, leads_straight}, Steps.Slashes.{beside}}}

-- ---- the way to a name next to a path

way_beside : (t : Tree) (above front : Names) (x y : List ℕ) → way_fault t above (front ++ x ∷ []) ≡ way_fault t above (front ++ y ∷ [])
way_beside t above (n ∷ k ∷ front) x y =
    ap (through (look t (above ++ n ∷ []))) (way_beside t (above ++ n ∷ []) (k ∷ front) x y)
way_beside t above front x y = refl

pub placed_as : (t : Tree) (path : List ℕ) (r : Result Names Fault) → names_of path ≡ r → place t path ≡ and_then r (λ names. or_fault (way_fault t [] names) names)
unfolding place
placed_as t path r is = ap (λ (x : Result Names Fault). and_then x (λ names. or_fault (way_fault t [] names) names)) is

-- the place of a path that ends with a name, and of another name in its folder
pub record PlacedBeside (t : Tree) (path : List ℕ) (name : List ℕ) : Type 0 where
  pub front : Names
  pub fault : Option Fault
  pub last : List ℕ
  pub own : place t path ≡ or_fault fault (front ++ last ∷ [])
  pub other : place t (in_folder (above_of path) name) ≡ or_fault fault (front ++ name ∷ [])

pub placed_beside : (t : Tree) (path name : List ℕ) (ns : Names) → names_of path ≡ Ok ns → EndsInName path → IsProperName name → PlacedBeside t path name
placed_beside t path name ns is ends proper =
    let b = beside path ns is ends in
    record {
      front = b.front;
      fault = way_fault t [] (b.front ++ b.last ∷ []);
      last = b.last;
      own = placed_as t path (Ok ns) is ∙ ap (λ (n : Names). or_fault (way_fault t [] n) n) b.is;
      other = placed_as t (in_folder (above_of path) name) (Ok (b.front ++ name ∷ [])) (b.other name proper)
          ∙ ap (λ (o : Option Fault). or_fault o (b.front ++ name ∷ [])) (way_beside t [] b.front name b.last);
    }

-- ---- a file where nothing was

module _ (t : Tree) (fn : Names) (bytes : List ℕ) (free_there : look t fn ≡ None) where
  abbrev new_tree : Tree
  new_tree = put t fn (File bytes)

  pub look_new : look new_tree fn ≡ Some (File bytes)
  look_new = look-put t fn (File bytes) fn ∙ ap (λ (b : Bool). cond b (Some (File bytes)) (look t fn)) (same_self fn)

  still_at : (q : Names) (node : Node) (b : Bool) → same_path q fn ≡ b → look t q ≡ Some node → cond b (Some (File bytes)) (look t q) ≡ Some node
  still_at q node true same is = let none : look t q ≡ None = ap (look t) (same_path-true q fn same) ∙ free_there in absurd cc
  still_at q node false same is = is

  -- what was there is still there
  pub still : (q : Names) (node : Node) → look t q ≡ Some node → look new_tree q ≡ Some node
  still q node is = look-put t fn (File bytes) q ∙ still_at q node (same_path q fn) refl is

  way_step : (o : Option Node) (q : Names) (old new : Option Fault) → look t q ≡ o → through o old ≡ None → (old ≡ None → new ≡ None) → through (look new_tree q) new ≡ None
  way_step (Some Folder) q old new at e next = ap (λ (x : Option Node). through x new) (still q Folder at) ∙ next e
  way_step o q old new at e next = absurd cc

  way_still : (above names : Names) → way_fault t above names ≡ None → way_fault new_tree above names ≡ None
  way_still above (n ∷ k ∷ rest) e =
      way_step (look t (above ++ n ∷ [])) (above ++ n ∷ []) (way_fault t (above ++ n ∷ []) (k ∷ rest)) (way_fault new_tree (above ++ n ∷ []) (k ∷ rest)) refl e
      (way_still (above ++ n ∷ []) (k ∷ rest))
  way_still above names e = refl

  -- a path's place stays
  pub place_still : (path : List ℕ) (names : Names) → place t path ≡ Ok names → place new_tree path ≡ Ok names
  place_still path names is =
      let named = place_ok t path names is in
      let way : way_fault t [] names ≡ None = (or_fault_none (way_fault t [] names) names names (sym (placed_as t path (Ok names) named) ∙ is)).0 in
      placed_as new_tree path (Ok names) named ∙ ap (λ (o : Option Fault). or_fault o names) (way_still [] names way)

  there_still : (o : Option Node) (names x : Names) → look t names ≡ o → where_there o names ≡ Ok x → where_there (look new_tree names) names ≡ Ok x
  there_still None names x at e = absurd cc
  there_still (Some node) names x at e = ap (λ (y : Option Node). where_there y names) (still names node at) ∙ e

  standing_still : (path : List ℕ) (x : Names) → standing t path ≡ Ok x → standing new_tree path ≡ Ok x
  unfolding standing
  standing_still path x e =
      let f = and_then_ok (place t path) (λ names. where_there (look t names) names) x e in
      ap (λ (r : Result Names Fault). and_then r (λ names. where_there (look new_tree names) names)) (place_still path f.0 f.1) ∙ there_still (look t f.0) f.0 x refl f.2

  on_link_still : (o : Option Node) (names x : Names) (node : Node) (go new_go : List ℕ → Result Names Fault) → look t names ≡ o → look t x ≡ Some node
      → ((target : List ℕ) → go target ≡ Ok x → new_go target ≡ Ok x) → on_link o names go ≡ Ok x → on_link (look new_tree names) names new_go ≡ Ok x
  on_link_still None names x node go new_go at there next e = let same : names ≡ x = cc in let none : look t x ≡ None = ap (look t) (sym same) ∙ at in absurd cc
  on_link_still (Some Folder) names x node go new_go at there next e = ap (λ (y : Option Node). on_link y names new_go) (still names Folder at) ∙ e
  on_link_still (Some (File more)) names x node go new_go at there next e = ap (λ (y : Option Node). on_link y names new_go) (still names (File more) at) ∙ e
  on_link_still (Some (Link target)) names x node go new_go at there next e = ap (λ (y : Option Node). on_link y names new_go) (still names (Link target) at) ∙ next target e

  followed_still : (most : ℕ) (names x : Names) (node : Node) → look t x ≡ Some node → followed most t names ≡ Ok x → followed most new_tree names ≡ Ok x
  unfolding followed
  followed_still zero names x node there e =
      on_link_still (look t names) names x node (λ target. Err TooDeep) (λ target. Err TooDeep) refl there (λ target is. is) e
  followed_still (suc most) names x node there e =
      on_link_still (look t names) names x node (λ target. and_then (standing t target) (followed most t)) (λ target. and_then (standing new_tree target) (followed most new_tree)) refl there
      (λ target is.
      let f = and_then_ok (standing t target) (followed most t) x is in
      ap (λ (r : Result Names Fault). and_then r (followed most new_tree)) (standing_still target f.0 f.1) ∙ followed_still most f.0 x node there f.2) e

  -- a path leads where it led
  pub leads_still : (path : List ℕ) (x : Names) (node : Node) → look t x ≡ Some node → leads t path ≡ Ok x → leads new_tree path ≡ Ok x
  unfolding leads
  leads_still path x node there e =
      let f = and_then_ok (place t path) (followed 16 t) x e in
      ap (λ (r : Result Names Fault). and_then r (followed 16 new_tree)) (place_still path f.0 f.1) ∙ followed_still 16 f.0 x node there f.2

  -- a file is read as before
  pub file_still : (path : List ℕ) (what : Fault) (x : Names) (more : List ℕ) → leads t path ≡ Ok x → look t x ≡ Some (File more) → file_at new_tree path what ≡ Ok more
  file_still path what x more is at =
      file_from new_tree path what (Ok x) (leads_still path x (File more) at is) ∙ ap (bytes_there what) (still x (File more) at)

  -- the file's own path
  pub own_place : (path : List ℕ) → place t path ≡ Ok fn → place new_tree path ≡ Ok fn
  own_place path is = place_still path fn is

  pub own_leads : (path : List ℕ) → place t path ≡ Ok fn → leads new_tree path ≡ Ok fn
  own_leads path is =
      leads_straight new_tree path (λ names placed target link.
      let both : ◌≡◌ {A = Result Names Fault} (Ok names) (Ok fn) = sym placed ∙ own_place path is in
      let same : names ≡ fn = cc in
      let file : look new_tree names ≡ Some (File bytes) = ap (look new_tree) same ∙ look_new in
      cc)
      ∙ own_place path is

  pub own_writable : (path : List ℕ) → place t path ≡ Ok fn → writable new_tree path ≡ Ok fn
  unfolding writable
  own_writable path is =
      ap (λ (r : Result Names Fault). and_then r (λ names. where_no_folder (look new_tree names) names)) (own_leads path is) ∙ ap (λ (o : Option Node). where_no_folder o fn) look_new

  pub own_removable : (path : List ℕ) → place t path ≡ Ok fn → removable new_tree path ≡ Ok fn
  unfolding removable
  own_removable path is =
      ap (λ (r : Result Names Fault). and_then r (λ names. where_removable (look new_tree names) names)) (own_place path is) ∙ ap (λ (o : Option Node). where_removable o fn) look_new

  replaced_if : (c : Bool) (o : Option Node) (names : Names) → where_no_folder o names ≡ Ok names → where_no_folder (cond c (Some (File bytes)) o) names ≡ Ok names
  replaced_if true o names is = refl
  replaced_if false o names is = is

  -- what could be replaced can be
  pub replaceable_still : (path : List ℕ) (names : Names) → place t path ≡ Ok names → where_no_folder (look t names) names ≡ Ok names → replaceable new_tree path ≡ Ok names
  unfolding replaceable
  replaceable_still path names is at =
      ap (λ (r : Result Names Fault). and_then r (λ n. where_no_folder (look new_tree n) n)) (place_still path names is)
      ∙ ap (λ (o : Option Node). where_no_folder o names) (look-put t fn (File bytes) names) ∙ replaced_if (same_path names fn) (look t names) names at

  -- without it the tree is as it was
  pub cut_new : cut new_tree fn ≡ t
  cut_new = cut-put t fn (File bytes) (sym free_there)

  -- other bytes in it
  pub put_new : (more : List ℕ) → put new_tree fn (File more) ≡ put t fn (File more)
  put_new more = put-cut_same new_tree fn fn (File more) refl ∙ ap (λ (x : Tree). put x fn (File more)) cut_new

-- something new can be made where nothing is
pub free_at_place : (t : Tree) (path : List ℕ) (r : Result Names Fault) → place t path ≡ r → free t path ≡ and_then r (λ names. where_free (look t names) names)
unfolding free
free_at_place t path r is = ap (λ (x : Result Names Fault). and_then x (λ names. where_free (look t names) names)) is

-- ---- links

-- something is there
abbrev pub IsThere : Option Node → Type 0
IsThere here = here ≡ None → ⊥

there_on_link : (t : Tree) (names x : Names) (o : Option Node) (go : List ℕ → Result Names Fault) → look t names ≡ o → IsThere o → ((target : List ℕ) → go target ≡ Ok x → IsThere (look t x)) → on_link o names go ≡ Ok x
    → IsThere (look t x)
there_on_link t names x None go at there next e = absurd (there refl)
there_on_link t names x (Some Folder) go at there next e = let same : names ≡ x = cc in let here : look t x ≡ Some Folder = ap (look t) (sym same) ∙ at in λ none. cc
there_on_link t names x (Some (File more)) go at there next e = let same : names ≡ x = cc in let here : look t x ≡ Some (File more) = ap (look t) (sym same) ∙ at in λ none. cc
there_on_link t names x (Some (Link target)) go at there next e = next target e

there_where : (o : Option Node) (names x : Names) → where_there o names ≡ Ok x → IsThere o × (names ≡ x)
there_where None names x e = absurd cc
there_where (Some node) names x e = ((λ none. cc), cc)

standing_there : (t : Tree) (path : List ℕ) (x : Names) → standing t path ≡ Ok x → IsThere (look t x)
unfolding standing
standing_there t path x e =
    let f = and_then_ok (place t path) (λ names. where_there (look t names) names) x e in
    let w = there_where (look t f.0) f.0 x f.2 in
    subst (λ (n : Names). IsThere (look t n)) w.1 w.0

followed_there : (most : ℕ) (t : Tree) (names x : Names) → IsThere (look t names) → followed most t names ≡ Ok x → IsThere (look t x)
unfolding followed
followed_there zero t names x there e = there_on_link t names x (look t names) (λ target. Err TooDeep) refl there (λ target is. absurd cc) e
followed_there (suc most) t names x there e =
    there_on_link t names x (look t names) (λ target. and_then (standing t target) (followed most t)) refl there
    (λ target is. let f = and_then_ok (standing t target) (followed most t) x is in followed_there most t f.0 x (standing_there t target f.0 f.1) f.2) e

there_fails : (o : Option Node) (x : Names) (fault : Fault) → IsThere o → where_there o x ≡ Err fault → ⊥
there_fails None x fault there e = there refl
there_fails (Some node) x fault there e = cc

nowhere_from : (t : Tree) (r : Result Names Fault) (fault : Fault) → ((x : Names) → r ≡ Ok x → IsThere (look t x)) → and_then r (λ names. where_there (look t names) names) ≡ Err fault
    → and_then r (λ names. where_no_folder (look t names) names) ≡ Err fault
nowhere_from t (Err f) fault there e = e
nowhere_from t (Ok x) fault there e = absurd (there_fails (look t x) x fault (there x refl) e)

some_there : (o : Option Node) (node : Node) → o ≡ Some node → IsThere o
some_there o node is = λ none. let wrong : Some node ≡ None = sym is ∙ none in cc

-- if what is at a path leads to nothing, nothing can be written
pub dangling : (t : Tree) (path : List ℕ) (names : Names) (node : Node) (fault : Fault) → place t path ≡ Ok names → look t names ≡ Some node → found t path ≡ Err fault → writable t path ≡ Err fault
unfolding writable leads
dangling t path names node fault is at e =
    let led : leads t path ≡ followed 16 t names = ap (λ (r : Result Names Fault). and_then r (followed 16 t)) is in
    ap (λ (r : Result Names Fault). and_then r (λ n. where_no_folder (look t n) n)) led
    ∙ nowhere_from t (followed 16 t names) fault (λ x to. followed_there 16 t names x (some_there (look t names) node at) to) (sym (found_at t path (followed 16 t names) led) ∙ e)

-- Folders that are made with those on their way.
use Rattle.std.proofs.Common.{◌≡◌, ◌⊎◌, ◌≤◌, ℕ, zero, suc, Bool, true, false, if◌then◌else◌, List, [], ◌∷◌, ◌++◌, length, refl, sym, ap, subst, ◌∙◌, ⊎_elim, inl, inr, arith, append-nil, append_assoc}
use Rattle.std.specs.Prelude.{Option, None, Some, Result, Ok, Err}
use Rattle.std_io.specs.declared.io.kind.ErrorKind.{ErrorKind}
use Rattle.std_io.specs.declared.io.kind.ErrorKind.TheVariants as kind
use Rattle.cacache_core.specs.{Errors.{fault_of}, declared.errors.Fault.{Fault, TheVariants.{NotFound, AlreadyExists}}, Paths.{Names, names_of}}
use Rattle.cacache_store.specs.declared.store.answer.Kind.{Kind}
use Rattle.cacache_disk.specs.{declared.node.Node.{Node, TheVariants.{Folder, File, Link}}, Tree.{Tree, look, put, AreProper}, LedTo.{and_then, or_fault, way_fault, through, place, free, leads, found, where_there, where_free, is_in_way}}
use Rattle.cacache_system.specs.declared.call.SystemCall.TheVariants as asks
use Rattle.cacache_system.specs.{declared.call.CallResult.{CallResult}, CallsOf.{over, standing, making, confirming, below, unmade, climb, is_absent, if_folder, after}, AnswersOf.{misses, refuses_memory}}
use Rattle.cacache_system.specs.declared.call.CallResult.TheVariants as says
use Rattle.cacache_system_model.specs.{Machine.{Machine, IsRefused, ChangesTree, ShowsEnd, ShowsNode, Describes}, Laws.{Leads}}
use Rattle.cacache_system_model.proofs.{Leading.{Claim, over_leads, call_leads}, Claims.{way_of, cases_of}, Steps.{Opening.{said_leads, of_some}, Slashes.{OneMore, Above, above}, Writing.{look_same}, Growing.{clear_at, way_at, way_more, WayOrGone, Grown, grown_more}, CopyFacts.{not_absent, fault_absent}}, Views.{leads_straight, found_at}, Fresh.{free_at_place}}

-- ---- what the system finds where a folder is to be

-- The way is missing, nothing is there, or a folder is.
pub data Spot (t : Tree) (path : List ℕ) (names : Names) : Type 0 where
  gone : way_fault t [] names ≡ Some NotFound → free t path ≡ Err NotFound → found t path ≡ Err NotFound → Spot t path names
  vacant : way_fault t [] names ≡ None → look t names ≡ None → free t path ≡ Ok names → found t path ≡ Err NotFound → Spot t path names
  a_folder : look t names ≡ Some Folder → free t path ≡ Err AlreadyExists → found t path ≡ Ok names → Spot t path names

pub place_so : (t : Tree) (path : List ℕ) (names : Names) (fault : Option Fault) → names_of path ≡ Ok names → way_fault t [] names ≡ fault → place t path ≡ or_fault fault names
unfolding place
place_so t path names fault named way =
    ap (λ (r : Result Names Fault). and_then r (λ n. or_fault (way_fault t [] n) n)) named ∙ ap (λ (o : Option Fault). or_fault o names) way

found_so : (t : Tree) (path : List ℕ) (r : Result Names Fault) → place t path ≡ r → ((names : Names) → r ≡ Ok names → is_in_way (look t names) ≡ false) → found t path ≡ and_then r (λ n. where_there (look t n) n)
found_so t path r is clear =
    found_at t path r (leads_straight t path (λ names at target link. let wrong : is_in_way (look t names) ≡ true = ap is_in_way link in let right : is_in_way (look t names) ≡ false = clear names (sym is ∙ at) in cc) ∙ is)

spot_at : (t : Tree) (path : List ℕ) (names : Names) (o : Option Node) → way_fault t [] names ≡ None → place t path ≡ Ok names → look t names ≡ o → is_in_way o ≡ false → Spot t path names
spot_at t path names None way placed is clear =
    vacant way is (free_at_place t path (Ok names) placed ∙ ap (λ (o : Option Node). where_free o names) is)
    (found_so t path (Ok names) placed (λ n same. let e : names ≡ n = cc in ap (λ (x : Names). is_in_way (look t x)) (sym e) ∙ ap is_in_way is) ∙ ap (λ (o : Option Node). where_there o names) is)
spot_at t path names (Some Folder) way placed is clear =
    a_folder is (free_at_place t path (Ok names) placed ∙ ap (λ (o : Option Node). where_free o names) is)
    (found_so t path (Ok names) placed (λ n same. let e : names ≡ n = cc in ap (λ (x : Names). is_in_way (look t x)) (sym e) ∙ ap is_in_way is) ∙ ap (λ (o : Option Node). where_there o names) is)
spot_at t path names (Some (File bytes)) way placed is clear = absurd cc
spot_at t path names (Some (Link target)) way placed is clear = absurd cc

spot : (t : Tree) (path : List ℕ) (names : Names) → names_of path ≡ Ok names → is_in_way (look t names) ≡ false → WayOrGone (way_fault t [] names) → Spot t path names
spot t path names named clear (inl way) = spot_at t path names (look t names) way (place_so t path names None named way) refl clear
spot t path names named clear (inr way) =
    let placed = place_so t path names (Some NotFound) named way in
    gone way (free_at_place t path (Err NotFound) placed) (found_so t path (Err NotFound) placed (λ n same. absurd cc))

-- ---- errors

pub never_absent : (why : ErrorKind) (fault : Fault) → fault_of why ≡ fault → (fault ≡ NotFound → ⊥) → is_absent why ≡ false
never_absent kind.NotFound fault is other = absurd (other (sym is))
never_absent _ fault is other = refl

-- ---- one folder

-- What follows when a folder is made: the way is missing, it was made, it was there already, or a call
-- failed.
pub record Levels (b : Bool) (t : Tree) (names : Names) (again : Bool) (path : List ℕ) (todo : List (List ℕ)) (P : Claim) : Type 0 where
  pub missing : (why : ErrorKind) (n : Machine) → way_fault t [] names ≡ Some NotFound → fault_of why ≡ NotFound → refuses_memory why ≡ false → n.tree ≡ t → Leads (way_of b) (unmade again why path todo) n P
  pub made : (n : Machine) → way_fault t [] names ≡ None → look t names ≡ None → n.tree ≡ put t names Folder → Leads (way_of b) (below todo) n P
  pub stood : (n : Machine) → look t names ≡ Some Folder → n.tree ≡ t → Leads (way_of b) (below todo) n P
  pub fails : (why : ErrorKind) (n : Machine) → b ≡ false → misses why ≡ false → n.tree ≡ t → P (says.Failed why) n

module _ (b : Bool) (t : Tree) (names : Names) (again : Bool) (path : List ℕ) (todo : List (List ℕ)) (P : Claim) (next : Levels b t names again path todo P) where
  confirm_shown : (why : ErrorKind) (said : CallResult) (n l : Machine) → n.tree ≡ t → look t names ≡ Some Folder → ShowsNode names n said l → Leads (way_of b) (after (confirming why path todo) said) l P
  confirm_shown why said n l tree stands (info, same, fits, stays) =
      let here : look n.tree names ≡ Some Folder = ap (λ (x : Tree). look x names) tree ∙ stands in
      let described = of_some (look n.tree names) Folder (λ x. Describes x (n.inodes names) info) here fits in
      said_leads b (confirming why path todo) said (says.Info info) l P same
      (subst (λ (k : Kind). Leads (way_of b) (if_folder k kind.AlreadyExists (below todo)) l P) (sym described.kind) (next.stood l stands (ap (λ (x : Machine). x.tree) stays ∙ tree)))

  confirm_absent : (why : ErrorKind) (said : CallResult) (n l : Machine) → n.tree ≡ t → ((l : Machine) → l.tree ≡ t → P (says.Failed why) l) → IsRefused NotFound n said l → Leads (way_of b) (after (confirming why path todo) said) l P
  confirm_absent why said n l tree holds (other, same, of, memory, stays) =
      said_leads b (confirming why path todo) said (says.Failed other) l P same
      (subst (λ (c : Bool). Leads (way_of b) (over (says.Failed (if c then why else other))) l P) (sym (fault_absent other of))
      (over_leads (way_of b) (says.Failed why) l P (holds l (ap (λ (x : Machine). x.tree) stays ∙ tree))))

  -- the system is asked what is there
  confirm_leads : (why : ErrorKind) (n : Machine) → n.tree ≡ t → ((said : CallResult) (l : Machine) → ShowsEnd (found t path) n said l → Leads (way_of b) (after (confirming why path todo) said) l P)
      → Leads (way_of b) (confirming why path todo) n P
  confirm_leads why n tree shown =
      call_leads (way_of b) (confirming why path todo) (asks.Stat path) n P refl (λ end never. absurd never) (λ said l happens.
      ⊎_elim
      (λ (most, all, well). shown said l (subst (λ (x : Tree). ShowsEnd (found x path) n said l) tree well))
      (λ (broke, other, same, fine, part, left).
      said_leads b (confirming why path todo) said (says.Failed other) l P same
      (subst (λ (c : Bool). Leads (way_of b) (over (says.Failed (if c then why else other))) l P) (sym (not_absent other fine))
      (over_leads (way_of b) (says.Failed other) l P (next.fails other l broke fine (ap (λ (x : Machine). x.tree) left ∙ tree)))))
      (cases_of b n (asks.Stat path) said l happens))

  confirm_broke : (why : ErrorKind) (n : Machine) → Spot t path names → n.tree ≡ t → ((l : Machine) → l.tree ≡ t → P (says.Failed why) l) → Leads (way_of b) (confirming why path todo) n P
  confirm_broke why n (gone way is at) tree holds =
      confirm_leads why n tree (λ said l shows. confirm_absent why said n l tree holds (subst (λ (r : Result Names Fault). ShowsEnd r n said l) at shows))
  confirm_broke why n (vacant way none is at) tree holds =
      confirm_leads why n tree (λ said l shows. confirm_absent why said n l tree holds (subst (λ (r : Result Names Fault). ShowsEnd r n said l) at shows))
  confirm_broke why n (a_folder stands is at) tree holds =
      confirm_leads why n tree (λ said l shows. confirm_shown why said n l tree stands (subst (λ (r : Result Names Fault). ShowsEnd r n said l) at shows))

  making_failed : (why : ErrorKind) (c : Bool) (said : CallResult) (l : Machine) → said ≡ says.Failed why → is_absent why ≡ c
      → Leads (way_of b) (if c then unmade again why path todo else confirming why path todo) l P → Leads (way_of b) (after (making again path todo) said) l P
  making_failed why c said l same is leads =
      said_leads b (making again path todo) said (says.Failed why) l P same
      (subst (λ (x : Bool). Leads (way_of b) (if x then unmade again why path todo else confirming why path todo) l P) (sym is) leads)

  made_spot : (s : Spot t path names) (said : CallResult) (n l : Machine) → n.tree ≡ t → ChangesTree (free t path) (λ x. put t x Folder) n said l → Leads (way_of b) (after (making again path todo) said) l P
  made_spot (gone way is at) said n l tree changes =
      let refused : IsRefused NotFound n said l = subst (λ (r : Result Names Fault). ChangesTree r (λ x. put t x Folder) n said l) is changes in
      making_failed refused.0 true said l refused.1 (fault_absent refused.0 refused.2)
      (next.missing refused.0 l way refused.2 refused.3 (ap (λ (x : Machine). x.tree) refused.4 ∙ tree))
  made_spot (vacant way none is at) said n l tree changes =
      let was = subst (λ (r : Result Names Fault). ChangesTree r (λ x. put t x Folder) n said l) is changes in
      said_leads b (making again path todo) said says.Done l P was.0 (next.made l way none was.1.0)
  made_spot (a_folder stands is at) said n l tree changes =
      let refused : IsRefused AlreadyExists n said l = subst (λ (r : Result Names Fault). ChangesTree r (λ x. put t x Folder) n said l) is changes in
      let here : l.tree ≡ t = ap (λ (x : Machine). x.tree) refused.4 ∙ tree in
      making_failed refused.0 false said l refused.1 (never_absent refused.0 AlreadyExists refused.2 (λ e. cc))
      (confirm_leads refused.0 l here (λ again k shows. confirm_shown refused.0 again l k here stands (subst (λ (r : Result Names Fault). ShowsEnd r l again k) at shows)))

  -- one folder is made
  level_leads : (n : Machine) → Spot t path names → n.tree ≡ t → Leads (way_of b) (making again path todo) n P
  level_leads n s tree =
      call_leads (way_of b) (making again path todo) (asks.MakeFolder path) n P refl (λ end never. absurd never) (λ said l happens.
      ⊎_elim
      (λ (most, all, well). made_spot s said n l tree (subst (λ (x : Tree). ChangesTree (free x path) (λ y. put x y Folder) n said l) tree well))
      (λ (broke, why, same, fine, part, left).
      let here : l.tree ≡ t = ap (λ (x : Machine). x.tree) left ∙ tree in
      making_failed why false said l same (not_absent why fine) (confirm_broke why l s here (λ k stays. next.fails why k broke fine stays)))
      (cases_of b n (asks.MakeFolder path) said l happens))

-- ---- names

-- the top, or a name in a folder
abbrev Snoc : Names → Type 0
Snoc names = (names ≡ []) ⊎ ((base : Names) × (name : List ℕ) × (names ≡ base ++ name ∷ []))

snoc_more : (first : List ℕ) (rest : Names) → Snoc rest → Snoc (first ∷ rest)
snoc_more first rest (inl same) = inr ([], first, ap (λ (n : Names). first ∷ n) same)
snoc_more first rest (inr (base, name, same)) = inr (first ∷ base, name, ap (λ (n : Names). first ∷ n) same)

snoc : (names : Names) → Snoc names
snoc [] = inl refl
snoc (first ∷ rest) = snoc_more first rest (snoc rest)

pub through_folder : (here : Option Node) (later : Option Fault) → through here later ≡ None → (here ≡ Some Folder) × (later ≡ None)
through_folder (Some Folder) later is = (refl, is)
through_folder here later is = absurd cc

-- a clear way ends in a folder
way_last : (t : Tree) (p base : Names) (name : List ℕ) → look t p ≡ Some Folder → way_fault t p (base ++ name ∷ []) ≡ None → look t (p ++ base) ≡ Some Folder
way_last t p [] name here way = ap (look t) (append-nil p) ∙ here
way_last t p (a ∷ []) name here way = (through_folder (look t (p ++ a ∷ [])) None way).0
way_last t p (a ∷ b ∷ base) name here way =
    let f = through_folder (look t (p ++ a ∷ [])) (way_fault t (p ++ a ∷ []) (b ∷ base ++ name ∷ [])) way in
    ap (look t) (sym (append_assoc p (a ∷ []) (b ∷ base))) ∙ way_last t (p ++ a ∷ []) (b ∷ base) name f.0 f.1

two_names : (t : Tree) (names : Names) → way_fault t [] names ≡ Some NotFound → 2 ≤ length names
two_names t (name ∷ next ∷ rest) way = omega arith
two_names t names way = absurd cc

-- ---- all folders of a path

-- paths that lead from one to another, each with the same names or one more
abbrev pub Chain : Names → List (List ℕ) → Names → Type 0
Chain base [] all = base ≡ all
Chain base (path ∷ todo) all = (next : Names) × (names_of path ≡ Ok next) × OneMore base next × Chain next todo all

chain_front : (base : Names) (todo : List (List ℕ)) (all : Names) → Chain base todo all → (rest : Names) × (all ≡ base ++ rest)
chain_front base [] all is = ([], sym is ∙ sym (append-nil base))
chain_front base (path ∷ todo) all (next, named, inl same, later) =
    let f = chain_front next todo all later in (f.0, f.1 ∙ ap (λ (n : Names). n ++ f.0) same)
chain_front base (path ∷ todo) all (next, named, inr (name, same), later) =
    let f = chain_front next todo all later in (name ∷ f.0, f.1 ∙ ap (λ (n : Names). n ++ f.0) same ∙ append_assoc base (name ∷ []) f.0)

-- what is claimed when the calls end, whether all folders are there or a call failed
pub record DirsEnd (b : Bool) (t : Tree) (all : Names) (P : Claim) : Type 0 where
  pub succeeds : (n : Machine) (new : Tree) (count : ℕ) → Grown t all count new → look new all ≡ Some Folder → n.tree ≡ new → P says.Done n
  pub breaks : (why : ErrorKind) (n : Machine) (new : Tree) (count : ℕ) → Grown t all count new → n.tree ≡ new → b ≡ false → misses why ≡ false → P (says.Failed why) n

module _ (b : Bool) (t : Tree) (all : Names) (P : Claim) (proper : AreProper all) (ends : DirsEnd b t all P) where
  down_made : (todo : List (List ℕ)) (base next : Names) (new : Tree) (count : ℕ) (l : Machine)
      → ((new : Tree) (count : ℕ) → Grown t all count new → look new next ≡ Some Folder → l.tree ≡ new → Leads (way_of b) (below todo) l P)
      → Grown t all count new → look new base ≡ Some Folder → OneMore base next → look new next ≡ None → ((rest : Names) × (all ≡ next ++ rest)) → l.tree ≡ put new next Folder → Leads (way_of b) (below todo) l P
  down_made todo base next new count l go grown stands (inl same) none cut tree =
      absurd (let here : look new next ≡ Some Folder = ap (look new) same ∙ stands in cc)
  down_made todo base next new count l go grown stands (inr (name, same)) none cut tree =
      let missing : look new (base ++ name ∷ []) ≡ None = ap (look new) (sym same) ∙ none in
      go (put new (base ++ name ∷ []) Folder) (suc count)
      (grown_more t new base cut.0 all name count grown proper (cut.1 ∙ ap (λ (x : Names). x ++ cut.0) same) stands missing)
      (ap (look (put new (base ++ name ∷ []) Folder)) same ∙ look_same new (base ++ name ∷ []) Folder) (tree ∙ ap (λ (x : Names). put new x Folder) same)

  -- a folder is there, and those below it are made
  down_leads : (todo : List (List ℕ)) (base : Names) (new : Tree) (count : ℕ) (n : Machine) → Grown t all count new → look new base ≡ Some Folder → Chain base todo all → n.tree ≡ new → Leads (way_of b) (below todo) n P
  down_leads [] base new count n grown stands is tree =
      over_leads (way_of b) says.Done n P (ends.succeeds n new count grown (ap (look new) (sym is) ∙ stands) tree)
  down_leads (path ∷ todo) base new count n grown stands (next, named, more, later) tree =
      let cut = chain_front next todo all later in
      let way : way_fault new [] next ≡ None = way_more new base next grown.rooted stands more in
      level_leads b new next true path todo P
      (record {
        missing = λ why l gone of memory tree. absurd cc;
        made = λ l way none tree. down_made todo base next new count l (λ new count grown here tree. down_leads todo next new count l grown here later tree) grown stands more none cut tree;
        stood = λ l here tree. down_leads todo next new count l grown here later tree;
        fails = λ why l broke fine tree. ends.breaks why l new count grown tree broke fine;
      })
      n (spot new path next named (clear_at new all next cut.0 grown.rooted grown.clear cut.1) (inl way)) tree

  up_made : (todo : List (List ℕ)) (names : Names) (l : Machine) → Grown t all 0 t → way_fault t [] names ≡ None → look t names ≡ None → ((rest : Names) × (all ≡ names ++ rest)) → Chain names todo all
      → l.tree ≡ put t names Folder → Snoc names → Leads (way_of b) (below todo) l P
  up_made todo names l grown way none cut later tree (inl same) =
      absurd (let top : look t names ≡ Some Folder = ap (look t) same ∙ grown.rooted.top in cc)
  up_made todo names l grown way none cut later tree (inr (base, name, same)) =
      let stands : look t base ≡ Some Folder = way_last t [] base name grown.rooted.top (ap (way_fault t []) (sym same) ∙ way) in
      down_made todo base names t 0 l (λ new count grown here tree. down_leads todo names new count l grown here later tree) grown stands (inr (name, same)) none cut tree

  up_level : (path : List ℕ) (todo : List (List ℕ)) (names : Names) (n : Machine) → Grown t all 0 t → names_of path ≡ Ok names → Chain names todo all → n.tree ≡ t
      → ((why : ErrorKind) (l : Machine) → Above path names → l.tree ≡ t → Leads (way_of b) (unmade false why path todo) l P) → Leads (way_of b) (making false path todo) n P
  up_level path todo names n grown named later tree climbs =
      let cut = chain_front names todo all later in
      level_leads b t names false path todo P
      (record {
        missing = λ why l gone of memory tree. climbs why l (above path names named (two_names t names gone)) tree;
        made = λ l way none tree. up_made todo names l grown way none cut later tree (snoc names);
        stood = λ l here tree. down_leads todo names t 0 l grown here later tree;
        fails = λ why l broke fine tree. ends.breaks why l t 0 grown tree broke fine;
      })
      n (spot t path names named (clear_at t all names cut.0 grown.rooted grown.clear cut.1) (way_at t all names cut.0 grown.clear cut.1)) tree

  -- a folder is made, after those above it that are missing
  pub up_leads : (fuel : ℕ) (path : List ℕ) (todo : List (List ℕ)) (names : Names) (n : Machine) → length path ≤ fuel → Grown t all 0 t → names_of path ≡ Ok names → Chain names todo all → n.tree ≡ t
      → Leads (way_of b) (making false path todo) n P
  up_leads zero path todo names n within grown named later tree =
      up_level path todo names n grown named later tree (λ why l up tree. absurd (let s = up.shorter in omega arith))
  up_leads (suc fuel) path todo names n within grown named later tree =
      up_level path todo names n grown named later tree (λ why l up tree.
      subst (λ (o : Option (List ℕ)). Leads (way_of b) (climb o why path todo) l P) (sym up.is)
      (up_leads fuel up.upper (path ∷ todo) up.front l (let s = up.shorter in omega arith) grown up.named (names, named, up.more, later) tree))

  stand_missing : (path : List ℕ) (n l : Machine) → Grown t all 0 t → names_of path ≡ Ok all → n.tree ≡ t → (said : CallResult) → IsRefused NotFound n said l → Leads (way_of b) (after (standing path) said) l P
  stand_missing path n l grown named tree said (why, same, of, memory, stays) =
      said_leads b (standing path) said (says.Failed why) l P same
      (subst (λ (c : Bool). Leads (way_of b) (if c then making false path [] else over (says.Failed why)) l P) (sym (fault_absent why of))
      (up_leads (length path) path [] all l (omega arith) grown named refl (ap (λ (x : Machine). x.tree) stays ∙ tree)))

  stand_shown : (path : List ℕ) (n l : Machine) → Grown t all 0 t → n.tree ≡ t → look t all ≡ Some Folder → (said : CallResult) → ShowsNode all n said l → Leads (way_of b) (after (standing path) said) l P
  stand_shown path n l grown tree stands said (info, same, fits, stays) =
      let described = of_some (look n.tree all) Folder (λ x. Describes x (n.inodes all) info) (ap (λ (x : Tree). look x all) tree ∙ stands) fits in
      said_leads b (standing path) said (says.Info info) l P same
      (subst (λ (k : Kind). Leads (way_of b) (if_folder k kind.AlreadyExists (over says.Done)) l P) (sym described.kind)
      (over_leads (way_of b) says.Done l P (ends.succeeds l t 0 grown stands (ap (λ (x : Machine). x.tree) stays ∙ tree))))

  stand_found : (path : List ℕ) (n : Machine) → Grown t all 0 t → names_of path ≡ Ok all → n.tree ≡ t → Spot t path all → (said : CallResult) (l : Machine) → ShowsEnd (found t path) n said l → Leads (way_of b) (after (standing path) said) l P
  stand_found path n grown named tree (gone way is at) said l shows = stand_missing path n l grown named tree said (subst (λ (r : Result Names Fault). ShowsEnd r n said l) at shows)
  stand_found path n grown named tree (vacant way none is at) said l shows = stand_missing path n l grown named tree said (subst (λ (r : Result Names Fault). ShowsEnd r n said l) at shows)
  stand_found path n grown named tree (a_folder stands is at) said l shows =
      stand_shown path n l grown tree stands said (subst (λ (r : Result Names Fault). ShowsEnd r n said l) at shows)

  -- the folder is asked for first
  pub stand_leads : (path : List ℕ) (n : Machine) → Grown t all 0 t → names_of path ≡ Ok all → n.tree ≡ t → Leads (way_of b) (standing path) n P
  stand_leads path n grown named tree =
      let here = spot t path all named (clear_at t all all [] grown.rooted grown.clear (sym (append-nil all))) (way_at t all all [] grown.clear (sym (append-nil all))) in
      call_leads (way_of b) (standing path) (asks.Stat path) n P refl (λ end never. absurd never) (λ said l happens.
      ⊎_elim
      (λ (most, all_moved, well). stand_found path n grown named tree here said l (subst (λ (x : Tree). ShowsEnd (found x path) n said l) tree well))
      (λ (broke, why, same, fine, part, left).
      said_leads b (standing path) said (says.Failed why) l P same
      (subst (λ (c : Bool). Leads (way_of b) (if c then making false path [] else over (says.Failed why)) l P) (sym (not_absent why fine))
      (over_leads (way_of b) (says.Failed why) l P (ends.breaks why l t 0 grown (ap (λ (x : Machine). x.tree) left ∙ tree) broke fine))))
      (cases_of b n (asks.Stat path) said l happens))

-- The target of a copy is apart from a file that is elsewhere.
use Rattle.std.proofs.{lemmas.Bool.{false_from_ne_true}, Common.{◌≡◌, ℕ, Bool, true, false, List, Option, None, Some, Ok, refl, sym, ap, subst, ◌∙◌}}
use Rattle.std.specs.Prelude.{Result, Err}
use Rattle.std_io.specs.declared.io.kind.ErrorKind.{ErrorKind}
use Rattle.cacache_core.specs.{declared.errors.Fault.{Fault}, Paths.{Names}}
use Rattle.cacache_disk.specs.{declared.{luck.Luck.TheVariants.{Plain, Fail, Take}, node.Node.{Node, TheVariants.{Folder, File, Link}}}, Tree.{Tree, look, kind_of, same_path}, LedTo.{place, standing, found, writable, free}}
use Rattle.cacache_disk.proofs.{Maps.{same_path-true}, FoundNodes.{place_ok}}
use Rattle.cacache_loss.specs.Fixing.{is_at}
use Rattle.cacache_system.specs.{declared.call.{FileInfo.{FileInfo}, CallResult.{CallResult}}, CallsOf.{is_link, is_absent, already_exists}}
use Rattle.cacache_system.specs.declared.call.SystemCall.TheVariants as asks
use Rattle.cacache_system.specs.declared.call.CallResult.TheVariants as says
use Rattle.cacache_system_model.specs.{Machine.{Machine, Describes, OpensIf, ShowsNode, ShowsEnd, SpellsEnd, with_empty}, Calls.{LeavesCreated, OccursSomehow}, callers.Opened.{Avoids, IsApart}}
use Rattle.cacache_system_model.proofs.{Fresh.{free_at_place, dangling}, Steps.{Opening.{of_some}, CopyFacts.{writable_found, Stands, no_way, nothing, a_folder_here, a_file_here, a_link_here, stands_so, not_absent}}, Views.{View, nowhere, a_folder, a_file, view}, callers.{OpenTemps.{free_so}, UnchangedCalls.{opens_number}}}

-- where different things are, names differ
names_differ : (t : Tree) (q names : Names) (a b : Option Node) → look t q ≡ a → look t names ≡ b → (a ≡ b → ⊥) → same_path q names ≡ false
names_differ t q names a b here there apart =
    false_from_ne_true (same_path q names) (λ e. apart (sym here ∙ ap (look t) (same_path-true q names e) ∙ there))

-- ---- the path of what a copy's target leads to

pub end_apart : (q : Names) (t : Tree) (to text : List ℕ) (names : Names) → IsApart q t to → found t to ≡ Ok names → place t text ≡ Ok names → Avoids q text
end_apart q t to text names apart is stands = ap (λ (r : Result Names Fault). is_at r q) (place_ok t text names stands) ∙ by (view t to)
  where
    by : View t to → same_path q names ≡ false
    by (nowhere fault e file) = let no : ◌≡◌ {A = Result Names Fault} (Err fault) (Ok names) = sym e ∙ is in absurd cc
    by (a_folder at led e here file) =
        let both : ◌≡◌ {A = Result Names Fault} (Ok at) (Ok names) = sym e ∙ is in
        let same : at ≡ names = cc in
        names_differ t q names (Some (File apart.bytes)) (Some Folder) apart.stands (ap (look t) (sym same) ∙ here) (λ e. cc)
    by (a_file at bytes led e here file) =
        let both : ◌≡◌ {A = Result Names Fault} (Ok at) (Ok names) = sym e ∙ is in
        let same : at ≡ names = cc in
        apart.leads names (writable_found t to names bytes is (ap (look t) (sym same) ∙ here))

spells_left : (r : Result Names Fault) (m n : Machine) (said : CallResult) → SpellsEnd r m said n → n ≡ m
spells_left (Ok names) m n said (text, is_said, spells, same) = same
spells_left (Err fault) m n said (why, is_said, of, memory, stays) = stays

pub spelled_left : (path : List ℕ) (m n : Machine) (said : CallResult) → OccursSomehow m (asks.RealPath path) said n → n ≡ m
spelled_left path m n said (Plain, h) = spells_left (found m.tree path) m n said h
spelled_left path m n said (Take most, h) = spells_left (found m.tree path) m n said h
spelled_left path m n said (Fail fault part, (why, is_said, of, missed, left)) = left

-- a path that was spelled
abbrev IsSpelled : Tree → List ℕ → List ℕ → Type 0
IsSpelled t path text = (names : Names) × (found t path ≡ Ok names) × (place t text ≡ Ok names)

spells_at : (path text : List ℕ) (r : Result Names Fault) (m n : Machine) → found m.tree path ≡ r → SpellsEnd r m (says.Bytes text) n → IsSpelled m.tree path text
spells_at path text (Ok names) m n is (other, is_said, spells, same) =
    let same_text : other ≡ text = cc in (names, is, subst (λ (x : List ℕ). place m.tree x ≡ Ok names) same_text spells.stands)
spells_at path text (Err fault) m n is (why, is_said, of, memory, stays) = let no : says.Bytes text ≡ says.Failed why = is_said in absurd cc

pub spelled : (path text : List ℕ) (m n : Machine) → OccursSomehow m (asks.RealPath path) (says.Bytes text) n → IsSpelled m.tree path text
spelled path text m n (Plain, h) = spells_at path text (found m.tree path) m n refl h
spelled path text m n (Take most, h) = spells_at path text (found m.tree path) m n refl h
spelled path text m n (Fail fault part, (why, is_said, of, missed, left)) = let no : says.Bytes text ≡ says.Failed why = is_said in absurd cc

-- ---- a link that leads to nothing

-- a link is at a path
abbrev pub IsLinkAt : Tree → List ℕ → Type 0
IsLinkAt t path = (names : Names) × (target : List ℕ) × (place t path ≡ Ok names) × (look t names ≡ Some (Link target))

no_link_shown : (t : Tree) (names : Names) (node : Node) (m n : Machine) (info : FileInfo) → look m.tree names ≡ Some node → is_link (kind_of node) ≡ false → is_link info.kind ≡ true
    → ShowsNode names m (says.Info info) n → ⊥
no_link_shown t names node m n info here none link (shown, is_said, describes, same) =
    let is : info ≡ shown = cc in
    let fits = of_some (look m.tree names) node (λ x. Describes x (m.inodes names) shown) here describes in
    let no : true ≡ false = sym link ∙ ap (λ (x : FileInfo). is_link x.kind) is ∙ ap is_link fits.kind ∙ none in cc

none_shown : (fault : Fault) (r : Result Names Fault) (m n : Machine) (info : FileInfo) → r ≡ Err fault → ShowsEnd r m (says.Info info) n → ⊥
none_shown fault r m n info is h =
    let (why, is_said, of, memory, stays) = subst (λ (x : Result Names Fault). ShowsEnd x m (says.Info info) n) is h in
    let no : says.Info info ≡ says.Failed why = is_said in cc

shown_at : (names : Names) (r : Result Names Fault) (m n : Machine) (info : FileInfo) → r ≡ Ok names → ShowsEnd r m (says.Info info) n → ShowsNode names m (says.Info info) n
shown_at names r m n info is h = subst (λ (x : Result Names Fault). ShowsEnd x m (says.Info info) n) is h

link_at : (path : List ℕ) (m n : Machine) (info : FileInfo) → Stands m.tree path → is_link info.kind ≡ true → ShowsEnd (standing m.tree path) m (says.Info info) n → IsLinkAt m.tree path
link_at path m n info (no_way fault at is to) link h = absurd (none_shown fault _ m n info is h)
link_at path m n info (nothing names at none is to) link h = absurd (none_shown _ _ m n info is h)
link_at path m n info (a_folder_here names here is leads to) link h = absurd (no_link_shown m.tree names Folder m n info here refl link (shown_at names _ m n info is h))
link_at path m n info (a_file_here names bytes at here is leads to) link h = absurd (no_link_shown m.tree names (File bytes) m n info here refl link (shown_at names _ m n info is h))
link_at path m n info (a_link_here names target at here is) link h = (names, target, at, here)

pub link_shown : (path : List ℕ) (m n : Machine) (info : FileInfo) → is_link info.kind ≡ true → OccursSomehow m (asks.StatLink path) (says.Info info) n → IsLinkAt m.tree path
link_shown path m n info link (Plain, h) = link_at path m n info (stands_so m.tree path (place m.tree path) refl) link h
link_shown path m n info link (Take most, h) = link_at path m n info (stands_so m.tree path (place m.tree path) refl) link h
link_shown path m n info link (Fail fault part, (why, is_said, of, missed, left)) = let no : says.Info info ≡ says.Failed why = is_said in absurd cc

-- nothing can be written through a path
abbrev pub IsBarred : Tree → List ℕ → Type 0
IsBarred t path = (fault : Fault) × (writable t path ≡ Err fault)

barred_at : (path : List ℕ) (why : ErrorKind) (r : Result Names Fault) (m n : Machine) → IsLinkAt m.tree path → found m.tree path ≡ r → ShowsEnd r m (says.Failed why) n → IsBarred m.tree path
barred_at path why (Ok names) m n link is (info, is_said, describes, same) = let no : says.Failed why ≡ says.Info info = is_said in absurd cc
barred_at path why (Err fault) m n (names, target, at, here) is h = (fault, dangling m.tree path names (Link target) fault at here is)

pub barred : (path : List ℕ) (why : ErrorKind) (m n : Machine) → IsLinkAt m.tree path → is_absent why ≡ true → OccursSomehow m (asks.Stat path) (says.Failed why) n → IsBarred m.tree path
barred path why m n link absent (Plain, h) = barred_at path why (found m.tree path) m n link refl h
barred path why m n link absent (Take most, h) = barred_at path why (found m.tree path) m n link refl h
barred path why m n link absent (Fail fault part, (other, is_said, of, missed, left)) =
    let same : why ≡ other = cc in
    let no : true ≡ false = sym absent ∙ ap is_absent same ∙ not_absent other missed in absurd cc

bars_open : (path : List ℕ) (m n : Machine) (number : ℕ) → IsBarred m.tree path → OpensIf (writable m.tree path) (with_empty m.tree) m (says.Opened number) n → ⊥
bars_open path m n number (fault, is) h =
    let g = opens_number (writable m.tree path) (with_empty m.tree) m n number h in
    let no : ◌≡◌ {A = Result Names Fault} (Ok g.0) (Err fault) = sym g.1 ∙ is in cc

pub never_opened : (path : List ℕ) (m n : Machine) (number : ℕ) → IsBarred m.tree path → OccursSomehow m (asks.OpenToAppend path) (says.Opened number) n → ⊥
never_opened path m n number bars (Plain, h) = bars_open path m n number bars h
never_opened path m n number bars (Take most, h) = bars_open path m n number bars h
never_opened path m n number bars (Fail fault part, (why, is_said, of, missed, left)) = let no : says.Opened number ≡ says.Failed why = is_said in cc

-- ---- a fresh file

fresh_at : (q : Names) (bytes : List ℕ) (path : List ℕ) (r : Result Names Fault) (new : Names → Tree) (m n : Machine) (number : ℕ) → look m.tree q ≡ Some (File bytes) → free m.tree path ≡ r
    → OpensIf r new m (says.Opened number) n → Avoids q path
fresh_at q bytes path (Ok names) new m n number here is h =
    let f = free_so m.tree (place m.tree path) names (sym (free_at_place m.tree path (place m.tree path) refl) ∙ is) in
    ap (λ (r : Result Names Fault). is_at r q) (place_ok m.tree path names f.0) ∙ names_differ m.tree q names (Some (File bytes)) None here f.1 (λ e. cc)
fresh_at q bytes path (Err fault) new m n number here is (why, is_said, of, memory, stays) = let no : says.Opened number ≡ says.Failed why = is_said in absurd cc

pub fresh_apart : (q : Names) (bytes : List ℕ) (path : List ℕ) (mode : ℕ) (m n : Machine) (number : ℕ) → look m.tree q ≡ Some (File bytes)
    → OccursSomehow m (asks.CreateNew path mode) (says.Opened number) n → Avoids q path
fresh_apart q bytes path mode m n number here (Plain, h) = fresh_at q bytes path (free m.tree path) _ m n number here refl h
fresh_apart q bytes path mode m n number here (Take most, h) = fresh_at q bytes path (free m.tree path) _ m n number here refl h
fresh_apart q bytes path mode m n number here (Fail fault part, (why, is_said, of, missed, left)) = let no : says.Opened number ≡ says.Failed why = is_said in absurd cc

created_left : (r : Result Names Fault) (new : Names → Tree) (m n : Machine) (why : ErrorKind) → OpensIf r new m (says.Failed why) n → n ≡ m
created_left (Ok names) new m n why (number, is_said, unused, became) = let no : says.Failed why ≡ says.Opened number = is_said in absurd cc
created_left (Err fault) new m n why (_, is_said, of, memory, stays) = stays

left_taken : (path : List ℕ) (why own : ErrorKind) (part : Option ℕ) (m n : Machine) → already_exists why ≡ true → why ≡ own → LeavesCreated (already_exists own) path part m n → n ≡ m
left_taken path why own part m n taken same left =
    subst (λ (c : Bool). LeavesCreated c path part m n) (ap already_exists (sym same) ∙ taken) left

-- nothing is made if something is there
pub not_made : (path : List ℕ) (mode : ℕ) (m n : Machine) (why : ErrorKind) → already_exists why ≡ true → OccursSomehow m (asks.CreateNew path mode) (says.Failed why) n → n ≡ m
not_made path mode m n why taken (Plain, h) = created_left (free m.tree path) _ m n why h
not_made path mode m n why taken (Take most, h) = created_left (free m.tree path) _ m n why h
not_made path mode m n why taken (Fail fault part, (own, is_said, of, missed, left)) =
    let same : why ≡ own = cc in left_taken path why own part m n taken same left

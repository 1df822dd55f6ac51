-- What a path leads to.
use Rattle.std.{proofs.Common.{◌≡◌, ℕ, zero, suc, List, refl, sym, ap, ◌∙◌}, specs.Prelude.{Option, None, Some, Result, Ok, Err}}
use Rattle.cacache_core.specs.{declared.errors.Fault.{Fault, TheVariants.{NotFound, TooDeep}}, Paths.{Names}}
use Rattle.cacache_disk.specs.{declared.node.Node.{Node, TheVariants.{Folder, File, Link}}, Tree.{Tree, look}, LedTo.{and_then, on_link, followed, standing, leads, found, file_at, folder, place, bytes_there, where_there, where_folder}}

-- no link is there
abbrev pub NoLink : Option Node → Type 0
NoLink here = (target : List ℕ) → here ≡ Some (Link target) → ⊥

no_link_here : (t : Tree) (names n : Names) (o : Option Node) → look t names ≡ o → (go : List ℕ → Result Names Fault)
    → ((target : List ℕ) → go target ≡ Ok n → NoLink (look t n)) → on_link o names go ≡ Ok n → NoLink (look t n)
no_link_here t names n None is go next e target at = let same : names ≡ n = cc in let none : look t n ≡ None = ap (look t) (sym same) ∙ is in cc
no_link_here t names n (Some Folder) is go next e target at = let same : names ≡ n = cc in let here : look t n ≡ Some Folder = ap (look t) (sym same) ∙ is in cc
no_link_here t names n (Some (File bytes)) is go next e target at = let same : names ≡ n = cc in let here : look t n ≡ Some (File bytes) = ap (look t) (sym same) ∙ is in cc
no_link_here t names n (Some (Link to)) is go next e target at = next to e target at

go_on : (t : Tree) (r : Result Names Fault) (most : ℕ) (n : Names) → ((names : Names) → followed most t names ≡ Ok n → NoLink (look t n)) → and_then r (followed most t) ≡ Ok n → NoLink (look t n)
go_on t (Ok names) most n next e = next names e
go_on t (Err fault) most n next e = absurd cc

followed_no_link : (most : ℕ) (t : Tree) (names n : Names) → followed most t names ≡ Ok n → NoLink (look t n)
unfolding followed
followed_no_link zero t names n e = no_link_here t names n (look t names) refl (λ target. Err TooDeep) (λ target is. absurd cc) e
followed_no_link (suc most) t names n e =
    no_link_here t names n (look t names) refl (λ target. and_then (standing t target) (followed most t))
    (λ target is. go_on t (standing t target) most n (λ names e. followed_no_link most t names n e) is) e

-- where a path leads there is no link
pub leads_no_link : (t : Tree) (path : List ℕ) (n : Names) → leads t path ≡ Ok n → NoLink (look t n)
unfolding leads
leads_no_link t path n e = go_on t (place t path) 16 n (λ names e. followed_no_link 16 t names n e) e

-- A path leads nowhere, to a folder or to a file.
pub data View (t : Tree) (path : List ℕ) : Type 0 where
  nowhere : (fault : Fault) → found t path ≡ Err fault → ((what : Fault) → file_at t path what ≡ Err fault) → View t path
  a_folder : (names : Names) → leads t path ≡ Ok names → found t path ≡ Ok names → look t names ≡ Some Folder → ((what : Fault) → file_at t path what ≡ Err what) → View t path
  a_file : (names : Names) (bytes : List ℕ) → leads t path ≡ Ok names → found t path ≡ Ok names → look t names ≡ Some (File bytes) → ((what : Fault) → file_at t path what ≡ Ok bytes) → View t path

pub found_at : (t : Tree) (path : List ℕ) (r : Result Names Fault) → leads t path ≡ r → found t path ≡ and_then r (λ names. where_there (look t names) names)
unfolding found
found_at t path r is = ap (λ (x : Result Names Fault). and_then x (λ names. where_there (look t names) names)) is

pub file_from : (t : Tree) (path : List ℕ) (what : Fault) (r : Result Names Fault) → leads t path ≡ r → file_at t path what ≡ and_then r (λ names. bytes_there what (look t names))
unfolding file_at
file_from t path what r is = ap (λ (x : Result Names Fault). and_then x (λ names. bytes_there what (look t names))) is

view_at : (t : Tree) (path : List ℕ) (names : Names) (o : Option Node) → leads t path ≡ Ok names → look t names ≡ o → View t path
view_at t path names None is at =
    nowhere NotFound (found_at t path (Ok names) is ∙ ap (λ (o : Option Node). where_there o names) at)
    (λ what. file_from t path what (Ok names) is ∙ ap (bytes_there what) at)
view_at t path names (Some Folder) is at =
    a_folder names is (found_at t path (Ok names) is ∙ ap (λ (o : Option Node). where_there o names) at) at
    (λ what. file_from t path what (Ok names) is ∙ ap (bytes_there what) at)
view_at t path names (Some (File bytes)) is at =
    a_file names bytes is (found_at t path (Ok names) is ∙ ap (λ (o : Option Node). where_there o names) at) at
    (λ what. file_from t path what (Ok names) is ∙ ap (bytes_there what) at)
view_at t path names (Some (Link target)) is at = absurd (leads_no_link t path names is target at)

view_of : (t : Tree) (path : List ℕ) (r : Result Names Fault) → leads t path ≡ r → View t path
view_of t path (Ok names) is = view_at t path names (look t names) is refl
view_of t path (Err fault) is = nowhere fault (found_at t path (Err fault) is) (λ what. file_from t path what (Err fault) is)

-- what a path leads to
pub view : (t : Tree) (path : List ℕ) → View t path
view t path = view_of t path (leads t path) refl

-- ---- folders

-- no link is at the last name of a path
abbrev pub NoLinkAt : Tree → List ℕ → Type 0
NoLinkAt t path = (names : Names) → place t path ≡ Ok names → NoLink (look t names)

followed_stays : (t : Tree) (names : Names) (o : Option Node) → look t names ≡ o → NoLink o → followed 16 t names ≡ Ok names
unfolding followed
followed_stays t names (Some (Link target)) is none = absurd (none target refl)
followed_stays t names other is none = ap (λ (o : Option Node). on_link o names (λ target. and_then (standing t target) (followed 15 t))) is

leads_place : (t : Tree) (path : List ℕ) (r : Result Names Fault) → place t path ≡ r → ((names : Names) → r ≡ Ok names → NoLink (look t names)) → leads t path ≡ r
unfolding leads
leads_place t path (Ok names) is none =
    ap (λ (r : Result Names Fault). and_then r (followed 16 t)) is ∙ followed_stays t names (look t names) refl (none names refl)
leads_place t path (Err fault) is none = ap (λ (r : Result Names Fault). and_then r (followed 16 t)) is

-- a path without a link at its end leads where it says
pub leads_straight : (t : Tree) (path : List ℕ) → NoLinkAt t path → leads t path ≡ place t path
leads_straight t path none = leads_place t path (place t path) refl none

folder_here : (t : Tree) (names : Names) (o : Option Node) → look t names ≡ o
    → where_folder (look t names) names ≡ and_then (where_there (look t names) names) (λ n. where_folder (look t n) n)
folder_here t names None is = rw is refl
folder_here t names (Some node) is = sym (ap (λ (o : Option Node). and_then (where_there o names) (λ n. where_folder (look t n) n)) is)

folder_for : (t : Tree) (r : Result Names Fault) → ((names : Names) → r ≡ Ok names → NoLink (look t names))
    → and_then r (λ names. where_folder (look t names) names) ≡ and_then (and_then r (λ names. where_there (look t names) names)) (λ names. where_folder (look t names) names)
folder_for t (Err fault) none = refl
folder_for t (Ok names) none = folder_here t names (look t names) refl

-- the folder that it names is the one that it leads to
pub folder_found : (t : Tree) (path : List ℕ) → NoLinkAt t path → folder t path ≡ and_then (found t path) (λ names. where_folder (look t names) names)
unfolding folder
folder_found t path none =
    folder_for t (place t path) none
    ∙ ap (λ (r : Result Names Fault). and_then r (λ names. where_folder (look t names) names)) (sym (found_at t path (place t path) (leads_straight t path none)))

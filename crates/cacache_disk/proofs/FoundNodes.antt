-- What is known of a path at which a step found what it wanted.
use Rattle.std.proofs.{lemmas.Grind.{common_steps}, Common.{arith, ◌≡◌, ◌==◌, length, ℕ, Bool, true, false, cond, List, [], Option, None, Some, Ok, Err, ap, subst, ◌∙◌}}
use Rattle.std.specs.Prelude.{Result}
use Rattle.cacache_core.specs.{declared.errors.Fault.{Fault, TheVariants.{NotEmpty}}, Paths.{names_of}}
use Rattle.cacache_disk.specs.{declared.node.Node.{Node, TheVariants.{Folder}}, Tree.{Tree, Names, look, listing, is_folder}, LedTo.{and_then, or_fault, way_fault, dirs, dirs_fault, place, standing, where_there, where_free, where_no_folder, where_removable, where_folder, where_file, where_empty, free, replaceable, kept, removable, folder, emptied}}

pub and_then_ok : {A B : Type 0} (r : Result A Fault) (next : A → Result B Fault) (b : B) → and_then r next ≡ Ok b
    → (a : A) × (r ≡ Ok a) × (next a ≡ Ok b)
and_then_ok r next b e = grind (arith, common_steps)

pub or_fault_none : (o : Option Fault) (a b : Names) → or_fault o a ≡ Ok b → (o ≡ None) × (a ≡ b)
or_fault_none o a b e = grind (arith, common_steps)

pub place_ok : (t : Tree) (path : List ℕ) (names : Names) → place t path ≡ Ok names → names_of path ≡ Ok names
unfolding place
place_ok t path names e =
    let f = and_then_ok (names_of path) (λ names. or_fault (way_fault t [] names) names) names e in
    f.1 ∙ ap Ok (or_fault_none (way_fault t [] f.0) f.0 names f.2).1

pub dirs_ok : (t : Tree) (path : List ℕ) (names : Names) → dirs t path ≡ Ok names → names_of path ≡ Ok names
unfolding dirs
dirs_ok t path names e =
    let f = and_then_ok (names_of path) (λ names. or_fault (dirs_fault t [] names) names) names e in
    f.1 ∙ ap Ok (or_fault_none (dirs_fault t [] f.0) f.0 names f.2).1

-- a path's names, judged by what is there
judged : (judge : Option Node → Names → Result Names Fault) (P : Option Node → Type 0)
    → ((here : Option Node) (old new : Names) → judge here old ≡ Ok new → P here × (old ≡ new))
    → (t : Tree) (path : List ℕ) (names : Names) → and_then (place t path) (λ names. judge (look t names) names) ≡ Ok names
    → (names_of path ≡ Ok names) × P (look t names) × (place t path ≡ Ok names)
judged judge P judges t path names e =
    let f = and_then_ok (place t path) (λ names. judge (look t names) names) names e in
    let g = judges (look t f.0) f.0 names f.2 in
    (place_ok t path f.0 f.1 ∙ ap Ok g.1, subst (λ n. P (look t n)) g.1 g.0, f.1 ∙ ap Ok g.1)

-- no folder is there
abbrev pub NoFolder : Option Node → Type 0
NoFolder here = is_folder here ≡ false

-- the path has these names, its folder is there, and no folder is at the path itself
abbrev pub HasNoFolder : Tree → List ℕ → Names → Type 0
HasNoFolder t path names = (names_of path ≡ Ok names) × NoFolder (look t names) × (place t path ≡ Ok names)

free_at : (here : Option Node) (old new : Names) → where_free here old ≡ Ok new → NoFolder here × (old ≡ new)
free_at here old new e = grind (arith, common_steps)

pub no_folder_at : (here : Option Node) (old new : Names) → where_no_folder here old ≡ Ok new → NoFolder here × (old ≡ new)
no_folder_at here old new e = grind (arith, common_steps)

removable_at : (here : Option Node) (old new : Names) → where_removable here old ≡ Ok new → NoFolder here × (old ≡ new)
removable_at here old new e = grind (arith, common_steps)

file_at : (here : Option Node) (old new : Names) → where_file here old ≡ Ok new → NoFolder here × (old ≡ new)
file_at here old new e = grind (arith, common_steps)

folder_at : (here : Option Node) (old new : Names) → where_folder here old ≡ Ok new → (here ≡ Some Folder) × (old ≡ new)
folder_at here old new e = grind (arith, common_steps)

pub free_ok : (t : Tree) (path : List ℕ) (names : Names) → free t path ≡ Ok names → HasNoFolder t path names
unfolding free
free_ok = judged where_free NoFolder free_at

missing_at : (here : Option Node) (old new : Names) → where_free here old ≡ Ok new → (here ≡ None) × (old ≡ new)
missing_at here old new e = grind (arith, common_steps)

pub free_none : (t : Tree) (path : List ℕ) (names : Names) → free t path ≡ Ok names → look t names ≡ None
unfolding free
free_none t path names e = (judged where_free (λ here. here ≡ None) missing_at t path names e).1

pub replaceable_ok : (t : Tree) (path : List ℕ) (names : Names) → replaceable t path ≡ Ok names → HasNoFolder t path names
unfolding replaceable
replaceable_ok = judged where_no_folder NoFolder no_folder_at

pub kept_ok : (t : Tree) (path : List ℕ) (names : Names) → kept t path ≡ Ok names → (names_of path ≡ Ok names) × NoFolder (look t names)
unfolding kept
kept_ok t path names e =
    let f = and_then_ok (names_of path) (λ names. where_file (look t names) names) names e in
    let g = file_at (look t f.0) f.0 names f.2 in
    (f.1 ∙ ap Ok g.1, subst (λ n. NoFolder (look t n)) g.1 g.0)

pub removable_ok : (t : Tree) (path : List ℕ) (names : Names) → removable t path ≡ Ok names → HasNoFolder t path names
unfolding removable
removable_ok = judged where_removable NoFolder removable_at

empty_at : (old new : Names) (b c : Bool) → cond b (Err NotEmpty) (cond c (Ok old) (Err NotEmpty)) ≡ Ok new → (old ≡ new) × (b ≡ false) × (c ≡ true)
empty_at old new b c e = grind (arith, common_steps)

pub emptied_ok : (t : Tree) (path : List ℕ) (names : Names) → emptied t path ≡ Ok names
    → (names_of path ≡ Ok names) × (look t names ≡ Some Folder) × ((length names == 0) ≡ false) × ((length (listing t names) == 0) ≡ true)
unfolding emptied folder
emptied_ok t path names e =
    let f = and_then_ok (folder t path) (where_empty t) names e in
    let g = judged where_folder (λ here. here ≡ Some Folder) folder_at t path f.0 f.1 in
    let same = empty_at f.0 names (length f.0 == 0) (length (listing t f.0) == 0) f.2 in (
      g.0 ∙ ap Ok same.0,
      subst (λ n. look t n ≡ Some Folder) same.0 g.1,
      subst (λ (n : Names). (length n == 0) ≡ false) same.0 same.1,
      subst (λ (n : Names). (length (listing t n) == 0) ≡ true) same.0 same.2,
    )

pub there_at : (here : Option Node) (old new : Names) → where_there here old ≡ Ok new → old ≡ new
there_at here old new e = grind (arith, common_steps)

pub standing_ok : (t : Tree) (path : List ℕ) (names : Names) → standing t path ≡ Ok names → names_of path ≡ Ok names
unfolding standing
standing_ok t path names e = (judged where_there (λ here. Unit {0}) (λ here old new is. (tt, there_at here old new is)) t path names e).0

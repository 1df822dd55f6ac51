-- What is at each place of a list, what is asked of a path, and the folders on its way, one by one.
use Rattle.std.proofs.{Common.{◌≡◌, ◌<◌, ◌==◌, ℕ, zero, suc, Bool, true, false, if◌then◌else◌, List, [], ◌∷◌, ◌++◌, Option, Some, length, refl, sym, ap, arith, eqb-true, subst, ◌+◌, ◌-◌, ◌≤◌, take, drop}, lemmas.{Bool.{eqb-false}, List.{length-drop}}}
use Rattle.std.specs.Prelude.{slice_get, slice_set, None, Ok, Err}
use Rattle.cacache_core.specs.{Paths.{Names, names_of}, declared.errors.Fault.TheVariants.{NotFound}}
use Rattle.cacache_disk.specs.{declared.{stop.Stop.{Stop}, node.Node.{Node}}, Tree.{Tree, look}, LedTo.{through, way_fault, place, leads, found, standing}, Plans.{Stops, Blocks}}
use Rattle.cacache_disk.proofs.PathTexts.{drop_here, front_next}
use Rattle.cacache_system_model.specs.memory.Changes.{Shown, info_of}
use Rattle.cacache_disk.specs.declared.stop.Stop.TheVariants as stop

same_put : {X : Type 0} (xs : List X) (i : ℕ) (x : X) → i < length xs → slice_get (slice_set xs i x) i ≡ Some x
same_put [] i x below = absurd (omega (arith, below))
same_put (y ∷ xs) zero x below = refl
same_put (y ∷ xs) (suc i) x below = same_put xs i x (omega (arith, below))

other_put : {X : Type 0} (xs : List X) (i k : ℕ) (x : X) → (k ≡ i → ⊥) → slice_get (slice_set xs i x) k ≡ slice_get xs k
other_put [] i k x apart = refl
other_put (y ∷ xs) zero zero x apart = absurd (apart refl)
other_put (y ∷ xs) zero (suc k) x apart = refl
other_put (y ∷ xs) (suc i) zero x apart = refl
other_put (y ∷ xs) (suc i) (suc k) x apart = other_put xs i k x (λ e. apart (ap suc e))

same_end : {X : Type 0} (xs : List X) (x : X) → slice_get (xs ++ x ∷ []) (length xs) ≡ Some x
same_end [] x = refl
same_end (y ∷ xs) x = same_end xs x

other_end : {X : Type 0} (xs : List X) (k : ℕ) (x : X) → (k ≡ length xs → ⊥) → slice_get (xs ++ x ∷ []) k ≡ slice_get xs k
other_end [] zero x apart = absurd (apart refl)
other_end [] (suc k) x apart = refl
other_end (y ∷ xs) zero x apart = refl
other_end (y ∷ xs) (suc k) x apart = other_end xs k x (λ e. apart (ap suc e))

-- one thing at one number, and another elsewhere
chosen : {X : Type 0} (k i : ℕ) (b : Bool) (found one other : Option X) → (k == i) ≡ b → (k ≡ i → found ≡ one) → ((k ≡ i → ⊥) → found ≡ other)
    → found ≡ (if k == i then one else other)
chosen k i true found one other test same apart = rw test (same (eqb-true k i test))
chosen k i false found one other test same apart = rw test (apart (eqb-false k i test))

-- a list with another item at one index
pub at_put : {X : Type 0} (xs : List X) (i k : ℕ) (x : X) → i < length xs → slice_get (slice_set xs i x) k ≡ (if k == i then Some x else slice_get xs k)
at_put xs i k x below =
    chosen k i (k == i) (slice_get (slice_set xs i x) k) (Some x) (slice_get xs k) refl
    (λ e. subst (λ (n : ℕ). slice_get (slice_set xs i x) n ≡ Some x) (sym e) (same_put xs i x below)) (other_put xs i k x)

-- a list with one item more
pub at_end : {X : Type 0} (xs : List X) (k : ℕ) (x : X) → slice_get (xs ++ x ∷ []) k ≡ (if k == length xs then Some x else slice_get xs k)
at_end xs k x =
    chosen k (length xs) (k == length xs) (slice_get (xs ++ x ∷ []) k) (Some x) (slice_get xs k) refl
    (λ e. subst (λ (n : ℕ). slice_get (xs ++ x ∷ []) n ≡ Some x) (sym e) (same_end xs x)) (other_end xs k x)

-- ---- the folders on the way of a path, one by one

-- a text without names leads nowhere
pub place_bad : (t : Tree) (path : List ℕ) (why : Stop) → Stops why (names_of path) → Stops why (place t path)
unfolding place
place_bad t path (stop.Fault fault) e = rw e refl
place_bad t path stop.OutOfMemory e = tt

-- if the folders on the way let through, the path leads to its names
pub place_led : (t : Tree) (path : List ℕ) (names : Names) → names_of path ≡ Ok names → way_fault t [] names ≡ None → place t path ≡ Ok names
unfolding place
place_led t path names e way = rw (e, way) refl

-- and otherwise it leads nowhere
pub place_blocked : (t : Tree) (path : List ℕ) (names : Names) (why : Stop) → names_of path ≡ Ok names → Blocks why (way_fault t [] names) → Stops why (place t path)
unfolding place
place_blocked t path names (stop.Fault fault) e way = rw (e, way) refl
place_blocked t path names stop.OutOfMemory e way = tt

-- one folder more
pub way_next : (t : Tree) (names : Names) (i : ℕ) → i + 1 < length names
    → way_fault t (take i names) (drop i names) ≡ through (look t (take (i + 1) names)) (way_fault t (take (i + 1) names) (drop (i + 1) names))
way_next t names i h =
    let here : i < length names = omega (arith, h) in
    rw (drop_here names i [] here, drop_here names (i + 1) [] h, front_next names i [] here) refl

way_short : (t : Tree) (above rest : Names) → length rest ≤ 1 → way_fault t above rest ≡ None
way_short t above (name ∷ next ∷ rest) h = absurd (omega (arith, h))
way_short t above rest h = refl

-- after the last folder nothing is asked
pub way_over : (t : Tree) (names : Names) (i : ℕ) → length names ≤ i + 1 → way_fault t (take i names) (drop i names) ≡ None
way_over t names i h = way_short t (take i names) (drop i names) (let e : length (drop i names) ≡ length names - i = length-drop i names in omega (arith, h, e))

-- ---- what is asked of a path

pub found_there : (t : Tree) (path : List ℕ) (names : Names) (node : Node) → leads t path ≡ Ok names → Some node ≡ look t names → Shown (found t path) t (Ok (info_of node))
unfolding found
found_there t path names node led is = rw (led, ← is, ← is) refl

pub found_missing : (t : Tree) (path : List ℕ) (names : Names) → leads t path ≡ Ok names → None ≡ look t names → found t path ≡ Err NotFound
unfolding found
found_missing t path names led is = rw (led, ← is) refl

pub found_bad : (t : Tree) (path : List ℕ) (why : Stop) → Stops why (leads t path) → Stops why (found t path)
unfolding found
found_bad t path (stop.Fault fault) e = rw e refl
found_bad t path stop.OutOfMemory e = tt

pub standing_there : (t : Tree) (path : List ℕ) (names : Names) (node : Node) → place t path ≡ Ok names → Some node ≡ look t names → Shown (standing t path) t (Ok (info_of node))
unfolding standing
standing_there t path names node led is = rw (led, ← is, ← is) refl

pub standing_missing : (t : Tree) (path : List ℕ) (names : Names) → place t path ≡ Ok names → None ≡ look t names → standing t path ≡ Err NotFound
unfolding standing
standing_missing t path names led is = rw (led, ← is) refl

pub standing_bad : (t : Tree) (path : List ℕ) (why : Stop) → Stops why (place t path) → Stops why (standing t path)
unfolding standing
standing_bad t path (stop.Fault fault) e = rw e refl
standing_bad t path stop.OutOfMemory e = tt

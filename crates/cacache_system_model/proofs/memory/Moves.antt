-- Hard links and moves, which first look at their source.
use Rattle.std.{proofs.Common.{◌≡◌, ℕ, List, refl, sym, ap}, specs.Prelude.{⊤, Option, Some, Result, Ok, Err, MatchResult, IsOk}}
use Rattle.cacache_core.specs.{declared.errors.Fault.{Fault, TheVariants.{IsADirectory, Device}}, Paths.{Names}}
use Rattle.cacache_store.specs.declared.store.step.Step.TheVariants as steps
use Rattle.cacache_disk.specs.{declared.{node.Node.{Node, TheVariants.{File}}, stop.Stop.{Stop}}, Tree.{Tree, look, put, cut}, LedTo.{place, free, replaceable, kept, linked, linked_in}, Apply.{apply}, Plans.{Stops}}
use Rattle.cacache_disk.specs.declared.stop.Stop.TheVariants as stop
use Rattle.cacache_system_model.specs.{memory.Changes.{Does, Changed, Linked, Movable, IsUnmoved, Stopped, Unlinks}, Machine.{link_fault}}
use Rattle.cacache_system_model.proofs.memory.Occurring.{changes, place_parts}

-- ---- hard links

pub linked_is : (t : Tree) (path : List ℕ) (names : Names) (here : Option Node) → place t path ≡ Ok names → here ≡ look t names → linked t path ≡ linked_in here
unfolding linked
linked_is t path names here led is = rw (led, ← is) refl

pub linked_bad : (t : Tree) (path : List ℕ) (why : Stop) → Stops why (place t path) → Stops why (linked t path)
unfolding linked
linked_bad t path (stop.Fault fault) e = rw e refl
linked_bad t path stop.OutOfMemory e = tt

refused_link : (t : Tree) (to : List ℕ) (source : Result Node Fault)
    → MatchResult source (λ node. Changed (free t to) (λ names. put t names node) (Err stop.OutOfMemory) t t) (λ fault. Stopped (link_fault fault (free t to)) (Err stop.OutOfMemory) t t)
refused_link t to (Ok node) = refl
refused_link t to (Err fault) = refl

pub links_nothing : (t : Tree) (from to : List ℕ) → Linked t from to (Err stop.OutOfMemory) t
links_nothing t from to = refused_link t to (linked t from)

-- of a folder the new path is looked at
pub unlinks_folder : (ends : Result Names Fault) → IsOk ends → Unlinks ends (stop.Fault IsADirectory) (stop.Fault Device)
unlinks_folder (Ok names) ok = refl
unlinks_folder (Err fault) ok = absurd cc

pub unlinks_blocked : (ends : Result Names Fault) (why : Stop) → Stops why ends → Unlinks ends (stop.Fault IsADirectory) why
unlinks_blocked ends (stop.Fault fault) e = ap (link_fault IsADirectory) e
unlinks_blocked ends stop.OutOfMemory e = tt

pub unlinked : (t : Tree) (from to : List ℕ) (first why : Stop) → Stops first (linked t from) → Unlinks (free t to) first why → Linked t from to (Err why) t
unlinked t from to (stop.Fault fault) (stop.Fault why) e is = rw e (ap Err is, refl)
unlinked t from to (stop.Fault fault) stop.OutOfMemory e is = links_nothing t from to
unlinked t from to stop.OutOfMemory why e is = rw is (links_nothing t from to)

links_node : (t u : Tree) (from to : List ℕ) (done : Result ⊤ Stop) (source : Result Node Fault) → linked t from ≡ source → IsOk source → Does t (steps.HardLink from to) done u
    → MatchResult source (λ node. Changed (free t to) (λ names. put t names node) done t u) (λ fault. Stopped (link_fault fault (free t to)) done t u)
unfolding apply
links_node t u from to done (Ok node) is ok does = changes (free t to) (λ names. put t names node) t u (steps.HardLink from to) done (rw is refl) does
links_node t u from to done (Err fault) is ok does = absurd cc

pub links : (t u : Tree) (from to : List ℕ) (done : Result ⊤ Stop) → IsOk (linked t from) → Does t (steps.HardLink from to) done u → Linked t from to done u
links t u from to done ok does = links_node t u from to done (linked t from) refl ok does

-- a new path
pub free_bad : (t : Tree) (path : List ℕ) (why : Stop) → Stops why (place t path) → Stops why (free t path)
unfolding free
free_bad t path (stop.Fault fault) e = rw e refl
free_bad t path stop.OutOfMemory e = tt

-- ---- moves

kept_is : (t : Tree) (path : List ℕ) (names : Names) (bytes : List ℕ) → place t path ≡ Ok names → look t names ≡ Some (File bytes) → kept t path ≡ Ok names
unfolding kept
kept_is t path names bytes led is = rw ((place_parts t path names led).0, is) refl

pub moves_file : (t u : Tree) (from to : List ℕ) (bytes : List ℕ) (done : Result ⊤ Stop) (old : Names) → place t from ≡ Ok old → look t old ≡ Some (File bytes)
    → Does t (steps.Persist (record { path = from; bytes = Some bytes }) to) done u → Changed (replaceable t to) (λ new. put (cut t old) new (File bytes)) done t u
unfolding apply
moves_file t u from to bytes done old led is does =
    changes (replaceable t to) (λ new. put (cut t old) new (File bytes)) t u (steps.Persist (record { path = from; bytes = Some bytes }) to) done (rw (kept_is t from old bytes led is) refl) does

-- ---- a source that is looked at

pub movable_bad : (t : Tree) (path : List ℕ) (why : Stop) → Stops why (place t path) → Movable t path (Err why)
movable_bad t path (stop.Fault fault) e = rw e refl
movable_bad t path stop.OutOfMemory e = tt

pub movable_file : (t : Tree) (path : List ℕ) (names : Names) (bytes : List ℕ) → place t path ≡ Ok names → Some (File bytes) ≡ look t names → Movable t path (Ok bytes)
movable_file t path names bytes led is = rw led (sym is)

pub unmovable : (t : Tree) (path : List ℕ) (names : Names) (here : Option Node) (fault : Fault) → place t path ≡ Ok names → here ≡ look t names → IsUnmoved here fault
    → Movable t path (Err (stop.Fault fault))
unmovable t path names here fault led is e = rw (led, ← is) e

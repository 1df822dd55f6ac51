-- What removals and moves leave of a system in memory: its tree and its open files.
use Rattle.std.proofs.{lemmas.List.{map-append, map_more}, Common.{◌≡◌, ℕ, ◌+◌, ◌<◌, List, [], ◌∷◌, ◌++◌, map, take, length, get_or, refl, sym, ap, subst, ◌∙◌}}
use Rattle.std.specs.{Prelude.{⊤, Option, None, Some, Result, Ok, Err, MatchResult, IsOkAnd, IsErrAnd}, Bool.{nat_eq}, Ordering.{nat_cmp}, Cmp.Lexicographic.{pointwise, slice_cmp, lists_ties, texts_ties}}
use Rattle.cacache_core.specs.{declared.errors.Fault.{Fault}, Paths.{Names}}
use Rattle.cacache_store.specs.declared.store.step.Step.TheVariants as steps
use Rattle.cacache_disk.specs.{declared.{node.Node.{Node, TheVariants.{File, Link}}, stop.Stop.{Stop}}, Tree.{Tree, look, put, cut, same_path}, LedTo.{place, replaceable, removable, emptied, folder}, Plans.{Stops}}
use Rattle.cacache_disk.proofs.FoundNodes.{place_ok, removable_ok, emptied_ok, replaceable_ok}
use Rattle.cacache_disk.specs.declared.stop.Stop.TheVariants as stop
use Rattle.cacache_system_model.specs.{declared.memory.{files.OpenFile.{OpenFile}, state.Memory.{Memory}}, memory.{Changes.{Does, Changed, Movable, IsUnmoved}, Files.{place_of, open_of, left, ArePlaced, Displaces, MovesFile, MovesPath}}, Machine.{with_place}}
use Rattle.cacache_system_model.proofs.memory.Moves.{moves_file}
use Rattle.cacache_system_model.specs.Machine as model

-- two texts of names are compared name by name
pub same_names : (p q : Names) → pointwise (pointwise nat_eq) p q ≡ same_path p q
same_names p q = lists_ties (slice_cmp nat_cmp) texts_ties p q

-- a path that leads nowhere
pub removable_bad : (t : Tree) (path : List ℕ) (why : Stop) → Stops why (place t path) → Stops why (removable t path)
unfolding removable
removable_bad t path (stop.Fault fault) e = rw e refl
removable_bad t path stop.OutOfMemory e = tt

pub emptied_bad : (t : Tree) (path : List ℕ) (why : Stop) → Stops why (place t path) → Stops why (emptied t path)
unfolding emptied folder
emptied_bad t path (stop.Fault fault) e = rw e refl
emptied_bad t path stop.OutOfMemory e = tt

replaceable_bad : (t : Tree) (path : List ℕ) (why : Stop) → Stops why (place t path) → Stops why (replaceable t path)
unfolding replaceable
replaceable_bad t path (stop.Fault fault) e = rw e refl
replaceable_bad t path stop.OutOfMemory e = tt

pub stays : (ends : Result Names Fault) (tree : Names → Tree) (from : Option Names) (m : Memory) (why : Stop) → Stops why ends → Displaces ends tree from m (Err why) m
stays ends tree from m (stop.Fault fault) e = (e, (refl, refl))
stays ends tree from m stop.OutOfMemory e = (refl, refl)

pub refused : (ends : Result Names Fault) (tree : Names → Tree) (from : Option Names) (m n : Memory) (why : Stop) → Changed ends tree (Err why) m.disk n.disk → n.files.items ≡ m.files.items
    → Displaces ends tree from m (Err why) n
refused ends tree from m n (stop.Fault fault) (e, same) files = (e, (same, files))
refused ends tree from m n stop.OutOfMemory same files = (same, files)

pub done_at : (ends : Result Names Fault) (tree : Names → Tree) (from : Option Names) (names : Names) (m n : Memory) → ((found : Names) → ends ≡ Ok found → found ≡ names) → Changed ends tree (Ok tt) m.disk n.disk
    → ArePlaced (left from (look m.disk names) names m.marks) m.files.items n.files.items → Displaces ends tree from m (Ok tt) n
done_at (Ok found) tree from names m n same change placed =
    (change, subst (λ (x : Names). ArePlaced (left from (look m.disk x) x m.marks) m.files.items n.files.items) (sym (same found refl)) placed)
done_at (Err fault) tree from names m n same change placed = absurd change

one_place : (t : Tree) (path : List ℕ) (names found : Names) → place t path ≡ Ok names → ◌≡◌ {A = Result Names Fault} (Ok found) (Ok names) → found ≡ names
one_place t path names found led same = cc

pub removed_there : (t : Tree) (path : List ℕ) (names found : Names) → place t path ≡ Ok names → removable t path ≡ Ok found → found ≡ names
removed_there t path names found led e = one_place t path names found led (sym (removable_ok t path found e).0 ∙ place_ok t path names led)

pub emptied_there : (t : Tree) (path : List ℕ) (names found : Names) → place t path ≡ Ok names → emptied t path ≡ Ok found → found ≡ names
emptied_there t path names found led e = one_place t path names found led (sym (emptied_ok t path found e).0 ∙ place_ok t path names led)

replaced_there : (t : Tree) (path : List ℕ) (names found : Names) → place t path ≡ Ok names → replaceable t path ≡ Ok found → found ≡ names
replaced_there t path names found led e = one_place t path names found led (sym (replaceable_ok t path found e).0 ∙ place_ok t path names led)

-- ---- moves

moves_none : (old : Names) (here : Option Node) (ends : Result Names Fault) (m : Memory) → MovesFile old here ends m (Err stop.OutOfMemory) m
moves_none old (Some (File bytes)) ends m = (refl, refl)
moves_none old (Some (Link target)) ends m = (refl, refl)
moves_none old here ends m = tt

none_from : (to : List ℕ) (m : Memory) (r : Result Names Fault)
    → MatchResult r (λ old. MovesFile old (look m.disk old) (replaceable m.disk to) m (Err stop.OutOfMemory) m) (λ fault. Displaces (Err fault) (λ names. m.disk) None m (Err stop.OutOfMemory) m)
none_from to m (Ok old) = moves_none old (look m.disk old) (replaceable m.disk to) m
none_from to m (Err fault) = (refl, refl)

pub moves_nothing : (from to : List ℕ) (m : Memory) → MovesPath from to m (Err stop.OutOfMemory) m
moves_nothing from to m = none_from to m (place m.disk from)

unmoved_at : (old : Names) (here : Option Node) (ends : Result Names Fault) (fault : Fault) (m : Memory) → IsUnmoved here fault → MovesFile old here ends m (Err (stop.Fault fault)) m
unmoved_at old (Some (File bytes)) ends fault m e = absurd e
unmoved_at old (Some (Link target)) ends fault m e = (ap Err (sym e), (refl, refl))
unmoved_at old here ends fault m e = tt

unmoved_from : (to : List ℕ) (m : Memory) (fault : Fault) (r : Result Names Fault) → MatchResult r (λ names. IsUnmoved (look m.disk names) fault) (λ why. why ≡ fault)
    → MatchResult r (λ old. MovesFile old (look m.disk old) (replaceable m.disk to) m (Err (stop.Fault fault)) m) (λ why. Displaces (Err why) (λ names. m.disk) None m (Err (stop.Fault fault)) m)
unmoved_from to m fault (Ok old) e = unmoved_at old (look m.disk old) (replaceable m.disk to) fault m e
unmoved_from to m fault (Err why) e = (ap Err e, (refl, refl))

pub unmoved : (from to : List ℕ) (m : Memory) (why : Stop) → Movable m.disk from (Err why) → MovesPath from to m (Err why) m
unmoved from to m (stop.Fault fault) e = unmoved_from to m fault (place m.disk from) e
unmoved from to m stop.OutOfMemory e = moves_nothing from to m

-- a file that is moved from these names
module _ (from to : List ℕ) (bytes : List ℕ) (old : Names) (m : Memory) (led : place m.disk from ≡ Ok old) (movable : Movable m.disk from (Ok bytes)) where
  -- what the move comes to
  of_file : (n : Memory) (done : Result ⊤ Stop) → (look m.disk old ≡ Some (File bytes) → Displaces (replaceable m.disk to) (λ names. put (cut m.disk old) names (File bytes)) (Some old) m done n)
      → MovesPath from to m done n
  of_file n done moves =
      let here : look m.disk old ≡ Some (File bytes) = subst (λ (r : Result Names Fault). IsOkAnd r (λ names. look m.disk names ≡ Some (File bytes))) led movable in
      rw led (rw here (moves here))

  -- a new path that leads nowhere
  pub no_target : (why : Stop) → Stops why (place m.disk to) → MovesPath from to m (Err why) m
  no_target why e = of_file m (Err why) (λ here. stays (replaceable m.disk to) (λ names. put (cut m.disk old) names (File bytes)) (Some old) m why (replaceable_bad m.disk to why e))

  -- the step by which it is moved
  stepped : (u : Tree) (done : Result ⊤ Stop) → Does m.disk (steps.Persist (record { path = from; bytes = Some bytes }) to) done u → look m.disk old ≡ Some (File bytes)
      → Changed (replaceable m.disk to) (λ new. put (cut m.disk old) new (File bytes)) done m.disk u
  stepped u done does here = moves_file m.disk u from to bytes done old led here does

  pub not_put : (n : Memory) (why : Stop) → Does m.disk (steps.Persist (record { path = from; bytes = Some bytes }) to) (Err why) n.disk → n.files.items ≡ m.files.items → MovesPath from to m (Err why) n
  not_put n why does files =
      of_file n (Err why) (λ here. refused (replaceable m.disk to) (λ names. put (cut m.disk old) names (File bytes)) (Some old) m n why (stepped n.disk (Err why) does here) files)

  pub put_there : (names : Names) (n : Memory) → place m.disk to ≡ Ok names → Does m.disk (steps.Persist (record { path = from; bytes = Some bytes }) to) (Ok tt) n.disk
      → ArePlaced (left (Some old) (look m.disk names) names m.marks) m.files.items n.files.items → MovesPath from to m (Ok tt) n
  put_there names n at does placed =
      of_file n (Ok tt) (λ here.
      done_at (replaceable m.disk to) (λ new. put (cut m.disk old) new (File bytes)) (Some old) names m n (λ found e. replaced_there m.disk to names found at e) (stepped n.disk (Ok tt) does here) placed)

-- what holds of an error holds of what `?` returns
pub failed_as : {A : Type 0} (P : Result A Stop → Type 0) (r : Result A Stop) (why : Stop) → IsErrAnd r (λ x. x ≡ why) → P (Err why) → P r
failed_as P (Ok x) why same p = absurd same
failed_as P (Err x) why same p = subst (λ (y : Stop). P (Err y)) (sym same) p

-- ---- open files, one by one

-- one open file more is at its new place
pub one_more : (other : model.Place → model.Place) (files done : List OpenFile) (i : ℕ) (file new : OpenFile) → i < length files → file ≡ get_or files i file → place_of new.place ≡ other (place_of file.place)
    → new.read ≡ file.read → map open_of done ≡ map (λ file. with_place other (open_of file)) (take i files)
    → map open_of (done ++ new ∷ []) ≡ map (λ file. with_place other (open_of file)) (take (i + 1) files)
one_more other files done i file new below is placed read so_far =
    map-append open_of done (new ∷ []) ∙ ap (λ (xs : List model.OpenFile). xs ++ open_of new ∷ []) so_far
    ∙ ap (λ (x : model.OpenFile). map (λ file. with_place other (open_of file)) (take i files) ++ x ∷ []) same
    ∙ sym (map_more (λ file. with_place other (open_of file)) files i file below
    ∙ ap (λ (x : OpenFile). map (λ file. with_place other (open_of file)) (take i files) ++ with_place other (open_of x) ∷ []) (sym is))
  where
    same : open_of new ≡ with_place other (open_of file)
    same = ap (λ (p : model.Place). let x : model.OpenFile = record { place = p; read = new.read } in x) placed ∙ ap (λ (n : ℕ). let x : model.OpenFile = record { place = other (place_of file.place); read = n } in x) read

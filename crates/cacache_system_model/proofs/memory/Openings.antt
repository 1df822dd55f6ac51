-- What paths lead to when files are opened, copied and put, and what a read leaves of the open files.
use Rattle.std.proofs.{Common.{◌≡◌, ℕ, if◌then◌else◌, List, [], length, refl, false, sym, ap, subst, ◌∙◌}, Math.Seq.{take-length}}
use Rattle.std.specs.Prelude.{Some, IsSomeAnd, slice_get, slice_set, Option, None, Result, Ok, Err, IfSome}
use Rattle.cacache_system_model.specs.{declared.memory.{files.OpenFile.{OpenFile}, state.Memory.{Memory}}, memory.{Files.{HasRead, read_more, OpensIfRoom, Opens, Copied, IsFile}, Changes.{CanPut}}, Machine.{with_empty}, Calls.{brought}}
use Rattle.cacache_system_model.proofs.memory.Occurring.{free_is}
use Rattle.cacache_core.specs.{declared.errors.Fault.{Fault, TheVariants.{InvalidInput}}, Paths.{Names}}
use Rattle.cacache_disk.specs.{declared.{node.Node.{Node, TheVariants.{File}}, stop.Stop.{Stop}, luck.Luck.TheVariants.{Plain}}, Tree.{Tree, look, put, same_path, Rooted, AreProper, StandsIn, is_folder}, LedTo.{place, leads, bytes_there, file_at, found, free, writable, where_no_folder}, Plans.{Stops}, Apply.{apply}}
use Rattle.cacache_disk.proofs.{FoundNodes.{and_then_ok, no_folder_at}, KeptFolders.{steps_keep_rooted}, Roots.{CanStand, put_rooted}}
use Rattle.cacache_disk.specs.declared.stop.Stop.TheVariants as stop
use Rattle.cacache_store.specs.declared.store.step.Step.TheVariants as steps

pub gone_on : (number count : ℕ) (old new : Memory) (file : OpenFile) → slice_get old.files.items number ≡ Some file → new.disk ≡ old.disk
    → new.files.items ≡ slice_set old.files.items number (read_more count file) → IsSomeAnd (slice_get old.files.items number) (HasRead number count old new)
gone_on number count old new file there disk files = rw there (disk, files)

-- ---- what paths lead to when files are opened and copied

-- a path that leads nowhere
pub opens_bad : (ends : Result Names Fault) (tree : Names → Tree) (m : Memory) (why : Stop) → Stops why ends → Opens ends tree m (Err why) m
opens_bad ends tree m (stop.Fault fault) e = (e, (refl, refl))
opens_bad ends tree m stop.OutOfMemory e = (refl, refl)

-- a file at the names that a path leads to
opens_at : (ends : Result Names Fault) (tree : Names → Tree) (names : Names) (old new : Memory) (opened : Result ℕ Stop) → ends ≡ Ok names → OpensIfRoom names (tree names) old opened new → Opens ends tree old opened new
opens_at ends tree names old new (Ok number) is opens = rw is opens
opens_at ends tree names old new (Err (stop.Fault fault)) is opens = let e : stop.Fault fault ≡ stop.OutOfMemory = opens.0 in absurd cc
opens_at ends tree names old new (Err stop.OutOfMemory) is opens = opens.1

found_is : (t : Tree) (path : List ℕ) (names : Names) (node : Node) → leads t path ≡ Ok names → Some node ≡ look t names → found t path ≡ Ok names
unfolding found
found_is t path names node led is = rw (led, ← is) refl

pub opens_found : (path : List ℕ) (names : Names) (node : Node) (old new : Memory) (opened : Result ℕ Stop) → leads old.disk path ≡ Ok names → Some node ≡ look old.disk names
    → OpensIfRoom names old.disk old opened new → Opens (found old.disk path) (λ names. old.disk) old opened new
opens_found path names node old new opened led is opens = opens_at (found old.disk path) (λ names. old.disk) names old new opened (found_is old.disk path names node led is) opens

pub opens_free : (path : List ℕ) (names : Names) (old new : Memory) (opened : Result ℕ Stop) → place old.disk path ≡ Ok names → None ≡ look old.disk names
    → OpensIfRoom names (put old.disk names (File [])) old opened new → Opens (free old.disk path) (λ names. put old.disk names (File [])) old opened new
opens_free path names old new opened led missing opens =
    opens_at (free old.disk path) (λ names. put old.disk names (File [])) names old new opened (free_is old.disk path names led missing) opens

pub opens_there : (path : List ℕ) (names : Names) (node : Node) (old new : Memory) (opened : Result ℕ Stop) → writable old.disk path ≡ Ok names → Some node ≡ look old.disk names
    → OpensIfRoom names old.disk old opened new → Opens (writable old.disk path) (with_empty old.disk) old opened new
opens_there path names node old new opened led is opens = opens_at (writable old.disk path) (with_empty old.disk) names old new opened led (rw (← is) opens)

pub opens_missing : (path : List ℕ) (names : Names) (old new : Memory) (opened : Result ℕ Stop) → writable old.disk path ≡ Ok names → None ≡ look old.disk names
    → OpensIfRoom names (put old.disk names (File [])) old opened new → Opens (writable old.disk path) (with_empty old.disk) old opened new
opens_missing path names old new opened led missing opens = opens_at (writable old.disk path) (with_empty old.disk) names old new opened led (rw (← missing) opens)

-- ---- the source of a copy

pub file_bad : (t : Tree) (path : List ℕ) (folder : Fault) (why : Stop) → Stops why (leads t path) → Stops why (file_at t path folder)
unfolding file_at
file_bad t path folder (stop.Fault fault) e = rw e refl
file_bad t path folder stop.OutOfMemory e = tt

pub file_is : (t : Tree) (path : List ℕ) (folder : Fault) (names : Names) (here : Option Node) → leads t path ≡ Ok names → here ≡ look t names → file_at t path folder ≡ bytes_there folder here
unfolding file_at
file_is t path folder names here led is = rw (led, ← is) refl

pub copied_there : (from to : List ℕ) (source target : Names) (bytes next : List ℕ) (count : ℕ) (old new : Memory) → leads old.disk from ≡ Ok source → file_at old.disk from InvalidInput ≡ Ok bytes
    → writable old.disk to ≡ Ok target → next ≡ (if same_path source target then [] else bytes) → count ≡ length next → new.disk ≡ put old.disk target (File next) → new.files.items ≡ old.files.items
    → Copied (brought old.disk from to) (writable old.disk to) old (Ok count) new
copied_there from to source target bytes next count old new led there at is all disk files = rw (led, there, at, ← is) (all, disk, files)

-- ---- that files may be put where calls find them: each node is in a folder then

-- what is there stands in a folder
stands_there : (t : Tree) (names : Names) (node : Node) → Rooted t → look t names ≡ Some node → CanStand t names
stands_there t names node rooted is = record {
  parent = λ above name same. subst (λ (here : Option Node). StandsIn (look t above) here) (ap (look t) (sym same) ∙ is) (rooted.folders above name);
  proper = subst (λ (here : Option Node). IfSome here (λ node. AreProper names)) is (rooted.proper names);
}

-- a file in the place of what is no folder
over : (t : Tree) (names : Names) (node : Node) (bytes : List ℕ) → look t names ≡ Some node → is_folder (look t names) ≡ false → CanPut t names (File bytes)
over t names node bytes is old rooted = put_rooted t names (File bytes) rooted (stands_there t names node rooted is) old

-- a file in the place of another
put_over : (t : Tree) (names : Names) (old bytes : List ℕ) → look t names ≡ Some (File old) → CanPut t names (File bytes)
put_over t names old bytes is = over t names (File old) bytes is (ap is_folder is)

pub put_longer : (t : Tree) (names : Names) (bytes : List ℕ) → IsFile (look t names) → CanPut t names (File bytes)
put_longer t names bytes (old, is) = put_over t names old bytes is

-- an empty file where nothing is
pub put_free : (t : Tree) (path : List ℕ) (names : Names) → place t path ≡ Ok names → None ≡ look t names → CanPut t names (File [])
unfolding apply
put_free t path names led missing rooted =
    let is : free t path ≡ Ok names = free_is t path names led missing in
    let same : (apply t (steps.CreateTemp path) Plain).1 ≡ put t names (File []) = rw is refl in
    subst Rooted same (steps_keep_rooted t (steps.CreateTemp path) Plain rooted)

-- a file where a path leads, if no folder is there
written_at : (t : Tree) (path : List ℕ) (names : Names) (bytes : List ℕ) (here : Option Node) → look t names ≡ here → writable t path ≡ Ok names → is_folder (look t names) ≡ false
    → CanPut t names (File bytes)
unfolding apply
written_at t path names bytes None missing led old rooted =
    let same : (apply t (steps.Append path bytes) Plain).1 ≡ put t names (File bytes) = rw (led, missing, take-length bytes) refl in
    subst Rooted same (steps_keep_rooted t (steps.Append path bytes) Plain rooted)
written_at t path names bytes (Some node) is led old rooted = over t names node bytes is old rooted

pub put_written : (t : Tree) (path : List ℕ) (names : Names) (bytes : List ℕ) → writable t path ≡ Ok names → CanPut t names (File bytes)
unfolding writable
put_written t path names bytes led =
    let f = and_then_ok (leads t path) (λ names. where_no_folder (look t names) names) names led in
    let g = no_folder_at (look t f.0) f.0 names f.2 in
    written_at t path names bytes (look t names) refl led (subst (λ (n : Names). is_folder (look t n) ≡ false) g.1 g.0)

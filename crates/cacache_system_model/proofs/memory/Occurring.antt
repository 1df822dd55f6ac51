-- What the disk's table says about calls; what goes as the model says, or fails for want of memory, happens under some luck.
use Rattle.std.proofs.{Common.{◌≡◌, ℕ, false, List, refl, inl, inr, ◌∙◌, ◌<◌, ◌==◌, suc, [], ◌∷◌, ◌++◌, length, sym, ap, subst, append_assoc, arith}, lemmas.Bool.Decides.{nat_tests}}
use Rattle.std.specs.Prelude.{Option, None, Some, Result, Ok, Err, ⊤}
use Rattle.std_io.specs.declared.io.kind.ErrorKind.{ErrorKind}
use Rattle.cacache_core.specs.{declared.errors.Fault.{Fault, TheVariants.{Unsupported, Device, IsADirectory, AlreadyExists}}, Paths.{Names, names_of}}
use Rattle.cacache_disk.specs.{declared.{luck.Luck.TheVariants.{Plain, Fail}, node.Node.{Node, TheVariants.{Folder, Link}}, stop.Stop.{Stop}}, Tree.{Tree, look, put, cut, Rooted}, LedTo.{writable, free, way_fault, or_fault, dirs_fault, dirs, place, removable, emptied}, Apply.{unless, apply, fault_told, make_some}, Plans.{Stops}}
use Rattle.cacache_disk.proofs.FoundNodes.{and_then_ok, or_fault_none}
use Rattle.cacache_system.specs.{declared.call.SystemCall.{SystemCall}, CallsOf.{already_exists}}
use Rattle.cacache_system_model.specs.{Machine.{OpenFile, SyncedNode, Machine}, Calls.{brought, part_copied, part_opened, part_synced, did_nothing, PartWritten, LeavesPart}, memory.{Machines.{machine_of, GoesOccur, MovesOccur, WritesOccur, RefusalsOccur}, Changes.{Does, Changed}}}
use Rattle.cacache_system_model.proofs.Steps.Making.{through_folder}
use Rattle.cacache_store.specs.{Plain.{PlainStep, PlainAnswer}, declared.store.answer.Answer.TheVariants.{Done, Failed}}
use Rattle.std_io.specs.declared.io.kind.ErrorKind.TheVariants as kind
use Rattle.cacache_system.specs.declared.call.SystemCall.TheVariants as asks
use Rattle.cacache_store.specs.declared.store.step.Step.TheVariants as steps
use Rattle.cacache_disk.specs.declared.stop.Stop.TheVariants as stop

none_copied : (source : Result (List ℕ) Fault) (ends : Result Names Fault) (t : Tree) → t ≡ part_copied source ends None t
none_copied (Ok bytes) (Ok names) t = refl
none_copied (Ok bytes) (Err fault) t = refl
none_copied (Err fault) ends t = refl

none_opened : (ends : Result Names Fault) (t : Tree) → t ≡ part_opened ends None t
none_opened (Ok names) t = refl
none_opened (Err fault) t = refl

none_synced : (o : Option OpenFile) (syncs : List SyncedNode) → syncs ≡ part_synced o None syncs
none_synced None syncs = refl
none_synced (Some file) syncs = refl

-- a call for which memory is refused leaves all as it was
leaves : (m : Machine) (call : SystemCall) → LeavesPart m call kind.OutOfMemory None m
leaves m (asks.Write number bytes) = refl
leaves m (asks.CreateNew path mode) = (none_opened (free m.tree path) m.tree, refl, refl, λ k. refl)
leaves m (asks.OpenToAppend path) = (none_opened (writable m.tree path) m.tree, refl, refl, λ k. refl)
leaves m (asks.Sync number) = (refl, refl, none_synced (m.files number) m.synced, λ k. refl)
leaves m (asks.CopyFile from to) = (none_copied (brought m.tree from to) (writable m.tree to) m.tree, refl, refl, λ k. refl)
leaves m _ = refl

none_written : (o : Option OpenFile) (bytes : List ℕ) (m : Machine) → PartWritten o bytes None m m
none_written None bytes m = (refl, refl, refl, λ k. refl)
none_written (Some file) bytes m = (refl, refl, refl, λ k. refl)

-- a call that is refused for another reason may leave all as it was too
stays : (m : Machine) (call : SystemCall) (why : ErrorKind) → did_nothing why ≡ false → already_exists why ≡ false → LeavesPart m call why None m
stays m (asks.Write number bytes) why none new = rw none (none_written (m.files number) bytes m)
stays m (asks.CreateNew path mode) why none new = rw new (none_opened (free m.tree path) m.tree, refl, refl, λ k. refl)
stays m (asks.OpenToAppend path) why none new = (none_opened (writable m.tree path) m.tree, refl, refl, λ k. refl)
stays m (asks.Sync number) why none new = (refl, refl, none_synced (m.files number) m.synced, λ k. refl)
stays m (asks.CopyFile from to) why none new = (none_copied (brought m.tree from to) (writable m.tree to) m.tree, refl, refl, λ k. refl)
stays m _ why none new = refl

pub goes_occur : GoesOccur
goes_occur old new call said (inl well) = (Plain, well)
goes_occur old new call said (inr (is, same)) = (Fail Device None, (kind.OutOfMemory, is, refl, refl, rw same (leaves _ call)))

pub refusals_occur : RefusalsOccur
refusals_occur old new call said (is, same) = (Fail Unsupported None, (kind.Unsupported, is, refl, refl, rw same (stays _ call kind.Unsupported refl refl)))

pub moves_occur : MovesOccur
moves_occur old new from to said (inl goes) = goes_occur old new (asks.Rename from to) said goes
moves_occur old new from to said (inr refused) = refusals_occur old new (asks.Rename from to) said refused

pub writes_occur : WritesOccur
writes_occur old new number bytes said (inl goes) = goes_occur old new (asks.Write number bytes) said goes
writes_occur old new number bytes said (inr (none, (is, same))) =
    (Fail IsADirectory None, (kind.IsADirectory, is, refl, refl, rw same (stays (machine_of old) (asks.Write number bytes) kind.IsADirectory refl refl)))

-- ---- what the disk's table says about the steps that stand for calls

clash : (fault : Fault) → Some fault ≡ None → ⊥
clash fault e = cc

same_fault : (a b : PlainAnswer) (t u : Tree) → ◌≡◌ {A = PlainAnswer × Tree} (a, t) (b, u) → fault_told a ≡ fault_told b
same_fault a b t u e = ap (λ (r : PlainAnswer × Tree). fault_told r.0) e

same_tree : (a b : PlainAnswer) (t u : Tree) → ◌≡◌ {A = PlainAnswer × Tree} (a, t) (b, u) → t ≡ u
same_tree a b t u e = ap (λ (r : PlainAnswer × Tree). r.1) e

-- a step that changes the tree at what is found
pub changes : {A : Type 0} (ends : Result A Fault) (new : A → Tree) (t u : Tree) (step : PlainStep) (done : Result ⊤ Stop)
    → apply t step Plain ≡ unless ends t (λ found. (Done, new found)) → Does t step done u → Changed ends new done t u
changes (Ok found) new t u step (Ok done) is does = same_tree does.0 Done u (new found) (sym does.1 ∙ is)
changes (Ok found) new t u step (Err (stop.Fault fault)) is does = absurd (clash fault (same_fault (Failed fault) Done u (new found) (sym does ∙ is)))
changes (Err own) new t u step (Ok done) is does = absurd (clash own (sym (same_fault does.0 (Failed own) u t (sym does.1 ∙ is)) ∙ does.2))
changes (Err own) new t u step (Err (stop.Fault fault)) is does =
    let e : Some fault ≡ Some own = same_fault (Failed fault) (Failed own) u t (sym does ∙ is) in
    (cc, same_tree (Failed fault) (Failed own) u t (sym does ∙ is))
changes ends new t u step (Err stop.OutOfMemory) is does = does

pub removes_file : (t u : Tree) (path : List ℕ) (done : Result ⊤ Stop) → Does t (steps.RemoveFile path) done u → Changed (removable t path) (cut t) done t u
unfolding apply
removes_file t u path done does = changes (removable t path) (cut t) t u (steps.RemoveFile path) done refl does

pub removes_folder : (t u : Tree) (path : List ℕ) (done : Result ⊤ Stop) → Does t (steps.RemoveDir path) done u → Changed (emptied t path) (cut t) done t u
unfolding apply
removes_folder t u path done does = changes (emptied t path) (cut t) t u (steps.RemoveDir path) done refl does

pub makes_link : (t u : Tree) (target path : List ℕ) (done : Result ⊤ Stop) → Does t (steps.Symlink target path) done u
    → Changed (free t path) (λ names. put t names (Link target)) done t u
unfolding apply
makes_link t u target path done does = changes (free t path) (λ names. put t names (Link target)) t u (steps.Symlink target path) done refl does

-- ---- a folder

-- if nothing is at names and their folder is there, one folder is missing
make_last : (t : Tree) (above rest whole : Names) (most : ℕ) → above ++ rest ≡ whole → 0 < length rest → way_fault t above rest ≡ None → look t whole ≡ None
    → (dirs_fault t above rest ≡ None) × (make_some t above rest (suc most) ≡ put t whole Folder)
make_last t above [] whole most same some way missing = absurd (omega (arith, some))
make_last t above (name ∷ []) whole most same some way missing =
    let here : look t (above ++ name ∷ []) ≡ None = ap (look t) same ∙ missing in
    let more : (suc most == 0) ≡ false = grind (arith, nat_tests) in
    (rw here refl, rw (here, more, same) refl)
make_last t above (name ∷ next ∷ rest) whole most same some way missing =
    let on = through_folder (look t (above ++ name ∷ [])) (way_fault t (above ++ name ∷ []) (next ∷ rest)) way in
    let more = make_last t (above ++ name ∷ []) (next ∷ rest) whole most (append_assoc above (name ∷ []) (next ∷ rest) ∙ same) (omega arith) on.1 missing in
    (rw on.0 more.0, rw on.0 more.1)

-- the names of a path, if its folder is there
pub place_parts : (t : Tree) (path : List ℕ) (names : Names) → place t path ≡ Ok names → (names_of path ≡ Ok names) × (way_fault t [] names ≡ None)
unfolding place
place_parts t path names led =
    let f = and_then_ok (names_of path) (λ names. or_fault (way_fault t [] names) names) names led in
    let g = or_fault_none (way_fault t [] f.0) f.0 names f.2 in
    (f.1 ∙ ap Ok g.1, subst (λ names. way_fault t [] names ≡ None) g.1 g.0)

pub free_is : (t : Tree) (path : List ℕ) (names : Names) → place t path ≡ Ok names → None ≡ look t names → free t path ≡ Ok names
unfolding free
free_is t path names led missing = rw (led, ← missing) refl

pub makes_folder : (t u : Tree) (path : List ℕ) (names : Names) (done : Result ⊤ Stop) → Rooted t → place t path ≡ Ok names → None ≡ look t names
    → Does t (steps.MakeDirs path) done u → Changed (free t path) (λ names. put t names Folder) done t u
unfolding apply dirs
makes_folder t u path [] done rooted led missing does = let e : None ≡ Some Folder = missing ∙ rooted.top in absurd cc
makes_folder t u path (name ∷ names) done rooted led missing does =
    let parts = place_parts t path (name ∷ names) led in
    let made = make_last t [] (name ∷ names) (name ∷ names) (length names) refl (omega arith) parts.1 (sym missing) in
    rw (free_is t path (name ∷ names) led missing)
    (changes (Ok (name ∷ names)) (λ names. put t names Folder) t u (steps.MakeDirs path) done (rw (parts.0, made.0, made.1) refl) does)

-- if the path leads nowhere
pub makes_nothing : (t : Tree) (path : List ℕ) (why : Stop) → Stops why (place t path) → Changed (free t path) (λ names. put t names Folder) (Err why) t t
unfolding free
makes_nothing t path (stop.Fault fault) e = (rw e refl, refl)
makes_nothing t path stop.OutOfMemory e = refl

-- if something is there
pub makes_no_second : (t : Tree) (path : List ℕ) (names : Names) (node : Node) → place t path ≡ Ok names → Some node ≡ look t names → free t path ≡ Err AlreadyExists
unfolding free
makes_no_second t path names node led there = rw (led, ← there) refl

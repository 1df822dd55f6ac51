-- That what the calls do to the tree is what the model says.
use Rattle.std.proofs.{lemmas.{Grind.{common_steps}, Option.{slice_get-map}}, Common.{rules, arith, ◌≡◌, ◌∙◌, ℕ, Bool, true, false, List, option_map, slice_get, refl, sym, ap, inl, inr}}
use Rattle.std.specs.Prelude.{◌⊎◌, ⊤, Option, None, Some, Result, Ok, Err, IfSome, IsSomeAnd, MatchResult}
use Rattle.std_io.specs.declared.io.kind.ErrorKind.{ErrorKind}
use Rattle.std_io.specs.declared.io.kind.ErrorKind.TheVariants as kind
use Rattle.cacache_core.specs.{Errors.{fault_of}, declared.errors.Fault.{Fault, TheVariants.{Unsupported, ShortAppend, Closed, OtherBytes, Cancelled}}, Paths.{Names}}
use Rattle.cacache_disk.specs.{declared.{node.Node.{Node}, stop.Stop.{Stop}}, Tree.{Tree, look, put}, LedTo.{place, replaceable}}
use Rattle.cacache_disk.specs.declared.stop.Stop.TheVariants as stop
use Rattle.cacache_system.specs.{declared.call.{FileInfo.{FileInfo}, CallResult.{CallResult}}, AnswersOf.{refuses_memory}}
use Rattle.cacache_system.specs.declared.call.SystemCall.TheVariants as asks
use Rattle.cacache_system.specs.declared.call.CallResult.TheVariants as says
use Rattle.cacache_system_model.specs.{Machine.{Place, with_place, placed, link_fault, IsRefused, ChangesTree, ChangesPlaces, Describes, ShowsEnd, LinksNode, MovesNode}, Calls.{GoesWell}, declared.memory.{files.OpenFile.{OpenFile}, state.Memory.{Memory}}, memory.{Stopping.{kind_for, outcome}, Changes.{Changed, Stopped, Shown, info_of}, Files.{open_of, left, ArePlaced, IsSame, Displaces, MovesFile, MovesPath}, Machines.{machine, GivesUp}}}
use Rattle.cacache_system_model.proofs.Saying.{CanSay, Sayable, LinkSayable}
use Rattle.cacache_system_model.specs.Machine as model

-- ---- faults

-- no error says it
abbrev is_unsaid : Fault → Bool
is_unsaid ShortAppend = true
is_unsaid Closed = true
is_unsaid OtherBytes = true
is_unsaid Cancelled = true
is_unsaid fault = false

errors_say : (why : ErrorKind) → is_unsaid (fault_of why) ≡ false
errors_say why = grind (arith, common_steps)

kinds_say : (fault : Fault) → is_unsaid fault ≡ false → (fault_of (kind_for fault) ≡ fault) × (refuses_memory (kind_for fault) ≡ false)
kinds_say fault e = grind (arith, common_steps)

pub refused : (t u : Tree) (files : List OpenFile) (fault : Fault) (out : CallResult) → CanSay fault → out ≡ says.Failed (kind_for fault) → u ≡ t
    → IsRefused fault (machine t files) out (machine u files)
refused t u files fault out (why, can, memory) is same =
    let said = kinds_say fault (ap is_unsaid (sym can) ∙ errors_say why) in
    (kind_for fault, is, said.0, said.1, ap (λ t. machine t files) same)

gives_up : (t u : Tree) (files : List OpenFile) (why : ErrorKind) (out : CallResult) → out ≡ says.Failed why → u ≡ t → GivesUp why (machine t files) out (machine u files)
gives_up t u files why out is same = (is, ap (λ t. machine t files) same)

pub apart : {A : Type 0} (r : Result A Fault) (found : A) (fault : Fault) → r ≡ Ok found → r ≡ Err fault → ⊥
apart {A = A} r found fault x y = let e : ◌≡◌ {A = Result A Fault} (Ok found) (Err fault) = sym x ∙ y in absurd cc

pub same_fault : {A : Type 0} (r : Result A Fault) (one other : Fault) → r ≡ Err one → r ≡ Err other → other ≡ one
same_fault {A = A} r one other x y = let e : ◌≡◌ {A = Result A Fault} (Err one) (Err other) = sym x ∙ y in cc

-- ---- calls

pub goes_changed : (t u : Tree) (files : List OpenFile) (ends : Result Names Fault) (new : Names → Tree) (done : Result ⊤ Stop) (out : CallResult) → Sayable ends
    → out ≡ outcome (λ _. says.Done) done → Changed ends new done t u
    → ChangesTree ends new (machine t files) out (machine u files) ⊎ GivesUp kind.OutOfMemory (machine t files) out (machine u files)
goes_changed t u files ends new done out can is change = grind (arith, gives_up, apart, refused, same_fault)

pub goes_linked : (t u : Tree) (files : List OpenFile) (source : Result Node Fault) (ends : Result Names Fault) (done : Result ⊤ Stop) (out : CallResult) → LinkSayable source ends
    → Sayable ends → out ≡ outcome (λ _. says.Done) done
    → MatchResult source (λ node. Changed ends (λ names. put t names node) done t u) (λ fault. Stopped (link_fault fault ends) done t u)
    → LinksNode source ends (machine t files) out (machine u files) ⊎ GivesUp kind.OutOfMemory (machine t files) out (machine u files)
goes_linked t u files source ends done out first can is change = grind (arith, goes_changed)

-- ---- removals and moves

-- open files that are placed anew, as the model has them
pub placed_anew : (other : Place → Place) (t u : Tree) (old new : List OpenFile) → ArePlaced other old new → (machine u new).files ≡ placed other (machine t old).files
placed_anew other t u old new are = λ i. λ number. at number i
  where
    at : (number : ℕ) → option_map open_of (slice_get new number) ≡ option_map (with_place other) (option_map open_of (slice_get old number))
    at number =
        sym (slice_get-map open_of new number) ∙ ap (λ (files : List model.OpenFile). slice_get files number) are
        ∙ slice_get-map (λ file. with_place other (open_of file)) old number ∙ twice (slice_get old number)
      where
        twice : (o : Option OpenFile) → option_map (λ file. with_place other (open_of file)) o ≡ option_map (with_place other) (option_map open_of o)
        twice None = refl
        twice (Some file) = refl

-- the tree and the open files are the same
pub same_machine : (m n : Memory) → IsSame m n → machine n.disk n.files.items ≡ machine m.disk m.files.items
same_machine m n (disk, files) = ap (λ t. machine t n.files.items) disk ∙ ap (λ (files : List OpenFile). machine m.disk files) files

pub kept_so : (m n : Memory) (why : ErrorKind) (out : CallResult) → out ≡ says.Failed why → IsSame m n → GivesUp why (machine m.disk m.files.items) out (machine n.disk n.files.items)
kept_so m n why out is same = (is, same_machine m n same)

pub refused_so : (m n : Memory) (fault own : Fault) (out : CallResult) → CanSay own → out ≡ says.Failed (kind_for fault) → ◌≡◌ {A = Result Names Fault} (Err own) (Err fault) → IsSame m n
    → IsRefused own (machine m.disk m.files.items) out (machine n.disk n.files.items)
refused_so m n fault own out (why, can, memory) is same stays =
    let said = kinds_say own (ap is_unsaid (sym can) ∙ errors_say why) in
    (kind_for own, is ∙ ap (λ fault. says.Failed (kind_for fault)) (same_fault {A = Names} (Err own) own fault refl same), said.0, said.1, same_machine m n stays)

pub goes_displaced : (ends : Result Names Fault) (tree : Names → Tree) (from : Option Names) (m n : Memory) (done : Result ⊤ Stop) (out : CallResult) → Sayable ends
    → out ≡ outcome (λ _. says.Done) done → Displaces ends tree from m done n
    → ChangesPlaces ends tree (left from) (machine m.disk m.files.items) out (machine n.disk n.files.items) ⊎ GivesUp kind.OutOfMemory (machine m.disk m.files.items) out (machine n.disk n.files.items)
goes_displaced ends tree from m n (Err stop.OutOfMemory) out can is same = inr (kept_so m n kind.OutOfMemory out is same)
goes_displaced (Ok names) tree from m n (Ok done) out can is (disk, placed) =
    inl (m.marks, is, (disk, placed_anew (left from (look m.disk names) names m.marks) m.disk n.disk m.files.items n.files.items placed, refl, λ k. refl))
goes_displaced (Ok names) tree from m n (Err (stop.Fault fault)) out can is change = absurd (apart (Ok names) names fault refl change.0)
goes_displaced (Err own) tree from m n (Ok done) out can is change = absurd change
goes_displaced (Err own) tree from m n (Err (stop.Fault fault)) out can is (same, stays) = inl (refused_so m n fault own out can is same stays)

-- a link isn't moved
kept_link : (m n : Memory) (done : Result ⊤ Stop) (out : CallResult) → out ≡ outcome (λ _. says.Done) done → Displaces (Err Unsupported) (λ names. m.disk) None m done n
    → GivesUp kind.OutOfMemory (machine m.disk m.files.items) out (machine n.disk n.files.items) ⊎ GivesUp kind.Unsupported (machine m.disk m.files.items) out (machine n.disk n.files.items)
kept_link m n done out is change = grind (arith, kept_so, same_fault)

nested : {A B C : Type 0} → B ⊎ C → (A ⊎ B) ⊎ C
nested which = grind (arith, common_steps)

goes_from : (m n : Memory) (old : Names) (here : Option Node) (ends : Result Names Fault) (done : Result ⊤ Stop) (out : CallResult) → Sayable ends → out ≡ outcome (λ _. says.Done) done
    → MovesFile old here ends m done n
    → (MovesNode old here ends (machine m.disk m.files.items) out (machine n.disk n.files.items) ⊎ GivesUp kind.OutOfMemory (machine m.disk m.files.items) out (machine n.disk n.files.items))
    ⊎ GivesUp kind.Unsupported (machine m.disk m.files.items) out (machine n.disk n.files.items)
goes_from m n old here ends done out can is change = grind (arith, goes_displaced, nested, kept_link)

moved_from : (m n : Memory) (to : List ℕ) (from : Result Names Fault) (done : Result ⊤ Stop) (out : CallResult) → Sayable from → Sayable (replaceable m.disk to) → out ≡ outcome (λ _. says.Done) done
    → MatchResult from (λ old. MovesFile old (look m.disk old) (replaceable m.disk to) m done n) (λ fault. Displaces (Err fault) (λ names. m.disk) None m done n)
    → (MatchResult from (λ old. MovesNode old (look m.disk old) (replaceable m.disk to) (machine m.disk m.files.items) out (machine n.disk n.files.items))
    (λ fault. IsRefused fault (machine m.disk m.files.items) out (machine n.disk n.files.items))
    ⊎ GivesUp kind.OutOfMemory (machine m.disk m.files.items) out (machine n.disk n.files.items))
    ⊎ GivesUp kind.Unsupported (machine m.disk m.files.items) out (machine n.disk n.files.items)
moved_from m n to from done out first can is change = grind (arith, goes_from, goes_displaced)

pub goes_moved : (m n : Memory) (from to : List ℕ) (done : Result ⊤ Stop) (out : CallResult) → Sayable (place m.disk from) → Sayable (replaceable m.disk to) → out ≡ outcome (λ _. says.Done) done
    → MovesPath from to m done n
    → (GoesWell None (machine m.disk m.files.items) (asks.Rename from to) out (machine n.disk n.files.items) ⊎ GivesUp kind.OutOfMemory (machine m.disk m.files.items) out (machine n.disk n.files.items))
    ⊎ GivesUp kind.Unsupported (machine m.disk m.files.items) out (machine n.disk n.files.items)
goes_moved m n from to done out first can is change = moved_from m n to (place m.disk from) done out first can is change

pub described : (node : Node) → Describes node (0, 0) (info_of node)
described node = grind (arith, common_steps)

describes : (here : Option Node) (info : FileInfo) → IsSomeAnd here (λ node. info ≡ info_of node) → IfSome here (λ node. Describes node (0, 0) info)
describes here info is = grind (arith, described)

pub goes_shown : (t : Tree) (files : List OpenFile) (ends : Result Names Fault) (info : Result FileInfo Stop) (out : CallResult) → Sayable ends → out ≡ outcome says.Info info
    → Shown ends t info
    → ShowsEnd ends (machine t files) out (machine t files) ⊎ GivesUp kind.OutOfMemory (machine t files) out (machine t files)
goes_shown t files ends (Err stop.OutOfMemory) out can is shown = inr (is, refl)
goes_shown t files (Ok names) (Ok info) out can is shown = inl (info, is, describes (look t names) info shown, refl)
goes_shown t files (Ok names) (Err (stop.Fault fault)) out can is shown = absurd (apart (Ok names) names fault refl shown)
goes_shown t files (Err own) (Ok info) out can is shown = absurd shown
goes_shown t files (Err own) (Err (stop.Fault fault)) out can is shown = search (rules, refused, same_fault)

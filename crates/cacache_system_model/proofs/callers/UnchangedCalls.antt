-- Calls that change neither the tree nor open files, and what is open once a file was opened.
use Rattle.std.{proofs.Common.{rules, arith, ◌≡◌, ℕ, List, Option, Ok, refl, sym, ap, subst, ◌∙◌}, specs.Prelude.{Result, Err}}
use Rattle.std_io.specs.declared.io.kind.ErrorKind.{ErrorKind}
use Rattle.cacache_core.specs.{declared.errors.Fault.{Fault}, Paths.{Names}}
use Rattle.cacache_disk.specs.{Tree.{Tree, look}, LedTo.{standing, leads, found, place}}
use Rattle.cacache_system.specs.declared.call.{SystemCall.{SystemCall}, CallResult.{CallResult}}
use Rattle.cacache_system.specs.declared.call.SystemCall.TheVariants as asks
use Rattle.cacache_system.specs.declared.call.CallResult.TheVariants as says
use Rattle.cacache_system_model.specs.{Machine.{under, OpenFile, Machine, OpensIf, with_file, unread, ShowsEnd}, Calls.{GoesWell, LeavesPart, OccursSomehow}, StepLaws.{IsOpenAt}}
use Rattle.cacache_system_model.proofs.{Steps.Opening.{open_of}, Views.{View, nowhere, a_folder, a_file, view}, callers.OpenCalls.{place_at, node_keeps, CanRead, IsOpenNumber, IsNamed, Readable, Synced}}

-- ---- calls that change neither the tree nor the open files

abbrev pub Unchanged : Machine → Machine → Type 0
Unchanged m n = (n.tree ≡ m.tree) × (n.files ≡ m.files)

unchanged_self : (m n : Machine) → n ≡ m → Unchanged m n
unchanged_self m n same = (ap (λ (x : Machine). x.tree) same, ap (λ (x : Machine). x.files) same)

shown_left : (r : Result Names Fault) (m n : Machine) (said : CallResult) → ShowsEnd r m said n → n ≡ m
shown_left r m n said h = grind (arith, node_keeps)

pub look_left : (path : List ℕ) (m n : Machine) (said : CallResult) → OccursSomehow m (asks.Stat path) said n → n ≡ m
look_left path m n said holds = grind (arith, shown_left)

pub link_look_left : (path : List ℕ) (m n : Machine) (said : CallResult) → OccursSomehow m (asks.StatLink path) said n → n ≡ m
link_look_left path m n said holds = grind (arith, shown_left)

-- a call that readies a temporary file to replace another
abbrev pub Readies : Machine → SystemCall → Type 0
Readies m (asks.SetOwner number owner group) = IsOpenNumber m number
Readies m (asks.SetMode number mode) = IsOpenNumber m number
Readies m (asks.Sync number) = IsOpenNumber m number
Readies m call = ⊥

abbrev Moded : Machine → Machine → CallResult → OpenFile → Type 0
Moded m n said file = (said ≡ says.Done) × (n ≡ m)

mode_left : (m n : Machine) (said : CallResult) (file : OpenFile) → Moded m n said file → Unchanged m n
mode_left m n said file (is_said, same) = unchanged_self m n same

sync_left : (m n : Machine) (said : CallResult) (file : OpenFile) → Synced m n said file → Unchanged m n
sync_left m n said file (is_said, (tree, files, synced, folders)) = (tree, files)

ready_left : (most : Option ℕ) (call : SystemCall) (m n : Machine) (said : CallResult) → Readies m call → GoesWell most m call said n → Unchanged m n
ready_left most (asks.SetOwner number owner group) m n said (place, is) h =
    let g = open_of m n number place said (λ file said n. Moded m n said file) is h in mode_left m n said g.0 g.3
ready_left most (asks.SetMode number mode) m n said (place, is) h =
    let g = open_of m n number place said (λ file said n. Moded m n said file) is h in mode_left m n said g.0 g.3
ready_left most (asks.Sync number) m n said (place, is) h =
    let g = open_of m n number place said (λ file said n. Synced m n said file) is h in sync_left m n said g.0 g.3
ready_left most call m n said ready h = absurd ready

ready_failed : (call : SystemCall) (why : ErrorKind) (part : Option ℕ) (m n : Machine) → Readies m call → LeavesPart m call why part n → Unchanged m n
ready_failed call why part m n ready h = grind (arith, unchanged_self)

pub readied : (call : SystemCall) (m n : Machine) (said : CallResult) → Readies m call → OccursSomehow m call said n → Unchanged m n
readied call m n said ready holds = grind (arith, ready_left, ready_failed)

-- ---- files that are opened

found_reads : (t : Tree) (path : List ℕ) (names : Names) → found t path ≡ Ok names → CanRead (look t names)
found_reads t path names e = by (view t path)
  where
    by : View t path → CanRead (look t names)
    by (nowhere fault is file) = let no : Err fault ≡ Ok names = sym is ∙ e in absurd cc
    by (a_folder at leads is here file) = let same : Ok at ≡ Ok names = sym is ∙ e in let names_are : at ≡ names = cc in subst CanRead (sym (ap (look t) (sym names_are) ∙ here)) tt
    by (a_file at bytes leads is here file) = let same : Ok at ≡ Ok names = sym is ∙ e in let names_are : at ≡ names = cc in subst CanRead (sym (ap (look t) (sym names_are) ∙ here)) tt

here_opened : (m n : Machine) (number k : ℕ) (names : Names) → number ≡ k → n.files ≡ with_file m.files k (unread names) → IsOpenAt n number names
here_opened m n number k names same files = search (rules, place_at)

opens_ready : (r : Result Names Fault) (m n : Machine) (number : ℕ) → ((names : Names) → r ≡ Ok names → CanRead (look m.tree names)) → OpensIf r (λ names. m.tree) m (says.Opened number) n
    → Readable n number
opens_ready (Ok names) m n number can (k, is_said, none, (tree, files, synced, folders)) =
    let same : number ≡ k = cc in
    (under names, here_opened m n number k names same files, subst (λ (t : Tree). CanRead (look t names)) (sym tree) (can names refl))
opens_ready (Err fault) m n number can (why, is_said, of, memory, stays) = let no : says.Opened number ≡ says.Failed why = is_said in absurd cc

pub open_ready : (path : List ℕ) (m n : Machine) (number : ℕ) → OccursSomehow m (asks.OpenToRead path) (says.Opened number) n → Readable n number
open_ready path m n number holds = grind (arith, opens_ready, found_reads)

pub opens_number : (r : Result Names Fault) (new : Names → Tree) (m n : Machine) (number : ℕ) → OpensIf r new m (says.Opened number) n → (names : Names) × (r ≡ Ok names) × IsOpenAt n number names
opens_number (Ok names) new m n number (k, is_said, none, (tree, files, synced, folders)) =
    let same : number ≡ k = cc in (names, refl, here_opened m n number k names same files)
opens_number (Err fault) new m n number (why, is_said, of, memory, stays) = let no : says.Opened number ≡ says.Failed why = is_said in absurd cc

pub append_ready : (path : List ℕ) (m n : Machine) (number : ℕ) → OccursSomehow m (asks.OpenToAppend path) (says.Opened number) n → IsNamed n number
append_ready path m n number holds = grind (arith, opens_number)

-- What syncs fix.
use Rattle.std.proofs.Common.{◌≡◌, ◌&&◌, not, ℕ, Bool, true, false, cond, if◌then◌else◌, List, [], ◌∷◌, ◌++◌, refl, sym, ap, subst, ◌∙◌, ◌⊎◌, inl, inr}
use Rattle.std.specs.{Prelude.{Option, None, Some, Result, Ok, option_map}, Option.{unwrap_or}}
use Rattle.std_io.specs.declared.io.kind.ErrorKind.{ErrorKind}
use Rattle.std_io.specs.declared.io.kind.ErrorKind.TheVariants as kind
use Rattle.cacache_core.specs.{Errors.{fault_of}, declared.errors.Fault.{Fault}, Paths.{Names, names_of}}
use Rattle.cacache_store.specs.declared.store.answer.Kind.{Kind}
use Rattle.cacache_store.specs.declared.store.step.Step.TheVariants as steps
use Rattle.cacache_store.specs.declared.store.answer.Answer.TheVariants as answers
use Rattle.cacache_disk.specs.{declared.node.Node.{Node, TheVariants.{Folder, File, Link}}, Tree.{Tree, look, bytes_of, same_path}, LedTo.{found, leads}}
use Rattle.cacache_disk.proofs.{Maps.{same_path-true}, FoundNodes.{place_ok}}
use Rattle.cacache_loss.specs.Fixing.{Fixed, fixed_after, synced, is_at, is_child_of, is_synced, temp_synced, file_synced, folder_synced}
use Rattle.cacache_system.specs.{declared.call.{FileInfo.{FileInfo}, CallResult.{CallResult}}, CallsOf.{to_sync, to_sync_folder, only, if_folder, opened}, Seen.{NumberedTemp, NumberedStep}, AnswersOf.{Hint, first, answer_of, failed_with, refuses_memory, leaves_a_part}}
use Rattle.cacache_system.specs.declared.call.SystemCall.TheVariants as asks
use Rattle.cacache_system.specs.declared.call.CallResult.TheVariants as says
use Rattle.cacache_system_model.specs.{Machine.{Place, under, nameless, node_of, Machine, SyncedNode, with_sync, in_doubt, Describes}, Calls.{OccursSomehow}, Laws.{bytes_in, temp_on, step_on, answer_on, Leads}, StepLaws.{StillStands, EndsInNoLink}, Fixing.{with_synced, after_syncs, NoDoubt}}
use Rattle.cacache_system_model.proofs.{Claims.{way_of}, Steps.{Opening.{OpenedOn, Openings, opening_leads, file_under}, Looking.{link_there, refused_folder, wanted_file}, Syncing.{WasSynced, sync_leads, refused_other}}, Views.{nowhere, a_folder, a_file, view, leads_straight}}

-- a step fixes what its calls synced, and nothing else
abbrev pub FixesSynced : Machine → NumberedStep → CallResult → Machine → Type 0
FixesSynced m step end after =
    (nodes : List SyncedNode) × (after.synced ≡ nodes ++ m.synced)
    × ((fixed : Fixed) → fixed_after fixed m.tree after.tree (step_on m step) (answer_on after (answer_of step end)) ≡ after_syncs nodes fixed)

-- so does each run of its calls, whether or not some fail without cause
abbrev FixesAsTold : Machine → Hint → NumberedStep → Type 0
FixesAsTold m hint step = Leads OccursSomehow (first hint step) m (FixesSynced m step)

-- ---- a sync that failed

not_synced_so : (step : NumberedStep) (why : ErrorKind) (n : Machine) (c : Bool) → (refuses_memory why && not (leaves_a_part step)) ≡ c
    → is_synced (answer_on n (if c then answers.NoMemory step else answers.Failed (fault_of why))) ≡ false
not_synced_so step why n true is = refl
not_synced_so step why n false is = refl

not_synced : (step : NumberedStep) (why : ErrorKind) (n : Machine) → is_synced (answer_on n (failed_with step why)) ≡ false
not_synced step why n = not_synced_so step why n (refuses_memory why && not (leaves_a_part step)) refl

-- nothing was fixed between two machines
abbrev FixesNone : Machine → Machine → Type 0
FixesNone m n = (nodes : List SyncedNode) × (n.synced ≡ nodes ++ m.synced) × ((fixed : Fixed) → fixed ≡ after_syncs nodes fixed)

no_syncs : (m n : Machine) → n.synced ≡ m.synced → FixesNone m n
no_syncs m n same = ([], same, λ fixed. refl)

failed_syncs : (m n l : Machine) (place : Place) → n.synced ≡ m.synced → (l.synced ≡ n.synced) ⊎ (l.synced ≡ with_sync place None n.synced) → FixesNone m l
failed_syncs m n l place same (inl stays) = no_syncs m l (stays ∙ same)
failed_syncs m n l (nameless mark here) same (inr doubt) = no_syncs m l (doubt ∙ same)
failed_syncs m n l (under names) same (inr doubt) =
    ((names, None) ∷ [], doubt ∙ ap (λ (s : List SyncedNode). let r : List SyncedNode = (names, None) ∷ s in r) same, λ fixed. refl)

file_failed : (m n : Machine) (path : List ℕ) (why : ErrorKind) → FixesNone m n → FixesSynced m (steps.SyncFile path) (says.Failed why) n
file_failed m n path why (nodes, same, none) =
    (nodes, same, λ fixed. ap (λ (c : Bool). if c then file_synced fixed m.tree path else fixed) (not_synced (steps.SyncFile path) why n) ∙ none fixed)

folder_failed : (m n : Machine) (path : List ℕ) (why : ErrorKind) → FixesNone m n → FixesSynced m (steps.SyncDir path) (says.Failed why) n
folder_failed m n path why (nodes, same, none) =
    (nodes, same, λ fixed. ap (λ (c : Bool). if c then folder_synced fixed path else fixed) (not_synced (steps.SyncDir path) why n) ∙ none fixed)

-- ---- a file

leads_found : (t : Tree) (path : List ℕ) (names : Names) → found t path ≡ Ok names → leads t path ≡ Ok names
leads_found t path names is = elim (view t path) as (λ v. leads t path ≡ Ok names) [
  | nowhere f e file ↦ absurd cc
  | a_folder other l e stands file ↦ let same : other ≡ names = cc in l ∙ ap (λ (n : Names). let r : Result Names Fault = Ok n in r) same
  | a_file other more l e stands file ↦ let same : other ≡ names = cc in l ∙ ap (λ (n : Names). let r : Result Names Fault = Ok n in r) same
]

abbrev with_bytes : Fixed → (Names → Bool) → (Names → List ℕ) → Fixed
with_bytes fixed here bytes = record { files = λ q. if here q then synced (bytes q) else fixed.files q; names = fixed.names }

bytes_same : {A : Type 0} (of : List ℕ → A) (c : Bool) (x y : List ℕ) (old : A) → (c ≡ true → x ≡ y) → cond c (of x) old ≡ cond c (of y) old
bytes_same of true x y old same = ap of (same refl)
bytes_same of false x y old same = refl

same_bytes : (fixed : Fixed) (here : Names → Bool) (f g : Names → List ℕ) → ((q : Names) → here q ≡ true → f q ≡ g q) → with_bytes fixed here f ≡ with_bytes fixed here g
same_bytes fixed here f g same = λ i. record { files = λ q. bytes_same synced (here q) (f q) (g q) (fixed.files q) (same q) i; names = fixed.names }

file_fixed : (fixed : Fixed) (t : Tree) (path : List ℕ) (names : Names) (bytes : List ℕ) → leads t path ≡ Ok names → look t names ≡ Some (File bytes)
    → file_synced fixed t path ≡ with_synced names (Some (File bytes)) fixed
file_fixed fixed t path names bytes is stands =
    ap (λ (r : Result Names Fault). with_bytes fixed (is_at r) (λ q. bytes_of (look t q))) is
    ∙ same_bytes fixed (λ q. same_path q names) (λ q. bytes_of (look t q)) (λ q. bytes)
    (λ q same. ap (λ (n : Names). bytes_of (look t n)) (same_path-true q names same) ∙ ap bytes_of stands)

synced_more : (m n l : Machine) (names : Names) (node : Node) → WasSynced n l (under names) → n.synced ≡ m.synced → n.tree ≡ m.tree → look m.tree names ≡ Some node → NoDoubt m
    → l.synced ≡ (names, Some node) ∷ m.synced
synced_more m n l names node was same tree stands sure =
    was.synced
    ∙ ap (λ (c : Bool). let s : List SyncedNode = (names, if c then None else look n.tree names) ∷ n.synced in s) (ap in_doubt same ∙ sure)
    ∙ ap (λ (t : Tree). let s : List SyncedNode = (names, look t names) ∷ n.synced in s) tree
    ∙ ap (λ (o : Option Node). let s : List SyncedNode = (names, o) ∷ n.synced in s) stands
    ∙ ap (λ (s : List SyncedNode). let r : List SyncedNode = (names, Some node) ∷ s in r) same

module _ (m : Machine) (path : List ℕ) (sure : NoDoubt m) where
  file_opens : (number : ℕ) (names : Names) (node : Node) (info : FileInfo) (n : Machine) (inode : ℕ × ℕ) → found m.tree path ≡ Ok names → look m.tree names ≡ Some node
      → OpenedOn m n number names → Describes node inode info → Leads (way_of false) (opened to_sync number info) n (FixesSynced m (steps.SyncFile path))
  file_opens number names Folder info n inode is stands open_on described =
      refused_folder false info.kind (only (asks.Sync number)) n (FixesSynced m (steps.SyncFile path)) described.kind (file_failed m n path kind.IsADirectory (no_syncs m n open_on.synced))
  file_opens number names (File bytes) info n inode is stands open_on described =
      wanted_file false info.kind (only (asks.Sync number)) n (FixesSynced m (steps.SyncFile path)) described.kind
      (sync_leads false n number _ (FixesSynced m (steps.SyncFile path)) open_on.file
      (λ l was. ((names, Some (File bytes)) ∷ [], synced_more m n l names (File bytes) was open_on.synced open_on.tree stands sure, λ fixed. file_fixed fixed m.tree path names bytes (leads_found m.tree path names is) stands))
      (λ why l broke fine stays. file_failed m l path why (failed_syncs m n l (under names) open_on.synced stays.synced)))
  file_opens number names (Link target) info n inode is stands open_on described = absurd (link_there m.tree path names target is stands)

  file_fixes : Openings false m to_sync path (FixesSynced m (steps.SyncFile path))
  file_fixes = record {
    refuses = λ fault why is of memory. file_failed m m path why (no_syncs m m refl);
    breaks = λ why n broke fine stays same. file_failed m n path why (no_syncs m n same);
    opens = file_opens;
  }

pub sync_file_fixes : (m : Machine) (hint : Hint) (path : List ℕ) → NoDoubt m → FixesAsTold m hint (steps.SyncFile path)
sync_file_fixes m hint path sure = opening_leads false m to_sync path (FixesSynced m (steps.SyncFile path)) (file_fixes m path sure)

-- ---- a folder

folder_fixed : (fixed : Fixed) (path : List ℕ) (names : Names) → names_of path ≡ Ok names → folder_synced fixed path ≡ with_synced names (Some Folder) fixed
folder_fixed fixed path names is = ap (λ (r : Result Names Fault). let f : Fixed = record { files = fixed.files; names = λ q. if is_child_of r q then None else fixed.names q } in f) is

module _ (m : Machine) (path : List ℕ) (none : EndsInNoLink m.tree path) (sure : NoDoubt m) where
  folder_opens : (number : ℕ) (names : Names) (node : Node) (info : FileInfo) (n : Machine) (inode : ℕ × ℕ) → found m.tree path ≡ Ok names → look m.tree names ≡ Some node
      → OpenedOn m n number names → Describes node inode info → Leads (way_of false) (opened to_sync_folder number info) n (FixesSynced m (steps.SyncDir path))
  folder_opens number names Folder info n inode is stands open_on described =
      subst (λ (k : Kind). Leads (way_of false) (if_folder k kind.NotADirectory (only (asks.Sync number))) n (FixesSynced m (steps.SyncDir path))) (sym described.kind)
      (sync_leads false n number _ (FixesSynced m (steps.SyncDir path)) open_on.file
      (λ l was. (
        (names, Some Folder) ∷ [],
        synced_more m n l names Folder was open_on.synced open_on.tree stands sure,
        λ fixed. folder_fixed fixed path names (place_ok m.tree path names (sym (leads_straight m.tree path none) ∙ leads_found m.tree path names is)),
      ))
      (λ why l broke fine stays. folder_failed m l path why (failed_syncs m n l (under names) open_on.synced stays.synced)))
  folder_opens number names (File bytes) info n inode is stands open_on described =
      refused_other false info.kind kind.NotADirectory (only (asks.Sync number)) n (FixesSynced m (steps.SyncDir path)) described.kind (folder_failed m n path kind.NotADirectory (no_syncs m n open_on.synced))
  folder_opens number names (Link target) info n inode is stands open_on described = absurd (link_there m.tree path names target is stands)

  folder_fixes : Openings false m to_sync_folder path (FixesSynced m (steps.SyncDir path))
  folder_fixes = record {
    refuses = λ fault why is of memory. folder_failed m m path why (no_syncs m m refl);
    breaks = λ why n broke fine stays same. folder_failed m n path why (no_syncs m n same);
    opens = folder_opens;
  }

pub sync_dir_fixes : (m : Machine) (hint : Hint) (path : List ℕ) → EndsInNoLink m.tree path → NoDoubt m → FixesAsTold m hint (steps.SyncDir path)
sync_dir_fixes m hint path none sure = opening_leads false m to_sync_folder path (FixesSynced m (steps.SyncDir path)) (folder_fixes m path none sure)

-- ---- a temporary file

temp_failed : (m n : Machine) (temp : NumberedTemp) (why : ErrorKind) → FixesNone m n → FixesSynced m (steps.SyncTemp temp) (says.Failed why) n
temp_failed m n temp why (nodes, same, none) =
    (nodes, same, λ fixed. ap (λ (c : Bool). if c then temp_synced fixed (temp_on m temp) else fixed) (not_synced (steps.SyncTemp temp) why n) ∙ none fixed)

temp_fixed : (fixed : Fixed) (path : List ℕ) (held : Option (List ℕ)) (names : Names) (bytes : List ℕ) → names_of path ≡ Ok names → held ≡ Some bytes
    → temp_synced fixed (record { path = path; bytes = held }) ≡ with_synced names (Some (File bytes)) fixed
temp_fixed fixed path held names bytes named is =
    ap (λ (r : Result Names Fault). with_bytes fixed (is_at r) (λ q. unwrap_or held [])) named
    ∙ ap (λ (o : Option (List ℕ)). with_bytes fixed (λ q. same_path q names) (λ q. unwrap_or o [])) is

pub sync_temp_fixes : (m : Machine) (hint : Hint) (temp : NumberedTemp) (names : Names) (bytes : List ℕ) → StillStands m temp names bytes → NoDoubt m → FixesAsTold m hint (steps.SyncTemp temp)
sync_temp_fixes m hint temp names bytes ready sure =
    let file = file_under (m.files temp.number) (under names) ready.opened in
    let held : option_map (bytes_in m) (m.files temp.number) ≡ Some bytes
    = ap (option_map (bytes_in m)) file.1 ∙ ap (λ (p : Place). Some (bytes_of (node_of m.tree p))) file.2 ∙ ap (λ (o : Option Node). Some (bytes_of o)) ready.stands in
    sync_leads false m temp.number file.0 (FixesSynced m (steps.SyncTemp temp)) file.1
    (λ l was. (
      (names, Some (File bytes)) ∷ [],
      synced_more m m l names (File bytes) (subst (λ (p : Place). WasSynced m l p) file.2 was) refl refl ready.stands sure,
      λ fixed. temp_fixed fixed temp.path (option_map (bytes_in m) (m.files temp.number)) names bytes ready.named held,
    ))
    (λ why l broke fine stays. temp_failed m l temp why (failed_syncs m m l file.0.place refl stays.synced))

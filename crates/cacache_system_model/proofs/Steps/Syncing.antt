-- Steps that sync a file or a folder.
use Rattle.std.proofs.Common.{rules, ◌≡◌, ◌⊎◌, ℕ, Bool, false, List, refl, sym, ap, subst, ◌∙◌, ⊎_elim, inl, inr}
use Rattle.std.specs.Prelude.{Option, None, Some, Result, Ok, Err, option_map}
use Rattle.std_io.specs.declared.io.kind.ErrorKind.{ErrorKind}
use Rattle.std_io.specs.declared.io.kind.ErrorKind.TheVariants as kind
use Rattle.cacache_core.specs.{declared.errors.Fault.{Fault, TheVariants.{IsADirectory, NotADirectory}}, Paths.{Names}}
use Rattle.cacache_store.specs.{declared.store.answer.Kind.{Kind}, Plain.{PlainAnswer}}
use Rattle.cacache_store.specs.declared.store.answer.Kind.TheVariants as kinds
use Rattle.cacache_store.specs.declared.store.step.Step.TheVariants as steps
use Rattle.cacache_store.specs.declared.store.answer.Answer.TheVariants as answers
use Rattle.cacache_disk.specs.{declared.{luck.Luck.TheVariants.{Plain}, node.Node.{Node, TheVariants.{Folder, File, Link}}}, Tree.{Tree, look}, LedTo.{and_then, found, file_at, folder, where_folder}, Apply.{apply, unless}}
use Rattle.cacache_system.specs.{declared.call.{FileInfo.{FileInfo}, CallResult.{CallResult}}, CallsOf.{Stage, to_sync, to_sync_folder, only, if_folder, opened}, Seen.{NumberedTemp}, AnswersOf.{misses}}
use Rattle.cacache_system.specs.declared.call.SystemCall.TheVariants as asks
use Rattle.cacache_system.specs.declared.call.CallResult.TheVariants as says
use Rattle.cacache_system_model.specs.{Machine.{Place, under, OpenFile, node_of, with_sync, Machine, fixes, Describes, Became}, Calls.{part_synced}, Laws.{bytes_in, temp_on, step_on, outcome, Leads, IsDone}, StepLaws.{EndsInNoLink, SyncTempAgrees, SyncFileAgrees, SyncDirAgrees}}
use Rattle.cacache_system_model.proofs.{Refusing.{same_outcome}, Leading.{Claim, over_leads, only_leads}, Claims.{way_of, claim_of, cases_of, agrees_of, claim_plain, claim_broken}, Steps.{Opening.{OpenedOn, Openings, opening_leads, on_open, file_under}, Looking.{table_fails, no_file, file_there, folder_there, link_there, refused_folder, wanted_file}}, Views.{folder_found}}

-- an open file was synced
pub record WasSynced (n l : Machine) (place : Place) : Type 0 where
  pub tree : l.tree ≡ n.tree
  pub files : l.files ≡ n.files
  pub synced : l.synced ≡ with_sync place (fixes n.synced (node_of n.tree place)) n.synced

-- its sync failed, and what it couldn't write may be in doubt
pub record WasNotSynced (n l : Machine) (place : Place) : Type 0 where
  pub tree : l.tree ≡ n.tree
  pub synced : (l.synced ≡ n.synced) ⊎ (l.synced ≡ with_sync place None n.synced)

not_synced : (n l : Machine) (o : Option OpenFile) (file : OpenFile) (part : Option ℕ) → o ≡ Some file → Became n n.tree n.files (part_synced o part n.synced) l → WasNotSynced n l file.place
not_synced n l None file part is left = absurd cc
not_synced n l (Some f) file None is left = record { tree = left.0; synced = inl left.2 }
not_synced n l (Some f) file (Some part) is left =
    let same : f ≡ file = cc in
    record { tree = left.0; synced = inr (left.2 ∙ ap (λ (x : OpenFile). with_sync x.place None n.synced) same) }

-- the sync of an open file ends the step
pub sync_leads : (b : Bool) (n : Machine) (number : ℕ) (file : OpenFile) (P : Claim) → n.files number ≡ Some file
    → ((l : Machine) → WasSynced n l file.place → P says.Done l)
    → ((why : ErrorKind) (l : Machine) → b ≡ false → misses why ≡ false → WasNotSynced n l file.place → P (says.Failed why) l) → Leads (way_of b) (only (asks.Sync number)) n P
sync_leads b n number file P is done breaks =
    only_leads (way_of b) (asks.Sync number) n P (λ said l happens.
    ⊎_elim
    (λ (most, all, well).
    let syncs = on_open n l number file said (λ f said l. (said ≡ says.Done) × Became n n.tree n.files (with_sync f.place (fixes n.synced (node_of n.tree f.place)) n.synced) l) is well in
    subst (λ (r : CallResult). P r l) (sym syncs.0) (done l (record { tree = syncs.1.0; files = syncs.1.1; synced = syncs.1.2 })))
    (λ (broke, why, same, fine, part, left).
    subst (λ (r : CallResult). P r l) (sym same) (breaks why l broke fine (not_synced n l (n.files number) file part is left)))
    (cases_of b n (asks.Sync number) said l happens))

-- ---- a file

apply_sync : (t : Tree) (path : List ℕ) (r : Result (List ℕ) Fault) → file_at t path IsADirectory ≡ r → apply t (steps.SyncFile path) Plain ≡ unless r t (λ bytes. outcome answers.Done t)
unfolding apply
apply_sync t path r is = ap (λ (x : Result (List ℕ) Fault). unless x t (λ bytes. outcome answers.Done t)) is

module _ (b : Bool) (m : Machine) (path : List ℕ) (done : b ≡ false → IsDone m (steps.SyncFile path)) where
  file_synced_so : (number : ℕ) (names : Names) (node : Node) (info : FileInfo) (n : Machine) (inode : ℕ × ℕ) → found m.tree path ≡ Ok names → look m.tree names ≡ Some node
      → OpenedOn m n number names → Describes node inode info → Leads (way_of b) (opened to_sync number info) n (claim_of b m (steps.SyncFile path))
  file_synced_so number names Folder info n inode is stands open_on described =
      refused_folder b info.kind (only (asks.Sync number)) n (claim_of b m (steps.SyncFile path)) described.kind
      (claim_plain b m (steps.SyncFile path) done (says.Failed kind.IsADirectory) n
      (apply_sync m.tree path (Err IsADirectory) (folder_there m.tree path IsADirectory names is stands) ∙ table_fails (steps.SyncFile path) IsADirectory kind.IsADirectory m n refl refl refl open_on.tree))
  file_synced_so number names (File bytes) info n inode is stands open_on described =
      wanted_file b info.kind (only (asks.Sync number)) n (claim_of b m (steps.SyncFile path)) described.kind
      (sync_leads b n number _ (claim_of b m (steps.SyncFile path)) open_on.file
      (λ l synced. claim_plain b m (steps.SyncFile path) done says.Done l
      (apply_sync m.tree path (Ok bytes) (file_there m.tree path IsADirectory names bytes is stands) ∙ ap (outcome answers.Done) (sym (synced.tree ∙ open_on.tree))))
      (λ why l broke fine stays. claim_broken b m (steps.SyncFile path) done why l broke refl fine (stays.tree ∙ open_on.tree)))
  file_synced_so number names (Link target) info n inode is stands open_on described = absurd (link_there m.tree path names target is stands)

  file_openings : Openings b m to_sync path (claim_of b m (steps.SyncFile path))
  file_openings = record {
    refuses = λ fault why is of memory. claim_plain b m (steps.SyncFile path) done (says.Failed why) m
        (apply_sync m.tree path (Err fault) (no_file m.tree path IsADirectory fault is) ∙ table_fails (steps.SyncFile path) fault why m m refl of memory refl);
    breaks = λ why n broke fine stays synced. claim_broken b m (steps.SyncFile path) done why n broke refl fine stays;
    opens = file_synced_so;
  }

pub sync_file_agrees : SyncFileAgrees
sync_file_agrees m hint path = agrees_of m hint (steps.SyncFile path) (λ b done. opening_leads b m to_sync path (claim_of b m (steps.SyncFile path)) (file_openings b m path done))

-- ---- a folder

apply_sync_dir : (t : Tree) (path : List ℕ) (r : Result Names Fault) → folder t path ≡ r → apply t (steps.SyncDir path) Plain ≡ unless r t (λ names. outcome answers.Done t)
unfolding apply
apply_sync_dir t path r is = ap (λ (x : Result Names Fault). unless x t (λ names. outcome answers.Done t)) is

pub folder_of : (t : Tree) (path : List ℕ) (names : Names) (node : Node) → EndsInNoLink t path → found t path ≡ Ok names → look t names ≡ Some node → folder t path ≡ where_folder (Some node) names
folder_of t path names node none is stands = search (rules, folder_found)

-- what is no folder
pub refused_other : (b : Bool) (k : Kind) (why : ErrorKind) (s : Stage) (n : Machine) (P : Claim) → k ≡ kinds.File → P (says.Failed why) n → Leads (way_of b) (if_folder k why s) n P
refused_other b k why s n P is holds = subst (λ (x : Kind). Leads (way_of b) (if_folder x why s) n P) (sym is) (over_leads (way_of b) (says.Failed why) n P holds)

module _ (b : Bool) (m : Machine) (path : List ℕ) (none : EndsInNoLink m.tree path) (done : b ≡ false → IsDone m (steps.SyncDir path)) where
  folder_synced_so : (number : ℕ) (names : Names) (node : Node) (info : FileInfo) (n : Machine) (inode : ℕ × ℕ) → found m.tree path ≡ Ok names → look m.tree names ≡ Some node
      → OpenedOn m n number names → Describes node inode info → Leads (way_of b) (opened to_sync_folder number info) n (claim_of b m (steps.SyncDir path))
  folder_synced_so number names Folder info n inode is stands open_on described =
      subst (λ (k : Kind). Leads (way_of b) (if_folder k kind.NotADirectory (only (asks.Sync number))) n (claim_of b m (steps.SyncDir path))) (sym described.kind)
      (sync_leads b n number _ (claim_of b m (steps.SyncDir path)) open_on.file
      (λ l synced. claim_plain b m (steps.SyncDir path) done says.Done l
      (apply_sync_dir m.tree path (Ok names) (folder_of m.tree path names Folder none is stands) ∙ ap (outcome answers.Done) (sym (synced.tree ∙ open_on.tree))))
      (λ why l broke fine stays. claim_broken b m (steps.SyncDir path) done why l broke refl fine (stays.tree ∙ open_on.tree)))
  folder_synced_so number names (File bytes) info n inode is stands open_on described =
      refused_other b info.kind kind.NotADirectory (only (asks.Sync number)) n (claim_of b m (steps.SyncDir path)) described.kind
      (claim_plain b m (steps.SyncDir path) done (says.Failed kind.NotADirectory) n
      (apply_sync_dir m.tree path (Err NotADirectory) (folder_of m.tree path names (File bytes) none is stands) ∙ table_fails (steps.SyncDir path) NotADirectory kind.NotADirectory m n refl refl refl open_on.tree))
  folder_synced_so number names (Link target) info n inode is stands open_on described = absurd (link_there m.tree path names target is stands)

  folder_openings : Openings b m to_sync_folder path (claim_of b m (steps.SyncDir path))
  folder_openings = record {
    refuses = λ fault why is of memory. claim_plain b m (steps.SyncDir path) done (says.Failed why) m
        (apply_sync_dir m.tree path (Err fault) (folder_found m.tree path none ∙ ap (λ (r : Result Names Fault). and_then r (λ n. where_folder (look m.tree n) n)) is)
        ∙ table_fails (steps.SyncDir path) fault why m m refl of memory refl);
    breaks = λ why n broke fine stays synced. claim_broken b m (steps.SyncDir path) done why n broke refl fine stays;
    opens = folder_synced_so;
  }

pub sync_dir_agrees : SyncDirAgrees
sync_dir_agrees m hint path none = agrees_of m hint (steps.SyncDir path) (λ b done. opening_leads b m to_sync_folder path (claim_of b m (steps.SyncDir path)) (folder_openings b m path none done))

-- ---- a temporary file

apply_sync_temp : (m : Machine) (temp : NumberedTemp) → apply m.tree (step_on m (steps.SyncTemp temp)) Plain ≡ outcome (answers.Synced (temp_on m temp)) m.tree
unfolding apply
apply_sync_temp m temp = refl

abbrev synced_temp : NumberedTemp → Option (List ℕ) → PlainAnswer
synced_temp temp bytes = answers.Synced (record { path = temp.path; bytes = bytes })

temp_kept : (m l : Machine) (temp : NumberedTemp) → l.tree ≡ m.tree → l.files ≡ m.files → synced_temp temp (option_map (bytes_in l) (l.files temp.number)) ≡ synced_temp temp (option_map (bytes_in m) (m.files temp.number))
temp_kept m l temp tree files = search rules

pub sync_temp_agrees : SyncTempAgrees
sync_temp_agrees m hint temp names bytes ready = agrees_of m hint (steps.SyncTemp temp) (λ b done.
    let file = file_under (m.files temp.number) (under names) ready.opened in
    sync_leads b m temp.number file.0 (claim_of b m (steps.SyncTemp temp)) file.1
    (λ l synced. claim_plain b m (steps.SyncTemp temp) done says.Done l
    (apply_sync_temp m temp
    ∙ sym (same_outcome (synced_temp temp (option_map (bytes_in l) (l.files temp.number))) (synced_temp temp (option_map (bytes_in m) (m.files temp.number))) l.tree m.tree
    (temp_kept m l temp synced.tree synced.files) synced.tree)))
    (λ why l broke fine stays. claim_broken b m (steps.SyncTemp temp) done why l broke refl fine stays.tree))

-- Steps that open a file or ask for its size.
use Rattle.std.proofs.Common.{rules, ◌≡◌, ℕ, Bool, false, List, [], refl, sym, ap, subst, ◌∙◌, ⊎_elim, length, drop}
use Rattle.std.specs.{Prelude.{Option, Some, Result, Ok, Err, option_map}, Option.{unwrap_or}}
use Rattle.std_io.specs.declared.io.kind.ErrorKind.{ErrorKind}
use Rattle.std_io.specs.declared.io.kind.ErrorKind.TheVariants as kind
use Rattle.cacache_core.specs.{Errors.{fault_of}, declared.errors.Fault.{Fault, TheVariants.{IsADirectory}}, Paths.{Names}}
use Rattle.cacache_store.specs.{declared.store.answer.Kind.{Kind}, Plain.{PlainAnswer}}
use Rattle.cacache_store.specs.declared.store.answer.Kind.TheVariants as kinds
use Rattle.cacache_store.specs.declared.store.step.Step.TheVariants as steps
use Rattle.cacache_store.specs.declared.store.answer.Answer.TheVariants as answers
use Rattle.cacache_disk.specs.{declared.{luck.Luck.TheVariants.{Plain}, node.Node.{Node, TheVariants.{Folder, File, Link}}}, Tree.{Tree, look, bytes_of}, LedTo.{found, file_at, leads}, Apply.{apply, unless}}
use Rattle.cacache_system.specs.{declared.call.{FileInfo.{FileInfo}, CallResult.{CallResult}}, CallsOf.{Stage, to_give, over, sizing, unless_folder, opened, after}, Seen.{NumberedStep}, AnswersOf.{answer_of, failed_with, refuses_memory}}
use Rattle.cacache_system.specs.declared.call.SystemCall.TheVariants as asks
use Rattle.cacache_system.specs.declared.call.CallResult.TheVariants as says
use Rattle.cacache_system_model.specs.{Machine.{Machine, IsRefused, ShowsEnd, ShowsNode, Describes}, Laws.{left_in, outcome, led_to, Leads, IsDone}, StepLaws.{OpenAgrees, SizeAgrees}}
use Rattle.cacache_system_model.proofs.{Refusing.{same_outcome, failed, refused_on}, Leading.{Claim, over_leads, call_leads}, Claims.{way_of, claim_of, cases_of, agrees_of, taking_leads, claim_plain, claim_broken, claim_memory}, Steps.Opening.{OpenedOn, Openings, opening_leads, said_leads, of_some}, Views.{View, nowhere, a_folder, a_file, view}}

-- a step that fails in the disk's table fails with the error that a call says
pub table_fails : (step : NumberedStep) (fault : Fault) (why : ErrorKind) (m n : Machine) → answer_of step (says.Failed why) ≡ failed_with step why → fault_of why ≡ fault → refuses_memory why ≡ false → n.tree ≡ m.tree
    → outcome (failed fault) m.tree ≡ led_to step (says.Failed why) n
table_fails step fault why m n same of memory stays = search (rules, same_outcome, failed, refused_on)

-- if a file is wanted, the fault is the path's, or the one for a folder
pub no_file : (t : Tree) (path : List ℕ) (what fault : Fault) → found t path ≡ Err fault → file_at t path what ≡ Err fault
no_file t path what fault is = elim (view t path) as (λ v. file_at t path what ≡ Err fault) [
  | nowhere f e file ↦ let same : f ≡ fault = cc in file what ∙ ap (λ (x : Fault). let r : Result (List ℕ) Fault = Err x in r) same
  | a_folder names l e stands file ↦ absurd cc
  | a_file names bytes l e stands file ↦ absurd cc
]

-- what a path leads to, once it is found
pub file_there : (t : Tree) (path : List ℕ) (what : Fault) (names : Names) (bytes : List ℕ) → found t path ≡ Ok names → look t names ≡ Some (File bytes) → file_at t path what ≡ Ok bytes
file_there t path what names bytes is at = elim (view t path) as (λ v. file_at t path what ≡ Ok bytes) [
  | nowhere f e file ↦ absurd cc
  | a_folder other l e stands file ↦ let same : other ≡ names = cc in let differ : look t names ≡ Some Folder = ap (look t) (sym same) ∙ stands in absurd cc
  | a_file other more l e stands file ↦ let same : other ≡ names = cc in let here : look t names ≡ Some (File more) = ap (look t) (sym same) ∙ stands in let equal : more ≡ bytes = cc in file what ∙ ap (λ (x : List ℕ). let r : Result (List ℕ) Fault = Ok x in r) equal
]

pub folder_there : (t : Tree) (path : List ℕ) (what : Fault) (names : Names) → found t path ≡ Ok names → look t names ≡ Some Folder → file_at t path what ≡ Err what
folder_there t path what names is at = elim (view t path) as (λ v. file_at t path what ≡ Err what) [
  | nowhere f e file ↦ absurd cc
  | a_folder other l e stands file ↦ file what
  | a_file other more l e stands file ↦ let same : other ≡ names = cc in let here : look t names ≡ Some (File more) = ap (look t) (sym same) ∙ stands in absurd cc
]

pub link_there : (t : Tree) (path : List ℕ) (names : Names) (target : List ℕ) → found t path ≡ Ok names → look t names ≡ Some (Link target) → ⊥
link_there t path names target is at = elim (view t path) as (λ v. ⊥) [
  | nowhere f e file ↦ cc
  | a_folder other l e stands file ↦ let same : other ≡ names = cc in let here : look t names ≡ Some Folder = ap (look t) (sym same) ∙ stands in cc
  | a_file other more l e stands file ↦ let same : other ≡ names = cc in let here : look t names ≡ Some (File more) = ap (look t) (sym same) ∙ stands in cc
]

-- a folder that isn't wanted
pub refused_folder : (b : Bool) (k : Kind) (s : Stage) (n : Machine) (P : Claim) → k ≡ kinds.Folder → P (says.Failed kind.IsADirectory) n → Leads (way_of b) (unless_folder k s) n P
refused_folder b k s n P is holds = search (rules, way_of, over_leads)

-- what is no folder
pub wanted_file : (b : Bool) (k : Kind) (s : Stage) (n : Machine) (P : Claim) → k ≡ kinds.File → Leads (way_of b) s n P → Leads (way_of b) (unless_folder k s) n P
wanted_file b k s n P is leads = subst (λ (x : Kind). Leads (way_of b) (unless_folder x s) n P) (sym is) leads

-- ---- a file is opened

abbrev opened_file : Option (List ℕ) → PlainAnswer
opened_file bytes = answers.File (record { left = length (unwrap_or bytes []); bytes = bytes })

apply_open : (t : Tree) (path : List ℕ) (r : Result (List ℕ) Fault) → file_at t path IsADirectory ≡ r → apply t (steps.Open path) Plain ≡ unless r t (λ bytes. outcome (opened_file (Some bytes)) t)
unfolding apply
apply_open t path r is = ap (λ (x : Result (List ℕ) Fault). unless x t (λ bytes. outcome (opened_file (Some bytes)) t)) is

open_file : (m n : Machine) (path : List ℕ) (number : ℕ) (names : Names) (bytes : List ℕ) → OpenedOn m n number names → look m.tree names ≡ Some (File bytes)
    → outcome (opened_file (Some bytes)) m.tree ≡ led_to (steps.Open path) (says.Opened number) n
open_file m n path number names bytes is stands =
    let left : option_map (left_in n) (n.files number) ≡ Some bytes
    = ap (option_map (left_in n)) is.file ∙ ap (λ (t : Tree). Some (drop 0 (bytes_of (look t names)))) is.tree ∙ ap (λ (o : Option Node). Some (drop 0 (bytes_of o))) stands in
    sym (same_outcome (opened_file (option_map (left_in n) (n.files number))) (opened_file (Some bytes)) n.tree m.tree (ap opened_file left) is.tree)

opened_so : (b : Bool) (m : Machine) (path : List ℕ) (done : b ≡ false → IsDone m (steps.Open path)) (number : ℕ) (names : Names) (node : Node) (info : FileInfo) (n : Machine) (inode : ℕ × ℕ)
    → found m.tree path ≡ Ok names → look m.tree names ≡ Some node → OpenedOn m n number names → Describes node inode info → Leads (way_of b) (opened to_give number info) n (claim_of b m (steps.Open path))
opened_so b m path done number names Folder info n inode is stands open_on described =
    refused_folder b info.kind (over (says.Opened number)) n (claim_of b m (steps.Open path)) described.kind
    (claim_plain b m (steps.Open path) done (says.Failed kind.IsADirectory) n
    (apply_open m.tree path (Err IsADirectory) (folder_there m.tree path IsADirectory names is stands) ∙ table_fails (steps.Open path) IsADirectory kind.IsADirectory m n refl refl refl open_on.tree))
opened_so b m path done number names (File bytes) info n inode is stands open_on described =
    wanted_file b info.kind (over (says.Opened number)) n (claim_of b m (steps.Open path)) described.kind
    (over_leads (way_of b) (says.Opened number) n (claim_of b m (steps.Open path))
    (claim_plain b m (steps.Open path) done (says.Opened number) n
    (apply_open m.tree path (Ok bytes) (file_there m.tree path IsADirectory names bytes is stands) ∙ open_file m n path number names bytes open_on stands)))
opened_so b m path done number names (Link target) info n inode is stands open_on described = absurd (link_there m.tree path names target is stands)

open_openings : (b : Bool) (m : Machine) (path : List ℕ) → (b ≡ false → IsDone m (steps.Open path)) → Openings b m to_give path (claim_of b m (steps.Open path))
open_openings b m path done = record {
  refuses = λ fault why is of memory. claim_plain b m (steps.Open path) done (says.Failed why) m
      (apply_open m.tree path (Err fault) (no_file m.tree path IsADirectory fault is) ∙ table_fails (steps.Open path) fault why m m refl of memory refl);
  breaks = λ why n broke fine stays synced. claim_broken b m (steps.Open path) done why n broke refl fine stays;
  opens = λ number names node info n inode is stands open_on described. opened_so b m path done number names node info n inode is stands open_on described;
}

pub open_agrees : OpenAgrees
open_agrees m hint path = search (rules, agrees_of, taking_leads, way_of, claim_of, claim_memory, opening_leads, open_openings)

-- ---- a file's size is asked for

apply_size : (t : Tree) (path : List ℕ) (r : Result (List ℕ) Fault) → file_at t path IsADirectory ≡ r → apply t (steps.Size path) Plain ≡ unless r t (λ bytes. outcome (answers.Length (length bytes)) t)
unfolding apply
apply_size t path r is = ap (λ (x : Result (List ℕ) Fault). unless x t (λ bytes. outcome (answers.Length (length bytes)) t)) is

module _ (b : Bool) (m : Machine) (path : List ℕ) (done : b ≡ false → IsDone m (steps.Size path)) where
  size_node : (names : Names) (node : Node) (info : FileInfo) → found m.tree path ≡ Ok names → look m.tree names ≡ Some node → Describes node (m.inodes names) info
      → Leads (way_of b) (unless_folder info.kind (over (says.Info info))) m (claim_of b m (steps.Size path))
  size_node names Folder info is stands described =
      refused_folder b info.kind (over (says.Info info)) m (claim_of b m (steps.Size path)) described.kind
      (claim_plain b m (steps.Size path) done (says.Failed kind.IsADirectory) m
      (apply_size m.tree path (Err IsADirectory) (folder_there m.tree path IsADirectory names is stands) ∙ table_fails (steps.Size path) IsADirectory kind.IsADirectory m m refl refl refl refl))
  size_node names (File bytes) info is stands described =
      wanted_file b info.kind (over (says.Info info)) m (claim_of b m (steps.Size path)) described.kind
      (over_leads (way_of b) (says.Info info) m (claim_of b m (steps.Size path))
      (claim_plain b m (steps.Size path) done (says.Info info) m
      (apply_size m.tree path (Ok bytes) (file_there m.tree path IsADirectory names bytes is stands)
      ∙ ap (λ (size : ℕ). outcome (answers.Length size) m.tree) (sym described.size))))
  size_node names (Link target) info is stands described = absurd (link_there m.tree path names target is stands)

  size_shown : (names : Names) (node : Node) (said : CallResult) (n : Machine) → found m.tree path ≡ Ok names → look m.tree names ≡ Some node → ShowsNode names m said n
      → Leads (way_of b) (after (sizing path) said) n (claim_of b m (steps.Size path))
  size_shown names node said n is stands (info, same, fits, stays) = search (rules, said_leads, claim_of, way_of, size_node, of_some)

  size_found : (v : View m.tree path) (said : CallResult) (n : Machine) → ShowsEnd (found m.tree path) m said n → Leads (way_of b) (after (sizing path) said) n (claim_of b m (steps.Size path))
  size_found (nowhere fault is file) said n shows =
      let refused : IsRefused fault m said n = subst (λ (r : Result Names Fault). ShowsEnd r m said n) is shows in
      said_leads b (sizing path) said (says.Failed refused.0) n (claim_of b m (steps.Size path)) refused.1
      (over_leads (way_of b) (says.Failed refused.0) n (claim_of b m (steps.Size path))
      (claim_plain b m (steps.Size path) done (says.Failed refused.0) n
      (apply_size m.tree path (Err fault) (file IsADirectory) ∙ table_fails (steps.Size path) fault refused.0 m n refl refused.2 refused.3 (ap (λ (x : Machine). x.tree) refused.4))))
  size_found (a_folder names l is stands file) said n shows = size_shown names Folder said n is stands (subst (λ (r : Result Names Fault). ShowsEnd r m said n) is shows)
  size_found (a_file names bytes l is stands file) said n shows = size_shown names (File bytes) said n is stands (subst (λ (r : Result Names Fault). ShowsEnd r m said n) is shows)

  size_leads : Leads (way_of b) (sizing path) m (claim_of b m (steps.Size path))
  size_leads =
      call_leads (way_of b) (sizing path) (asks.Stat path) m (claim_of b m (steps.Size path)) refl (λ end never. absurd never) (λ said n happens.
      ⊎_elim
      (λ (most, all, well). size_found (view m.tree path) said n well)
      (λ (broke, why, same, fine, part, left).
      said_leads b (sizing path) said (says.Failed why) n (claim_of b m (steps.Size path)) same
      (over_leads (way_of b) (says.Failed why) n (claim_of b m (steps.Size path))
      (claim_broken b m (steps.Size path) done why n broke refl fine (ap (λ (x : Machine). x.tree) left))))
      (cases_of b m (asks.Stat path) said n happens))

pub size_agrees : SizeAgrees
size_agrees m hint path = agrees_of m hint (steps.Size path) (λ b done. size_leads b m path done)

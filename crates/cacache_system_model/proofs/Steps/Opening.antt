-- Files that are opened, and what is said about them.
use Rattle.std.proofs.Common.{◌≡◌, ◌==◌, ℕ, Bool, true, false, cond, List, refl, sym, ap, subst, ◌∙◌, ⊎_elim, eq-eqb}
use Rattle.std.specs.Prelude.{Option, None, Some, option_map, Result, Ok, Err, MatchOption, IfSome, IfNone}
use Rattle.std_io.specs.declared.io.kind.ErrorKind.{ErrorKind}
use Rattle.cacache_core.specs.{Errors.{fault_of}, declared.errors.Fault.{Fault, TheVariants.{Device}}, Paths.{Names}}
use Rattle.cacache_disk.specs.{declared.node.Node.{Node, TheVariants.{Folder, File}}, Tree.{Tree, look}, LedTo.{found}}
use Rattle.cacache_system.specs.{declared.call.{FileInfo.{FileInfo}, CallResult.{CallResult}}, CallsOf.{Stage, Purpose, over, opening, checking, opened, wants, after, Ends}, AnswersOf.{misses, refuses_memory}}
use Rattle.cacache_system.specs.declared.call.SystemCall.TheVariants as asks
use Rattle.cacache_system.specs.declared.call.CallResult.TheVariants as says
use Rattle.cacache_system_model.specs.{Machine.{Place, OpenFile, Machine, Describes, IsRefused, OpensIf, ShowsNode, ShowsPlace, OnOpen, unread, with_file}, Laws.{Leads}}
use Rattle.cacache_system_model.proofs.{Leading.{Claim, over_leads, call_leads}, Claims.{way_of, cases_of}, Views.{View, nowhere, a_folder, a_file, view}}

pub same_number : (number : ℕ) → (number == number) ≡ true
same_number number = eq-eqb number number refl

-- a file is open under a number, and otherwise all is as before
pub record OpenedOn (m n : Machine) (number : ℕ) (names : Names) : Type 0 where
  pub tree : n.tree ≡ m.tree
  pub file : n.files number ≡ Some (unread names)
  pub synced : n.synced ≡ m.synced

pub newly_open : (files : ℕ → Option OpenFile) (number : ℕ) (file : OpenFile) → with_file files number file number ≡ Some file
newly_open files number file = ap (λ (b : Bool). cond b (Some file) (files number)) (same_number number)

-- what becomes of a stage that says what the system said
pub said_leads : (b : Bool) (s : Stage) (said is : CallResult) (n : Machine) (P : Claim) → said ≡ is → Leads (way_of b) (after s is) n P → Leads (way_of b) (after s said) n P
said_leads b s said is n P same leads = subst (λ (r : CallResult). Leads (way_of b) (after s r) n P) (sym same) leads

pub of_some : {A : Type 0} (o : Option A) (a : A) (Q : A → Type 0) → o ≡ Some a → IfSome o Q → Q a
of_some o a Q is holds = subst (λ (x : Option _). IfSome x Q) is holds

-- what a call does on a file that is open
pub on_open : (m n : Machine) (number : ℕ) (file : OpenFile) (said : CallResult) (Does : OpenFile → CallResult → Machine → Type 0) → m.files number ≡ Some file
    → OnOpen number Does m said n → Does file said n
on_open m n number file said Does is holds =
    subst (λ (o : Option OpenFile). MatchOption o (IfNone (m.folders number) (IsRefused Device m said n)) (λ f. Does f said n)) is holds

pub file_under : (file : Option OpenFile) (place : Place) → option_map (λ (f : OpenFile). f.place) file ≡ Some place → (f : OpenFile) × (file ≡ Some f) × (f.place ≡ place)
file_under None place is = absurd cc
file_under (Some file) place is = (file, refl, cc)

-- what a call does on a file that is open at this place
pub open_of : (m n : Machine) (number : ℕ) (place : Place) (said : CallResult) (Does : OpenFile → CallResult → Machine → Type 0)
    → option_map (λ (f : OpenFile). f.place) (m.files number) ≡ Some place → OnOpen number Does m said n
    → (f : OpenFile) × (m.files number ≡ Some f) × (f.place ≡ place) × Does f said n
open_of m n number place said Does is holds =
    let file = file_under (m.files number) place is in (file.0, file.1, file.2, on_open m n number file.0 said Does file.1 holds)

-- What follows when a stage opens a path's file: it is refused, it breaks, or it is open.
pub record PathOpens (b : Bool) (m : Machine) (s : Stage) (path : List ℕ) (P : Claim) : Type 0 where
  pub wanted : wants s ≡ Some (asks.OpenToRead path)
  pub never : (end : CallResult) → Ends s end → ⊥
  pub fails : (why : ErrorKind) → after s (says.Failed why) ≡ over (says.Failed why)
  pub refuses : (fault : Fault) (why : ErrorKind) → found m.tree path ≡ Err fault → fault_of why ≡ fault → refuses_memory why ≡ false → P (says.Failed why) m
  pub breaks : (why : ErrorKind) (n : Machine) → b ≡ false → misses why ≡ false → n.tree ≡ m.tree → n.synced ≡ m.synced → P (says.Failed why) n
  pub opens : (number : ℕ) (names : Names) (node : Node) (n : Machine) → found m.tree path ≡ Ok names → look m.tree names ≡ Some node
      → OpenedOn m n number names → Leads (way_of b) (after s (says.Opened number)) n P

module _ (b : Bool) (m : Machine) (s : Stage) (path : List ℕ) (P : Claim) (next : PathOpens b m s path P) where
  failed_on : (why : ErrorKind) (said : CallResult) (n : Machine) → said ≡ says.Failed why → P (says.Failed why) n → Leads (way_of b) (after s said) n P
  failed_on why said n same holds =
      said_leads b s said (says.Failed why) n P same
      (subst (λ (x : Stage). Leads (way_of b) x n P) (sym (next.fails why)) (over_leads (way_of b) (says.Failed why) n P holds))

  opened_on : (names : Names) (node : Node) (said : CallResult) (n : Machine) → found m.tree path ≡ Ok names → look m.tree names ≡ Some node
      → OpensIf (Ok names) (λ x. m.tree) m said n → Leads (way_of b) (after s said) n P
  opened_on names node said n is stands (number, same, fresh, became) =
      said_leads b s said (says.Opened number) n P same
      (next.opens number names node n is stands (record {
        tree = became.0;
        file = ap (λ (f : ℕ → Option OpenFile). f number) became.1 ∙ newly_open m.files number (unread names);
        synced = became.2;
      }))

  refused_on : (fault : Fault) (said : CallResult) (n : Machine) → found m.tree path ≡ Err fault → IsRefused fault m said n → Leads (way_of b) (after s said) n P
  refused_on fault said n is (why, same, of, memory, stays) =
      failed_on why said n same (subst (λ (x : Machine). P (says.Failed why) x) (sym stays) (next.refuses fault why is of memory))

  found_on : (v : View m.tree path) (said : CallResult) (n : Machine) → OpensIf (found m.tree path) (λ x. m.tree) m said n → Leads (way_of b) (after s said) n P
  found_on (nowhere fault is file) said n opens =
      refused_on fault said n is (subst (λ (r : Result Names Fault). OpensIf r (λ x. m.tree) m said n) is opens)
  found_on (a_folder names leads is stands file) said n opens =
      opened_on names Folder said n is stands (subst (λ (r : Result Names Fault). OpensIf r (λ x. m.tree) m said n) is opens)
  found_on (a_file names bytes leads is stands file) said n opens =
      opened_on names (File bytes) said n is stands (subst (λ (r : Result Names Fault). OpensIf r (λ x. m.tree) m said n) is opens)

  -- a file is opened
  pub path_leads : Leads (way_of b) s m P
  path_leads =
      call_leads (way_of b) s (asks.OpenToRead path) m P next.wanted (λ end ends. absurd (next.never end ends)) (λ said n happens.
      ⊎_elim
      (λ (most, all, well). found_on (view m.tree path) said n well)
      (λ (broke, why, same, fine, part, left).
      let stays : n ≡ m = left in
      failed_on why said n same (next.breaks why n broke fine (ap (λ (x : Machine). x.tree) stays) (ap (λ (x : Machine). x.synced) stays)))
      (cases_of b m (asks.OpenToRead path) said n happens))

-- The same if it is asked then what is there.
pub record Openings (b : Bool) (m : Machine) (purpose : Purpose) (path : List ℕ) (P : Claim) : Type 0 where
  pub refuses : (fault : Fault) (why : ErrorKind) → found m.tree path ≡ Err fault → fault_of why ≡ fault → refuses_memory why ≡ false → P (says.Failed why) m
  pub breaks : (why : ErrorKind) (n : Machine) → b ≡ false → misses why ≡ false → n.tree ≡ m.tree → n.synced ≡ m.synced → P (says.Failed why) n
  pub opens : (number : ℕ) (names : Names) (node : Node) (info : FileInfo) (n : Machine) (inode : ℕ × ℕ) → found m.tree path ≡ Ok names → look m.tree names ≡ Some node
      → OpenedOn m n number names → Describes node inode info → Leads (way_of b) (opened purpose number info) n P

module _ (b : Bool) (m : Machine) (purpose : Purpose) (path : List ℕ) (P : Claim) (next : Openings b m purpose path P) where
  checked : (number : ℕ) (names : Names) (node : Node) (n : Machine) → found m.tree path ≡ Ok names → look m.tree names ≡ Some node → OpenedOn m n number names
      → Leads (way_of b) (checking purpose number) n P
  checked number names node n is stands open_on =
      call_leads (way_of b) (checking purpose number) (asks.StatFile number) n P refl (λ end never. absurd never) (λ said l happens.
      ⊎_elim
      (λ (most, all, well).
      let shown : ShowsNode names n said l = on_open n l number (unread names) said (λ file. ShowsPlace file.place n) open_on.file well in
      let here : look n.tree names ≡ Some node = ap (λ (t : Tree). look t names) open_on.tree ∙ stands in
      let described = of_some (look n.tree names) node (λ x. Describes x (n.inodes names) shown.0) here shown.2 in
      said_leads b (checking purpose number) said (says.Info shown.0) l P shown.1
      (subst (λ (x : Machine). Leads (way_of b) (opened purpose number shown.0) x P) (sym shown.3)
      (next.opens number names node shown.0 n (n.inodes names) is stands open_on described)))
      (λ (broke, why, same, fine, part, left).
      let stays : l ≡ n = left in
      said_leads b (checking purpose number) said (says.Failed why) l P same
      (over_leads (way_of b) (says.Failed why) l P (next.breaks why l broke fine (ap (λ (x : Machine). x.tree) stays ∙ open_on.tree) (ap (λ (x : Machine). x.synced) stays ∙ open_on.synced))))
      (cases_of b n (asks.StatFile number) said l happens))

  -- a file is opened for a purpose
  pub opening_leads : Leads (way_of b) (opening purpose path) m P
  opening_leads = path_leads b m (opening purpose path) path P (record {
    wanted = refl;
    never = λ end ends. ends;
    fails = λ why. refl;
    refuses = next.refuses;
    breaks = next.breaks;
    opens = λ number names node n is stands open_on. checked number names node n is stands open_on;
  })

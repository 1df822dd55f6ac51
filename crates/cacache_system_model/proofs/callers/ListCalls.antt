-- What the calls of a listing leave open, and which files removals miss.
use Rattle.std.proofs.{lemmas.{Grind.{common_steps}, Bool.{false_from_ne_true}}, Common.{rules, arith, ◌≡◌, ◌⊎◌, ℕ, List, sym, ap, subst, ◌∙◌, false, None, option_map, refl}}
use Rattle.std.specs.Prelude.{Option, Some, Ok, IfNone, MatchOption, Result, Err}
use Rattle.cacache_core.specs.{declared.errors.Fault.{Fault, TheVariants.{Device}}, Paths.{Names, names_of}}
use Rattle.cacache_disk.{specs.{declared.node.Node.TheVariants.{Folder}, Tree.{Tree, look, same_path}, LedTo.{standing}}, proofs.Maps.{same_path-true}}
use Rattle.cacache_system.specs.{declared.call.CallResult.{CallResult}, Seen.{with_slash}}
use Rattle.cacache_system_model.specs.{Machine.{Place, Machine, IsRefused}, Folders.{OpensNames, OpensFolder, ReadsSome, ReadsFolder}, Calls.{OccursSomehow}, Listing.{IsAbsent, CanList}, callers.{Storing.{IsNotFor}, Seen.{temp_of, SparesTemps}}}
use Rattle.cacache_system_model.proofs.callers.{OpenCalls.{Keeps, keeps_same, keeps_self}, Files.{file_in}, PathsOf.{HasPaths}, OpenTemps.{is_elsewhere}}
use Rattle.cacache_store.specs.{declared.store.plain.PlainTemp.{PlainTemp}, Plain.{PlainStep}}
use Rattle.cacache_loss.specs.Fixing.{is_at}
use Rattle.cacache_value.specs.Kinds.{Temporary, path_kind}
use Rattle.cacache_calls.specs.{declared.visit.Visit.TheVariants.{RemoveFile}, State.{State, doing, walking, remove}, Table.{wants}}
use Rattle.cacache_system.specs.declared.call.SystemCall.TheVariants as asks
use Rattle.cacache_system.specs.declared.call.CallResult.TheVariants as says
use Rattle.cacache_store.specs.declared.store.step.Step.TheVariants as steps

-- nothing is at a path, or a folder is
abbrev pub CanOpen : Tree → List ℕ → Type 0
CanOpen t path = IsAbsent t path ⊎ ((names : Names) × (standing t path ≡ Ok names) × (look t names ≡ Some Folder))

pub can_open : (m : Machine) (path : List ℕ) → CanList m path → CanOpen m.tree path × CanOpen m.tree (with_slash path)
can_open m path which = grind (arith, common_steps)

-- a folder is open under a number
abbrev pub IsListing : Machine → ℕ → Type 0
IsListing m number = (left : List (List ℕ)) × (m.folders number ≡ Some left)

-- what the opening of a folder leaves
abbrev pub FolderLeft : Machine → CallResult → Machine → Type 0
FolderLeft m said n = ((place : Place) → Keeps place m n) × (n.tree ≡ m.tree) × ((number : ℕ) → said ≡ says.Opened number → IsListing n number)

nothing_opened : (fault : Fault) (m n : Machine) (said : CallResult) → IsRefused fault m said n → FolderLeft m said n
nothing_opened fault m n said (why, is_said, of, memory, stays) = search (rules, keeps_self)

names_opened : (names : Names) (m n : Machine) (said : CallResult) → OpensNames names (Some Folder) m said n → FolderLeft m said n
names_opened names m n said (k, given, is_said, unused, order, gives, has) = (
  (λ place. keeps_same place m n has.files),
  has.tree,
  λ number opened.
      let both : says.Opened k ≡ says.Opened number = sym is_said ∙ opened in
      let same : k ≡ number = cc in
      (given, ap n.folders (sym same) ∙ has.left),
)

folder_opened : (path : List ℕ) (m n : Machine) (said : CallResult) → CanOpen m.tree path → OpensFolder (standing m.tree path) m said n → FolderLeft m said n
folder_opened path m n said which h = grind (arith, nothing_opened, names_opened)

pub folder_left : (path : List ℕ) (m n : Machine) (said : CallResult) → CanOpen m.tree path → OccursSomehow m (asks.OpenFolder path) said n → FolderLeft m said n
folder_left path m n said can holds = grind (arith, folder_opened, keeps_self)

names_read : (number : ℕ) (m n : Machine) (said : CallResult) → IsListing m number → ReadsFolder number m said n → ((place : Place) → Keeps place m n) × IsListing n number
names_read number m n said (left, is) h =
    let (given, rest, split, some, is_said, has) = subst (λ (o : Option (List (List ℕ))). MatchOption o (IfNone (m.files number) (IsRefused Device m said n)) (λ left. ReadsSome number left m said n)) is h in
    (λ place. keeps_same place m n has.files, (rest, has.left))

pub names_left : (number size : ℕ) (m n : Machine) (said : CallResult) → IsListing m number → OccursSomehow m (asks.ReadNames number size) said n → ((place : Place) → Keeps place m n) × IsListing n number
names_left number size m n said listing holds = grind (arith, names_read, keeps_self)

-- ---- which files a call's removals miss: those that calls on their way write

abbrev pub path_of : PlainTemp → List ℕ
path_of file = file.path

-- the path of a state's temporary file
pub temp_so : (s : State) → temp_of s ≡ option_map path_of (file_in s)
temp_so (doing errand s) = temp_so s
temp_so s = refl

-- what a step removes by its path, if that is a file
abbrev removed : Option PlainStep → Option (List ℕ)
removed (Some (steps.RemoveFile p)) = Some p
removed step = None

apart_at : (r : Result Names Fault) (q : Names) → (r ≡ Ok q → ⊥) → is_at r q ≡ false
apart_at (Ok names) q differ = false_from_ne_true (same_path q names) (λ e. differ (ap Ok (sym (same_path-true q names e))))
apart_at (Err fault) q differ = refl

-- no call removes the temporary file of a call that is on its way
pub removes_miss : (h : Option Names) (states : ℕ → Option State) (k : ℕ) (other : State) (file : PlainTemp) (q : Names) → states k ≡ Some other → file_in other ≡ Some file → names_of file.path ≡ Ok q
    → path_kind h q ≡ Temporary → (s : State) (p : List ℕ) → HasPaths h s → SparesTemps states s → wants s ≡ Some (steps.RemoveFile p) → is_at (names_of p) q ≡ false
removes_miss h states k other file q stands own named at (doing (remove r) s) p paths spares w =
    let same : r ≡ p = cc in is_elsewhere h q (names_of p) at (subst (IsNotFor h Temporary) same paths.0)
removes_miss h states k other file q stands own named at (walking v (RemoveFile r) todo) p paths spares w =
    let same : r ≡ p = cc in
    apart_at (names_of p) q (λ e. spares k other file.path stands (temp_so other ∙ ap (option_map path_of) own) (ap names_of same ∙ e ∙ sym named))
removes_miss h states k other file q stands own named at s p paths spares w = let no : None ≡ Some p = ap removed w in absurd cc

-- A listing of a folder that isn't there.
use Rattle.std.{proofs.Common.{◌≡◌, ◌==◌, Bool, true, false, if◌then◌else◌, List, ℕ, length, refl, sym, ap, subst, ◌∙◌}, specs.Prelude.{Option, None, Some, Result, Ok, Err}}
use Rattle.std_io.specs.declared.io.kind.ErrorKind.{ErrorKind}
use Rattle.std_io.specs.declared.io.kind.ErrorKind.TheVariants as kind
use Rattle.cacache_core.specs.{Errors.{fault_of}, declared.errors.Fault.{Fault, TheVariants.{NotFound}}, Paths.{Names}}
use Rattle.cacache_store.specs.declared.store.answer.Answer.TheVariants as answers
use Rattle.cacache_store.specs.declared.store.step.Step.TheVariants as steps
use Rattle.cacache_store.specs.Plain.{PlainAnswer}
use Rattle.cacache_disk.specs.{declared.{luck.Luck.TheVariants.{Plain}, node.Node.{Node}}, Tree.{Tree, look, listing}, LedTo.{and_then, where_there, where_folder, place, standing, folder}, Apply.{apply, unless, fault_told}}
use Rattle.cacache_system.specs.declared.call.SystemCall.TheVariants as asks
use Rattle.cacache_system.specs.{declared.call.CallResult.{CallResult}, CallsOf.{over, taking_memory, following, is_no_folder, opening_folder, after}, AnswersOf.{Hint}}
use Rattle.cacache_system.specs.declared.call.CallResult.TheVariants as says
use Rattle.cacache_system_model.specs.{Machine.{Machine, IsRefused}, Folders.{OpensFolder}, Calls.{GoesWell}, Laws.{outcome, Leads, IsPlain, GoesPlainly, MayBreak}, Listing.{IsAbsent}}
use Rattle.cacache_system_model.proofs.{Leading.{Claim, over_leads, call_leads}, Refusing.{refused_agrees, plainly_refused}, Claims.{taking_leads}}

no_folder : (here : Option Node) (names : Names) → where_there here names ≡ Err NotFound → where_folder here names ≡ Err NotFound
no_folder None names e = refl
no_folder (Some node) names e = absurd cc

nowhere : (t : Tree) (r : Result Names Fault) → and_then r (λ names. where_there (look t names) names) ≡ Err NotFound → and_then r (λ names. where_folder (look t names) names) ≡ Err NotFound
nowhere t (Ok names) e = no_folder (look t names) names e
nowhere t (Err fault) e = (let same : fault ≡ NotFound = cc in ap Err same)

folder_absent : (t : Tree) (path : List ℕ) → IsAbsent t path → folder t path ≡ Err NotFound
unfolding standing folder
folder_absent t path absent = nowhere t (place t path) absent

-- the error of what is missing is neither that of a file nor that of a link
missing_so : (why : ErrorKind) → fault_of why ≡ NotFound → is_no_folder why ≡ false
missing_so kind.NotADirectory is = absurd cc
missing_so kind.FilesystemLoop is = absurd cc
missing_so why is = refl

module _ (m : Machine) (path : List ℕ) (absent : IsAbsent m.tree path) where
  abbrev P : Claim
  P = IsPlain m (steps.ReadDir path)

  refused : apply m.tree (steps.ReadDir path) Plain ≡ outcome (answers.Failed NotFound) m.tree
  unfolding apply
  refused = ap (λ (r : Result Names Fault). unless r m.tree (λ names. outcome (answers.Names (listing m.tree names)) m.tree)) (folder_absent m.tree path absent)

  ends : (why : ErrorKind) (k : Machine) → fault_of why ≡ NotFound → IsRefused NotFound m (says.Failed why) k → Leads (GoesWell None) (after (opening_folder path) (says.Failed why)) k P
  ends why k is refuses =
      subst (λ (c : Bool). Leads (GoesWell None) (if c then following path else over (says.Failed why)) k P) (sym (missing_so why is))
      (over_leads (GoesWell None) (says.Failed why) k P (λ enough. refused ∙ refused_agrees (steps.ReadDir path) NotFound (says.Failed why) m k (plainly_refused (steps.ReadDir path) NotFound k (λ e. refl)) refuses))

  said_so : (said : CallResult) (k : Machine) → IsRefused NotFound m said k → Leads (GoesWell None) (after (opening_folder path) said) k P
  said_so said k (why, told, is, memory, stays) =
      subst (λ (e : CallResult). Leads (GoesWell None) (after (opening_folder path) e) k P) (sym told) (ends why k is (why, refl, is, memory, stays))

  opens : Leads (GoesWell None) (opening_folder path) m P
  opens =
      call_leads (GoesWell None) (opening_folder path) (asks.OpenFolder path) m P refl (λ end never. absurd never)
      (λ said k well. said_so said k (subst (λ (r : Result Names Fault). OpensFolder r m said k) absent well))

  by_length : (c : Bool) → Leads (GoesWell None) (if c then over (says.Failed kind.NotFound) else taking_memory (opening_folder path)) m P
  by_length true = over_leads (GoesWell None) (says.Failed kind.NotFound) m P (λ enough. refused)
  by_length false = taking_leads (GoesWell None) (opening_folder path) m P (λ enough. absurd (enough refl)) opens

  pub absent_plainly : (hint : Hint) → GoesPlainly m hint (steps.ReadDir path)
  absent_plainly hint = by_length (length path == 0)

  pub absent_breaks : (hint : Hint) → MayBreak m hint (steps.ReadDir path)
  absent_breaks hint done = absurd (let no : Some NotFound ≡ None = sym (ap (λ (r : PlainAnswer × Tree). fault_told r.0) refused) ∙ done in cc)

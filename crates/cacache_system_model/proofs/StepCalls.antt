-- The calls of a step, by its answer.
use Rattle.std.{proofs.Common.{rules, arith, ◌≡◌, ℕ, suc, Bool, true, false, if◌then◌else◌, List, [], ◌∷◌, ◌++◌, refl, ap, ap₂, subst, inl, inr}, specs.Prelude.{None}}
use Rattle.std_io.specs.declared.io.kind.ErrorKind.{ErrorKind}
use Rattle.std_io.specs.declared.io.kind.ErrorKind.TheVariants as kind
use Rattle.cacache_core.specs.Errors.{fault_of}
use Rattle.cacache_store.specs.{declared.store.{answer.Kind.{Kind}, plain.{PlainFile.{PlainFile}, PlainTemp.{PlainTemp}}}, Plain.{PlainStep, PlainAnswer, plain_step, plain_answer}}
use Rattle.cacache_store.specs.declared.store.answer.Kind.TheVariants as kinds
use Rattle.cacache_store.specs.declared.store.step.Step.TheVariants as steps
use Rattle.cacache_store.specs.declared.store.answer.Answer.TheVariants as answers
use Rattle.cacache_system.specs.{declared.call.{SystemCall.{SystemCall}, FileInfo.{FileInfo}, CallResult.{CallResult}, CallItem.{CallItem}}, Seen.{item, NumberedFile, NumberedTemp, NumberedStep, NumberedAnswer}, CallsOf.{Purpose, over, only, trying, appending, opening, checking, opened, to_sync, to_sync_folder, was_interrupted, interrupts, if_folder, unless_folder, Runs}, AnswersOf.{Hint, no_hint, persist, first, answer_of, failed_with}}
use Rattle.cacache_system.specs.declared.call.SystemCall.TheVariants as asks
use Rattle.cacache_system.specs.declared.call.CallResult.TheVariants as says
use Rattle.cacache_folder.specs.Goings.{interrupted}
use Rattle.cacache_calls.specs.Licence.{May, allows, looking_on}
use Rattle.cacache_system_model.specs.CallForms.{changes_nothing, makes_folder, writes_file, prepares, Form, Only, AnsweredInKind, One, Then, Syncs, Perhaps, Has, syncs_temp, moves}
use Rattle.cacache_system_model.proofs.{StageCalls.{same_call, only_folders, only_writes, only_looks, piece_looks, list_looks}, Arriving.{not_true, opens_or_fails, appends_or_fails, tells_or_fails, in_kind, is_item, one_call, over_none, Arrives, After, arrives, up_persists}}

-- ---- what a log sees of numbered files

abbrev pub plain_file : NumberedFile → PlainFile
plain_file f = record { left = f.left; bytes = None }

abbrev pub plain_temp : NumberedTemp → PlainTemp
plain_temp t = record { path = t.path; bytes = None }

abbrev pub plain_of : NumberedStep → PlainStep
plain_of step = plain_step plain_file plain_temp step

abbrev pub plain_said : NumberedAnswer → PlainAnswer
plain_said answer = plain_answer plain_file plain_temp answer

-- ---- answers of steps that failed

by_failed : (P : NumberedAnswer → Type 0) (step : NumberedStep) (why : ErrorKind) → P (answers.NoMemory step) → P (answers.Failed (fault_of why)) → P (failed_with step why)
by_failed P step why m f = search rules

-- ---- what holds of the calls of a step with this answer

-- a file is opened to append to it, and a write of a line answers so
abbrev pub Sent : List ℕ → List ℕ → ℕ → Form
Sent path line count calls =
    (number often : ℕ)
    × (calls ≡ item (asks.OpenToAppend path) (says.Opened number) ∷ (interrupted (asks.Write number line) often ++ item (asks.Write number line) (says.Count count) ∷ []))

abbrev pub Claim : PlainStep → PlainAnswer → Form
Claim (steps.MakeDirs p) t calls = Only makes_folder calls
Claim (steps.CreateTemp p) (answers.Temp u) calls = One (asks.CreateNew p 384) calls
Claim (steps.Write f b) t calls = Only writes_file calls
Claim (steps.SyncTemp f) (answers.Synced u) calls = Has syncs_temp calls
Claim (steps.Persist f p) answers.Done calls = Has (moves f.path p) calls
Claim (steps.Persist f p) t calls = Then (Only prepares) (Perhaps (asks.Rename f.path p)) calls
Claim (steps.Append p b) (answers.Took n) calls = Then (Only prepares) (Sent p b n) calls
Claim (steps.Exists p) t calls = One (asks.Stat p) calls
Claim (steps.SyncFile p) answers.Done calls = Syncs p calls
Claim (steps.SyncDir p) answers.Done calls = Syncs p calls
Claim step t calls = Unit {0}

-- ---- by step

append_none : (calls : List CallItem) → calls ≡ calls ++ []
append_none [] = refl
append_none (x ∷ calls) = ap (λ (l : List CallItem). x ∷ l) (append_none calls)

creates_one : (p : List ℕ) (calls : List CallItem) (f : ℕ) → Runs (first no_hint (steps.CreateTemp p)) calls (says.Opened f) → One (asks.CreateNew p 384) calls
creates_one p [] f (inl is) = absurd cc
creates_one p [] f (inr is) = absurd is
creates_one p (x ∷ calls) f runs = (says.Opened f, one_call (asks.CreateNew p 384) (x ∷ calls) (says.Opened f) runs)

creates_claim : (hint : Hint) (p : List ℕ) (calls : List CallItem) (end : CallResult) → Runs (first hint (steps.CreateTemp p)) calls end → Claim (steps.CreateTemp p) (plain_said (answer_of (steps.CreateTemp p) end)) calls
creates_claim hint p calls end runs = grind (arith, creates_one, by_failed)

persisted : (temp : NumberedTemp) (p : List ℕ) (calls before rest : List CallItem) (end : CallResult) → calls ≡ before ++ rest → Only prepares before → rest ≡ item (asks.Rename temp.path p) end ∷ []
    → Claim (steps.Persist (plain_temp temp) p) (plain_said (answer_of (steps.Persist temp p) end)) calls
persisted temp p calls before rest end same all is = grind (arith, by_failed)

persists_claim : (temp : NumberedTemp) (p : List ℕ) (calls : List CallItem) (end : CallResult) → Arrives (only (asks.Rename temp.path p)) calls end
    → Claim (steps.Persist (plain_temp temp) p) (plain_said (answer_of (steps.Persist temp p) end)) calls
persists_claim temp p calls end (inl (all, (why, is))) = search (rules, by_failed, append_none)
persists_claim temp p calls end (inr (before, rest, same, all, runs)) = search (rules, persisted, one_call)

-- ---- appends

interrupts_is : (why : ErrorKind) → interrupts why ≡ true → why ≡ kind.Interrupted
interrupts_is why is = grind (arith, not_true)

interrupted_is : (said : CallResult) → was_interrupted said ≡ true → said ≡ says.Failed kind.Interrupted
interrupted_is said is = grind (arith, interrupts_is, not_true)

-- the call was made until no signal interrupted it
abbrev Insisted : SystemCall → CallResult → Form
Insisted call end calls = (often : ℕ) × (calls ≡ interrupted call often ++ item call end ∷ [])

insists_after : (call : SystemCall) (x : CallItem) (calls : List CallItem) (end : CallResult) → x.call ≡ call → (b : Bool) → was_interrupted x.result ≡ b → (Runs (trying true call) calls end → Insisted call end calls)
    → Runs (if b then trying true call else over x.result) calls end → Insisted call end (x ∷ calls)
insists_after call x calls end is true was go runs =
    let more = go runs in
    (suc more.0, ap₂ (λ (y : CallItem) (l : List CallItem). y ∷ l) (is_item x call (says.Failed kind.Interrupted) is (interrupted_is x.result was)) more.1)
insists_after call x calls end is false was go runs =
    let none = over_none x.result calls end runs in
    (0, ap₂ (λ (y : CallItem) (l : List CallItem). y ∷ l) (is_item x call end is none.1) none.0)

insists : (call : SystemCall) (calls : List CallItem) (again : Bool) (n : ℕ) → Runs (trying again call) calls (says.Count n) → Insisted call (says.Count n) calls
insists call [] true n runs = absurd cc
insists call [] false n runs = absurd runs
insists call (x ∷ calls) again n runs =
    insists_after call x calls (says.Count n) (same_call call x.call runs.0) (was_interrupted x.result) refl (insists call calls true n) runs.1

pub kinds_rest : (before rest : List CallItem) → AnsweredInKind (before ++ rest) → AnsweredInKind rest
kinds_rest [] rest kinds = kinds
kinds_rest (x ∷ before) rest kinds = kinds_rest before rest kinds.1

sends_line : (p b : List ℕ) (calls : List CallItem) (n : ℕ) → AnsweredInKind calls → Runs (appending p b) calls (says.Count n) → Sent p b n calls
sends_line p b [] n kinds runs = absurd runs
sends_line p b (x ∷ calls) n kinds runs =
    let is : x.call ≡ asks.OpenToAppend p = same_call (asks.OpenToAppend p) x.call runs.0 in
    elim (appends_or_fails p x.result (in_kind x (asks.OpenToAppend p) is kinds.0)) [
      | inl (f, was) ↦
          let more = insists (asks.Write f b) calls false n (subst (After (appending p b) calls (says.Count n)) was runs.1) in
          (f, more.0, ap₂ (λ (y : CallItem) (l : List CallItem). y ∷ l) (is_item x (asks.OpenToAppend p) (says.Opened f) is was) more.1)
      | inr (why, failed) ↦
          let wrong : says.Failed why ≡ says.Count n = (over_none (says.Failed why) calls (says.Count n) (subst (After (appending p b) calls (says.Count n)) failed runs.1)).1 in
          absurd cc
    ]

appends_claim : (p b : List ℕ) (calls : List CallItem) (end : CallResult) → AnsweredInKind calls → Arrives (appending p b) calls end → Claim (steps.Append p b) (plain_said (answer_of (steps.Append p b) end)) calls
appends_claim p b calls end holds arrived = grind (arith, sends_line, kinds_rest, by_failed)

-- ---- syncs

abbrev ToSync : Purpose → Type 0
ToSync to_sync = Unit {0}
ToSync to_sync_folder = Unit {0}
ToSync purpose = ⊥

not_done : (why : ErrorKind) (calls : List CallItem) → Runs (over (says.Failed why)) calls says.Done → ⊥
not_done why calls runs =
    let wrong : says.Failed why ≡ says.Done = (over_none (says.Failed why) calls says.Done runs).1 in
    cc

syncs_file : (f : ℕ) (what : Kind) (calls : List CallItem) → Runs (unless_folder what (only (asks.Sync f))) calls says.Done → calls ≡ item (asks.Sync f) says.Done ∷ []
syncs_file f what calls runs = grind (arith, not_done, one_call)

syncs_folder : (f : ℕ) (what : Kind) (calls : List CallItem) → Runs (if_folder what kind.NotADirectory (only (asks.Sync f))) calls says.Done → calls ≡ item (asks.Sync f) says.Done ∷ []
syncs_folder f what calls runs = grind (arith, one_call, not_done)

syncs_opened : (purpose : Purpose) → ToSync purpose → (f : ℕ) (info : FileInfo) (calls : List CallItem) → Runs (opened purpose f info) calls says.Done → calls ≡ item (asks.Sync f) says.Done ∷ []
syncs_opened purpose to f info calls runs = grind (arith, syncs_file, syncs_folder)

syncs_checked : (purpose : Purpose) → ToSync purpose → (f : ℕ) (calls : List CallItem) → AnsweredInKind calls → Runs (checking purpose f) calls says.Done
    → (info : FileInfo) × (calls ≡ item (asks.StatFile f) (says.Info info) ∷ item (asks.Sync f) says.Done ∷ [])
syncs_checked purpose to f [] kinds runs = absurd runs
syncs_checked purpose to f (x ∷ calls) kinds runs =
    let is : x.call ≡ asks.StatFile f = same_call (asks.StatFile f) x.call runs.0 in
    elim (tells_or_fails f x.result (in_kind x (asks.StatFile f) is kinds.0)) [
      | inl (info, told) ↦
          (info, ap₂ (λ (y : CallItem) (l : List CallItem). y ∷ l) (is_item x (asks.StatFile f) (says.Info info) is told) (syncs_opened purpose to f info calls (subst (After (checking purpose f) calls says.Done) told runs.1)))
      | inr (why, failed) ↦ absurd (not_done why calls (subst (After (checking purpose f) calls says.Done) failed runs.1))
    ]

syncs_path : (purpose : Purpose) → ToSync purpose → (p : List ℕ) (calls : List CallItem) → AnsweredInKind calls → Runs (opening purpose p) calls says.Done → Syncs p calls
syncs_path purpose to p [] kinds runs = absurd runs
syncs_path purpose to p (x ∷ calls) kinds runs =
    let is : x.call ≡ asks.OpenToRead p = same_call (asks.OpenToRead p) x.call runs.0 in
    elim (opens_or_fails p x.result (in_kind x (asks.OpenToRead p) is kinds.0)) [
      | inl (f, was) ↦
          let more = syncs_checked purpose to f calls kinds.1 (subst (After (opening purpose p) calls says.Done) was runs.1) in
          (f, more.0, ap₂ (λ (y : CallItem) (l : List CallItem). y ∷ l) (is_item x (asks.OpenToRead p) (says.Opened f) is was) more.1)
      | inr (why, failed) ↦ absurd (not_done why calls (subst (After (opening purpose p) calls says.Done) failed runs.1))
    ]

file_claim : (p : List ℕ) (calls : List CallItem) (end : CallResult) → AnsweredInKind calls → Runs (opening to_sync p) calls end → Claim (steps.SyncFile p) (plain_said (answer_of (steps.SyncFile p) end)) calls
file_claim p calls end holds runs = grind (arith, syncs_path, by_failed)

folder_claim : (p : List ℕ) (calls : List CallItem) (end : CallResult) → AnsweredInKind calls → Runs (opening to_sync_folder p) calls end → Claim (steps.SyncDir p) (plain_said (answer_of (steps.SyncDir p) end)) calls
folder_claim p calls end holds runs = grind (arith, syncs_path, by_failed)

temp_claim : (t : NumberedTemp) (calls : List CallItem) (end : CallResult) → calls ≡ item (asks.Sync t.number) end ∷ [] → Claim (steps.SyncTemp (plain_temp t)) (plain_said (answer_of (steps.SyncTemp t) end)) calls
temp_claim t calls end is = grind (arith, by_failed)

-- ---- all steps

pub step_claims : (step : NumberedStep) (hint : Hint) (calls : List CallItem) (end : CallResult) → AnsweredInKind calls → Runs (first hint step) calls end → Claim (plain_of step) (plain_said (answer_of step end)) calls
step_claims (steps.MakeDirs p) hint calls end kinds runs = only_folders calls hint p end runs
step_claims (steps.CreateTemp p) hint calls end kinds runs = creates_claim hint p calls end runs
step_claims (steps.Write t b) hint calls end kinds runs = only_writes calls t.number b end runs
step_claims (steps.Persist t p) hint calls end kinds runs = persists_claim t p calls end (arrives (only (asks.Rename t.path p)) calls (persist hint t p) end (up_persists hint t p) kinds runs)
step_claims (steps.Append p b) hint calls end kinds runs = appends_claim p b calls end kinds (arrives (appending p b) calls (appending p b) end refl kinds runs)
step_claims (steps.Exists p) hint calls end kinds runs = (end, one_call (asks.Stat p) calls end runs)
step_claims (steps.SyncTemp t) hint calls end kinds runs = temp_claim t calls end (one_call (asks.Sync t.number) calls end runs)
step_claims (steps.SyncFile p) hint calls end kinds runs = file_claim p calls end kinds runs
step_claims (steps.SyncDir p) hint calls end kinds runs = folder_claim p calls end kinds runs
step_claims step hint calls end kinds runs = tt

-- a step that looks or lists changes nothing
pub step_looks : (step : NumberedStep) (hint : Hint) (calls : List CallItem) (end : CallResult) → May (allows looking_on (plain_of step)) → Runs (first hint step) calls end → Only changes_nothing calls
step_looks step hint calls end may runs = grind (arith, only_looks, piece_looks, list_looks)

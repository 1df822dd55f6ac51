-- Where calls lead from a stage.
use Rattle.std.{proofs.Common.{◌≡◌, Bool, true, false, if◌then◌else◌, List, [], ◌∷◌, refl, sym, subst, ◌⊎◌, inl, inr}, specs.Prelude.{None, Some}}
use Rattle.std_io.specs.declared.io.kind.ErrorKind.TheVariants as kind
use Rattle.cacache_system.specs.{declared.call.{SystemCall.{SystemCall}, CallItem.{CallItem}, CallResult.{CallResult}}, CallsOf.{Stage, over, only, trying, wants, after, was_interrupted, Ends, Runs}}
use Rattle.cacache_system.specs.declared.call.CallResult.TheVariants as says
use Rattle.cacache_system_model.specs.{Machine.{Machine}, Calls.{EachCall}, Laws.{Leads}}

-- a way in which calls may happen
abbrev pub Way : Type 1
Way = Machine → SystemCall → CallResult → Machine → Type 0

-- what holds at an end
abbrev pub Claim : Type 1
Claim = CallResult → Machine → Type 0

-- a step that is over
pub over_leads : (R : Way) (said : CallResult) (m : Machine) (P : Claim) → P said m → Leads R (over said) m P
over_leads R said m P holds [] end n runs each = subst (λ (x : Machine). P end x) each (subst (λ (r : CallResult). P r m) runs holds)
over_leads R said m P holds (item ∷ items) end n runs each = absurd (let none : None ≡ Some item.call = runs.0 in cc)

-- a stage that wants a call
pub call_leads : (R : Way) (s : Stage) (call : SystemCall) (m : Machine) (P : Claim) → wants s ≡ Some call → ((end : CallResult) → Ends s end → P end m)
    → ((said : CallResult) (n : Machine) → R m call said n → Leads R (after s said) n P) → Leads R s m P
call_leads R s call m P wanted ends leads [] end n runs each = subst (λ (x : Machine). P end x) each (ends end runs)
call_leads R s call m P wanted ends leads (item ∷ items) end n runs (next, happens, others) =
    let asked : wants s ≡ Some item.call = runs.0 in
    let same : item.call ≡ call = cc in
    leads item.result next (subst (λ (c : SystemCall). R m c item.result next) same happens) items end n runs.1 others

-- one call alone
pub only_leads : (R : Way) (call : SystemCall) (m : Machine) (P : Claim) → ((said : CallResult) (n : Machine) → R m call said n → P said n) → Leads R (only call) m P
only_leads R call m P holds =
    call_leads R (only call) call m P refl (λ end never. absurd never) (λ said n happens. over_leads R said n P (holds said n happens))

-- What becomes of a call that is tried until no signal interrupts it: it is over, or it may be given up.
abbrev pub Tried : Claim → Machine → CallResult → Machine → Type 0
Tried P m said n =
    ((was_interrupted said ≡ true) × (n ≡ m) × P (says.Failed kind.Interrupted) m)
    ⊎ ((was_interrupted said ≡ false) × P said n)

tried_on : (R : Way) (call : SystemCall) (m n : Machine) (P : Claim) (items : List CallItem) (said end : CallResult) (last : Machine) → Tried P m said n
    → (n ≡ m → P (says.Failed kind.Interrupted) m → Runs (trying true call) items end → EachCall R m items last → P end last)
    → Runs (if was_interrupted said then trying true call else over said) items end → EachCall R n items last → P end last
tried_on R call m n P items said end last (inl (is, same, gives_up)) again runs each =
    again same gives_up (subst (λ (b : Bool). Runs (if b then trying true call else over said) items end) is runs) (subst (λ (x : Machine). EachCall R x items last) same each)
tried_on R call m n P items said end last (inr (is, holds)) again runs each =
    over_leads R said n P holds items end last (subst (λ (b : Bool). Runs (if b then trying true call else over said) items end) is runs) each

ends_trying : (again : Bool) (call : SystemCall) (end : CallResult) (m n : Machine) (P : Claim) → Ends (trying again call) end → m ≡ n → (again ≡ true → P (says.Failed kind.Interrupted) m) → P end n
ends_trying true call end m n P ends same holds = subst (λ (x : Machine). P end x) same (subst (λ (e : CallResult). P e m) (sym ends) (holds refl))
ends_trying false call end m n P ends same holds = absurd ends

trying_on : (R : Way) (again : Bool) (call : SystemCall) (m : Machine) (P : Claim) → (again ≡ true → P (says.Failed kind.Interrupted) m)
    → ((said : CallResult) (n : Machine) → R m call said n → Tried P m said n) → Leads R (trying again call) m P
trying_on R again call m P gives_up tries [] end n runs each = ends_trying again call end m n P runs each gives_up
trying_on R again call m P gives_up tries (item ∷ items) end n runs (next, happens, others) =
    let asked : Some call ≡ Some item.call = runs.0 in
    let same : item.call ≡ call = cc in
    tried_on R call m next P items item.result end n (tries item.result next (subst (λ (c : SystemCall). R m c item.result next) same happens))
    (λ stays given_up more each. trying_on R true call m P (λ e. given_up) tries items end n more each) runs.1 others

-- a call that is tried again when a signal interrupts it
pub trying_leads : (R : Way) (call : SystemCall) (m : Machine) (P : Claim) → ((said : CallResult) (n : Machine) → R m call said n → Tried P m said n) → Leads R (trying false call) m P
trying_leads R call m P tries = trying_on R false call m P (λ e. absurd cc) tries

-- Calls that lead to the last stage of a rename or an append.
use Rattle.std.proofs.Common.{◌≡◌, ◌⊎◌, ℕ, Bool, true, false, if◌then◌else◌, List, [], ◌∷◌, ◌++◌, refl, sym, ap, ap₂, subst, inl, inr}
use Rattle.std_io.specs.declared.io.kind.ErrorKind.{ErrorKind}
use Rattle.cacache_store.specs.declared.store.answer.Kind.TheVariants as kinds
use Rattle.cacache_system.specs.{declared.call.{SystemCall.{SystemCall}, FileInfo.{FileInfo}, CallResult.{CallResult}, CallItem.{CallItem}}, Seen.{item, NumberedTemp}, CallsOf.{Stage, over, only, preparing, keeping, after, is_absent, give_mode, give, Runs}, AnswersOf.{Hint, rewrites, persist}}
use Rattle.cacache_system.specs.declared.call.SystemCall.TheVariants as asks
use Rattle.cacache_system.specs.declared.call.CallResult.TheVariants as says
use Rattle.cacache_system_model.{specs.CallForms.{prepares, has_kind, Only, AnsweredInKind}, proofs.StageCalls.{same_call, no_call}}

-- ---- what the system says

pub not_true : false ≡ true → ⊥
not_true is = cc

abbrev pub Fails : CallResult → Type 0
Fails said = (why : ErrorKind) × (said ≡ says.Failed why)

pub opens_or_fails : (path : List ℕ) (said : CallResult) → has_kind (asks.OpenToRead path) said ≡ true → ((f : ℕ) × (said ≡ says.Opened f)) ⊎ Fails said
opens_or_fails path (says.Opened f) is = inl (f, refl)
opens_or_fails path (says.Failed why) is = inr (why, refl)
opens_or_fails path said is = absurd (not_true is)

pub appends_or_fails : (path : List ℕ) (said : CallResult) → has_kind (asks.OpenToAppend path) said ≡ true → ((f : ℕ) × (said ≡ says.Opened f)) ⊎ Fails said
appends_or_fails path (says.Opened f) is = inl (f, refl)
appends_or_fails path (says.Failed why) is = inr (why, refl)
appends_or_fails path said is = absurd (not_true is)

stats_or_fails : (path : List ℕ) (said : CallResult) → has_kind (asks.Stat path) said ≡ true → ((info : FileInfo) × (said ≡ says.Info info)) ⊎ Fails said
stats_or_fails path (says.Info info) is = inl (info, refl)
stats_or_fails path (says.Failed why) is = inr (why, refl)
stats_or_fails path said is = absurd (not_true is)

pub tells_or_fails : (f : ℕ) (said : CallResult) → has_kind (asks.StatFile f) said ≡ true → ((info : FileInfo) × (said ≡ says.Info info)) ⊎ Fails said
tells_or_fails f (says.Info info) is = inl (info, refl)
tells_or_fails f (says.Failed why) is = inr (why, refl)
tells_or_fails f said is = absurd (not_true is)

-- a call that gives the file an owner or a mode, or syncs it
abbrev readies : SystemCall → Bool
readies (asks.SetOwner number owner group) = true
readies (asks.SetMode number mode) = true
readies (asks.Sync number) = true
readies call = false

readies_prepares : (call : SystemCall) → readies call ≡ true → prepares call ≡ true
readies_prepares (asks.SetOwner number owner group) is = refl
readies_prepares (asks.SetMode number mode) is = refl
readies_prepares (asks.Sync number) is = refl
readies_prepares call is = absurd (not_true is)

done_or_fails : (call : SystemCall) (said : CallResult) → readies call ≡ true → has_kind call said ≡ true → (said ≡ says.Done) ⊎ Fails said
done_or_fails (asks.SetOwner number owner group) says.Done r is = inl refl
done_or_fails (asks.SetOwner number owner group) (says.Failed why) r is = inr (why, refl)
done_or_fails (asks.SetOwner number owner group) said r is = absurd (not_true is)
done_or_fails (asks.SetMode number mode) says.Done r is = inl refl
done_or_fails (asks.SetMode number mode) (says.Failed why) r is = inr (why, refl)
done_or_fails (asks.SetMode number mode) said r is = absurd (not_true is)
done_or_fails (asks.Sync number) says.Done r is = inl refl
done_or_fails (asks.Sync number) (says.Failed why) r is = inr (why, refl)
done_or_fails (asks.Sync number) said r is = absurd (not_true is)
done_or_fails call said r is = absurd (not_true r)

-- the kind of a result that a known call got
pub in_kind : (x : CallItem) (call : SystemCall) → x.call ≡ call → has_kind x.call x.result ≡ true → has_kind call x.result ≡ true
in_kind x call is kind = subst (λ (c : SystemCall). has_kind c x.result ≡ true) is kind

pub is_item : (x : CallItem) (call : SystemCall) (said : CallResult) → x.call ≡ call → x.result ≡ said → x ≡ item call said
is_item x call said is same = ap₂ item is same

-- ---- one call

pub one_call : (call : SystemCall) (calls : List CallItem) (end : CallResult) → Runs (only call) calls end → calls ≡ item call end ∷ []
one_call call [] end runs = absurd runs
one_call call (x ∷ []) end (wanted, same) = ap (λ (y : CallItem). y ∷ []) (is_item x call end (same_call call x.call wanted) same)
one_call call (x ∷ y ∷ calls) end (wanted, next) = absurd (no_call y.call next.0)

pub over_none : (said : CallResult) (calls : List CallItem) (end : CallResult) → Runs (over said) calls end → (calls ≡ []) × (said ≡ end)
over_none said [] end runs = (refl, runs)
over_none said (x ∷ calls) end runs = absurd (no_call x.call runs.0)

-- ---- stages that lead to a last one

abbrev pub Up : Stage → Stage → Type 0
Up t (preparing call s) = (readies call ≡ true) × Up t s
Up t (keeping number synced path s) = Up t s
Up t s = s ≡ t

-- the calls led there, or one of them failed
abbrev pub Arrives : Stage → List CallItem → CallResult → Type 0
Arrives t calls end =
    (Only prepares calls × Fails end) ⊎ ((before rest : List CallItem) × (calls ≡ before ++ rest) × Only prepares before × Runs t rest end)

arrives_first : (x : CallItem) (t : Stage) (calls : List CallItem) (end : CallResult) → prepares x.call ≡ true → Arrives t calls end → Arrives t (x ∷ calls) end
arrives_first x t calls end is (inl (all, failed)) = inl ((is, all), failed)
arrives_first x t calls end is (inr (before, rest, same, all, runs)) = inr (x ∷ before, rest, ap (λ (l : List CallItem). x ∷ l) same, (is, all), runs)

failed_arrives : (t : Stage) (why : ErrorKind) (calls : List CallItem) (end : CallResult) → Runs (over (says.Failed why)) calls end → Arrives t calls end
failed_arrives t why [] end runs = inl (tt, (why, sym runs))
failed_arrives t why (x ∷ calls) end runs = absurd (no_call x.call runs.0)

at_once : (t s : Stage) (calls : List CallItem) (end : CallResult) → s ≡ t → Runs s calls end → Arrives t calls end
at_once t s calls end is runs = inr ([], calls, refl, tt, subst (λ (x : Stage). Runs x calls end) is runs)

up_gives_mode : (t s : Stage) (number : ℕ) (synced : Bool) (mode : ℕ) → Up t s → Up t (give_mode number synced mode s)
up_gives_mode t s number true mode up = (refl, (refl, up))
up_gives_mode t s number false mode up = (refl, up)

absent_arrives : (t s : Stage) (b : Bool) (why : ErrorKind) (calls : List CallItem) (end : CallResult) → (Runs s calls end → Arrives t calls end) → Runs (if b then s else over (says.Failed why)) calls end → Arrives t calls end
absent_arrives t s true why calls end go runs = go runs
absent_arrives t s false why calls end go runs = failed_arrives t why calls end runs

abbrev pub After : Stage → List CallItem → CallResult → CallResult → Type 0
After s calls end said = Runs (after s said) calls end

pub arrives : (t : Stage) (calls : List CallItem) (s : Stage) (end : CallResult) → Up t s → AnsweredInKind calls → Runs s calls end → Arrives t calls end
arrives t [] (preparing call s) end up kinds runs = absurd runs
arrives t (x ∷ calls) (preparing call s) end up kinds runs =
    let is : x.call ≡ call = same_call call x.call runs.0 in
    arrives_first x t calls end (subst (λ (c : SystemCall). prepares c ≡ true) (sym is) (readies_prepares call up.0))
    (elim (done_or_fails call x.result up.0 (in_kind x call is kinds.0)) [
      | inl done ↦ arrives t calls s end up.1 kinds.1 (subst (After (preparing call s) calls end) done runs.1)
      | inr failed ↦ failed_arrives t failed.0 calls end (subst (After (preparing call s) calls end) failed.1 runs.1)
    ])
arrives t [] (keeping number synced path s) end up kinds runs = absurd runs
arrives t (x ∷ calls) (keeping number synced path s) end up kinds runs =
    let is : x.call ≡ asks.Stat path = same_call (asks.Stat path) x.call runs.0 in
    arrives_first x t calls end (subst (λ (c : SystemCall). prepares c ≡ true) (sym is) refl)
    (elim (stats_or_fails path x.result (in_kind x (asks.Stat path) is kinds.0)) [
      | inl told ↦ arrives t calls (give number synced told.0 s) end (refl, up_gives_mode t s number synced told.0.mode up) kinds.1 (subst (After (keeping number synced path s) calls end) told.1 runs.1)
      | inr failed ↦ absent_arrives t s (is_absent failed.0) failed.0 calls end (arrives t calls s end up kinds.1) (subst (After (keeping number synced path s) calls end) failed.1 runs.1)
    ])
arrives t calls s end up kinds runs = at_once t s calls end up runs

pub up_persists : (hint : Hint) (temp : NumberedTemp) (path : List ℕ) → Up (only (asks.Rename temp.path path)) (persist hint temp path)
up_persists (rewrites synced) temp path = refl
up_persists hint temp path = refl

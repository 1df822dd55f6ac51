-- Listings are put together call by call.
use Rattle.std.{proofs.Common.{◌≡◌, ℕ, zero, suc, Bool, true, false, if◌then◌else◌, List, [], ◌∷◌, ◌++◌, refl, sym, ap, subst, inr}, specs.Prelude.{Some, Result, Ok, Err}}
use Rattle.std_io.specs.declared.io.kind.ErrorKind.{ErrorKind}
use Rattle.std_io.specs.declared.io.kind.ErrorKind.TheVariants as kind
use Rattle.cacache_store.specs.declared.store.answer.Name.{Name}
use Rattle.cacache_system.specs.{declared.call.{SystemCall.{SystemCall, TheVariants.{ReadNames}}, CallResult.{CallResult, TheVariants.{Bytes, Failed}}, CallItem.{CallItem}}, Seen.{item, MakesCall}, CallsOf.{Stage, Reader, over, taking_memory, reading_names, names_read, broken_off, wants, after, interrupts, Ends, Runs, Goes, RunLogged, CallsLogged}}
use Rattle.cacache_folder.specs.{Goings.{interrupted, Insists}, Listings.{Log, LeadsTo, Proceeds}}
use Rattle.cacache_folder.proofs.CallRuns.{append-more, gains_none, gains_more, goes_run, run_none, run_as, run_call, run_refused, calls_end, interrupted_only}

-- nothing was called
pub leads_none : (s : Stage) (log : Log) → LeadsTo s s log log
leads_none s log = ([], (λ rest end runs. runs), gains_none log)

-- calls, and then more
pub leads_on : (s t u : Stage) (old mid new : Log) → LeadsTo s t old mid → LeadsTo t u mid new → LeadsTo s u old new
leads_on s t u old mid new (xs, first, gains) (ys, later, more) = (
  xs ++ ys,
  λ rest end runs. subst (λ (items : List CallItem). Runs s items end) (sym (append-more xs ys rest)) (first (ys ++ rest) end (later rest end runs)),
  gains_more old mid new xs ys gains more,
)

-- calls, and then a run
pub leads_run : (s t : Stage) (end : CallResult) (old mid new : Log) → LeadsTo s t old mid → RunLogged t end mid new → RunLogged s end old new
leads_run s t end old mid new (xs, first, gains) (ys, runs, more) =
    (xs ++ ys, first ys end runs, gains_more old mid new xs ys gains more)

-- the same calls, with their end given in another form
pub leads_as : (s t u : Stage) (old new : Log) → LeadsTo s t old new → t ≡ u → LeadsTo s u old new
leads_as s t u old new leads same = subst (λ (x : Stage). LeadsTo s x old new) same leads

-- no call leads to what is the same stage
pub leads_same : (s t : Stage) (log : Log) → s ≡ t → LeadsTo s t log log
leads_same s t log same = leads_as s s t log log (leads_none s log) same

-- one call
pub leads_call : (s : Stage) (call : SystemCall) (result : CallResult) (old new : Log) → MakesCall old new call result → wants s ≡ Some call
    → LeadsTo s (after s result) old new
leads_call s call result old new makes wanted =
    (item call result ∷ [], (λ rest end runs. (wanted, runs)), makes)

took : (s : Stage) (items : List CallItem) (end : CallResult) → Runs s items end → Runs (taking_memory s) items end
took s [] end ends = inr ends
took s (x ∷ items) end runs = runs

-- memory is taken before the calls
pub leads_took : (s : Stage) (log : Log) → LeadsTo (taking_memory s) s log log
leads_took s log = ([], (λ rest end runs. took s rest end runs), gains_none log)

-- a run for which memory is taken before
pub run_taken : (s : Stage) (end : CallResult) (old new : Log) → RunLogged s end old new → RunLogged (taking_memory s) end old new
run_taken s end old new run = leads_run (taking_memory s) s end old old new (leads_took s old) run

-- memory is refused
pub refused : (s : Stage) (why : ErrorKind) (log : Log) → why ≡ kind.OutOfMemory → RunLogged (taking_memory s) (Failed why) log log
refused s why log is = subst (λ (k : ErrorKind). RunLogged (taking_memory s) (Failed k) log log) (sym is) (run_refused s log)

-- a failure without a call
pub fails : (s : Stage) (why : ErrorKind) (log : Log) → s ≡ over (Failed why) → RunLogged s (Failed why) log log
fails s why log is = run_as (over (Failed why)) s (Failed why) log log (run_none (over (Failed why)) (Failed why) log refl) (sym is)

-- one call, which fails
pub fails_call : (s : Stage) (call : SystemCall) (result : CallResult) (why : ErrorKind) (old new : Log) → MakesCall old new call result → wants s ≡ Some call
    → after s result ≡ over (Failed why) → RunLogged s (Failed why) old new
fails_call s call result why old new makes wanted is =
    run_call s call result (Failed why) old new new makes wanted (fails (after s result) why new is)

-- calls, and then what a value or a failure says
pub proceeds_on : {A : Type 0} (s t : Stage) (go : A → Stage) (r : Result A ErrorKind) (old mid new : Log) → LeadsTo s t old mid
    → Proceeds t go r mid new → Proceeds s go r old new
proceeds_on s t go (Ok value) old mid new leads next = leads_on s t (go value) old mid new leads next
proceeds_on s t go (Err why) old mid new leads next = leads_run s t (Failed why) old mid new leads next

-- from what is the same stage
pub proceeds_from : {A : Type 0} (s t : Stage) (go : A → Stage) (r : Result A ErrorKind) (old new : Log) → s ≡ t
    → Proceeds t go r old new → Proceeds s go r old new
proceeds_from s t go r old new same next = subst (λ (x : Stage). Proceeds x go r old new) (sym same) next

-- ---- reads of names

names_same : (result : CallResult) (again : Bool) (r : Reader) (found : List Name)
    → after (reading_names again r found) result ≡ after (reading_names true r found) result
names_same (Failed why) again r found = refl
names_same result again r found = refl

reads : (r : Reader) (found : List Name) (result : CallResult) (n : ℕ) (again : Bool)
    → Goes (reading_names again r found) (interrupted (ReadNames r.number 4096) n ++ item (ReadNames r.number 4096) result ∷ []) (after (reading_names true r found) result)
reads r found result zero again = (refl, names_same result again r found)
reads r found result (suc n) again = (refl, reads r found result n true)

-- names are read until no signal interrupts it
insists_names : (r : Reader) (found : List Name) (result : CallResult) (old new : Log) → Insists (ReadNames r.number 4096) result old new
    → CallsLogged (reading_names false r found) (after (reading_names true r found) result) old new
insists_names r found result old new (n, gains) =
    (interrupted (ReadNames r.number 4096) n ++ item (ReadNames r.number 4096) result ∷ [], reads r found result n false, gains)

as_leads : (s t : Stage) (old new : Log) → CallsLogged s t old new → LeadsTo s t old new
as_leads s t old new (items, goes, gains) = (items, (λ rest end runs. goes_run s t items rest end goes runs), gains)

as_same : (number size : ℕ) (r : Reader) (result : CallResult) (old new : Log) → Insists (ReadNames number size) result old new → number ≡ r.number → size ≡ 4096
    → Insists (ReadNames r.number 4096) result old new
as_same number size r result old new insists is sized =
    subst (λ (n : ℕ). Insists (ReadNames r.number n) result old new) sized (subst (λ (n : ℕ). Insists (ReadNames n size) result old new) is insists)

-- some were read
pub names_leads : (r : Reader) (found : List Name) (number size : ℕ) (bytes : List ℕ) (old new : Log) → Insists (ReadNames number size) (Bytes bytes) old new
    → number ≡ r.number → size ≡ 4096 → LeadsTo (reading_names false r found) (names_read r bytes found) old new
names_leads r found number size bytes old new insists is sized =
    as_leads (reading_names false r found) (names_read r bytes found) old new
    (insists_names r found (Bytes bytes) old new (as_same number size r (Bytes bytes) old new insists is sized))

names_ends : (r : Reader) (found : List Name) (why : ErrorKind) (b : Bool) → interrupts why ≡ b
    → Ends (if b then reading_names true r found else over (Failed (broken_off why))) (Failed (broken_off why))
names_ends r found why true is = ap (λ (k : ErrorKind). Failed (broken_off k)) (interrupted_only why is)
names_ends r found why false is = refl

-- they can't be read
pub names_fails : (r : Reader) (found : List Name) (number size : ℕ) (why : ErrorKind) (old new : Log) → Insists (ReadNames number size) (Failed why) old new
    → number ≡ r.number → size ≡ 4096 → RunLogged (reading_names false r found) (Failed (broken_off why)) old new
names_fails r found number size why old new insists is sized =
    calls_end (reading_names false r found) (after (reading_names true r found) (Failed why)) (Failed (broken_off why)) old new
    (insists_names r found (Failed why) old new (as_same number size r (Failed why) old new insists is sized))
    (names_ends r found why (interrupts why) refl)

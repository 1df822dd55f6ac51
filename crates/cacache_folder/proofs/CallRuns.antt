-- Runs of system calls are put together call by call.
use Rattle.std.proofs.Common.{◌≡◌, ℕ, zero, suc, Bool, true, false, if◌then◌else◌, List, [], ◌∷◌, ◌++◌, refl, sym, ap, subst, ◌∙◌, inl, inr}
use Rattle.std.specs.Prelude.{None, Some, option_map}
use Rattle.std_io.specs.declared.io.kind.ErrorKind.{ErrorKind}
use Rattle.std_io.specs.declared.io.kind.ErrorKind.TheVariants as kind
use Rattle.cacache_system.specs.{declared.call.{SystemCall.{SystemCall, TheVariants.{Read}}, CallResult.{CallResult, TheVariants.{Failed}}, CallItem.{CallItem}}, Seen.{item, GainsCalls, MakesCall}, CallsOf.{Stage, over, trying, taking_memory, reading_front, wants, after, interrupts, Ends, Runs, Goes, RunLogged, CallsLogged}}
use Rattle.cacache_folder.specs.{Goings.{interrupted, Waits, Insists}, Listings.{Log}}

append-nil : (xs : List CallItem) → xs ++ [] ≡ xs
append-nil [] = refl
append-nil (x ∷ xs) = ap (λ ys. x ∷ ys) (append-nil xs)

pub append-more : (xs ys zs : List CallItem) → (xs ++ ys) ++ zs ≡ xs ++ (ys ++ zs)
append-more [] ys zs = refl
append-more (x ∷ xs) ys zs = ap (λ l. x ∷ l) (append-more xs ys zs)

-- a log to which nothing was added
pub gains_none : (log : Log) → GainsCalls log log []
gains_none None = refl
gains_none (Some log) = ap Some (sym (append-nil log))

-- a log to which more was added
pub gains_more : (old mid new : Log) (xs ys : List CallItem) → GainsCalls old mid xs → GainsCalls mid new ys → GainsCalls old new (xs ++ ys)
gains_more None mid new xs ys f g = g ∙ ap (option_map (λ log. log ++ ys)) f
gains_more (Some log) mid new xs ys f g = g ∙ ap (option_map (λ l. l ++ ys)) f ∙ ap Some (append-more log xs ys)

-- no call is made
pub run_none : (s : Stage) (end : CallResult) (log : Log) → Ends s end → RunLogged s end log log
run_none s end log ends = ([], ends, gains_none log)

-- a call, and then a run
pub run_call : (s : Stage) (call : SystemCall) (result end : CallResult) (old mid new : Log)
    → MakesCall old mid call result → wants s ≡ Some call → RunLogged (after s result) end mid new → RunLogged s end old new
run_call s call result end old mid new makes wanted (items, runs, more) =
    (item call result ∷ items, (wanted, runs), gains_more old mid new _ items makes more)

-- one call, which ends the run
pub run_one : (s : Stage) (call : SystemCall) (result end : CallResult) (old new : Log)
    → MakesCall old new call result → wants s ≡ Some call → Ends (after s result) end → RunLogged s end old new
run_one s call result end old new makes wanted ends =
    run_call s call result end old new new makes wanted (run_none (after s result) end new ends)

pub goes_run : (s t : Stage) (xs ys : List CallItem) (end : CallResult) → Goes s xs t → Runs t ys end → Runs s (xs ++ ys) end
goes_run s t [] ys end is runs = subst (λ (x : Stage). Runs x ys end) (sym is) runs
goes_run s t (x ∷ xs) ys end (wanted, goes) runs = (wanted, goes_run (after s x.result) t xs ys end goes runs)

goes_on : (s t u : Stage) (xs ys : List CallItem) → Goes s xs t → Goes t ys u → Goes s (xs ++ ys) u
goes_on s t u [] ys is goes = subst (λ (x : Stage). Goes x ys u) (sym is) goes
goes_on s t u (x ∷ xs) ys (wanted, first) goes = (wanted, goes_on (after s x.result) t u xs ys first goes)

-- one call
pub calls_one : (s t : Stage) (call : SystemCall) (result : CallResult) (old new : Log)
    → MakesCall old new call result → wants s ≡ Some call → after s result ≡ t → CallsLogged s t old new
calls_one s t call result old new makes wanted leads = (item call result ∷ [], (wanted, leads), makes)

-- calls, and then more calls
pub calls_on : (s t u : Stage) (old mid new : Log) → CallsLogged s t old mid → CallsLogged t u mid new → CallsLogged s u old new
calls_on s t u old mid new (xs, first, gains) (ys, goes, more) =
    (xs ++ ys, goes_on s t u xs ys first goes, gains_more old mid new xs ys gains more)

-- the same calls, with their end given in another form
pub calls_as : (s t u : Stage) (old new : Log) → CallsLogged s t old new → t ≡ u → CallsLogged s u old new
calls_as s t u old new calls same = subst (λ (x : Stage). CallsLogged s x old new) same calls

-- calls, and then a run
pub calls_run : (s t : Stage) (end : CallResult) (old mid new : Log) → CallsLogged s t old mid → RunLogged t end mid new → RunLogged s end old new
calls_run s t end old mid new (xs, goes, gains) (ys, runs, more) =
    (xs ++ ys, goes_run s t xs ys end goes runs, gains_more old mid new xs ys gains more)

-- calls that end here are a run
pub calls_end : (s t : Stage) (end : CallResult) (old new : Log) → CallsLogged s t old new → Ends t end → RunLogged s end old new
calls_end s t end old new calls ends = calls_run s t end old new new calls (run_none t end new ends)

-- memory is taken before the calls
pub run_took : (s : Stage) (end : CallResult) (old new : Log) → RunLogged s end old new → RunLogged (taking_memory s) end old new
run_took s end old new ([], ends, gains) = ([], inr ends, gains)
run_took s end old new (x ∷ items, runs, gains) = (x ∷ items, runs, gains)

-- memory is refused
pub run_refused : (s : Stage) (log : Log) → RunLogged (taking_memory s) (Failed kind.OutOfMemory) log log
run_refused s log = run_none (taking_memory s) (Failed kind.OutOfMemory) log (inl refl)

-- ---- calls that signals interrupt

interrupted-more : (call : SystemCall) (n : ℕ) → interrupted call n ++ item call (Failed kind.Interrupted) ∷ [] ≡ interrupted call (suc n)
interrupted-more call zero = refl
interrupted-more call (suc n) = ap (λ items. item call (Failed kind.Interrupted) ∷ items) (interrupted-more call n)

pub interrupted_only : (why : ErrorKind) → interrupts why ≡ true → why ≡ kind.Interrupted
interrupted_only kind.Interrupted is = refl
interrupted_only _ is = absurd (let is : false ≡ true = is in cc)

-- one signal more
pub waits_more : (call made : SystemCall) (why : ErrorKind) (old mid new : Log) → Waits call old mid → MakesCall mid new made (Failed why)
    → made ≡ call → interrupts why ≡ true → Waits call old new
waits_more call made why old mid new (n, gains) makes same is =
    let item_is : item made (Failed why) ∷ [] ≡ item call (Failed kind.Interrupted) ∷ [] =
    ap (λ (c : SystemCall). item c (Failed why) ∷ []) same ∙ ap (λ (k : ErrorKind). item call (Failed k) ∷ []) (interrupted_only why is) in (
      suc n,
      subst (λ (items : List CallItem). GainsCalls old new items)
          (ap (λ (items : List CallItem). interrupted call n ++ items) item_is ∙ interrupted-more call n)
          (gains_more old mid new (interrupted call n) _ gains makes),
    )

-- the last call
pub insists_last : (call made : SystemCall) (result : CallResult) (old mid new : Log) → Waits call old mid → MakesCall mid new made result
    → made ≡ call → Insists call result old new
insists_last call made result old mid new (n, gains) makes same =
    (n, gains_more old mid new (interrupted call n) _ gains (subst (λ (c : SystemCall). MakesCall mid new c result) same makes))

tried_ends : (call : SystemCall) (why : ErrorKind) (b : Bool) → interrupts why ≡ b → Ends (if b then trying true call else over (Failed why)) (Failed why)
tried_ends call why true is = ap Failed (interrupted_only why is)
tried_ends call why false is = refl

try_ends : (call : SystemCall) (result : CallResult) → Ends (after (trying true call) result) result
try_ends call (Failed why) = tried_ends call why (interrupts why) refl
try_ends call _ = refl

tries : (call : SystemCall) (result : CallResult) (n : ℕ) (again : Bool) → Runs (trying again call) (interrupted call n ++ item call result ∷ []) result
tries call result zero again = (refl, try_ends call result)
tries call result (suc n) again = (refl, tries call result n true)

-- a call that signals interrupt is a run
pub insists_run : (call : SystemCall) (result : CallResult) (old new : Log) → Insists call result old new → RunLogged (trying false call) result old new
insists_run call result old new (n, gains) = (interrupted call n ++ item call result ∷ [], tries call result n false, gains)

front_same : (result : CallResult) (again : Bool) (size file : ℕ) → after (reading_front again size file) result ≡ after (reading_front true size file) result
front_same (Failed why) again size file = refl
front_same result again size file = refl

fronts : (file size : ℕ) (result : CallResult) (n : ℕ) (again : Bool)
    → Goes (reading_front again size file) (interrupted (Read file size) n ++ item (Read file size) result ∷ []) (after (reading_front true size file) result)
fronts file size result zero again = (refl, front_same result again size file)
fronts file size result (suc n) again = (refl, fronts file size result n true)

-- so is the first read of a whole file
pub insists_front : (file size : ℕ) (result : CallResult) (old new : Log) → Insists (Read file size) result old new
    → CallsLogged (reading_front false size file) (after (reading_front true size file) result) old new
insists_front file size result old new (n, gains) = (interrupted (Read file size) n ++ item (Read file size) result ∷ [], fronts file size result n false, gains)

-- the same run, from what is the same stage
pub run_as : (s t : Stage) (end : CallResult) (old new : Log) → RunLogged s end old new → s ≡ t → RunLogged t end old new
run_as s t end old new run same = subst (λ (x : Stage). RunLogged x end old new) same run

-- calls that lead to the end, or fail
pub calls_over : (s t : Stage) (end : CallResult) (old new : Log) → CallsLogged s t old new → t ≡ over end → RunLogged s end old new
calls_over s t end old new calls same = calls_end s (over end) end old new (calls_as s t (over end) old new calls same) refl

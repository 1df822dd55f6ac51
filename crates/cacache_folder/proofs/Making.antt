-- Folders that are made, files that are copied, and temporary files that are moved, call by call.
use Rattle.std.proofs.Common.{◌≡◌, ℕ, Bool, true, false, if◌then◌else◌, List, [], refl, sym, ap, subst, ◌∙◌, ◌<◌, ◌-◌, zero, suc, arith}
use Rattle.std.specs.Prelude.{Option, Result, Ok, Err, IfErr, Some}
use Rattle.std_io.specs.{IoError.{error_kind}, declared.io.{error.Error.{Error}, kind.ErrorKind.{ErrorKind}}}
use Rattle.cacache_system.specs.{declared.call.{CallResult.{TheVariants.{Done, Failed, Info}, CallResult}, SystemCall.{SystemCall, TheVariants.{Stat, Rename}}, CallItem.{CallItem}, FileInfo.{FileInfo}}, Seen.{said, MakesCall, NumberedTemp}, CallsOf.{Stage, over, standing, making, confirming, below, climb, unmade, above_of, is_absent, after, Ends, RunLogged, CallsLogged, taking_memory, making_fresh, scrapping, wants, already_exists, name_taken, only, preparing, keeping, give}, AnswersOf.{no_hint, rewrites}}
use Rattle.cacache_folder.specs.{Goings.{onward, made, GoesOrEnds}, Listings.{Log}, Moves.{GoesBefore, Rewrites, Persists}}
use Rattle.cacache_folder.proofs.CallRuns.{calls_end, calls_on, calls_one, run_call, run_one, calls_run, calls_over}
use Rattle.cacache_system.specs.declared.call.SystemCall.TheVariants as asks

-- a folder that can't be made may be there
pub making_confirms : (again : Bool) (path : List ℕ) (todo : List (List ℕ)) (why : ErrorKind) → is_absent why ≡ false
    → after (making again path todo) (Failed why) ≡ confirming why path todo
making_confirms again path todo why is = ap (λ (b : Bool). if b then unmade again why path todo else confirming why path todo) is

-- a folder that is missing may be made
pub standing_makes : (path : List ℕ) (why : ErrorKind) → is_absent why ≡ true → after (standing path) (Failed why) ≡ making false path []
standing_makes path why is = ap (λ (b : Bool). if b then making false path [] else over (Failed why)) is

-- what a confirmed folder leads to
pub sure_made : (again : Bool) (path : List ℕ) (todo : List (List ℕ)) (r : Result Bool Error) → IfErr r (λ error. is_absent (error_kind error) ≡ false)
    → onward (λ _. below todo) r ≡ made again path todo r
sure_made again path todo (Ok was) sure = refl
sure_made again path todo (Err error) sure =
    sym (ap (λ (b : Bool). if b then unmade again (error_kind error) path todo else over (Failed (error_kind error))) sure)

again_so : (path : List ℕ) (todo : List (List ℕ)) (why : ErrorKind) (b : Bool) → (if b then unmade true why path todo else over (Failed why)) ≡ over (Failed why)
again_so path todo why true = refl
again_so path todo why false = refl

-- a folder that is made again
pub made_again : (path : List ℕ) (todo : List (List ℕ)) (r : Result Bool Error) → made true path todo r ≡ onward (λ _. below todo) r
made_again path todo (Ok was) = refl
made_again path todo (Err error) = again_so path todo (error_kind error) (is_absent (error_kind error))

-- the folder above is made first
pub made_climbs : (path : List ℕ) (todo : List (List ℕ)) (why : ErrorKind) (above : Option (List ℕ)) → is_absent why ≡ true → above ≡ above_of path
    → (if is_absent why then unmade false why path todo else over (Failed why)) ≡ climb above why path todo
made_climbs path todo why above is same =
    ap (λ (b : Bool). if b then unmade false why path todo else over (Failed why)) is ∙ ap (λ (o : Option (List ℕ)). climb o why path todo) (sym same)

-- a folder that can't be made
pub made_fails : (path : List ℕ) (todo : List (List ℕ)) (why : ErrorKind) → is_absent why ≡ false
    → (if is_absent why then unmade false why path todo else over (Failed why)) ≡ over (Failed why)
made_fails path todo why is = ap (λ (b : Bool). if b then unmade false why path todo else over (Failed why)) is

settled_ends : (r : Result Bool Error) → Ends (onward (λ _. over Done) r) (said (λ _. Done) r)
settled_ends (Ok was) = refl
settled_ends (Err error) = refl

-- folders that were made are a run
pub dirs_run : (s t : Stage) (r : Result Bool Error) (old new : Log) → CallsLogged s (onward (λ _. over Done) r) old new → s ≡ t
    → RunLogged t (said (λ _. Done) r) old new
dirs_run s t r old new calls same =
    subst (λ (x : Stage). RunLogged x (said (λ _. Done) r) old new) same (calls_end s (onward (λ _. over Done) r) (said (λ _. Done) r) old new calls (settled_ends r))

-- the stage that a guess chooses
pub guessed : (path : List ℕ) (b : Bool) → b ≡ true → making false path [] ≡ (if b then making false path [] else standing path)
guessed path b is = sym (ap (λ (x : Bool). if x then making false path [] else standing path) is)

pub not_guessed : (path : List ℕ) (b : Bool) → b ≡ false → standing path ≡ (if b then making false path [] else standing path)
not_guessed path b is = sym (ap (λ (x : Bool). if x then making false path [] else standing path) is)

-- ---- calls of a copy: what is tried after a name that is taken, and what a failed one leaves

-- a stage that is chosen
pub chosen : (b : Bool) (s t : Stage) → b ≡ true → s ≡ (if b then s else t)
chosen true s t is = refl
chosen false s t is = absurd cc

pub passed_over : (b : Bool) (s t : Stage) → b ≡ false → t ≡ (if b then s else t)
passed_over true s t is = absurd cc
passed_over false s t is = refl

-- a call, and then more of them
pub goes_call : {A : Type 0} (s : Stage) (go : A → Stage) (call : SystemCall) (result : CallResult) (r : Result A Error) (old mid new : Option (List CallItem))
    → MakesCall old mid call result → wants s ≡ Some call → GoesOrEnds (after s result) go r mid new → GoesOrEnds s go r old new
goes_call s go call result (Ok value) old mid new makes wanted more =
    calls_on s (after s result) (go value) old mid new (calls_one s (after s result) call result old mid makes wanted refl) more
goes_call s go call result (Err error) old mid new makes wanted more = run_call s call result (Failed (error_kind error)) old mid new makes wanted more

-- a name is taken: the next one is tried, if there is one
pub taken_next : (left number : ℕ) (why : ErrorKind) (from path : List ℕ) → 0 < left → already_exists why ≡ true
    → taking_memory (making_fresh (left - 1) number from path) ≡ name_taken left number why from path
taken_next zero number why from path some is = absurd (omega (arith, some))
taken_next (suc left) number why from path some is =
    let e : suc left - 1 ≡ left = omega arith in
    ap (λ n. taking_memory (making_fresh n number from path)) e ∙ chosen (already_exists why) (taking_memory (making_fresh left number from path)) _ is

-- a fresh file that isn't wanted is removed
pub scrapped : (why : ErrorKind) (fresh : List ℕ) (answer : CallResult) (old new : Option (List CallItem)) → MakesCall old new (asks.RemoveFile fresh) answer
    → RunLogged (scrapping why fresh) (Failed why) old new
scrapped why fresh answer old new makes = run_one (scrapping why fresh) (asks.RemoveFile fresh) answer (Failed why) old new makes refl refl

-- ---- moves of temporary files, after what comes before them

-- a call, and then what comes before any stage
pub prepares : (call : SystemCall) (before : Stage → Stage) (r : Result (Unit {0}) Error) (old mid new : Log) → MakesCall old mid call Done → GoesBefore before r mid new
    → GoesBefore (λ s. preparing call (before s)) r old new
prepares call before r old mid new makes goes =
    λ s. calls_on (preparing call (before s)) (before s) (onward (λ _. s) r) old mid new (calls_one (preparing call (before s)) (before s) call Done old mid makes refl refl) (goes s)

-- the call fails
pub prepares_not : (call : SystemCall) (before : Stage → Stage) (error : Error) (old new : Log) → MakesCall old new call (Failed (error_kind error))
    → GoesBefore {A = Unit {0}} (λ s. preparing call (before s)) (Err error) old new
prepares_not call before error old new makes =
    λ s. calls_one (preparing call (before s)) (over (Failed (error_kind error))) call (Failed (error_kind error)) old new makes refl refl

-- a file that is replaced was found
pub keeps : (number : ℕ) (b : Bool) (path : List ℕ) (info : FileInfo) (r : Result (Unit {0}) Error) (old mid new : Log)
    → MakesCall old mid (Stat path) (Info info) → GoesBefore (give number b info) r mid new → GoesBefore (keeping number b path) r old new
keeps number b path info r old mid new makes goes =
    λ s. calls_on (keeping number b path s) (give number b info s) (onward (λ _. s) r) old mid new
    (calls_one (keeping number b path s) (give number b info s) (Stat path) (Info info) old mid makes refl refl) (goes s)

abbrev absent_or : Bool → ErrorKind → Stage → Stage
absent_or b why s = if b then s else over (Failed why)

-- it can't be looked at
pub keeps_not : (number : ℕ) (b : Bool) (path : List ℕ) (error : Error) (old new : Log) → MakesCall old new (Stat path) (Failed (error_kind error))
    → is_absent (error_kind error) ≡ false → GoesBefore {A = Unit {0}} (keeping number b path) (Err error) old new
keeps_not number b path error old new makes is =
    λ s. calls_one (keeping number b path s) (over (Failed (error_kind error))) (Stat path) (Failed (error_kind error)) old new makes refl
    (ap (λ (x : Bool). absent_or x (error_kind error) s) is)

-- a temporary file replaces one that was read
pub rewrites_kept : (temp : NumberedTemp) (b : Bool) (path : List ℕ) (value : Unit {0}) (r : Result (Unit {0}) Error) (old mid new : Log)
    → GoesBefore (keeping temp.number b path) (Ok value) old mid → MakesCall mid new (Rename temp.path path) (said (λ _. Done) r)
    → Rewrites temp b path r old new
rewrites_kept temp b path value r old mid new keeps_it makes =
    let s : Stage = only (Rename temp.path path) in
    let end : CallResult = said (λ _. Done) r in
    calls_run (keeping temp.number b path s) s end old mid new (keeps_it s) (run_one s (Rename temp.path path) end end mid new makes refl refl)

pub rewrites_not : (temp : NumberedTemp) (b : Bool) (path : List ℕ) (error : Error) (old new : Log)
    → GoesBefore {A = Unit {0}} (keeping temp.number b path) (Err error) old new → Rewrites {A = Unit {0}} temp b path (Err error) old new
rewrites_not temp b path error old new keeps_not =
    let s : Stage = only (Rename temp.path path) in
    calls_over (keeping temp.number b path s) _ (Failed (error_kind error)) old new (keeps_not s) refl

-- so it is put, or without more
pub persists_kept : (temp : NumberedTemp) (b : Bool) (path : List ℕ) (r : Result (Unit {0}) Error) (old new : Log) → Rewrites temp b path r old new → Persists temp path r old new
persists_kept temp b path r old new run = (rewrites b, run)

pub persists_plain : (temp : NumberedTemp) (path : List ℕ) (r : Result (Unit {0}) Error) (old new : Log) → MakesCall old new (Rename temp.path path) (said (λ _. Done) r)
    → Persists temp path r old new
persists_plain temp path r old new makes =
    let end : CallResult = said (λ _. Done) r in
    (no_hint, run_one (only (Rename temp.path path)) (Rename temp.path path) end end old new makes refl refl)

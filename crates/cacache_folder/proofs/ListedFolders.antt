-- Folders that are opened and listed.
use Rattle.std.proofs.{Common.{◌≡◌, ◌≢◌, ◌==◌, ◌⊎◌, ◌-◌, ◌^◌, ℕ, Bool, true, false, if◌then◌else◌, List, [], length, refl, sym, ap, subst, ◌∙◌, inl, inr}, lemmas.Bool.Decides.{eqb_tells}}
use Rattle.std.specs.Prelude.{Result, Ok, Err}
use Rattle.std_io.specs.declared.io.kind.ErrorKind.{ErrorKind}
use Rattle.std_io.specs.declared.io.kind.ErrorKind.TheVariants as kind
use Rattle.cacache_store.specs.declared.store.step.Step.TheVariants as steps
use Rattle.cacache_store.specs.declared.store.answer.Answer.TheVariants as answers
use Rattle.cacache_store.specs.declared.store.answer.Name.{Name}
use Rattle.cacache_system.specs.{declared.call.{SystemCall.TheVariants.{OpenFolder, ReadNames}, CallResult.{CallResult, TheVariants.{Bytes, Failed, Names}}}, Seen.{MakesCall, names_in, with_slash, NumberedAnswer}, CallsOf.{Stage, Reader, over, taking_memory, opening_folder, following, reading_names, reader, read_once, more_names, next_name, names_read, broken_off, is_no_folder, unopened, RunLogged}, AnswersOf.{no_hint, list, answer_of, failed_with, StepRuns}}
use Rattle.cacache_folder.specs.{Goings.{Insists}, Listings.{Log, LeadsTo, ListsNames, ReadsNames, ReadsAllNames, OpensFolder, ListsFolder, listed, reader_of}}
use Rattle.cacache_folder.proofs.{CallRuns.{run_none}, Listings.{leads_on, leads_run, leads_as, leads_call, leads_took, run_taken, fails, proceeds_on, proceeds_from, names_leads, names_fails}}

-- a number that isn't 0
pub not_empty : (n : ℕ) → false ≡ (n == 0) → n ≢ 0
not_empty n is none = absurd (let no_way : false ≡ true = is ∙ ap (λ (k : ℕ). k == 0) none in cc)

abbrev read_if : Bool → Reader → List ℕ → List Name → Stage
read_if b r bytes found = if b then listed found else next_name (read_once r) (names_in bytes) found

none_read : (r : Reader) (bytes : List ℕ) (found : List Name) → length bytes ≡ 0 → names_read r bytes found ≡ listed found
none_read r bytes found is = ap (λ (n : ℕ). read_if (n == 0) r bytes found) is

some_so : (n : ℕ) → n ≢ 0 → (((n == 0) ≡ true) × (n ≡ 0)) ⊎ (((n == 0) ≡ false) × (n ≢ 0)) → (n == 0) ≡ false
some_so n some (inl holds) = absurd (some holds.1)
some_so n some (inr not_so) = not_so.0

some_read : (r : Reader) (bytes : List ℕ) (found : List Name) → length bytes ≢ 0 → names_read r bytes found ≡ next_name (read_once r) (names_in bytes) found
some_read r bytes found some = ap (λ (b : Bool). read_if b r bytes found) (some_so (length bytes) some (eqb_tells (length bytes) 0))

-- no more names came
pub reads_none : (number size : ℕ) (folder bytes : List ℕ) (found : List Name) (old new : Log) → Insists (ReadNames number size) (Bytes bytes) old new
    → size ≡ 4096 → length bytes ≡ 0 → ReadsNames number folder found found (Ok false) old new
reads_none number size folder bytes found old new insists sized none r is at =
    leads_as (reading_names false r found) (names_read r bytes found) (listed found) old new
    (names_leads r found number size bytes old new insists is sized) (none_read r bytes found none)

-- some came, and were listed
pub reads_some : (number size : ℕ) (folder bytes given : List ℕ) (olds news : List Name) (value : Unit {0}) (old mid new : Log)
    → Insists (ReadNames number size) (Bytes bytes) old mid → size ≡ 4096 → length bytes ≢ 0 → given ≡ bytes
    → ListsNames {A = Unit {0}} folder given olds news (Ok value) mid new → ReadsNames number folder olds news (Ok true) old new
reads_some number size folder bytes given olds news value old mid new insists sized some same lists r is at =
    leads_on (reading_names false r olds) (next_name (read_once r) (names_in given) olds) (more_names (read_once r) news) old mid new
    (leads_as (reading_names false r olds) (names_read r bytes olds) (next_name (read_once r) (names_in given) olds) old mid
    (names_leads r olds number size bytes old mid insists is sized)
    (some_read r bytes olds some ∙ ap (λ (b : List ℕ). next_name (read_once r) (names_in b) olds) (sym same)))
    (lists (read_once r) at)

-- some came, and one couldn't be listed
pub reads_stops : (number size : ℕ) (folder bytes given : List ℕ) (olds news : List Name) (why : ErrorKind) (old mid new : Log)
    → Insists (ReadNames number size) (Bytes bytes) old mid → size ≡ 4096 → length bytes ≢ 0 → given ≡ bytes
    → ListsNames {A = Unit {0}} folder given olds news (Err why) mid new → ReadsNames number folder olds news (Err why) old new
reads_stops number size folder bytes given olds news why old mid new insists sized some same lists r is at =
    leads_run (reading_names false r olds) (next_name (read_once r) (names_in given) olds) (Failed why) old mid new
    (leads_as (reading_names false r olds) (names_read r bytes olds) (next_name (read_once r) (names_in given) olds) old mid
    (names_leads r olds number size bytes old mid insists is sized)
    (some_read r bytes olds some ∙ ap (λ (b : List ℕ). next_name (read_once r) (names_in b) olds) (sym same)))
    (lists (read_once r) at)

-- they couldn't be read
pub reads_fails : (number size : ℕ) (folder : List ℕ) (olds news : List Name) (why : ErrorKind) (old new : Log) → Insists (ReadNames number size) (Failed why) old new
    → size ≡ 4096 → ReadsNames number folder olds news (Err (broken_off why)) old new
reads_fails number size folder olds news why old new insists sized r is at =
    names_fails r olds number size why old new insists is sized

-- ---- all names

abbrev more_so : Bool → Reader → List Name → Stage
more_so b r found = if b then over (Failed kind.FileTooLarge) else reading_names false r found

more_is : (r : Reader) (found : List Name) → r.left ≢ 0 → more_names r found ≡ reading_names false r found
more_is r found some = ap (λ (b : Bool). more_so b r found) (some_so r.left some (eqb_tells r.left 0))

-- one read more
pub fills_more : (s : Stage) (is_more : Bool) (number same left less : ℕ) (folder items : List ℕ) (olds news : List Name) (old mid new : Log)
    → LeadsTo s (more_names (reader_of number folder left) olds) old mid → left ≢ 0 → same ≡ number → items ≡ folder → less ≡ left - 1
    → ReadsNames same items olds news (Ok is_more) mid new → is_more ≡ true → LeadsTo s (more_names (reader_of number folder less) news) old new
fills_more s is_more number same left less folder items olds news old mid new before some is at fewer reads more =
    leads_on s (reading_names false (reader_of number folder left) olds) (more_names (reader_of number folder less) news) old mid new
    (leads_as s (more_names (reader_of number folder left) olds) (reading_names false (reader_of number folder left) olds) old mid before
    (more_is (reader_of number folder left) olds some))
    (leads_as (reading_names false (reader_of number folder left) olds) (more_names (reader_of number folder (left - 1)) news)
    (more_names (reader_of number folder less) news) mid new
    (subst (λ (b : Bool). ReadsNames same items olds news (Ok b) mid new) more reads (reader_of number folder left) is at) (ap (λ (n : ℕ). more_names (reader_of number folder n) news) (sym fewer)))

-- the last one
pub fills_last : (s : Stage) (is_more : Bool) (number same left : ℕ) (folder items : List ℕ) (olds news : List Name) (old mid new : Log)
    → LeadsTo s (more_names (reader_of number folder left) olds) old mid → left ≢ 0 → same ≡ number → items ≡ folder
    → ReadsNames same items olds news (Ok is_more) mid new → is_more ≡ false → LeadsTo s (listed news) old new
fills_last s is_more number same left folder items olds news old mid new before some is at reads more =
    leads_on s (reading_names false (reader_of number folder left) olds) (listed news) old mid new
    (leads_as s (more_names (reader_of number folder left) olds) (reading_names false (reader_of number folder left) olds) old mid before
    (more_is (reader_of number folder left) olds some))
    (subst (λ (b : Bool). ReadsNames same items olds news (Ok b) mid new) more reads (reader_of number folder left) is at)

-- one that fails
pub fills_fails : (s : Stage) (number same left : ℕ) (folder items : List ℕ) (olds news : List Name) (why : ErrorKind) (old mid new : Log)
    → LeadsTo s (more_names (reader_of number folder left) olds) old mid → left ≢ 0 → same ≡ number → items ≡ folder
    → ReadsNames same items olds news (Err why) mid new → RunLogged s (Failed why) old new
fills_fails s number same left folder items olds news why old mid new before some is at reads =
    leads_run s (reading_names false (reader_of number folder left) olds) (Failed why) old mid new
    (leads_as s (more_names (reader_of number folder left) olds) (reading_names false (reader_of number folder left) olds) old mid before
    (more_is (reader_of number folder left) olds some))
    (reads (reader_of number folder left) is at)

-- there were too many
pub fills_over : (s : Stage) (number left : ℕ) (folder : List ℕ) (news : List Name) (old new : Log)
    → LeadsTo s (more_names (reader_of number folder left) news) old new → left ≡ 0 → RunLogged s (Failed kind.FileTooLarge) old new
fills_over s number left folder news old new before is =
    leads_run s (over (Failed kind.FileTooLarge)) (Failed kind.FileTooLarge) old new new
    (leads_as s (more_names (reader_of number folder left) news) (over (Failed kind.FileTooLarge)) old new before
    (ap (λ (n : ℕ). more_names (reader_of number folder n) news) is))
    (fails (over (Failed kind.FileTooLarge)) kind.FileTooLarge new refl)

-- ---- folders

-- a link is followed
pub led_opens : {F : Type 0} (number : F → ℕ) (path : List ℕ) (why : ErrorKind) (result : Result F ErrorKind) (old mid new : Log)
    → MakesCall old mid (OpenFolder path) (Failed why) → is_no_folder why ≡ true
    → OpensFolder number (following path) path result mid new → OpensFolder number (opening_folder path) path result old new
led_opens number path why result old mid new makes none opens =
    proceeds_on (opening_folder path) (following path) (λ folder. more_names (reader (number folder) path) []) result old mid new
    (leads_as (opening_folder path) (unopened why path) (following path) old mid
    (leads_call (opening_folder path) (OpenFolder path) (Failed why) old mid makes refl)
    (ap (λ (b : Bool). if b then following path else over (Failed why)) none))
    opens

list_is : (path : List ℕ) → length path ≢ 0 → list path ≡ taking_memory (opening_folder path)
list_is path some =
    ap (λ (b : Bool). if b then over (Failed kind.NotFound) else taking_memory (opening_folder path)) (some_so (length path) some (eqb_tells (length path) 0))

-- a folder is opened, and its names are read
pub lists_folder : {F A : Type 0} (number : F → ℕ) (file : F) (path folder : List ℕ) (names : A → List Name) (result : Result A ErrorKind)
    (old mid new : Log) → length path ≢ 0 → OpensFolder number (opening_folder path) path (Ok file) old mid → folder ≡ with_slash path
    → ReadsAllNames (number file) folder [] names result mid new → ListsFolder (list path) names result old new
lists_folder number file path folder names result old mid new some opens at reads =
    proceeds_from (list path) (taking_memory (opening_folder path)) (λ value. listed (names value)) result old new (list_is path some)
    (proceeds_on (taking_memory (opening_folder path)) (more_names (reader_of (number file) folder (2 ^ 64 - 1)) []) (λ value. listed (names value)) result
    old mid new
    (leads_as (taking_memory (opening_folder path)) (more_names (reader (number file) path) []) (more_names (reader_of (number file) folder (2 ^ 64 - 1)) []) old mid
    (leads_on (taking_memory (opening_folder path)) (opening_folder path) (more_names (reader (number file) path) []) old old mid
    (leads_took (opening_folder path) old) opens)
    (ap (λ (f : List ℕ). more_names (reader_of (number file) f (2 ^ 64 - 1)) []) (sym at)))
    reads)

-- it can't be opened
pub lists_not : {F : Type 0} (number : F → ℕ) (path : List ℕ) (why : ErrorKind) (old new : Log) → length path ≢ 0
    → OpensFolder {F = F} number (opening_folder path) path (Err why) old new → RunLogged (list path) (Failed why) old new
lists_not number path why old new some opens =
    subst (λ (s : Stage). RunLogged s (Failed why) old new) (sym (list_is path some)) (run_taken (opening_folder path) (Failed why) old new opens)

-- ---- listings

run_of : (path : List ℕ) (answer : NumberedAnswer) (end : CallResult) (old new : Log) → RunLogged (list path) end old new
    → answer ≡ answer_of (steps.ReadDir path) end → StepRuns (steps.ReadDir path) answer old new
run_of path answer end old new run is = (no_hint, end, run, is)

-- a listing
pub lists_run : {A : Type 0} (path : List ℕ) (names : A → List Name) (value : A) (found : List Name) (old new : Log)
    → ListsFolder (list path) names (Ok value) old new → found ≡ names value → StepRuns (steps.ReadDir path) (answers.Names found) old new
lists_run path names value found old new lists is =
    run_of path (answers.Names found) (Names (names value)) old new
    (leads_run (list path) (listed (names value)) (Names (names value)) old new new lists
    (run_none (listed (names value)) (Names (names value)) new (inr refl)))
    (ap (λ (l : List Name). answers.Names l) is)

-- it fails
pub lists_failed : (path : List ℕ) (why told : ErrorKind) (old new : Log) → RunLogged (list path) (Failed why) old new → told ≡ why
    → StepRuns (steps.ReadDir path) (failed_with (steps.ReadDir path) told) old new
lists_failed path why told old new lists is =
    run_of path (failed_with (steps.ReadDir path) told) (Failed why) old new lists (ap (λ (k : ErrorKind). failed_with (steps.ReadDir path) k) is)

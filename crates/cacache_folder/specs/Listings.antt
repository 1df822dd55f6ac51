-- Listings of folders call by call, and names of any bytes as texts.
use Rattle.std.specs.{Prelude.{◌≡◌, ◌⊎◌, ◌^◌, ◌-◌, ℕ, Bool, false, if◌then◌else◌, List, [], ◌∷◌, ◌++◌, Option, None, Some, Result, Ok, Err, drop}, Bool.{nat_eq}, List.{starts_with}}
use Rattle.std_io.specs.declared.io.kind.ErrorKind.{ErrorKind}
use Rattle.cacache_store.specs.declared.store.answer.{Kind.{Kind}, Name.{Name}}
use Rattle.cacache_system.specs.{declared.call.{CallItem.{CallItem}, CallResult.{CallResult, TheVariants.{Names, Failed}}}, Seen.{GainsCalls, names_in, with_slash, mark}, CallsOf.{Stage, Reader, over, taking_memory, opening_folder, reading_names, asking_kind, reader, read_once, more_names, entered, ask_kind, next_name, Runs, RunLogged}}
use Rattle.hex.specs.{declared.error.FromHexError.{FromHexError}, Hex.{decode_of}}

-- the log of a system
abbrev pub Log : Type 0
Log = Option (List CallItem)

-- the log gained calls, and each run from the second stage is one from the first after them
abbrev pub LeadsTo : Stage → Stage → Log → Log → Type 0
LeadsTo s t old new =
    (items : List CallItem)
    × ((rest : List CallItem) (end : CallResult) → Runs t rest end → Runs s (items ++ rest) end)
    × GainsCalls old new items

-- the calls lead to the stage of the value, or the run is over with the failure
abbrev pub Proceeds : {A : Type 0} → Stage → (A → Stage) → Result A ErrorKind → Log → Log → Type 0
Proceeds s go (Ok value) old new = LeadsTo s (go value) old new
Proceeds s go (Err why) old new = RunLogged s (Failed why) old new

-- ---- names

-- a name is given with its kind, or refused
abbrev pub NamesEntry : List ℕ → Kind → Result Name ErrorKind → Type 0
NamesEntry name kind r =
    (go : Name → Stage) (log : Log) → Proceeds (entered name kind go) go r log log

-- the names grow by it
abbrev pub EntersName : {A : Type 0} → List ℕ → Kind → List Name → List Name → Result A ErrorKind
    → Type 0
EntersName name kind old_names new_names r =
    (go : List Name → Stage) (log : Log)
    → Proceeds (entered name kind (λ entry. go (old_names ++ entry ∷ []))) (λ _. go new_names) r
    log log

-- an entry is added, and the next name comes
abbrev pub entering : Reader → List (List ℕ) → List Name → Name → Stage
entering r names found entry = next_name r names (found ++ entry ∷ [])

-- what a name stands for is known: nothing, or a thing of this kind
abbrev pub with_kind : Reader → List ℕ → List (List ℕ) → List Name → Option Kind → Stage
with_kind r name names found None = next_name r names found
with_kind r name names found (Some kind) = entered name kind (entering r names found)

-- it was asked what is at a path
abbrev pub AsksKind : List ℕ → Result (Option Kind) ErrorKind → Log → Log → Type 0
AsksKind path result old new =
    (r : Reader) (name : List ℕ) (names : List (List ℕ)) (found : List Name)
    → path ≡ r.folder ++ name
    → Proceeds (asking_kind r name names found) (with_kind r name names found) result old new

-- the same, unless the path is no text
abbrev pub AsksKindIfText : List ℕ → Result (Option Kind) ErrorKind → Log → Log → Type 0
AsksKindIfText path result old new =
    (r : Reader) (name : List ℕ) (names : List (List ℕ)) (found : List Name)
    → path ≡ r.folder ++ name
    → Proceeds (ask_kind r name names found (entering r names found)) (with_kind r name names found)
    result old new

-- the same of a name in a folder
abbrev pub FindsKind : List ℕ → List ℕ → Result (Option Kind) ErrorKind → Log → Log → Type 0
FindsKind folder name result old new =
    (r : Reader) (names : List (List ℕ)) (found : List Name) → folder ≡ r.folder
    → Proceeds (taking_memory (ask_kind r name names found (entering r names found)))
    (with_kind r name names found) result old new

-- a name was listed
abbrev pub ListsName : {A : Type 0} → List ℕ → List ℕ → List Name → List Name
    → Result A ErrorKind → Log → Log → Type 0
ListsName folder name old_names new_names result old new =
    (r : Reader) (names : List (List ℕ)) → folder ≡ r.folder
    → Proceeds (next_name r (name ∷ names) old_names) (λ _. next_name r names new_names) result
    old new

-- the first name was taken off some bytes, or they are one name
abbrev pub CutsName : List ℕ → List ℕ → List ℕ → Type 0
CutsName bytes name later =
    (names_in bytes ≡ name ∷ names_in later)
    ⊎ ((names_in bytes ≡ name ∷ []) × (later ≡ []))

-- the names in some bytes were
abbrev pub ListsNames : {A : Type 0} → List ℕ → List ℕ → List Name → List Name
    → Result A ErrorKind → Log → Log → Type 0
ListsNames folder bytes old_names new_names result old new =
    (r : Reader) → folder ≡ r.folder
    → Proceeds (next_name r (names_in bytes) old_names) (λ _. more_names r new_names) result
    old new

-- ---- folders

-- all names were read
abbrev pub listed : List Name → Stage
listed names = taking_memory (over (Names names))

-- more names may come, or there are none
abbrev pub more_if : Reader → List Name → Bool → Stage
more_if r names is_more = if is_more then more_names r names else listed names

-- names were read once
abbrev pub ReadsNames : ℕ → List ℕ → List Name → List Name → Result Bool ErrorKind → Log → Log
    → Type 0
ReadsNames number folder old_names new_names result old new =
    (r : Reader) → number ≡ r.number → folder ≡ r.folder
    → Proceeds (reading_names false r old_names) (more_if (read_once r) new_names) result old new

-- an open folder, at most so many reads of names before its end
abbrev pub reader_of : ℕ → List ℕ → ℕ → Reader
reader_of number folder left = record { number = number; folder = folder; left = left }

-- all its names were read
abbrev pub ReadsAllNames : {A : Type 0} → ℕ → List ℕ → List Name → (A → List Name)
    → Result A ErrorKind → Log → Log → Type 0
ReadsAllNames number folder old_names names result old new =
    Proceeds (more_names (reader_of number folder (2 ^ 64 - 1)) old_names)
    (λ value. listed (names value)) result old new

-- a folder was opened to be listed
abbrev pub OpensFolder : {F : Type 0} → (F → ℕ) → Stage → List ℕ → Result F ErrorKind → Log → Log
    → Type 0
OpensFolder number s path result old new =
    Proceeds s (λ folder. more_names (reader (number folder) path) []) result old new

-- the same by its path; the other text is the path with a `/` after it
abbrev pub OpensPath : {F : Type 0} → (F → ℕ) → List ℕ → List ℕ → Result F ErrorKind → Log → Log
    → Type 0
OpensPath number path folder result old new =
    folder ≡ with_slash path → OpensFolder number (opening_folder path) path result old new

-- all that is in a folder was listed, from its path on
abbrev pub ListsFolder : {A : Type 0} → Stage → (A → List Name) → Result A ErrorKind → Log → Log
    → Type 0
ListsFolder s names result old new = Proceeds s (λ value. listed (names value)) result old new

-- ---- names of any bytes as texts

abbrev pub or_itself : List ℕ → Result (List ℕ) FromHexError → List ℕ
or_itself name (Ok bytes) = bytes
or_itself name (Err e) = name

-- the bytes that a name's text stands for: those of its digits after the mark, or the text's own
abbrev pub raw_name : List ℕ → List ℕ
raw_name name =
    if starts_with nat_eq name mark then or_itself name (decode_of (drop 256 name)) else name

-- The system calls of each kind of step as one table: the call that each stage wants, the stage to which what the
-- system says leads, and what the calls may end with.
use Rattle.std.specs.{Prelude.{◌+◌, ◌%◌, codes, ◌≡◌, ◌-◌, ◌^◌, ◌⊎◌, ◌==◌, ◌&&◌, ◌||◌, not, ℕ, zero, suc, get_or, take, length, Bool, true, false, if◌then◌else◌, List, [], ◌∷◌, ◌++◌, Option, None, Some, option_map}, Bool.{nat_eq}, Cmp.Lexicographic.{pointwise}, Str.{is_utf8}, Int.{to_be_bytes, w64}}
use Rattle.hex.specs.Hex.{encode_lower}
use Rattle.std_io.specs.declared.io.kind.ErrorKind.{ErrorKind}
use Rattle.std_io.specs.declared.io.kind.ErrorKind.TheVariants as kind
use Rattle.cacache_store.specs.declared.store.answer.Kind.TheVariants as kinds
use Rattle.cacache_store.specs.declared.store.answer.{Kind.{Kind}, Name.{Name}}
use Rattle.cacache_system.specs.{declared.call.{SystemCall.{SystemCall, TheVariants.{OpenToRead, CreateNew, OpenToAppend, OpenFolder, Read, ReadNames, ReadRest, Write, Sync, SetOwner, SetMode, StatFile, Stat, StatLink, Rename, MakeFolder, RemoveFile, CopyFile, RealPath}}, FileInfo.{FileInfo}, CallResult.{CallResult, TheVariants.{Done, Opened, Count, Bytes, Info, Names, Failed}}, CallItem.{CallItem}}, Seen.{GainsCalls, text_of, is_proper, is_passed, names_in, with_slash}}

-- what a file is opened for: to be handed out, to be synced, or to be synced as a folder
pub data Purpose : Type 0 where
  to_give : Purpose
  to_sync : Purpose
  to_sync_folder : Purpose

-- A folder that is listed: the number that it was opened under, its path with a `/` after it, and how many reads of
-- names may still come.
pub record Reader : Type 0 where
  pub number : ℕ
  pub folder : List ℕ
  pub left : ℕ

-- Where the calls of a step are. A truth value says whether a signal interrupted the call before; of a folder that is made,
-- whether the one above it was made just now, and the list says which ones below it are to be made then. Names that were
-- listed so far come last. A copy has the number that
-- the names of its fresh file begin with, and how many more of these may be tried. A temporary file that keeps what another
-- file has goes by its number and its path, and by whether it was synced. A stage that comes last follows, if nothing fails.
pub data Stage : Type 0 where
  over : CallResult → Stage
  only : SystemCall → Stage
  trying : Bool → SystemCall → Stage
  taking_memory : Stage → Stage
  opening : Purpose → List ℕ → Stage
  checking : Purpose → ℕ → Stage
  opening_whole : List ℕ → Stage
  reading_front : Bool → ℕ → ℕ → Stage
  measuring : List ℕ → ℕ → Stage
  reading_rest : List ℕ → ℕ → Stage
  appending : List ℕ → List ℕ → Stage
  sizing : List ℕ → Stage
  asking_source : ℕ → List ℕ → List ℕ → Stage
  asking_target : ℕ → FileInfo → List ℕ → List ℕ → Stage
  asking_end : ℕ → FileInfo → List ℕ → List ℕ → Stage
  making_end : ℕ → List ℕ → List ℕ → Stage
  resolving : ℕ → List ℕ → List ℕ → Stage
  making_fresh : ℕ → ℕ → List ℕ → List ℕ → Stage
  filling : List ℕ → List ℕ → List ℕ → Stage
  replacing : ℕ → List ℕ → List ℕ → Stage
  scrapping : ErrorKind → List ℕ → Stage
  standing : List ℕ → Stage
  making : Bool → List ℕ → List (List ℕ) → Stage
  confirming : ErrorKind → List ℕ → List (List ℕ) → Stage
  preparing : SystemCall → Stage → Stage
  keeping : ℕ → Bool → List ℕ → Stage → Stage
  opening_folder : List ℕ → Stage
  following : List ℕ → Stage
  reading_names : Bool → Reader → List Name → Stage
  asking_kind : Reader → List ℕ → List (List ℕ) → List Name → Stage

-- where the last `/` of the first so many bytes is
abbrev pub last_slash : List ℕ → ℕ → Option ℕ
last_slash path zero = None
last_slash path (suc n) = if get_or path n 0 == 47 then Some n else last_slash path n

-- the path of the folder above: all that is before the last `/`
abbrev pub above_of : List ℕ → Option (List ℕ)
above_of path = option_map (λ i. take i path) (last_slash path (length path))

-- the name of a file that a copy fills: `.tmp`, and a number in 16 hex digits
abbrev pub fresh_name : ℕ → List ℕ
fresh_name number = codes ".tmp" ++ encode_lower (to_be_bytes w64 number)

-- a name in the folder with this path, if there is one
abbrev pub in_folder : Option (List ℕ) → List ℕ → List ℕ
in_folder None name = name
in_folder (Some folder) name = folder ++ 47 ∷ name

-- such a file next to a path
abbrev pub fresh_beside : List ℕ → ℕ → List ℕ
fresh_beside path number = in_folder (above_of path) (fresh_name number)

-- the number of such a file, if so many more may be tried
abbrev pub fresh_number : ℕ → ℕ → ℕ
fresh_number left number = (number + left) % 2 ^ 64

-- the call that a stage wants, and none if the step is over
abbrev pub wants : Stage → Option SystemCall
wants (over result) = None
wants (only call) = Some call
wants (trying again call) = Some call
wants (taking_memory s) = wants s
wants (opening purpose path) = Some (OpenToRead path)
wants (checking purpose file) = Some (StatFile file)
wants (opening_whole path) = Some (OpenToRead path)
wants (reading_front again size file) = Some (Read file size)
wants (measuring front file) = Some (StatFile file)
wants (reading_rest front file) = Some (ReadRest file)
wants (appending path bytes) = Some (OpenToAppend path)
wants (sizing path) = Some (Stat path)
wants (asking_source number from to) = Some (Stat from)
wants (asking_target number source from to) = Some (StatLink to)
wants (asking_end number source from to) = Some (Stat to)
wants (making_end number from to) = Some (OpenToAppend to)
wants (resolving number from to) = Some (RealPath to)
wants (making_fresh left number from path) =
    Some (CreateNew (fresh_beside path (fresh_number left number)) 384)
wants (filling from fresh path) = Some (CopyFile from fresh)
wants (replacing count fresh path) = Some (Rename fresh path)
wants (scrapping why fresh) = Some (RemoveFile fresh)
wants (standing path) = Some (Stat path)
wants (making again path todo) = Some (MakeFolder path)
wants (confirming why path todo) = Some (Stat path)
wants (preparing call s) = Some call
wants (keeping number synced path s) = Some (Stat path)
wants (opening_folder path) = Some (OpenFolder path)
wants (following path) = Some (OpenFolder (with_slash path))
wants (reading_names again r found) = Some (ReadNames r.number 4096)
wants (asking_kind r name names found) = Some (StatLink (r.folder ++ name))

-- a signal interrupted the call
abbrev pub interrupts : ErrorKind → Bool
interrupts kind.Interrupted = true
interrupts _ = false

-- the same for what the system said
abbrev pub was_interrupted : CallResult → Bool
was_interrupted (Failed why) = interrupts why
was_interrupted _ = false

-- a folder is refused
abbrev pub unless_folder : Kind → Stage → Stage
unless_folder kinds.Folder s = over (Failed kind.IsADirectory)
unless_folder other s = s

-- what is no folder is refused with this error
abbrev pub if_folder : Kind → ErrorKind → Stage → Stage
if_folder kinds.Folder why s = s
if_folder other why s = over (Failed why)

-- A front that came back full may be the front of a long file, whose size is asked. The file is read to its end in any
-- case: a short read needn't be the last.
abbrev pub front_known : ℕ → List ℕ → ℕ → Stage
front_known size front file =
    if length front == size then measuring front file else taking_memory (reading_rest front file)

-- what is done with a file that was opened
abbrev pub opened : Purpose → ℕ → FileInfo → Stage
opened to_give file info = unless_folder info.kind (over (Opened file))
opened to_sync file info = unless_folder info.kind (only (Sync file))
opened to_sync_folder file info = if_folder info.kind kind.NotADirectory (only (Sync file))

-- both are known to be one file or folder; if a system gives no numbers, none are known to be
abbrev pub is_same_node : FileInfo → FileInfo → Bool
is_same_node one other =
    (not (one.inode == 0) && one.inode == other.inode) && one.device == other.device

-- something is there
abbrev pub already_exists : ErrorKind → Bool
already_exists kind.AlreadyExists = true
already_exists _ = false

-- a link is there
abbrev pub is_link : Kind → Bool
is_link kinds.Link = true
is_link _ = false

-- nothing is there
abbrev pub is_absent : ErrorKind → Bool
is_absent kind.NotFound = true
is_absent _ = false

-- a fresh file is made next to a path, under one of 256 names
abbrev pub place_fresh : ℕ → List ℕ → List ℕ → Stage
place_fresh number from path = taking_memory (making_fresh 255 number from path)

-- A file takes the place of another, but not of itself, and is written into what is neither file nor folder. A link
-- was followed to what is there, or no link was.
abbrev pub copied : ℕ → Bool → FileInfo → FileInfo → List ℕ → List ℕ → Stage
copied number through source target from to =
    unless_folder target.kind
    (if pointwise nat_eq from to || is_same_node source target then over (Count source.size)
    else if not target.regular then only (CopyFile from to)
    else if through then resolving number from to
    else place_fresh number from to)

-- only a file is copied
abbrev pub source_known : ℕ → FileInfo → List ℕ → List ℕ → Stage
source_known number source from to =
    if source.regular then asking_target number source from to else over (Failed kind.InvalidInput)

-- what is at the target is replaced, or what a link there leads to
abbrev pub target_known : ℕ → FileInfo → FileInfo → List ℕ → List ℕ → Stage
target_known number source target from to =
    if is_link target.kind then asking_end number source from to
    else copied number false source target from to

-- the name of the fresh file is taken: another is tried
abbrev pub name_taken : ℕ → ℕ → ErrorKind → List ℕ → List ℕ → Stage
name_taken zero number why from path = over (Failed why)
name_taken (suc left) number why from path =
    if already_exists why then taking_memory (making_fresh left number from path)
    else over (Failed why)

-- a folder is there, and those below it are made
abbrev pub below : List (List ℕ) → Stage
below [] = over Done
below (path ∷ todo) = making true path todo

-- the folder above is made first, if there is one
abbrev pub climb : Option (List ℕ) → ErrorKind → List ℕ → List (List ℕ) → Stage
climb None why path todo = over (Failed why)
climb (Some above) why path todo = making false above (path ∷ todo)

-- the folder above is missing
abbrev pub unmade : Bool → ErrorKind → List ℕ → List (List ℕ) → Stage
unmade true why path todo = over (Failed why)
unmade false why path todo = climb (above_of path) why path todo

-- a file that was synced is synced again
abbrev pub sync_again : Bool → ℕ → Stage → Stage
sync_again true number s = preparing (Sync number) s
sync_again false number s = s

-- a temporary file gets a mode
abbrev pub give_mode : ℕ → Bool → ℕ → Stage → Stage
give_mode number synced mode s = preparing (SetMode number mode) (sync_again synced number s)

-- It gets the owner, the group and the mode that another file has. The mode comes last: a new owner takes bits of it away.
abbrev pub give : ℕ → Bool → FileInfo → Stage → Stage
give number synced info s =
    preparing (SetOwner number info.owner info.group) (give_mode number synced info.mode s)

-- ---- listings

-- a folder that was opened
abbrev pub reader : ℕ → List ℕ → Reader
reader number path =
    record { number = number; folder = with_slash path; left = 2 ^ 64 - 1 }

-- the same after a read of names
abbrev pub read_once : Reader → Reader
read_once r = record { number = r.number; folder = r.folder; left = r.left - 1 }

-- the next names are read, unless there were too many
abbrev pub more_names : Reader → List Name → Stage
more_names r found =
    if r.left == 0 then over (Failed kind.FileTooLarge) else reading_names false r found

-- a name is listed with its kind, unless its text isn't proper
abbrev pub entered : List ℕ → Kind → (Name → Stage) → Stage
entered name what go =
    taking_memory (if is_proper (text_of name)
    then go (record { name = text_of name; kind = what })
    else over (Failed kind.InvalidFilename))

-- what is under a name is asked for; a name with a path that is no text counts as a file
abbrev pub ask_kind : Reader → List ℕ → List (List ℕ) → List Name → (Name → Stage) → Stage
ask_kind r name names found go =
    if is_utf8 (r.folder ++ name) then asking_kind r name names found
    else entered name kinds.File go

-- the next of some names is listed
abbrev pub next_name : Reader → List (List ℕ) → List Name → Stage
next_name r [] found = more_names r found
next_name r (name ∷ names) found =
    if is_passed name then next_name r names found
    else taking_memory (ask_kind r name names found
    (λ entry. next_name r names (found ++ entry ∷ [])))

-- a folder that is open isn't missing, so its listing breaks off with another error
abbrev pub broken_off : ErrorKind → ErrorKind
broken_off kind.NotFound = kind.StaleNetworkFileHandle
broken_off why = why

-- names were read, or there are no more
abbrev pub names_read : Reader → List ℕ → List Name → Stage
names_read r bytes found =
    if length bytes == 0 then taking_memory (over (Names found))
    else next_name (read_once r) (names_in bytes) found

-- what is there is no folder, or a link
abbrev pub is_no_folder : ErrorKind → Bool
is_no_folder kind.NotADirectory = true
is_no_folder kind.FilesystemLoop = true
is_no_folder _ = false

-- a link is followed; in a walk the system refuses it
abbrev pub unopened : ErrorKind → List ℕ → Stage
unopened why path = if is_no_folder why then following path else over (Failed why)

-- The stage to which what the system says leads. A failure ends the step, except that of a signal, that of a folder
-- that may be made or is there after all, and one from which a copy goes on.
abbrev pub after : Stage → CallResult → Stage
after (trying again call) result =
    if was_interrupted result then trying true call else over result
after (taking_memory s) result = after s result
after (opening purpose path) (Opened file) = checking purpose file
after (checking purpose file) (Info info) = opened purpose file info
after (opening_whole path) (Opened file) = reading_front false 2048 file
after (reading_front again size file) (Bytes front) = front_known size front file
after (reading_front again size file) (Failed why) =
    if interrupts why then reading_front true size file else over (Failed why)
after (measuring front file) (Info info) = taking_memory (reading_rest front file)
after (reading_rest front file) (Bytes rest) = taking_memory (over (Bytes (front ++ rest)))
after (appending path bytes) (Opened file) = trying false (Write file bytes)
after (sizing path) (Info info) = unless_folder info.kind (over (Info info))
after (asking_source number from to) (Info source) = source_known number source from to
after (asking_target number source from to) (Info target) = target_known number source target from to
after (asking_target number source from to) (Failed why) =
    if is_absent why then place_fresh number from to else over (Failed why)
after (asking_end number source from to) (Info target) = copied number true source target from to
after (asking_end number source from to) (Failed why) =
    if is_absent why then making_end number from to else over (Failed why)
after (making_end number from to) (Opened file) = resolving number from to
after (resolving number from to) (Bytes path) = place_fresh number from path
after (making_fresh left number from path) (Opened file) =
    filling from (fresh_beside path (fresh_number left number)) path
after (making_fresh left number from path) (Failed why) = name_taken left number why from path
after (filling from fresh path) (Count size) = replacing size fresh path
after (filling from fresh path) (Failed why) = scrapping why fresh
after (replacing size fresh path) Done = over (Count size)
after (replacing size fresh path) (Failed why) = scrapping why fresh
after (scrapping why fresh) result = over (Failed why)
after (standing path) (Info info) = if_folder info.kind kind.AlreadyExists (over Done)
after (standing path) (Failed why) =
    if is_absent why then making false path [] else over (Failed why)
after (making again path todo) Done = below todo
after (making again path todo) (Failed why) =
    if is_absent why then unmade again why path todo else confirming why path todo
after (confirming why path todo) (Info info) = if_folder info.kind kind.AlreadyExists (below todo)
after (confirming why path todo) (Failed other) =
    over (Failed (if is_absent other then why else other))
after (preparing call s) Done = s
after (keeping number synced path s) (Info info) = give number synced info s
after (keeping number synced path s) (Failed why) =
    if is_absent why then s else over (Failed why)
after (opening_folder path) (Opened number) = more_names (reader number path) []
after (opening_folder path) (Failed why) = unopened why path
after (following path) (Opened number) = more_names (reader number path) []
after (following path) (Failed why) =
    over (Failed (if is_absent why then kind.NotADirectory else why))
after (reading_names again r found) (Bytes bytes) = names_read r bytes found
after (reading_names again r found) (Failed why) =
    if interrupts why then reading_names true r found else over (Failed (broken_off why))
after (asking_kind r name names found) (Info info) =
    entered name info.kind (λ entry. next_name r names (found ++ entry ∷ []))
after (asking_kind r name names found) (Failed why) =
    if is_absent why then next_name r names found else over (Failed why)
after s result = over result

-- What the calls may end with. A call that signals interrupt again and again may be given up, and memory may be
-- refused when some is taken.
abbrev pub Ends : Stage → CallResult → Type 0
Ends (over result) end = result ≡ end
Ends (trying true call) end = end ≡ Failed kind.Interrupted
Ends (reading_front true size file) end = end ≡ Failed kind.Interrupted
Ends (reading_names true r found) end = end ≡ Failed kind.Interrupted
Ends (taking_memory s) end = (end ≡ Failed kind.OutOfMemory) ⊎ Ends s end
Ends s end = ⊥

-- the calls are a run from this stage with this end
abbrev pub Runs : Stage → List CallItem → CallResult → Type 0
Runs s [] end = Ends s end
Runs s (item ∷ items) end = (wants s ≡ Some item.call) × Runs (after s item.result) items end

-- the calls take the first stage to the second
abbrev pub Goes : Stage → List CallItem → Stage → Type 0
Goes s [] t = s ≡ t
Goes s (item ∷ items) t = (wants s ≡ Some item.call) × Goes (after s item.result) items t

-- the log gained a run from this stage with this end
abbrev pub RunLogged : Stage → CallResult → Option (List CallItem) → Option (List CallItem) → Type 0
RunLogged s end old new = (items : List CallItem) × Runs s items end × GainsCalls old new items

-- the log gained calls from the first stage to the second
abbrev pub CallsLogged : Stage → Stage → Option (List CallItem) → Option (List CallItem) → Type 0
CallsLogged s t old new = (items : List CallItem) × Goes s items t × GainsCalls old new items

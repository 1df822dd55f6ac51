-- What a step answers on a tree, and the tree after it.
use Rattle.std.specs.{Prelude.{◌≡◌, ℕ, ◌-◌, ◌==◌, Bool, true, false, if◌then◌else◌, List, [], ◌∷◌, ◌++◌, Option, None, Some, Result, Ok, Err, length, take, drop, min, max}, Result.{result_ok}}
use Rattle.cacache_core.specs.{declared.errors.Fault.{Fault, TheVariants.{NotFound, NotADirectory, IsADirectory, InvalidInput, Closed, Device}}, Paths.{Names, names_of}}
use Rattle.cacache_store.specs.{declared.store.{plain.{PlainFile.{PlainFile}, PlainTemp.{PlainTemp}}, step.Step.TheVariants.{MakeDirs, CreateTemp, Write, Persist, Append, ReadAll, Open, Read, Size, Exists, Symlink, Copy, Reflink, HardLink, ReadDir, RemoveFile, RemoveDir, SyncTemp, SyncFile, SyncDir}, answer.Answer.TheVariants.{Done, Temp, Wrote, Took, Bytes, Got, There, Length, Synced, Failed}}, Plain.{PlainStep, PlainAnswer}}
use Rattle.cacache_store.specs.declared.store.answer.Answer.TheVariants as answer
use Rattle.cacache_disk.specs.declared.find.Wanted.TheVariants as wanted
use Rattle.cacache_disk.specs.{declared.{luck.Luck.{Luck, TheVariants.{Plain, Fail, Take}}, node.Node.{Node, TheVariants.{Folder, File, Link}}}, Tree.{Tree, look, put, cut, bytes_of, listing}, LedTo.{and_then, or_fault, suited, dirs_fault, dirs, free, known, kept, replaceable, writable, file_at, found, linked, folder, removable, emptied}}

-- a fault fails the step and changes nothing; otherwise the step goes on from what was found
abbrev pub unless : {A : Type 0} → Result A Fault → Tree → (A → PlainAnswer × Tree)
    → PlainAnswer × Tree
unless (Ok found) t go = go found
unless (Err fault) t go = (Failed fault, t)

-- how many of the bytes are taken, if at most so many may be
abbrev pub taken : Option ℕ → List ℕ → ℕ
taken None bytes = length bytes
taken (Some most) bytes = min most (length bytes)

-- how many bytes a read may give: at least one, if it asks for any
abbrev pub readable : Option ℕ → ℕ → ℕ
readable None size = size
readable (Some most) size = min (max most 1) size

-- one choice if a node is missing, another if it is there
abbrev pub if_missing : Option Node → {A : Type 0} → A → A → A
if_missing None missing there = missing
if_missing (Some node) missing there = there

-- the first `count` missing folders made, from the top down
abbrev pub make_some : Tree → Names → Names → ℕ → Tree
make_some t above [] count = t
make_some t above (name ∷ rest) count =
    make_some
    (if_missing (look t (above ++ name ∷ []))
    (if count == 0 then t else put t (above ++ name ∷ []) Folder)
    t)
    (above ++ name ∷ [])
    rest
    (if_missing (look t (above ++ name ∷ [])) (count - 1) count)

-- how many folders may be made of those that a path names
abbrev pub making : Option ℕ → Names → ℕ
making None names = length names
making (Some most) names = most

-- a temporary file that took more bytes; it is closed if its bytes aren't known
abbrev pub grown : PlainTemp → List ℕ → ℕ → Option (List ℕ) → PlainAnswer
grown temp bytes count None = Failed Closed
grown temp bytes count (Some old) =
    Wrote (record { path = temp.path; bytes = Some (old ++ take count bytes) }) count

-- what is left of an open file's bytes after the first so many
abbrev pub rest_of : List ℕ → ℕ → PlainFile
rest_of bytes size = record {
  left = length bytes - min size (length bytes);
  bytes = Some (drop size bytes);
}

-- bytes of an open file; it is closed if they aren't known, or aren't as many as it has left
abbrev pub given : PlainFile → ℕ → Option (List ℕ) → PlainAnswer
given file size None = Failed Closed
given file size (Some bytes) =
    if file.left == length bytes then Got (rest_of bytes size) (take size bytes) else Failed Closed

-- whether something is there; it isn't if a folder on the way is missing
abbrev pub is_there : Result Names Fault → PlainAnswer
is_there (Ok names) = There true
is_there (Err NotFound) = There false
is_there (Err NotADirectory) = There false
is_there (Err fault) = Failed fault

-- the temporary file that is made at a path
abbrev pub made_temp : List ℕ → PlainTemp
made_temp path = record { path = path; bytes = Some [] }

-- an open file of these bytes
abbrev pub opened : List ℕ → PlainFile
opened bytes = record { left = length bytes; bytes = Some bytes }

-- the tree with more bytes added to the end of the file at a path
abbrev pub lengthened : Tree → Names → List ℕ → Tree
lengthened t names more = put t names (File (bytes_of (look t names) ++ more))

-- the table of steps: the answer and the new tree, if at most so many bytes or folders are done
abbrev pub plain : Tree → PlainStep → Option ℕ → PlainAnswer × Tree
plain t (MakeDirs p) most =
    unless (dirs t p) t (λ names. (Done, make_some t [] names (making most names)))
plain t (CreateTemp p) most =
    unless (free t p) t (λ names. (Temp (made_temp p), put t names (File [])))
plain t (Write f bytes) most = (grown f bytes (taken most bytes) f.bytes, t)
plain t (Persist f p) most =
    unless (known f.bytes) t (λ bytes.
    unless (kept t f.path) t (λ old.
    unless (replaceable t p) t (λ new.
    (Done, put (cut t old) new (File bytes)))))
plain t (Append p bytes) most =
    unless (writable t p) t (λ names.
    (Took (taken most bytes), lengthened t names (take (taken most bytes) bytes)))
plain t (ReadAll p) most = unless (file_at t p IsADirectory) t (λ bytes. (Bytes bytes, t))
plain t (Open p) most =
    unless (file_at t p IsADirectory) t (λ bytes. (answer.File (opened bytes), t))
plain t (Read f size) most = (given f (readable most size) f.bytes, t)
plain t (Size p) most = unless (file_at t p IsADirectory) t (λ bytes. (Length (length bytes), t))
plain t (Exists p) most = (is_there (found t p), t)
plain t (Symlink target p) most = unless (free t p) t (λ names. (Done, put t names (Link target)))
plain t (Copy p q) most =
    unless (file_at t p InvalidInput) t (λ bytes.
    unless (writable t q) t (λ names.
    (Took (length bytes), put t names (File (take (taken most bytes) bytes)))))
plain t (Reflink p q) most =
    unless (free t q) t (λ names.
    unless (file_at t p IsADirectory) t (λ bytes.
    (Done, put t names (File bytes))))
plain t (HardLink p q) most =
    unless (free t q) t (λ names.
    unless (linked t p) t (λ node.
    (Done, put t names node)))
plain t (ReadDir p) most = unless (folder t p) t (λ names. (answer.Names (listing t names), t))
plain t (RemoveFile p) most = unless (removable t p) t (λ names. (Done, cut t names))
plain t (RemoveDir p) most = unless (emptied t p) t (λ names. (Done, cut t names))
plain t (SyncTemp f) most = (Synced f, t)
plain t (SyncFile p) most = unless (file_at t p IsADirectory) t (λ bytes. (Done, t))
plain t (SyncDir p) most = unless (folder t p) t (λ names. (Done, t))

-- a step that a take does only in part
abbrev pub is_taking : PlainStep → Bool
is_taking (Write f bytes) = true
is_taking (Append p bytes) = true
is_taking (Read f size) = true
is_taking _ = false

-- a step that leaves a part done if it fails
abbrev pub is_parted : PlainStep → Bool
is_parted (MakeDirs p) = true
is_parted (Append p bytes) = true
is_parted (Copy p q) = true
is_parted _ = false

-- a made-up fault, which never says that something is missing
abbrev pub made_up : Fault → Fault
made_up NotFound = Device
made_up fault = fault

-- what a failed step leaves, if so much of it was done
abbrev pub left_by : Tree → PlainStep → Option ℕ → Tree
left_by t step None = t
left_by t step (Some part) = if is_parted step then (plain t step (Some part)).1 else t

-- why a step failed, if it did
abbrev pub fault_told : PlainAnswer → Option Fault
fault_told (Failed fault) = Some fault
fault_told _ = None

-- the step's own failure wins over a made-up one
abbrev pub fails : Option Fault → Fault → Tree → Tree → PlainAnswer × Tree
fails (Some own) fault t left = (Failed own, t)
fails None fault t left = (Failed (made_up fault), left)

-- the answer and the new tree
unfoldable pub apply : Tree → PlainStep → Luck → PlainAnswer × Tree
apply t step Plain = plain t step None
apply t step (Take most) = plain t step (if is_taking step then Some most else None)
apply t step (Fail fault part) =
    fails (fault_told (plain t step None).0) fault t (left_by t step part)

-- the names of a path's folder
abbrev pub above_last : Names → Names
above_last names = take (length names - 1) names

-- the tree after somebody else put a file at a path, and made its folder
unfoldable pub planted : Tree → List ℕ → List ℕ → Result Tree Fault
planted t path bytes =
    and_then (names_of path) (λ names.
    and_then (or_fault (dirs_fault t [] (above_last names)) names) (λ names.
    and_then (suited wanted.NoFolder (look t names) names) (λ names.
    Ok (put (make_some t [] (above_last names) (length (above_last names))) names (File bytes)))))

-- somebody else puts a file at a path and leaves the new tree, or a fault says why not
abbrev pub Plants : {A : Type 0} → Tree → List ℕ → List ℕ → Result A Fault → Tree → Type 0
Plants old path bytes (Ok done) new = planted old path bytes ≡ Ok new
Plants old path bytes (Err fault) new = planted old path bytes ≡ Err fault

-- the bytes of the file that a path leads to, none if there is no such file
abbrev pub bytes_at : Tree → List ℕ → Option (List ℕ)
bytes_at t path = result_ok (file_at t path IsADirectory)

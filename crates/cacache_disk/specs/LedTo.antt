-- What a path leads to in a tree, or why it leads nowhere.
use Rattle.std.specs.Prelude.{ℕ, zero, suc, Bool, true, false, ◌==◌, if◌then◌else◌, List, [], ◌∷◌, ◌++◌, length, Option, None, Some, Result, Ok, Err}
use Rattle.cacache_core.specs.{declared.errors.Fault.{Fault, TheVariants.{NotFound, AlreadyExists, NotADirectory, IsADirectory, NotEmpty, TooDeep, Closed}}, Paths.{Names, names_of}}
use Rattle.cacache_disk.specs.{declared.{find.Wanted.{Wanted}, node.Node.{Node, TheVariants.{Folder, File, Link}}}, Tree.{Tree, look, listing}}
use Rattle.cacache_disk.specs.declared.find.Wanted.TheVariants as wanted

-- goes on from what was found, and stops at a fault
abbrev pub and_then : {A B : Type 0} → Result A Fault → (A → Result B Fault) → Result B Fault
and_then (Ok found) next = next found
and_then (Err fault) next = Err fault

-- what was found, if no fault stops it
abbrev pub or_fault : {A : Type 0} → Option Fault → A → Result A Fault
or_fault None found = Ok found
or_fault (Some fault) found = Err fault

-- what a node on the way says: a folder lets through
abbrev pub through : Option Node → Option Fault → Option Fault
through None later = Some NotFound
through (Some Folder) later = later
through (Some (File bytes)) later = Some NotADirectory
through (Some (Link target)) later = Some NotADirectory

-- why the folders above the last name don't lead there
abbrev pub way_fault : Tree → Names → Names → Option Fault
way_fault t above [] = None
way_fault t above (name ∷ []) = None
way_fault t above (name ∷ next ∷ rest) =
    through (look t (above ++ name ∷ [])) (way_fault t (above ++ name ∷ []) (next ∷ rest))

-- the names of a path, if its folder is there
unfoldable pub place : Tree → List ℕ → Result Names Fault
place t path = and_then (names_of path) (λ names. or_fault (way_fault t [] names) names)

-- why what is at a path isn't what is wanted, if so
abbrev pub misfit : Wanted → Option Node → Option Fault
misfit wanted.Anything None = Some NotFound
misfit wanted.Anything (Some node) = None
misfit wanted.Nothing None = None
misfit wanted.Nothing (Some node) = Some AlreadyExists
misfit wanted.NoFolder None = None
misfit wanted.NoFolder (Some Folder) = Some IsADirectory
misfit wanted.NoFolder (Some (File bytes)) = None
misfit wanted.NoFolder (Some (Link target)) = None
misfit wanted.File None = Some NotFound
misfit wanted.File (Some Folder) = Some NotFound
misfit wanted.File (Some (File bytes)) = None
misfit wanted.File (Some (Link target)) = Some NotFound
misfit wanted.FileOrLink None = Some NotFound
misfit wanted.FileOrLink (Some Folder) = Some IsADirectory
misfit wanted.FileOrLink (Some (File bytes)) = None
misfit wanted.FileOrLink (Some (Link target)) = None
misfit wanted.Folder None = Some NotFound
misfit wanted.Folder (Some Folder) = None
misfit wanted.Folder (Some (File bytes)) = Some NotADirectory
misfit wanted.Folder (Some (Link target)) = Some NotADirectory

-- the names, if what is at them is what is wanted
abbrev pub suited : Wanted → Option Node → Names → Result Names Fault
suited want here names = or_fault (misfit want here) names

-- the names, if something is there
abbrev pub where_there : Option Node → Names → Result Names Fault
where_there = suited wanted.Anything

-- the names, if nothing is there
abbrev pub where_free : Option Node → Names → Result Names Fault
where_free = suited wanted.Nothing

-- the names, if no folder is there
abbrev pub where_no_folder : Option Node → Names → Result Names Fault
where_no_folder = suited wanted.NoFolder

-- the names, if a file or a link is there
abbrev pub where_removable : Option Node → Names → Result Names Fault
where_removable = suited wanted.FileOrLink

-- the names, if a folder is there
abbrev pub where_folder : Option Node → Names → Result Names Fault
where_folder = suited wanted.Folder

-- the names, if a file is there
abbrev pub where_file : Option Node → Names → Result Names Fault
where_file = suited wanted.File

-- the file's bytes; a folder is the given fault
abbrev pub bytes_there : Fault → Option Node → Result (List ℕ) Fault
bytes_there folder None = Err NotFound
bytes_there folder (Some Folder) = Err folder
bytes_there folder (Some (File bytes)) = Ok bytes
bytes_there folder (Some (Link target)) = Err TooDeep

-- the file or link
abbrev pub linked_in : Option Node → Result Node Fault
linked_in None = Err NotFound
linked_in (Some Folder) = Err IsADirectory
linked_in (Some (File bytes)) = Ok (File bytes)
linked_in (Some (Link target)) = Ok (Link target)

-- a link goes on to its target, and anything else leaves the names as they are
abbrev pub on_link : Option Node → Names → (List ℕ → Result Names Fault) → Result Names Fault
on_link None names go = Ok names
on_link (Some Folder) names go = Ok names
on_link (Some (File bytes)) names go = Ok names
on_link (Some (Link target)) names go = go target

-- the names of a path, if this is wanted there
abbrev pub at : Tree → List ℕ → Wanted → Result Names Fault
at t path want = and_then (place t path) (λ names. suited want (look t names) names)

-- the names of a path, if something is there; no link is followed
unfoldable pub standing : Tree → List ℕ → Result Names Fault
standing t path = at t path wanted.Anything

-- where names lead through at most so many links
unfoldable pub followed : ℕ → Tree → Names → Result Names Fault
followed zero t names = on_link (look t names) names (λ target. Err TooDeep)
followed (suc most) t names =
    on_link (look t names) names (λ target. and_then (standing t target) (followed most t))

-- where a path leads; one that is itself missing leads to its own names
unfoldable pub leads : Tree → List ℕ → Result Names Fault
leads t path = and_then (place t path) (followed 16 t)

-- the names that a path leads to, if this is wanted there
abbrev pub end_at : Tree → List ℕ → Wanted → Result Names Fault
end_at t path want = and_then (leads t path) (λ names. suited want (look t names) names)

-- where a path leads, if something is there
unfoldable pub found : Tree → List ℕ → Result Names Fault
found t path = end_at t path wanted.Anything

-- the bytes of the file that a path leads to; a folder there is the given fault
unfoldable pub file_at : Tree → List ℕ → Fault → Result (List ℕ) Fault
file_at t path folder = and_then (leads t path) (λ names. bytes_there folder (look t names))

-- where a file can be written: the one that a path leads to, or a new one
unfoldable pub writable : Tree → List ℕ → Result Names Fault
writable t path = end_at t path wanted.NoFolder

-- where something new can be made
unfoldable pub free : Tree → List ℕ → Result Names Fault
free t path = at t path wanted.Nothing

-- where a file can be put in place of a file or link
unfoldable pub replaceable : Tree → List ℕ → Result Names Fault
replaceable t path = at t path wanted.NoFolder

-- where a temporary file still is: whatever else is found at its path, the file is gone
unfoldable pub kept : Tree → List ℕ → Result Names Fault
kept t path = and_then (names_of path) (λ names. suited wanted.File (look t names) names)

-- the file or link at a path
unfoldable pub linked : Tree → List ℕ → Result Node Fault
linked t path = and_then (place t path) (λ names. linked_in (look t names))

-- where a file or link can be removed
unfoldable pub removable : Tree → List ℕ → Result Names Fault
removable t path = at t path wanted.FileOrLink

-- the names of a folder
unfoldable pub folder : Tree → List ℕ → Result Names Fault
folder t path = at t path wanted.Folder

-- the names, if the folder is empty and isn't the top
abbrev pub where_empty : Tree → Names → Result Names Fault
where_empty t names =
    if length names == 0 then Err NotEmpty
    else if length (listing t names) == 0 then Ok names
    else Err NotEmpty

-- where an empty folder can be removed
unfoldable pub emptied : Tree → List ℕ → Result Names Fault
emptied t path = and_then (folder t path) (where_empty t)

-- whether a file or link is in the place of a folder
abbrev pub is_in_way : Option Node → Bool
is_in_way None = false
is_in_way (Some Folder) = false
is_in_way (Some (File bytes)) = true
is_in_way (Some (Link target)) = true

-- why the folders of a path can't be made: a file or link is at the last name, or on the way
abbrev pub dirs_fault : Tree → Names → Names → Option Fault
dirs_fault t above [] = None
dirs_fault t above (name ∷ rest) =
    if is_in_way (look t (above ++ name ∷ []))
    then Some (if length rest == 0 then AlreadyExists else NotADirectory)
    else dirs_fault t (above ++ name ∷ []) rest

-- the names of a path whose folders are there or can be made
unfoldable pub dirs : Tree → List ℕ → Result Names Fault
dirs t path = and_then (names_of path) (λ names. or_fault (dirs_fault t [] names) names)

-- what is known of a handle's bytes
abbrev pub known : Option (List ℕ) → Result (List ℕ) Fault
known None = Err Closed
known (Some bytes) = Ok bytes

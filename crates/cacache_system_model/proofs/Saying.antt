-- What keeps a path from leading somewhere is a fault that some error says.
use Rattle.std.proofs.Common.{◌≡◌, ◌==◌, ℕ, zero, suc, Bool, true, false, if◌then◌else◌, List, [], ◌∷◌, ◌++◌, filter, length, refl}
use Rattle.std.specs.Prelude.{Option, None, Some, Result, Ok, Err, IfSome, IfErr}
use Rattle.std_io.specs.declared.io.kind.ErrorKind.{ErrorKind}
use Rattle.std_io.specs.declared.io.kind.ErrorKind.TheVariants as kind
use Rattle.cacache_core.specs.{Errors.{fault_of}, declared.errors.Fault.{Fault, TheVariants.{NotFound, AlreadyExists, NotADirectory, IsADirectory, NotEmpty, InvalidInput, TooDeep}}, Paths.{Names, names_of, pieces, is_bad, is_name}}
use Rattle.cacache_disk.specs.{declared.node.Node.{Node, TheVariants.{Folder, File, Link}}, Tree.{Tree, look, listing}, LedTo.{and_then, or_fault, through, way_fault, place, where_there, where_free, where_no_folder, where_removable, where_folder, bytes_there, linked_in, on_link, standing, followed, leads, found, file_at, writable, free, replaceable, linked, removable, folder, where_empty, emptied}}
use Rattle.cacache_system.specs.AnswersOf.{refuses_memory}
use Rattle.cacache_system_model.specs.Machine.{link_fault}

-- ---- faults that an error can say

-- an error says it
abbrev pub CanSay : Fault → Type 0
CanSay fault = (why : ErrorKind) × (fault_of why ≡ fault) × (refuses_memory why ≡ false)

not_found : CanSay NotFound
not_found = (kind.NotFound, refl, refl)

no_folder : CanSay NotADirectory
no_folder = (kind.NotADirectory, refl, refl)

exists : CanSay AlreadyExists
exists = (kind.AlreadyExists, refl, refl)

pub a_folder : CanSay IsADirectory
a_folder = (kind.IsADirectory, refl, refl)

abbrev pub Sayable : {A : Type 0} → Result A Fault → Type 0
Sayable r = IfErr r CanSay

and_say : {A B : Type 0} (r : Result A Fault) (next : A → Result B Fault) → Sayable r → ((a : A) → Sayable (next a)) → Sayable (and_then r next)
and_say (Ok a) next r s = s a
and_say (Err fault) next r s = r

or_say : {A : Type 0} (o : Option Fault) (a : A) → IfSome o CanSay → Sayable (or_fault o a)
or_say None a can = tt
or_say (Some fault) a can = can

names_at : (path : List ℕ) (x y : Bool) → Sayable (let r : Result Names Fault = if x then Err NotFound else if y then Err InvalidInput else Ok (filter is_name (pieces path)) in r)
names_at path true y = not_found
names_at path false true = (kind.InvalidInput, refl, refl)
names_at path false false = tt

names_say : (path : List ℕ) → Sayable (names_of path)
unfolding names_of
names_say path = names_at path (length path == 0) (is_bad path)

through_say : (here : Option Node) (later : Option Fault) → IfSome later CanSay → IfSome (through here later) CanSay
through_say None later can = not_found
through_say (Some Folder) later can = can
through_say here later can = no_folder

way_say : (t : Tree) (above rest : Names) → IfSome (way_fault t above rest) CanSay
way_say t above (name ∷ next ∷ rest) =
    through_say (look t (above ++ name ∷ [])) (way_fault t (above ++ name ∷ []) (next ∷ rest)) (way_say t (above ++ name ∷ []) (next ∷ rest))
way_say t above rest = tt

pub place_say : (t : Tree) (path : List ℕ) → Sayable (place t path)
unfolding place
place_say t path = and_say (names_of path) (λ names. or_fault (way_fault t [] names) names) (names_say path) (λ names. or_say (way_fault t [] names) names (way_say t [] names))

there_say : (o : Option Node) (names : Names) → Sayable (where_there o names)
there_say None names = not_found
there_say (Some node) names = tt

free_judge : (o : Option Node) (names : Names) → Sayable (where_free o names)
free_judge None names = tt
free_judge (Some node) names = exists

no_folder_judge : (o : Option Node) (names : Names) → Sayable (where_no_folder o names)
no_folder_judge (Some Folder) names = a_folder
no_folder_judge o names = tt

removable_judge : (o : Option Node) (names : Names) → Sayable (where_removable o names)
removable_judge None names = not_found
removable_judge (Some Folder) names = a_folder
removable_judge o names = tt

folder_judge : (o : Option Node) (names : Names) → Sayable (where_folder o names)
folder_judge None names = not_found
folder_judge (Some Folder) names = tt
folder_judge o names = no_folder

pub standing_say : (t : Tree) (path : List ℕ) → Sayable (standing t path)
unfolding standing
standing_say t path = and_say (place t path) (λ names. where_there (look t names) names) (place_say t path) (λ names. there_say (look t names) names)

link_say : (o : Option Node) (names : Names) (go : List ℕ → Result Names Fault) → ((target : List ℕ) → Sayable (go target)) → Sayable (on_link o names go)
link_say (Some (Link target)) names go can = can target
link_say o names go can = tt

followed_say : (most : ℕ) (t : Tree) (names : Names) → Sayable (followed most t names)
unfolding followed
followed_say zero t names = link_say (look t names) names (λ target. Err TooDeep) (λ target. (kind.FilesystemLoop, refl, refl))
followed_say (suc most) t names =
    link_say (look t names) names (λ target. and_then (standing t target) (followed most t)) (λ target. and_say (standing t target) (followed most t) (standing_say t target) (followed_say most t))

leads_say : (t : Tree) (path : List ℕ) → Sayable (leads t path)
unfolding leads
leads_say t path = and_say (place t path) (followed 16 t) (place_say t path) (followed_say 16 t)

pub found_say : (t : Tree) (path : List ℕ) → Sayable (found t path)
unfolding found
found_say t path = and_say (leads t path) (λ names. where_there (look t names) names) (leads_say t path) (λ names. there_say (look t names) names)

pub writable_say : (t : Tree) (path : List ℕ) → Sayable (writable t path)
unfolding writable
writable_say t path = and_say (leads t path) (λ names. where_no_folder (look t names) names) (leads_say t path) (λ names. no_folder_judge (look t names) names)

pub free_say : (t : Tree) (path : List ℕ) → Sayable (free t path)
unfolding free
free_say t path = and_say (place t path) (λ names. where_free (look t names) names) (place_say t path) (λ names. free_judge (look t names) names)

pub replaceable_say : (t : Tree) (path : List ℕ) → Sayable (replaceable t path)
unfolding replaceable
replaceable_say t path = and_say (place t path) (λ names. where_no_folder (look t names) names) (place_say t path) (λ names. no_folder_judge (look t names) names)

pub removable_say : (t : Tree) (path : List ℕ) → Sayable (removable t path)
unfolding removable
removable_say t path = and_say (place t path) (λ names. where_removable (look t names) names) (place_say t path) (λ names. removable_judge (look t names) names)

folder_say : (t : Tree) (path : List ℕ) → Sayable (folder t path)
unfolding folder
folder_say t path = and_say (place t path) (λ names. where_folder (look t names) names) (place_say t path) (λ names. folder_judge (look t names) names)

empty_say : (names : Names) (x y : Bool) → Sayable (let r : Result Names Fault = if x then Err NotEmpty else if y then Ok names else Err NotEmpty in r)
empty_say names true y = (kind.DirectoryNotEmpty, refl, refl)
empty_say names false true = tt
empty_say names false false = (kind.DirectoryNotEmpty, refl, refl)

pub emptied_say : (t : Tree) (path : List ℕ) → Sayable (emptied t path)
unfolding emptied
emptied_say t path = and_say (folder t path) (where_empty t) (folder_say t path) (λ names. empty_say names (length names == 0) (length (listing t names) == 0))

bytes_say : (o : Option Node) → Sayable (bytes_there InvalidInput o)
bytes_say None = not_found
bytes_say (Some Folder) = (kind.InvalidInput, refl, refl)
bytes_say (Some (File bytes)) = tt
bytes_say (Some (Link target)) = (kind.FilesystemLoop, refl, refl)

pub file_say : (t : Tree) (path : List ℕ) → Sayable (file_at t path InvalidInput)
unfolding file_at
file_say t path = and_say (leads t path) (λ names. bytes_there InvalidInput (look t names)) (leads_say t path) (λ names. bytes_say (look t names))

linked_judge : (o : Option Node) → Sayable (linked_in o)
linked_judge None = not_found
linked_judge (Some Folder) = a_folder
linked_judge o = tt

-- a fault of what is linked can be said, if one of its new path can
abbrev pub LinkSayable : {A : Type 0} → Result A Fault → Result Names Fault → Type 0
LinkSayable r ends = IfErr r (λ fault. CanSay (link_fault fault ends))

fault_says : (fault : Fault) (ends : Result Names Fault) → Sayable ends → CanSay fault → CanSay (link_fault fault ends)
fault_says IsADirectory (Ok names) new can = (kind.PermissionDenied, refl, refl)
fault_says IsADirectory (Err why) new can = new
fault_says fault ends new can = can

links_say : {A : Type 0} (r : Result A Fault) (ends : Result Names Fault) → Sayable ends → Sayable r → LinkSayable r ends
links_say (Ok a) ends new can = tt
links_say (Err fault) ends new can = fault_says fault ends new can

pub linked_say : (t : Tree) (path : List ℕ) (ends : Result Names Fault) → Sayable ends → LinkSayable (linked t path) ends
unfolding linked
linked_say t path ends new =
    links_say (and_then (place t path) (λ names. linked_in (look t names))) ends new (and_say (place t path) (λ names. linked_in (look t names)) (place_say t path) (λ names. linked_judge (look t names)))

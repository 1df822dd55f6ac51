-- What of a tree would outlast a loss of power: a second fold over steps, next to the tree.
use Rattle.std.specs.Prelude.{ℕ, List, [], Option, None, Some, Bool, true, false, not, ◌||◌, Result, Ok, Err, length, unwrap_or, bytes_eq, if◌then◌else◌}
use Rattle.cacache_core.specs.{declared.errors.Fault.{Fault}, Paths.{Names, names_of}}
use Rattle.cacache_store.specs.{declared.store.{plain.PlainTemp.{PlainTemp}, step.Step.TheVariants.{Write, Persist, Copy, SyncTemp, SyncFile, SyncDir}, answer.Answer.TheVariants.{Done, Synced}}, Plain.{PlainStep, PlainAnswer}}
use Rattle.cacache_disk.specs.{declared.node.Node.{Node, TheVariants.{Folder, File, Link}}, Tree.{Tree, look, same_path, is_child, bytes_of}, LedTo.{leads, writable}}
pub use Rattle.cacache_loss.specs.declared.fixing.Fixing.{Fixing}
pub use Rattle.cacache_loss.specs.declared.fixing.Place.{Place}

-- a file that was never synced
abbrev pub unsynced : Fixing
unsynced = record { kept = 0; whole = false }

-- a file that is synced with all of these bytes
abbrev pub synced : List ℕ → Fixing
synced bytes = record { kept = length bytes; whole = true }

-- what is fixed of each path
pub record Fixed : Type 0 where
  -- how far its file is
  pub files : Names → Fixing
  -- what was at a name that changed since its folder was synced, as it was when it went
  pub names : Names → Option Place

-- all of a tree is fixed, as at the beginning of a history, with its outside files
abbrev pub all_fixed : Tree → Fixed
all_fixed t = record {
  files = λ path. synced (bytes_of (look t path));
  names = λ path. None;
}

-- what is at a path now
abbrev pub place_now : Tree → Fixed → Names → Place
place_now t fixed path = record { node = look t path; fixing = fixed.files path }

-- ---- what is at a path

-- whether a path is the one that was found
abbrev pub is_at : Result Names Fault → Names → Bool
is_at (Ok names) path = same_path path names
is_at (Err fault) path = false

-- whether a path is one name below the folder that was found
abbrev pub is_child_of : Result Names Fault → Names → Bool
is_child_of (Ok names) path = is_child names path
is_child_of (Err fault) path = false

-- whether a node is the same, with the same bytes
abbrev pub same_node : Option Node → Option Node → Bool
same_node None None = true
same_node (Some Folder) (Some Folder) = true
same_node (Some (File old)) (Some (File new)) = bytes_eq old new
same_node (Some (Link old)) (Some (Link new)) = bytes_eq old new
same_node old new = false

-- whether a name still stands for the same thing, whatever was written to it
abbrev pub same_thing : Option Node → Option Node → Bool
same_thing (Some (File old)) (Some (File new)) = true
same_thing old new = same_node old new

-- ---- what a step changes

-- from where to where a file moves, if both paths name something
abbrev pub between : Result Names Fault → Result Names Fault → Option (Names × Names)
between (Ok from) (Ok to) = Some (from, to)
between from to = None

-- from where to where a step moves a file, if it does
abbrev pub moves_file : PlainStep → PlainAnswer → Option (Names × Names)
moves_file (Persist f p) Done = between (names_of f.path) (names_of p)
moves_file step answer = None

-- whether the temporary file at a path is written
abbrev pub writes_at : PlainStep → Names → Bool
writes_at (Write f bytes) path = is_at (names_of f.path) path
writes_at step path = false

-- whether the file at a path is written anew
abbrev pub rewrites_at : Tree → PlainStep → Names → Bool
rewrites_at old (Copy p to) path = is_at (writable old to) path
rewrites_at old step path = false

-- a file that may be written is no longer whole
abbrev pub opened_if : Bool → Fixing → Fixing
opened_if true f = record { kept = f.kept; whole = false }
opened_if false f = f

-- a file that was written anew, kept its bytes, got more after them, or is another one
abbrev pub refixed : Bool → Bool → Bool → Fixing → Fixing
refixed true same thing f = unsynced
refixed false true thing f = f
refixed false false true f = record { kept = f.kept; whole = false }
refixed false false false f = unsynced

-- a file that moved brings along how far it is fixed
abbrev pub moved_fixing : Option (Names × Names) → Fixed → Names → Fixing → Fixing
moved_fixing None fixed path f = f
moved_fixing (Some (from, to)) fixed path f = if same_path path to then fixed.files from else f

-- whether a file moved to a path
abbrev pub moved_to : Option (Names × Names) → Names → Bool
moved_to None path = false
moved_to (Some (from, to)) path = same_path path to

-- what was at a name is known from its first change since its folder was synced
abbrev pub renamed : Bool → Place → Option Place → Option Place
renamed true now before = Some (unwrap_or before now)
renamed false now before = before

-- how far the file at a path is fixed after a step
abbrev pub file_after : Fixed → Tree → Tree → PlainStep → PlainAnswer → Names → Fixing
file_after fixed old new step answer path =
    moved_fixing (moves_file step answer) fixed path
    (refixed (rewrites_at old step path) (same_node (look old path) (look new path))
    (same_thing (look old path) (look new path))
    (opened_if (writes_at step path) (fixed.files path)))

-- what was at a path when its folder was synced, after a step
abbrev pub name_after : Fixed → Tree → Tree → PlainStep → PlainAnswer → Names → Option Place
name_after fixed old new step answer path =
    renamed
    (moved_to (moves_file step answer) path || not (same_thing (look old path) (look new path)))
    (place_now old fixed path)
    (fixed.names path)

-- what is fixed after a step that isn't a sync
abbrev pub changed : Fixed → Tree → Tree → PlainStep → PlainAnswer → Fixed
changed fixed old new step answer = record {
  files = file_after fixed old new step answer;
  names = name_after fixed old new step answer;
}

-- ---- what a sync fixes

-- the bytes of a temporary file
abbrev pub temp_synced : Fixed → PlainTemp → Fixed
temp_synced fixed f = record fixed {
  files = λ path.
      if is_at (names_of f.path) path then synced (unwrap_or f.bytes []) else fixed.files path;
}

-- the bytes of the file that a path leads to
abbrev pub file_synced : Fixed → Tree → List ℕ → Fixed
file_synced fixed t p = record fixed {
  files = λ path.
      if is_at (leads t p) path then synced (bytes_of (look t path)) else fixed.files path;
}

-- the names in a folder
abbrev pub folder_synced : Fixed → List ℕ → Fixed
folder_synced fixed p = record fixed {
  names = λ path. if is_child_of (names_of p) path then None else fixed.names path;
}

-- whether a step is a sync
abbrev pub is_sync : PlainStep → Bool
is_sync (SyncTemp f) = true
is_sync (SyncFile p) = true
is_sync (SyncDir p) = true
is_sync step = false

-- whether a sync was done
abbrev pub is_synced : PlainAnswer → Bool
is_synced Done = true
is_synced (Synced f) = true
is_synced answer = false

-- ---- after any step

-- what is fixed after a step; a sync that failed fixes nothing
abbrev pub fixed_after : Fixed → Tree → Tree → PlainStep → PlainAnswer → Fixed
fixed_after fixed old new (SyncTemp f) answer =
    if is_synced answer then temp_synced fixed f else fixed
fixed_after fixed old new (SyncFile p) answer =
    if is_synced answer then file_synced fixed old p else fixed
fixed_after fixed old new (SyncDir p) answer =
    if is_synced answer then folder_synced fixed p else fixed
fixed_after fixed old new step answer = changed fixed old new step answer

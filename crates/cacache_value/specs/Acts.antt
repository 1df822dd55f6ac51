-- What one step does to a cache's value, and steps made one after another.
use Rattle.std.specs.Prelude.{ℕ, ◌-◌, ◌==◌, Bool, true, false, List, [], ◌∷◌, ◌++◌, Option, None, Some, Result, Ok, Err, length, take, unwrap_or, if◌then◌else◌, ◌≡◌}
use Rattle.cacache_core.specs.{declared.errors.Fault.{Fault, TheVariants.{NotFound}}, Paths.{Names, names_of, content_names, bucket_names_of}}
use Rattle.cacache_store.specs.{declared.store.{step.Step.TheVariants.{MakeDirs, Persist, Append, Symlink, RemoveFile, RemoveDir}, answer.Answer.TheVariants.{Done, Took, Failed}}, Plain.{PlainStep, PlainAnswer}}
use Rattle.cacache_disk.specs.{declared.luck.Luck.{Luck, TheVariants.{Plain, Fail, Take}}, Tree.{same_path, Tree}, Apply.{apply}}
use Rattle.cacache_entry.specs.{Entry.{Entry}, Bucket.{entries_of}}
use Rattle.cacache_value.specs.{Kinds.{is_path_of}, Value.{Value, Blob, InFile, AtLink}, Placed.{Proper}}

-- what a step does, at the names of a path
pub data Act : Type 0 where
  -- nothing
  Nothing : Act
  -- puts bytes as the content there
  PutBytes : Names → List ℕ → Act
  -- puts a link as the content there
  PutLink : Names → List ℕ → Act
  -- adds entries at the end of the bucket there, which then exists, even if no entry comes
  AddEntries : Names → List Entry → Act
  -- removes the content or the bucket there
  Drop : Names → Act
  -- makes the first so many missing folders of the path, from the top down
  MakeFolders : Names → ℕ → Act
  -- removes the folder there
  DropFolder : Names → Act

-- ---- the act of a step, by its luck and its answer

-- the act on a path's names; nothing on a path without names
abbrev pub act_at : Result Names Fault → (Names → Act) → Act
act_at (Ok names) act = act names
act_at (Err fault) act = Nothing

-- the act with what is known; nothing if it isn't
abbrev pub act_with : {A : Type 0} → Option A → (A → Act) → Act
act_with None act = Nothing
act_with (Some known) act = act known

-- the act of a step that is done; nothing if it failed
abbrev pub act_if_done : PlainAnswer → Act → Act
act_if_done Done act = act
act_if_done answer act = Nothing

-- how many of its bytes or folders a made-up failure leaves, if it leaves any change
abbrev pub part_of : Luck → Option ℕ
part_of Plain = None
part_of (Take most) = None
part_of (Fail fault part) = part

-- how many bytes or folders a step left, if any: what it took, or what a made-up failure left. No
-- made-up failure says that something is missing, so then nothing was left
abbrev pub amount_left : Luck → PlainAnswer → Option ℕ
amount_left luck (Took count) = Some count
amount_left luck (Failed NotFound) = None
amount_left luck (Failed fault) = part_of luck
amount_left luck answer = None

-- how many folders of a path were made at most: all of them if the step is done
abbrev pub folders_left : Names → Luck → PlainAnswer → Option ℕ
folders_left names luck Done = Some (length names)
folders_left names luck answer = amount_left luck answer

-- the act of a step
abbrev pub act_of : PlainStep → Luck → PlainAnswer → Act
act_of (MakeDirs p) luck answer =
    act_at (names_of p) (λ names. act_with (folders_left names luck answer) (MakeFolders names))
act_of (Persist f p) luck answer =
    act_if_done answer (act_at (names_of p) (λ names. act_with f.bytes (PutBytes names)))
act_of (Append p bytes) luck answer =
    act_at (names_of p) (λ names.
    act_with (amount_left luck answer) (λ count. AddEntries names (entries_of (take count bytes))))
act_of (Symlink target p) luck answer =
    act_if_done answer (act_at (names_of p) (λ names. PutLink names target))
act_of (RemoveFile p) luck answer = act_if_done answer (act_at (names_of p) Drop)
act_of (RemoveDir p) luck answer = act_if_done answer (act_at (names_of p) DropFolder)
act_of step luck answer = Nothing

-- ---- what an act does to the value

-- the value with this content at a path
abbrev pub put_blob : Option Names → Names → Option Blob → Value → Value
put_blob home path blob v = record v {
  contents = λ address.
      if is_path_of home (content_names address) path then blob
      else v.contents address;
}

-- the entries of a bucket, none if it doesn't exist
abbrev pub list_of : Option (List Entry) → List Entry
list_of bucket = unwrap_or bucket []

-- the value with these entries at the end of the bucket at a path
abbrev pub add_entries : Option Names → Names → List Entry → Value → Value
add_entries home path new v = record v {
  buckets = λ digest.
      if is_path_of home (bucket_names_of digest) path then Some (list_of (v.buckets digest) ++ new)
      else v.buckets digest;
}

-- the value with no content and no bucket at a path
abbrev pub drop_file : Option Names → Names → Value → Value
drop_file home path v = record v {
  contents = λ address.
      if is_path_of home (content_names address) path then None
      else v.contents address;
  buckets = λ digest.
      if is_path_of home (bucket_names_of digest) path then None
      else v.buckets digest;
}

-- the folders, with one more or one less
abbrev pub set_folder : Bool → Names → (Names → Bool) → Names → Bool
set_folder there path folders names = if same_path names path then there else folders names

-- the folders, with the first missing ones of a path
abbrev pub make_folders : (Names → Bool) → Names → Names → ℕ → Names → Bool
make_folders folders above [] count = folders
make_folders folders above (name ∷ rest) count =
    if folders (above ++ name ∷ []) then make_folders folders (above ++ name ∷ []) rest count
    else if count == 0 then folders
    else make_folders
    (set_folder true (above ++ name ∷ []) folders) (above ++ name ∷ []) rest (count - 1)

-- the value with these folders
abbrev pub with_folders : (Names → Bool) → Value → Value
with_folders folders v = record v { folders = folders }

-- the value after an act
abbrev pub change : Option Names → Act → Value → Value
change home Nothing v = v
change home (PutBytes path bytes) v = put_blob home path (Some (InFile bytes)) v
change home (PutLink path target) v = put_blob home path (Some (AtLink target)) v
change home (AddEntries path new) v = add_entries home path new v
change home (Drop path) v = drop_file home path v
change home (MakeFolders path count) v = with_folders (make_folders v.folders [] path count) v
change home (DropFolder path) v = with_folders (set_folder false path v.folders) v

-- ---- steps made one after another

-- a step that was made, with its luck and its answer
pub record Move : Type 0 where
  pub step : PlainStep
  pub luck : Luck
  pub answer : PlainAnswer

-- each is a proper step, answered as the disk answers at its place
abbrev pub IsTrace : Option Names → Tree → List Move → Type 0
IsTrace home t [] = Unit {0}
IsTrace home t (m ∷ moves) =
    Proper home m.step × (m.answer ≡ (apply t m.step m.luck).0)
    × IsTrace home (apply t m.step m.luck).1 moves

-- the tree after these moves
abbrev pub tree_after : Tree → List Move → Tree
tree_after t [] = t
tree_after t (m ∷ moves) = tree_after (apply t m.step m.luck).1 moves

-- the value after the acts of these moves
abbrev pub acts : Option Names → Value → List Move → Value
acts home v [] = v
acts home v (m ∷ moves) = acts home (change home (act_of m.step m.luck m.answer) v) moves

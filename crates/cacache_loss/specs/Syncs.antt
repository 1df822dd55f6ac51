-- The moves of a durable commit: syncs of files and of the folders of contents and buckets, an append, a file that is put.
use Rattle.std.specs.Prelude.{◌≡◌, ◌⊎◌, ℕ, List, [], ◌∷◌, ◌++◌, Option, true, false, Ok, length, Some}
use Rattle.cacache_core.specs.{Paths.{Names, names_of, content_names, bucket_names_of, folders_to}, declared.integrity.digest.Hash.{Hash}, Integrity.{IsHash}, Laws.{IsKeyDigest}}
use Rattle.cacache_store.specs.{declared.store.{plain.PlainTemp.{PlainTemp}, step.Step.TheVariants.{CreateTemp, Write, Persist, Append, SyncTemp, SyncFile, SyncDir}, answer.Answer.TheVariants.{Done, Took}}, Plain.{PlainStep, PlainAnswer}}
use Rattle.cacache_disk.specs.Tree.{Tree, look}
use Rattle.cacache_value.specs.Acts.{Move}
use Rattle.cacache_loss.specs.{Fixing.{is_at, is_synced, writes_at, rewrites_at, moved_to, moves_file}, Loss.{stays}, Moments.{Moment, next}}

-- ---- folders that are synced

-- the names in this folder are synced
abbrev pub IsFolderSync : Names → PlainStep → PlainAnswer → Type 0
IsFolderSync folder (SyncDir p) answer = (names_of p ≡ Ok folder) × (answer ≡ Done)
IsFolderSync folder step answer = ⊥

-- one of these moves does so
abbrev pub SyncsFolder : Names → List Move → Type 0
SyncsFolder folder [] = ⊥
SyncsFolder folder (m ∷ moves) = IsFolderSync folder m.step m.answer ⊎ SyncsFolder folder moves

-- each folder from this one down is synced, or the path's name in it stays through each loss
abbrev pub SyncsFolders : Option Names → Names → Names → List Move → Type 0
SyncsFolders home above [] moves = Unit {0}
SyncsFolders home above (name ∷ rest) moves =
    ((stays home (above ++ name ∷ []) ≡ true) ⊎ SyncsFolder above moves)
    × SyncsFolders home (above ++ name ∷ []) rest moves

-- ---- files that are synced

-- the bytes of the file at this path are synced
abbrev pub IsFileSync : Names → PlainStep → PlainAnswer → Type 0
IsFileSync path (SyncFile p) answer = (names_of p ≡ Ok path) × (answer ≡ Done)
IsFileSync path step answer = ⊥

-- one of these moves does so
abbrev pub SyncsFile : Names → List Move → Type 0
SyncsFile path [] = ⊥
SyncsFile path (m ∷ moves) = IsFileSync path m.step m.answer ⊎ SyncsFile path moves

-- ---- lines that are appended

-- all of these bytes are appended to the file at this path
abbrev pub IsAppend : Names → List ℕ → PlainStep → PlainAnswer → Type 0
IsAppend path bytes (Append p line) answer =
    (names_of p ≡ Ok path) × (line ≡ bytes) × (answer ≡ Took (length bytes))
IsAppend path bytes step answer = ⊥

-- ---- a temporary file that is synced and then put

-- the temporary file is synced
abbrev pub IsTempSync : PlainTemp → PlainStep → PlainAnswer → Type 0
IsTempSync f (SyncTemp g) answer = (g ≡ f) × (is_synced answer ≡ true)
IsTempSync f step answer = ⊥

-- a step leaves the file at this path as it is
abbrev pub LeavesStep : Names → Moment → PlainStep → Tree → PlainAnswer → Type 0
LeavesStep path now (SyncTemp f) new answer = Unit {0}
LeavesStep path now (SyncFile p) new answer = Unit {0}
LeavesStep path now (SyncDir p) new answer = Unit {0}
LeavesStep path now step new answer =
    (look new path ≡ look now.tree path) × (writes_at step path ≡ false)
    × (rewrites_at now.tree step path ≡ false) × (moved_to (moves_file step answer) path ≡ false)

-- a move does so
abbrev pub Leaves : Names → Moment → Move → Type 0
Leaves path now m = LeavesStep path now m.step (next now m).tree m.answer

-- a step makes, writes and moves other temporary files than the one at this path
abbrev pub Spares : Names → PlainStep → Type 0
Spares temp (CreateTemp p) = is_at (names_of p) temp ≡ false
Spares temp (Write f bytes) = is_at (names_of f.path) temp ≡ false
Spares temp (Persist f p) = is_at (names_of f.path) temp ≡ false
Spares temp step = Unit {0}

-- the step of each of these moves does so
abbrev pub SpareTemp : Names → List Move → Type 0
SpareTemp temp [] = Unit {0}
SpareTemp temp (m ∷ moves) = Spares temp m.step × SpareTemp temp moves

-- this temporary file becomes the content at a path
abbrev pub IsPut : PlainTemp → Names → PlainStep → PlainAnswer → Type 0
IsPut f path (Persist g p) answer = (g ≡ f) × (names_of p ≡ Ok path) × (answer ≡ Done)
IsPut f path step answer = ⊥

-- ---- the folders of a content and of a bucket that a durable commit syncs and waits for

-- one of these moves syncs the folder of this text
abbrev pub SyncsText : List ℕ → List Move → Type 0
SyncsText p [] = ⊥
SyncsText p (m ∷ moves) = ((m.step ≡ SyncDir p) × (m.answer ≡ Done)) ⊎ SyncsText p moves

-- the folder of each of these texts is synced, in any order
abbrev pub SyncsTexts : List (List ℕ) → List Move → Type 0
SyncsTexts [] moves = Unit {0}
SyncsTexts (p ∷ texts) moves = SyncsText p moves × SyncsTexts texts moves

-- the folders from the cache's own down are enough: those above it stay
abbrev pub OwnFoldersAreEnough : Type 0
OwnFoldersAreEnough =
    (home rest : Names) (moves : List Move) → SyncsFolders (Some home) home rest moves
    → SyncsFolders (Some home) [] (home ++ rest) moves

-- so for a content five are enough: from the cache's own folder down to the content's
pub record ContentFolders (cache : List ℕ) (home : Names) (address : Hash) : Type 0 where
  pub five : length (folders_to cache (content_names address)) ≡ 5
  pub enough : (moves : List Move) → SyncsTexts (folders_to cache (content_names address)) moves
      → SyncsFolders (Some home) [] (home ++ content_names address) moves

-- and for a bucket four
pub record BucketFolders (cache : List ℕ) (home : Names) (digest : List ℕ) : Type 0 where
  pub four : length (folders_to cache (bucket_names_of digest)) ≡ 4
  pub enough : (moves : List Move) → SyncsTexts (folders_to cache (bucket_names_of digest)) moves
      → SyncsFolders (Some home) [] (home ++ bucket_names_of digest) moves

-- the folders of every content, if the cache's text names a folder
abbrev pub FiveForContents : Type 0
FiveForContents =
    (cache : List ℕ) (home : Names) (address : Hash) → names_of cache ≡ Ok home → IsHash address
    → ContentFolders cache home address

-- the folders of every bucket
abbrev pub FourForBuckets : Type 0
FourForBuckets =
    (cache : List ℕ) (home : Names) (digest : List ℕ) → names_of cache ≡ Ok home
    → IsKeyDigest digest → BucketFolders cache home digest

-- Single cases, which show that the definitions say what they should.
use Rattle.std.specs.Prelude.{◌≡◌, ◌≢◌, ◌≤◌, ◌<◌, ℕ, List, [], ◌∷◌, ◌++◌, Option, Some, None, Ok, Err, Bool, true, false, codes, length}
use Rattle.cacache_core.specs.{declared.{errors.Fault.TheVariants.{Device, NotFound, IsADirectory}, integrity.digest.Hash.{Hash}}, Integrity.{IsHash}, Laws.{IsKeyDigest}, Paths.{Names, names_of, content_names, bucket_names_of}}
use Rattle.cacache_store.specs.{declared.store.{plain.PlainTemp.{PlainTemp}, step.Step.TheVariants.{MakeDirs, Persist, Append, Symlink, RemoveFile, RemoveDir}, answer.Answer.TheVariants.{Done, Took, Failed}}, Plain.{PlainStep, PlainAnswer}}
use Rattle.cacache_disk.specs.{declared.{luck.Luck.{Luck, TheVariants.{Fail}}, node.Node.TheVariants.{Folder, File, Link}}, Tree.{Tree, look}}
use Rattle.cacache_entry.specs.{Entry.{Entry, line_of}, FittingEntries.{IsEntry, IsWritable}, Bucket.{entries_of}}
use Rattle.cacache_value.specs.{Kinds.{Content, Bucket, Temporary, Way, Stray, Elsewhere, path_kind}, Value.{Value, InFile, AtLink, empty_value, value_of_tree}, Acts.{act_of, change, list_of}, Shows.{link_end, blob_bytes}}

-- ---- what paths are for, of a cache in the folder `/c`

-- the names of the cache's folder in these rows
abbrev pub row_home : Names
row_home = codes "c" ∷ []

-- the names of two folders in it
abbrev pub row_folder : Names
row_folder = codes "c" ∷ codes "tmp" ∷ []

-- `/c/content-v2/sha1/a9/99/3e36` is a content, and so on
pub record KindCases : Type 0 where
  pub content : path_kind (Some row_home)
      (codes "c" ∷ codes "content-v2" ∷ codes "sha1" ∷ codes "a9" ∷ codes "99" ∷ codes "3e36" ∷ [])
      ≡ Content
  pub bucket : path_kind (Some row_home)
      (codes "c" ∷ codes "index-v5" ∷ codes "c8" ∷ codes "fd" ∷ codes "19d9" ∷ []) ≡ Bucket
  pub temporary : path_kind (Some row_home) (codes "c" ∷ codes "tmp" ∷ codes ".tmp07" ∷ [])
      ≡ Temporary
  pub top : path_kind (Some row_home) [] ≡ Way
  pub home : path_kind (Some row_home) (codes "c" ∷ []) ≡ Way
  pub folder : path_kind (Some row_home) (codes "c" ∷ codes "index-v5" ∷ codes "c8" ∷ []) ≡ Way
  pub too_deep : path_kind (Some row_home) (codes "c" ∷ codes "tmp" ∷ codes "x" ∷ codes "y" ∷ [])
      ≡ Stray
  pub other_area : path_kind (Some row_home) (codes "c" ∷ codes "notes" ∷ []) ≡ Stray
  pub apart : path_kind (Some row_home) (codes "d" ∷ codes "tmp" ∷ []) ≡ Elsewhere
  pub no_home : path_kind None (codes "c" ∷ []) ≡ Elsewhere

-- ---- what a tree holds

-- a file or link at a content's path, and a file, an empty file or nothing at a bucket's
pub record TreeCases (home : Names) (t : Tree) : Type 0 where
  pub file : (a : Hash) (bytes : List ℕ) → look t (home ++ content_names a) ≡ Some (File bytes)
      → (value_of_tree (Some home) t).contents a ≡ Some (InFile bytes)
  pub link : (a : Hash) (target : List ℕ) → look t (home ++ content_names a) ≡ Some (Link target)
      → (value_of_tree (Some home) t).contents a ≡ Some (AtLink target)
  pub no_content : (a : Hash) → look t (home ++ content_names a) ≡ None
      → (value_of_tree (Some home) t).contents a ≡ None
  pub bucket : (digest bytes : List ℕ) → look t (home ++ bucket_names_of digest) ≡ Some (File bytes)
      → (value_of_tree (Some home) t).buckets digest ≡ Some (entries_of bytes)
  pub empty_bucket : (digest : List ℕ) → look t (home ++ bucket_names_of digest) ≡ Some (File [])
      → (value_of_tree (Some home) t).buckets digest ≡ Some []
  pub no_bucket : (digest : List ℕ) → look t (home ++ bucket_names_of digest) ≡ None
      → (value_of_tree (Some home) t).buckets digest ≡ None

-- what a link to a file, to nothing or to a folder shows
pub record LinkCases (t : Tree) (target : List ℕ) : Type 0 where
  pub to_file : (end : Names) (bytes : List ℕ)
      → link_end t target ≡ Ok end → look t end ≡ Some (File bytes)
      → blob_bytes t (Some (AtLink target)) ≡ Ok bytes
  pub to_nothing : link_end t target ≡ Err NotFound
      → blob_bytes t (Some (AtLink target)) ≡ Err NotFound
  pub to_folder : (end : Names) → link_end t target ≡ Ok end → look t end ≡ Some Folder
      → blob_bytes t (Some (AtLink target)) ≡ Err IsADirectory

-- ---- what a step does

-- the value after a step, of a cache in the folder `home`
abbrev pub value_after : Names → Value → PlainStep → Luck → PlainAnswer → Value
value_after home v step luck answer = change (Some home) (act_of step luck answer) v

-- the bucket of a SHA-1 after an append of an entry's line at its path
abbrev pub bucket_after : Names → Value → List ℕ → List ℕ → Entry → Luck → PlainAnswer
    → Option (List Entry)
bucket_after home v path digest e luck answer =
    (value_after home v (Append path (line_of e)) luck answer).buckets digest

-- appends of an entry's line to the bucket of a SHA-1
pub record AppendCases (home : Names) (v : Value) (path digest : List ℕ) (e : Entry) : Type 0 where
  -- all of it was taken: the entry comes after the others
  pub whole : (luck : Luck) → bucket_after home v path digest e luck (Took (length (line_of e)))
      ≡ Some (list_of (v.buckets digest) ++ e ∷ [])
  -- less was taken: the bucket exists, and no entry comes
  pub torn : (luck : Luck) (n : ℕ) → n < length (line_of e)
      → bucket_after home v path digest e luck (Took n) ≡ Some (list_of (v.buckets digest))
  -- a failure that left all of it: the entry comes even so
  pub failed_whole : (n : ℕ) → length (line_of e) ≤ n
      → bucket_after home v path digest e (Fail Device (Some n)) (Failed Device)
      ≡ Some (list_of (v.buckets digest) ++ e ∷ [])
  -- a failure that left less
  pub failed_torn : (n : ℕ) → n < length (line_of e)
      → bucket_after home v path digest e (Fail Device (Some n)) (Failed Device)
      ≡ Some (list_of (v.buckets digest))
  -- a failure that only made the file
  pub created_only : bucket_after home v path digest e (Fail Device (Some 0)) (Failed Device)
      ≡ Some (list_of (v.buckets digest))
  -- a failure that left nothing
  pub failed : value_after home v (Append path (line_of e)) (Fail Device None) (Failed Device) ≡ v
  -- the bucket's folder is missing
  pub no_folder : (luck : Luck)
      → value_after home v (Append path (line_of e)) luck (Failed NotFound) ≡ v

-- so it is for the line of each entry that fits, at the path of each bucket
abbrev pub LinesAppend : Type 0
LinesAppend = (home : Names) (v : Value) (path digest : List ℕ) (e : Entry)
    → IsEntry e → IsWritable e → names_of path ≡ Ok (home ++ bucket_names_of digest)
    → AppendCases home v path digest e

-- every other bucket keeps its entries
abbrev pub OtherBucketsKeep : Type 0
OtherBucketsKeep =
    (home : Names) (v : Value) (path bytes d b : List ℕ) (luck : Luck) (answer : PlainAnswer)
    → IsKeyDigest d → IsKeyDigest b → b ≢ d → names_of path ≡ Ok (home ++ bucket_names_of d)
    → (value_after home v (Append path bytes) luck answer).buckets b ≡ v.buckets b

-- files and links at the path of an address
pub record ContentCases (home : Names) (v : Value) (path : List ℕ) (a : Hash) : Type 0 where
  -- a temporary file that is moved there is the content, in place of another
  pub replaced : (luck : Luck) (file : PlainTemp) (bytes : List ℕ) → file.bytes ≡ Some bytes
      → (value_after home v (Persist file path) luck Done).contents a ≡ Some (InFile bytes)
  -- every other address keeps its content
  pub others_keep : (luck : Luck) (file : PlainTemp) (b : Hash) → IsHash a → IsHash b → b ≢ a
      → (value_after home v (Persist file path) luck Done).contents b ≡ v.contents b
  -- a move that failed does nothing
  pub failed : (luck : Luck) (file : PlainTemp)
      → value_after home v (Persist file path) luck (Failed Device) ≡ v
  -- a link that is made there is the content
  pub linked : (luck : Luck) (target : List ℕ)
      → (value_after home v (Symlink target path) luck Done).contents a ≡ Some (AtLink target)
  -- a content that is removed is gone
  pub removed : (luck : Luck) → (value_after home v (RemoveFile path) luck Done).contents a ≡ None

-- a bucket that is removed is gone
abbrev pub RemovedBucketsGo : Type 0
RemovedBucketsGo =
    (home : Names) (v : Value) (path digest : List ℕ) (luck : Luck)
    → names_of path ≡ Ok (home ++ bucket_names_of digest)
    → (value_after home v (RemoveFile path) luck Done).buckets digest ≡ None

-- the folders of a cache that held none, after a `MakeDirs`
abbrev pub folders_after : List ℕ → Luck → PlainAnswer → Names → Bool
folders_after path luck answer =
    (value_after row_home empty_value (MakeDirs path) luck answer).folders

-- the two folders of a path
pub record FolderCases (path : List ℕ) (luck : Luck) : Type 0 where
  -- both are made
  pub first : folders_after path luck Done row_home ≡ true
  pub second : folders_after path luck Done row_folder ≡ true
  -- a failure that left one of them
  pub only_first : folders_after path (Fail Device (Some 1)) (Failed Device) row_home ≡ true
  pub no_second : folders_after path (Fail Device (Some 1)) (Failed Device) row_folder ≡ false
  -- one that is removed is gone
  pub removed : (v : Value)
      → (value_after row_home v (RemoveDir path) luck Done).folders row_folder ≡ false

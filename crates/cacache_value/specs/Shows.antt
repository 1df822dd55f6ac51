-- What a reading step shows of a cache's value.
use Rattle.std.specs.Prelude.{◌≡◌, ℕ, true, false, List, Option, None, Some, Result, Ok, Err, length}
use Rattle.cacache_core.specs.{declared.{errors.Fault.{Fault, TheVariants.{NotFound, IsADirectory}}, integrity.digest.Hash.{Hash}}, Paths.{Names, content_names, bucket_names_of}}
use Rattle.cacache_store.specs.{declared.store.{step.Step.TheVariants.{ReadAll, Open, Size, Exists}, answer.Answer.TheVariants.{Bytes, File, There, Length, Failed}}, Plain.{PlainStep, PlainAnswer}}
use Rattle.cacache_disk.specs.{declared.luck.Luck.{Luck}, Tree.{Tree, look}, LedTo.{and_then, standing, followed, bytes_there, where_there}, Apply.{apply, is_there}}
use Rattle.cacache_entry.specs.{Entry.{Entry}, Bucket.{entries_of}}
use Rattle.cacache_value.specs.{Kinds.{NamesBelow}, Value.{Blob, InFile, AtLink, value_of_tree}}

-- where the link of a content leads, through at most fifteen further links
unfoldable pub link_end : Tree → List ℕ → Result Names Fault
link_end t target = and_then (standing t target) (followed 15 t)

-- the bytes of a content, through its link, or why there are none
abbrev pub blob_bytes : Tree → Option Blob → Result (List ℕ) Fault
blob_bytes t None = Err NotFound
blob_bytes t (Some (InFile bytes)) = Ok bytes
blob_bytes t (Some (AtLink target)) =
    and_then (link_end t target) (λ names. bytes_there IsADirectory (look t names))

-- the answer whether a content is there; for a link, whether its end is
abbrev pub blob_there : Tree → Option Blob → PlainAnswer
blob_there t None = There false
blob_there t (Some (InFile bytes)) = There true
blob_there t (Some (AtLink target)) =
    is_there (and_then (link_end t target) (λ names. where_there (look t names) names))

-- ---- what an answer says

-- of a bucket: its entries, or that it doesn't exist. Another failure says nothing
abbrev pub ShowsBucket : Option (List Entry) → PlainAnswer → Type 0
ShowsBucket bucket (Bytes bytes) = bucket ≡ Some (entries_of bytes)
ShowsBucket bucket (Failed NotFound) = bucket ≡ None
ShowsBucket bucket other = Unit {0}

-- of a content: its bytes, their number, or that there are none. Another failure says nothing
abbrev pub ShowsContent : Result (List ℕ) Fault → PlainAnswer → Type 0
ShowsContent content (Bytes all) = content ≡ Ok all
ShowsContent content (File file) = (all : List ℕ) × (content ≡ Ok all) × (file.bytes ≡ Some all)
ShowsContent content (Length count) = (all : List ℕ) × (content ≡ Ok all) × (count ≡ length all)
ShowsContent content (Failed NotFound) = content ≡ Err NotFound
ShowsContent content other = Unit {0}

-- of whether a content is there. A failure says nothing
abbrev pub ShowsThere : PlainAnswer → PlainAnswer → Type 0
ShowsThere content (There there) = content ≡ There there
ShowsThere content other = Unit {0}

-- ---- reading steps

-- the answer of a step at the path of a content suits the content that the value holds there
abbrev pub AnswersOf : Option Names → Tree → (List ℕ → PlainStep)
    → (Option Blob → PlainAnswer → Type 0) → Type 0
AnswersOf home t step IsSo =
    (address : Hash) (path : List ℕ) (luck : Luck) → NamesBelow home (content_names address) path
    → IsSo ((value_of_tree home t).contents address) (apply t (step path) luck).0

-- at the paths of buckets and contents reading steps show what the tree's value holds there
pub record ReadsShow (home : Option Names) (t : Tree) : Type 0 where
  pub bucket : (digest path : List ℕ) (luck : Luck) → NamesBelow home (bucket_names_of digest) path
      → ShowsBucket ((value_of_tree home t).buckets digest) (apply t (ReadAll path) luck).0
  pub content : AnswersOf home t ReadAll (λ blob. ShowsContent (blob_bytes t blob))
  pub opened : AnswersOf home t Open (λ blob. ShowsContent (blob_bytes t blob))
  pub size : AnswersOf home t Size (λ blob. ShowsContent (blob_bytes t blob))
  pub there : AnswersOf home t Exists (λ blob. ShowsThere (blob_there t blob))

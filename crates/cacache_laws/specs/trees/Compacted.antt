-- What a compaction leaves of a tree, and what lookups, reads and listings answer there.
use Rattle.std.specs.Prelude.{◌≡◌, ◌⊎◌, ◌++◌, ℕ, List, [], ◌∷◌, Bool, true, Option, None, Some}
use Rattle.cacache_core.specs.{declared.integrity.digest.Hash.{Hash}, Integrity.{IsIntegrity}, Paths.{Names, temp_area}}
use Rattle.cacache_disk.specs.{declared.node.Node.{Node, TheVariants.{Folder, File}}, Tree.{Tree, look}}
use Rattle.cacache_entry.specs.Bucket.{Found}
use Rattle.cacache_value.specs.Kinds.{Bucket, path_kind}
use Rattle.cacache_laws.specs.trees.{Compacting.{compact_text}, Contents.{content_in}, Idle.{Finds}, Verifying.{found_in}, Temporary.{is_temp_name, temp_at}}

-- ---- at one path, from what was there to what is there

-- it is a bucket, and its bytes are compacted, durably or not
abbrev pub IsCompacted : Bool → Names → Names → Option Node → Option Node → Type 0
IsCompacted durable home names old new =
    (path_kind (Some home) names ≡ Bucket) × (bytes : List ℕ)
    × (old ≡ Some (File bytes)) × (new ≡ Some (File (compact_text durable bytes)))

-- it is the folder of temporary files, and was made
abbrev pub IsTempFolder : Names → Names → Option Node → Option Node → Type 0
IsTempFolder home names old new =
    (names ≡ home ++ temp_area ∷ []) × (old ≡ None) × (new ≡ Some Folder)

-- it is a temporary file that was left, and nothing was there before
abbrev pub IsLeftOver : Names → Names → Option Node → Option Node → Type 0
IsLeftOver home names old new =
    (name : List ℕ) × (names ≡ temp_at home name) × (is_temp_name name ≡ true)
    × (old ≡ None) × (new ≡ Some (File []))

-- ---- of the whole tree

-- all is as it was, except that buckets may be compacted, and the folder of temporary files be new
abbrev pub Compacted : Bool → Names → Tree → Tree → Type 0
Compacted durable home t new =
    (names : Names)
    → (look new names ≡ look t names)
    ⊎ (IsCompacted durable home names (look t names) (look new names)
    ⊎ IsTempFolder home names (look t names) (look new names))

-- so it is if that was cut short, except that temporary files may be left
abbrev pub CutShort : Bool → Names → Tree → Tree → Type 0
CutShort durable home t new =
    (names : Names)
    → (look new names ≡ look t names)
    ⊎ (IsCompacted durable home names (look t names) (look new names)
    ⊎ (IsTempFolder home names (look t names) (look new names)
    ⊎ IsLeftOver home names (look t names) (look new names)))

-- ---- what is found there

-- each key leads where it led, and each address has the content that it had
pub record KeepsFound (home : Names) (t new : Tree) : Type 0 where
  pub keys : (key : List ℕ) → found_in home new key ≡ found_in home t key
  pub contents : (h : Hash) → content_in home new h ≡ content_in home t h

-- each entry that a lookup finds has an integrity
abbrev pub FindsFormed : List ℕ → Tree → Type 0
FindsFormed cache t =
    (key : List ℕ) (found : Found) → Finds cache t key found → IsIntegrity found.integrity

-- What a compaction does, over any store.
use Rattle.std.specs.{Prelude.{◌≡◌, ◌⊎◌, ◌++◌, ◌-◌, ◌^◌, ℕ, List, [], ◌∷◌, Bool, true, false, Option, None, Some, if◌then◌else◌, filter, length, map, min, not, option_map}, Bool.{nat_eq}, Cmp.Lexicographic.{pointwise}}
use Rattle.cacache_core.specs.declared.errors.Error.{Error}
use Rattle.cacache_store.specs.declared.store.answer.Answer.TheVariants as answers
use Rattle.cacache_store.specs.declared.store.log.LogItem.{LogItem}
use Rattle.cacache_store.specs.declared.store.step.Step.TheVariants as steps
use Rattle.cacache_calls.specs.SingleSteps.{Does, FailsAt}
use Rattle.cacache_laws.specs.trees.{Compacting.{compact_text}, Temporary.{total}}
use Rattle.cacache_keep.specs.{declared.settling.Lean.{Lean}, Buckets.{FindsBuckets, StopsFinding}, Rewriting.{Rewrites, StopsRewriting, StopsSyncingBucket, SyncsBucket}, Syncing.{StopsAbove, SyncsAbove}}

-- ---- buckets, one after another

-- a bucket's path, and the bytes that were read there
abbrev pub Bucket : Type 0
Bucket = List ℕ × List ℕ

-- whether these are the same bytes
abbrev pub same_bytes : List ℕ → List ℕ → Bool
same_bytes = pointwise nat_eq

-- whether a compaction, durable or not, changes it
abbrev pub is_loose : Bool → Bucket → Bool
is_loose durable b = not (same_bytes (compact_text durable b.1) b.1)

-- how many bytes that saves
abbrev pub saved : Bool → Bucket → ℕ
saved durable b = length b.1 - length (compact_text durable b.1)

-- a bucket that changes is written anew; another is synced, if the compaction is durable
abbrev pub RewritesIf : Bool → Bool → List ℕ → Bucket
    → Option (List LogItem) → Option (List LogItem) → Type 0
RewritesIf true durable cache b old new =
    Rewrites durable cache b.0 (compact_text durable b.1) old new
RewritesIf false durable cache b old new = SyncsBucket durable b.0 old new

-- the log gained a read of the bucket, and what wrote it anew or synced it
abbrev pub CompactsBucket :
    Bool → List ℕ → Bucket → Option (List LogItem) → Option (List LogItem) → Type 0
CompactsBucket durable cache b old new =
    (read : Option (List LogItem)) × Does (steps.ReadAll b.0) (answers.Bytes b.1) old read
    × RewritesIf (is_loose durable b) durable cache b read new

-- so it did of each of these buckets, in turn
abbrev pub CompactsEach :
    Bool → List ℕ → List Bucket → Option (List LogItem) → Option (List LogItem) → Type 0
CompactsEach durable cache [] old new = new ≡ old
CompactsEach durable cache (b ∷ buckets) old new =
    (next : Option (List LogItem)) × CompactsBucket durable cache b old next
    × CompactsEach durable cache buckets next new

-- these are the bytes of the compacted bucket, if that changes it
abbrev pub Changes : Bool → List ℕ → Option (List ℕ) → Type 0
Changes durable bytes text =
    let compacted = compact_text durable bytes in
    text ≡ (if same_bytes compacted bytes then None else Some compacted)

-- the bucket changes, and this is what that saves; or it doesn't
abbrev pub Saves : Bool → Bucket → Option ℕ → Type 0
Saves durable b None = is_loose durable b ≡ false
Saves durable b (Some bytes) = (is_loose durable b ≡ true) × (bytes ≡ saved durable b)

-- the bucket at the path was compacted, and this is what that saved, if it changed
abbrev pub CompactsAt : Bool → List ℕ → List ℕ → Option ℕ
    → Option (List LogItem) → Option (List LogItem) → Type 0
CompactsAt durable cache path saving old new =
    (bytes : List ℕ) × Saves durable (path, bytes) saving
    × CompactsBucket durable cache (path, bytes) old new

-- the bytes of a compacted bucket, and how many that saves, as values hold them
abbrev pub lean_view : Option Lean → Option (List ℕ × ℕ)
lean_view lean = option_map (λ (l : Lean). (l.text.items, l.saved)) lean

-- new bytes are written to the path, and this is what they save; without them the bucket is synced,
-- if the compaction is durable
abbrev pub Settles : Bool → List ℕ → List ℕ → Option (List ℕ × ℕ) → Option ℕ
    → Option (List LogItem) → Option (List LogItem) → Type 0
Settles durable cache path None saving old new =
    (saving ≡ None) × SyncsBucket durable path old new
Settles durable cache path (Some lean) saving old new =
    (saving ≡ Some lean.1) × Rewrites durable cache path lean.0 old new

-- the error ended that
abbrev pub StopsSettling : Bool → List ℕ → List ℕ → Option (List ℕ × ℕ) → Error
    → Option (List LogItem) → Option (List LogItem) → Type 0
StopsSettling durable cache path None e old new = StopsSyncingBucket durable path e old new
StopsSettling durable cache path (Some lean) e old new =
    StopsRewriting durable cache path lean.0 e old new

-- ---- a compaction

-- the buckets at these paths are read, in turn; those that change are written anew, and the others
-- synced if the compaction is durable; so many did change, and this is what that saved
pub record CompactsAll
    (durable : Bool) (cache : List ℕ) (paths : List (List ℕ)) (count bytes : ℕ)
    (old new : Option (List LogItem)) : Type 0 where
  pub buckets : List Bucket
  pub each : map (λ b. b.0) buckets ≡ paths
  pub compacting : CompactsEach durable cache buckets old new
  pub counted : count ≡ min (length (filter (is_loose durable) buckets)) (2 ^ 64 - 1)
  pub sized : bytes ≡ total (map (saved durable) (filter (is_loose durable) buckets))

-- the buckets of the index are found, and all of them are compacted; a durable compaction syncs the
-- folders above theirs, too
abbrev pub CompactsCache :
    Bool → List ℕ → ℕ → ℕ → Option (List LogItem) → Option (List LogItem) → Type 0
CompactsCache durable cache count bytes old new =
    (tops paths : List (List ℕ)) × (found done : Option (List LogItem))
    × FindsBuckets cache tops paths old found
    × CompactsAll durable cache paths count bytes found done
    × SyncsAbove durable cache tops done new

-- ---- errors

-- the bucket doesn't change, and the error ended its sync
abbrev pub StopsUnchanged :
    Bool → Bucket → Error → Option (List LogItem) → Option (List LogItem) → Type 0
StopsUnchanged durable b e old new =
    (is_loose durable b ≡ false) × StopsSyncingBucket durable b.0 e old new

-- the error ended the reading of the bucket at the path, or what was to write it anew or sync it
abbrev pub StopsBucket :
    Bool → List ℕ → List ℕ → Error → Option (List LogItem) → Option (List LogItem) → Type 0
StopsBucket durable cache path e old new =
    FailsAt (steps.ReadAll path) e old new
    ⊎ ((bytes : List ℕ) × (read : Option (List LogItem))
    × Does (steps.ReadAll path) (answers.Bytes bytes) old read
    × (StopsRewriting durable cache path (compact_text durable bytes) e read new
    ⊎ StopsUnchanged durable (path, bytes) e read new))

-- some of the buckets at these paths were compacted, and the error ended that of the next
pub record StopsCompactingEach
    (durable : Bool) (cache : List ℕ) (paths : List (List ℕ)) (e : Error)
    (old new : Option (List LogItem)) : Type 0 where
  pub buckets : List Bucket
  pub next : List ℕ
  pub rest : List (List ℕ)
  pub split : paths ≡ map (λ b. b.0) buckets ++ next ∷ rest
  pub between : Option (List LogItem)
  pub compacting : CompactsEach durable cache buckets old between
  pub stop : StopsBucket durable cache next e between new

-- all buckets at these paths were compacted, and the error ended a sync of folders above theirs
abbrev pub StopsAfterAll : Bool → List ℕ → List (List ℕ) → List (List ℕ) → Error
    → Option (List LogItem) → Option (List LogItem) → Type 0
StopsAfterAll durable cache tops paths e old new =
    (count bytes : ℕ) × (done : Option (List LogItem))
    × CompactsAll durable cache paths count bytes old done
    × StopsAbove durable cache tops e done new

-- the error ended the finding of the buckets, a compaction of one, or what comes after all of them
abbrev pub StopsCompacting :
    Bool → List ℕ → Error → Option (List LogItem) → Option (List LogItem) → Type 0
StopsCompacting durable cache e old new =
    StopsFinding cache e old new
    ⊎ ((tops paths : List (List ℕ)) × (found : Option (List LogItem))
    × FindsBuckets cache tops paths old found
    × (StopsCompactingEach durable cache paths e found new
    ⊎ StopsAfterAll durable cache tops paths e found new))

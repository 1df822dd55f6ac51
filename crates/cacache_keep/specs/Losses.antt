-- What a loss of power leaves of the buckets that a compaction wrote anew.
use Rattle.std.specs.Prelude.{◌≡◌, ◌⊎◌, ◌++◌, ℕ, List, [], ◌∷◌, Bool, Option, None, Some, true}
use Rattle.sha1.specs.Sha1.{sha1}
use Rattle.cacache_core.specs.{declared.errors.Error.{Error}, Laws.{IsKeyDigest}, Paths.{Names, home_of, bucket_names_of}}
use Rattle.cacache_store.specs.declared.store.log.LogItem.{LogItem}
use Rattle.cacache_disk.specs.{declared.node.Node.TheVariants.{File}, Tree.{Tree, look}, Replay.{tree_of, IsLog}}
use Rattle.cacache_entry.specs.Bucket.{entries_of, Found, latest}
use Rattle.cacache_calls.specs.Runs.{Gains, Moves}
use Rattle.cacache_laws.specs.{Sequence.{plain_moves}, trees.{Compacting.{compact_text}, Verifying.{found_in}}}
use Rattle.cacache_value.specs.{Placed.{Placed}, Acts.{Move}}
use Rattle.cacache_loss.specs.{Moments.{AreCalm, EachMove, Moment, after}, Fixing.{Fixed}, Loss.{Loss}, LossLaws.{BeginsWith, FindsOrLater}, LostValues.{LeftOf}, Syncs.{Leaves}}
use Rattle.cacache_keep.specs.Compacting.{CompactsCache, StopsCompacting}

-- the moment after these moves, from a tree that had so much fixed
abbrev pub moment_after : Tree → Fixed → Moves → Moment
moment_after t fixed moves = after (record { tree = t; fixed = fixed }) (plain_moves moves)

-- ---- what is fixed

-- below the first names, the names of the folders on the way to what the others name are fixed
abbrev pub WayFixed : Fixed → Names → Names → Type 0
WayFixed fixed above [] = Unit {0}
WayFixed fixed above (name ∷ []) = Unit {0}
WayFixed fixed above (name ∷ next ∷ rest) =
    (fixed.names (above ++ name ∷ []) ≡ None)
    × WayFixed fixed (above ++ name ∷ []) (next ∷ rest)

-- all bytes of a file are fixed, and its name and those of its folders below the first names
abbrev pub IsFixedAt : Fixed → Names → Names → Type 0
IsFixedAt fixed home names =
    ((fixed.files (home ++ names)).whole ≡ true) × (fixed.names (home ++ names) ≡ None)
    × WayFixed fixed home names

-- so it is for each bucket
abbrev pub BucketsFixed : Names → Tree → Fixed → Type 0
BucketsFixed home t fixed =
    (digest bytes : List ℕ) → IsKeyDigest digest
    → look t (home ++ bucket_names_of digest) ≡ Some (File bytes)
    → IsFixedAt fixed home (bucket_names_of digest)

-- ---- after a compaction

-- in the second tree each bucket of the first has exactly its compacted bytes, and each key that
-- led to an entry leads to it
pub record KeepsLean (home : Names) (t left : Tree) : Type 0 where
  pub buckets : (digest bytes : List ℕ) → IsKeyDigest digest
      → look t (home ++ bucket_names_of digest) ≡ Some (File bytes)
      → look left (home ++ bucket_names_of digest) ≡ Some (File (compact_text true bytes))
  pub keys : (key : List ℕ) (found : Found)
      → found_in home t key ≡ Some found → found_in home left key ≡ Some found

-- after a durable compaction that succeeded all buckets are fixed, whatever was before
abbrev pub CompactionsFix : Type 0
CompactionsFix =
    (cache : List ℕ) (home : Names) (count bytes : ℕ) (moves : Moves) (fixed : Fixed)
    (old new : List LogItem)
    → home_of cache ≡ Some home → IsLog new
    → CompactsCache true cache count bytes (Some old) (Some new)
    → Gains (Some old) (Some new) moves
    → BucketsFixed home (tree_of new) (moment_after (tree_of old) fixed moves).fixed

-- so a loss then leaves the compacted buckets; the cache's own folder stays in each loss, as the
-- caller has synced the folder above it
abbrev pub CompactionsOutlast : Type 0
CompactionsOutlast =
    (cache : List ℕ) (home : Names) (count bytes : ℕ) (moves : Moves) (fixed : Fixed)
    (loss : Loss) (old new : List LogItem) (left : Tree)
    → home_of cache ≡ Some home → IsLog new
    → CompactsCache true cache count bytes (Some old) (Some new)
    → Gains (Some old) (Some new) moves
    → LeftOf home (moment_after (tree_of old) fixed moves) loss left
    → KeepsLean home (tree_of old) left

-- a move leaves what the names lead to, and the folders on the way there below the first names
abbrev pub LeavesWay : Names → Names → Moment → Move → Type 0
LeavesWay above [] now m = Unit {0}
LeavesWay above (name ∷ rest) now m =
    Leaves (above ++ name ∷ []) now m × LeavesWay (above ++ name ∷ []) rest now m

-- while later steps leave a bucket and its folders, as reads do and writes elsewhere, each later
-- loss leaves exactly its compacted bytes
abbrev pub CompactionsLast : Type 0
CompactionsLast =
    (cache : List ℕ) (home : Names) (count bytes : ℕ) (moves : Moves) (more : List Move)
    (fixed : Fixed) (loss : Loss) (old new : List LogItem) (left : Tree) (digest text : List ℕ)
    → home_of cache ≡ Some home → IsLog new
    → CompactsCache true cache count bytes (Some old) (Some new)
    → Gains (Some old) (Some new) moves
    → IsKeyDigest digest
    → look (tree_of old) (home ++ bucket_names_of digest) ≡ Some (File text)
    → EachMove (LeavesWay home (bucket_names_of digest))
    (moment_after (tree_of old) fixed moves) more
    → LeftOf home (after (moment_after (tree_of old) fixed moves) more) loss left
    → look left (home ++ bucket_names_of digest) ≡ Some (File (compact_text true text))

-- in the second tree each bucket of the first begins with its compacted bytes, and a lookup there
-- finds what it found, or what a later entry answers
pub record BeginsLean (home : Names) (t left : Tree) : Type 0 where
  pub buckets : (digest bytes : List ℕ) → IsKeyDigest digest
      → look t (home ++ bucket_names_of digest) ≡ Some (File bytes)
      → BeginsWith (compact_text true bytes) (look left (home ++ bucket_names_of digest))
  pub keys : (key bytes : List ℕ)
      → look t (home ++ bucket_names_of (sha1 key)) ≡ Some (File bytes)
      → FindsOrLater key (latest key (entries_of bytes)) (entries_of (compact_text true bytes))
      (look left (home ++ bucket_names_of (sha1 key)))

-- so it is after each later loss, if each thing lies in its place, as it does if only calls wrote,
-- and later steps of calls remove, link and export nothing; they may append to buckets
abbrev pub CompactionsGrow : Type 0
CompactionsGrow =
    (cache : List ℕ) (home : Names) (count bytes : ℕ) (moves : Moves) (more : List Move)
    (fixed : Fixed) (loss : Loss) (old new : List LogItem) (left : Tree)
    → home_of cache ≡ Some home → IsLog new
    → CompactsCache true cache count bytes (Some old) (Some new)
    → Gains (Some old) (Some new) moves
    → Placed (Some home) (tree_of new)
    → AreCalm (Some home) (moment_after (tree_of old) fixed moves) more
    → LeftOf home (after (moment_after (tree_of old) fixed moves) more) loss left
    → BeginsLean home (tree_of old) left

-- ---- during a compaction

-- in the second tree the bucket at the digest has exactly its bytes or its compacted ones, and each
-- of its keys that led to an entry leads to it
pub record KeepsEither
    (durable : Bool) (home : Names) (digest bytes : List ℕ) (t left : Tree) : Type 0 where
  pub bucket : (look left (home ++ bucket_names_of digest) ≡ Some (File bytes))
      ⊎ (look left (home ++ bucket_names_of digest) ≡ Some (File (compact_text durable bytes)))
  pub keys : (key : List ℕ) (found : Found) → sha1 key ≡ digest
      → found_in home t key ≡ Some found → found_in home left key ≡ Some found

-- the log gained a compaction, durable or not, or as much of one as came before an error
abbrev pub CompactsSo : Bool → List ℕ → Option (List LogItem) → Option (List LogItem) → Type 0
CompactsSo durable cache old new =
    ((count bytes : ℕ) × CompactsCache durable cache count bytes old new)
    ⊎ ((e : Error) × StopsCompacting durable cache e old new)

-- so it is in what a loss leaves after any of its moves, if the bucket was fixed before, as it is
-- after a durable put
abbrev pub CompactionsSpare : Type 0
CompactionsSpare =
    (durable : Bool) (cache : List ℕ) (home : Names) (first rest : Moves) (fixed : Fixed)
    (loss : Loss) (old new : List LogItem) (left : Tree) (digest bytes : List ℕ)
    → home_of cache ≡ Some home → IsLog new → CompactsSo durable cache (Some old) (Some new)
    → Gains (Some old) (Some new) (first ++ rest)
    → look (tree_of old) (home ++ bucket_names_of digest) ≡ Some (File bytes)
    → IsFixedAt fixed home (bucket_names_of digest)
    → LeftOf home (moment_after (tree_of old) fixed first) loss left
    → KeepsEither durable home digest bytes (tree_of old) left

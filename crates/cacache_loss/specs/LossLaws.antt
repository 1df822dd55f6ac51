-- The laws of losses: what a durable commit put and wrote is there after each loss of power.
use Rattle.std.specs.Prelude.{◌≡◌, ℕ, List, [], ◌∷◌, ◌++◌, Option, None, Some, Ok, fold, true}
use Rattle.cacache_core.specs.{declared.integrity.digest.Hash.{Hash}, Integrity.{digest, hash_of}, Paths.{Names, names_of}}
use Rattle.cacache_store.specs.declared.store.plain.PlainTemp.{PlainTemp}
use Rattle.cacache_disk.specs.{declared.node.Node.{Node, TheVariants.{Folder, File, Link}}, Tree.{look, bytes_of}}
use Rattle.cacache_entry.specs.{Entry.{Entry, closed_line}, FittingEntries.{IsEntry, IsWritable}, Bucket.{entries_of, Found, answer_to, after_entry, latest, NoneAnswers}}
use Rattle.cacache_value.specs.{Kinds.{Content, Bucket, Temporary, path_kind}, Acts.{Move}, Value.{bucket_in}}
use Rattle.cacache_loss.specs.{Fixing.{Place, place_now}, Loss.{Loss}, Moments.{Moment, next, after, lost_then, EachMove, IsCalm, AreCalm, PutWell}, LostTrees.{OfCache}, Syncs.{SyncsFolders, SyncsFile, IsFileSync, IsAppend, IsTempSync, Leaves, SpareTemp, IsPut}}

-- ---- contents

-- a file with such bytes
abbrev pub GoodNode : (List ℕ → Type 0) → Option Node → Type 0
GoodNode Good None = ⊥
GoodNode Good (Some Folder) = ⊥
GoodNode Good (Some (File bytes)) = Good bytes
GoodNode Good (Some (Link target)) = ⊥

-- a file with such bytes, all of them synced
abbrev pub IsSafe : (List ℕ → Type 0) → Place → Type 0
IsSafe Good place = GoodNode Good place.node × (place.fixing.whole ≡ true)

-- the bytes have the digest of the address, under its algorithm
abbrev pub HasDigest : Hash → List ℕ → Type 0
HasDigest address bytes = address ≡ hash_of address.algorithm (digest address.algorithm bytes)

-- a right and synced content stays right through each loss, once its folders are synced
abbrev pub ContentsSurvive : Type 0
ContentsSurvive =
    (home : Option Names) (address : Hash) (path : Names) (now : Moment) (moves : List Move)
    (loss : Loss)
    → path_kind home path ≡ Content → OfCache home now
    → IsSafe (HasDigest address) (place_now now.tree now.fixed path)
    → AreCalm home now moves → PutWell (HasDigest address) path now moves
    → SyncsFolders home [] path moves
    → GoodNode (HasDigest address) (lost_then home (after now moves) loss path)

-- so does one that is put from a temporary file that was synced, and then left alone
abbrev pub CommitsSurvive : Type 0
CommitsSurvive =
    (home : Option Names) (address : Hash) (path temp : Names) (f : PlainTemp) (bytes : List ℕ)
    (now : Moment) (sync : Move) (between : List Move) (later : Moment) (put : Move)
    (moves : List Move) (loss : Loss)
    → path_kind home path ≡ Content → names_of f.path ≡ Ok temp → f.bytes ≡ Some bytes
    → HasDigest address bytes
    → IsTempSync f sync.step sync.answer → EachMove (Leaves temp) (next now sync) between
    → later ≡ after (next now sync) between → OfCache home later
    → IsCalm home later put → IsPut f path put.step put.answer
    → AreCalm home (next later put) moves → PutWell (HasDigest address) path (next later put) moves
    → SyncsFolders home [] path moves
    → GoodNode (HasDigest address) (lost_then home (after (next later put) moves) loss path)

-- calm moves that spare a temporary file leave it alone
abbrev pub SparedTempsAreLeft : Type 0
SparedTempsAreLeft =
    (home : Option Names) (temp : Names) (now : Moment) (moves : List Move)
    → path_kind home temp ≡ Temporary → OfCache home now → AreCalm home now moves
    → SpareTemp temp moves
    → EachMove (Leaves temp) now moves

-- a right content that was found there, and then synced, also survives
abbrev pub FoundSurvive : Type 0
FoundSurvive =
    (home : Option Names) (address : Hash) (path : Names) (now : Moment) (sync : Move)
    (moves : List Move) (loss : Loss)
    → path_kind home path ≡ Content → OfCache home now
    → GoodNode (HasDigest address) (look now.tree path) → IsFileSync path sync.step sync.answer
    → AreCalm home (next now sync) moves → PutWell (HasDigest address) path (next now sync) moves
    → SyncsFolders home [] path moves
    → GoodNode (HasDigest address) (lost_then home (after (next now sync) moves) loss path)

-- ---- buckets

-- a file that begins with these bytes, and what follows them
abbrev pub BeginsWith : List ℕ → Option Node → Type 0
BeginsWith bytes here = (more : List ℕ) × (here ≡ Some (File (bytes ++ more)))

-- bytes that are appended stay after what a bucket held, once it and its folders are synced
abbrev pub BucketsSurvive : Type 0
BucketsSurvive =
    (home : Option Names) (path : Names) (bytes : List ℕ) (now : Moment) (append : Move)
    (moves : List Move) (loss : Loss)
    → path_kind home path ≡ Bucket → OfCache home now
    → IsCalm home now append → IsAppend path bytes append.step append.answer
    → AreCalm home (next now append) moves
    → SyncsFile path moves → SyncsFolders home [] path moves
    → BeginsWith (bytes_of (look now.tree path) ++ bytes)
    (lost_then home (after (next now append) moves) loss path)

-- a bucket that has these as its first entries
abbrev pub HoldsEntries : List Entry → Option Node → Type 0
HoldsEntries entries here =
    (bytes : List ℕ) × (more : List Entry) × (here ≡ Some (File bytes))
    × (entries_of bytes ≡ entries ++ more)

-- so after a durable line its first entries are those from before and the new one
abbrev pub EntriesSurvive : Type 0
EntriesSurvive =
    (home : Option Names) (path : Names) (entry : Entry) (now : Moment) (append : Move)
    (moves : List Move) (loss : Loss)
    → path_kind home path ≡ Bucket → OfCache home now → IsEntry entry → IsWritable entry
    → IsCalm home now append → IsAppend path (closed_line true entry) append.step append.answer
    → AreCalm home (next now append) moves
    → SyncsFile path moves → SyncsFolders home [] path moves
    → HoldsEntries (entries_of (bytes_of (look now.tree path)) ++ entry ∷ [])
    (lost_then home (after (next now append) moves) loss path)

-- ---- lookups

-- a bucket holds these entries and more; a lookup finds the last of these, or a later one
pub record FindsOrLater (key : List ℕ) (found : Option Found) (entries : List Entry)
    (here : Option Node) : Type 0 where
  pub more : List Entry
  pub bucket : bucket_in here ≡ Some (entries ++ more)
  pub finds : latest key (entries ++ more) ≡ fold (after_entry key) found more
  pub last : NoneAnswers key more → latest key (entries ++ more) ≡ found

-- a lookup in what a loss left of a bucket finds the new entry, or a later one
abbrev pub LookupsSurvive : Type 0
LookupsSurvive =
    (key : List ℕ) (found : Option Found) (entry : Entry) (entries : List Entry)
    (here : Option Node)
    → answer_to key entry ≡ Some found → HoldsEntries (entries ++ entry ∷ []) here
    → FindsOrLater key found (entries ++ entry ∷ []) here

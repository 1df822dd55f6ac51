-- What calls left after one another, and what calls that are made of others gave their caller and left.
use Rattle.std.specs.{Prelude.{ℕ, List, Option, ◌≡◌, ◌⊎◌, ◌<◌, ◌^◌, Bool, true, false, [], Some, Vec, Result, Ok, Err, IfOk, IfErr, MatchResult, length}, Global.{Global}}
use Rattle.cacache_core.specs.{declared.{errors.{Error.{Error, TheVariants.{IoError, OutOfMemory}}, Fault.{Fault, TheVariants.{NotFound}}}, integrity.{digest.Hash.{Hash}, algorithm.Algorithm.TheVariants.{Sha256}}}, Integrity.{integrity_under}}
use Rattle.cacache_store.specs.declared.{store.log.LogItem.{LogItem}, env.Env.{Env}}
use Rattle.cacache_laws.specs.{Caches.{Grows, IsExcused, HasContent, HasKey, IsCache, LacksKey}, Beside.{KeepsOthers, found_under}, OpenWriters.{LeavesKnownCache}, results.{Writes.{KeepsUntouched, DontClash}, Exports.{RefusesSource}, Reads.{AskedContent, ContentRead, EntryFound, KeyLiesWhole, KeyRead}, Success.{FailsFor, FailsForMemory}}, ExportEffects.{IsApart, NamesBytes, Arrives}, OpenSucceeds.{MayTake}, Succeeds.{NamesFolder}}
use Rattle.cacache_disk.specs.{LedTo.{free}, Replay.{tree_of}}
use Rattle.cacache_calls.specs.declared.command.{How.TheVariants.{HardLink}, Source.{Source}}
use Rattle.cacache_sync.specs.{declared.{layers.Layered.{Layered}, ways.{Exported.{Exported}, ExportMode.{ExportMode}}}, Layers.{GetsOrPuts, AsksHash, AsksLayers, FindsKey, ReadsHash, ReadsKey, finds_none, lacks_content, lacks_entry, says_no}, Exports.{ExportsTo, export_reply}}
use Rattle.cacache_history.specs.History.{NamesSource}

-- what was known twice is known
abbrev pub LeavingsJoin : Type 0
LeavingsJoin =
    (cache : List ℕ) (old mid new : List LogItem)
    → LeavesKnownCache cache old mid → LeavesKnownCache cache mid new
    → LeavesKnownCache cache old new

-- what stayed twice stayed
abbrev pub UntouchedJoin : Type 0
UntouchedJoin =
    (cache : List ℕ) (written : Option (List ℕ)) (own : List Hash) (added : List ℕ)
    (old mid new : List LogItem)
    → KeepsUntouched cache written own added old mid
    → KeepsUntouched cache written own added mid new
    → KeepsUntouched cache written own added old new

-- what stayed of the other keys, and then is known, stayed
abbrev pub OthersStay : Type 0
OthersStay =
    (cache except : List ℕ) (old mid new : List LogItem)
    → KeepsOthers cache except old mid → LeavesKnownCache cache mid new
    → KeepsOthers cache except old new

-- what is known stayed untouched
abbrev pub KnownStays : Type 0
KnownStays =
    (cache : List ℕ) (written : Option (List ℕ)) (own : List Hash) (added : List ℕ)
    (old new : List LogItem) → LeavesKnownCache cache old new
    → KeepsUntouched cache written own added old new

-- what excuses an error in the earlier part of a log excuses it in the whole
abbrev pub ExcusesStay : Type 0
ExcusesStay =
    (e : Error) (old mid new : List LogItem)
    → IsExcused e old mid → Grows mid new → IsExcused e old new

-- ---- exports by the first way that is open

-- what is at the path, or why nothing can be made there; a folder that is missing isn't asked for here
abbrev pub IsTaken : List ℕ → Fault → List LogItem → Type 0
IsTaken to fault log = (free (tree_of log) to ≡ Err fault) × (fault ≡ NotFound → ⊥)

-- The bytes are where the path leads, and a count is theirs, or the error is excused. If something is at the
-- path, the error says so, and nothing changed. If the cache's path names a folder, damaged bytes and a key that
-- leads to nothing have their own errors, and an error left the whole tree, unless memory was refused
pub record WentOut (cache : List ℕ) (source : Source) (to : List ℕ) (r : Result Exported Error)
    (old new : List LogItem) : Type 0 where
  pub leaves : LeavesKnownCache cache old new
  pub arrives : (bytes : List ℕ) → NamesBytes cache source bytes old
      → MatchResult r (λ e. Arrives bytes to (export_reply e) old new)
      (λ e. IsExcused e old new)
  pub succeeds : (bytes : List ℕ) → NamesFolder cache → NamesBytes cache source bytes old
      → MayTake HardLink to old → FailsForMemory r
  pub taken : (fault : Fault) → IsTaken to fault old
      → FailsFor (IoError fault []) r × (tree_of new ≡ tree_of old)
  pub refuses : ((fault : Fault) → IsTaken to fault old → ⊥)
      → NamesFolder cache → RefusesSource cache source true r old
  pub stays : NamesFolder cache
      → IfErr r (λ e. (e ≡ OutOfMemory) ⊎ (tree_of new ≡ tree_of old))

-- ---- layers

-- what the upper cache gives; or it lacks this, and the lower one gives it on the same tree
abbrev pub GivesLayered : {R : Type 0} → (R → Bool)
    → (List ℕ → R → List LogItem → List LogItem → Type 0) → (List ℕ → List LogItem → Type 0)
    → Layered → R → List LogItem → List LogItem → Type 0
GivesLayered lacks Gives Lacks l r old new =
    ((lacks r ≡ false) × Gives l.upper.now r old new)
    ⊎ (Lacks l.upper.now old × ((mid : List LogItem) × Grows old mid × (tree_of mid ≡ tree_of old)
    × Gives l.lower.now r mid new))

-- no bytes lie under the integrity that meet it, if the cache's path names a folder
abbrev pub LacksContent : List Hash → List ℕ → List LogItem → Type 0
LacksContent i cache log =
    (bytes : List ℕ) → NamesFolder cache → HasContent cache i bytes log → ⊥

module _ {C N R : Type 0} where
  -- such a question of two caches, with this result, gives that
  abbrev pub LayersMean :
      (List ℕ → Env (List LogItem) C N → Env (List LogItem) C N → R → Type 0) → (R → Bool)
      → (List ℕ → R → List LogItem → List LogItem → Type 0) → (List ℕ → List LogItem → Type 0)
      → Env (List LogItem) C N → Type 0
  LayersMean asked lacks Gives Lacks new =
      (l : Layered) (r : R) (old : Env (List LogItem) C N) → IsCache l.upper.now old.store
      → IsCache l.lower.now old.store → AsksLayers l asked lacks old new r
      → GivesLayered lacks Gives Lacks l r old.store new.store

-- ---- bytes that are read, or fetched and stored

-- the bytes don't give way to fetched ones: if both have one address, they are the same
abbrev pub LastsBeside :
    (Result (Vec ℕ Global) Error → Type 0) → List Hash → List ℕ → Type 0
LastsBeside Fetches i bytes =
    (v : Vec ℕ Global) → Fetches (Ok v)
    → DontClash i bytes (integrity_under Sha256 v.items) v.items

-- The key leads to the bytes, which it led to before or which were fetched. Whatever is answered, other keys
-- lead where they led, and what met its integrity at its address still does
pub record GotOrPut (cache key : List ℕ) (Fetches : Result (Vec ℕ Global) Error → Type 0)
    (r : Result (Vec ℕ Global) Error) (old new : List LogItem) : Type 0 where
  pub sound : IsCache cache new
  pub leads : IfOk r (λ v. KeyLiesWhole cache key new v.items)
  pub from : IfOk r (λ v. KeyLiesWhole cache key old v.items ⊎ Fetches (Ok v))
  pub gives : (i : List Hash) (bytes : List ℕ) → NamesFolder cache
      → HasKey cache key i bytes old → MatchResult r (λ v. v.items ≡ bytes) (λ e. e ≡ OutOfMemory)
  pub others : (other : List ℕ) → (other ≡ key → ⊥)
      → found_under cache other new ≡ found_under cache other old
  pub keeps : (i : List Hash) (bytes : List ℕ) → LastsBeside Fetches i bytes
      → HasContent cache i bytes old → HasContent cache i bytes new

-- ---- laws, of the environment that a call left

module _ {C N : Type 0} where
  -- an export in a mode to a path apart from the cache, with this result, is one
  abbrev pub ExportMeans :
      List ℕ → List ℕ → Result Exported Error → Env (List LogItem) C N → Type 0
  ExportMeans cache to r new =
      (source : Source) (mode : ExportMode) (old : Env (List LogItem) C N) → IsApart cache to
      → NamesSource source → IsCache cache old.store
      → ExportsTo (λ log. Some log) cache source to mode old new r
      → WentOut cache source to r old.store new.store

  -- a read of layers by key is a read of one of them, and the upper one has no entry if it is one of the lower
  abbrev pub LayeredReads : List ℕ → Env (List LogItem) C N → Type 0
  LayeredReads key =
      LayersMean (ReadsKey (λ log. Some log) key) lacks_entry (λ cache. KeyRead cache key)
      (λ cache. LacksKey cache key)

  -- so is one by integrity
  abbrev pub LayeredHashReads : List Hash → Env (List LogItem) C N → Type 0
  LayeredHashReads i =
      LayersMean (ReadsHash (λ log. Some log) i) lacks_content (λ cache. ContentRead cache i)
      (LacksContent i)

  -- so is a lookup
  abbrev pub LayeredLookups : List ℕ → Env (List LogItem) C N → Type 0
  LayeredLookups key =
      LayersMean (FindsKey (λ log. Some log) key) finds_none (λ cache. EntryFound cache key)
      (λ cache. LacksKey cache key)

  -- so is a question
  abbrev pub LayeredQuestions : List Hash → Env (List LogItem) C N → Type 0
  LayeredQuestions i =
      LayersMean (AsksHash (λ log. Some log) i) says_no (λ cache. AskedContent cache i)
      (LacksContent i)

  -- a read that stores what is lacking, with this result, is one
  abbrev pub GettingMeans :
      (C → Option (List ℕ)) → (N → Option (List ℕ)) → List ℕ → List ℕ
      → Result (Vec ℕ Global) Error → Env (List LogItem) C N → (Result (Vec ℕ Global) Error → Type 0)
      → Type 0
  GettingMeans moments numbers cache key r new Fetches =
      (old : Env (List LogItem) C N)
      → ((v : Vec ℕ Global) → Fetches (Ok v) → length v.items < 2 ^ 64) → IsCache cache old.store
      → GetsOrPuts (λ log. Some log) cache moments numbers key Fetches old new r
      → GotOrPut cache key Fetches r old.store new.store

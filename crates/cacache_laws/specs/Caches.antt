-- What a store in memory holds in the words of its user, and what each call does in these words.
use Rattle.std.specs.Prelude.{◌≡◌, ◌⊎◌, ◌<◌, ◌^◌, ℕ, false, List, [], ◌∷◌, ◌++◌, Option, None, Some, IsUtf8, length, map}
use Rattle.serde_json.specs.Data.{null}
use Rattle.cacache_core.specs.{declared.{errors.{Error.{Error, TheVariants.{IoError, OutOfMemory}}, Fault.{Fault}}, integrity.{algorithm.Algorithm.{Algorithm}, digest.Hash.{Hash}}}, Integrity.{IsIntegrity, Meets, address}, Paths.{home_of}}
use Rattle.cacache_store.specs.declared.store.log.LogItem.{LogItem, TheVariants.{Made, Foreign}}
use Rattle.cacache_disk.specs.Replay.{tree_of, IsLog}
use Rattle.cacache_entry.specs.Bucket.{Found, latest}
use Rattle.cacache_calls.specs.{declared.{command.{Command.{Command}, Put.{Put}}, reply.Reply.{Reply, TheVariants.{Stored, Read, Done, Refused}}}, Promises.{Faulted, OfWalk}, Runs.{Moves, Ran, plain_reply}, Table.{opening}}
use Rattle.cacache_calls.specs.declared.command.Command.TheVariants as commands
use Rattle.cacache_value.specs.{Kinds.{Elsewhere, IsFor}, Value.{Blob, InFile, empty_value, value_of_tree}}
use Rattle.cacache_history.specs.{Setup.{Setup}, Turns.{blob_at}}
use Rattle.cacache_laws.specs.{Sequence.{IsSound}, ReadAnswers.{entries_on}}

-- ---- what a store in memory holds, by its log

-- calls may be made on the cache in this folder: it is empty, or what calls left
abbrev pub IsCache : List ℕ → List LogItem → Type 0
IsCache cache log = IsSound (home_of cache) (tree_of log)

-- the cache is empty: no content, no entry, no folder
pub record IsEmptyCache (cache : List ℕ) (log : List LogItem) : Type 0 where
  pub sound : IsCache cache log
  pub nothing : value_of_tree (home_of cache) (tree_of log) ≡ empty_value

-- what lies under the integrity, if anything
abbrev pub lies_under : List ℕ → List Hash → List LogItem → Option Blob
lies_under cache i log = blob_at (value_of_tree (home_of cache) (tree_of log)) (address i)

-- the bytes lie under the integrity, which they meet
pub record HasContent (cache : List ℕ) (i : List Hash) (bytes : List ℕ) (log : List LogItem)
    : Type 0 where
  pub content : lies_under cache i log ≡ Some (InFile bytes)
  pub formed : IsIntegrity i
  pub meets : Meets i bytes

-- the key leads to the integrity, under which the bytes lie
pub record HasKey (cache key : List ℕ) (i : List Hash) (bytes : List ℕ) (log : List LogItem)
    : Type 0 where
  pub found : Found
  pub finds : latest key (entries_on (home_of cache) (tree_of log) key) ≡ Some found
  pub integrity : found.integrity ≡ i
  pub content : HasContent cache i bytes log

-- the key leads to nothing
abbrev pub LacksKey : List ℕ → List ℕ → List LogItem → Type 0
LacksKey cache key log = latest key (entries_on (home_of cache) (tree_of log) key) ≡ None

-- ---- how a log grows, and how a call may fail

-- the log gained steps with their answers
abbrev pub Grows : List LogItem → List LogItem → Type 0
Grows old new = (moves : Moves) × (new ≡ old ++ map (λ m. Made m.0 m.1) moves)

-- among what the log gained, a step failed, was short or took nothing
abbrev pub AStepFailed : List LogItem → List LogItem → Type 0
AStepFailed old new =
    (moves : Moves) × (new ≡ old ++ map (λ m. Made m.0 m.1) moves)
    × (fault : Fault) × Faulted moves fault

-- the error is out of memory, or such a step excuses it
abbrev pub IsExcused : Error → List LogItem → List LogItem → Type 0
IsExcused error old new = (error ≡ OutOfMemory) ⊎ AStepFailed old new

-- ---- a call, as its contract gives it

-- the log of a store in memory gained a run of the command with this reply
pub record Called (cache : List ℕ) (command : Command) (r : Reply) (old new : List LogItem)
    : Type 0 where
  pub base : List ℕ
  pub number : ℕ
  pub ran :
      Ran (opening (record { cache = cache; base = base; number = number }) command) r
      (Some old) (Some new)
  pub plain : plain_reply r ≡ r
  pub logged : IsLog new

-- bytes that are put under a key, without a size, an integrity or metadata
abbrev pub plain_put : Algorithm → List ℕ → List ℕ → ℕ → Put
plain_put a key bytes moment = record {
  key = Some key;
  «data» = bytes;
  moment = moment;
  options = record {
    algorithm = a;
    size = None;
    integrity = None;
    metadata = null;
    raw_metadata = None;
    durable = false;
  };
}

-- a cache and a base folder, with no files outside
abbrev pub setup_at : List ℕ → List ℕ → Setup
setup_at cache base = record { cache = cache; base = base; outside = []; callers = 0 }

-- ---- what calls do

-- a new store holds an empty cache in each folder
abbrev pub FreshIsEmpty : Type 0
FreshIsEmpty = (cache : List ℕ) → IsEmptyCache cache []

-- after a write that stored, the key leads to the bytes
abbrev pub WritesKey : List ℕ → List ℕ → List ℕ → Reply → List LogItem → List LogItem → Type 0
WritesKey cache key bytes (Stored i) old new = HasKey cache key i bytes new
WritesKey cache key bytes (Refused e) old new = IsExcused e old new
WritesKey cache key bytes r old new = ⊥

-- so does each plain write, whatever the cache holds
abbrev pub WritesLast : Type 0
WritesLast =
    (a : Algorithm) (cache key bytes : List ℕ) (moment : ℕ) (r : Reply) (old new : List LogItem)
    → IsUtf8 key → length bytes < 2 ^ 64 → moment < 2 ^ 64 → IsCache cache old
    → Called cache (commands.Put (plain_put a key bytes moment)) r old new
    → IsCache cache new × WritesKey cache key bytes r old new

-- a read answers these bytes, and this holds after it
abbrev pub GivesBytes : Type 0 → List ℕ → Reply → List LogItem → List LogItem → Type 0
GivesBytes Stays bytes (Read found) old new = (found ≡ bytes) × Stays
GivesBytes Stays bytes (Refused e) old new = IsExcused e old new
GivesBytes Stays bytes r old new = ⊥

-- a read by key answers the bytes that the key leads to, which stay
abbrev pub ReadsKey : Type 0
ReadsKey =
    (cache key bytes : List ℕ) (i : List Hash) (r : Reply) (old new : List LogItem)
    → IsCache cache old → HasKey cache key i bytes old → Called cache (commands.Get key) r old new
    → IsCache cache new × GivesBytes (HasKey cache key i bytes new) bytes r old new

-- after a clearing that is done the cache is empty; one may also fail for what it walks through
abbrev pub Empties : List ℕ → Reply → List LogItem → List LogItem → Type 0
Empties cache Done old new = IsEmptyCache cache new
Empties cache (Refused e) old new =
    IsExcused e old new ⊎ ((fault : Fault) × OfWalk fault × (e ≡ IoError fault []))
Empties cache r old new = ⊥

-- so does each clearing
abbrev pub ClearingsEmpty : Type 0
ClearingsEmpty =
    (cache : List ℕ) (r : Reply) (old new : List LogItem)
    → IsCache cache old → Called cache commands.Clear r old new
    → IsCache cache new × Empties cache r old new

-- a file that is planted apart from the cache leaves what it holds
abbrev pub PlantsLast : Type 0
PlantsLast =
    (cache path bytes : List ℕ) (old new : List LogItem)
    → new ≡ old ++ Foreign path bytes ∷ [] → IsFor (home_of cache) Elsewhere path → IsLog new
    → IsCache cache old
    → IsCache cache new
    × (value_of_tree (home_of cache) (tree_of new) ≡ value_of_tree (home_of cache) (tree_of old))

-- ---- calls after one another

-- what grew twice grew
abbrev pub GrowthsJoin : Type 0
GrowthsJoin = (old mid new : List LogItem) → Grows old mid → Grows mid new → Grows old new

-- what excuses an error in the later part of a log excuses it in the whole
abbrev pub ExcusesLast : Type 0
ExcusesLast =
    (e : Error) (old mid new : List LogItem)
    → Grows old mid → IsExcused e mid new → IsExcused e old new

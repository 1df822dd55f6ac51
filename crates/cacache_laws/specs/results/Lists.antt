-- What a listing gave its caller and left, by its reply, on a store in memory.
use Rattle.std.specs.Prelude.{◌≡◌, ◌⊎◌, ℕ, All, List, [], ◌∷◌, Option, Some, Ok, Err, map}
use Rattle.cacache_store.specs.declared.{env.Env.{Env}, store.log.LogItem.{LogItem}}
use Rattle.cacache_core.specs.{declared.errors.{Error.{Error, TheVariants.{IoError}}, Fault.TheVariants.{TooDeep}}, Paths.{home_of, index_area}}
use Rattle.cacache_disk.specs.{declared.node.Node.{Node}, Replay.{tree_of}}
use Rattle.cacache_entry.specs.Bucket.{Found}
use Rattle.cacache_calls.specs.declared.command.Command.TheVariants as commands
use Rattle.cacache_calls.specs.{declared.reply.Reply.{Reply, TheVariants.{Listed, Refused}}, Replies.{In, OrMemory}, Runs.{Ran, plain_reply, without_message}, State.{Item}, Table.{opening}}
use Rattle.cacache_value.specs.Kinds.{node_below}
use Rattle.cacache_jobs.specs.JobStates.{site_of}
use Rattle.cacache_laws.specs.{Caches.{IsCache, IsExcused}, Beside.{found_under}, ListedKeys.{GivesKeys}, OpenWriters.{LeavesKnownCache}, Succeeds.{NamesFolder, ListsAll}}

-- these are the entries that keys lead to, all of them
pub record AreAllEntries (cache : List ℕ) (log : List LogItem) (entries : List Found) : Type 0 where
  pub each : All (λ entry. found_under cache entry.key log ≡ Some entry) entries
  pub all : (key : List ℕ) (entry : Found) → found_under cache key log ≡ Some entry
      → In entry entries

-- the folder of the cache's index, if there is one
abbrev pub index_of : List ℕ → List LogItem → Option Node
index_of cache log = node_below (home_of cache) (tree_of log) (index_area ∷ [])

-- the error of a refusal, or one among the items
abbrev pub GivesError : Reply → Error → Type 0
GivesError (Refused refusal) e = refusal ≡ e
GivesError (Listed items) e = In {X = Item} (Err e) items
GivesError r e = ⊥

-- the error is excused, or there were too many names or items
abbrev pub FailsListing : Error → List LogItem → List LogItem → Type 0
FailsListing e old new = IsExcused e old new ⊎ (without_message e ≡ IoError TooDeep [])

-- a listing: if no item is an error, its items are the entries that keys lead to, all of them
pub record ListedEntries (cache : List ℕ) (r : Reply) (old new : List LogItem) : Type 0 where
  pub leaves : LeavesKnownCache cache old new
  pub same : tree_of new ≡ tree_of old
  pub entries : (entries : List Found) → r ≡ Listed (map Ok entries)
      → AreAllEntries cache old entries
  pub fails : (e : Error) → GivesError r e → FailsListing e old new
  pub any : GivesKeys cache (plain_reply r) old new
  pub succeeds : NamesFolder cache
      → OrMemory (ListsAll (index_of cache old) (plain_reply r)) (plain_reply r)

-- a listing, with this reply, is one
abbrev pub ListingMeans :
    {C N : Type 0} → List ℕ → Reply → Env (List LogItem) C N → Type 0
ListingMeans {C} {N} cache r new =
    (old : Env (List LogItem) C N) → IsCache cache old.store
    → Ran (opening (site_of cache old.base 0) commands.Ls) (plain_reply r) (Some old.store)
    (Some new.store)
    → ListedEntries cache r old.store new.store

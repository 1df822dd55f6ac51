-- What exports gave their caller and left, by their results, on a store in memory.
use Rattle.std.specs.Prelude.{◌≡◌, ◌⊎◌, ℕ, Bool, true, List, [], None, Some, Result, Ok, Err, IfOk, IfErr, MatchResult, length}
use Rattle.cacache_core.specs.{declared.{errors.{Error.{Error, TheVariants.{EntryNotFound, IoError, IntegrityError, OutOfMemory}}, Fault.{Fault, TheVariants.{NotFound, IsADirectory, InvalidInput}}, IntegrityFault.{IntegrityFault}}, integrity.digest.Hash.{Hash}}, Integrity.{Meets}, Paths.{Names}}
use Rattle.cacache_store.specs.declared.{env.Env.{Env}, store.log.LogItem.{LogItem}}
use Rattle.cacache_disk.specs.{LedTo.{free, writable}, Tree.{Tree}, Replay.{shown, tree_of}}
use Rattle.cacache_calls.specs.{declared.{command.{How.{How, TheVariants.{Copy, HardLink, Reflink}}, Source.{Source, TheVariants.{Hash as OfHash, Key as OfKey}}}, reply.Reply.TheVariants.{Copied}}, Replies.{done}, Runs.{reply_of, without_message}}
use Rattle.cacache_jobs.specs.Environment.{Calls}
use Rattle.cacache_sync.specs.Exports.{exporting}
use Rattle.cacache_history.specs.History.{NamesSource}
use Rattle.cacache_laws.specs.{Caches.{IsCache, IsExcused, LacksKey, lies_under}, ExportEffects.{IsApart, NamesBytes}, Inserts.{leads_to}, Looks.{IsDamaged, bytes_under}, OpenSucceeds.{MayTake}, OpenWriters.{LeavesKnownCache}, Succeeds.{NamesFolder}, results.{Reads.{LinksToFile}, Success.{FailsAs, FailsFor, FailsForMemory}}}

-- ---- why nothing is exported

-- the source leads to this integrity
abbrev pub NamesHeld : List ℕ → Source → List Hash → List LogItem → Type 0
NamesHeld cache (OfHash held) i log = held ≡ i
NamesHeld cache (OfKey key) i log = leads_to cache key log ≡ Some i

-- nothing lies there that can be read, as the fault says; for a folder at a link's end a copy gives
-- another fault
abbrev pub LiesUnread : List ℕ → List Hash → Fault → List LogItem → Type 0
LiesUnread cache i fault log =
    (bytes_under cache i log ≡ Err fault)
    ⊎ ((bytes_under cache i log ≡ Err IsADirectory) × (fault ≡ InvalidInput))

-- the error says what is wrong with the source: its key leads to nothing, nothing lies there that can
-- be read, or, if that is verified first, other bytes
abbrev pub TellsSource : List ℕ → Source → Bool → Error → List LogItem → Type 0
TellsSource cache source checked (EntryNotFound c key) log =
    (c ≡ cache) × (source ≡ OfKey key) × LacksKey cache key log
TellsSource cache source checked (IoError fault message) log =
    (i : List Hash) × NamesHeld cache source i log × LiesUnread cache i fault log
TellsSource cache source checked (IntegrityError fault) log =
    (checked ≡ true)
    × ((i : List Hash) × NamesHeld cache source i log × IsDamaged cache i fault log)
TellsSource cache source checked e log = ⊥

-- where an export may be made: a copy also in the place of a file
abbrev pub made_at : How → Tree → List ℕ → Result Names Fault
made_at Copy t to = writable t to
made_at Reflink t to = free t to
made_at HardLink t to = free t to

-- the error says why nothing can be made at the path
abbrev pub TellsPath : How → List ℕ → Error → List LogItem → Type 0
TellsPath how to (IoError fault message) log = made_at how (tree_of log) to ≡ Err fault
TellsPath how to e log = ⊥

-- memory was refused, or the error says what is wrong with source or path, and nothing changed
abbrev pub FailsExport :
    List ℕ → Source → How → Bool → List ℕ → Error → List LogItem → List LogItem → Type 0
FailsExport cache source how checked to e old new =
    (e ≡ OutOfMemory)
    ⊎ ((tree_of new ≡ tree_of old)
    × (TellsSource cache source checked e old ⊎ TellsPath how to e old))

-- damaged bytes are reported if they are verified first, and so is a key that leads to nothing
pub record RefusesSource {X : Type 0} (cache : List ℕ) (source : Source) (checked : Bool)
    (r : Result X Error) (old : List LogItem) : Type 0 where
  pub damaged : (i : List Hash) (fault : IntegrityFault) → checked ≡ true
      → NamesHeld cache source i old → IsDamaged cache i fault old
      → FailsFor (IntegrityError fault) r
  pub lacks : (key : List ℕ) → source ≡ OfKey key → LacksKey cache key old
      → FailsFor (EntryNotFound cache key) r

-- ---- what is exported

-- bytes lie under the integrity that the source leads to, or where a link there leads, and they are
-- where the path leads; the count is theirs. If they were verified first, they meet the integrity
pub record HasArrived (cache : List ℕ) (source : Source) (checked : Bool) (to : List ℕ) (n : ℕ)
    (old new : List LogItem) : Type 0 where
  pub integrity : List Hash
  pub names : NamesHeld cache source integrity old
  pub bytes : List ℕ
  pub lies : bytes_under cache integrity old ≡ Ok bytes
  pub meets : checked ≡ true → Meets integrity bytes
  pub shows : shown (tree_of new) to ≡ Some bytes
  pub counts : n ≡ length bytes

-- a copy: the bytes are where the path leads, and the count is theirs, or the error is excused.
-- Whatever lies there, only whole bytes arrive if they are verified first; of a link, those that its
-- target shows. If the cache's path names a folder, an error says what is wrong, and damaged bytes, a
-- key that leads to nothing and a content that is missing have their own
pub record CopiedOut (cache : List ℕ) (source : Source) (checked : Bool) (to : List ℕ)
    (r : Result ℕ Error) (old new : List LogItem) : Type 0 where
  pub leaves : LeavesKnownCache cache old new
  pub arrives : (bytes : List ℕ) → NamesBytes cache source bytes old
      → MatchResult r (λ n. (shown (tree_of new) to ≡ Some bytes) × (n ≡ length bytes))
      (λ e. IsExcused e old new)
  pub whole : IfOk r (λ n. HasArrived cache source checked to n old new)
  pub linked : (i : List Hash) (target held : List ℕ) → NamesHeld cache source i old
      → LinksToFile cache i target held old
      → IfOk r (λ n. (shown (tree_of new) to ≡ Some held) × (n ≡ length held))
  pub succeeds : (bytes : List ℕ) → NamesFolder cache → NamesBytes cache source bytes old
      → MayTake Copy to old → FailsForMemory r
  pub fails : NamesFolder cache
      → IfErr r (λ e. FailsExport cache source Copy checked to e old new)
  pub refuses : NamesFolder cache → RefusesSource cache source checked r old
  pub missing : (i : List Hash) → NamesFolder cache → NamesHeld cache source i old
      → lies_under cache i old ≡ None → FailsFor (IoError NotFound []) r

-- a reflink or a hard link: the bytes are where the path leads, or the error is excused. It fails as a
-- copy does, except that one of a missing content that isn't verified first reports first what is
-- wrong with the path
pub record SharedOut (cache : List ℕ) (source : Source) (how : How) (checked : Bool) (to : List ℕ)
    (r : Result (Unit {0}) Error) (old new : List LogItem) : Type 0 where
  pub leaves : LeavesKnownCache cache old new
  pub arrives : (bytes : List ℕ) → NamesBytes cache source bytes old
      → MatchResult r (λ u. shown (tree_of new) to ≡ Some bytes) (λ e. IsExcused e old new)
  pub succeeds : (bytes : List ℕ) → NamesFolder cache → NamesBytes cache source bytes old
      → MayTake HardLink to old → FailsForMemory r
  pub fails : NamesFolder cache
      → IfErr r (λ e. FailsExport cache source how checked to e old new)
  pub refuses : NamesFolder cache → RefusesSource cache source checked r old
  pub missing : (i : List Hash) → NamesFolder cache → NamesHeld cache source i old
      → lies_under cache i old ≡ None
      → FailsAs (λ e. (without_message e ≡ IoError NotFound []) ⊎ TellsPath how to e old) r

-- ---- laws, of the environment that a call left

module _ {C N : Type 0} where
  -- a copy to a path apart from the cache, with this result, is one
  abbrev pub CopyMeans :
      List ℕ → Source → Bool → List ℕ → Result ℕ Error → Env (List LogItem) C N → Type 0
  CopyMeans cache source checked to r new =
      (old : Env (List LogItem) C N) → IsApart cache to → NamesSource source
      → IsCache cache old.store
      → Calls (λ log. Some log) old new cache (exporting Copy checked source to)
      (reply_of Copied r)
      → CopiedOut cache source checked to r old.store new.store

  -- so is a reflink or a hard link
  abbrev pub SharingMeans :
      List ℕ → Source → How → Bool → List ℕ → Result (Unit {0}) Error
      → Env (List LogItem) C N → Type 0
  SharingMeans cache source how checked to r new =
      (old : Env (List LogItem) C N) → IsApart cache to → NamesSource source
      → IsCache cache old.store
      → Calls (λ log. Some log) old new cache (exporting how checked source to) (reply_of done r)
      → SharedOut cache source how checked to r old.store new.store

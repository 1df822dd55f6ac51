-- What calls on a store in memory answer if all of their steps succeed and memory isn't refused.
use Rattle.std.specs.{Prelude.{◌≡◌, ◌⊎◌, ◌<◌, ◌^◌, ◌==◌, ℕ, Bool, true, false, List, [], ◌∷◌, Option, None, Some, Ok, Err, if◌then◌else◌}, List.{AllByRecursion}}
use Rattle.sha1.specs.Sha1.{sha1}
use Rattle.cacache_core.specs.{declared.{errors.{Error.TheVariants.{SizeMismatch, SerdeError, IoError, IntegrityError}, Fault.TheVariants.{NotFound, TooDeep}, IntegrityFault.TheVariants.{Check}, SerdeCause.{SerdeCause}}, integrity.digest.Hash.{Hash}}, Integrity.{IsIntegrity, address}, Paths.{Names, names_of, home_of, index_area, temp_names}}
use Rattle.cacache_store.specs.{declared.store.{answer.Answer.TheVariants.{There}, log.LogItem.{LogItem}}, Plain.{PlainAnswer}}
use Rattle.cacache_disk.specs.{declared.node.Node.{Node}, Tree.{Tree}, Replay.{tree_of}}
use Rattle.cacache_entry.specs.Bucket.{Found}
use Rattle.cacache_calls.specs.{declared.{carried.Commit.{Commit}, command.{Command.{Command}, Delete.{Delete}, Insert.{Insert}, Put.{Put}}, reply.Reply.{Reply, TheVariants.{Stored, LookedUp, Exists, Listed, Done, Refused}}}, Inserting.{insertion, deletion, refused_cause}, Licence.{Licence, KeepsTo}, Replies.{OrMemory}, Sound.{MayBegin}, State.{Insertion, Item}, Walking.{failed}, Storing.{insertion_of, matches, put_commit}}
use Rattle.cacache_calls.specs.declared.command.Command.TheVariants as commands
use Rattle.cacache_value.specs.{Kinds.{node_below}, Shows.{blob_there}, Value.{value_of_tree}}
use Rattle.cacache_history.specs.{History.{NamesIntegrity}, Turns.{blob_at}, Setup.{call_site, may_export, is_outside}}
use Rattle.cacache_laws.specs.{Beside.{FitsEntry, found_under}, Caches.{IsCache, Called, setup_at, lies_under}, ReadAnswers.{get_on, read_on}, Standing.{IsStanding}}

-- ---- when no step fails

-- a cache's path names a folder: it isn't empty, and has no NUL and no name `..`
abbrev pub NamesFolder : List ℕ → Type 0
NamesFolder cache = (home : Names) × (names_of cache ≡ Ok home)

-- and then the cache has a home, the folder of these names
abbrev pub FoldersAreHomes : Type 0
FoldersAreHomes =
    (cache : List ℕ) → NamesFolder cache → (home : Names) × (home_of cache ≡ Some home)

-- nothing is at the place of the temporary file of this number
abbrev pub IsUnused : List ℕ → ℕ → List LogItem → Type 0
IsUnused cache number log = node_below (home_of cache) (tree_of log) (temp_names number) ≡ None

-- no temporary file is left
abbrev pub IsTidy : List ℕ → List LogItem → Type 0
IsTidy cache log = (number : ℕ) → IsUnused cache number log

-- the cache's path names a folder, and no temporary file is left in it
pub record IsReady (cache : List ℕ) (log : List LogItem) : Type 0 where
  pub folder : NamesFolder cache
  pub tidy : IsTidy cache log

-- what was unused still is
abbrev pub StaysUnused : List ℕ → List LogItem → List LogItem → Type 0
StaysUnused cache old new =
    (number : ℕ) → IsUnused cache number old → IsUnused cache number new

-- ---- what a put and an insertion answer

-- the reply, or that the entry can't be written if there is a cause
abbrev pub unless_unwritable : Reply → Option SerdeCause → Reply
unless_unwritable reply None = reply
unless_unwritable reply (Some cause) = Refused (SerdeError cause [])

-- an insertion is done, unless its entry can't be written
abbrev pub insertion_reply : Insertion → Reply
insertion_reply i = unless_unwritable i.reply (refused_cause i)

-- a commit without a key stored its bytes, one with a key inserts its entry
abbrev pub keyed_reply : Commit → Option (List ℕ) → Reply
keyed_reply c None = Stored c.computed
keyed_reply c (Some key) = insertion_reply (insertion_of c key)

-- if a size is expected, the bytes must have it
abbrev pub sized_reply : Commit → Option ℕ → Reply
sized_reply c None = keyed_reply c c.key
sized_reply c (Some wanted) =
    if wanted == c.count then keyed_reply c c.key else Refused (SizeMismatch wanted c.count)

-- if an integrity is expected, it must match theirs
abbrev pub compared_reply : Commit → Option (List Hash) → Reply
compared_reply c None = sized_reply c c.options.size
compared_reply c (Some expected) =
    if matches expected c.computed then sized_reply c c.options.size
    else Refused (IntegrityError (Check expected c.computed))

-- a put stores, unless its options refuse its bytes
abbrev pub put_reply : List ℕ → Put → Reply
put_reply cache p = compared_reply (put_commit cache p) p.options.integrity

-- ---- what a question and a removal answer

-- a yes
abbrev pub is_yes : PlainAnswer → Bool
is_yes (There there) = there
is_yes answer = false

-- whether a content lies under the integrity; for a link, whether something is at its end
abbrev pub exists_reply : List ℕ → List Hash → List LogItem → Reply
exists_reply cache i log = Exists (is_yes (blob_there (tree_of log) (lies_under cache i log)))

-- what is there can be removed, and nothing else
abbrev pub removal_reply : {A : Type 0} → Option A → Reply
removal_reply None = Refused (IoError NotFound [])
removal_reply (Some there) = Done

-- a full removal is done if the content that the key leads to is there; if the key leads to
-- nothing, if its bucket is there
abbrev pub fully_reply : Option Names → Tree → List ℕ → Option Found → Reply
fully_reply folder t key None = removal_reply ((value_of_tree folder t).buckets (sha1 key))
fully_reply folder t key (Some found) =
    removal_reply (blob_at (value_of_tree folder t) (address found.integrity))

-- ---- what a listing answers

-- an item is an entry, or says that there were too many
abbrev pub IsItemOrTooDeep : Item → Type 0
IsItemOrTooDeep (Ok found) = Unit {0}
IsItemOrTooDeep (Err e) = e ≡ IoError TooDeep []

-- such items, or one that says that there is no index
abbrev pub ListsAll : Option Node → Reply → Type 0
ListsAll None r = r ≡ Listed (failed NotFound ∷ [])
ListsAll (Some node) (Listed items) = AllByRecursion IsItemOrTooDeep items
ListsAll (Some node) r = ⊥

-- ---- what a clearing answers

-- it is done, or it came to too many names; if the cache has no folder, it says so
abbrev pub Clears : Option Node → Reply → Type 0
Clears None r = r ≡ Refused (IoError NotFound [])
Clears (Some node) r = (r ≡ Done) ⊎ (r ≡ Refused (IoError TooDeep []))

-- ---- laws

-- a put answers what its options say, and leaves no temporary file, or memory was refused
abbrev pub PutsAnswer : Type 0
PutsAnswer =
    (cache : List ℕ) (p : Put) (r : Reply) (old new : List LogItem)
    (c : Called cache (commands.Put p) r old new)
    → NamesFolder cache → IsStanding cache old → IsUnused cache c.number old
    → OrMemory ((r ≡ put_reply cache p) × IsUnused cache c.number new) r

-- an insertion answers that it is done, unless its entry can't be written
abbrev pub InsertionsAnswer : Type 0
InsertionsAnswer =
    (cache : List ℕ) (i : Insert) (r : Reply) (old new : List LogItem)
    → NamesFolder cache → IsStanding cache old → Called cache (commands.Insert i) r old new
    → OrMemory (r ≡ insertion_reply (insertion cache i)) r

-- so does a removal by a tombstone
abbrev pub DeletionsAnswer : Type 0
DeletionsAnswer =
    (cache : List ℕ) (d : Delete) (r : Reply) (old new : List LogItem)
    → NamesFolder cache → IsStanding cache old → Called cache (commands.Delete d) r old new
    → OrMemory (r ≡ insertion_reply (deletion cache d)) r

-- a lookup answers what the key leads to
abbrev pub LookupsAnswer : Type 0
LookupsAnswer =
    (cache key : List ℕ) (r : Reply) (old new : List LogItem)
    → NamesFolder cache → IsStanding cache old → Called cache (commands.Find key) r old new
    → OrMemory (r ≡ LookedUp (found_under cache key old)) r

-- a read by integrity answers what lies there, or why it can't be given
abbrev pub ContentReadsAnswer : Type 0
ContentReadsAnswer =
    (cache : List ℕ) (i : List Hash) (r : Reply) (old new : List LogItem)
    → NamesFolder cache → IsStanding cache old → IsIntegrity i
    → Called cache (commands.GetHash i) r old new
    → OrMemory (r ≡ read_on (home_of cache) (tree_of old) i) r

-- so does one by key, of the integrity that the key leads to
abbrev pub KeyReadsAnswer : Type 0
KeyReadsAnswer =
    (cache key : List ℕ) (r : Reply) (old new : List LogItem)
    → NamesFolder cache → IsCache cache old → Called cache (commands.Get key) r old new
    → OrMemory (r ≡ get_on (setup_at cache []) (tree_of old) key (found_under cache key old)) r

-- a question answers whether a content is there
abbrev pub QuestionsAnswer : Type 0
QuestionsAnswer =
    (cache : List ℕ) (i : List Hash) (r : Reply) (old new : List LogItem)
    → NamesFolder cache → IsStanding cache old → IsIntegrity i
    → Called cache (commands.Exists i) r old new
    → OrMemory (r ≡ exists_reply cache i old) r

-- a removal of a content is done if one is there
abbrev pub RemovalsAnswer : Type 0
RemovalsAnswer =
    (cache : List ℕ) (i : List Hash) (r : Reply) (old new : List LogItem)
    → NamesFolder cache → IsStanding cache old → IsIntegrity i
    → Called cache (commands.RemoveHash i) r old new
    → OrMemory (r ≡ removal_reply (lies_under cache i old)) r

-- a full removal of a key is done if what it leads to is there
abbrev pub FullRemovalsAnswer : Type 0
FullRemovalsAnswer =
    (cache key : List ℕ) (r : Reply) (old new : List LogItem)
    → NamesFolder cache → IsCache cache old → Called cache (commands.RemoveFully key) r old new
    → OrMemory
    (r ≡ fully_reply (home_of cache) (tree_of old) key (found_under cache key old)) r

-- a listing has entries, or came to too many names or items; without an index it says so
abbrev pub ListingsAnswer : Type 0
ListingsAnswer =
    (cache : List ℕ) (r : Reply) (old new : List LogItem)
    → NamesFolder cache → IsStanding cache old → Called cache commands.Ls r old new
    → OrMemory (ListsAll (node_below (home_of cache) (tree_of old) (index_area ∷ [])) r) r

-- a clearing is done, or came to too many names; without a folder it says so
abbrev pub ClearingsAnswer : Type 0
ClearingsAnswer =
    (cache : List ℕ) (r : Reply) (old new : List LogItem)
    → NamesFolder cache → IsStanding cache old → Called cache commands.Clear r old new
    → OrMemory (Clears (node_below (home_of cache) (tree_of old) []) r) r

-- ---- temporary files

-- everything except writing temporary files and moving them to their places
abbrev pub without_commits : Licence
without_commits = record {
  prepares = true;
  commits = false;
  links = true;
  inserts = true;
  lists = true;
  exports = true;
  removes = true;
}

-- a call that may begin, and is no put, leaves no new temporary file
abbrev pub OthersLeaveNone : Type 0
OthersLeaveNone =
    (cache : List ℕ) (command : Command) (r : Reply) (old new : List LogItem)
    (c : Called cache command r old new)
    → MayBegin (call_site (setup_at cache c.base) c.number) (may_export (setup_at cache c.base))
    (is_outside (setup_at cache c.base)) command
    → NamesIntegrity command → KeepsTo without_commits command → IsCache cache old
    → StaysUnused cache old new

-- a put leaves none either, except that of its own number
abbrev pub PutsLeaveOwn : Type 0
PutsLeaveOwn =
    (cache : List ℕ) (p : Put) (r : Reply) (old new : List LogItem)
    (c : Called cache (commands.Put p) r old new) (number : ℕ)
    → MayBegin (call_site (setup_at cache c.base) c.number) (may_export (setup_at cache c.base))
    (is_outside (setup_at cache c.base)) (commands.Put p)
    → IsCache cache old → number < 2 ^ 64 → c.number < 2 ^ 64 → (number ≡ c.number → ⊥)
    → IsUnused cache number old → IsUnused cache number new

-- a put that memory wasn't refused to leaves a cache as tidy as it was
abbrev pub PutsLeaveTidy : Type 0
PutsLeaveTidy =
    (cache : List ℕ) (p : Put) (r : Reply) (old new : List LogItem)
    (c : Called cache (commands.Put p) r old new)
    → NamesFolder cache → FitsEntry cache p → IsCache cache old → IsTidy cache old
    → OrMemory (IsTidy cache new) r

-- a new store is ready in each folder
abbrev pub FreshIsReady : Type 0
FreshIsReady = (cache : List ℕ) → NamesFolder cache → IsReady cache []

-- a store that kept its tree is still ready
abbrev pub SameIsReady : Type 0
SameIsReady =
    (cache : List ℕ) (old new : List LogItem)
    → tree_of new ≡ tree_of old → IsReady cache old → IsReady cache new

-- What a put, an insertion and a removal that are done leave in the cache, in the words of their caller.
use Rattle.std.specs.Prelude.{◌≡◌, ℕ, List, [], ◌∷◌, ◌++◌, Some, Option, None, IfSome, option_map}
use Rattle.cacache_core.specs.{declared.{integrity.digest.Hash.{Hash}, errors.Error.TheVariants.{SerdeError}}, Integrity.{digest, hash_of, IsIntegrity}}
use Rattle.cacache_disk.specs.Tree.{Tree}
use Rattle.cacache_calls.specs.{declared.{command.{Put.{Put}, Delete.{Delete}, Insert.{Insert}}, reply.Reply.{TheVariants.{Stored, Done, Refused}, Reply}}, Inserting.{insertion, deletion, refused_cause}, Storing.{insertion_of, put_commit}, Sound.{FormedIfWritten}}
use Rattle.cacache_value.specs.Value.{InFile, value_of_tree}
use Rattle.cacache_history.specs.Setup.{Setup, home}
use Rattle.cacache_laws.specs.{Sequence.{SequenceCall, tree_on, CallIsAnswered}, ReadAnswers.{entries_on}, Caches.{IsCache, IsExcused, HasContent, HasKey, LacksKey, Called}, Beside.{found_under, KeepsOthers}}
use Rattle.cacache_store.specs.declared.store.log.LogItem.{LogItem}
use Rattle.cacache_entry.specs.Bucket.{Found, found_of}
use Rattle.cacache_calls.specs.declared.command.Command.TheVariants as commands

-- the hash that the bytes are known by, under the algorithm of the options
abbrev pub own_hash : Put → Hash
own_hash p = hash_of p.options.algorithm (digest p.options.algorithm p.data)

-- the key has its entry after the others, and the bytes are the content
pub record HasStored (s : Setup) (t new : Tree) (p : Put) (key : List ℕ) : Type 0 where
  pub entries :
      entries_on (home s) new key
      ≡ entries_on (home s) t key ++ (insertion_of (put_commit s.cache p) key).entry ∷ []
  pub content :
      (value_of_tree (home s) new).contents (own_hash p) ≡ Some (InFile p.data)

-- this holds after a put with a key that answered that it stored
abbrev pub PutsStore : Type 0
PutsStore =
    (s : Setup) (t : Tree) (call : SequenceCall) (p : Put) (key : List ℕ) (i : List Hash)
    → call.command ≡ commands.Put p → p.key ≡ Some key → call.reply ≡ Stored i → CallIsAnswered s t call
    → HasStored s t (tree_on t call.moves) p key

-- an insertion that answered that it stored added its entry
abbrev pub InsertsAdd : Type 0
InsertsAdd =
    (s : Setup) (t : Tree) (call : SequenceCall) (i : Insert) (answered : List Hash)
    → call.command ≡ commands.Insert i → call.reply ≡ Stored answered → CallIsAnswered s t call
    → entries_on (home s) (tree_on t call.moves) i.key
    ≡ entries_on (home s) t i.key ++ (insertion s.cache i).entry ∷ []

-- a removal that answered that it is done added the key's tombstone
abbrev pub DeletesAdd : Type 0
DeletesAdd =
    (s : Setup) (t : Tree) (call : SequenceCall) (d : Delete)
    → call.command ≡ commands.Delete d → call.reply ≡ Done → CallIsAnswered s t call
    → entries_on (home s) (tree_on t call.moves) d.key
    ≡ entries_on (home s) t d.key ++ (deletion s.cache d).entry ∷ []

-- ---- what an insertion does to a cache in a store in memory, in the words of its caller

-- the integrity that the key leads to, whatever lies under it; none if no entry answers
abbrev pub leads_to : List ℕ → List ℕ → List LogItem → Option (List Hash)
leads_to cache key log = option_map (λ (found : Found). found.integrity) (found_under cache key log)

-- after an insertion that stored, the key leads to its entry, if that has an integrity; otherwise the
-- entry can't be written for this cause, or the error is excused
abbrev pub InsertsKey : List ℕ → Insert → Reply → List LogItem → List LogItem → Type 0
InsertsKey cache i (Stored j) old new =
    found_under cache i.key new ≡ option_map (found_of (insertion cache i).entry) i.options.integrity
InsertsKey cache i (Refused (SerdeError cause message)) old new =
    refused_cause (insertion cache i) ≡ Some cause
InsertsKey cache i (Refused e) old new = IsExcused e old new
InsertsKey cache i r old new = ⊥

-- so does each insertion, whatever it answers, and all else is as before
abbrev pub InsertsLast : Type 0
InsertsLast =
    (cache : List ℕ) (i : Insert) (r : Reply) (old new : List LogItem)
    → IfSome i.options.integrity IsIntegrity → FormedIfWritten (insertion cache i)
    → IsCache cache old → Called cache (commands.Insert i) r old new
    → IsCache cache new × InsertsKey cache i r old new × KeepsOthers cache i.key old new

-- ---- what comes of it

-- a key that leads to the integrity of bytes that lie there leads to these bytes
abbrev pub KeysJoin : Type 0
KeysJoin =
    (cache key bytes : List ℕ) (i : List Hash) (log : List LogItem)
    → leads_to cache key log ≡ Some i → HasContent cache i bytes log
    → HasKey cache key i bytes log

-- a key that leads to no integrity lacks
abbrev pub NoneLacks : Type 0
NoneLacks =
    (cache key : List ℕ) (log : List LogItem)
    → leads_to cache key log ≡ None → LacksKey cache key log

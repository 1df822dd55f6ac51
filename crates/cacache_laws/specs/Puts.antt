-- What a put and a writer's commit leave, with any options, in the words of their caller.
use Rattle.std.specs.Prelude.{◌≡◌, ◌⊎◌, ℕ, List, Some, IfSome}
use Rattle.cacache_core.specs.{declared.integrity.digest.Hash.{Hash}, Integrity.{IsIntegrity}}
use Rattle.cacache_store.specs.declared.store.log.LogItem.{LogItem}
use Rattle.cacache_entry.specs.Bucket.{Found, found_of}
use Rattle.cacache_calls.specs.declared.command.Command.TheVariants as commands
use Rattle.cacache_calls.specs.{declared.{command.Put.{Put}, reply.Reply.{Reply}}, Inserting.{given_or}, Promises.{answered}, Storing.{insertion_of, put_commit}}
use Rattle.cacache_laws.specs.{Caches.{IsCache, HasContent}, Beside.{found_under, FitsEntry, KeepsBeside, own_integrity}, OpenWriters.{CommitsBytes, IsOpened}}

-- ---- keys

-- the integrity that a put answers: with a key the expected one, if there is one, and otherwise
-- that of its bytes
abbrev pub stored_as : Put → List Hash
stored_as p = answered (own_integrity p) p.options.integrity p.key

-- the entry that a lookup of a put's key finds: of its options, and the count of its bytes
abbrev pub entry_of_put : List ℕ → Put → List ℕ → Found
entry_of_put cache p key =
    found_of (insertion_of (put_commit cache p) key).entry
    (given_or (own_integrity p) p.options.integrity)

-- the key, if there is one, leads to the put's entry
abbrev pub LeadsToPut : List ℕ → Put → List LogItem → Type 0
LeadsToPut cache p log =
    (key : List ℕ) → p.key ≡ Some key → found_under cache key log ≡ Some (entry_of_put cache p key)

-- it does, or leads where it led
abbrev pub MayLeadToPut : List ℕ → Put → List LogItem → List LogItem → Type 0
MayLeadToPut cache p old new =
    (key : List ℕ) → p.key ≡ Some key
    → (found_under cache key new ≡ found_under cache key old)
    ⊎ (found_under cache key new ≡ Some (entry_of_put cache p key))

-- an expected integrity is one, as each value of the program's type
abbrev pub ExpectsIntegrity : Put → Type 0
ExpectsIntegrity p = IfSome p.options.integrity IsIntegrity

-- ---- puts

-- the key leads to the put's entry, and the bytes lie under their integrity
pub record HasPut (cache : List ℕ) (p : Put) (i : List Hash) (log : List LogItem) : Type 0 where
  pub stored : i ≡ stored_as p
  pub entry : LeadsToPut cache p log
  pub content : HasContent cache (own_integrity p) p.data log

-- ---- commits

-- whatever a commit answers, its key leads to the put's entry or where it led, and all else stays
abbrev pub CommitsKeep : Type 0
CommitsKeep =
    (cache : List ℕ) (p : Put) (number : ℕ) (r : Reply) (old new : List LogItem)
    → FitsEntry cache p → ExpectsIntegrity p → IsOpened cache number → IsCache cache old
    → CommitsBytes cache p number r old new
    → MayLeadToPut cache p old new × KeepsBeside cache p.key (own_integrity p) p.data old new

-- What a listing of a cache in a store in memory answers.
use Rattle.std.specs.Prelude.{◌≡◌, ◌⊎◌, ℕ, All, List, [], ◌∷◌, Some, Ok, Err}
use Rattle.cacache_core.specs.declared.errors.{Error.TheVariants.{IoError, OutOfMemory}, Fault.TheVariants.{TooDeep}}
use Rattle.cacache_store.specs.declared.store.log.LogItem.{LogItem}
use Rattle.cacache_entry.specs.Bucket.{Found}
use Rattle.cacache_calls.specs.declared.command.Command.TheVariants as commands
use Rattle.cacache_calls.specs.{declared.reply.Reply.{Reply, TheVariants.{Listed, Refused}}, Replies.{In}, State.{Item}}
use Rattle.cacache_history.specs.ListingTurns.{NoKeyTwice}
use Rattle.cacache_laws.specs.{Caches.{AStepFailed}, Beside.{found_under}}

-- an entry is what its key leads to; an error says that a step failed, or that there was too much
abbrev pub IsShown : List ℕ → List LogItem → List LogItem → Item → Type 0
IsShown cache old new (Ok found) = found_under cache found.key old ≡ Some found
IsShown cache old new (Err e) = AStepFailed old new ⊎ (e ≡ IoError TooDeep [])

-- no item is an error
abbrev pub AreAllFound : List Item → Type 0
AreAllFound [] = Unit {0}
AreAllFound (Ok found ∷ items) = AreAllFound items
AreAllFound (Err e ∷ items) = ⊥

-- each key that leads to an entry is listed with it
abbrev pub AllListed : List ℕ → List LogItem → List Item → Type 0
AllListed cache log items =
    (key : List ℕ) (found : Found) → found_under cache key log ≡ Some found → In (Ok found) items

-- entries that keys lead to, and no key twice; unless an item is an error, all of them
pub record ListsKeys (cache : List ℕ) (items : List Item) (old new : List LogItem) : Type 0 where
  pub shown : All (IsShown cache old new) items
  pub once : NoKeyTwice items
  pub all : AreAllFound items → AllListed cache old items

-- a listing answers them, or is out of memory
abbrev pub GivesKeys : List ℕ → Reply → List LogItem → List LogItem → Type 0
GivesKeys cache (Listed items) old new = ListsKeys cache items old new
GivesKeys cache (Refused e) old new = e ≡ OutOfMemory
GivesKeys cache r old new = ⊥

-- What a verification and a collection ask of a cache, call by call.
use Rattle.std.specs.Prelude.{◌≡◌, ◌⊎◌, ◌++◌, ◌≤◌, All, ℕ, List, [], ◌∷◌, Bool, false, Option, Ok, Err, filter, length, map, not}
use Rattle.cacache_core.specs.{declared.{errors.{Error.{Error, TheVariants.{IoError, OutOfMemory}}, Fault.TheVariants.{NotFound}}, integrity.digest.Hash.{Hash}}, Integrity.{IsIntegrity}, Matching.{lists}}
use Rattle.cacache_store.specs.declared.store.log.LogItem.{LogItem}
use Rattle.cacache_entry.specs.Bucket.{Found}
use Rattle.cacache_calls.specs.{declared.{command.Command.{Command}, reply.Reply.{Reply}}, State.{Site, Item}, Table.{opening}, Runs.{Ran, without_message}}
use Rattle.cacache_calls.specs.declared.command.Command.TheVariants as commands
use Rattle.cacache_calls.specs.declared.reply.Reply.TheVariants as replies
use Rattle.cacache_laws.specs.trees.Collecting.{is_live}

-- the log gained runs of these calls with these replies, one after another
abbrev pub MadeCalls : Site → List (Command × Reply)
    → Option (List LogItem) → Option (List LogItem) → Type 0
MadeCalls site [] old new = new ≡ old
MadeCalls site (call ∷ calls) old new =
    (next : Option (List LogItem)) × Ran (opening site call.0) call.1 old next
    × MadeCalls site calls next new

-- ---- the index

-- the only item says that the folder of the index isn't there
abbrev pub HasNoIndex : List Item → Type 0
HasNoIndex items = (message : List ℕ) × (items ≡ Err (IoError NotFound message) ∷ [])

-- the index has these entries: they are all its items, or its folder isn't there
abbrev pub AreEntries : List Item → List Found → Type 0
AreEntries items entries = (items ≡ map Ok entries) ⊎ (HasNoIndex items × (entries ≡ []))

-- the log gained a listing of the index, as `ls` makes it, and the index has these entries
abbrev pub ListsEntries :
    Site → List Found → Option (List LogItem) → Option (List LogItem) → Type 0
ListsEntries site entries old new =
    (items : List Item) × AreEntries items entries
    × Ran (opening site commands.Ls) (replies.Listed items) old new

-- ---- entries whose content is asked for

-- an entry and whether its content is there, as a call
abbrev pub question_of : Found × Bool → Command × Reply
question_of a = (commands.Exists a.0.integrity, replies.Exists a.1)

-- the log gained a question for the content of each entry, in turn; for these it isn't there
pub record AsksEach
    (site : Site) (entries dangling : List Found)
    (old new : Option (List LogItem)) : Type 0 where
  pub asks : List (Found × Bool)
  pub each : map (λ a. a.0) asks ≡ entries
  pub asking : MadeCalls site (map question_of asks) old new
  pub absent : dangling ≡ map (λ a. a.0) (filter (λ a. not a.1) asks)

-- ---- contents that are removed

-- a removal that is done, as a call
abbrev pub removal : List Hash → Command × Reply
removal i = (commands.RemoveHash i, replies.Done)

-- an entry has the address of the integrity
abbrev pub has_entry : List Found → List Hash → Bool
has_entry entries [] = false
has_entry entries (h ∷ hs) = is_live entries h

-- these are the ones of the addresses that no entry has, in their order; and each entry has an
-- integrity
pub record AreUnused (entries : List Found) (addresses unused : List (List Hash)) : Type 0 where
  pub which : unused ≡ filter (λ i. not (has_entry entries i)) addresses
  pub fewer : length unused ≤ length addresses
  pub formed : All (λ f. IsIntegrity f.integrity) entries

-- the address of the integrity is among the hashes
abbrev pub has_address_in : List Hash → List Hash → Bool
has_address_in live [] = false
has_address_in live (h ∷ hs) = lists live h

-- these are the ones of the addresses that aren't among the hashes, in their order
pub record AreOthers (live : List Hash) (addresses others : List (List Hash)) : Type 0 where
  pub which : others ≡ filter (λ i. not (has_address_in live i)) addresses
  pub fewer : length others ≤ length addresses

-- ---- calls that an error ends

-- the command asks for a content
abbrev pub Asks : Command → Type 0
Asks (commands.Exists i) = Unit {0}
Asks command = ⊥

-- the error is the first among the items: those before it are entries
abbrev pub IsFirstError : List Item → Error → Type 0
IsFirstError items e =
    (entries : List Found) × (rest : List Item) × (items ≡ map Ok entries ++ Err e ∷ rest)

-- so it is, and the items don't say that the folder of the index isn't there
abbrev pub IsIndexError : List Item → Error → Type 0
IsIndexError items e = IsFirstError items e × (HasNoIndex items → ⊥)

-- the reply says the error: why the call was refused, or the first item that couldn't be read
abbrev pub SaysError : Reply → Error → Type 0
SaysError (replies.Refused error) e = error ≡ without_message e
SaysError (replies.Listed items) e = IsIndexError items (without_message e)
SaysError reply e = ⊥

-- the last of the calls says the error, or memory ran out
abbrev pub SaysWhy : List (Command × Reply) → Error → Type 0
SaysWhy calls e =
    (e ≡ OutOfMemory)
    ⊎ ((before : List (Command × Reply)) × (last : Command × Reply)
    × (calls ≡ before ++ last ∷ []) × SaysError last.1 e)

-- the log gained questions for contents, which the error ended
pub record StopsQuestions
    (site : Site) (e : Error) (old new : Option (List LogItem)) : Type 0 where
  pub calls : List (Command × Reply)
  pub made : MadeCalls site calls old new
  pub harmless : All (λ c. Asks c.0) calls
  pub why : SaysWhy calls e

-- the log gained a listing of the index, which says the error, or memory ran out
abbrev pub StopsIndex :
    Site → Error → Option (List LogItem) → Option (List LogItem) → Type 0
StopsIndex site e old new =
    (reply : Reply) × Ran (opening site commands.Ls) reply old new
    × ((e ≡ OutOfMemory) ⊎ SaysError reply e)

-- the error ended the listing of the index, or questions for contents after it
abbrev pub StopsReading :
    Site → Error → Option (List LogItem) → Option (List LogItem) → Type 0
StopsReading site e old new =
    StopsIndex site e old new
    ⊎ ((entries : List Found) × (listed : Option (List LogItem))
    × ListsEntries site entries old listed × StopsQuestions site e listed new)

-- the log gained removals of the first of these addresses, and the next one was refused
pub record StopsRemoving
    (site : Site) (addresses : List (List Hash)) (e : Error)
    (old new : Option (List LogItem)) : Type 0 where
  pub gone : List (List Hash)
  pub next : List Hash
  pub rest : List (List Hash)
  pub split : addresses ≡ gone ++ next ∷ rest
  pub between : Option (List LogItem)
  pub removing : MadeCalls site (map removal gone) old between
  pub refused :
      Ran (opening site (commands.RemoveHash next)) (replies.Refused (without_message e)) between new

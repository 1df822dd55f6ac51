-- What a listing reads, and what it answers, by what the cache holds at the places of its turns.
use Rattle.std.specs.Prelude.{◌≡◌, ◌⊎◌, ◌≤◌, ◌+◌, ◌||◌, ℕ, Bool, false, All, List, [], ◌∷◌, ◌++◌, Option, None, Some, Result, Ok, Err, length, take, nat_lt, if◌then◌else◌}
use Rattle.sha1.specs.Sha1.{sha1}
use Rattle.cacache_core.specs.{declared.errors.Error.TheVariants.{OutOfMemory}, Paths.{joined, bucket_names, index_area, Names, IsProperName}}
use Rattle.cacache_store.specs.{declared.store.answer.Name.{Name}, Plain.{PlainStep}}
use Rattle.cacache_store.specs.declared.store.step.Step.TheVariants as steps
use Rattle.cacache_entry.specs.{Entry.{Entry}, Bucket.{latest}}
use Rattle.cacache_calls.specs.{declared.{answers.Refusal.{Refusal}, reply.Reply.{Reply, TheVariants.{Listed, Refused}}}, Answers.{names_in}, Replies.{by_folder, too_deep}, Steps.{bucket_path}, Runs.{plain_reply}, State.{Item}, Walking.{most}}
use Rattle.cacache_calls.specs.declared.command.Command.TheVariants as commands
use Rattle.cacache_history.specs.{Setup.{Setup}, History.{History, Turn, Call, Reaches}, Turns.{held, entries_at, bucket_read, by_entries, EachTurn}}

-- ---- what is read

-- the index folder, or a folder at most two names below it
abbrev pub IsIndexFolder : Setup → List ℕ → Type 0
IsIndexFolder s path =
    (names : Names) × All IsProperName names × (length names ≤ 2)
    × (path ≡ joined s.cache (index_area ∷ names))

-- ---- what is listed

-- an entry is what a lookup of its key finds at the turn's place
abbrev pub IsFound : Setup → Turn → Item → Type 0
IsFound s turn (Ok found) = latest found.key (entries_at s (sha1 found.key) turn) ≡ Some found
IsFound s turn (Err error) = Unit {0}

-- A turn of a listing reads a folder of the index or the bucket of a key, and nothing else. A
-- folder gives why it couldn't be read, if so; a bucket gives what it lists: of the entries that
-- the cache holds there at the turn's place, each key with a latest one.
abbrev pub TurnGives : Setup → Turn → PlainStep → List Item → Type 0
TurnGives s turn (steps.ReadDir path) items =
    IsIndexFolder s path × (items ≡ by_folder (names_in turn.move.answer))
TurnGives s turn (steps.ReadAll path) items =
    (key : List ℕ) × (path ≡ bucket_path s.cache key)
    × (items ≡ by_entries (bucket_read s (sha1 key) turn)) × All (IsFound s turn) items
TurnGives s turn step items = ⊥

-- what turns give, one after another
abbrev pub TurnsGive : Setup → List Turn → List Item → Type 0
TurnsGive s [] items = items ≡ []
TurnsGive s (turn ∷ turns) items =
    (first rest : List Item) × (items ≡ first ++ rest)
    × TurnGives s turn turn.move.step first × TurnsGive s turns rest

-- ---- what is answered

-- how many names an answer gives
abbrev pub count_in : Result (List Name) Refusal → ℕ
count_in (Ok names) = length names
count_in (Err refusal) = 0

-- how many names the folders gave
abbrev pub names_given : List Turn → ℕ
names_given [] = 0
names_given (turn ∷ turns) = count_in (names_in turn.move.answer) + names_given turns

-- past the most names or items
abbrev pub is_past : List Turn → List Item → Bool
is_past turns items = nat_lt most (names_given turns) || nat_lt most (length items)

-- what turns gave; past the most, the first of these items and `TooDeep`
abbrev pub listing_of : List Turn → List Item → List Item
listing_of turns items =
    if is_past turns items then take most items ++ too_deep ∷ [] else items

-- ---- no bucket is left out

-- one of the turns has this property
abbrev pub AnyTurn : (Turn → Type 0) → List Turn → Type 0
AnyTurn P [] = ⊥
AnyTurn P (turn ∷ turns) = P turn ⊎ AnyTurn P turns

-- the cache holds a bucket of this key at the turn's place
abbrev pub HasBucket : Setup → List ℕ → Turn → Type 0
HasBucket s key turn =
    (entries : List Entry) × ((held s turn).buckets (sha1 key) ≡ Some entries)

-- the turn reads that bucket
abbrev pub TurnReadsBucket : Setup → List ℕ → Turn → Type 0
TurnReadsBucket s key turn = turn.move.step ≡ steps.ReadAll (bucket_path s.cache key)

-- the turn couldn't read a folder above that bucket
abbrev pub FailsAbove : Setup → List ℕ → Turn → Type 0
FailsAbove s key turn =
    (count : ℕ) × (refusal : Refusal)
    × (turn.move.step ≡ steps.ReadDir (joined s.cache (take count (bucket_names key))))
    × (names_in turn.move.answer ≡ Err refusal)

-- a bucket that is there at each turn is read, unless a folder above it couldn't be
abbrev pub FindsBuckets : Setup → List Turn → Type 0
FindsBuckets s turns =
    (key : List ℕ) → EachTurn (HasBucket s key) turns
    → AnyTurn (λ turn. TurnReadsBucket s key turn ⊎ FailsAbove s key turn) turns

-- ---- nothing is read twice

-- no turn makes the step of another one
abbrev pub NoneTwice : List Turn → Type 0
NoneTwice [] = Unit {0}
NoneTwice (turn ∷ turns) =
    EachTurn (λ later. later.move.step ≡ turn.move.step → ⊥) turns × NoneTwice turns

-- an item of another key
abbrev pub OtherKey : List ℕ → Item → Type 0
OtherKey key (Ok found) = found.key ≡ key → ⊥
OtherKey key (Err error) = Unit {0}

-- no key is listed twice
abbrev pub NoKeyTwice : List Item → Type 0
NoKeyTwice [] = Unit {0}
NoKeyTwice (Ok found ∷ items) = All (OtherKey found.key) items × NoKeyTwice items
NoKeyTwice (Err error ∷ items) = NoKeyTwice items

-- ---- of a history

-- a listing that is over answers what its turns gave, and they found each bucket
pub record TurnsList (s : Setup) (turns : List Turn) (items : List Item) (r : Reply) : Type 0 where
  pub answers : r ≡ Listed (listing_of turns items)
  pub finds : is_past turns items ≡ false → FindsBuckets s turns

-- it answers by the buckets of keys, each read once and each key listed once
abbrev pub ListsHeld : Setup → List Turn → Reply → Type 0
ListsHeld s turns r =
    (items : List Item) × TurnsGive s turns items × NoneTwice turns × NoKeyTwice items
    × TurnsList s turns items r

-- what is answered so far, unless memory was refused
abbrev pub AnswersListing : Setup → List Turn → List Item → Option Reply → Type 0
AnswersListing s turns items None = Unit {0}
AnswersListing s turns items (Some r) =
    (r ≡ Refused OutOfMemory) ⊎ TurnsList s turns items (plain_reply r)

-- what a listing read, and what it answers by that if it is over
abbrev pub ListsValue : Setup → List Turn → Option Reply → Type 0
ListsValue s turns reply =
    (items : List Item) × TurnsGive s turns items × NoneTwice turns × NoKeyTwice items
    × AnswersListing s turns items reply

-- each listing, whether it is over or was left on its way
abbrev pub ListingsReadValue : History → Type 0
ListingsReadValue h =
    (call : Call) (reply : Option Reply) → Reaches h call reply → call.command ≡ commands.Ls
    → ListsValue h.setup call.turns reply

-- What lookups, reads, existence checks and listings return, from the answers to their own steps.
use Rattle.std.specs.Prelude.{◌≡◌, ◌⊎◌, ℕ, List, [], ◌∷◌, Option, None, Some, option_map, Result, Ok, Err, Bool, false, if◌then◌else◌, ◌↔◌, ◌<◌, ◌++◌, length, map}
use Rattle.cacache_core.specs.{declared.{errors.{IntegrityFault.TheVariants.{Check}, Error.TheVariants.{EntryNotFound, IoError, IntegrityError, OutOfMemory}}, integrity.digest.Hash.{Hash}}, Integrity.{Meets, actual}, Matching.{meets}}
use Rattle.cacache_store.specs.{Plain.{Fits, PlainStep, PlainAnswer}, declared.store.answer.Name.{Name}}
use Rattle.cacache_entry.specs.{Entry.{Entry}, Bucket.{entries_of, Found, latest}, View.{found_view}, declared.metadata.Metadata.{Metadata}}
use Rattle.cacache_calls.specs.{declared.{answers.Refusal.{Refusal}, reply.Reply.{Reply, TheVariants.{Read, LookedUp, Exists, Done, Refused, Listed}}}, Answers.{bytes_in, there_in, names_in}, Steps.{content_path, bucket_path}, State.{Site, Item}, Table.{opening}, Runs.{Moves, Runs}, Walking.{most, once, items_in, failed}}
use Rattle.cacache_core.specs.declared.errors.Fault.TheVariants as faults
use Rattle.cacache_store.specs.declared.store.step.Step.TheVariants as steps
use Rattle.cacache_calls.specs.declared.answers.Refusal.TheVariants as refusals
use Rattle.cacache_calls.specs.declared.command.Command.TheVariants as commands

-- ---- what the answer to a step shows

-- a bucket that doesn't exist counts as an empty one
abbrev pub entries_shown : Result (List ℕ) Refusal → Result (List Entry) Refusal
entries_shown (Ok bytes) = Ok (entries_of bytes)
entries_shown (Err (refusals.Fault faults.NotFound)) = Ok []
entries_shown (Err refusal) = Err refusal

-- the entries of a bucket that an answer shows
abbrev pub bucket_shown : PlainAnswer → Result (List Entry) Refusal
bucket_shown t = entries_shown (bytes_in t)

-- ---- the replies to it

-- the reply to a refused step
abbrev pub refusal_reply : Refusal → Reply
refusal_reply (refusals.Fault fault) = Refused (IoError fault [])
refusal_reply refusals.Memory = Refused OutOfMemory

-- the reply to a lookup of the key, from the key's bucket
abbrev pub find_reply : List ℕ → Result (List Entry) Refusal → Reply
find_reply key (Ok entries) = LookedUp (latest key entries)
find_reply key (Err refusal) = refusal_reply refusal

-- a read returns bytes only if they match the integrity
abbrev pub content_reply : List Hash → Result (List ℕ) Refusal → Reply
content_reply i (Ok bytes) =
    if meets i bytes then Read bytes else Refused (IntegrityError (Check i (actual i bytes)))
content_reply i (Err refusal) = refusal_reply refusal

-- a check that failed also counts as "doesn't exist"
abbrev pub there_reply : Result Bool Refusal → Reply
there_reply (Ok there) = Exists there
there_reply (Err (refusals.Fault fault)) = Exists false
there_reply (Err refusals.Memory) = Refused OutOfMemory

-- ---- the replies that stand for values

-- nothing
abbrev pub done : Unit {0} → Reply
done u = Done

-- what a lookup found
abbrev pub looked_up : Option Metadata → Reply
looked_up found = LookedUp (option_map found_view found)

-- ---- runs

-- the run is this one step, and its answer determines the reply
abbrev pub OneStep : PlainStep → (PlainAnswer → Reply) → Moves → Reply → Type 0
OneStep step reply moves r = (t : PlainAnswer) × (moves ≡ (step, t) ∷ []) × (r ≡ reply t)

-- the call made its one step, and returned the reply to the answer or was refused memory; or memory was refused before it
abbrev pub OneRun : PlainStep → (PlainAnswer → Reply) → Moves → Reply → Type 0
OneRun step reply moves r =
    ((moves ≡ []) × (r ≡ Refused OutOfMemory))
    ⊎ ((t : PlainAnswer) × (moves ≡ (step, t) ∷ []) × Fits step t
    × ((r ≡ reply t) ⊎ (r ≡ Refused OutOfMemory)))

-- the call reads the key's bucket, whose entries determine the reply
abbrev pub ReadsBucketOnce : List ℕ → List ℕ → Moves → Reply → Type 0
ReadsBucketOnce cache key =
    OneStep (steps.ReadAll (bucket_path cache key)) (λ t. find_reply key (bucket_shown t))

-- the call reads the integrity's content, whose bytes determine the reply
abbrev pub ReadsContentOnce : List ℕ → List Hash → Moves → Reply → Type 0
ReadsContentOnce cache i =
    OneStep (steps.ReadAll (content_path cache i)) (λ t. content_reply i (bytes_in t))

-- the call checks with the store that the content exists
abbrev pub AsksContentOnce : List ℕ → List Hash → Moves → Reply → Type 0
AsksContentOnce cache i =
    OneStep (steps.Exists (content_path cache i)) (λ t. there_reply (there_in t))

-- the steps after a lookup: a read of the content that it found, or none
abbrev pub ReadsOn : List ℕ → List ℕ → Result (Option Found) Refusal → Moves → Reply → Type 0
ReadsOn cache key (Ok (Some f)) moves r = ReadsContentOnce cache f.integrity moves r
ReadsOn cache key (Ok None) moves r = (moves ≡ []) × (r ≡ Refused (EntryNotFound cache key))
ReadsOn cache key (Err refusal) moves r = (moves ≡ []) × (r ≡ refusal_reply refusal)

-- what a lookup of the key finds, or why its bucket couldn't be read
abbrev pub lookup : List ℕ → Result (List Entry) Refusal → Result (Option Found) Refusal
lookup key (Ok entries) = Ok (latest key entries)
lookup key (Err refusal) = Err refusal

-- the first step reads the key's bucket
abbrev pub BeginsWithBucket : List ℕ → List ℕ → PlainAnswer → Moves → Moves → Type 0
BeginsWithBucket cache key t more moves = moves ≡ (steps.ReadAll (bucket_path cache key), t) ∷ more

-- a read by key: the lookup, then the steps after it
abbrev pub ReadsByKey : List ℕ → List ℕ → Moves → Reply → Type 0
ReadsByKey cache key moves r =
    (t : PlainAnswer) × (more : Moves)
    × BeginsWithBucket cache key t more moves × ReadsOn cache key (lookup key (bucket_shown t)) more r

-- X holds, unless memory was refused
abbrev pub OrMemory : Type 0 → Reply → Type 0
OrMemory X r = (r ≡ Refused OutOfMemory) ⊎ X

-- ---- laws

-- unless memory was refused, a lookup's reply follows from its read of the key's bucket
abbrev pub FindsShown : Type 0
FindsShown =
    (site : Site) (key : List ℕ) (moves : Moves) (r : Reply)
    → Runs (opening site (commands.Find key)) moves r
    → OrMemory (ReadsBucketOnce site.cache key moves r) r

-- the same for a read by key, from its lookup and its read of the content
abbrev pub GetsShown : Type 0
GetsShown =
    (site : Site) (key : List ℕ) (moves : Moves) (r : Reply)
    → Runs (opening site (commands.Get key)) moves r
    → OrMemory (ReadsByKey site.cache key moves r) r

-- the same for a read by integrity, from its read of the content
abbrev pub ReadsShown : Type 0
ReadsShown =
    (site : Site) (i : List Hash) (moves : Moves) (r : Reply)
    → Runs (opening site (commands.GetHash i)) moves r
    → OrMemory (ReadsContentOnce site.cache i moves r) r

-- the same for an existence check, from what the store reports of the content
abbrev pub ExistsShown : Type 0
ExistsShown =
    (site : Site) (i : List Hash) (moves : Moves) (r : Reply)
    → Runs (opening site (commands.Exists i)) moves r
    → OrMemory (AsksContentOnce site.cache i moves r) r

-- the lookup in the bucket, as it was read, finds an integrity that the bytes match
abbrev pub MeetsFound : List ℕ → PlainAnswer → List ℕ → Type 0
MeetsFound key t bytes =
    (found : Found) × (lookup key (bucket_shown t) ≡ Ok (Some found)) × Meets found.integrity bytes

-- a read by key returns bytes that match the integrity found by its own read of the bucket
abbrev pub GetsMeet : Type 0
GetsMeet =
    (site : Site) (key : List ℕ) (moves : Moves) (bytes : List ℕ)
    → Runs (opening site (commands.Get key)) moves (Read bytes)
    → (t : PlainAnswer) × (more : Moves)
    × BeginsWithBucket site.cache key t more moves × MeetsFound key t bytes

-- ---- what the steps returned

-- a bucket adds its lookups, and none if it doesn't exist
abbrev pub by_bucket : Result (List ℕ) Refusal → List Item
by_bucket (Ok bytes) = items_in bytes
by_bucket (Err (refusals.Fault faults.NotFound)) = []
by_bucket (Err (refusals.Fault fault)) = failed fault ∷ []
by_bucket (Err refusals.Memory) = []

-- a folder that can't be read adds its fault
abbrev pub by_folder : Result (List Name) Refusal → List Item
by_folder (Ok names) = []
by_folder (Err (refusals.Fault fault)) = failed fault ∷ []
by_folder (Err refusals.Memory) = []

-- the items that one step adds
abbrev pub given_by : PlainStep → PlainAnswer → List Item
given_by (steps.ReadAll path) t = by_bucket (bytes_in t)
given_by (steps.ReadDir path) t = by_folder (names_in t)
given_by step t = []

-- the items that all steps add, in order
abbrev pub items_given : Moves → List Item
items_given [] = []
items_given (m ∷ moves) = given_by m.0 m.1 ++ items_given moves

-- ---- what a listing contains

-- the error for a folder that is too deep, and for too many names
abbrev pub too_deep : Item
too_deep = failed faults.TooDeep

-- the first list is the second, with `too_deep` errors among its items
abbrev pub AddsTooDeep : List Item → List Item → Type 0
AddsTooDeep [] ys = ys ≡ []
AddsTooDeep (x ∷ xs) ys =
    ((x ≡ too_deep) × AddsTooDeep xs ys)
    ⊎ ((rest : List Item) × (ys ≡ x ∷ rest) × AddsTooDeep xs rest)

-- a listing of at most `most` items has what its steps returned; only out of memory refuses it
abbrev pub ListsGiven : List Item → Reply → Type 0
ListsGiven items (Listed list) = (most < length list) ⊎ AddsTooDeep list items
ListsGiven items (Refused e) = e ≡ OutOfMemory
ListsGiven items r = ⊥

-- this holds of every listing, for its own steps
abbrev pub ListsShown : Type 0
ListsShown =
    (site : Site) (moves : Moves) (r : Reply)
    → Runs (opening site commands.Ls) moves r → ListsGiven (items_given moves) r

-- ---- each key once

-- x is an element of the list
abbrev pub In : {X : Type 0} → X → List X → Type 0
In x [] = ⊥
In x (y ∷ ys) = (x ≡ y) ⊎ In x ys

-- no element twice
abbrev pub Distinct : {X : Type 0} → List X → Type 0
Distinct [] = Unit {0}
Distinct (x ∷ xs) = (In x xs → ⊥) × Distinct xs

-- the key of each entry
abbrev pub keys_of : List Entry → List (List ℕ)
keys_of es = map (λ e. e.key) es

-- a listing looks up each key of a bucket, and none twice
abbrev pub EachKeyOnce : Type 0
EachKeyOnce =
    (es : List Entry)
    → Distinct (once (keys_of es))
    × ((key : List ℕ) → In key (once (keys_of es)) ↔ In key (keys_of es))

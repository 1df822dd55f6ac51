-- Runs of a call: its steps with their answers, and its reply. Every run ends.
use Rattle.std.specs.Prelude.{◌≡◌, ◌⊎◌, ◌<◌, ◌+◌, ◌*◌, ◌^◌, ◌++◌, ℕ, List, [], ◌∷◌, Option, Some, None, Result, Ok, Err, option_map, map, length}
use Rattle.cacache_core.specs.declared.errors.Error.{Error, TheVariants.{IoError, SerdeError, OutOfMemory}}
use Rattle.cacache_store.specs.declared.store.answer.Answer.TheVariants as answers
use Rattle.cacache_store.specs.{declared.store.log.LogItem.{LogItem, TheVariants.{Made}}, Plain.{PlainStep, PlainAnswer, Fits}}
use Rattle.cacache_calls.specs.{declared.{reply.Reply.{Reply, TheVariants.{Listed, Refused}}, visit.{Visit.{Visit, TheVariants.{Enter, ReadBucket, RemoveFile, RemoveFolder}}, Task.{Task, TheVariants.{Make, Stumble}}}}, State.{State, doing, creating, writing, syncing, persisting, linking, confirming, appending, looking, reading, asking, sizing, opening_file, hashing, copying, walking, over, Item}, Common.{ends_with}, Table.{wants, after}}

-- steps with their answers
abbrev pub Moves : Type 0
Moves = List (PlainStep × PlainAnswer)

-- The moves are a run from this state with this reply. Each step is the one that the call takes next, and
-- any fitting answer moves it on. A run may end out of memory, before its first step or after any step.
abbrev pub Runs : State → Moves → Reply → Type 0
Runs s [] r = (s ≡ over r) ⊎ (r ≡ Refused OutOfMemory)
Runs s (m ∷ moves) r = (wants s ≡ Some m.0) × Fits m.0 m.1 × Runs (after s m.1) moves r

-- The moves take a call from the first state to the second.
abbrev pub Goes : State → Moves → State → Type 0
Goes s [] t = s ≡ t
Goes s (m ∷ moves) t = (wants s ≡ Some m.0) × Fits m.0 m.1 × Goes (after s m.1) moves t

-- a log that is kept gains exactly these moves
abbrev pub Gains : Option (List LogItem) → Option (List LogItem) → Moves → Type 0
Gains old new moves = new ≡ option_map (λ log. log ++ map (λ m. Made m.0 m.1) moves) old

-- the log gained a run from this state with this reply
abbrev pub Ran : State → Reply → Option (List LogItem) → Option (List LogItem) → Type 0
Ran s r old new = (moves : Moves) × Runs s moves r × Gains old new moves

-- the log gained moves from the first state to the second
abbrev pub Gone : State → State → Option (List LogItem) → Option (List LogItem) → Type 0
Gone s t old new = (moves : Moves) × Goes s moves t × Gains old new moves

-- ---- replies without messages: no contract says anything about messages

-- an error without its message, if it has one
abbrev pub without_message : Error → Error
without_message (IoError fault message) = IoError fault []
without_message (SerdeError cause message) = SerdeError cause []
without_message error = error

-- an item without its error's message
abbrev pub plain_item : Item → Item
plain_item (Ok found) = Ok found
plain_item (Err error) = Err (without_message error)

-- a reply without the messages of its errors
abbrev pub plain_reply : Reply → Reply
plain_reply (Listed items) = Listed (map plain_item items)
plain_reply (Refused error) = Refused (without_message error)
plain_reply reply = reply

-- the reply to a result, made from its value's reply
abbrev pub reply_of : {X : Type 0} → (X → Reply) → Result X Error → Reply
reply_of answer (Ok x) = answer x
reply_of answer (Err error) = Refused (without_message error)

-- the call is over with this error, or it ended out of memory
abbrev pub EndsAs : Error → State → Type 0
EndsAs e s = (s ≡ ends_with (without_message e)) ⊎ (e ≡ OutOfMemory)

-- ---- a bound on the remaining steps

-- a walk enters a folder, and perhaps removes it; each name in it adds one task
abbrev pub weight : Visit → ℕ
weight (Enter p level) = 2
weight (ReadBucket p) = 1
weight (RemoveFile p) = 1
weight (RemoveFolder p) = 1

-- the weights of all tasks together; a task that ends in a fault has no weight
abbrev pub weights : List Task → ℕ
weights [] = 0
weights (Make v ∷ todo) = weight v + weights todo
weights (Stumble fault path ∷ todo) = weights todo

-- the most steps that a call takes from this state on
abbrev pub effort : State → ℕ
effort (doing errand s) = effort s + 1
effort (creating number c rest) = length rest + 19
effort (writing c file rest) = length rest + 18
effort (syncing c file) = 16
effort (persisting c file) = 15
effort (linking c target) = 15
effort (confirming c fault) = 14
effort (appending i) = 6
effort (looking l) = 2 ^ 64 + 18
effort (reading k) = 1
effort (asking k) = 1
effort (sizing target) = 2 ^ 64 + 18
effort (opening_file h) = 2 ^ 64 + 17
effort (hashing h file bytes) = file.left + 17
effort (copying from to verified) = 1
effort (walking w v todo) = 2 * w.left + weight v + weights todo
effort (over reply) = 0

-- ---- laws

-- a state without a next step is over
abbrev pub WantsUntilOver : Type 0
WantsUntilOver = (s : State) → wants s ≡ None → (reply : Reply) × (s ≡ over reply)

-- each fitting answer lowers the bound
abbrev pub EffortFalls : Type 0
EffortFalls =
    (s : State) (step : PlainStep) (answer : PlainAnswer) → wants s ≡ Some step
    → Fits step answer → effort (after s answer) < effort s

-- out of memory ends every call
abbrev pub MemoryEnds : Type 0
MemoryEnds =
    (s : State) (step given : PlainStep) → wants s ≡ Some step
    → after s (answers.NoMemory given) ≡ over (Refused OutOfMemory)

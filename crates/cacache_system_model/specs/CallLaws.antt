-- The system calls that a public call makes, in order.
use Rattle.std.specs.Prelude.{◌≡◌, ℕ, Bool, true, false, if◌then◌else◌, List, [], ◌∷◌, ◌++◌, Option, None, Some, map}
use Rattle.cacache_store.specs.declared.store.log.LogItem.{LogItem, TheVariants.{Made}}
use Rattle.cacache_system.specs.declared.call.CallItem.{CallItem}
use Rattle.cacache_folder.specs.StepsMade.{StepMade, log_of, CallsInParts}
use Rattle.cacache_calls.specs.{declared.{command.{Command.{Command}, Put.{Put}, Insert.{Insert}, Delete.{Delete}}, reply.Reply.{Reply}, carried.Commit.{Commit}}, Steps.{temp_path, content_path, content_folders, bucket_path, bucket_folders}, State.{Site, Insertion}, Inserting.{bucket_line, insertion, deletion}, Storing.{insertion_of, put_commit}, Table.{opening}, Runs.{Moves, Runs}, Effects.{IsRefused}, Licence.{looking_on, KeepsTo}}
use Rattle.cacache_calls.specs.declared.command.Command.TheVariants as commands
use Rattle.cacache_system_model.specs.CallForms.{changes_nothing, Form, Only, AnsweredInKind, Part, folders, creates, writes, syncs_temp, moves, finds, sends, syncs, InParts, LoggedCalls}

-- ---- the parts of a put

-- folders are synced, the last one first
abbrev pub synced_up : List (List ℕ) → List Part → List Part
synced_up [] rest = rest
synced_up (folder ∷ deeper) rest = synced_up deeper (syncs folder ∷ rest)

-- a durable insertion syncs its bucket, and then the folders above it
abbrev pub recorded_parts : Insertion → List Part
recorded_parts i =
    if i.durable then syncs (bucket_path i.cache i.entry.key)
    ∷ synced_up (bucket_folders i.cache i.entry.key) []
    else []

-- an entry is sent to its bucket
abbrev pub insert_parts : Insertion → List Part
insert_parts i =
    folders ∷ sends (bucket_path i.cache i.entry.key) (bucket_line i) ∷ recorded_parts i

-- with a key, the entry follows
abbrev pub index_parts : Commit → Option (List ℕ) → List Part
index_parts c None = []
index_parts c (Some key) = insert_parts (insertion_of c key)

-- a durable commit syncs the folders above its content
abbrev pub secured_parts : Commit → List Part
secured_parts c =
    if c.options.durable then synced_up (content_folders c.cache c.computed) (index_parts c c.key)
    else index_parts c c.key

-- one that found its content there syncs that first
abbrev pub found_parts : Commit → List Part
found_parts c =
    if c.options.durable then syncs (content_path c.cache c.computed) ∷ secured_parts c
    else secured_parts c

-- the temporary file becomes the content, or the content was found there
abbrev pub place_parts : Bool → List ℕ → Commit → List Part
place_parts false temp c = moves temp (content_path c.cache c.computed) ∷ secured_parts c
place_parts true temp c = finds temp (content_path c.cache c.computed) ∷ found_parts c

-- a durable commit syncs the temporary file before that
abbrev pub move_parts : Bool → List ℕ → Commit → List Part
move_parts found temp c =
    if c.options.durable then syncs_temp ∷ place_parts found temp c else place_parts found temp c

-- a put, as it found its content there or not
abbrev pub put_parts : Bool → Site → Put → List Part
put_parts found site p =
    let c = put_commit site.cache p in
    let temp = temp_path site.cache site.number in
    folders ∷ creates temp ∷ writes ∷ folders ∷ move_parts found temp c

-- ---- laws

-- a call that answers Ok, and each of whose system calls was answered by a result of its kind
abbrev pub IsFine : Reply → List CallItem → Type 0
IsFine reply calls = (IsRefused reply → ⊥) × AnsweredInKind calls

-- The system calls of a call. One that only looks or lists changes nothing. One that puts, inserts or deletes, and answers
-- Ok, has these parts, one after another.
pub record CallsOfCall (site : Site) (command : Command) (reply : Reply)
    (calls : List CallItem) : Type 0 where
  pub looks : KeepsTo looking_on command → Only changes_nothing calls
  pub puts :
      (p : Put) → command ≡ commands.Put p → IsFine reply calls
      → (found : Bool) × InParts (put_parts found site p) calls
  pub inserts :
      (i : Insert) → command ≡ commands.Insert i → IsFine reply calls
      → InParts (insert_parts (insertion site.cache i)) calls
  pub deletes :
      (d : Delete) → command ≡ commands.Delete d → IsFine reply calls
      → InParts (insert_parts (deletion site.cache d)) calls

-- the system's calls are those of a store's steps in two parts, and those of the second part are the call's
abbrev pub LastCalls : {Y F D : Type 0} → (F → ℕ) → List (StepMade Y F D)
    → Option (List CallItem) → Option (List CallItem) → List LogItem → List LogItem → Form → Type 0
LastCalls number steps began new log more P =
    (parts : CallsInParts number steps began new log more) × (calls : List CallItem)
    × LoggedCalls number parts.later parts.between new calls × P calls

-- if a call's run is the last part of a store's log, so are the calls of its steps the system's last ones
abbrev pub CallsByCall : {Y F D : Type 0} → (F → ℕ) → List (StepMade Y F D)
    → Option (List CallItem) → Option (List CallItem) → Type 0
CallsByCall number steps began new =
    (log : List LogItem) (site : Site) (command : Command) (run : Moves) (reply : Reply)
    → Runs (opening site command) run reply
    → log_of began steps ≡ Some (log ++ map (λ m. Made m.0 m.1) run)
    → ∥ LastCalls number steps began new log (map (λ m. Made m.0 m.1) run)
    (CallsOfCall site command reply) ∥₁

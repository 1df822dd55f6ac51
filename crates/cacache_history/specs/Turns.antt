-- What a call's turns made, where in a history they were made, and what they show about the cache there.
use Rattle.std.specs.Prelude.{List, [], ◌∷◌, ◌≡◌, ◌⊎◌, ℕ, ◌++◌, Option, Some, None, Result, Ok, Err, Bool}
use Rattle.cacache_calls.specs.{Runs.{Moves, Runs, plain_reply}, declared.{reply.Reply.{Reply, TheVariants.{Refused}}, answers.Refusal.{Refusal}}, Table.{opening}, Answers.{there_in}, State.{Item}, Walking.{items_of, failed}}
use Rattle.cacache_history.specs.{History.{Turn, History, Call, Made, turn_of, now_at, Reaches}, declared.record.Record.{Record, TheVariants.{Moved}}, Setup.{call_site, Setup, home}}
use Rattle.cacache_core.specs.{declared.{errors.{Error.TheVariants.{OutOfMemory}, Fault.{Fault}}, integrity.digest.Hash.{Hash}}, Integrity.{address}}
use Rattle.cacache_disk.specs.declared.luck.Luck.{Luck}
use Rattle.cacache_store.specs.Plain.{PlainAnswer}
use Rattle.cacache_entry.specs.Entry.{Entry}
use Rattle.cacache_value.specs.{Value.{Value, Blob, value_of_tree}, Acts.{list_of}, Shows.{blob_bytes, blob_there}}
use Rattle.cacache_core.specs.declared.errors.Fault.TheVariants as faults
use Rattle.cacache_store.specs.declared.store.answer.Answer.TheVariants as answers
use Rattle.cacache_calls.specs.declared.answers.Refusal.TheVariants as refusals

-- the steps of these turns with their answers
abbrev pub made_in : List Turn → Moves
made_in [] = []
made_in (turn ∷ turns) = (turn.move.step, turn.move.answer) ∷ made_in turns

-- this holds of each turn
abbrev pub EachTurn : (Turn → Type 0) → List Turn → Type 0
EachTurn P [] = Unit {0}
EachTurn P (turn ∷ turns) = P turn × EachTurn P turns

-- ---- where in a history a call's turns were made, and that they are a run of the call

-- a turn is the move after these records
pub record TurnAt (h : History) (turn : Turn) : Type 0 where
  pub before : List Record
  pub later : List Record
  pub caller : ℕ
  pub luck : Luck
  pub made : Made
  pub reply : Option Reply
  pub is : h.records ≡ before ++ Moved caller luck (Some made) reply ∷ later
  pub turn_is : turn ≡ turn_of (now_at h before).tree luck made

-- each turn of a call is a move of the history, on the tree of its place
abbrev pub TurnsAreMoves : History → Type 0
TurnsAreMoves h =
    (call : Call) (reply : Option Reply) → Reaches h call reply → EachTurn (TurnAt h) call.turns

-- a call with a reply made a run with it, or lost it for want of memory
abbrev pub CallsAreRuns : History → Type 0
CallsAreRuns h =
    (call : Call) (r : Reply) → Reaches h call (Some r)
    → (r ≡ Refused OutOfMemory)
    ⊎ Runs (opening (call_site h.setup call.number) call.command) (made_in call.turns) (plain_reply r)

-- ---- what the cache holds at a turn's place

-- what the cache holds at the turn's place
abbrev pub held : Setup → Turn → Value
held s turn = value_of_tree (home s) turn.place

-- the entries of a bucket; none if it doesn't exist
abbrev pub entries_at : Setup → List ℕ → Turn → List Entry
entries_at s digest turn = list_of ((held s turn).buckets digest)

-- the content at an address, if any
abbrev pub blob_at : Value → Option Hash → Option Blob
blob_at v None = None
blob_at v (Some h) = v.contents h

-- the content of an integrity lies at its address
abbrev pub content_at : Setup → List Hash → Turn → Option Blob
content_at s i turn = blob_at (held s turn) (address i)

-- ---- what a turn shows, by how its step was answered

-- this, unless the step failed
abbrev pub unless_failed : {X : Type 0} → PlainAnswer → Result X Refusal → Result X Refusal
unless_failed (answers.Failed fault) r = Err (refusals.Fault fault)
unless_failed (answers.NoMemory step) r = Err refusals.Memory
unless_failed answer r = r

-- a missing file isn't a failure here: it shows that nothing is there
abbrev pub shown_result : {X : Type 0} → PlainAnswer → Result X Refusal → Result X Refusal
shown_result (answers.Failed faults.NotFound) r = r
shown_result answer r = unless_failed answer r

-- a fault, as why a step was refused
abbrev pub as_refusal : {X : Type 0} → Result X Fault → Result X Refusal
as_refusal (Ok x) = Ok x
as_refusal (Err fault) = Err (refusals.Fault fault)

-- the entries of a bucket
abbrev pub bucket_read : Setup → List ℕ → Turn → Result (List Entry) Refusal
bucket_read s digest turn = shown_result turn.move.answer (Ok (entries_at s digest turn))

-- the bytes of a content, or why there are none
abbrev pub content_read : Setup → List Hash → Turn → Result (List ℕ) Refusal
content_read s i turn =
    shown_result turn.move.answer (as_refusal (blob_bytes turn.place (content_at s i turn)))

-- whether a content is there
abbrev pub there_read : Setup → List Hash → Turn → Result Bool Refusal
there_read s i turn =
    unless_failed turn.move.answer (there_in (blob_there turn.place (content_at s i turn)))

-- ---- what a bucket lists

-- each key with a lookup that is Some, or why it couldn't be read
abbrev pub by_entries : Result (List Entry) Refusal → List Item
by_entries (Ok entries) = items_of entries
by_entries (Err (refusals.Fault fault)) = failed fault ∷ []
by_entries (Err refusals.Memory) = []

-- The calls of an append and of a read of a whole file, and how they happen on a bucket's file.
use Rattle.std.specs.{Prelude.{◌≡◌, ◌≤◌, ℕ, Bool, true, List, [], ◌∷◌, ◌++◌, Some, length, flat_map}, List.{AllByRecursion}}
use Rattle.cacache_store.specs.declared.store.step.Step.TheVariants as steps
use Rattle.cacache_system.specs.{declared.call.{SystemCall.{SystemCall}, CallItem.{CallItem}, CallResult.{CallResult, TheVariants.{Opened, Count, Bytes, Info, Failed}}}, Seen.{item}, CallsOf.{Runs, was_interrupted}, AnswersOf.{Hint, first}}
use Rattle.cacache_system.specs.declared.call.SystemCall.TheVariants as asks
use Rattle.cacache_entry.specs.{Entry.{Entry, line_of, closed_line}, FittingEntries.{IsEntry, IsWritable}}
use Rattle.cacache_system_model.specs.bucket.{File.{LineWrite, BucketFile, Event, OpensToAppend, Answers, Opens, Ends, bytes_to_write, idle, file_after, file_of, Happen}, Moments.{ReadOf, HasEntry}}

-- ---- the calls alone

-- what the system says to a call of an append or of a read of a whole file is of the call's kind, or an error
abbrev pub FitsCall : SystemCall → CallResult → Type 0
FitsCall call (Failed why) = Unit {0}
FitsCall (asks.OpenToRead path) (Opened file) = Unit {0}
FitsCall (asks.OpenToAppend path) (Opened file) = Unit {0}
FitsCall (asks.StatFile file) (Info info) = Unit {0}
FitsCall (asks.StatLink path) (Info info) = Unit {0}
FitsCall (asks.Read file size) (Bytes bytes) = Unit {0}
FitsCall (asks.ReadRest file) (Bytes bytes) = Unit {0}
FitsCall (asks.Write file bytes) (Count count) = Unit {0}
FitsCall call said = ⊥

-- the same of each call
abbrev pub AllFit : List CallItem → Type 0
AllFit items = AllByRecursion (λ (i : CallItem). FitsCall i.call i.result) items

-- a call that an append makes before its write: a look at a folder, the opening, or a write that a signal interrupted
abbrev pub IsBeforeWrite : SystemCall → CallResult → Type 0
IsBeforeWrite (asks.StatLink path) said = Unit {0}
IsBeforeWrite (asks.OpenToAppend path) said = Unit {0}
IsBeforeWrite (asks.Write file bytes) said = was_interrupted said ≡ true
IsBeforeWrite call said = ⊥

-- the last call is the one write, of these bytes, and says the count
pub record WritesOnce (bytes : List ℕ) (count : ℕ) (items : List CallItem) : Type 0 where
  pub file : ℕ
  pub calls : List CallItem
  pub parts : items ≡ calls ++ item (asks.Write file bytes) (Count count) ∷ []
  pub before : AllByRecursion (λ (i : CallItem). IsBeforeWrite i.call i.result) calls

-- An append that answers a count has made one write, which said that count. A short write isn't followed by another.
abbrev pub AppendsWriteOnce : Type 0
AppendsWriteOnce =
    (hint : Hint) (path bytes : List ℕ) (count : ℕ) (items : List CallItem)
    → Runs (first hint (steps.Append path bytes)) items (Count count) → AllFit items
    → WritesOnce bytes count items

-- the bytes that a call says
abbrev pub said_by : CallResult → List ℕ
said_by (Bytes bytes) = bytes
said_by said = []

-- the bytes that calls say, in this order
abbrev pub all_said : List CallItem → List ℕ
all_said = flat_map (λ (i : CallItem). said_by i.result)

-- a call that a read of a whole file makes between its opening and its last read: a question or a read
abbrev pub IsBeforeRest : SystemCall → Type 0
IsBeforeRest (asks.StatFile file) = Unit {0}
IsBeforeRest (asks.Read file size) = Unit {0}
IsBeforeRest call = ⊥

-- The first call is the opening, and the last one reads until a read gives nothing. The bytes are all those that were read.
pub record ReadsToEnd (path bytes : List ℕ) (items : List CallItem) : Type 0 where
  pub file : ℕ
  pub calls : List CallItem
  pub rest : List ℕ
  pub parts : items
      ≡ item (asks.OpenToRead path) (Opened file)
      ∷ (calls ++ item (asks.ReadRest file) (Bytes rest) ∷ [])
  pub before : AllByRecursion (λ (i : CallItem). IsBeforeRest i.call) calls
  pub whole : bytes ≡ all_said calls ++ rest

-- a read of a whole file that answers bytes has read to the end
abbrev pub ReadsGoToEnd : Type 0
ReadsGoToEnd =
    (hint : Hint) (path bytes : List ℕ) (items : List CallItem)
    → Runs (first hint (steps.ReadAll path)) items (Bytes bytes) → AllFit items
    → ReadsToEnd path bytes items

-- ---- the calls on a file

-- how one call happens on a file while events come, those of other processes among them
abbrev pub Way : Type 1
Way = BucketFile → SystemCall → CallResult → List Event → Type 0

-- calls happen one after another
abbrev pub Made : Way → BucketFile → List CallItem → List Event → Type 0
Made Call s [] events = events ≡ []
Made Call s (i ∷ items) events =
    (now : List Event) × (later : List Event) × (events ≡ now ++ later)
    × FitsCall i.call i.result × Call s i.call i.result now × Made Call (file_after s now) items later

-- an event comes among these, and this holds of those before it
abbrev pub Comes : Event → (List Event → Type 0) → List Event → Type 0
Comes event Holds events =
    (before : List Event) × (after : List Event) × (events ≡ before ++ event ∷ after) × Holds before

-- a reader has read more by these bytes
abbrev pub HasReadMore : ℕ → BucketFile → List ℕ → List Event → Type 0
HasReadMore reader s bytes events =
    (before : List ℕ) × (s.read reader ≡ Some before)
    × ((file_after s events).read reader ≡ Some (before ++ bytes))

-- A reader's call. The read of all that is left is over when a read gives nothing.
abbrev pub ReaderCall : ℕ → Way
ReaderCall reader s (asks.OpenToRead path) said events =
    Comes (Opens reader) (λ before. (file_after s events).read reader ≡ Some []) events
ReaderCall reader s (asks.ReadRest file) said events =
    Comes (Ends reader) (HasReadMore reader s (said_by said)) events
ReaderCall reader s call said events = HasReadMore reader s (said_by said) events

-- a write of these bytes by a process is the one that has the lock
abbrev pub IsWriting : List ℕ → BucketFile → List Event → Type 0
IsWriting bytes s events =
    (w : LineWrite) × ((file_after s events).writing ≡ Some w) × (bytes_to_write w ≡ bytes)

-- a call of a process that appends
abbrev pub WriterCall : ℕ → Way
WriterCall process s (asks.OpenToAppend path) (Opened file) events =
    Comes (OpensToAppend process) (λ before. Unit {0}) events
WriterCall process s (asks.Write file bytes) (Count count) events =
    Comes (Answers process count) (IsWriting bytes s) events
WriterCall process s call said events = Unit {0}

-- a process's append of an entry's line ran while these events came, and answered the count
pub record AppendRan (process : ℕ) (entry : Entry) (count : ℕ) (s : BucketFile) (events : List Event)
    : Type 0 where
  pub hint : Hint
  pub path : List ℕ
  pub durable : Bool
  pub items : List CallItem
  pub runs : Runs (first hint (steps.Append path (closed_line durable entry))) items (Count count)
  pub made : Made (WriterCall process) s items events

-- a reader's read of the whole file ran while these events came, and answered the bytes
pub record ReadRan (reader : ℕ) (bytes : List ℕ) (s : BucketFile) (events : List Event) : Type 0 where
  pub hint : Hint
  pub path : List ℕ
  pub items : List CallItem
  pub runs : Runs (first hint (steps.ReadAll path)) items (Bytes bytes)
  pub made : Made (ReaderCall reader) s items events

-- ---- what lookups find

-- the bytes are what a reader read between an opening and a last read among these events
pub record ReadAmong (start : List ℕ) (reader : ℕ) (bytes : List ℕ) (events : List Event) : Type 0 where
  pub before : List Event
  pub during : List Event
  pub after : List Event
  pub parts : events ≡ (before ++ Opens reader ∷ during) ++ Ends reader ∷ after
  pub read : ReadOf start before during after reader
  pub same : read.bytes ≡ bytes

-- a lookup's read of its bucket has the entries of a moment between its opening and its last read
abbrev pub LookupsSeeMoments : Type 0
LookupsSeeMoments =
    (start : List ℕ) (events : List Event) (reader : ℕ) (bytes : List ℕ)
    → Happen (idle start) events → ReadRan reader bytes (idle start) events
    → ReadAmong start reader bytes events

-- bytes have an entry that was the last whole one when an append of it answered
pub record HasAppended (start : List ℕ) (events : List Event) (process count : ℕ) (entry : Entry)
    (bytes : List ℕ) : Type 0 where
  pub before : List Event
  pub after : List Event
  pub parts : events ≡ before ++ Answers process count ∷ after
  pub newer : List Entry
  pub has : HasEntry start before newer entry bytes

-- if an append answered that it took an entry's line, each lookup that begins later reads the entry
abbrev pub LookupsSeeAnswered : Type 0
LookupsSeeAnswered =
    (start : List ℕ) (writing reading : List Event) (process count reader : ℕ) (entry : Entry)
    (bytes : List ℕ)
    → Happen (idle start) (writing ++ reading) → IsEntry entry → IsWritable entry
    → length (line_of entry) ≤ count → AppendRan process entry count (idle start) writing
    → ReadRan reader bytes (file_of start writing) reading
    → HasAppended start writing process count entry bytes

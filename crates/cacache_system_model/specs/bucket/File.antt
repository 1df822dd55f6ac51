-- One bucket's file, to which many processes append and which many read, system call by system call.
use Rattle.std.specs.Prelude.{◌≡◌, ◌==◌, ℕ, Bool, if◌then◌else◌, List, [], ◌∷◌, ◌++◌, Option, None, Some, option_map, length, nat_le}
use Rattle.cacache_entry.specs.{Entry.{Entry, line_of, closed_line}, FittingEntries.{IsEntry, IsWritable}, Bucket.{entries_of}}

-- the first bytes are the beginning of the second
abbrev pub IsBeginning : List ℕ → List ℕ → Type 0
IsBeginning front bytes = (rest : List ℕ) × (bytes ≡ front ++ rest)

-- A write that isn't over: its process, whether a line feed closes its line, its entry, and the bytes that readers see.
pub record LineWrite : Type 0 where
  pub process : ℕ
  pub durable : Bool
  pub entry : Entry
  pub visible : List ℕ

-- the bytes that it is to write
abbrev pub bytes_to_write : LineWrite → List ℕ
bytes_to_write w = closed_line w.durable w.entry

-- the file: its bytes, the write that holds its lock, and what each reader that has it open has read
pub record BucketFile : Type 0 where
  pub bytes : List ℕ
  pub writing : Option LineWrite
  pub read : ℕ → Option (List ℕ)

-- a file of these bytes that nobody writes or reads
abbrev pub idle : List ℕ → BucketFile
idle bytes = record { bytes = bytes; writing = None; read = λ reader. None }

-- what may happen to the file
pub data Event : Type 0 where
  -- a process opens the file to append to it
  OpensToAppend : ℕ → Event
  -- the process's write of an entry's line gets the lock; if the flag is set, a line feed closes the line
  Starts : ℕ → Bool → Entry → Event
  -- readers see more bytes of that write
  Shows : List ℕ → Event
  -- the write is over, and answers its process how many bytes it wrote
  Answers : ℕ → ℕ → Event
  -- the write is over without such an answer: it failed, or its process was killed
  Stops : ℕ → Event
  -- a reader opens the file
  Opens : ℕ → Event
  -- a read, or a part of one, gives a reader more bytes
  Reads : ℕ → List ℕ → Event
  -- a read finds nothing more
  Ends : ℕ → Event

-- ---- what an event leaves

-- a write once readers see more of its bytes
abbrev pub with_visible : List ℕ → LineWrite → LineWrite
with_visible bytes w = record w { visible = w.visible ++ bytes }

-- the file once a reader has read these bytes, or has closed it
abbrev pub with_read : BucketFile → ℕ → Option (List ℕ) → BucketFile
with_read s reader bytes =
    record s { read = λ other. if other == reader then bytes else s.read other }

-- the file after an event
abbrev pub next : BucketFile → Event → BucketFile
next s (OpensToAppend process) = s
next s (Starts process durable entry) =
    record s { writing = Some (record { process = process; durable = durable; entry = entry; visible = [] }) }
next s (Shows bytes) =
    record s { bytes = s.bytes ++ bytes; writing = option_map (with_visible bytes) s.writing }
next s (Answers process count) = record s { writing = None }
next s (Stops process) = record s { writing = None }
next s (Opens reader) = with_read s reader (Some [])
next s (Reads reader bytes) =
    with_read s reader (option_map (λ before. before ++ bytes) (s.read reader))
next s (Ends reader) = with_read s reader None

-- the file after events
abbrev pub file_after : BucketFile → List Event → BucketFile
file_after s [] = s
file_after s (e ∷ es) = file_after (next s e) es

-- the file that began with these bytes, after events
abbrev pub file_of : List ℕ → List Event → BucketFile
file_of start events = file_after (idle start) events

-- ---- which events may happen

-- One write at a time has the lock. It shows no more than its line, and answers how much it showed. A read gives what the
-- file has after what the reader has read, and finds nothing only at the end.
abbrev pub MayHappen : BucketFile → Event → Type 0
MayHappen s (OpensToAppend process) = Unit {0}
MayHappen s (Starts process durable entry) = (s.writing ≡ None) × IsEntry entry × IsWritable entry
MayHappen s (Shows bytes) =
    (w : LineWrite) × (s.writing ≡ Some w) × IsBeginning (w.visible ++ bytes) (bytes_to_write w)
MayHappen s (Answers process count) =
    (w : LineWrite) × (s.writing ≡ Some w) × (w.process ≡ process) × (length w.visible ≡ count)
MayHappen s (Stops process) = (w : LineWrite) × (s.writing ≡ Some w) × (w.process ≡ process)
MayHappen s (Opens reader) = s.read reader ≡ None
MayHappen s (Reads reader bytes) =
    (before : List ℕ) × (s.read reader ≡ Some before) × IsBeginning (before ++ bytes) s.bytes
MayHappen s (Ends reader) = s.read reader ≡ Some s.bytes

-- each of these events may happen in its place
abbrev pub Happen : BucketFile → List Event → Type 0
Happen s [] = Unit {0}
Happen s (e ∷ es) = MayHappen s e × Happen (next s e) es

-- ---- which entries are whole

-- so many bytes of an entry's line have the entry: the line feed that may close the line isn't needed
abbrev pub held : Entry → ℕ → List Entry
held entry count = if nat_le (length (line_of entry)) count then entry ∷ [] else []

-- the entry of a write, if its line becomes whole by these bytes
abbrev pub completed_by : List ℕ → Option LineWrite → List Entry
completed_by bytes None = []
completed_by bytes (Some w) =
    if nat_le (length (line_of w.entry)) (length w.visible) then []
    else held w.entry (length (w.visible ++ bytes))

-- the entry whose line becomes whole by an event, if there is one
abbrev pub completed : BucketFile → Event → List Entry
completed s (Shows bytes) = completed_by bytes s.writing
completed s other = []

-- those whose lines become whole by events, in this order
abbrev pub all_completed : BucketFile → List Event → List Entry
all_completed s [] = []
all_completed s (e ∷ es) = completed s e ++ all_completed (next s e) es

-- the whole entries of a file that began with these bytes, after events: those of the bytes, and then those whose lines
-- became whole, in this order
abbrev pub whole_entries : List ℕ → List Event → List Entry
whole_entries start events = entries_of start ++ all_completed (idle start) events

-- The name of a bucket: its file may be removed and made anew while others have the old one open.
use Rattle.std.specs.Prelude.{◌≡◌, ◌<◌, ◌≤◌, ◌==◌, ℕ, suc, if◌then◌else◌, List, [], ◌∷◌, ◌++◌, Option, None, Some, length}
use Rattle.cacache_entry.specs.Entry.{Entry, line_of}
use Rattle.cacache_system_model.specs.bucket.{File.{LineWrite, BucketFile, Event, OpensToAppend, Answers, Opens, Ends, idle, next, file_of, MayHappen, all_completed}, Moments.{ReadOf, HasEntry, answer_to_end}}

-- the number of the file that the name leads to, the file of each number, and how many there were
pub record BucketName : Type 0 where
  pub file : Option ℕ
  pub files : ℕ → BucketFile
  pub made : ℕ

-- the bytes with which the file of a number begins: the first has these, the others none
abbrev pub first_bytes : List ℕ → ℕ → List ℕ
first_bytes start number = if number == 0 then start else []

-- the name leads to a file of these bytes
abbrev pub named : List ℕ → BucketName
named start =
    record { file = Some 0; files = λ number. idle (first_bytes start number); made = 1 }

-- what may happen to the name or to one of its files
pub data NameEvent : Type 0 where
  -- an opening to append makes a new file
  Makes : ℕ → NameEvent
  -- the name is removed; who has its file open still reads or writes it
  Removes : NameEvent
  -- an event of the file of this number
  At : ℕ → Event → NameEvent

-- the name after an event
abbrev pub next_name : BucketName → NameEvent → BucketName
next_name s (Makes number) = record s { file = Some number; made = suc s.made }
next_name s Removes = record s { file = None }
next_name s (At number e) =
    record s { files = λ other. if other == number then next (s.files other) e else s.files other }

-- the name after events
abbrev pub name_after : BucketName → List NameEvent → BucketName
name_after s [] = s
name_after s (e ∷ es) = name_after (next_name s e) es

-- an opening opens the file that the name leads to
abbrev pub OpensNamed : Option ℕ → ℕ → Event → Type 0
OpensNamed file number (OpensToAppend process) = file ≡ Some number
OpensNamed file number (Opens reader) = file ≡ Some number
OpensNamed file number other = Unit {0}

-- a file is made only if the name leads to none, and is a new one
abbrev pub MayHappenNamed : BucketName → NameEvent → Type 0
MayHappenNamed s (Makes number) = (s.file ≡ None) × (number ≡ s.made)
MayHappenNamed s Removes = (number : ℕ) × (s.file ≡ Some number)
MayHappenNamed s (At number e) =
    (number < s.made) × OpensNamed s.file number e × MayHappen (s.files number) e

-- each of these events may happen in its place
abbrev pub HappenNamed : BucketName → List NameEvent → Type 0
HappenNamed s [] = Unit {0}
HappenNamed s (e ∷ es) = MayHappenNamed s e × HappenNamed (next_name s e) es

-- the events of a file with one more, if that is of this file
abbrev pub of_file : ℕ → NameEvent → List Event → List Event
of_file number (At other e) es = if number == other then e ∷ es else es
of_file number event es = es

-- the events of the file of this number
abbrev pub events_of : ℕ → List NameEvent → List Event
events_of number [] = []
events_of number (e ∷ es) = of_file number e (events_of number es)

-- none of these events removes the name
abbrev pub NoneRemoves : List NameEvent → Type 0
NoneRemoves [] = Unit {0}
NoneRemoves (Removes ∷ es) = ⊥
NoneRemoves (e ∷ es) = NoneRemoves es

-- ---- laws

-- A reader reads the whole entries that the file which it opened has at a moment between its opening and its last read,
-- whatever became of the name.
abbrev pub NamedReadsAreMoments : Type 0
NamedReadsAreMoments =
    (start : List ℕ) (before during after : List NameEvent) (number reader : ℕ)
    → HappenNamed (named start)
    ((before ++ At number (Opens reader) ∷ during) ++ At number (Ends reader) ∷ after)
    → ReadOf (first_bytes start number) (events_of number before) (events_of number during)
    (events_of number after) reader

-- the events up to a write's answer, with its process's opening among them
abbrev pub to_answer : ℕ → ℕ → List NameEvent → List NameEvent → List NameEvent
to_answer number process early writing = early ++ At number (OpensToAppend process) ∷ writing

-- the events from its answer to the last read of a reader of some file
abbrev pub named_to_end : ℕ → ℕ → ℕ → List NameEvent → ℕ → ℕ → List NameEvent → List NameEvent
named_to_end number process count middle other reader during =
    At number (Answers process count) ∷ (middle ++ At other (Opens reader) ∷ during)

-- a reader opened the file that the write went to, and read its entry
pub record ReadsNamed (start : List ℕ) (first middle during : List NameEvent)
    (number process count other reader : ℕ) (entry : Entry) (bytes : List ℕ) : Type 0 where
  pub same : other ≡ number
  pub has : HasEntry (first_bytes start number) (events_of number first)
      (all_completed (file_of (first_bytes start number) (events_of number first))
      (answer_to_end process count (events_of number middle) reader (events_of number during)))
      entry bytes

-- If nobody removes the name from an append's opening on, who opens the name after the append answered reads its entry.
abbrev pub NamedAnsweredAreRead : Type 0
NamedAnsweredAreRead =
    (start : List ℕ) (early writing middle during after : List NameEvent)
    (number process count other reader : ℕ) (w : LineWrite) (bytes : List ℕ)
    → HappenNamed (named start)
    ((to_answer number process early writing
    ++ named_to_end number process count middle other reader during)
    ++ At other (Ends reader) ∷ after)
    → NoneRemoves writing → NoneRemoves middle
    → ((name_after (named start) (to_answer number process early writing)).files number).writing
    ≡ Some w
    → length (line_of w.entry) ≤ count
    → ((name_after (named start)
    (to_answer number process early writing
    ++ named_to_end number process count middle other reader during)).files other).read reader
    ≡ Some bytes
    → ReadsNamed start (to_answer number process early writing) middle during number process count other
    reader w.entry bytes

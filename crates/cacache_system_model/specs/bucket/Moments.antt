-- What readers of a bucket's file read while others append to it.
use Rattle.std.specs.Prelude.{◌≡◌, ◌≤◌, ◌⊎◌, ℕ, List, [], ◌∷◌, ◌++◌, Option, Some, length, fold}
use Rattle.cacache_entry.specs.{Entry.{Entry, line_of}, Bucket.{entries_of, Found, answer_to, after_entry, latest, NoneAnswers}}
use Rattle.cacache_value.specs.ValueLaws.{IsLonger}
use Rattle.cacache_system_model.specs.bucket.File.{IsBeginning, LineWrite, Event, Starts, Answers, Opens, Ends, idle, file_of, Happen, all_completed, whole_entries}

-- ---- at each moment

-- the file's entries are the whole ones, whatever part of a line is between them or at the end
abbrev pub EntriesAreWhole : Type 0
EntriesAreWhole =
    (start : List ℕ) (events : List Event) → Happen (idle start) events
    → entries_of (file_of start events).bytes ≡ whole_entries start events

-- the first entries are some of the second, in their order, and none twice
abbrev pub AreSomeOf : List Entry → List Entry → Type 0
AreSomeOf [] es = Unit {0}
AreSomeOf (e ∷ some) [] = ⊥
AreSomeOf (e ∷ some) (f ∷ es) = ((e ≡ f) × AreSomeOf some es) ⊎ AreSomeOf (e ∷ some) es

-- the entries with the one whose write an event starts
abbrev pub started_by : Event → List Entry → List Entry
started_by (Starts process durable entry) es = entry ∷ es
started_by other es = es

-- the entries of the writes that got the lock, in their order
abbrev pub started : List Event → List Entry
started [] = []
started (e ∷ es) = started_by e (started es)

-- each entry that becomes whole is one of these, so none is made up, comes twice or out of order
abbrev pub CompletedWereStarted : Type 0
CompletedWereStarted =
    (start : List ℕ) (events : List Event) → Happen (idle start) events
    → AreSomeOf (all_completed (idle start) events) (started events)

-- what a reader has read so far is the beginning of the file
abbrev pub ReadBegins : Type 0
ReadBegins =
    (start : List ℕ) (events : List Event) (reader : ℕ) (bytes : List ℕ)
    → Happen (idle start) events → (file_of start events).read reader ≡ Some bytes
    → IsBeginning bytes (file_of start events).bytes

-- ---- reads

-- what a reader read that opened the file after `before`, and found nothing more after `during`
pub record ReadOf (start : List ℕ) (before during after : List Event) (reader : ℕ) : Type 0 where
  pub bytes : List ℕ
  pub read : (file_of start (before ++ Opens reader ∷ during)).read reader ≡ Some bytes
  -- it is the file at the last read
  pub whole : bytes ≡ (file_of start (before ++ Opens reader ∷ during)).bytes
  -- its entries are those that are whole at the last read
  pub entries : entries_of bytes ≡ whole_entries start (before ++ Opens reader ∷ during)
  -- they begin with those that were whole when it opened the file
  pub since : IsLonger (whole_entries start before) (entries_of bytes)
  -- and the final ones begin with them
  pub until : IsLonger (entries_of bytes)
      (whole_entries start ((before ++ Opens reader ∷ during) ++ Ends reader ∷ after))

-- each reader reads the whole entries of a moment between its opening and its last read
abbrev pub ReadsAreMoments : Type 0
ReadsAreMoments =
    (start : List ℕ) (before during after : List Event) (reader : ℕ)
    → Happen (idle start) ((before ++ Opens reader ∷ during) ++ Ends reader ∷ after)
    → ReadOf start before during after reader

-- a moment among events, at which the whole entries are those of these bytes
pub record MomentWithin (start : List ℕ) (before during : List Event) (bytes : List ℕ) : Type 0 where
  pub first : List Event
  pub last : List Event
  pub parts : during ≡ first ++ last
  pub entries : entries_of bytes ≡ whole_entries start (before ++ first)

-- so does a reader that stops anywhere, but not before what was there when it opened the file
abbrev pub BeginningsAreMoments : Type 0
BeginningsAreMoments =
    (start : List ℕ) (before during : List Event) (bytes : List ℕ)
    → Happen (idle start) (before ++ during)
    → IsBeginning bytes (file_of start (before ++ during)).bytes
    → length (file_of start before).bytes ≤ length bytes
    → MomentWithin start before during bytes

-- who opens the file after another one's last read reads all that the other one did, and maybe more
abbrev pub LaterReadsHaveMore : Type 0
LaterReadsHaveMore =
    (start : List ℕ) (first between during after : List Event) (earlier later : ℕ)
    (old new : List ℕ)
    → Happen (idle start)
    (((first ++ Ends earlier ∷ between) ++ Opens later ∷ during) ++ Ends later ∷ after)
    → (file_of start first).read earlier ≡ Some old
    → (file_of start ((first ++ Ends earlier ∷ between) ++ Opens later ∷ during)).read later
    ≡ Some new
    → IsLonger (entries_of old) (entries_of new)

-- ---- writes that answered

-- the events from a write's answer to a reader's last read
abbrev pub answer_to_end : ℕ → ℕ → List Event → ℕ → List Event → List Event
answer_to_end process count middle reader during =
    Answers process count ∷ middle ++ Opens reader ∷ during

-- bytes have an entry that was the last whole one after `first`, and these newer ones
pub record HasEntry (start : List ℕ) (first : List Event) (newer : List Entry) (entry : Entry)
    (bytes : List ℕ) : Type 0 where
  pub older : List Entry
  pub whole : whole_entries start first ≡ older ++ entry ∷ []
  pub entries : entries_of bytes ≡ older ++ entry ∷ newer
  -- a lookup of its key finds it, or what a newer one answers
  pub finds : (key : List ℕ) (found : Option Found) → answer_to key entry ≡ Some found
      → latest key (entries_of bytes) ≡ fold (after_entry key) found newer
  -- it finds that entry, if no newer one answers
  pub last : (key : List ℕ) (found : Option Found) → answer_to key entry ≡ Some found
      → NoneAnswers key newer → latest key (entries_of bytes) ≡ found

-- if a write answered that it wrote an entry's line, who opens the file later reads the entry; the line feed that may
-- close the line can be missing
abbrev pub AnsweredAreRead : Type 0
AnsweredAreRead =
    (start : List ℕ) (first middle during after : List Event) (process count reader : ℕ)
    (w : LineWrite) (bytes : List ℕ)
    → Happen (idle start)
    ((first ++ answer_to_end process count middle reader during) ++ Ends reader ∷ after)
    → (file_of start first).writing ≡ Some w → length (line_of w.entry) ≤ count
    → (file_of start (first ++ answer_to_end process count middle reader during)).read reader
    ≡ Some bytes
    → HasEntry start first
    (all_completed (file_of start first) (answer_to_end process count middle reader during))
    w.entry bytes

-- What a run of a read of a bucket's file has read, and what a run of an append has left for it.
use Rattle.std.proofs.{Common.{◌≡◌, ◌≤◌, length, length-append, ℕ, Bool, arith, List, [], ◌∷◌, ◌++◌, Some, refl, sym, ap, subst, ◌∙◌, append-nil, append_assoc}, lemmas.List.{take_all}}
use Rattle.std.specs.List.{AllByRecursion}
use Rattle.cacache_system.specs.{declared.call.{SystemCall.{SystemCall}, CallItem.{CallItem}, CallResult.{CallResult, TheVariants.{Count, Bytes}}}, Seen.{item}}
use Rattle.cacache_system.specs.declared.call.SystemCall.TheVariants as asks
use Rattle.cacache_entry.specs.{Entry.{Entry, line_of, closing, closed_line}, FittingEntries.{IsEntry, IsWritable}, Bucket.{entries_of}}
use Rattle.cacache_value.proofs.MadeFolders.{whole_closed}
use Rattle.cacache_system_model.specs.bucket.{File.{LineWrite, BucketFile, Event, Answers, Opens, Ends, bytes_to_write, idle, file_after, Happen, all_completed}, Moments.{HasEntry, answer_to_end}, Calls.{AllFit, said_by, all_said, IsBeforeRest, ReadsToEnd, WritesOnce, Way, Made, ReaderCall, WriterCall, HasReadMore, AppendRan, ReadRan, HasAppended, LookupsSeeMoments, LookupsSeeAnswered}}
use Rattle.cacache_system_model.proofs.bucket.{Places.{IsPart, idle_sound, part_of, file_after-append, happen-append, sound_after}, Moments.{same_some, reads_are_moments, answered_are_read}, Runs.{appends_write_once, reads_go_to_end}}

-- ---- calls on a file

made_fit : (Call : Way) (s : BucketFile) (items : List CallItem) (events : List Event) → Made Call s items events → AllFit items
made_fit Call s [] events made = tt
made_fit Call s (i ∷ items) events made = (made.3, made_fit Call (file_after s made.0) items made.1 made.5)

-- the last call of some, after the events of those before it
made_last : (Call : Way) (s : BucketFile) (calls : List CallItem) (i : CallItem) (events : List Event) → Made Call s (calls ++ i ∷ []) events
    → (now : List Event) × (later : List Event) × (events ≡ now ++ later) × Made Call s calls now × Call (file_after s now) i.call i.result later
made_last Call s [] i events made =
    let all : made.0 ≡ events = sym (made.2 ∙ ap (λ l. made.0 ++ l) made.5 ∙ append-nil made.0) in
    ([], events, refl, refl, subst (Call s i.call i.result) all made.4)
made_last Call s (c ∷ calls) i events made =
    let now = made.0 in
    let more = made_last Call (file_after s now) calls i made.1 made.5 in (
      now ++ more.0,
      more.1,
      made.2 ∙ ap (λ l. now ++ l) more.2 ∙ sym (append_assoc now more.0 more.1),
      (now, more.0, refl, made.3, made.4, more.3),
      subst (λ t. Call t i.call i.result more.1) (sym (file_after-append s now more.0)) more.4,
    )

-- ---- reads

before_rest : (reader : ℕ) (call : SystemCall) (said : CallResult) (s : BucketFile) (events : List Event) → IsBeforeRest call → ReaderCall reader s call said events → HasReadMore reader s (said_by said) events
before_rest reader (asks.StatFile file) said s events is made = made
before_rest reader (asks.Read file size) said s events is made = made
before_rest reader call said s events is made = absurd is

-- calls between an opening and the last read have read what they say
calls_read : (reader : ℕ) (calls : List CallItem) (s : BucketFile) (events : List Event) (before : List ℕ) → AllByRecursion (λ (i : CallItem). IsBeforeRest i.call) calls
    → Made (ReaderCall reader) s calls events → s.read reader ≡ Some before → (file_after s events).read reader ≡ Some (before ++ all_said calls)
calls_read reader [] s events before are made is = ap (λ l. (file_after s l).read reader) made ∙ is ∙ ap Some (sym (append-nil before))
calls_read reader (i ∷ calls) s events before are made is =
    let now = made.0 in
    let more = before_rest reader i.call i.result s now are.0 made.4 in
    let bytes = said_by i.result in
    let same : more.0 ≡ before = same_some (s.read reader) before more.0 is more.1 in
    ap (λ l. (file_after s l).read reader) made.2 ∙ ap (λ (t : BucketFile). t.read reader) (file_after-append s now made.1)
    ∙ calls_read reader calls (file_after s now) made.1 (before ++ bytes) are.1 made.5 (more.2 ∙ ap (λ b. Some (b ++ bytes)) same)
    ∙ ap Some (append_assoc before bytes (all_said calls))

-- a reader opened the file among these events, and read these bytes up to its end
record Ran (reader : ℕ) (bytes : List ℕ) (s : BucketFile) (events : List Event) : Type 0 where
  before : List Event
  during : List Event
  after : List Event
  parts : events ≡ (before ++ Opens reader ∷ during) ++ Ends reader ∷ after
  read : (file_after s (before ++ Opens reader ∷ during)).read reader ≡ Some bytes

regroup : (b a n l : List Event) (x : Event) → (b ++ x ∷ a) ++ (n ++ l) ≡ (b ++ x ∷ (a ++ n)) ++ l
regroup b a n l x = sym (append_assoc (b ++ x ∷ a) n l) ∙ ap (λ m. m ++ l) (append_assoc b (x ∷ a) n)

ran_to_end : (reader : ℕ) (path bytes : List ℕ) (s : BucketFile) (items : List CallItem) (events : List Event) → ReadsToEnd path bytes items → Made (ReaderCall reader) s items events
    → Ran reader bytes s events
ran_to_end reader path bytes s items events ends calls_made =
    let Call = ReaderCall reader in
    let made = subst (λ l. Made Call s l events) ends.parts calls_made in
    let now = made.0 in
    let opens = made.4 in
    let rest = made_last Call (file_after s now) ends.calls (item (asks.ReadRest ends.file) (Bytes ends.rest)) made.1 made.5 in
    let had : (file_after (file_after s now) rest.0).read reader ≡ Some (all_said ends.calls) = calls_read reader ends.calls (file_after s now) rest.0 [] ends.before rest.3 opens.3 in
    let last = rest.4 in
    let more = last.3 in
    let first = rest.0 ++ last.0 in
    let same : more.0 ≡ all_said ends.calls = same_some _ (all_said ends.calls) more.0 had more.1 in
    record {
      before = opens.0;
      during = opens.1 ++ first;
      after = last.1;
      parts =
          made.2 ∙ ap (λ l. l ++ made.1) opens.2 ∙ ap (λ l. (opens.0 ++ Opens reader ∷ opens.1) ++ l) (rest.2 ∙ ap (λ l. rest.0 ++ l) last.2 ∙ sym (append_assoc rest.0 last.0 (Ends reader ∷ last.1)))
          ∙ regroup opens.0 opens.1 first (Ends reader ∷ last.1) (Opens reader);
      read =
          ap (λ l. (file_after s l).read reader) (sym (append_assoc opens.0 (Opens reader ∷ opens.1) first) ∙ ap (λ l. l ++ first) (sym opens.2))
          ∙ ap (λ (t : BucketFile). t.read reader) (file_after-append s now first ∙ file_after-append (file_after s now) rest.0 last.0)
          ∙ more.2 ∙ ap (λ b. Some (b ++ ends.rest)) same ∙ ap Some (sym ends.whole);
    }

ran_of : (reader : ℕ) (bytes : List ℕ) (s : BucketFile) (events : List Event) → ReadRan reader bytes s events → Ran reader bytes s events
ran_of reader bytes s events ran =
    ran_to_end reader ran.path bytes s ran.items events (reads_go_to_end ran.hint ran.path bytes ran.items ran.runs (made_fit (ReaderCall reader) s ran.items events ran.made)) ran.made

pub lookups_see_moments : LookupsSeeMoments
lookups_see_moments start events reader bytes happen ran =
    let at = ran_of reader bytes (idle start) events ran in
    let read = reads_are_moments start at.before at.during at.after reader (subst (Happen (idle start)) at.parts happen) in
    record { before = at.before; during = at.during; after = at.after; parts = at.parts; read = read; same = same_some _ bytes read.bytes at.read read.read }

-- ---- appends

-- a whole line has its entry alone
pub entry_alone : (durable : Bool) (e : Entry) → IsEntry e → IsWritable e → entries_of (closed_line durable e) ≡ e ∷ []
entry_alone durable e formed fits =
    let line = closed_line durable e in
    ap entries_of (sym (take_all (length line) line (omega arith))) ∙ whole_closed durable e (length line) formed fits (omega (arith, length-append (line_of e) (closing durable)))

-- a write of an entry's line is the entry's
same_entry : (s : BucketFile) (w : LineWrite) (durable : Bool) (e : Entry) → IsPart s.bytes w → IsEntry e → IsWritable e → bytes_to_write w ≡ closed_line durable e → w.entry ≡ e
same_entry s w durable e part formed fits line =
    let both : w.entry ∷ [] ≡ e ∷ [] = sym (entry_alone w.durable w.entry part.entry part.fits) ∙ ap entries_of line ∙ entry_alone durable e formed fits in
    cc

-- a write of these bytes answered the count among these events
record Wrote (process count : ℕ) (bytes : List ℕ) (s : BucketFile) (events : List Event) : Type 0 where
  before : List Event
  after : List Event
  parts : events ≡ before ++ Answers process count ∷ after
  write : LineWrite
  is : (file_after s before).writing ≡ Some write
  line : bytes_to_write write ≡ bytes

wrote_once : (process count : ℕ) (line : List ℕ) (s : BucketFile) (items : List CallItem) (events : List Event) → WritesOnce line count items → Made (WriterCall process) s items events
    → Wrote process count line s events
wrote_once process count line s items events once calls_made =
    let Call = WriterCall process in
    let last = made_last Call s once.calls (item (asks.Write once.file line) (Count count)) events (subst (λ l. Made Call s l events) once.parts calls_made) in
    let answers = last.4 in
    record {
      before = last.0 ++ answers.0;
      after = answers.1;
      parts = last.2 ∙ ap (λ l. last.0 ++ l) answers.2 ∙ sym (append_assoc last.0 answers.0 (Answers process count ∷ answers.1));
      write = answers.3.0;
      is = ap (λ (t : BucketFile). t.writing) (file_after-append s last.0 answers.0) ∙ answers.3.1;
      line = answers.3.2;
    }

wrote_of : (process count : ℕ) (entry : Entry) (s : BucketFile) (events : List Event) (ran : AppendRan process entry count s events) → Wrote process count (closed_line ran.durable entry) s events
wrote_of process count entry s events ran =
    let line = closed_line ran.durable entry in
    wrote_once process count line s ran.items events (appends_write_once ran.hint ran.path line count ran.items ran.runs (made_fit (WriterCall process) s ran.items events ran.made)) ran.made

-- events up to an answer, and then those of a read
answer_first : (before after reading during l : List Event) (process count reader : ℕ)
    → (before ++ Answers process count ∷ after) ++ ((reading ++ Opens reader ∷ during) ++ l) ≡ (before ++ answer_to_end process count (after ++ reading) reader during) ++ l
answer_first before after reading during l process count reader =
    regroup before after (reading ++ Opens reader ∷ during) l (Answers process count)
    ∙ ap (λ k. (before ++ Answers process count ∷ k) ++ l) (sym (append_assoc after reading (Opens reader ∷ during)))

read_later : (start : List ℕ) (process count reader : ℕ) (entry : Entry) (line bytes : List ℕ) (writing reading : List Event)
    → Happen (idle start) (writing ++ reading) → length (line_of entry) ≤ count → (wrote : Wrote process count line (idle start) writing) → wrote.write.entry ≡ entry
    → Ran reader bytes (file_after (idle start) writing) reading → HasAppended start writing process count entry bytes
read_later start process count reader entry line bytes writing reading happen long wrote is ran =
    let s = idle start in
    let read = ran.before ++ Opens reader ∷ ran.during in
    let middle = wrote.after ++ ran.before in
    let to_end = answer_to_end process count middle reader ran.during in
    let up_to : writing ++ read ≡ wrote.before ++ to_end =
    ap (λ k. k ++ read) wrote.parts ∙ ap (λ l. (wrote.before ++ Answers process count ∷ wrote.after) ++ l) (sym (append-nil read))
    ∙ answer_first wrote.before wrote.after ran.before ran.during [] process count reader ∙ append-nil (wrote.before ++ to_end) in
    let all : writing ++ reading ≡ (wrote.before ++ to_end) ++ Ends reader ∷ ran.after =
    ap (λ l. writing ++ l) ran.parts ∙ ap (λ k. k ++ (read ++ Ends reader ∷ ran.after)) wrote.parts
    ∙ answer_first wrote.before wrote.after ran.before ran.during (Ends reader ∷ ran.after) process count reader in
    let newer = all_completed (file_after s wrote.before) to_end in
    let has =
    answered_are_read start wrote.before middle ran.during ran.after process count reader wrote.write bytes (subst (Happen s) all happen) wrote.is
    (subst (λ (e : Entry). length (line_of e) ≤ count) (sym is) long)
    (ap (λ l. (file_after s l).read reader) (sym up_to) ∙ ap (λ (t : BucketFile). t.read reader) (file_after-append s writing read) ∙ ran.read) in
    record { before = wrote.before; after = wrote.after; parts = wrote.parts; newer = newer; has = subst (λ e. HasEntry start wrote.before newer e bytes) is has }

pub lookups_see_answered : LookupsSeeAnswered
lookups_see_answered start writing reading process count reader entry bytes happen formed fits long appended ran =
    let s = idle start in
    let wrote = wrote_of process count entry s writing appended in
    let first = happen-append s writing reading happen in
    let before = happen-append s wrote.before (Answers process count ∷ wrote.after) (subst (Happen s) wrote.parts first.0) in
    let part = part_of (file_after s wrote.before) wrote.write wrote.is (sound_after s wrote.before before.0 (idle_sound start)) in
    read_later start process count reader entry (closed_line appended.durable entry) bytes writing reading happen long wrote
    (same_entry (file_after s wrote.before) wrote.write appended.durable entry part formed fits wrote.line)
    (ran_of reader bytes (file_after s writing) reading ran)

-- What readers of a bucket's file read.
use Rattle.std.proofs.{Common.{◌≡◌, ◌≤◌, ◌⊎◌, inl, inr, length, ℕ, Bool, true, false, nat_le, arith, List, [], ◌∷◌, ◌++◌, Option, None, Some, IfSome, fold, refl, sym, ap, subst, ◌∙◌, append-nil, append_assoc}, lemmas.{List.Sums.{fold-append}, Bool.{leb-true, leb-false}}}
use Rattle.std.specs.Prelude.{unwrap_or}
use Rattle.cacache_entry.{specs.Bucket.{entries_of, after_entry, latest}, proofs.Lookups.{last_answer_decides}}
use Rattle.cacache_system_model.specs.bucket.{File.{IsBeginning, LineWrite, BucketFile, Event, Opens, Ends, idle, next, file_after, Happen, completed, all_completed, whole_entries}, Moments.{EntriesAreWhole, ReadBegins, ReadsAreMoments, BeginningsAreMoments, LaterReadsHaveMore, answer_to_end, AnsweredAreRead}}
use Rattle.cacache_system_model.proofs.bucket.{Parts.{begins_all, begins_shorter, held_all, part_adds}, Places.{Sound, idle_sound, part_of, read_of, next_sound, next_entries, between, file_after-append, happen-append, all_completed-append, sound_after, entries_after, longer_after}}

pub entries_are_whole : EntriesAreWhole
entries_are_whole start events happen = entries_after (idle start) events happen (idle_sound start)

pub read_begins : ReadBegins
read_begins start events reader bytes happen is = read_of (file_after (idle start) events) reader bytes is (sound_after (idle start) events happen (idle_sound start))

pub same_some : {A : Type 0} (o : Option A) (a b : A) → o ≡ Some a → o ≡ Some b → b ≡ a
same_some o a b is other = subst (λ p. IfSome p (λ c. c ≡ a)) other (subst (λ p. IfSome p (λ c. c ≡ a)) (sym is) refl)

-- ---- reads

-- a reader that found nothing more has read the file
pub record AtEnd (start : List ℕ) (events : List Event) (reader : ℕ) : Type 0 where
  pub happen : Happen (idle start) events
  pub read : (file_after (idle start) events).read reader ≡ Some (file_after (idle start) events).bytes
  pub entries : entries_of (file_after (idle start) events).bytes ≡ whole_entries start events

pub at_end : (start : List ℕ) (events after : List Event) (reader : ℕ) → Happen (idle start) (events ++ Ends reader ∷ after) → AtEnd start events reader
at_end start events after reader happen =
    let parts = happen-append (idle start) events (Ends reader ∷ after) happen in
    record { happen = parts.0; read = parts.1.0; entries = entries_are_whole start events parts.0 }

-- the whole entries after more events
pub whole-append : (start : List ℕ) (xs ys : List Event) → whole_entries start (xs ++ ys) ≡ whole_entries start xs ++ all_completed (file_after (idle start) xs) ys
whole-append start xs ys =
    ap (λ es. entries_of start ++ es) (all_completed-append (idle start) xs ys)
    ∙ sym (append_assoc (entries_of start) (all_completed (idle start) xs) (all_completed (file_after (idle start) xs) ys))

pub reads_are_moments : ReadsAreMoments
reads_are_moments start before during after reader happen =
    let events = before ++ Opens reader ∷ during in
    let end = at_end start events after reader happen in
    let newest = all_completed (file_after (idle start) events) (Ends reader ∷ after) in
    record {
      bytes = (file_after (idle start) events).bytes;
      read = end.read;
      whole = refl;
      entries = end.entries;
      since = (all_completed (file_after (idle start) before) (Opens reader ∷ during), end.entries ∙ whole-append start before (Opens reader ∷ during));
      until = (newest, whole-append start events (Ends reader ∷ after) ∙ ap (λ es. es ++ newest) (sym end.entries));
    }

pub later_reads_have_more : LaterReadsHaveMore
later_reads_have_more start first between during after earlier later old new happen is is' =
    let s = idle start in
    let before = first ++ Ends earlier ∷ between in
    let events = before ++ Opens later ∷ during in
    let end = at_end start events after later happen in
    let early = at_end start first between earlier (happen-append s before (Opens later ∷ during) end.happen).0 in
    let old_is : entries_of old ≡ whole_entries start first = ap entries_of (same_some _ _ old early.read is) ∙ early.entries in
    let new_is : entries_of new ≡ whole_entries start events = ap entries_of (same_some _ _ new end.read is') ∙ end.entries in
    let middle = all_completed (file_after s first) (Ends earlier ∷ between) in
    let newest = all_completed (file_after s before) (Opens later ∷ during) in (
      middle ++ newest,
      new_is ∙ whole-append start before (Opens later ∷ during) ∙ ap (λ es. es ++ newest) (whole-append start first (Ends earlier ∷ between))
          ∙ append_assoc (whole_entries start first) middle newest ∙ ap (λ es. es ++ (middle ++ newest)) (sym old_is),
    )

-- ---- reads that stop anywhere

record Within (s : BucketFile) (during : List Event) (bytes : List ℕ) : Type 0 where
  first : List Event
  last : List Event
  parts : during ≡ first ++ last
  entries : entries_of bytes ≡ entries_of s.bytes ++ all_completed s first

stopped_within : (s : BucketFile) (e : Event) (es : List Event) (bytes : List ℕ) → (entries_of bytes ≡ entries_of s.bytes) ⊎ (entries_of bytes ≡ entries_of s.bytes ++ completed s e) → Within s (e ∷ es) bytes
stopped_within s e es bytes (inl is) = record { first = []; last = e ∷ es; parts = refl; entries = is ∙ sym (append-nil (entries_of s.bytes)) }
stopped_within s e es bytes (inr is) = record { first = e ∷ []; last = es; parts = refl; entries = is ∙ ap (λ l. entries_of s.bytes ++ l) (sym (append-nil (completed s e))) }

within : (s : BucketFile) (during : List Event) (bytes : List ℕ) → Happen s during → Sound s → IsBeginning bytes (file_after s during).bytes → length s.bytes ≤ length bytes → Within s during bytes
within s [] bytes happen sound h long = record {
  first = [];
  last = [];
  parts = refl;
  entries = ap entries_of (begins_all bytes s.bytes h long) ∙ sym (append-nil (entries_of s.bytes));
}
within s (e ∷ es) bytes happen sound h long = by (within (next s e) es bytes happen.1 (next_sound s e happen.0 sound) h) (nat_le (length (next s e).bytes) (length bytes)) refl
  where
    by : (length (next s e).bytes ≤ length bytes → Within (next s e) es bytes) → (b : Bool) → nat_le (length (next s e).bytes) (length bytes) ≡ b → Within s (e ∷ es) bytes
    by later true is =
        let more = later (leb-true (length (next s e).bytes) (length bytes) is) in
        record {
          first = e ∷ more.first;
          last = more.last;
          parts = ap (λ l. e ∷ l) more.parts;
          entries =
              more.entries ∙ ap (λ l. l ++ all_completed (next s e) more.first) (next_entries s e happen.0 sound)
              ∙ append_assoc (entries_of s.bytes) (completed s e) (all_completed (next s e) more.first);
        }
    by later false is =
        let fewer : length bytes ≤ length (next s e).bytes = omega (arith, leb-false (length (next s e).bytes) (length bytes) is) in
        stopped_within s e es bytes
        (between s e bytes happen.0 sound (begins_shorter bytes (next s e).bytes (file_after (next s e) es).bytes h (longer_after (next s e) es) fewer) long)

pub beginnings_are_moments : BeginningsAreMoments
beginnings_are_moments start before during bytes happen h long =
    let parts = happen-append (idle start) before during happen in
    let at = file_after (idle start) before in
    let more = within at during bytes parts.1 (sound_after (idle start) before parts.0 (idle_sound start))
    (subst (λ (s : BucketFile). IsBeginning bytes s.bytes) (file_after-append (idle start) before during) h) long in
    record {
      first = more.first;
      last = more.last;
      parts = more.parts;
      entries = more.entries ∙ ap (λ es. es ++ all_completed at more.first) (entries_are_whole start before parts.0) ∙ sym (whole-append start before more.first);
    }

-- ---- writes that answered

pub answered_are_read : AnsweredAreRead
answered_are_read start first middle during after process count reader w bytes happen is long read =
    let rest = answer_to_end process count middle reader during in
    let s = file_after (idle start) first in
    let newer = all_completed s rest in
    let end = at_end start (first ++ rest) after reader happen in
    let parts = happen-append (idle start) first rest end.happen in
    let can = parts.1.0 in
    let part = part_of s w is (sound_after (idle start) first parts.0 (idle_sound start)) in
    let visible : length w.visible ≡ count = ap (λ (v : LineWrite). length v.visible) (sym (same_some s.writing w can.0 is can.1)) ∙ can.3 in
    let whole : whole_entries start first ≡ entries_of part.base ++ w.entry ∷ [] =
    sym (entries_are_whole start first parts.0) ∙ ap entries_of part.is ∙ part_adds part.base w.visible w.durable w.entry part.entry part.fits part.begins
    ∙ ap (λ es. entries_of part.base ++ es) (held_all w.entry (length w.visible) (omega (arith, long, visible))) in
    let entries : entries_of bytes ≡ entries_of part.base ++ w.entry ∷ newer =
    ap entries_of (same_some _ _ bytes end.read read) ∙ end.entries ∙ whole-append start first rest ∙ ap (λ es. es ++ newer) whole
    ∙ append_assoc (entries_of part.base) (w.entry ∷ []) newer in
    record {
      older = entries_of part.base;
      whole = whole;
      entries = entries;
      finds = λ key found answers.
          ap (latest key) entries ∙ fold-append (after_entry key) None (entries_of part.base) (w.entry ∷ newer)
          ∙ ap (λ o. fold (after_entry key) (unwrap_or o (latest key (entries_of part.base))) newer) answers;
      last = λ key found answers none. ap (latest key) entries ∙ last_answer_decides key (entries_of part.base) newer w.entry found answers none;
    }

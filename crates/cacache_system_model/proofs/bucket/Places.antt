-- At each place among events the file's entries are the whole ones, and each of these was started.
use Rattle.std.proofs.{Common.{◌≡◌, ◌≤◌, ◌==◌, ◌⊎◌, inl, inr, length, length-append, ℕ, Bool, true, false, if◌then◌else◌, arith, List, [], ◌∷◌, ◌++◌, Option, None, Some, IfSome, option_map, refl, sym, ap, subst, ◌∙◌, append-nil, append_assoc, ⊎_elim, nat_le}, lemmas.Bool.{leb-true, le-leb, lt-leb}}
use Rattle.cacache_entry.specs.{Entry.{closed_line, Entry, line_of}, FittingEntries.{IsEntry, IsWritable}, Bucket.{entries_of}}
use Rattle.cacache_system_model.specs.bucket.{File.{IsBeginning, LineWrite, BucketFile, Event, OpensToAppend, Starts, Shows, Opens, Reads, Ends, bytes_to_write, idle, with_visible, with_read, next, file_after, MayHappen, Happen, held, completed_by, completed, all_completed, Answers, Stops}, Moments.{AreSomeOf, started, CompletedWereStarted}}
use Rattle.cacache_system_model.proofs.bucket.Parts.{begins_more, begins_all, begins_shorter, begins_within, begins_less, part_adds, held_further, either_completed}

-- ---- what holds at each place

-- the file ends in what readers see of the write
pub record IsPart (bytes : List ℕ) (w : LineWrite) : Type 0 where
  pub base : List ℕ
  pub is : bytes ≡ base ++ w.visible
  pub entry : IsEntry w.entry
  pub fits : IsWritable w.entry
  pub begins : IsBeginning w.visible (bytes_to_write w)

pub record Sound (s : BucketFile) : Type 0 where
  pub part : IfSome s.writing (IsPart s.bytes)
  pub read : (reader : ℕ) → IfSome (s.read reader) (λ bytes. IsBeginning bytes s.bytes)

pub idle_sound : (bytes : List ℕ) → Sound (idle bytes)
idle_sound bytes = record { part = tt; read = λ reader. tt }

pub part_of : (s : BucketFile) (w : LineWrite) → s.writing ≡ Some w → Sound s → IsPart s.bytes w
part_of s w is sound = subst (λ o. IfSome o (IsPart s.bytes)) is sound.part

pub read_of : (s : BucketFile) (reader : ℕ) (bytes : List ℕ) → s.read reader ≡ Some bytes → Sound s → IsBeginning bytes s.bytes
read_of s reader bytes is sound = subst (λ o. IfSome o (λ b. IsBeginning b s.bytes)) is (sound.read reader)

if_both : (b : Bool) (o p : Option (List ℕ)) (P : List ℕ → Type 0) → IfSome o P → IfSome p P → IfSome (if b then o else p) P
if_both true o p P x y = x
if_both false o p P x y = y

read_sound : (s : BucketFile) (reader : ℕ) (o : Option (List ℕ)) → IfSome o (λ b. IsBeginning b s.bytes) → Sound s → Sound (with_read s reader o)
read_sound s reader o h sound = record {
  part = sound.part;
  read = λ other. if_both (other == reader) o (s.read other) (λ b. IsBeginning b s.bytes) h (sound.read other);
}

-- the file ends in more of the write, if readers see more of it
shown_part : (bytes more : List ℕ) (w : LineWrite) → IsPart bytes w → IsBeginning (w.visible ++ more) (bytes_to_write w) → IsPart (bytes ++ more) (with_visible more w)
shown_part bytes more w part begins = record {
  base = part.base;
  is = ap (λ b. b ++ more) part.is ∙ append_assoc part.base w.visible more;
  entry = part.entry;
  fits = part.fits;
  begins = begins;
}

if_more : (o : Option (List ℕ)) (bytes more : List ℕ) → IfSome o (λ b. IsBeginning b bytes) → IfSome o (λ b. IsBeginning b (bytes ++ more))
if_more None bytes more h = tt
if_more (Some b) bytes more h = begins_more b bytes more h

pub next_sound : (s : BucketFile) (e : Event) → MayHappen s e → Sound s → Sound (next s e)
next_sound s (OpensToAppend process) can sound = sound
next_sound s (Starts process durable entry) can sound = record {
  part = record { base = s.bytes; is = sym (append-nil s.bytes); entry = can.1; fits = can.2; begins = (closed_line durable entry, refl) };
  read = sound.read;
}
next_sound s (Shows bytes) can sound = record {
  part = subst (λ o. IfSome (option_map (with_visible bytes) o) (IsPart (s.bytes ++ bytes))) (sym can.1) (shown_part s.bytes bytes can.0 (part_of s can.0 can.1 sound) can.2);
  read = λ reader. if_more (s.read reader) s.bytes bytes (sound.read reader);
}
next_sound s (Opens reader) can sound = read_sound s reader (Some []) (s.bytes, refl) sound
next_sound s (Reads reader bytes) can sound =
    let more = λ (before : List ℕ). before ++ bytes in
    read_sound s reader (option_map more (s.read reader)) (subst (λ o. IfSome (option_map more o) (λ b. IsBeginning b s.bytes)) (sym can.1) can.2) sound
next_sound s (Ends reader) can sound = read_sound s reader None tt sound
next_sound s e can sound = record { part = tt; read = sound.read }

-- ---- the entries

shown_entries : (bytes more : List ℕ) (w : LineWrite) → IsPart bytes w → IsBeginning (w.visible ++ more) (bytes_to_write w)
    → entries_of (bytes ++ more) ≡ entries_of bytes ++ completed_by more (Some w)
unfolding shown_part
shown_entries bytes more w part begins =
    let later = shown_part bytes more w part begins in
    let old = held w.entry (length w.visible) in
    let fewer : length w.visible ≤ length (w.visible ++ more) = omega (arith, length-append w.visible more) in
    ap entries_of later.is ∙ part_adds part.base (w.visible ++ more) w.durable w.entry part.entry part.fits begins
    ∙ ap (λ es. entries_of part.base ++ es) (held_further w.entry (length w.visible) (length (w.visible ++ more)) fewer)
    ∙ sym (append_assoc (entries_of part.base) old (completed_by more (Some w)))
    ∙ ap (λ es. es ++ completed_by more (Some w)) (sym (ap entries_of part.is ∙ part_adds part.base w.visible w.durable w.entry part.entry part.fits part.begins))

-- an event adds the entry whose line becomes whole by it
pub next_entries : (s : BucketFile) (e : Event) → MayHappen s e → Sound s → entries_of (next s e).bytes ≡ entries_of s.bytes ++ completed s e
next_entries s (Shows bytes) can sound =
    subst (λ o. entries_of (s.bytes ++ bytes) ≡ entries_of s.bytes ++ completed_by bytes o) (sym can.1)
    (shown_entries s.bytes bytes can.0 (part_of s can.0 can.1 sound) can.2)
next_entries s e can sound = sym (append-nil (entries_of s.bytes))

-- the bytes before an event begin those after it
pub next_longer : (s : BucketFile) (e : Event) → IsBeginning s.bytes (next s e).bytes
next_longer s (Shows bytes) = (bytes, refl)
next_longer s e = ([], sym (append-nil s.bytes))

-- bytes between those before an event and those after it have the entries before it or those after it
abbrev pub IsEither : BucketFile → Event → List ℕ → Type 0
IsEither s e bytes = (entries_of bytes ≡ entries_of s.bytes) ⊎ (entries_of bytes ≡ entries_of s.bytes ++ completed s e)

pub between : (s : BucketFile) (e : Event) (bytes : List ℕ) → MayHappen s e → Sound s → IsBeginning bytes (next s e).bytes → length s.bytes ≤ length bytes → IsEither s e bytes
between s (Shows more) bytes can sound h long =
    let w = can.0 in
    let start = begins_shorter s.bytes bytes (s.bytes ++ more) (more, refl) h long in
    let front = begins_within s.bytes start.0 more (subst (λ b. IsBeginning b (s.bytes ++ more)) start.1 h) in
    let fewer : length start.0 ≤ length more = omega (arith, ap length front.1 ∙ length-append start.0 front.0) in
    let is = ap entries_of start.1 ∙ shown_entries s.bytes start.0 w (part_of s w can.1 sound) (begins_less w.visible start.0 more (bytes_to_write w) front can.2) in
    ⊎_elim
    (λ none. inl (is ∙ ap (λ es. entries_of s.bytes ++ es) none ∙ append-nil (entries_of s.bytes)))
    (λ all. inr (is ∙ ap (λ es. entries_of s.bytes ++ es) (all ∙ ap (completed_by more) (sym can.1))))
    (either_completed w start.0 more fewer)
between s e bytes can sound h long = inl (ap entries_of (begins_all bytes s.bytes h long))

-- ---- many events

pub file_after-append : (s : BucketFile) (xs ys : List Event) → file_after s (xs ++ ys) ≡ file_after (file_after s xs) ys
file_after-append s [] ys = refl
file_after-append s (e ∷ xs) ys = file_after-append (next s e) xs ys

pub happen-append : (s : BucketFile) (xs ys : List Event) → Happen s (xs ++ ys) → Happen s xs × Happen (file_after s xs) ys
happen-append s [] ys happen = (tt, happen)
happen-append s (e ∷ xs) ys happen = let more = happen-append (next s e) xs ys happen.1 in ((happen.0, more.0), more.1)

pub all_completed-append : (s : BucketFile) (xs ys : List Event) → all_completed s (xs ++ ys) ≡ all_completed s xs ++ all_completed (file_after s xs) ys
all_completed-append s [] ys = refl
all_completed-append s (e ∷ xs) ys =
    ap (λ es. completed s e ++ es) (all_completed-append (next s e) xs ys)
    ∙ sym (append_assoc (completed s e) (all_completed (next s e) xs) (all_completed (file_after (next s e) xs) ys))

pub sound_after : (s : BucketFile) (events : List Event) → Happen s events → Sound s → Sound (file_after s events)
sound_after s [] happen sound = sound
sound_after s (e ∷ es) happen sound = sound_after (next s e) es happen.1 (next_sound s e happen.0 sound)

pub entries_after : (s : BucketFile) (events : List Event) → Happen s events → Sound s → entries_of (file_after s events).bytes ≡ entries_of s.bytes ++ all_completed s events
entries_after s [] happen sound = sym (append-nil (entries_of s.bytes))
entries_after s (e ∷ es) happen sound =
    entries_after (next s e) es happen.1 (next_sound s e happen.0 sound) ∙ ap (λ l. l ++ all_completed (next s e) es) (next_entries s e happen.0 sound)
    ∙ append_assoc (entries_of s.bytes) (completed s e) (all_completed (next s e) es)

pub longer_after : (s : BucketFile) (events : List Event) → IsBeginning s.bytes (file_after s events).bytes
longer_after s [] = ([], sym (append-nil s.bytes))
longer_after s (e ∷ es) =
    let first = next_longer s e in
    let rest = longer_after (next s e) es in
    (first.0 ++ rest.0, rest.1 ∙ ap (λ b. b ++ rest.0) first.1 ∙ append_assoc s.bytes first.0 rest.0)

-- ---- what becomes whole was started

some_more : (es ys : List Entry) (f : Entry) → AreSomeOf es ys → AreSomeOf es (f ∷ ys)
some_more [] ys f h = tt
some_more (e ∷ es) ys f h = inr h

some_after : (front es ys : List Entry) → AreSomeOf es ys → AreSomeOf es (front ++ ys)
some_after [] es ys h = h
some_after (f ∷ front) es ys h = some_more es (front ++ ys) f (some_after front es ys h)

-- the entry of a write whose line isn't whole yet
abbrev pending : Option LineWrite → List Entry
pending None = []
pending (Some w) = if nat_le (length (line_of w.entry)) (length w.visible) then [] else w.entry ∷ []

shown_some : (before after : Bool) (e : Entry) (es ys : List Entry) → (before ≡ true → after ≡ true) → AreSomeOf es ((if after then [] else e ∷ []) ++ ys)
    → AreSomeOf ((if before then [] else if after then e ∷ [] else []) ++ es) ((if before then [] else e ∷ []) ++ ys)
shown_some true true e es ys stays h = h
shown_some true false e es ys stays h = let differ : false ≡ true = stays refl in absurd cc
shown_some false true e es ys stays h = inl (refl, h)
shown_some false false e es ys stays h = h

stays_whole : (w : LineWrite) (bytes : List ℕ) → nat_le (length (line_of w.entry)) (length w.visible) ≡ true → nat_le (length (line_of w.entry)) (length (w.visible ++ bytes)) ≡ true
stays_whole w bytes is =
    le-leb (length (line_of w.entry)) (length (w.visible ++ bytes)) (omega (arith, length-append w.visible bytes, leb-true (length (line_of w.entry)) (length w.visible) is))

some_started : (s : BucketFile) (events : List Event) → Happen s events → AreSomeOf (all_completed s events) (pending s.writing ++ started events)
some_started s [] happen = tt
some_started s (OpensToAppend process ∷ es) happen = some_started s es happen.1
some_started s (Starts process durable entry ∷ es) happen =
    some_after (pending s.writing) _ (entry ∷ started es)
    (subst (λ b. AreSomeOf (all_completed (next s (Starts process durable entry)) es) ((if b then [] else entry ∷ []) ++ started es))
    (lt-leb (length (line_of entry)) 0 (omega arith)) (some_started (next s (Starts process durable entry)) es happen.1))
some_started s (Shows bytes ∷ es) happen =
    let w = happen.0.0 in
    let is = happen.0.1 in
    let all = all_completed (next s (Shows bytes)) es in
    let later = subst (λ o. AreSomeOf all (pending (option_map (with_visible bytes) o) ++ started es)) is (some_started (next s (Shows bytes)) es happen.1) in
    subst (λ o. AreSomeOf (completed_by bytes o ++ all) (pending o ++ started es)) (sym is)
    (shown_some (nat_le (length (line_of w.entry)) (length w.visible)) (nat_le (length (line_of w.entry)) (length (w.visible ++ bytes))) w.entry all (started es) (stays_whole w bytes) later)
some_started s (Answers process count ∷ es) happen = some_after (pending s.writing) _ (started es) (some_started (next s (Answers process count)) es happen.1)
some_started s (Stops process ∷ es) happen = some_after (pending s.writing) _ (started es) (some_started (next s (Stops process)) es happen.1)
some_started s (e ∷ es) happen = some_started (next s e) es happen.1

pub completed_were_started : CompletedWereStarted
completed_were_started start events happen = some_started (idle start) events happen

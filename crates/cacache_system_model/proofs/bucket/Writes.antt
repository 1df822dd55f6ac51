-- The writes of a bucket's file, one after another, as steps of a disk.
use Rattle.std.proofs.{Common.{◌≡◌, ℕ, true, if◌then◌else◌, length, map, List, [], ◌∷◌, ◌++◌, Option, None, Some, IfSome, Ok, take, option_map, option_to_list, refl, sym, ap, subst, ◌∙◌, append-nil, append_assoc, min, length-append, cond, arith}, lemmas.List.Concat.{flat_map-append}}
use Rattle.std.specs.{List.{AllByRecursion, flat_map}, Prelude.{Result}}
use Rattle.cacache_core.specs.{Paths.{Names, names_of, bucket_names_of}, declared.errors.Fault.{Fault, TheVariants.{IsADirectory}}}
use Rattle.cacache_store.specs.{declared.store.{answer.Answer.TheVariants.{Took, Bytes}, step.Step.TheVariants.{Append, ReadAll}}, Plain.{PlainAnswer}}
use Rattle.cacache_disk.specs.{declared.{luck.Luck.TheVariants.{Take, Plain}, node.Node.{Node, TheVariants.{File}}}, Tree.{Tree, look, put, bytes_of, Rooted}, Apply.{apply, unless, taken, lengthened}, LedTo.{and_then, on_link, standing, where_there, found, leads, place, followed, file_at}}
use Rattle.cacache_disk.proofs.{Standing.{way_clear}, PutNodes.{look-put}, Roots.{same_self}, KeptFolders.{steps_keep_rooted}}
use Rattle.cacache_entry.specs.Bucket.{entries_of}
use Rattle.cacache_value.{specs.{Kinds.{is_path_of}, Value.{Value}, Acts.{act_of, change, list_of, acts, tree_after}}, proofs.{MadeFolders.{append_act}, Traces.{whole_rooted}}}
use Rattle.cacache_system_model.specs.bucket.{File.{IsBeginning, LineWrite, BucketFile, Event, Starts, Shows, Answers, Stops, bytes_to_write, idle, with_visible, next, file_after, Happen}, Steps.{all_ended, all_writes, left_by, move_of, WritesAreAppends, WholeAreOfSteps, steps_of, AnswerSo, StepsLeaveFile, ReadsAreOfDisk}}
use Rattle.cacache_system_model.proofs.{bucket.{Parts.{front_taken, front_adds}, Places.{IsPart, Sound, idle_sound, next_sound}, Moments.{entries_are_whole, at_end}}, Steps.{CopyFacts.{writable_found}, Looking.{file_there}}}

-- the bytes after these are what the write leaves that isn't over
abbrev EndsIn : List ℕ → BucketFile → Type 0
EndsIn base s = s.bytes ≡ base ++ left_by (option_to_list s.writing)

-- so after these events they are what the writes since then leave
abbrev EndsAfter : List ℕ → BucketFile → List Event → Type 0
EndsAfter base s events = (file_after s events).bytes ≡ base ++ left_by (all_writes s events)

shown_left : (base bytes more : List ℕ) (o : Option LineWrite) (w : LineWrite) → o ≡ Some w → bytes ≡ base ++ left_by (option_to_list o)
    → bytes ++ more ≡ base ++ left_by (option_to_list (option_map (with_visible more) o))
shown_left base bytes more None w is h = let differ : None ≡ Some w = is in absurd cc
shown_left base bytes more (Some v) w is h =
    ap (λ b. b ++ more) (h ∙ ap (λ t. base ++ t) (append-nil v.visible)) ∙ append_assoc base v.visible more ∙ ap (λ t. base ++ t) (sym (append-nil (v.visible ++ more)))

-- what a write left comes before what follows it
ended_left : (base : List ℕ) (s : BucketFile) (es : List Event) → EndsAfter (base ++ left_by (option_to_list s.writing)) (record s { writing = None }) es
    → (file_after (record s { writing = None }) es).bytes
    ≡ base ++ left_by ((option_to_list s.writing ++ all_ended (record s { writing = None }) es) ++ option_to_list (file_after (record s { writing = None }) es).writing)
ended_left base s es h =
    let this = option_to_list s.writing in
    let later = all_ended (record s { writing = None }) es in
    let last = option_to_list (file_after (record s { writing = None }) es).writing in
    h ∙ append_assoc base (left_by this) (left_by (later ++ last))
    ∙ ap (λ t. base ++ t) (sym (flat_map-append (λ (w : LineWrite). w.visible) this (later ++ last)) ∙ ap left_by (sym (append_assoc this later last)))

ends_after : (base : List ℕ) (s : BucketFile) (events : List Event) → Happen s events → EndsIn base s → EndsAfter base s events
ends_after base s [] happen h = h
ends_after base s (Starts process durable entry ∷ es) happen h =
    ends_after base (next s (Starts process durable entry)) es happen.1 (subst (λ o. s.bytes ≡ base ++ left_by (option_to_list o)) happen.0.0 h)
ends_after base s (Shows bytes ∷ es) happen h = ends_after base (next s (Shows bytes)) es happen.1 (shown_left base s.bytes bytes s.writing happen.0.0 happen.0.1 h)
ends_after base s (Answers process count ∷ es) happen h =
    ended_left base s es (ends_after (base ++ left_by (option_to_list s.writing)) (next s (Answers process count)) es happen.1 (h ∙ sym (append-nil (base ++ left_by (option_to_list s.writing)))))
ends_after base s (Stops process ∷ es) happen h =
    ended_left base s es (ends_after (base ++ left_by (option_to_list s.writing)) (next s (Stops process)) es happen.1 (h ∙ sym (append-nil (base ++ left_by (option_to_list s.writing)))))
ends_after base s (e ∷ es) happen h = ends_after base (next s e) es happen.1 h

pub writes_are_appends : WritesAreAppends
writes_are_appends start events happen = ends_after start (idle start) events happen (sym (append-nil start))

-- ---- no write shows more than its line

abbrev pub Fronts : List LineWrite → Type 0
Fronts ws = AllByRecursion (λ (w : LineWrite). IsBeginning w.visible (bytes_to_write w)) ws

front_of : (o : Option LineWrite) (bytes : List ℕ) (ws : List LineWrite) → IfSome o (IsPart bytes) → Fronts ws → Fronts (option_to_list o ++ ws)
front_of None bytes ws h k = k
front_of (Some w) bytes ws h k = (h.begins, k)

ended_fronts : (o : Option LineWrite) (bytes : List ℕ) (xs ys : List LineWrite) → IfSome o (IsPart bytes) → Fronts (xs ++ ys) → Fronts ((option_to_list o ++ xs) ++ ys)
ended_fronts o bytes xs ys h k = subst Fronts (sym (append_assoc (option_to_list o) xs ys)) (front_of o bytes (xs ++ ys) h k)

pub all_fronts : (s : BucketFile) (events : List Event) → Happen s events → Sound s → Fronts (all_writes s events)
all_fronts s [] happen sound = subst Fronts (append-nil (option_to_list s.writing)) (front_of s.writing s.bytes [] sound.part tt)
all_fronts s (Answers process count ∷ es) happen sound =
    ended_fronts s.writing s.bytes _ _ sound.part (all_fronts (next s (Answers process count)) es happen.1 (next_sound s (Answers process count) happen.0 sound))
all_fronts s (Stops process ∷ es) happen sound =
    ended_fronts s.writing s.bytes _ _ sound.part (all_fronts (next s (Stops process)) es happen.1 (next_sound s (Stops process) happen.0 sound))
all_fronts s (e ∷ es) happen sound = all_fronts (next s e) es happen.1 (next_sound s e happen.0 sound)

-- ---- the acts of these steps

-- after any bytes, what writes left adds the entries of each
left_entries : (base : List ℕ) (ws : List LineWrite) → Fronts ws → entries_of (base ++ left_by ws) ≡ entries_of base ++ flat_map (λ (w : LineWrite). entries_of w.visible) ws
left_entries base [] fronts = ap entries_of (append-nil base) ∙ sym (append-nil (entries_of base))
left_entries base (w ∷ ws) fronts =
    let rest = flat_map (λ (v : LineWrite). entries_of v.visible) ws in
    ap entries_of (sym (append_assoc base w.visible (left_by ws))) ∙ left_entries (base ++ w.visible) ws fronts.1
    ∙ ap (λ es. es ++ rest) (front_adds base w.visible w.durable w.entry fronts.0) ∙ append_assoc (entries_of base) (entries_of w.visible) rest

-- and so do the acts of these steps
moves_add : (home : Option Names) (path digest : List ℕ) (names : Names) → names_of path ≡ Ok names → is_path_of home (bucket_names_of digest) names ≡ true → (ws : List LineWrite) → Fronts ws → (v : Value)
    → list_of ((acts home v (map (move_of path) ws)).buckets digest) ≡ list_of (v.buckets digest) ++ flat_map (λ (w : LineWrite). entries_of w.visible) ws
moves_add home path digest names is at [] fronts v = sym (append-nil (list_of (v.buckets digest)))
moves_add home path digest names is at (w ∷ ws) fronts v =
    let m = move_of path w in
    let count = length w.visible in
    let added = entries_of w.visible in
    let rest = flat_map (λ (u : LineWrite). entries_of u.visible) ws in
    let one : list_of ((change home (act_of m.step m.luck m.answer) v).buckets digest) ≡ list_of (v.buckets digest) ++ added =
    ap (λ act. list_of ((change home act v).buckets digest)) (append_act path names (bytes_to_write w) (Take count) (Took count) count is refl)
    ∙ ap (λ b. list_of (if b then Some (list_of (v.buckets digest) ++ entries_of (take count (bytes_to_write w))) else v.buckets digest)) at
    ∙ ap (λ f. list_of (v.buckets digest) ++ entries_of f) (front_taken w.visible (bytes_to_write w) fronts.0) in
    moves_add home path digest names is at ws fronts.1 (change home (act_of m.step m.luck m.answer) v) ∙ ap (λ es. es ++ rest) one ∙ append_assoc (list_of (v.buckets digest)) added rest

pub whole_are_of_steps : WholeAreOfSteps
whole_are_of_steps home v path digest names start events is at had happen =
    let ws = all_writes (idle start) events in
    let fronts = all_fronts (idle start) events happen (idle_sound start) in
    moves_add home path digest names is at ws fronts v ∙ ap (λ es. es ++ flat_map (λ (w : LineWrite). entries_of w.visible) ws) had
    ∙ sym (left_entries start ws fronts) ∙ ap entries_of (sym (writes_are_appends start events happen)) ∙ entries_are_whole start events happen

-- ---- a file at a path of which no part is a link

led : (t : Tree) (here : Option Node) (names : Names) (bytes : List ℕ) (go : List ℕ → Result Names Fault) → here ≡ Some (File bytes) → look t names ≡ Some (File bytes)
    → and_then (on_link here names go) (λ n. where_there (look t n) n) ≡ Ok names
led t here names bytes go is at = ap (λ o. and_then (on_link o names go) (λ n. where_there (look t n) n)) is ∙ ap (λ o. where_there o names) at

file_found : (t : Tree) (path : List ℕ) (names : Names) (bytes : List ℕ) → Rooted t → names_of path ≡ Ok names → look t names ≡ Some (File bytes) → found t path ≡ Ok names
unfolding found leads place followed
file_found t path names bytes rooted is at =
    rw is (rw (way_clear t [] names (File bytes) rooted at) (led t (look t names) names bytes (λ target. and_then (standing t target) (followed 15 t)) at at))

-- ---- steps

step_leaves : (t : Tree) (path : List ℕ) (names : Names) (bytes : List ℕ) (w : LineWrite) → Rooted t → names_of path ≡ Ok names → look t names ≡ Some (File bytes) → Fronts (w ∷ [])
    → apply t (Append path (bytes_to_write w)) (Take (length w.visible)) ≡ (Took (length w.visible), put t names (File (bytes ++ w.visible)))
unfolding apply
step_leaves t path names bytes w rooted is at front =
    let line = bytes_to_write w in
    let count = length w.visible in
    let so : ℕ → PlainAnswer × Tree = λ i. (Took i, lengthened t names (take i line)) in
    let size = ap length front.0.1 ∙ length-append w.visible front.0.0 in
    let least : min count (length line) ≡ count = omega (arith, size) in
    let of : Option Node → PlainAnswer × Tree = λ o. (Took count, put t names (File (bytes_of o ++ take count line))) in
    ap (λ r. unless r t (λ ns. (Took (taken (Some count) line), lengthened t ns (take (taken (Some count) line) line)))) (writable_found t path names bytes (file_found t path names bytes rooted is at) at)
    ∙ ap so least ∙ ap of at ∙ ap (λ f. let a : PlainAnswer × Tree = (Took count, put t names (File (bytes ++ f))) in a) (front_taken w.visible line front.0)

leave : (path : List ℕ) (names : Names) → names_of path ≡ Ok names → (ws : List LineWrite) (t : Tree) (bytes : List ℕ) → Rooted t → look t names ≡ Some (File bytes) → Fronts ws
    → AnswerSo t (map (move_of path) ws) × (look (tree_after t (map (move_of path) ws)) names ≡ Some (File (bytes ++ left_by ws)))
leave path names is [] t bytes rooted at fronts = (tt, at ∙ ap (λ b. Some (File b)) (sym (append-nil bytes)))
leave path names is (w ∷ ws) t bytes rooted at fronts =
    let m = move_of path w in
    let step = step_leaves t path names bytes w rooted is at (fronts.0, tt) in
    let there : look (apply t m.step m.luck).1 names ≡ Some (File (bytes ++ w.visible)) =
    ap (λ (o : PlainAnswer × Tree). look o.1 names) step ∙ look-put t names (File (bytes ++ w.visible)) names
    ∙ ap (λ b. cond b (Some (File (bytes ++ w.visible))) (look t names)) (same_self names) in
    let more = leave path names is ws (apply t m.step m.luck).1 (bytes ++ w.visible) (steps_keep_rooted t m.step m.luck rooted) there fronts.1 in
    ((sym (ap (λ (o : PlainAnswer × Tree). o.0) step), more.0), more.1 ∙ ap (λ b. Some (File b)) (append_assoc bytes w.visible (left_by ws)))

pub steps_leave_file : StepsLeaveFile
steps_leave_file t path names start events rooted is at happen =
    let h = leave path names is (all_writes (idle start) events) t start rooted at (all_fronts (idle start) events happen (idle_sound start)) in
    (h.0, h.1 ∙ ap (λ b. Some (File b)) (sym (writes_are_appends start events happen)))

-- ---- reads

read_answers : (t : Tree) (path : List ℕ) (bytes : List ℕ) → file_at t path IsADirectory ≡ Ok bytes → (apply t (ReadAll path) Plain).0 ≡ Bytes bytes
unfolding apply
read_answers t path bytes is = ap (λ r. (unless r t (λ b. (Bytes b, t))).0) is

pub reads_are_of_disk : ReadsAreOfDisk
reads_are_of_disk t path names start events after reader rooted is at happen =
    let end = at_end start events after reader happen in
    let left = steps_leave_file t path names start events rooted is at end.happen in
    let old = tree_after t (steps_of path start events) in
    let bytes = (file_after (idle start) events).bytes in
    (bytes, end.read, read_answers old path bytes (file_there old path IsADirectory names bytes (file_found old path names bytes (whole_rooted t (steps_of path start events) rooted) is left.1) left.1))

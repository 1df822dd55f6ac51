-- What a durable commit appended to a bucket survives.
use Rattle.std.proofs.{lemmas.{Grind.{common_steps}, List.{take_all}}, Common.{rules, ◌≡◌, ◌≤◌, ◌+◌, ◌-◌, inl, inr, ℕ, suc, Bool, true, false, cond, List, [], ◌∷◌, ◌++◌, Option, None, Some, Ok, length, take, refl, sym, ap, subst, ◌∙◌, arith, append_assoc, append-nil, length-append}}
use Rattle.std.specs.Prelude.{bytes_eq}
use Rattle.cacache_core.specs.Paths.{Names, names_of}
use Rattle.cacache_store.specs.{declared.store.{step.Step.TheVariants.{CreateTemp, Write, Persist, Append, SyncTemp, SyncFile, SyncDir}, answer.Answer.TheVariants.{Took, Failed}}, Plain.{PlainStep, PlainAnswer}}
use Rattle.cacache_disk.specs.{declared.{luck.Luck.{Luck}, node.Node.{Node, TheVariants.{File}}}, Tree.{Tree, look, same_path, bytes_of, Rooted}, LedTo.{leads, place, followed}, Apply.{apply, make_some}}
use Rattle.cacache_disk.proofs.{Maps.{same_path-true}, PutNodes.{look-put}, Roots.{same_self}, Standing.{way_clear}}
use Rattle.cacache_entry.specs.{Entry.{Entry, line_of, closed_line}, FittingEntries.{IsEntry, IsWritable}, Bucket.{entries_of}}
use Rattle.cacache_entry.proofs.{Pieces.{entries_split}, Lookups.{lines_append}}
use Rattle.cacache_value.specs.{Kinds.{Content, Bucket, Temporary, path_kind, is_used, Way}, Placed.{Placed, Proper}, Acts.{Move}}
use Rattle.cacache_loss.specs.{Fixing.{Fixed, Fixing, Place, changed, fixed_after, is_at, is_sync, is_synced, refixed, synced, temp_synced}, Loss.{Loss, node_left}, Moments.{EachMove, Moment, after, lost_then, next, CalmStep, IsCalm, is_calm}, LostTrees.{OfCache}, Syncs.{IsAppend, IsFileSync, SyncsFile, SyncsFolders}, LossLaws.{BeginsWith, BucketsSurvive, EntriesSurvive}}
use Rattle.cacache_loss.proofs.{StepCases.{AppendCase, unsent, took, torn, append_case, grown, make_apart}, Reaching.{at_false, Misses}, KeptPaths.{cond_none, keeps, files_keep, names_kept, sync_tree, cache_next, each_calm}, SyncedFolders.{IsLeft, survives, Any, any, not_top}}

-- a path at which there is a file leads to it
pub leads_file : (t : Tree) (p bytes : List ℕ) (c : Names) → Rooted t → names_of p ≡ Ok c → look t c ≡ Some (File bytes) → leads t p ≡ Ok c
unfolding leads place followed
leads_file t p bytes c rooted is there = rw (is, way_clear t [] c (File bytes) rooted there, there) refl

-- ---- the fixing of a file to which bytes are appended

abbrev Kept : ℕ → Fixing → Type 0
Kept size f = size ≤ f.kept

lengthened : (size : ℕ) (b : Bool) (f : Fixing) → Kept size f → Kept size (refixed false b true f)
lengthened size b f e = grind (arith, common_steps)

take_more : (a b : List ℕ) (k : ℕ) → take (length a + k) (a ++ b) ≡ a ++ take k b
take_more [] b k = let none : 0 + k ≡ k = omega arith in ap (λ n. take n b) none
take_more (x ∷ a) b k = let one : length (x ∷ a) + k ≡ suc (length a + k) = omega arith in ap (λ n. take n (x ∷ a ++ b)) one ∙ ap (λ l. x ∷ l) (take_more a b k)

module _ (home : Option Names) (c : Names) (at : path_kind home c ≡ Bucket) (z : List ℕ) where
  -- a file that begins with these bytes, in a tree of the cache
  abbrev pub Holds : Moment → Type 0
  Holds w = OfCache home w × BeginsWith z (look w.tree c)

  -- what a step makes of the bucket, of how much of it is fixed, and of its name
  abbrev Keeps : Tree → Fixed → Tree → Fixed → Type 0
  Keeps t fixed new later =
      BeginsWith z (look new c) × (Kept (length z) (fixed.files c) → Kept (length z) (later.files c)) × (fixed.names c ≡ None → later.names c ≡ None)

  module _ (t : Tree) (fixed : Fixed) (placed : Placed home t) (more : List ℕ) (there : look t c ≡ Some (File (z ++ more))) where
    made : (names : Names) (count : ℕ) → path_kind home names ≡ Way → look (make_some t [] names count) c ≡ Some (File (z ++ more))
    made names count way = make_apart home Bucket t [] names c count at (λ e. cc) way ∙ there

    missed : (step : PlainStep) (luck : Luck) (answer : PlainAnswer) → is_calm step ≡ true → Proper home step → Misses c step
        → Keeps t fixed (apply t step luck).1 (changed fixed t (apply t step luck).1 step answer)
    missed step luck answer calm is misses = (
      (more, keeps home t placed c (Some (File (z ++ more))) there made step luck calm is misses),
      (λ k. rw (files_keep home t placed c (Some (File (z ++ more))) there made fixed step luck answer calm is misses) k),
      (λ e. names_kept home t placed c (Some (File (z ++ more))) there made fixed step luck answer calm is misses ∙ e),
    )

    -- more bytes are added at the end
    behind : (p line : List ℕ) (answer : PlainAnswer) (names : Names) (n : ℕ) → c ≡ names
        → Keeps t fixed (grown t names line n) (changed fixed t (grown t names line n) (Append p line) answer)
    behind p line answer names n same =
        let here : same_path c names ≡ true = ap (same_path c) (sym same) ∙ same_self c in
        let bytes : bytes_of (look t names) ++ take n line ≡ z ++ (more ++ take n line)
        = ap (λ q. bytes_of (look t q) ++ take n line) (sym same) ∙ ap (λ o. bytes_of o ++ take n line) there ∙ append_assoc z more (take n line) in
        let stands : look (grown t names line n) c ≡ Some (File (bytes_of (look t names) ++ take n line))
        = look-put t names (File (bytes_of (look t names) ++ take n line)) c ∙ ap (λ b. cond b (Some (File (bytes_of (look t names) ++ take n line))) (look t c)) here in (
          (more ++ take n line, stands ∙ ap (λ b. Some (File b)) bytes),
          (λ k. rw (stands, there) (lengthened (length z) (bytes_eq (z ++ more) (bytes_of (look t names) ++ take n line)) (fixed.files c) k)),
          (λ e. rw (stands, there) e),
        )

    unmoved : (p line : List ℕ) (answer : PlainAnswer) → Keeps t fixed t (changed fixed t t (Append p line) answer)
    unmoved p line answer = search (rules, lengthened)

    reached : (p line : List ℕ) (answer : PlainAnswer) (o : PlainAnswer × Tree) → is_at (names_of p) c ≡ true → AppendCase t p line o
        → Keeps t fixed o.1 (changed fixed t o.1 (Append p line) answer)
    reached p line answer o here (unsent fault e) = search (rules, unmoved)
    reached p line answer o here (took names n is e) =
        subst (λ (o : PlainAnswer × Tree). Keeps t fixed o.1 (changed fixed t o.1 (Append p line) answer)) (sym e)
        (behind p line answer names n (same_path-true c names (ap (λ r. is_at r c) (sym is) ∙ here)))
    reached p line answer o here (torn names fault n is e) =
        subst (λ (o : PlainAnswer × Tree). Keeps t fixed o.1 (changed fixed t o.1 (Append p line) answer)) (sym e)
        (behind p line answer names n (same_path-true c names (ap (λ r. is_at r c) (sym is) ∙ here)))

    appended : (p line : List ℕ) (luck : Luck) (answer : PlainAnswer) (b : Bool) → is_at (names_of p) c ≡ b → Proper home (Append p line)
        → Keeps t fixed (apply t (Append p line) luck).1 (changed fixed t (apply t (Append p line) luck).1 (Append p line) answer)
    appended p line luck answer false misses is = missed (Append p line) luck answer refl is misses
    appended p line luck answer true here is = reached p line answer (apply t (Append p line) luck) here (append_case home t p line luck placed is.0)

    -- ---- syncs

    sync_keeps : (b : Bool) (later : Fixed) → Keeps t fixed t later → Keeps t fixed t (cond b later fixed)
    sync_keeps b later kept = grind (arith, common_steps)

    by_sync : (step : PlainStep) (luck : Luck) (b : Bool) (later : Fixed) → is_sync step ≡ true → Keeps t fixed t later
        → Keeps t fixed (apply t step luck).1 (cond b later fixed)
    by_sync step luck b later is kept = subst (λ new. Keeps t fixed new (cond b later fixed)) (sym (sync_tree t step luck is)) (sync_keeps b later kept)

    longer : length z ≤ length (bytes_of (look t c))
    longer = rw there (omega (arith, length-append z more))

    cond_kept : (b : Bool) (f : Fixing) → Kept (length z) f → Kept (length z) (cond b (synced (bytes_of (look t c))) f)
    cond_kept b f k = grind (arith, longer)

    -- ---- each step

    each_keeps : (step : PlainStep) (luck : Luck) (answer : PlainAnswer) → CalmStep home step → Proper home step
        → Keeps t fixed (apply t step luck).1 (fixed_after fixed t (apply t step luck).1 step answer)
    each_keeps (Append p line) luck answer calm is = appended p line luck answer (is_at (names_of p) c) refl is
    each_keeps (Persist f p) luck answer calm is =
        missed (Persist f p) luck answer refl is (at_false home Temporary Bucket c (names_of f.path) is.0 at (λ e. cc), at_false home Content Bucket c (names_of p) is.1 at (λ e. cc))
    each_keeps (SyncTemp f) luck answer calm is =
        by_sync (SyncTemp f) luck (is_synced answer) (temp_synced fixed f) refl
        ((more, there), (λ k. rw (at_false home Temporary Bucket c (names_of f.path) calm.1 at (λ e. cc)) k), λ e. e)
    each_keeps (SyncFile p) luck answer calm is = search (rules, by_sync, cond_kept)
    each_keeps (SyncDir p) luck answer calm is = search (rules, by_sync, cond_none)
    each_keeps (CreateTemp p) luck answer calm is = missed (CreateTemp p) luck answer refl is (at_false home Temporary Bucket c (names_of p) is at (λ e. cc))
    each_keeps (Write f bytes) luck answer calm is = missed (Write f bytes) luck answer refl is (at_false home Temporary Bucket c (names_of f.path) calm.1 at (λ e. cc))
    each_keeps step luck answer calm is = missed step luck answer calm.0 is tt

    -- a sync of the file fixes all that it has
    sync_fixes : (rooted : Rooted t) (new : Tree) (step : PlainStep) (answer : PlainAnswer) → IsFileSync c step answer
        → Kept (length z) ((fixed_after fixed t new step answer).files c)
    sync_fixes rooted new (SyncFile p) answer is = rw (is.1, leads_file t p (z ++ more) c rooted is.0 there, same_self c) longer
    sync_fixes rooted new step answer is = absurd is

  kept_in : (w : Moment) (m : Move) → Holds w → IsCalm home w m → Keeps w.tree w.fixed (next w m).tree (next w m).fixed
  kept_in w m h calm = each_keeps w.tree w.fixed h.0.0 h.1.0 h.1.1 m.step m.luck m.answer calm.0 calm.1

  holds_next : (w : Moment) (m : Move) → Holds w → IsCalm home w m → Holds (next w m)
  holds_next w m h calm = (cache_next home w m h.0 calm.1, (kept_in w m h calm).0)

  kept_after : (w : Moment) (moves : List Move) → Holds w → EachMove (IsCalm home) w moves → Kept (length z) (w.fixed.files c) → Kept (length z) ((after w moves).fixed.files c)
  kept_after w [] h calm k = k
  kept_after w (m ∷ moves) h calm k = kept_after (next w m) moves (holds_next w m h calm.0) calm.1 ((kept_in w m h calm.0).1 k)

  kept_synced : (w : Moment) (moves : List Move) → Holds w → EachMove (IsCalm home) w moves → SyncsFile c moves → Kept (length z) ((after w moves).fixed.files c)
  kept_synced w [] h calm s = absurd s
  kept_synced w (m ∷ moves) h calm (inl s) =
      kept_after (next w m) moves (holds_next w m h calm.0) calm.1 (sync_fixes w.tree w.fixed h.0.0 h.1.0 h.1.1 h.0.1 (apply w.tree m.step m.luck).1 m.step m.answer s)
  kept_synced w (m ∷ moves) h calm (inr s) = kept_synced (next w m) moves (holds_next w m h calm.0) calm.1 s

  -- ---- after a loss

  abbrev IsKept : Place → Type 0
  IsKept place = BeginsWith z place.node × Kept (length z) place.fixing

  take_further : (n : ℕ) (a b : List ℕ) → length a ≤ n → take n (a ++ b) ≡ a ++ take (n - length a) b
  take_further n a b long = let same : n ≡ length a + (n - length a) = omega (arith, long) in ap (λ m. take m (a ++ b)) same ∙ take_more a b (n - length a)

  left_begins : (whole : Bool) (kept : ℕ) (more tail : List ℕ) → length z ≤ kept → (rest : List ℕ) × (cond whole (z ++ more) (take kept (z ++ more) ++ tail) ≡ z ++ rest)
  left_begins true kept more tail long = (more, refl)
  left_begins false kept more tail long =
      (take (kept - length z) more ++ tail, ap (λ x. x ++ tail) (take_further kept z more long) ∙ append_assoc z (take (kept - length z) more) tail)

  left_kept : (place : Place) (tail : List ℕ) → IsKept place → BeginsWith z (node_left place.fixing tail place.node)
  left_kept place tail k =
      let l = left_begins place.fixing.whole place.fixing.kept k.0.0 tail k.1 in
      rw k.0.1 (l.0, ap (λ b. Some (File b)) l.1)

  left_bucket : (here : Option Node) (tail : List ℕ) → IsLeft IsKept tail here → BeginsWith z here
  left_bucket here tail left = subst (BeginsWith z) (sym left.2) (left_kept left.0 tail left.1)

  node_of : (w : Moment) → Holds w → (n : Node) × (look w.tree c ≡ Some n)
  node_of w h = (File (z ++ h.1.0), h.1.1)

  pub bucket_survives : (w : Moment) (moves : List Move) (loss : Loss) → Holds w → EachMove (IsCalm home) w moves → SyncsFile c moves → SyncsFolders home [] c moves
      → BeginsWith z (lost_then home (after w moves) loss c)
  bucket_survives w moves loss h calm synced way =
      left_bucket (lost_then home (after w moves) loss c) (loss.tail c)
      (survives home c (ap is_used at) (λ e. not_top home (ap (path_kind home) (sym e) ∙ at)) Holds Any (λ o. o ≡ None) (λ w h. h.0.0) (λ w h. h.0.1) node_of
      (λ w m h calm x. holds_next w m h calm) refl (λ w m h calm x. (kept_in w m h calm).2) w moves loss h calm (any w moves)
      IsKept way (λ end. (end.1, kept_synced w moves h calm synced)) (λ place e. absurd cc))

-- ---- the append itself

took_all : (t : Tree) (p line : List ℕ) (c : Names) (o : PlainAnswer × Tree) → names_of p ≡ Ok c → o.0 ≡ Took (length line) → AppendCase t p line o
    → look o.1 c ≡ Some (File (bytes_of (look t c) ++ line))
took_all t p line c o is told (unsent fault e) = let differ : Failed fault ≡ Took (length line) = ap (λ (o : PlainAnswer × Tree). o.0) (sym e) ∙ told in absurd cc
took_all t p line c o is told (torn names fault n to e) = let differ : Failed fault ≡ Took (length line) = ap (λ (o : PlainAnswer × Tree). o.0) (sym e) ∙ told in absurd cc
took_all t p line c o is told (took names n to e) =
    let count : Took n ≡ Took (length line) = ap (λ (o : PlainAnswer × Tree). o.0) (sym e) ∙ told in
    let size : n ≡ length line = cc in
    let place : Ok names ≡ Ok c = sym to ∙ is in
    let same : names ≡ c = cc in
    let stands : look (grown t c line (length line)) c ≡ Some (File (bytes_of (look t c) ++ take (length line) line))
    = look-put t c (File (bytes_of (look t c) ++ take (length line) line)) c ∙ ap (λ b. cond b (Some (File (bytes_of (look t c) ++ take (length line) line))) (look t c)) (same_self c) in
    ap (λ (o : PlainAnswer × Tree). look o.1 c) e ∙ ap (λ q. look (grown t q line n) c) same ∙ ap (λ k. look (grown t c line k) c) size ∙ stands
    ∙ ap (λ l. Some (File (bytes_of (look t c) ++ l))) (take_all (length line) line (omega arith))

-- a line that is taken whole comes after what was there
pub line_stands : (home : Option Names) (t : Tree) (c : Names) (p line : List ℕ) (luck : Luck) → Placed home t → Proper home (Append p line)
    → names_of p ≡ Ok c → (apply t (Append p line) luck).0 ≡ Took (length line)
    → look (apply t (Append p line) luck).1 c ≡ Some (File (bytes_of (look t c) ++ line))
line_stands home t c p line luck placed proper is told = took_all t p line c (apply t (Append p line) luck) is told (append_case home t p line luck placed proper.0)

begun : (home : Option Names) (t : Tree) (c : Names) (bytes : List ℕ) (step : PlainStep) (luck : Luck) (answer : PlainAnswer) → Placed home t
    → Proper home step → answer ≡ (apply t step luck).0 → IsAppend c bytes step answer
    → BeginsWith (bytes_of (look t c) ++ bytes) (look (apply t step luck).1 c)
begun home t c bytes (Append p line) luck answer placed proper told is =
    let stands = line_stands home t c p line luck placed proper is.0 (sym told ∙ is.2 ∙ ap (λ (b : List ℕ). Took (length b)) (sym is.1)) in
    subst (λ b. BeginsWith (bytes_of (look t c) ++ b) (look (apply t (Append p line) luck).1 c)) is.1
    ([], stands ∙ ap (λ b. Some (File b)) (sym (append-nil (bytes_of (look t c) ++ line))))
begun home t c bytes step luck answer placed proper told is = absurd is

pub buckets_survive : BucketsSurvive
buckets_survive home c bytes w m moves loss at of_cache calm is later file way = search (rules, bucket_survives, cache_next, begun, each_calm)

-- the line feed after the line cuts it from whatever follows
closed : (x l more : List ℕ) → (x ++ (l ++ 10 ∷ [])) ++ more ≡ (x ++ l) ++ 10 ∷ more
closed x l more = ap (λ a. a ++ more) (sym (append_assoc x l (10 ∷ []))) ∙ append_assoc (x ++ l) (10 ∷ []) more

pub closed_entries : (x more : List ℕ) (e : Entry) → IsEntry e → IsWritable e → entries_of ((x ++ (line_of e ++ 10 ∷ [])) ++ more) ≡ (entries_of x ++ e ∷ []) ++ entries_of more
closed_entries x more e formed fits =
    ap entries_of (closed x (line_of e) more) ∙ entries_split (x ++ line_of e) more ∙ ap (λ es. es ++ entries_of more) (lines_append x e formed fits)

pub entries_survive : EntriesSurvive
entries_survive home c e w m moves loss at of_cache formed fits calm is later file way =
    let left = buckets_survive home c (closed_line true e) w m moves loss at of_cache calm is later file way in
    ((bytes_of (look w.tree c) ++ closed_line true e) ++ left.0, entries_of left.0, left.1, closed_entries (bytes_of (look w.tree c)) left.0 e formed fits)

-- What a later loss leaves of a compacted bucket to which lines were appended.
use Rattle.std.proofs.{Common.{◌≡◌, ◌≤◌, inr, ℕ, zero, suc, Bool, true, false, cond, List, [], ◌∷◌, ◌++◌, Option, None, Some, length, take, fold, refl, sym, ap, subst, ◌∙◌, arith, append_assoc, append-nil, length-append}, lemmas.List.Sums.{fold-append}}
use Rattle.std.specs.Prelude.{bytes_eq, unwrap_or}
use Rattle.sha1.specs.Sha1.{sha1}
use Rattle.cacache_core.{specs.{Laws.{IsKeyDigest}, Paths.{Names, names_of, bucket_names_of, index_area}}, proofs.PathLemmas.{keys_have_digests}}
use Rattle.cacache_store.specs.{declared.store.step.Step.TheVariants.{Write, Persist, SyncTemp, SyncFile, SyncDir}, Plain.{PlainStep, PlainAnswer}}
use Rattle.cacache_disk.specs.{declared.node.Node.{Node, TheVariants.{File}}, LedTo.{leads}, Tree.{Rooted, Tree, bytes_of, look}, Replay.{tree_of}}
use Rattle.cacache_disk.proofs.Standing.{upper_folder}
use Rattle.cacache_entry.{specs.{Bucket.{entries_of, Found, NoneAnswers, after_entry, latest}, Entry.{Entry}}, proofs.{Lookups.{empty_holds_nothing}, Pieces.{entries_split}}}
use Rattle.cacache_value.specs.{Kinds.{Bucket as IsBucket, Content, Temporary, is_used, path_kind}, Placed.{Placed, Proper}, Acts.{Move}, Value.{bucket_in}}
use Rattle.cacache_value.proofs.PathKinds.{kind-below}
use Rattle.cacache_value.proofs.PathKinds as apart
use Rattle.cacache_loss.specs.{declared.fixing.{Fixing.{Fixing}, Place.{Place}}, Moments.{AreCalm, CalmStep, IsCalm, is_calm, EachMove, Moment, after, lost_then, next}, Fixing.{Fixed, changed, file_after, file_synced, fixed_after, folder_synced, is_at, is_child_of, is_synced, moved_to, moves_file, opened_if, refixed, rewrites_at, same_node, same_thing, synced, temp_synced, writes_at}, Loss.{Loss, node_left}, LossLaws.{BeginsWith, FindsOrLater}}
use Rattle.cacache_loss.proofs.{KeptPaths.{cond_none, each_calm, fixed_next}, SyncedFolders.{left_firm}, Reaching.{at_false, moved_false, not_moved, rewrites_false}}
use Rattle.cacache_history.proofs.durable.{GrownBuckets.{Stands, grown_after}, LineParts.{HoldsFirst, none_first}}
use Rattle.cacache_laws.{specs.trees.Compacting.{compact_text, kept, lines_of, text_of}, proofs.trees.Compactions.CompactTexts.{compact_texts_answer}}
use Rattle.cacache_keep.specs.Losses.{CompactionsGrow, IsFixedAt, WayFixed, moment_after}
use Rattle.cacache_keep.proofs.{Losses.{FixedFolders.{node_lost}, LeanLosses.{lean_now, synced_now}, ApartSteps.{tree_then}}, Indexes.{FoundBuckets.{AreBucketNames}, FoundFolders.{bucket_names_hex}}}

-- ---- one calm move

lengthened : (size : ℕ) (same : Bool) (f : Fixing) → size ≤ f.kept → size ≤ (refixed false same true f).kept
lengthened size true f k = k
lengthened size false f k = k

module _ (home : Option Names) (q : Names) (kind : path_kind home q ≡ IsBucket) (t new : Tree) (fixed : Fixed) (b c : List ℕ) (there : look t q ≡ Some (File b)) (stays : look new q ≡ Some (File c)) (size : ℕ) (short : size ≤ length b) where
  -- as many bytes are fixed, and the name stays fixed
  abbrev Keeps : Fixed → Type 0
  Keeps then = (size ≤ (fixed.files q).kept → size ≤ (then.files q).kept) × (fixed.names q ≡ None → then.names q ≡ None)

  -- a step that is no sync, and moves and writes no file here
  grows : (step : PlainStep) (answer : PlainAnswer) → is_calm step ≡ true → writes_at step q ≡ false → moved_to (moves_file step answer) q ≡ false → Keeps (changed fixed t new step answer)
  grows step answer calm unwritten unmoved = (
    λ k.
        let asked : refixed (rewrites_at t step q) (same_node (look t q) (look new q)) (same_thing (look t q) (look new q)) (opened_if (writes_at step q) (fixed.files q)) ≡ refixed false (bytes_eq b c) true (fixed.files q)
        = rw (rewrites_false t step q calm, unwritten, there, stays) refl in
        let same : file_after fixed t new step answer q ≡ refixed false (bytes_eq b c) true (fixed.files q)
        = not_moved (moves_file step answer) fixed q (refixed (rewrites_at t step q) (same_node (look t q) (look new q)) (same_thing (look t q) (look new q)) (opened_if (writes_at step q) (fixed.files q))) unmoved ∙ asked in
        subst (λ (f : Fixing). size ≤ f.kept) (sym same) (lengthened size (bytes_eq b c) (fixed.files q) k),
    λ e. rw (unmoved, there, stays) e,
  )

  by_sync : (done : Bool) (then : Fixed) → Keeps then → Keeps (cond done then fixed)
  by_sync true then keeps = keeps
  by_sync false then keeps = (λ k. k, λ e. e)

  cond_kept : (done : Bool) (f : Fixing) → size ≤ f.kept → size ≤ (cond done (synced (bytes_of (look t q))) f).kept
  cond_kept true f k = rw there short
  cond_kept false f k = k

  each_grows : (step : PlainStep) (answer : PlainAnswer) → CalmStep home step → Proper home step → Keeps (fixed_after fixed t new step answer)
  each_grows (Persist f p) answer calm proper =
      grows (Persist f p) answer refl refl
      (moved_false (Persist f p) answer q (at_false home Temporary IsBucket q (names_of f.path) proper.0 kind (λ e. cc), at_false home Content IsBucket q (names_of p) proper.1 kind (λ e. cc)))
  each_grows (Write f bytes) answer calm proper = grows (Write f bytes) answer refl (at_false home Temporary IsBucket q (names_of f.path) calm.1 kind (λ e. cc)) refl
  each_grows (SyncTemp f) answer calm proper =
      by_sync (is_synced answer) (temp_synced fixed f) (λ k. rw (at_false home Temporary IsBucket q (names_of f.path) calm.1 kind (λ e. cc)) k, λ e. e)
  each_grows (SyncFile p) answer calm proper = by_sync (is_synced answer) (file_synced fixed t p) (λ k. cond_kept (is_at (leads t p) q) (fixed.files q) k, λ e. e)
  each_grows (SyncDir p) answer calm proper = by_sync (is_synced answer) (folder_synced fixed p) (λ k. k, cond_none (is_child_of (names_of p) q) (fixed.names q))
  each_grows step answer calm proper = grows step answer calm.0 refl refl

-- ---- many calm moves

module _ (home rest : Names) (name : List ℕ) (kind : path_kind (Some home) (home ++ name ∷ rest) ≡ IsBucket) (z : List ℕ) where
  abbrev q : Names
  q = home ++ name ∷ rest

  -- the names of the folders on the way stay fixed
  way_still : (w : Moment) (m : Move) (b : List ℕ) (above more : Names) → above ++ more ≡ q → Stands (Some home) q kind b w → IsCalm (Some home) w m → WayFixed w.fixed above more → WayFixed (next w m).fixed above more
  way_still w m b above (n ∷ k ∷ more) e s calm fixed =
      let here : (above ++ n ∷ []) ++ k ∷ more ≡ q = append_assoc above (n ∷ []) (k ∷ more) ∙ e in
      let way = apart.above (Some home) (above ++ n ∷ []) more k (ap (λ p. is_used (path_kind (Some home) p)) here ∙ ap is_used kind) in
      let folder = upper_folder w.tree (above ++ n ∷ []) more k (File b) s.0.1 (ap (look w.tree) here ∙ s.1) in
      (fixed_next (Some home) w.tree w.fixed (above ++ n ∷ []) m.step m.luck m.answer s.0.0 way folder calm.0 calm.1 fixed.0, way_still w m b (above ++ n ∷ []) (k ∷ more) here s calm fixed.1)
  way_still w m b above more e s calm fixed = tt

  -- a bucket that begins with these bytes, which are fixed, and its name and those of its folders
  record Begun (w : Moment) : Type 0 where
    more : List ℕ
    first : HoldsFirst more
    stands : Stands (Some home) q kind (z ++ more) w
    size : length z ≤ (w.fixed.files q).kept
    own : w.fixed.names q ≡ None
    way : WayFixed w.fixed home (name ∷ rest)

  begun_next : (w : Moment) (m : Move) → Begun w → IsCalm (Some home) w m → Begun (next w m)
  begun_next w m s calm =
      let g = grown_after (Some home) q kind z s.more w (m ∷ []) s.stands s.first (calm, tt) in
      let short : length z ≤ length (z ++ s.more) = omega (arith, length-append z s.more) in
      let k = each_grows (Some home) q kind w.tree (next w m).tree w.fixed (z ++ s.more) (z ++ g.0) s.stands.1 g.2.1 (length z) short m.step m.answer calm.0 calm.1 in
      record { more = g.0; first = g.1; stands = g.2; size = k.0 s.size; own = k.1 s.own; way = way_still w m (z ++ s.more) home (name ∷ rest) refl s.stands calm s.way }

  begun_after : (w : Moment) (moves : List Move) → Begun w → EachMove (IsCalm (Some home)) w moves → Begun (after w moves)
  begun_after w [] s calm = s
  begun_after w (m ∷ moves) s calm = begun_after (next w m) moves (begun_next w m s calm.0) calm.1

  -- ---- after a loss

  take_begins : (x more : List ℕ) (n : ℕ) → length x ≤ n → (left : List ℕ) × (take n (x ++ more) ≡ x ++ left)
  take_begins [] more n long = (take n more, refl)
  take_begins (c ∷ x) more zero long = absurd (omega (arith, long))
  take_begins (c ∷ x) more (suc n) long = let t = take_begins x more n (omega (arith, long)) in (t.0, ap (λ (l : List ℕ). c ∷ l) t.1)

  left_begins : (f : Fixing) (whole : Bool) (more tail : List ℕ) → length z ≤ f.kept → (left : List ℕ) × (cond whole (z ++ more) (take f.kept (z ++ more) ++ tail) ≡ z ++ left)
  left_begins f true more tail long = (more, refl)
  left_begins f false more tail long =
      let t = take_begins z more f.kept long in
      (t.0 ++ tail, ap (λ (l : List ℕ). l ++ tail) t.1 ∙ append_assoc z t.0 tail)

  begun_lost : (w : Moment) (loss : Loss) → Begun w → BeginsWith z (lost_then (Some home) w loss q)
  begun_lost w loss s =
      let b = left_begins (w.fixed.files q) (w.fixed.files q).whole s.more (loss.tail q) s.size in (
        b.0,
        node_lost home w loss s.stands.0.1 (name ∷ rest) (File (z ++ s.more)) s.stands.1 s.way
            ∙ ap (λ (place : Place). node_left place.fixing (loss.tail q) place.node) (left_firm (Some home) w.tree w.fixed loss q (inr s.own))
            ∙ ap (node_left (w.fixed.files q) (loss.tail q)) s.stands.1 ∙ ap (λ (l : List ℕ). Some (File l)) b.1,
      )

  pub grown_lost : (w : Moment) (moves : List Move) (loss : Loss) → Placed (Some home) w.tree → Rooted w.tree → look w.tree q ≡ Some (File z) → w.fixed.files q ≡ synced z → IsFixedAt w.fixed home (name ∷ rest) → AreCalm (Some home) w moves
      → BeginsWith z (lost_then (Some home) (after w moves) loss q)
  grown_lost w moves loss placed rooted there files fixed calm =
      begun_lost (after w moves) loss
      (begun_after w moves
      (record {
        more = [];
        first = none_first;
        stands = ((placed, rooted), there ∙ ap (λ (l : List ℕ). Some (File l)) (sym (append-nil z)));
        size = subst (λ (f : Fixing). length z ≤ f.kept) (sym files) (omega arith);
        own = fixed.1;
        way = fixed.2;
      })
      (each_calm (Some home) w moves calm))

-- ---- lookups

none_after : (key : List ℕ) (found : Option Found) (es : List Entry) → NoneAnswers key es → fold (after_entry key) found es ≡ found
none_after key found [] none = refl
none_after key found (e ∷ es) none = ap (λ a. fold (after_entry key) (unwrap_or a found) es) none.0 ∙ none_after key found es none.1

-- compacted bytes end with a line feed
lean_front : (x : List ℕ) → (front : List ℕ) × (compact_text true x ≡ front ++ 10 ∷ [])
unfolding compact_text
lean_front x = (text_of (kept false (lines_of x)), refl)

-- so what follows them adds its own entries
lean_entries : (x more : List ℕ) → entries_of (compact_text true x ++ more) ≡ entries_of (compact_text true x) ++ entries_of more
lean_entries x more =
    let f = lean_front x in
    let own : entries_of (compact_text true x) ≡ entries_of f.0 = ap entries_of f.1 ∙ entries_split f.0 [] ∙ ap (λ es. entries_of f.0 ++ es) empty_holds_nothing ∙ append-nil (entries_of f.0) in
    ap (λ l. entries_of (l ++ more)) f.1 ∙ ap entries_of (append_assoc f.0 (10 ∷ []) more) ∙ entries_split f.0 more ∙ ap (λ es. es ++ entries_of more) (sym own)

pub finds_or_later : (key bytes : List ℕ) (here : Option Node) → BeginsWith (compact_text true bytes) here → FindsOrLater key (latest key (entries_of bytes)) (entries_of (compact_text true bytes)) here
finds_or_later key bytes here (more, is) =
    let finds : latest key (entries_of (compact_text true bytes) ++ entries_of more) ≡ fold (after_entry key) (latest key (entries_of bytes)) (entries_of more)
    = fold-append (after_entry key) None (entries_of (compact_text true bytes)) (entries_of more) ∙ ap (λ f. fold (after_entry key) f (entries_of more)) ((compact_texts_answer true bytes).finds key) in
    record {
      more = entries_of more;
      bucket = ap bucket_in is ∙ ap Some (lean_entries bytes more);
      finds = finds;
      last = λ none. finds ∙ none_after key (latest key (entries_of bytes)) (entries_of more) none;
    }

-- ---- the law

grown_at : (home : Names) (a b c z : List ℕ) → AreBucketNames a b c → (w : Moment) (moves : List Move) (loss : Loss) → Placed (Some home) w.tree → Rooted w.tree → look w.tree (home ++ index_area ∷ a ∷ b ∷ c ∷ []) ≡ Some (File z)
    → w.fixed.files (home ++ index_area ∷ a ∷ b ∷ c ∷ []) ≡ synced z → IsFixedAt w.fixed home (index_area ∷ a ∷ b ∷ c ∷ []) → AreCalm (Some home) w moves
    → BeginsWith z (lost_then (Some home) (after w moves) loss (home ++ index_area ∷ a ∷ b ∷ c ∷ []))
grown_at home a b c z hex w moves loss placed rooted there files fixed calm =
    grown_lost home (a ∷ b ∷ c ∷ []) index_area (kind-below home (index_area ∷ a ∷ b ∷ c ∷ [])) z w moves loss placed rooted there files fixed calm

pub compactions_grow : CompactionsGrow
compactions_grow cache home count bytes moves more fixed loss old new left is logged c gains placed calm lost = record {
  buckets = begins;
  keys = λ key text there. finds_or_later key text (look left (home ++ bucket_names_of (sha1 key))) (begins (sha1 key) text (keys_have_digests key) there);
}
  where
    begins : (digest text : List ℕ) → IsKeyDigest digest → look (tree_of old) (home ++ bucket_names_of digest) ≡ Some (File text) → BeginsWith (compact_text true text) (look left (home ++ bucket_names_of digest))
    begins digest text d there =
        let now = lean_now cache home count bytes moves fixed old new is logged c gains digest text d there in
        let tree = tree_then old new moves (record { tree = tree_of old; fixed = fixed }) logged gains refl in
        subst (BeginsWith (compact_text true text)) (sym (lost (home ++ bucket_names_of digest)))
        (grown_at home _ _ _ (compact_text true text) (bucket_names_hex digest d) (moment_after (tree_of old) fixed moves) more loss (subst (Placed (Some home)) (sym tree) placed) now.2 now.0
        (synced_now cache home count bytes moves fixed old new is logged c gains digest text d there) now.1 calm)

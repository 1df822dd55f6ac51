-- What a loss leaves right after a durable compaction that succeeded.
-- What a loss leaves of a bucket while later steps leave it and its folders as they are.
use Rattle.std.proofs.Common.{◌≡◌, ◌⊎◌, inl, inr, ℕ, List, [], ◌∷◌, ◌++◌, true, Option, None, Some, Ok, refl, sym, ap, subst, ◌∙◌, append_assoc, Bool, false, cond}
use Rattle.std.specs.{List.{AllByRecursion}, Prelude.{unwrap_or}}
use Rattle.sha1.specs.Sha1.{sha1}
use Rattle.cacache_core.{specs.{Laws.{IsKeyDigest}, Paths.{Names, home_of, names_of, bucket_names_of, index_area}}, proofs.PathLemmas.{keys_have_digests}}
use Rattle.cacache_store.specs.{declared.store.{log.LogItem.{LogItem}, step.Step.TheVariants.{SyncTemp, SyncFile, SyncDir}}, Plain.{PlainStep, PlainAnswer}}
use Rattle.cacache_disk.specs.{declared.{node.Node.{Node, TheVariants.{Folder, File, Link}}, luck.Luck.{Luck}}, Tree.{Rooted, Tree, look, bytes_of}, Replay.{tree_of, IsLog}, LedTo.{leads}, Apply.{apply}}
use Rattle.cacache_disk.proofs.KeptFolders.{steps_keep_rooted}
use Rattle.cacache_entry.specs.Bucket.{Found, latest}
use Rattle.cacache_calls.specs.Runs.{Gains, Moves}
use Rattle.cacache_value.{specs.{Acts.{list_of, Move}, Kinds.{Bucket as IsBucket, path_kind}, Value.{bucket_in}}, proofs.PathKinds.{kind-below}}
use Rattle.cacache_loss.specs.{declared.fixing.Fixing.{Fixing}, Fixing.{Fixed, synced, file_synced, fixed_after, folder_synced, is_at, is_child_of, is_synced, temp_synced}, Loss.{Loss}, LostValues.{LeftOf}, Moments.{Moment, EachMove, after, next}, Syncs.{Leaves, LeavesStep}}
use Rattle.cacache_loss.proofs.{KeptPaths.{cond_none, cond_whole, sync_tree}, Reaching.{file_kept, name_kept}}
use Rattle.cacache_laws.specs.trees.{Compacting.{compact_text}, Verifying.{found_in}}
use Rattle.cacache_laws.proofs.trees.{Compactions.{CompactTexts.{compact_texts_answer}, LeanTrees.{Becomes, same_bytes}}, Covering.{home_named}, Logged.{log_rooted}, Members.{Member, in_left, in_right}}
use Rattle.cacache_keep.specs.{Buckets.{index_area_in}, Compacting.{CompactsAll, CompactsCache}, Losses.{BucketsFixed, CompactionsFix, CompactionsOutlast, IsFixedAt, KeepsLean, moment_after, CompactionsLast, LeavesWay, WayFixed}, Syncing.{folders_above}}
use Rattle.cacache_keep.proofs.{Losses.{ApartSteps.{IsWhole, Fixes, OfTrees, fixes_leads, fixes_on, fixes_then, later, later_split, tree_then}, FixedFolders.{IsFixedFolder, SyncsNames, file_lost, in_turn_fixed}, SettledBuckets.{Held, HeldWhole, Settled, SettlesThese, each_settles}}, Indexes.{FoundBuckets.{AreBucketNames, FindsFiles, area_named, buckets_found}, FoundFolders.{FolderNamed, folders_named, bucket_names_hex}}, NewBuckets.WholeCompactions.{compactions_leave}}

-- ---- the folders above those of buckets

folders_among : (cache : List ℕ) (tops : List (List ℕ)) (top : List ℕ) → Member top tops
    → Member top (folders_above cache tops) × Member (index_area_in cache) (folders_above cache tops) × Member cache (folders_above cache tops)
folders_among cache [] top m = absurd m
folders_among cache (t ∷ tops) top m = (
  in_left top (t ∷ tops) (index_area_in cache ∷ cache ∷ []) m,
  in_right (index_area_in cache) (t ∷ tops) (index_area_in cache ∷ cache ∷ []) (inl refl),
  in_right cache (t ∷ tops) (index_area_in cache ∷ cache ∷ []) (inr (inl refl)),
)

names_fixed : (f : List ℕ) (p : Names) (name : List ℕ) (v : Moment) → names_of f ≡ Ok p → IsFixedFolder f v → v.fixed.names (p ++ name ∷ []) ≡ None
names_fixed f p name v named fixed =
    let both : Ok fixed.0 ≡ Ok p = sym fixed.1 ∙ named in
    let same : fixed.0 ≡ p = cc in
    ap (λ (r : Names). v.fixed.names (r ++ name ∷ [])) (sym same) ∙ fixed.2 name

top_fixed : (cache : List ℕ) (home : Names) (name : List ℕ) (v : Moment) → home_of cache ≡ Some home → IsFixedFolder cache v → v.fixed.names (home ++ name ∷ []) ≡ None
top_fixed cache home name v is fixed =
    let both : Some fixed.0 ≡ Some home = sym (home_named cache fixed.0 fixed.1) ∙ is in
    let same : fixed.0 ≡ home = cc in
    names_fixed cache home name v (fixed.1 ∙ ap Ok same) fixed

-- ---- one bucket

module _ (cache : List ℕ) (home : Names) (is : home_of cache ≡ Some home) (a b c : List ℕ) (hex : AreBucketNames a b c) where
  abbrev folder : Names
  folder = home ++ index_area ∷ a ∷ b ∷ []

  same_place : (home ++ index_area ∷ a ∷ b ∷ []) ++ c ∷ [] ≡ home ++ index_area ∷ a ∷ b ∷ c ∷ []
  same_place = append_assoc home (index_area ∷ a ∷ b ∷ []) (c ∷ [])

  bucket_kind : path_kind (Some home) (folder ++ c ∷ []) ≡ IsBucket
  bucket_kind = ap (path_kind (Some home)) same_place ∙ kind-below home (index_area ∷ a ∷ b ∷ c ∷ [])

  -- its bytes and its name are fixed, and the names of the folders on its way
  abbrev pub FixedHere : Moment → Type 0
  FixedHere v = IsFixedAt v.fixed home (index_area ∷ a ∷ b ∷ c ∷ []) × HeldWhole v (home ++ index_area ∷ a ∷ b ∷ c ∷ [])

  all_fixed : (tops : List (List ℕ)) (top : List ℕ) (v : Moment) → Member top tops → names_of top ≡ Ok (home ++ index_area ∷ a ∷ []) → Settled v (folder ++ c ∷ [])
      → ((f : List ℕ) → Member f (folders_above cache tops) → IsFixedFolder f v) → FixedHere v
  all_fixed tops top v m named settled each =
      let among = folders_among cache tops top m in
      let two : (home ++ index_area ∷ []) ++ a ∷ [] ≡ home ++ index_area ∷ a ∷ [] = append_assoc home (index_area ∷ []) (a ∷ []) in (
        (
          subst (IsWhole v.fixed) same_place (ap (λ (f : Fixing). f.whole) settled.0.2),
          ap v.fixed.names (sym same_place) ∙ settled.1,
          (
            top_fixed cache home index_area v is (each cache among.2),
            (
              names_fixed (index_area_in cache) (home ++ index_area ∷ []) a v (area_named cache home is) (each (index_area_in cache) among.1),
              (ap (λ (q : Names). v.fixed.names (q ++ b ∷ [])) two ∙ names_fixed top (home ++ index_area ∷ a ∷ []) b v named (each top among.0), tt),
            ),
          ),
        ),
        subst (HeldWhole v) same_place settled.0,
      )

  -- once it is found, compacted, and the folders above are synced
  abbrev Ends : List (List ℕ) → List (List ℕ) → Moment → Moves → Type 0
  Ends tops paths w moves =
      (path top : List ℕ) → Member path paths → names_of path ≡ Ok (folder ++ c ∷ []) → Member top tops → names_of top ≡ Ok (home ++ index_area ∷ a ∷ [])
      → Held w (folder ++ c ∷ []) → FixedHere (later w moves)

  abbrev pub FixesIt : Moment → Moves → Type 0
  FixesIt w moves = Held w (folder ++ c ∷ []) → FixedHere (later w moves)

  compacted_fixes : (tops paths : List (List ℕ)) (count bytes : ℕ) (found done new : Option (List LogItem)) → AllByRecursion FolderNamed paths → CompactsAll true cache paths count bytes found done
      → Fixes (SyncsNames (folder ++ c ∷ []) (folders_above cache tops)) done new → Fixes (Ends tops paths) found new
  compacted_fixes tops paths count bytes found done new named all above =
      fixes_then (SettlesThese cache home is folder c bucket_kind paths) (SyncsNames (folder ++ c ∷ []) (folders_above cache tops)) (Ends tops paths) found done new
      (subst (λ (p : List (List ℕ)). Fixes (SettlesThese cache home is folder c bucket_kind p) found done) all.each
      (each_settles cache home is folder c bucket_kind all.buckets found done (subst (AllByRecursion FolderNamed) (sym all.each) named) all.compacting))
      above
      (λ w one two rooted x y path top m at n up held.
      let settled = y.0.1 (x.1 path m at held) in
      subst FixedHere (sym (later_split w one two)) (all_fixed tops top (later (later w one) two) n up settled y.2))

  pub compaction_fixes : (count bytes : ℕ) (old new : Option (List LogItem)) → CompactsCache true cache count bytes old new → Fixes FixesIt old new
  compaction_fixes count bytes old new (tops, paths, found, done, finding, all, above) =
      fixes_then (OfTrees (FindsFiles home tops paths)) (Ends tops paths) FixesIt old found new (fixes_leads (FindsFiles home tops paths) old found (buckets_found cache home tops paths old found is finding))
      (compacted_fixes tops paths count bytes found done new (folders_named cache home tops paths old found is finding) all (in_turn_fixed (folder ++ c ∷ []) (folders_above cache tops) done new above))
      (λ w one two rooted x y held.
      let f = x.covers a b c held.0 hex (ap (look w.tree) (sym same_place) ∙ held.1) in
      let still : Held (later w one) (folder ++ c ∷ []) = (held.0, ap (λ (t : Tree). look t (folder ++ c ∷ [])) x.stays ∙ held.1) in
      subst FixedHere (sym (later_split w one two)) (y f.path f.top f.member (f.named ∙ ap Ok (sym same_place)) f.top_member f.top_named still))

-- ---- after a loss

-- a bucket's bytes are left as they were, or compacted
abbrev pub IsEither : Bool → List ℕ → Option Node → Type 0
IsEither durable bytes here = (here ≡ Some (File bytes)) ⊎ (here ≡ Some (File (compact_text durable bytes)))

-- a lookup finds then what it finds in a bucket's bytes
pub key_keeps : (durable : Bool) (home : Names) (left : Tree) (key : List ℕ) (found : Found) (bytes : List ℕ) → IsEither durable bytes (look left (home ++ bucket_names_of (sha1 key)))
    → latest key (list_of (bucket_in (Some (File bytes)))) ≡ Some found → found_in home left key ≡ Some found
key_keeps durable home left key found bytes (inl same) finds = ap (λ o. latest key (list_of (bucket_in o))) same ∙ finds
key_keeps durable home left key found bytes (inr compacted) finds = ap (λ o. latest key (list_of (bucket_in o))) compacted ∙ (compact_texts_answer durable bytes).finds key ∙ finds

keys_keep : (home : Names) (t left : Tree) (key : List ℕ) (found : Found) (here : Option Node) → look t (home ++ bucket_names_of (sha1 key)) ≡ here
    → ((bytes : List ℕ) → look t (home ++ bucket_names_of (sha1 key)) ≡ Some (File bytes) → IsEither true bytes (look left (home ++ bucket_names_of (sha1 key))))
    → latest key (list_of (bucket_in here)) ≡ Some found → found_in home left key ≡ Some found
keys_keep home t left key found None is lean finds = absurd cc
keys_keep home t left key found (Some Folder) is lean finds = absurd cc
keys_keep home t left key found (Some (Link target)) is lean finds = absurd cc
keys_keep home t left key found (Some (File bytes)) is lean finds = key_keeps true home left key found bytes (lean bytes is) finds

module _ (cache : List ℕ) (home : Names) (count bytes : ℕ) (moves : Moves) (fixed : Fixed) (old new : List LogItem)
    (is : home_of cache ≡ Some home) (logged : IsLog new) (c : CompactsCache true cache count bytes (Some old) (Some new)) (gains : Gains (Some old) (Some new) moves) where
  abbrev start : Moment
  start = record { tree = tree_of old; fixed = fixed }

  now_is : (later start moves).tree ≡ tree_of new
  now_is = tree_then old new moves start logged gains refl

  fixed_here : (a b e text : List ℕ) → AreBucketNames a b e → look (tree_of old) (home ++ index_area ∷ a ∷ b ∷ e ∷ []) ≡ Some (File text)
      → IsFixedAt (later start moves).fixed home (index_area ∷ a ∷ b ∷ e ∷ []) × HeldWhole (later start moves) (home ++ index_area ∷ a ∷ b ∷ e ∷ [])
  fixed_here a b e text hex there =
      fixes_on (FixesIt cache home is a b e hex) old new moves start logged gains refl (compaction_fixes cache home is a b e hex count bytes (Some old) (Some new) c)
      (text, ap (look (tree_of old)) (same_place cache home is a b e hex) ∙ there)

  bucket_fixed : (digest text : List ℕ) → IsKeyDigest digest → look (tree_of old) (home ++ bucket_names_of digest) ≡ Some (File text)
      → IsFixedAt (later start moves).fixed home (bucket_names_of digest) × HeldWhole (later start moves) (home ++ bucket_names_of digest)
  bucket_fixed digest text d there = fixed_here _ _ _ text (bucket_names_hex digest d) there

  all_buckets_fixed : BucketsFixed home (tree_of new) (later start moves).fixed
  all_buckets_fixed digest text d there = by ((compactions_leave true cache home count bytes old new is logged c).tree (home ++ bucket_names_of digest))
    where
      by : Becomes true home (home ++ bucket_names_of digest) (look (tree_of old) (home ++ bucket_names_of digest)) (look (tree_of new) (home ++ bucket_names_of digest)) → IsFixedAt (later start moves).fixed home (bucket_names_of digest)
      by (inl same) = (bucket_fixed digest text d (sym same ∙ there)).0
      by (inr (inl lean)) = (bucket_fixed digest lean.1 d lean.2).0
      by (inr (inr made)) = absurd (let wrong : Some Folder ≡ Some (File text) = sym made.2 ∙ there in cc)

  -- a bucket is compacted by then, and fixed
  pub lean_now : (digest text : List ℕ) → IsKeyDigest digest → look (tree_of old) (home ++ bucket_names_of digest) ≡ Some (File text)
      → (look (later start moves).tree (home ++ bucket_names_of digest) ≡ Some (File (compact_text true text))) × IsFixedAt (later start moves).fixed home (bucket_names_of digest)
      × Rooted (later start moves).tree
  lean_now digest text d there = (
    ap (λ (t : Tree). look t (home ++ bucket_names_of digest)) now_is ∙ (compactions_leave true cache home count bytes old new is logged c).buckets digest text d there,
    (bucket_fixed digest text d there).0,
    subst Rooted (sym now_is) (log_rooted new),
  )

  -- and synced with these bytes
  pub synced_now : (digest text : List ℕ) → IsKeyDigest digest → look (tree_of old) (home ++ bucket_names_of digest) ≡ Some (File text)
      → (later start moves).fixed.files (home ++ bucket_names_of digest) ≡ synced (compact_text true text)
  synced_now digest text d there =
      let held = (bucket_fixed digest text d there).1 in
      held.2 ∙ ap synced (same_bytes held.0 (compact_text true text) (look (later start moves).tree (home ++ bucket_names_of digest)) held.1 (lean_now digest text d there).0)

  module _ (loss : Loss) (left : Tree) (lost : LeftOf home (moment_after (tree_of old) fixed moves) loss left) where
    lean : (digest text : List ℕ) → IsKeyDigest digest → look (tree_of old) (home ++ bucket_names_of digest) ≡ Some (File text) → look left (home ++ bucket_names_of digest) ≡ Some (File (compact_text true text))
    lean digest text d there =
        let now = lean_now digest text d there in
        lost (home ++ bucket_names_of digest) ∙ file_lost home (later start moves) loss now.2 (bucket_names_of digest) (compact_text true text) now.0 now.1

    kept : KeepsLean home (tree_of old) left
    kept = record {
      buckets = lean;
      keys = λ key found finds.
          keys_keep home (tree_of old) left key found (look (tree_of old) (home ++ bucket_names_of (sha1 key))) refl
          (λ text there. inr (lean (sha1 key) text (keys_have_digests key) there)) finds;
    }

pub compactions_fix : CompactionsFix
compactions_fix cache home count bytes moves fixed old new is logged c gains = all_buckets_fixed cache home count bytes moves fixed old new is logged c gains

pub compactions_outlast : CompactionsOutlast
compactions_outlast cache home count bytes moves fixed loss old new left is logged c gains lost = kept cache home count bytes moves fixed old new is logged c gains loss left lost

-- ---- one move

-- what is at a path stays, and so does what of it is fixed
abbrev Still : Tree → Fixed → Tree → Fixed → Names → Type 0
Still t fixed new then q =
    (look new q ≡ look t q) × (IsWhole fixed q → IsWhole then q) × (fixed.names q ≡ None → then.names q ≡ None)

synced_still : (t : Tree) (fixed then : Fixed) (q : Names) (done : Bool) → (IsWhole fixed q → IsWhole then q) → (fixed.names q ≡ None → then.names q ≡ None) → Still t fixed t (cond done then fixed) q
synced_still t fixed then q true whole name = (refl, whole, name)
synced_still t fixed then q false whole name = (refl, λ e. e, λ e. e)

step_still : (w : Moment) (step : PlainStep) (luck : Luck) (answer : PlainAnswer) (q : Names) → LeavesStep q w step (apply w.tree step luck).1 answer
    → Still w.tree w.fixed (apply w.tree step luck).1 (fixed_after w.fixed w.tree (apply w.tree step luck).1 step answer) q
step_still w (SyncTemp f) luck answer q leaves =
    rw (sync_tree w.tree (SyncTemp f) luck refl)
    (synced_still w.tree w.fixed (temp_synced w.fixed f) q (is_synced answer) (cond_whole (is_at (names_of f.path) q) (unwrap_or f.bytes []) (w.fixed.files q)) (λ e. e))
step_still w (SyncFile p) luck answer q leaves =
    rw (sync_tree w.tree (SyncFile p) luck refl)
    (synced_still w.tree w.fixed (file_synced w.fixed w.tree p) q (is_synced answer) (cond_whole (is_at (leads w.tree p) q) (bytes_of (look w.tree q)) (w.fixed.files q)) (λ e. e))
step_still w (SyncDir p) luck answer q leaves =
    rw (sync_tree w.tree (SyncDir p) luck refl)
    (synced_still w.tree w.fixed (folder_synced w.fixed p) q (is_synced answer) (λ e. e) (cond_none (is_child_of (names_of p) q) (w.fixed.names q)))
step_still w step luck answer q leaves = (
  leaves.0,
  λ e. ap (λ (f : Fixing). f.whole) (file_kept w.fixed w.tree (apply w.tree step luck).1 step answer q (look w.tree q) refl leaves.0 leaves.3 leaves.2 leaves.1) ∙ e,
  λ e. name_kept w.fixed w.tree (apply w.tree step luck).1 step answer q (look w.tree q) refl leaves.0 leaves.3 ∙ e,
)

move_still : (w : Moment) (m : Move) (q : Names) → Leaves q w m → Still w.tree w.fixed (next w m).tree (next w m).fixed q
move_still w m q leaves = step_still w m.step m.luck m.answer q leaves

-- ---- the way to a bucket

way_still : (w : Moment) (m : Move) (above rest : Names) → LeavesWay above rest w m → WayFixed w.fixed above rest → WayFixed (next w m).fixed above rest
way_still w m above (name ∷ more ∷ rest) leaves fixed =
    ((move_still w m (above ++ name ∷ []) leaves.0).2 fixed.0, way_still w m (above ++ name ∷ []) (more ∷ rest) leaves.1 fixed.1)
way_still w m above rest leaves fixed = tt

end_left : (w : Moment) (m : Move) (above rest : Names) (name : List ℕ) → LeavesWay above (name ∷ rest) w m → Leaves (above ++ name ∷ rest) w m
end_left w m above [] name leaves = leaves.0
end_left w m above (more ∷ rest) name leaves =
    subst (λ q. Leaves q w m) (append_assoc above (name ∷ []) (more ∷ rest)) (end_left w m (above ++ name ∷ []) rest more leaves.1)

module _ (home rest : Names) (name bytes : List ℕ) where
  abbrev pub Stays : Moment → Type 0
  Stays w = (look w.tree (home ++ name ∷ rest) ≡ Some (File bytes)) × IsFixedAt w.fixed home (name ∷ rest) × Rooted w.tree

  stays_fixed : (w : Moment) (moves : List Move) → EachMove (LeavesWay home (name ∷ rest)) w moves → Stays w → Stays (after w moves)
  stays_fixed w [] leaves s = s
  stays_fixed w (m ∷ moves) leaves s =
      let still = move_still w m (home ++ name ∷ rest) (end_left w m home rest name leaves.0) in
      stays_fixed (next w m) moves leaves.1
      (still.0 ∙ s.0, (still.1 s.1.0, still.2 s.1.1, way_still w m home (name ∷ rest) leaves.0 s.1.2), steps_keep_rooted w.tree m.step m.luck s.2)

-- by the names of a bucket
lasts_at : (home : Names) (a b c bytes : List ℕ) → AreBucketNames a b c → (w : Moment) (moves : List Move) → EachMove (LeavesWay home (index_area ∷ a ∷ b ∷ c ∷ [])) w moves
    → Stays home (a ∷ b ∷ c ∷ []) index_area bytes w → Stays home (a ∷ b ∷ c ∷ []) index_area bytes (after w moves)
lasts_at home a b c bytes hex w moves leaves s = stays_fixed home (a ∷ b ∷ c ∷ []) index_area bytes w moves leaves s

pub compactions_last : CompactionsLast
compactions_last cache home count bytes moves more fixed loss old new left digest text is logged c gains d there leaves lost =
    let lean = lean_now cache home count bytes moves fixed old new is logged c gains digest text d there in
    let s = lasts_at home _ _ _ (compact_text true text) (bucket_names_hex digest d) (moment_after (tree_of old) fixed moves) more leaves lean in
    lost (home ++ bucket_names_of digest)
    ∙ file_lost home (after (moment_after (tree_of old) fixed moves) more) loss s.2 (bucket_names_of digest) (compact_text true text) s.0 s.1

-- A durable compaction fixes the bytes and the names of its buckets.
use Rattle.std.proofs.Common.{◌≡◌, inl, inr, ℕ, List, [], ◌∷◌, ◌++◌, Bool, true, false, cond, map, Option, None, Some, Ok, refl, sym, ap, subst, ◌∙◌}
use Rattle.std.specs.{List.{AllByRecursion}, Prelude.{unwrap_or}}
use Rattle.cacache_core.specs.Paths.{Names, home_of, names_of}
use Rattle.cacache_store.specs.declared.store.answer.Answer.TheVariants as answers
use Rattle.cacache_store.specs.declared.store.{log.LogItem.{LogItem}, plain.PlainTemp.{PlainTemp}}
use Rattle.cacache_store.specs.declared.store.step.Step.TheVariants as steps
use Rattle.cacache_disk.{specs.{declared.node.Node.TheVariants.{File}, Tree.{Tree, bytes_of, cut, look, put}}, proofs.{PutNodes.{look-put}, Roots.{same_self}}}
use Rattle.cacache_calls.specs.{Runs.{Moves}, SingleSteps.{Does}}
use Rattle.cacache_value.specs.Kinds.{Bucket as IsBucket, path_kind}
use Rattle.cacache_loss.{specs.{Fixing.{is_at, synced}, Moments.{Moment}}, proofs.{Buckets.{leads_file}, KeptPaths.{sync_fixes}}}
use Rattle.cacache_laws.{specs.trees.Compacting.{compact_text}, proofs.trees.Members.{Member}}
use Rattle.cacache_keep.specs.{Compacting.{Bucket, CompactsBucket, CompactsEach, RewritesIf, is_loose}, Rewriting.{Rewrites, SyncsBucket, folder_of}}
use Rattle.cacache_keep.proofs.{Losses.{ApartSteps.{EachApart, moves_kept, named_there, name_still, synced_still, Fixes, fixes_as, fixes_none, fixes_step, fixes_then, later, later_split}, ApartBuckets.{AllApart, Full, bucket_apart, full_apart}}, Indexes.FoundFolders.{FolderNamed}, NewBuckets.MovedFiles.{moved}}

-- a file is there
abbrev pub Held : Moment → Names → Type 0
Held w q = (bytes : List ℕ) × (look w.tree q ≡ Some (File bytes))

-- and it is synced with all of its bytes
abbrev pub HeldWhole : Moment → Names → Type 0
HeldWhole w q = (bytes : List ℕ) × (look w.tree q ≡ Some (File bytes)) × (w.fixed.files q ≡ synced bytes)

-- and so is its name
abbrev pub Settled : Moment → Names → Type 0
Settled w q = HeldWhole w q × (w.fixed.names q ≡ None)

abbrev pub StaysHeld : Names → Moment → Moves → Type 0
StaysHeld q w moves = (Held w q → Held (later w moves) q) × (Settled w q → Settled (later w moves) q)

-- moves that are apart leave it so
pub apart_held : (q : Names) (w : Moment) (moves : Moves) → EachApart q moves → StaysHeld q w moves
apart_held q w moves apart = (
  λ h. (h.0, (moves_kept w moves q (File h.0) h.1 apart).stands),
  λ s. let k = moves_kept w moves q (File s.0.0) s.0.1 apart in ((s.0.0, k.stands, synced_still w (later w moves) q (File s.0.0) k s.0.2), name_still w (later w moves) q (File s.0.0) k s.1),
)

pub held_then : (q : Names) (w : Moment) (one two : Moves) → StaysHeld q w one → StaysHeld q (later w one) two → StaysHeld q w (one ++ two)
held_then q w one two a b = (
  λ h. subst (λ v. Held v q) (sym (later_split w one two)) (b.0 (a.0 h)),
  λ s. subst (λ v. Settled v q) (sym (later_split w one two)) (b.1 (a.1 s)),
)

-- ---- the bucket itself

module _ (cache : List ℕ) (home : Names) (is : home_of cache ≡ Some home) (d : Names) (n : List ℕ) (kind : path_kind (Some home) (d ++ n ∷ []) ≡ IsBucket) where
  abbrev q : Names
  q = d ++ n ∷ []

  -- the temporary file is synced, wherever it lies
  abbrev IsSynced : PlainTemp → Moment → Type 0
  IsSynced full w = (from : Names) → names_of full.path ≡ Ok from → w.fixed.files from ≡ synced (unwrap_or full.bytes [])

  abbrev Whole : PlainTemp → Moment → Moves → Type 0
  Whole full w moves = IsSynced full (later w moves)

  temp_whole : (full : PlainTemp) (old new : Option (List LogItem)) → Does (steps.SyncTemp full) (answers.Synced full) old new → Fixes (Whole full) old new
  temp_whole full old new does = fixes_step (Whole full) (steps.SyncTemp full) (answers.Synced full) old new does (λ w rooted e from named. rw (named, same_self from) refl)

  -- and once it is moved to the path, that is
  abbrev Arrives : PlainTemp → Moment → Moves → Type 0
  Arrives full w moves = IsSynced full w → HeldWhole (later w moves) q

  move_whole : (full : PlainTemp) (path : List ℕ) (old new : Option (List LogItem)) → names_of path ≡ Ok q → Does (steps.Persist full path) answers.Done old new → Fixes (Arrives full) old new
  move_whole full path old new named does =
      fixes_step (Arrives full) (steps.Persist full path) answers.Done old new does
      (λ w rooted e whole.
      let m = moved full path w.tree e in
      let both : Ok m.to ≡ Ok q = sym m.at ∙ named in
      let here : m.to ≡ q = cc in (
        m.bytes,
        ap (λ (t : Tree). look t q) (m.leads ∙ ap (λ (p : Names). put (cut w.tree m.old) p (File m.bytes)) here) ∙ look-put (cut w.tree m.old) q (File m.bytes) q
            ∙ ap (λ b. cond b (Some (File m.bytes)) (look (cut w.tree m.old) q)) (same_self q),
        rw (m.from, named, same_self q) (whole m.old m.from ∙ ap (λ o. synced (unwrap_or o [])) m.has),
      ))

  -- once the folder is synced, so is the name
  abbrev Secures : Moment → Moves → Type 0
  Secures w moves = HeldWhole w q → Settled (later w moves) q

  folder_fixed : (folder : List ℕ) (old new : Option (List LogItem)) → names_of folder ≡ Ok d → Does (steps.SyncDir folder) answers.Done old new → Fixes Secures old new
  folder_fixed folder old new named does =
      fixes_step Secures (steps.SyncDir folder) answers.Done old new does
      (λ w rooted e h.
      let k = moves_kept w ((steps.SyncDir folder, answers.Done) ∷ []) q (File h.0) h.1 (tt, tt) in
      ((h.0, k.stands, synced_still w (later w ((steps.SyncDir folder, answers.Done) ∷ [])) q (File h.0) k h.2), sync_fixes d n w.fixed w.tree w.tree (steps.SyncDir folder) answers.Done (named, refl)))

  -- a file that is synced in its place is whole
  abbrev SyncsHere : Moment → Moves → Type 0
  SyncsHere w moves = Held w q → HeldWhole (later w moves) q

  file_whole : (path : List ℕ) (old new : Option (List LogItem)) → names_of path ≡ Ok q → Does (steps.SyncFile path) answers.Done old new → Fixes SyncsHere old new
  file_whole path old new named does =
      fixes_step SyncsHere (steps.SyncFile path) answers.Done old new does
      (λ w rooted e h.
      let k = moves_kept w ((steps.SyncFile path, answers.Done) ∷ []) q (File h.0) h.1 (tt, tt) in
      (h.0, k.stands, rw (leads_file w.tree path h.0 q rooted named h.1, same_self q) (ap (λ o. synced (bytes_of o)) h.1)))

  -- ---- a bucket that is compacted

  abbrev Settles : Moment → Moves → Type 0
  Settles w moves = Held w q → Settled (later w moves) q

  rewrite_settles : (path bytes : List ℕ) (old new : Option (List LogItem)) → names_of path ≡ Ok q → names_of (folder_of path) ≡ Ok d → Rewrites true cache path bytes old new → Fixes Settles old new
  rewrite_settles path bytes old new named folder r =
      fixes_then (Full cache home is q IsBucket kind (λ e. cc) r.full bytes) (λ w moves. Settled (later w moves) q) Settles old r.written new
      (full_apart cache home is q IsBucket kind (λ e. cc) r.file r.full bytes old r.made r.written r.making r.writing)
      (fixes_then (Whole r.full) (λ w moves. IsSynced r.full w → Settled (later w moves) q) (λ w moves. Settled (later w moves) q) r.written r.synced new
      (temp_whole r.full r.written r.synced r.syncing)
      (fixes_then (Arrives r.full) Secures (λ w moves. IsSynced r.full w → Settled (later w moves) q) r.synced r.moved new
      (move_whole r.full path r.synced r.moved named r.moving) (folder_fixed (folder_of path) r.moved new folder r.securing)
      (λ w one two rooted a b whole. subst (λ v. Settled v q) (sym (later_split w one two)) (b (a whole))))
      (λ w one two rooted a b. subst (λ v. Settled v q) (sym (later_split w one two)) (b a)))
      (λ w one two rooted a b held. subst (λ v. Settled v q) (sym (later_split w one two)) b)

  sync_settles : (path : List ℕ) (old new : Option (List LogItem)) → names_of path ≡ Ok q → names_of (folder_of path) ≡ Ok d → SyncsBucket true path old new → Fixes Settles old new
  sync_settles path old new named folder (synced, file, dir) =
      fixes_then SyncsHere Secures Settles old synced new (file_whole path old synced named file) (folder_fixed (folder_of path) synced new folder dir)
      (λ w one two rooted a b held. subst (λ v. Settled v q) (sym (later_split w one two)) (b (a held)))

  settles : (loose : Bool) (b : Bucket) (old new : Option (List LogItem)) → names_of b.0 ≡ Ok q → names_of (folder_of b.0) ≡ Ok d → RewritesIf loose true cache b old new → Fixes Settles old new
  settles true b old new named folder r = rewrite_settles b.0 (compact_text true b.1) old new named folder r
  settles false b old new named folder r = sync_settles b.0 old new named folder r

  bucket_settles : (b : Bucket) (old new : Option (List LogItem)) → names_of b.0 ≡ Ok q → names_of (folder_of b.0) ≡ Ok d → CompactsBucket true cache b old new → Fixes Settles old new
  bucket_settles b old new named folder (read, does, rest) =
      fixes_then (StaysHeld q) Settles Settles old read new
      (fixes_step (StaysHeld q) (steps.ReadAll b.0) (answers.Bytes b.1) old read does (λ w rooted e. apart_held q w ((steps.ReadAll b.0, answers.Bytes b.1) ∷ []) (tt, tt)))
      (settles (is_loose true b) b read new named folder rest)
      (λ w one two rooted a b held. subst (λ v. Settled v q) (sym (later_split w one two)) (b (a.0 held)))

  -- ---- buckets, one after another

  -- a file that is there stays; and it is settled if it was, or if its bucket is among these
  abbrev pub SettlesThese : List (List ℕ) → Moment → Moves → Type 0
  SettlesThese paths w moves =
      StaysHeld q w moves
      × ((path : List ℕ) → Member path paths → names_of path ≡ Ok q → Held w q → Settled (later w moves) q)

  one_settles : (b : Bucket) (old new : Option (List LogItem)) → FolderNamed b.0 → CompactsBucket true cache b old new → (here : Bool) → is_at (names_of b.0) q ≡ here → Fixes (SettlesThese (b.0 ∷ [])) old new
  one_settles b old new folder c true here =
      let named = named_there b.0 q here in
      fixes_as Settles (SettlesThese (b.0 ∷ [])) old new (bucket_settles b old new named (folder d n named) c)
      (λ w moves rooted s. ((λ h. let t = s h in (t.0.0, t.0.1), λ h. s (h.0.0, h.0.1)), λ path m e h. s h))
  one_settles b old new folder c false here =
      fixes_as (AllApart cache home is q IsBucket kind (λ e. cc)) (SettlesThese (b.0 ∷ [])) old new (bucket_apart cache home is q IsBucket kind (λ e. cc) true b old new here c)
      (λ w moves rooted a. (apart_held q w moves a, λ path m e h. absurd (elsewhere path m e)))
    where
      elsewhere : (path : List ℕ) → Member path (b.0 ∷ []) → names_of path ≡ Ok q → ⊥
      elsewhere path (inl same) e =
          let wrong : true ≡ false = sym (same_self q) ∙ ap (λ r. is_at r q) (sym e ∙ ap names_of same) ∙ here in cc
      elsewhere path (inr more) e = absurd more

  these_then : (p : List ℕ) (paths : List (List ℕ)) (w : Moment) (one two : Moves) → SettlesThese (p ∷ []) w one → SettlesThese paths (later w one) two → SettlesThese (p ∷ paths) w (one ++ two)
  these_then p paths w one two a b = (held_then q w one two a.0 b.0, λ path m e h. subst (λ v. Settled v q) (sym (later_split w one two)) (by path m e h))
    where
      by : (path : List ℕ) → Member path (p ∷ paths) → names_of path ≡ Ok q → Held w q → Settled (later (later w one) two) q
      by path (inl same) e h = b.0.1 (a.1 path (inl same) e h)
      by path (inr m) e h = b.1 path m e (a.0.0 h)

  pub each_settles : (buckets : List Bucket) (old new : Option (List LogItem)) → AllByRecursion FolderNamed (map (λ (b : Bucket). b.0) buckets) → CompactsEach true cache buckets old new
      → Fixes (SettlesThese (map (λ (b : Bucket). b.0) buckets)) old new
  each_settles [] old new named same = fixes_none (SettlesThese []) old new same (λ w. ((λ h. h, λ s. s), λ path m e h. absurd m))
  each_settles (b ∷ buckets) old new named (next, one, more) =
      fixes_then (SettlesThese (b.0 ∷ [])) (SettlesThese (map (λ (b : Bucket). b.0) buckets)) (SettlesThese (b.0 ∷ map (λ (b : Bucket). b.0) buckets)) old next new
      (one_settles b old next named.0 one (is_at (names_of b.0) q) refl) (each_settles buckets next new named.1 more)
      (λ w first rest rooted a c. these_then b.0 (map (λ (b : Bucket). b.0) buckets) w first rest a c)

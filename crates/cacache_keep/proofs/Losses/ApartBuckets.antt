-- The compaction of a bucket leaves what is fixed of other paths.
use Rattle.std.proofs.Common.{◌≡◌, ◌⊎◌, inl, inr, ℕ, List, [], ◌∷◌, ◌++◌, Bool, true, false, drop, take, Option, Some, Ok, refl, sym, ap, subst, ◌∙◌, append-nil}
use Rattle.std.specs.Prelude.{IfOk}
use Rattle.cacache_core.specs.{declared.errors.Error.{Error}, Paths.{Names, home_of, names_of, temp_area, temp_names}}
use Rattle.cacache_store.specs.declared.store.answer.Answer.TheVariants as answers
use Rattle.cacache_store.specs.{declared.store.{log.LogItem.{LogItem}, plain.PlainTemp.{PlainTemp}}, Plain.{PlainStep}}
use Rattle.cacache_store.specs.declared.store.step.Step.TheVariants as steps
use Rattle.cacache_disk.specs.Tree.{Tree}
use Rattle.cacache_calls.specs.{Runs.{Moves}, SingleSteps.{Does, FailsAt}, Steps.{temp_folder, temp_path}}
use Rattle.cacache_value.{specs.Kinds.{PathKind, Temporary, path_kind}, proofs.PathKinds.{kind-below}}
use Rattle.cacache_laws.{specs.{Sequence.{AreAnswered}, trees.Compacting.{compact_text}}, proofs.Calls.InParts.{writing_keeps}}
use Rattle.cacache_loss.{specs.{Fixing.{is_at}, Moments.{Moment}}, proofs.Reaching.{at_false}}
use Rattle.cacache_keep.specs.{Compacting.{Bucket, CompactsBucket, RewritesIf, StopsBucket, StopsUnchanged, is_loose}, Rewriting.{MakesTemp, Rewrites, StopsMaking, StopsMoving, StopsRewriting, StopsSecuring, StopsSyncingBucket, StopsWriting, SyncsBucket, SyncsFolder, Takes, TakesNone, Took, folder_of}}
use Rattle.cacache_keep.proofs.{Losses.ApartSteps.{Apart, EachApart, apart_join, Fixes, fixes_failed, fixes_none, fixes_step, fixes_then}, NewBuckets.Rewritten.{Has, temp_made, temp_path_named, wrote_has, writes_take}}

module _ (cache : List ℕ) (home : Names) (is : home_of cache ≡ Some home) (q : Names) (k : PathKind) (kind : path_kind (Some home) q ≡ k) (other : k ≡ Temporary → ⊥) where
  -- the text leads elsewhere
  abbrev pub Spares : List ℕ → Type 0
  Spares p = is_at (names_of p) q ≡ false

  spared : (p : List ℕ) (names : Names) → names_of p ≡ Ok names → path_kind (Some home) names ≡ Temporary → Spares p
  spared p names named temp = at_false (Some home) Temporary k q (names_of p) (subst (λ r. IfOk r (λ n. path_kind (Some home) n ≡ Temporary)) (sym named) temp) kind other

  abbrev pub AllApart : Moment → Moves → Type 0
  AllApart w moves = EachApart q moves

  -- ---- the temporary file

  abbrev Makes : PlainTemp → Moment → Moves → Type 0
  Makes file w moves = EachApart q moves × Spares file.path × (file.bytes ≡ Some [])

  making_apart : (file : PlainTemp) (old new : Option (List LogItem)) → MakesTemp cache file old new → Fixes (Makes file) old new
  making_apart file old new (number, made, folder, temp) =
      fixes_then AllApart (Makes file) (Makes file) old made new
      (fixes_step AllApart (steps.MakeDirs (temp_folder cache)) answers.Done old made folder (λ w rooted e. (tt, tt)))
      (fixes_step (Makes file) (steps.CreateTemp (temp_path cache number)) (answers.Temp file) made new temp
      (λ w rooted e.
      let h = temp_made cache number home file w.tree is e in
      let at = spared (temp_path cache number) (home ++ temp_names number) (temp_path_named cache number home is) (kind-below home (temp_names number)) in
      ((at, tt), spared file.path (home ++ temp_area ∷ h.name ∷ []) h.named (kind-below home (temp_area ∷ h.name ∷ [])), h.empty)))
      (λ w one two rooted a b. (apart_join q one two a b.0, b.1, b.2))

  writes_apart : (moves : Moves) (t : Tree) (file last : PlainTemp) (path had bytes rest : List ℕ) → Spares path → Takes file bytes moves last rest → AreAnswered t moves → Has file path had
      → EachApart q moves × Spares last.path
  writes_apart [] t file last path had bytes rest spares takes a has =
      (tt, ap (λ (f : PlainTemp). is_at (names_of f.path) q) takes.0 ∙ ap (λ p. is_at (names_of p) q) has.path_is ∙ spares)
  writes_apart ((steps.Write f b, answers.Wrote g n) ∷ moves) t file last path had bytes rest spares takes a has =
      let here = subst (λ (x : PlainTemp). Has x path had) (sym takes.0) has in
      let next = wrote_has t f g b n path had here a.0 in
      let then = subst (λ (u : Tree). AreAnswered u moves) (writing_keeps t f b) a.1 in
      let more = writes_apart moves t g last path (had ++ take n bytes) (drop n bytes) rest spares takes.2 then (subst (λ (l : List ℕ). Has g path (had ++ take n l)) takes.1 next) in
      ((ap (λ p. is_at (names_of p) q) here.path_is ∙ spares, more.0), more.1)
  writes_apart moves t file last path had bytes rest spares takes a has = absurd takes

  -- it has these bytes then
  abbrev HasAll : PlainTemp → List ℕ → Moves → Type 0
  HasAll full bytes moves = EachApart q moves × Spares full.path × (full.bytes ≡ Some bytes)

  abbrev Writes : PlainTemp → PlainTemp → List ℕ → Moment → Moves → Type 0
  Writes file full bytes w moves = Spares file.path → file.bytes ≡ Some [] → HasAll full bytes moves

  writing_apart : (file full : PlainTemp) (bytes : List ℕ) (old new : Option (List LogItem)) → Took file bytes full [] old new → Fixes (Writes file full bytes) old new
  writing_apart file full bytes old new (moves, takes, gains) = record {
    moves = moves;
    gains = gains;
    tells = λ w rooted a spares empty.
        let has : Has file file.path [] = record { path_is = refl; bytes_are = empty } in
        let apart = writes_apart moves w.tree file full file.path [] bytes [] spares takes a has in
        let took = (writes_take moves w.tree file full file.path [] bytes [] takes a has).1 in
        (apart.0, apart.1, took.file.bytes_are ∙ ap Some (sym (append-nil took.has) ∙ took.all));
  }

  -- it is made and written
  abbrev pub Full : PlainTemp → List ℕ → Moment → Moves → Type 0
  Full full bytes w moves = HasAll full bytes moves

  pub full_apart : (file full : PlainTemp) (bytes : List ℕ) (old made new : Option (List LogItem)) → MakesTemp cache file old made → Took file bytes full [] made new → Fixes (Full full bytes) old new
  full_apart file full bytes old made new making writing =
      fixes_then (Makes file) (Writes file full bytes) (Full full bytes) old made new (making_apart file old made making) (writing_apart file full bytes made new writing)
      (λ w one two rooted a b. let rest = b a.1 a.2 in (apart_join q one two a.0 rest.0, rest.1, rest.2))

  abbrev pub IfSpared : PlainTemp → Moment → Moves → Type 0
  IfSpared file w moves = Spares file.path → EachApart q moves

  pub temp_sync_apart : (full : PlainTemp) (old new : Option (List LogItem)) → Does (steps.SyncTemp full) (answers.Synced full) old new → Fixes (IfSpared full) old new
  temp_sync_apart full old new does = fixes_step (IfSpared full) (steps.SyncTemp full) (answers.Synced full) old new does (λ w rooted e temp. (temp, tt))

  -- ---- one bucket

  pub folder_sync_apart : (durable : Bool) (path : List ℕ) (old new : Option (List LogItem)) → SyncsFolder durable path old new → Fixes AllApart old new
  folder_sync_apart true path old new does = fixes_step AllApart (steps.SyncDir (folder_of path)) answers.Done old new does (λ w rooted e. (tt, tt))
  folder_sync_apart false path old new same = fixes_none AllApart old new same (λ w. tt)

  rewrite_apart : (durable : Bool) (path bytes : List ℕ) (old new : Option (List LogItem)) → Spares path → Rewrites durable cache path bytes old new → Fixes AllApart old new
  rewrite_apart durable path bytes old new spares r =
      fixes_then (Full r.full bytes) (λ w moves. Spares r.full.path → EachApart q moves) AllApart old r.written new (full_apart r.file r.full bytes old r.made r.written r.making r.writing)
      (fixes_then (IfSpared r.full) (IfSpared r.full) (IfSpared r.full) r.written r.synced new (temp_sync_apart r.full r.written r.synced r.syncing)
      (fixes_then (λ w moves. Spares r.full.path → EachApart q moves) AllApart (λ w moves. Spares r.full.path → EachApart q moves) r.synced r.moved new
      (fixes_step (λ w moves. Spares r.full.path → EachApart q moves) (steps.Persist r.full path) answers.Done r.synced r.moved r.moving (λ w rooted e temp. ((temp, spares), tt)))
      (folder_sync_apart durable path r.moved new r.securing)
      (λ w one two rooted a b temp. apart_join q one two (a temp) b))
      (λ w one two rooted a b temp. apart_join q one two (a temp) (b temp)))
      (λ w one two rooted a b. apart_join q one two a.0 (b a.1))

  pub sync_apart : (durable : Bool) (path : List ℕ) (old new : Option (List LogItem)) → SyncsBucket durable path old new → Fixes AllApart old new
  sync_apart true path old new (synced, file, folder) =
      fixes_then AllApart AllApart AllApart old synced new (fixes_step AllApart (steps.SyncFile path) answers.Done old synced file (λ w rooted e. (tt, tt)))
      (folder_sync_apart true path synced new folder) (λ w one two rooted a b. apart_join q one two a b)
  sync_apart false path old new same = fixes_none AllApart old new same (λ w. tt)

  settle_apart : (loose durable : Bool) (b : Bucket) (old new : Option (List LogItem)) → Spares b.0 → RewritesIf loose durable cache b old new → Fixes AllApart old new
  settle_apart true durable b old new spares r = rewrite_apart durable b.0 (compact_text durable b.1) old new spares r
  settle_apart false durable b old new spares r = sync_apart durable b.0 old new r

  pub bucket_apart : (durable : Bool) (b : Bucket) (old new : Option (List LogItem)) → Spares b.0 → CompactsBucket durable cache b old new → Fixes AllApart old new
  bucket_apart durable b old new spares (read, does, rest) =
      fixes_then AllApart AllApart AllApart old read new (fixes_step AllApart (steps.ReadAll b.0) (answers.Bytes b.1) old read does (λ w rooted e. (tt, tt)))
      (settle_apart (is_loose durable b) durable b read new spares rest) (λ w one two rooted a b. apart_join q one two a b)

  -- ---- an error ends that

  failed_apart : (step : PlainStep) (e : Error) (old new : Option (List LogItem)) → Apart q step → FailsAt step e old new → Fixes AllApart old new
  failed_apart step e old new apart fails = fixes_failed AllApart step e old new fails (λ w. tt) (λ w fault rooted is. (apart, tt))

  pub making_stops : (e : Error) (old new : Option (List LogItem)) → StopsMaking cache e old new → Fixes AllApart old new
  making_stops e old new (inl fails) = failed_apart (steps.MakeDirs (temp_folder cache)) e old new tt fails
  making_stops e old new (inr (number, made, folder, fails)) =
      fixes_then AllApart AllApart AllApart old made new (fixes_step AllApart (steps.MakeDirs (temp_folder cache)) answers.Done old made folder (λ w rooted is. (tt, tt)))
      (failed_apart (steps.CreateTemp (temp_path cache number)) e made new (spared (temp_path cache number) (home ++ temp_names number) (temp_path_named cache number home is) (kind-below home (temp_names number))) fails)
      (λ w one two rooted a b. apart_join q one two a b)

  last_stops : (last : PlainTemp) (bytes : List ℕ) (e : Error) (old new : Option (List LogItem)) → FailsAt (steps.Write last bytes) e old new ⊎ TakesNone last bytes e old new → Fixes (IfSpared last) old new
  last_stops last bytes e old new (inl fails) = fixes_failed (IfSpared last) (steps.Write last bytes) e old new fails (λ w spares. tt) (λ w fault rooted is spares. (spares, tt))
  last_stops last bytes e old new (inr (g, does, ends)) = fixes_step (IfSpared last) (steps.Write last bytes) (answers.Wrote g 0) old new does (λ w rooted is spares. (spares, tt))

  abbrev Writing : PlainTemp → PlainTemp → Moment → Moves → Type 0
  Writing file last w moves = Spares file.path → file.bytes ≡ Some [] → EachApart q moves × Spares last.path

  pub writing_stops : (file : PlainTemp) (bytes : List ℕ) (e : Error) (old made new : Option (List LogItem)) → MakesTemp cache file old made → StopsWriting file bytes e made new → Fixes AllApart old new
  writing_stops file bytes e old made new making (last, rest, mid, (moves, takes, gains), stop) =
      fixes_then (Makes file) (λ w moves. Spares file.path → file.bytes ≡ Some [] → EachApart q moves) AllApart old made new (making_apart file old made making)
      (fixes_then (Writing file last) (IfSpared last) (λ w moves. Spares file.path → file.bytes ≡ Some [] → EachApart q moves) made mid new
      (record {
        moves = moves;
        gains = gains;
        tells = λ w rooted a spares empty. writes_apart moves w.tree file last file.path [] bytes rest spares takes a (record { path_is = refl; bytes_are = empty });
      })
      (last_stops last rest e mid new stop)
      (λ w one two rooted a b spares empty. let here = a spares empty in apart_join q one two here.0 (b here.1)))
      (λ w one two rooted a b. apart_join q one two a.0 (b a.1 a.2))

  -- before the move
  pub early_stops : (file full : PlainTemp) (bytes : List ℕ) (e : Error) (old made written new : Option (List LogItem)) → MakesTemp cache file old made → Took file bytes full [] made written → FailsAt (steps.SyncTemp full) e written new → Fixes AllApart old new
  early_stops file full bytes e old made written new making took fails =
      fixes_then (Full full bytes) (IfSpared full) AllApart old written new (full_apart file full bytes old made written making took)
      (fixes_failed (IfSpared full) (steps.SyncTemp full) e written new fails (λ w temp. tt) (λ w fault rooted is temp. (temp, tt)))
      (λ w one two rooted a b. apart_join q one two a.0 (b a.1))

  pub unsecured_stops : (durable : Bool) (path : List ℕ) (e : Error) (old new : Option (List LogItem)) → StopsSecuring durable path e old new → Fixes AllApart old new
  unsecured_stops true path e old new fails = failed_apart (steps.SyncDir (folder_of path)) e old new tt fails
  unsecured_stops false path e old new fails = absurd fails

  pub sync_stops : (durable : Bool) (path : List ℕ) (e : Error) (old new : Option (List LogItem)) → StopsSyncingBucket durable path e old new → Fixes AllApart old new
  sync_stops true path e old new (inl fails) = failed_apart (steps.SyncFile path) e old new tt fails
  sync_stops true path e old new (inr (synced, file, fails)) =
      fixes_then AllApart AllApart AllApart old synced new (fixes_step AllApart (steps.SyncFile path) answers.Done old synced file (λ w rooted is. (tt, tt)))
      (unsecured_stops true path e synced new fails) (λ w one two rooted a b. apart_join q one two a b)
  sync_stops false path e old new fails = absurd fails

  pub unread_stops : (path : List ℕ) (e : Error) (old new : Option (List LogItem)) → FailsAt (steps.ReadAll path) e old new → Fixes AllApart old new
  unread_stops path e old new fails = failed_apart (steps.ReadAll path) e old new tt fails

  -- at it or after it, if the path is another one
  moving_stops : (durable : Bool) (file full : PlainTemp) (path bytes : List ℕ) (e : Error) (old made written new : Option (List LogItem)) → Spares path → MakesTemp cache file old made → Took file bytes full [] made written → StopsMoving durable full path e written new
      → Fixes AllApart old new
  moving_stops durable file full path bytes e old made written new spares making took (inl fails) = early_stops file full bytes e old made written new making took fails
  moving_stops durable file full path bytes e old made written new spares making took (inr (synced, syncs, rest)) =
      fixes_then (Full full bytes) (IfSpared full) AllApart old written new (full_apart file full bytes old made written making took)
      (fixes_then (IfSpared full) (IfSpared full) (IfSpared full) written synced new (temp_sync_apart full written synced syncs) (by rest)
      (λ w one two rooted a b temp. apart_join q one two (a temp) (b temp)))
      (λ w one two rooted a b. apart_join q one two a.0 (b a.1))
    where
      by : FailsAt (steps.Persist full path) e synced new ⊎ ((moved : Option (List LogItem)) × Does (steps.Persist full path) answers.Done synced moved × StopsSecuring durable path e moved new) → Fixes (IfSpared full) synced new
      by (inl fails) = fixes_failed (IfSpared full) (steps.Persist full path) e synced new fails (λ w temp. tt) (λ w fault rooted is temp. ((temp, spares), tt))
      by (inr (late, moves, fails)) =
          fixes_then (IfSpared full) AllApart (IfSpared full) synced late new (fixes_step (IfSpared full) (steps.Persist full path) answers.Done synced late moves (λ w rooted is temp. ((temp, spares), tt)))
          (unsecured_stops durable path e late new fails) (λ w one two rooted a b temp. apart_join q one two (a temp) b)

  pub rewriting_stops : (durable : Bool) (path bytes : List ℕ) (e : Error) (old new : Option (List LogItem)) → Spares path → StopsRewriting durable cache path bytes e old new → Fixes AllApart old new
  rewriting_stops durable path bytes e old new spares (inl making) = making_stops e old new making
  rewriting_stops durable path bytes e old new spares (inr (file, made, making, inl writing)) = writing_stops file bytes e old made new making writing
  rewriting_stops durable path bytes e old new spares (inr (file, made, making, inr (full, written, took, moving))) = moving_stops durable file full path bytes e old made written new spares making took moving

  pub bucket_stops : (durable : Bool) (path : List ℕ) (e : Error) (old new : Option (List LogItem)) → Spares path → StopsBucket durable cache path e old new → Fixes AllApart old new
  bucket_stops durable path e old new spares (inl fails) = unread_stops path e old new fails
  bucket_stops durable path e old new spares (inr (bytes, read, does, rest)) =
      fixes_then AllApart AllApart AllApart old read new (fixes_step AllApart (steps.ReadAll path) (answers.Bytes bytes) old read does (λ w rooted is. (tt, tt))) (by rest) (λ w one two rooted a b. apart_join q one two a b)
    where
      by : StopsRewriting durable cache path (compact_text durable bytes) e read new ⊎ StopsUnchanged durable (path, bytes) e read new → Fixes AllApart read new
      by (inl stop) = rewriting_stops durable path (compact_text durable bytes) e read new spares stop
      by (inr (same, stop)) = sync_stops durable path e read new stop

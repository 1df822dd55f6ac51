-- During a compaction a bucket has its bytes or its compacted ones, in each moment and after each loss.
use Rattle.std.{proofs.Common.{◌≡◌, ◌⊎◌, inl, inr, ℕ, List, [], ◌∷◌, ◌++◌, Bool, true, false, cond, Option, None, Some, Ok, refl, sym, ap, subst, ◌∙◌}, specs.Prelude.{unwrap_or}}
use Rattle.cacache_core.specs.{declared.errors.{Error.{Error}, Fault.{Fault}}, Paths.{Names, home_of, names_of}}
use Rattle.cacache_store.specs.declared.store.answer.Answer.TheVariants as answers
use Rattle.cacache_store.specs.declared.store.{log.LogItem.{LogItem}, plain.PlainTemp.{PlainTemp}}
use Rattle.cacache_store.specs.declared.store.step.Step.TheVariants as steps
use Rattle.cacache_disk.specs.{declared.{luck.Luck.TheVariants.{Plain}, node.Node.TheVariants.{File}}, Tree.{Rooted, Tree, cut, look, put}, Apply.{apply}}
use Rattle.cacache_disk.proofs.{PutNodes.{look-put}, Roots.{same_self}}
use Rattle.cacache_calls.specs.{Runs.{Moves}, SingleSteps.{Does, FailsAt}}
use Rattle.cacache_value.specs.Kinds.{Bucket as IsBucket, path_kind}
use Rattle.cacache_loss.{specs.{declared.fixing.Place.{Place}, Fixing.{is_at, place_now}, Moments.{Moment, next}}, proofs.Reaching.{file_kept, name_kept}}
use Rattle.cacache_laws.{specs.trees.Compacting.{compact_text}, proofs.trees.{Compactions.CompactTwice.{compact_again}, Led.{file_shown}}}
use Rattle.cacache_keep.specs.{Compacting.{Bucket, CompactsBucket, CompactsEach, RewritesIf, StopsBucket, StopsUnchanged, is_loose}, Losses.{CompactsSo}, Rewriting.{MakesTemp, Rewrites, StopsMoving, StopsRewriting, Took}}
use Rattle.cacache_keep.proofs.{Losses.{ApartSteps.{EachApart, IsWhole, Kept, named_there, step_kept, whole_still, Fixes, fixes_as, fixes_failed, fixes_none, fixes_step, fixes_then, later}, ApartBuckets.{Full, IfSpared, bucket_apart, bucket_stops, early_stops, folder_sync_apart, full_apart, making_stops, sync_apart, sync_stops, temp_sync_apart, unread_stops, unsecured_stops, writing_stops}, ApartCompactions.{above_apart, above_stops, finding_apart, finding_stops}}, NewBuckets.MovedFiles.{moved, unmoved}}

module _ (durable : Bool) (cache : List ℕ) (home : Names) (is : home_of cache ≡ Some home) (q : Names) (kind : path_kind (Some home) q ≡ IsBucket) (bytes : List ℕ) where
  -- the bucket's bytes, or the compacted ones
  abbrev pub Good : List ℕ → Type 0
  Good y = (y ≡ bytes) ⊎ (y ≡ compact_text durable bytes)

  lean_good : (y : List ℕ) → Good y → Good (compact_text durable y)
  lean_good y (inl e) = inr (ap (compact_text durable) e)
  lean_good y (inr e) = inr (ap (compact_text durable) e ∙ compact_again durable bytes)

  -- a file of these, and all of it is fixed
  abbrev pub GoodPlace : Place → Type 0
  GoodPlace place = (y : List ℕ) × Good y × (place.node ≡ Some (File y)) × (place.fixing.whole ≡ true)

  abbrev pub WasGood : Option Place → Type 0
  WasGood None = Unit {0}
  WasGood (Some place) = GoodPlace place

  -- such a file is there, and was there when its folder was synced
  abbrev pub Safe : Moment → Type 0
  Safe w = GoodPlace (place_now w.tree w.fixed q) × WasGood (w.fixed.names q)

  -- so it is in each moment from this one on
  abbrev AllSafe : Moment → Moves → Type 0
  AllSafe w [] = Safe w
  AllSafe w (m ∷ moves) = Safe w × AllSafe (next w (record { step = m.0; luck = Plain; answer = m.1 })) moves

  -- if it is so in this one
  abbrev pub StaysSafe : Moment → Moves → Type 0
  StaysSafe w moves = Safe w → AllSafe w moves

  last_safe : (w : Moment) (moves : Moves) → AllSafe w moves → Safe (later w moves)
  last_safe w [] s = s
  last_safe w (m ∷ moves) s = last_safe (next w (record { step = m.0; luck = Plain; answer = m.1 })) moves s.1

  both_safe : (w : Moment) (one two : Moves) → AllSafe w one → AllSafe (later w one) two → AllSafe w (one ++ two)
  both_safe w [] two s t = t
  both_safe w (m ∷ one) two s t = (s.0, both_safe (next w (record { step = m.0; luck = Plain; answer = m.1 })) one two s.1 t)

  first_safe : (w : Moment) (moves : Moves) → AllSafe w moves → Safe w
  first_safe w [] s = s
  first_safe w (m ∷ moves) s = s.0

  pub front_safe : (w : Moment) (one two : Moves) → AllSafe w (one ++ two) → Safe (later w one)
  front_safe w [] two s = first_safe w two s
  front_safe w (m ∷ one) two s = front_safe (next w (record { step = m.0; luck = Plain; answer = m.1 })) one two s.1

  safe_then : (w : Moment) (one two : Moves) → StaysSafe w one → StaysSafe (later w one) two → StaysSafe w (one ++ two)
  safe_then w one two a b s = both_safe w one two (a s) (b (last_safe w one (a s)))

  -- ---- steps elsewhere

  kept_safe : (w v : Moment) (s : Safe w) → Kept w v q (File s.0.0) → Safe v
  kept_safe w v s k = ((s.0.0, s.0.1, k.stands, whole_still w v q (File s.0.0) k s.0.3), by k.name)
    where
      by : (v.fixed.names q ≡ w.fixed.names q) ⊎ (v.fixed.names q ≡ None) → WasGood (v.fixed.names q)
      by (inl same) = subst WasGood (sym same) s.1
      by (inr none) = subst WasGood (sym none) tt

  apart_safe : (w : Moment) (moves : Moves) → EachApart q moves → StaysSafe w moves
  apart_safe w [] apart s = s
  apart_safe w (m ∷ moves) apart s =
      (s, apart_safe (next w (record { step = m.0; luck = Plain; answer = m.1 })) moves apart.1 (kept_safe w (next w (record { step = m.0; luck = Plain; answer = m.1 })) s (step_kept w.tree w.fixed q (File s.0.0) s.0.2 m.0 m.1 apart.0)))

  apart_fixes : (old new : Option (List LogItem)) → Fixes (λ w moves. EachApart q moves) old new → Fixes StaysSafe old new
  apart_fixes old new f = fixes_as (λ w moves. EachApart q moves) StaysSafe old new f (λ w moves rooted apart. apart_safe w moves apart)

  fixes_both : (old mid new : Option (List LogItem)) → Fixes StaysSafe old mid → Fixes StaysSafe mid new → Fixes StaysSafe old new
  fixes_both old mid new one two = fixes_then StaysSafe StaysSafe StaysSafe old mid new one two (λ w x y rooted a b. safe_then w x y a b)

  -- ---- the bucket is written anew

  was_or_now : (o : Option Place) (now : Place) → WasGood o → GoodPlace now → GoodPlace (unwrap_or o now)
  was_or_now None now was good = good
  was_or_now (Some place) now was good = was

  abbrev IsFull : PlainTemp → List ℕ → Moment → Type 0
  IsFull full x w = (full.bytes ≡ Some x) × ((from : Names) → names_of full.path ≡ Ok from → IsWhole w.fixed from)

  moved_safe : (full : PlainTemp) (path x : List ℕ) (w : Moment) → names_of path ≡ Ok q → Good x → answers.Done ≡ (apply w.tree (steps.Persist full path) Plain).0 → IsFull full x w
      → StaysSafe w ((steps.Persist full path, answers.Done) ∷ [])
  moved_safe full path x w named good e has s =
      let m = moved full path w.tree e in
      let both : Ok m.to ≡ Ok q = sym m.at ∙ named in
      let here : m.to ≡ q = cc in
      let texts : Some m.bytes ≡ Some x = sym m.has ∙ has.0 in
      let text : m.bytes ≡ x = cc in
      let stands : look (apply w.tree (steps.Persist full path) Plain).1 q ≡ Some (File x)
      = ap (λ (t : Tree). look t q) (m.leads ∙ ap (λ (p : Names). put (cut w.tree m.old) p (File m.bytes)) here ∙ ap (λ (y : List ℕ). put (cut w.tree m.old) q (File y)) text)
      ∙ look-put (cut w.tree m.old) q (File x) q ∙ ap (λ b. cond b (Some (File x)) (look (cut w.tree m.old) q)) (same_self q) in
      (s, ((x, good, stands, rw (m.from, named, same_self q) (has.1 m.old m.from)), rw (m.from, named, same_self q) (was_or_now (w.fixed.names q) (place_now w.tree w.fixed q) s.1 s.0)))

  abbrev SyncsIt : PlainTemp → Moment → Moves → Type 0
  SyncsIt full w moves = (is_at (names_of full.path) q ≡ false → EachApart q moves) × ((from : Names) → names_of full.path ≡ Ok from → IsWhole (later w moves).fixed from)

  temp_syncs : (full : PlainTemp) (old new : Option (List LogItem)) → Does (steps.SyncTemp full) (answers.Synced full) old new → Fixes (SyncsIt full) old new
  temp_syncs full old new does =
      fixes_step (SyncsIt full) (steps.SyncTemp full) (answers.Synced full) old new does (λ w rooted e. ((λ temp. (temp, tt)), λ from at. rw (at, same_self from) refl))

  abbrev MovesIt : PlainTemp → List ℕ → Moment → Moves → Type 0
  MovesIt full x w moves = Good x → IsFull full x w → StaysSafe w moves

  abbrev SafeIf : List ℕ → Moment → Moves → Type 0
  SafeIf x w moves = Good x → StaysSafe w moves

  abbrev MovesFull : PlainTemp → List ℕ → Moment → Moves → Type 0
  MovesFull full x w moves = is_at (names_of full.path) q ≡ false → full.bytes ≡ Some x → SafeIf x w moves

  synced_moved : (full : PlainTemp) (path x : List ℕ) (old synced late : Option (List LogItem)) → names_of path ≡ Ok q → Does (steps.SyncTemp full) (answers.Synced full) old synced → Does (steps.Persist full path) answers.Done synced late
      → Fixes (MovesFull full x) old late
  synced_moved full path x old synced late named syncing moving =
      fixes_then (SyncsIt full) (MovesIt full x) (MovesFull full x) old synced late (temp_syncs full old synced syncing)
      (fixes_step (MovesIt full x) (steps.Persist full path) answers.Done synced late moving (λ w rooted e good has. moved_safe full path x w named good e has))
      (λ w one two rooted a b temp has good. safe_then w one two (apart_safe w one (a.0 temp)) (b good (has, a.1)))

  rewrite_safe : (path x : List ℕ) (old new : Option (List LogItem)) → names_of path ≡ Ok q → Rewrites durable cache path x old new → Fixes (SafeIf x) old new
  rewrite_safe path x old new named r =
      fixes_then (Full cache home is q IsBucket kind (λ e. cc) r.full x) (MovesFull r.full x) (SafeIf x) old r.written new
      (full_apart cache home is q IsBucket kind (λ e. cc) r.file r.full x old r.made r.written r.making r.writing)
      (fixes_then (MovesFull r.full x) (λ w moves. EachApart q moves) (MovesFull r.full x) r.written r.moved new
      (synced_moved r.full path x r.written r.synced r.moved named r.syncing r.moving)
      (folder_sync_apart cache home is q IsBucket kind (λ e. cc) durable path r.moved new r.securing)
      (λ w one two rooted a b temp has good. safe_then w one two (a temp has good) (apart_safe (later w one) two b)))
      (λ w one two rooted a b good. safe_then w one two (apart_safe w one a.0) (b a.1 a.2 good))

  -- ---- a bucket that is compacted

  abbrev Settles : Bucket → Moment → Moves → Type 0
  Settles b w moves = Good b.1 → StaysSafe w moves

  settle_safe : (loose : Bool) (b : Bucket) (old new : Option (List LogItem)) → names_of b.0 ≡ Ok q → RewritesIf loose durable cache b old new → Fixes (Settles b) old new
  settle_safe true b old new named r =
      fixes_as (SafeIf (compact_text durable b.1)) (Settles b) old new (rewrite_safe b.0 (compact_text durable b.1) old new named r) (λ w moves rooted s good. s (lean_good b.1 good))
  settle_safe false b old new named r =
      fixes_as (λ w moves. EachApart q moves) (Settles b) old new (sync_apart cache home is q IsBucket kind (λ e. cc) durable b.0 old new r) (λ w moves rooted apart good. apart_safe w moves apart)

  -- what was read is what was there
  abbrev ReadsIt : Bucket → Moment → Moves → Type 0
  ReadsIt b w moves = EachApart q moves × ((y : List ℕ) → look w.tree q ≡ Some (File y) → y ≡ b.1)

  read_it : (b : Bucket) (w : Moment) → Rooted w.tree → names_of b.0 ≡ Ok q → answers.Bytes b.1 ≡ (apply w.tree (steps.ReadAll b.0) Plain).0 → (y : List ℕ) → look w.tree q ≡ Some (File y) → y ≡ b.1
  read_it b w rooted named e y there =
      let told : answers.Bytes y ≡ answers.Bytes b.1 = sym (file_shown w.tree b.0 q y rooted named there) ∙ sym e in
      cc

  own_safe : (b : Bucket) (old new : Option (List LogItem)) → names_of b.0 ≡ Ok q → CompactsBucket durable cache b old new → Fixes StaysSafe old new
  own_safe b old new named (read, does, rest) =
      fixes_then (ReadsIt b) (Settles b) StaysSafe old read new
      (fixes_step (ReadsIt b) (steps.ReadAll b.0) (answers.Bytes b.1) old read does (λ w rooted e. ((tt, tt), read_it b w rooted named e)))
      (settle_safe (is_loose durable b) b read new named rest)
      (λ w one two rooted a s safe. safe_then w one two (apart_safe w one a.0) (s (subst Good (a.1 safe.0.0 safe.0.2) safe.0.1)) safe)

  one_safe : (here : Bool) (b : Bucket) (old new : Option (List LogItem)) → is_at (names_of b.0) q ≡ here → CompactsBucket durable cache b old new → Fixes StaysSafe old new
  one_safe true b old new here c = own_safe b old new (named_there b.0 q here) c
  one_safe false b old new here c = apart_fixes old new (bucket_apart cache home is q IsBucket kind (λ e. cc) durable b old new here c)

  each_safe : (buckets : List Bucket) (old new : Option (List LogItem)) → CompactsEach durable cache buckets old new → Fixes StaysSafe old new
  each_safe [] old new same = fixes_none StaysSafe old new same (λ w s. s)
  each_safe (b ∷ buckets) old new (next, one, more) = fixes_both old next new (one_safe (is_at (names_of b.0) q) b old next refl one) (each_safe buckets next new more)

  -- ---- an error ends that

  failed_safe : (full : PlainTemp) (path : List ℕ) (w : Moment) (fault : Fault) → answers.Failed fault ≡ (apply w.tree (steps.Persist full path) Plain).0 → StaysSafe w ((steps.Persist full path, answers.Failed fault) ∷ [])
  failed_safe full path w fault e s =
      let stays : look (apply w.tree (steps.Persist full path) Plain).1 q ≡ Some (File s.0.0) = ap (λ (t : Tree). look t q) (unmoved full path fault w.tree e) ∙ s.0.2 in
      let kept : Kept w (next w (record { step = steps.Persist full path; luck = Plain; answer = answers.Failed fault })) q (File s.0.0)
      = record {
        stands = stays;
        files = inl (file_kept w.fixed w.tree (apply w.tree (steps.Persist full path) Plain).1 (steps.Persist full path) (answers.Failed fault) q (Some (File s.0.0)) s.0.2 stays refl refl refl);
        name = inl (name_kept w.fixed w.tree (apply w.tree (steps.Persist full path) Plain).1 (steps.Persist full path) (answers.Failed fault) q (Some (File s.0.0)) s.0.2 stays refl);
      } in
      (s, kept_safe w (next w (record { step = steps.Persist full path; luck = Plain; answer = answers.Failed fault })) s kept)

  unmoved_safe : (full : PlainTemp) (path : List ℕ) (e : Error) (old new : Option (List LogItem)) → FailsAt (steps.Persist full path) e old new → Fixes StaysSafe old new
  unmoved_safe full path e old new fails = fixes_failed StaysSafe (steps.Persist full path) e old new fails (λ w s. s) (λ w fault rooted is. failed_safe full path w fault is)

  moving_stops : (file full : PlainTemp) (path x : List ℕ) (e : Error) (old made written new : Option (List LogItem)) → names_of path ≡ Ok q → MakesTemp cache file old made → Took file x full [] made written → StopsMoving durable full path e written new → Fixes (SafeIf x) old new
  moving_stops file full path x e old made written new named making took (inl fails) =
      fixes_as (λ w moves. EachApart q moves) (SafeIf x) old new (early_stops cache home is q IsBucket kind (λ e. cc) file full x e old made written new making took fails) (λ w moves rooted apart good. apart_safe w moves apart)
  moving_stops file full path x e old made written new named making took (inr (synced, done, inl fails)) =
      fixes_then (Full cache home is q IsBucket kind (λ e. cc) full x) (λ w moves. is_at (names_of full.path) q ≡ false → StaysSafe w moves) (SafeIf x) old written new (full_apart cache home is q IsBucket kind (λ e. cc) file full x old made written making took)
      (fixes_then (IfSpared cache home is q IsBucket kind (λ e. cc) full) StaysSafe (λ w moves. is_at (names_of full.path) q ≡ false → StaysSafe w moves) written synced new
      (temp_sync_apart cache home is q IsBucket kind (λ e. cc) full written synced done) (unmoved_safe full path e synced new fails)
      (λ w one two rooted a b temp. safe_then w one two (apart_safe w one (a temp)) b))
      (λ w one two rooted a b good. safe_then w one two (apart_safe w one a.0) (b a.1))
  moving_stops file full path x e old made written new named making took (inr (synced, done, inr (late, moves, fails))) =
      fixes_then (Full cache home is q IsBucket kind (λ e. cc) full x) (MovesFull full x) (SafeIf x) old written new (full_apart cache home is q IsBucket kind (λ e. cc) file full x old made written making took)
      (fixes_then (MovesFull full x) (λ w moves. EachApart q moves) (MovesFull full x) written late new
      (synced_moved full path x written synced late named done moves) (unsecured_stops cache home is q IsBucket kind (λ e. cc) durable path e late new fails)
      (λ w one two rooted a b temp has good. safe_then w one two (a temp has good) (apart_safe (later w one) two b)))
      (λ w one two rooted a b good. safe_then w one two (apart_safe w one a.0) (b a.1 a.2 good))

  rewriting_stops : (path x : List ℕ) (e : Error) (old new : Option (List LogItem)) → names_of path ≡ Ok q → StopsRewriting durable cache path x e old new → Fixes (SafeIf x) old new
  rewriting_stops path x e old new named (inl making) =
      fixes_as (λ w moves. EachApart q moves) (SafeIf x) old new (making_stops cache home is q IsBucket kind (λ e. cc) e old new making) (λ w moves rooted apart good. apart_safe w moves apart)
  rewriting_stops path x e old new named (inr (file, made, making, inl writing)) =
      fixes_as (λ w moves. EachApart q moves) (SafeIf x) old new (writing_stops cache home is q IsBucket kind (λ e. cc) file x e old made new making writing) (λ w moves rooted apart good. apart_safe w moves apart)
  rewriting_stops path x e old new named (inr (file, made, making, inr (full, written, took, moving))) = moving_stops file full path x e old made written new named making took moving

  own_stops : (path : List ℕ) (e : Error) (old new : Option (List LogItem)) → names_of path ≡ Ok q → StopsBucket durable cache path e old new → Fixes StaysSafe old new
  own_stops path e old new named (inl fails) = apart_fixes old new (unread_stops cache home is q IsBucket kind (λ e. cc) path e old new fails)
  own_stops path e old new named (inr (text, read, does, rest)) =
      fixes_then (ReadsIt (path, text)) (Settles (path, text)) StaysSafe old read new
      (fixes_step (ReadsIt (path, text)) (steps.ReadAll path) (answers.Bytes text) old read does (λ w rooted is. ((tt, tt), read_it (path, text) w rooted named is)))
      (by rest)
      (λ w one two rooted a s safe. safe_then w one two (apart_safe w one a.0) (s (subst Good (a.1 safe.0.0 safe.0.2) safe.0.1)) safe)
    where
      by : StopsRewriting durable cache path (compact_text durable text) e read new ⊎ StopsUnchanged durable (path, text) e read new → Fixes (Settles (path, text)) read new
      by (inl stop) = fixes_as (SafeIf (compact_text durable text)) (Settles (path, text)) read new (rewriting_stops path (compact_text durable text) e read new named stop) (λ w moves rooted s good. s (lean_good text good))
      by (inr (same, stop)) = fixes_as (λ w moves. EachApart q moves) (Settles (path, text)) read new (sync_stops cache home is q IsBucket kind (λ e. cc) durable path e read new stop) (λ w moves rooted apart good. apart_safe w moves apart)

  one_stops : (here : Bool) (path : List ℕ) (e : Error) (old new : Option (List LogItem)) → is_at (names_of path) q ≡ here → StopsBucket durable cache path e old new → Fixes StaysSafe old new
  one_stops true path e old new here stop = own_stops path e old new (named_there path q here) stop
  one_stops false path e old new here stop = apart_fixes old new (bucket_stops cache home is q IsBucket kind (λ e. cc) durable path e old new here stop)

  -- ---- a compaction, also if an error ends it

  pub compaction_safe : (old new : Option (List LogItem)) → CompactsSo durable cache old new → Fixes StaysSafe old new
  compaction_safe old new (inl (count, saved, (tops, paths, found, done, finding, all, above))) =
      fixes_both old found new (apart_fixes old found (finding_apart q cache tops paths old found finding))
      (fixes_both found done new (each_safe all.buckets found done all.compacting) (apart_fixes done new (above_apart q durable cache tops done new above)))
  compaction_safe old new (inr (e, inl finding)) = apart_fixes old new (finding_stops q cache e old new finding)
  compaction_safe old new (inr (e, inr (tops, paths, found, finding, inl s))) =
      fixes_both old found new (apart_fixes old found (finding_apart q cache tops paths old found finding))
      (fixes_both found s.between new (each_safe s.buckets found s.between s.compacting) (one_stops (is_at (names_of s.next) q) s.next e s.between new refl s.stop))
  compaction_safe old new (inr (e, inr (tops, paths, found, finding, inr (count, saved, done, all, above)))) =
      fixes_both old found new (apart_fixes old found (finding_apart q cache tops paths old found finding))
      (fixes_both found done new (each_safe all.buckets found done all.compacting) (apart_fixes done new (above_stops q durable cache tops e done new above)))

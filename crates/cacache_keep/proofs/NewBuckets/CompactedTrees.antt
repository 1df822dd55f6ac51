-- Buckets that a compaction doesn't change.
-- What compactions of buckets leave of a tree, also if an error ends them.
use Rattle.std.proofs.{Common.{◌≡◌, inl, inr, ℕ, List, Bool, true, false, None, Some, Ok, refl, sym, ap, ◌∙◌, [], ◌∷◌, Option, map, subst, append-nil}, lemmas.{Bool.{Decides.{Decides-eqb}, not-false}, Slice.Eq.{slice_eq-Decides}}}
use Rattle.std.specs.List.{AllByRecursion}
use Rattle.cacache_core.specs.{Paths.{Names, names_of, home_of, index_area}, declared.errors.Error.{Error}}
use Rattle.cacache_disk.specs.{declared.{node.Node.TheVariants.{File, Folder}, luck.Luck.TheVariants.{Plain}}, Tree.{Tree, look, same_path, Rooted}, Apply.{apply}}
use Rattle.cacache_disk.proofs.{Maps.{same_path-true}, Roots.{same_self}, Standing.{upper_folder}}
use Rattle.cacache_laws.specs.trees.{Compacting.{compact_text}, Compacted.{Compacted, CutShort}}
use Rattle.cacache_laws.proofs.{trees.{Compactions.{LeanTrees.{Becomes, same_bytes as same_file, compacted_more, compacted_none, cut_later, cut_short}, CompactTwice.{compact_again}}, Led.{file_shown}}, Readings.ReadAnswers.{reading_keeps}, Calls.InParts.{writing_keeps}}
use Rattle.cacache_keep.specs.{Compacting.{Bucket, is_loose, same_bytes, CompactsBucket, CompactsEach, RewritesIf, StopsBucket, StopsCompactingEach}, Rewriting.{MakesTemp, Rewrites, StopsMaking, StopsRewriting, StopsWriting, Took}}
use Rattle.cacache_keep.proofs.{Indexes.FoundBuckets.{IsBucketFile, Stays, stays_on}, NewBuckets.{MovedFiles.{MovedTo, moved, unmoved}, Rewritten.{Has, HasTemp, IsRewritten, TookSo, folder_made, left_over, rewritten, temp_failed, temp_made, writes_stay, writes_take}}, Losses.FixedFolders.{bucket_synced, bucket_unsynced, folder_synced, folder_unsynced, temp_synced, temp_unsynced}, TreeRuns.{Leads, leads_as, leads_failed, leads_none, leads_step, leads_then}, Asked.{both_parts}}
use Rattle.cacache_store.specs.declared.store.{log.LogItem.{LogItem}, plain.PlainTemp.{PlainTemp}}
use Rattle.cacache_calls.specs.{SingleSteps.{Does}, Steps.{temp_folder, temp_path}}
use Rattle.cacache_value.specs.Kinds.{path_kind}
use Rattle.cacache_store.specs.declared.store.answer.Answer.TheVariants as answers
use Rattle.cacache_store.specs.declared.store.step.Step.TheVariants as steps

-- the file at the path has bytes that a compaction, durable or not, leaves
pub record IsTight (durable : Bool) (path : List ℕ) (t : Tree) : Type 0 where
  pub names : Names
  pub named : names_of path ≡ Ok names
  pub bytes : List ℕ
  pub stands : look t names ≡ Some (File bytes)
  pub tight : compact_text durable bytes ≡ bytes

pub tight_still : (durable : Bool) (home : Names) (path : List ℕ) (t u : Tree) (k : IsTight durable path t) → Becomes durable home k.names (look t k.names) (look u k.names) → IsTight durable path u
tight_still durable home path t u k (inl same) = record { names = k.names; named = k.named; bytes = k.bytes; stands = same ∙ k.stands; tight = k.tight }
tight_still durable home path t u k (inr (inl lean)) =
    let same : compact_text durable lean.1 ≡ k.bytes = ap (compact_text durable) (same_file lean.1 k.bytes (look t k.names) lean.2 k.stands) ∙ k.tight in
    record { names = k.names; named = k.named; bytes = k.bytes; stands = lean.3 ∙ ap (λ (l : List ℕ). Some (File l)) same; tight = k.tight }
tight_still durable home path t u k (inr (inr made)) = absurd (let wrong : None ≡ Some (File k.bytes) = sym made.1 ∙ k.stands in cc)

-- what a compaction doesn't change is tight
pub not_loose : (durable : Bool) (b : Bucket) → is_loose durable b ≡ false → compact_text durable b.1 ≡ b.1
not_loose durable b is = (slice_eq-Decides Decides-eqb (compact_text durable b.1) b.1 (same_bytes (compact_text durable b.1) b.1) refl).0 (not-false (same_bytes (compact_text durable b.1) b.1) is)

-- ---- one bucket is written anew

-- the cache's folder is there
abbrev Housed : Names → Tree → Type 0
Housed home t = look t home ≡ Some Folder

-- above a bucket that is there
home_stands : (home : Names) (t : Tree) (path : List ℕ) → Rooted t → IsBucketFile home t path → Housed home t
home_stands home t path rooted b = upper_folder t home b.below index_area (File b.bytes) rooted (ap (look t) (sym b.split) ∙ b.stands)

module _ (durable : Bool) (cache : List ℕ) (home : Names) (is : home_of cache ≡ Some home) where
  abbrev MakesFolder : Tree → Tree → Type 0
  MakesFolder t u = Housed home t → Compacted durable home t u

  -- the temporary file is there
  abbrev Temped : PlainTemp → Tree → Tree → Type 0
  Temped file t u = (mid : Tree) × (Housed home t → Compacted durable home t mid) × HasTemp home file mid u

  folder_leads : (old new : Option (List LogItem)) → Does (steps.MakeDirs (temp_folder cache)) answers.Done old new → Leads MakesFolder old new
  folder_leads old new does = leads_step MakesFolder (steps.MakeDirs (temp_folder cache)) answers.Done old new does (λ t rooted e stands. folder_made durable cache home t is rooted stands)

  temp_leads : (file : PlainTemp) (old new : Option (List LogItem)) → MakesTemp cache file old new → Leads (Temped file) old new
  temp_leads file old new (number, made, folder, temp) =
      leads_then MakesFolder (HasTemp home file) (Temped file) old made new (folder_leads old made folder)
      (leads_step (HasTemp home file) (steps.CreateTemp (temp_path cache number)) (answers.Temp file) made new temp (λ t rooted e. temp_made cache number home file t is e))
      (λ t u v rooted next one two. (u, one, two))

  -- written so far
  abbrev Written : PlainTemp → List ℕ → PlainTemp → List ℕ → Tree → Tree → Type 0
  Written file bytes last rest t u = (u ≡ t) × (file.bytes ≡ Some [] → TookSo file.path [] bytes last rest)

  took_leads : (file last : PlainTemp) (bytes rest : List ℕ) (old new : Option (List LogItem)) → Took file bytes last rest old new → Leads (Written file bytes last rest) old new
  took_leads file last bytes rest old new (moves, takes, gains) = record {
    moves = moves;
    gains = gains;
    tells = λ t rooted a.
        (writes_stay moves t file last bytes rest takes, λ empty. (writes_take moves t file last file.path [] bytes rest takes a (record { path_is = refl; bytes_are = empty })).1);
  }

  whole : (file full : PlainTemp) (bytes : List ℕ) → TookSo file.path [] bytes full [] → Has full file.path bytes
  whole file full bytes k = subst (λ (l : List ℕ). Has full file.path l) (sym (append-nil k.has) ∙ k.all) k.file

  abbrev Anew : List ℕ → List ℕ → Tree → Tree → Type 0
  Anew path bytes t u = Housed home t → IsRewritten durable home path bytes t u

  -- so it is once the temporary file is moved
  moved_leads : (path bytes : List ℕ) (file full : PlainTemp) (old made written synced late : Option (List LogItem)) → MakesTemp cache file old made → Took file bytes full [] made written → Does (steps.SyncTemp full) (answers.Synced full) written synced
      → Does (steps.Persist full path) answers.Done synced late → Leads (Anew path bytes) old late
  moved_leads path bytes file full old made written synced late making writing syncing moving =
      leads_then (Temped file) (λ t u. (Written file bytes full [] t t) × MovedTo full path t u) (Anew path bytes) old made late (temp_leads file old made making)
      (leads_then (Written file bytes full []) (MovedTo full path) (λ t u. (Written file bytes full [] t t) × MovedTo full path t u) made written late (took_leads file full bytes [] made written writing)
      (leads_then Stays (MovedTo full path) (MovedTo full path) written synced late (temp_synced full written synced syncing)
      (leads_step (MovedTo full path) (steps.Persist full path) answers.Done synced late moving (λ t rooted e. moved full path t e))
      (λ t u v rooted next same two. subst (λ (x : Tree). MovedTo full path x v) same two))
      (λ t u v rooted next one two. ((refl, one.1), subst (λ (x : Tree). MovedTo full path x v) one.0 two)))
      (λ t u v rooted next one two stands. rewritten durable home t one.0 u v file full path bytes (one.1 stands) one.2 (whole file full bytes (two.0.1 one.2.empty)) two.1)

  rewrite_leads : (path bytes : List ℕ) (old new : Option (List LogItem)) → Rewrites durable cache path bytes old new → Leads (Anew path bytes) old new
  rewrite_leads path bytes old new r =
      leads_then (Anew path bytes) Stays (Anew path bytes) old r.moved new (moved_leads path bytes r.file r.full old r.made r.written r.synced r.moved r.making r.writing r.syncing r.moving)
      (folder_synced durable path r.moved new r.securing)
      (λ t u v rooted next one same stands. subst (λ (x : Tree). IsRewritten durable home path bytes t x) (sym same) (one stands))

  -- ---- one bucket

  -- a bucket at the path is compacted
  abbrev Compacts : List ℕ → Tree → Tree → Type 0
  Compacts path t u = IsBucketFile home t path → Compacted durable home t u × IsTight durable path u

  tight_at : (t u : Tree) (path bytes : List ℕ) → IsRewritten durable home path (compact_text durable bytes) t u → IsTight durable path u
  tight_at t u path bytes r = record { names = r.to; named = r.at; bytes = compact_text durable bytes; stands = r.there; tight = compact_again durable bytes }

  compact_at : (t u : Tree) (path bytes : List ℕ) (b : IsBucketFile home t path) → b.bytes ≡ bytes → IsRewritten durable home path (compact_text durable bytes) t u → Compacted durable home t u
  compact_at t u path bytes b same r q = by (same_path q b.names) refl
    where
      here : r.to ≡ b.names
      here = let both : Ok r.to ≡ Ok b.names = sym r.at ∙ b.named in cc

      apart : same_path q b.names ≡ false → q ≡ r.to → ⊥
      apart is e = let wrong : true ≡ false = sym (same_self b.names) ∙ ap (λ (n : Names). same_path n b.names) (sym (e ∙ here)) ∙ is in cc

      by : (c : Bool) → same_path q b.names ≡ c → Becomes durable home q (look t q) (look u q)
      by true is =
          let e : q ≡ b.names = same_path-true q b.names is in
          inr (inl (ap (λ n. path_kind (Some home) n) e ∙ b.kind, bytes, ap (look t) e ∙ b.stands ∙ ap (λ (l : List ℕ). Some (File l)) same, ap (look u) (e ∙ sym here) ∙ r.there))
      by false is = r.others q (apart is)

  -- the bytes that were read are those that are there
  abbrev Reads : List ℕ → List ℕ → Tree → Tree → Type 0
  Reads path bytes t u = (u ≡ t) × ((b : IsBucketFile home t path) → b.bytes ≡ bytes)

  read_so : (t : Tree) (path bytes : List ℕ) → Rooted t → answers.Bytes bytes ≡ (apply t (steps.ReadAll path) Plain).0 → (b : IsBucketFile home t path) → b.bytes ≡ bytes
  read_so t path bytes rooted e b =
      let told : answers.Bytes b.bytes ≡ answers.Bytes bytes = sym (file_shown t path b.names b.bytes rooted b.named b.stands) ∙ sym e in
      cc

  read_leads : (path bytes : List ℕ) (old new : Option (List LogItem)) → Does (steps.ReadAll path) (answers.Bytes bytes) old new → Leads (Reads path bytes) old new
  read_leads path bytes old new does = leads_step (Reads path bytes) (steps.ReadAll path) (answers.Bytes bytes) old new does (λ t rooted e. (reading_keeps t path, λ b. read_so t path bytes rooted e b))

  -- it is written anew or not
  abbrev SettlesSo : Bucket → Tree → Tree → Type 0
  SettlesSo b t u = (f : IsBucketFile home t b.0) → f.bytes ≡ b.1 → Compacted durable home t u × IsTight durable b.0 u

  settles : (loose : Bool) (b : Bucket) (old new : Option (List LogItem)) → is_loose durable b ≡ loose → RewritesIf loose durable cache b old new → Leads (SettlesSo b) old new
  settles true b old new is r =
      leads_as (Anew b.0 (compact_text durable b.1)) (SettlesSo b) old new (rewrite_leads b.0 (compact_text durable b.1) old new r)
      (λ t u rooted anew f same. let r = anew (home_stands home t b.0 rooted f) in (compact_at t u b.0 b.1 f same r, tight_at t u b.0 b.1 r))
  settles false b old new is synced =
      leads_as Stays (SettlesSo b) old new (bucket_synced durable b.0 old new synced)
      (λ t u rooted e f bytes.
      let tight : IsTight durable b.0 t = record { names = f.names; named = f.named; bytes = f.bytes; stands = f.stands; tight = ap (compact_text durable) bytes ∙ not_loose durable b is ∙ sym bytes } in
      (subst (λ (x : Tree). Compacted durable home t x) (sym e) (compacted_none durable home t), subst (λ (x : Tree). IsTight durable b.0 x) (sym e) tight))

  bucket_leads : (b : Bucket) (old new : Option (List LogItem)) → CompactsBucket durable cache b old new → Leads (Compacts b.0) old new
  bucket_leads b old new (read, does, rest) =
      leads_then (Reads b.0 b.1) (SettlesSo b) (Compacts b.0) old read new (read_leads b.0 b.1 old read does) (settles (is_loose durable b) b read new refl rest)
      (λ t u v rooted next one two f.
      let here = subst (λ (x : Tree). SettlesSo b x v) one.0 two in
      here f (one.1 f))

  -- ---- buckets, one after another

  file_at : (path : List ℕ) (t u : Tree) (b : IsBucketFile home t path) → Becomes durable home b.names (look t b.names) (look u b.names) → IsBucketFile home u path
  file_at path t u b (inl same) = record { names = b.names; named = b.named; kind = b.kind; below = b.below; split = b.split; bytes = b.bytes; stands = same ∙ b.stands }
  file_at path t u b (inr (inl lean)) = record { names = b.names; named = b.named; kind = b.kind; below = b.below; split = b.split; bytes = compact_text durable lean.1; stands = lean.3 }
  file_at path t u b (inr (inr made)) = absurd (let wrong : None ≡ Some (File b.bytes) = sym made.1 ∙ b.stands in cc)

  files_still : (t u : Tree) (paths : List (List ℕ)) → Compacted durable home t u → AllByRecursion (IsBucketFile home t) paths → AllByRecursion (IsBucketFile home u) paths
  files_still t u [] all files = tt
  files_still t u (p ∷ paths) all files = (file_at p t u files.0 (all files.0.names), files_still t u paths all files.1)

  abbrev pub CompactsThese : List (List ℕ) → Tree → Tree → Type 0
  CompactsThese paths t u = AllByRecursion (IsBucketFile home t) paths → Compacted durable home t u × AllByRecursion (λ p. IsTight durable p u) paths

  pub each_leads : (buckets : List Bucket) (old new : Option (List LogItem)) → CompactsEach durable cache buckets old new → Leads (CompactsThese (map (λ (b : Bucket). b.0) buckets)) old new
  each_leads [] old new same =
      leads_as Stays (CompactsThese []) old new (leads_none old new same) (λ t u rooted e files. (subst (λ (x : Tree). Compacted durable home t x) (sym e) (compacted_none durable home t), tt))
  each_leads (b ∷ buckets) old new (next, one, more) =
      leads_then (Compacts b.0) (CompactsThese (map (λ (b : Bucket). b.0) buckets)) (CompactsThese (b.0 ∷ map (λ (b : Bucket). b.0) buckets)) old next new (bucket_leads b old next one) (each_leads buckets next new more)
      (λ t u v rooted after first rest files.
      let now = first files.0 in
      let more = rest (files_still t u (map (λ (b : Bucket). b.0) buckets) now.0 files.1) in
      (compacted_more durable home t u v now.0 more.0, (tight_still durable home b.0 u v now.1 (more.0 now.1.names), more.1)))

  -- ---- an error cuts it short

  abbrev Cuts : Tree → Tree → Type 0
  Cuts t u = Housed home t → CutShort durable home t u

  cut_none : (t : Tree) → Cuts t t
  cut_none t stands = cut_short durable home t t (compacted_none durable home t)

  cut_stays : (t u : Tree) → u ≡ t → Cuts t u
  cut_stays t u e = subst (λ (x : Tree). Cuts t x) (sym e) (cut_none t)

  making_leads : (e : Error) (old new : Option (List LogItem)) → StopsMaking cache e old new → Leads Cuts old new
  making_leads e old new (inl fails) = leads_failed Cuts (steps.MakeDirs (temp_folder cache)) e old new fails cut_none (λ t fault rooted is_failed stands. cut_short durable home t _ (folder_made durable cache home t is rooted stands))
  making_leads e old new (inr (number, made, folder, fails)) =
      leads_then MakesFolder Stays Cuts old made new (folder_leads old made folder)
      (leads_failed Stays (steps.CreateTemp (temp_path cache number)) e made new fails (λ t. refl) (λ t fault rooted failed. temp_failed (temp_path cache number) fault t failed))
      (λ t u v rooted next one same stands. subst (λ (x : Tree). CutShort durable home t x) (sym same) (cut_short durable home t u (one stands)))

  -- the temporary file is left
  temp_left : (file : PlainTemp) (old made new : Option (List LogItem)) → MakesTemp cache file old made → Leads Stays made new → Leads Cuts old new
  temp_left file old made new making rest =
      leads_then (Temped file) Stays Cuts old made new (temp_leads file old made making) rest
      (λ t u v rooted next one same stands. subst (λ (x : Tree). CutShort durable home t x) (sym same) (left_over durable home t one.0 u file (one.1 stands) one.2))

  took_keeps : (file last : PlainTemp) (bytes rest : List ℕ) (old new : Option (List LogItem)) → Took file bytes last rest old new → Leads Stays old new
  took_keeps file last bytes rest old new took = leads_as (Written file bytes last rest) Stays old new (took_leads file last bytes rest old new took) (λ t u rooted w. w.0)

  write_failed : (file : PlainTemp) (bytes : List ℕ) (e : Error) (old new : Option (List LogItem)) → StopsWriting file bytes e old new → Leads Stays old new
  write_failed file bytes e old new (last, rest, mid, took, inl fails) =
      leads_then Stays Stays Stays old mid new (took_keeps file last bytes rest old mid took)
      (leads_failed Stays (steps.Write last rest) e mid new fails (λ t. refl) (λ t fault rooted failed. writing_keeps t last rest)) stays_on
  write_failed file bytes e old new (last, rest, mid, took, inr (g, does, ends)) =
      leads_then Stays Stays Stays old mid new (took_keeps file last bytes rest old mid took)
      (leads_step Stays (steps.Write last rest) (answers.Wrote g 0) mid new does (λ t rooted failed. writing_keeps t last rest)) stays_on

  -- so it is for a bucket at the path, and for one that has these bytes
  abbrev CutsAt : List ℕ → Tree → Tree → Type 0
  CutsAt path t u = IsBucketFile home t path → CutShort durable home t u

  abbrev CutsAnew : Bucket → Tree → Tree → Type 0
  CutsAnew b t u = (f : IsBucketFile home t b.0) → f.bytes ≡ b.1 → CutShort durable home t u

  cuts_anew : (b : Bucket) (old new : Option (List LogItem)) → Leads Cuts old new → Leads (CutsAnew b) old new
  cuts_anew b old new l = leads_as Cuts (CutsAnew b) old new l (λ t u rooted cuts f same. cuts (home_stands home t b.0 rooted f))

  rewriting_leads : (b : Bucket) (e : Error) (old new : Option (List LogItem)) → StopsRewriting durable cache b.0 (compact_text durable b.1) e old new → Leads (CutsAnew b) old new
  rewriting_leads b e old new (inl making) = cuts_anew b old new (making_leads e old new making)
  rewriting_leads b e old new (inr (file, made, making, inl writing)) = cuts_anew b old new (temp_left file old made new making (write_failed file (compact_text durable b.1) e made new writing))
  rewriting_leads b e old new (inr (file, made, making, inr (full, written, took, inl unsynced))) =
      cuts_anew b old new (temp_left file old made new making
      (leads_then Stays Stays Stays made written new (took_keeps file full (compact_text durable b.1) [] made written took) (temp_unsynced full e written new unsynced) stays_on))
  rewriting_leads b e old new (inr (file, made, making, inr (full, written, took, inr (synced, syncs, inl fails)))) =
      cuts_anew b old new (temp_left file old made new making
      (leads_then Stays Stays Stays made written new (took_keeps file full (compact_text durable b.1) [] made written took)
      (leads_then Stays Stays Stays written synced new (temp_synced full written synced syncs)
      (leads_failed Stays (steps.Persist full b.0) e synced new fails (λ t. refl) (λ t fault rooted failed. unmoved full b.0 fault t failed)) stays_on) stays_on))
  rewriting_leads b e old new (inr (file, made, making, inr (full, written, took, inr (synced, syncs, inr (late, moves, unsecured))))) =
      leads_then (Anew b.0 (compact_text durable b.1)) Stays (CutsAnew b) old late new (moved_leads b.0 (compact_text durable b.1) file full old made written synced late making took syncs moves)
      (folder_unsynced durable b.0 e late new unsecured)
      (λ t u v rooted next anew same f is. subst (λ (x : Tree). CutShort durable home t x) (sym same) (cut_short durable home t u (compact_at t u b.0 b.1 f is (anew (home_stands home t b.0 rooted f)))))

  stopped_leads : (path : List ℕ) (e : Error) (old new : Option (List LogItem)) → StopsBucket durable cache path e old new → Leads (CutsAt path) old new
  stopped_leads path e old new (inl fails) =
      leads_as Cuts (CutsAt path) old new (leads_failed Cuts (steps.ReadAll path) e old new fails cut_none (λ t fault rooted failed. cut_stays t _ (reading_keeps t path)))
      (λ t u rooted cuts f. cuts (home_stands home t path rooted f))
  stopped_leads path e old new (inr (bytes, read, does, inr (same, unsynced))) =
      leads_then (Reads path bytes) Stays (CutsAt path) old read new (read_leads path bytes old read does) (bucket_unsynced durable path e read new unsynced)
      (λ t u v rooted next one two f. cut_stays t v (two ∙ one.0) (home_stands home t path rooted f))
  stopped_leads path e old new (inr (bytes, read, does, inl stop)) =
      leads_then (Reads path bytes) (CutsAnew (path, bytes)) (CutsAt path) old read new (read_leads path bytes old read does) (rewriting_leads (path, bytes) e read new stop)
      (λ t u v rooted next one two f.
      let here = subst (λ (x : Tree). CutsAnew (path, bytes) x v) one.0 two in
      here f (one.1 f))

  -- ---- all of them

  pub stop_leads : (paths : List (List ℕ)) (e : Error) (old new : Option (List LogItem)) → StopsCompactingEach durable cache paths e old new → Leads (λ t u. AllByRecursion (IsBucketFile home t) paths → CutShort durable home t u) old new
  stop_leads paths e old new s =
      leads_then (CompactsThese (map (λ (b : Bucket). b.0) s.buckets)) (CutsAt s.next) (λ t u. AllByRecursion (IsBucketFile home t) paths → CutShort durable home t u) old s.between new
      (each_leads s.buckets old s.between s.compacting) (stopped_leads s.next e s.between new s.stop)
      (λ t u v rooted after first rest files.
      let these = subst (AllByRecursion (IsBucketFile home t)) s.split files in
      let parts = both_parts (IsBucketFile home t) (map (λ (b : Bucket). b.0) s.buckets) (s.next ∷ s.rest) these in
      let now = (first parts.0).0 in
      let next = file_at s.next t u parts.1.0 (now parts.1.0.names) in
      cut_later durable home t u v now (rest next))

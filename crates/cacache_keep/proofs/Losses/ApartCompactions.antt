-- A compaction leaves what is fixed of the folders of its buckets.
use Rattle.std.{proofs.Common.{◌≡◌, inl, inr, ℕ, List, [], ◌∷◌, Bool, true, false, map, Option, Some, sym, subst}, specs.List.{AllByRecursion}}
use Rattle.cacache_core.specs.{declared.errors.Error.{Error}, Paths.{Names, home_of, names_of}}
use Rattle.cacache_store.specs.declared.store.answer.Answer.TheVariants as answers
use Rattle.cacache_store.specs.{declared.store.log.LogItem.{LogItem}, Plain.{PlainStep}}
use Rattle.cacache_calls.specs.SingleSteps.{FailsAt}
use Rattle.cacache_store.specs.declared.store.step.Step.TheVariants as steps
use Rattle.cacache_value.specs.Kinds.{Bucket as IsBucket, Way, path_kind}
use Rattle.cacache_loss.proofs.Reaching.{at_false}
use Rattle.cacache_keep.specs.{Buckets.{FindsBuckets, Listed, ListsInTurn, StopsFinding, StopsNextPart, StopsParts, index_area_in}, Compacting.{Bucket, CompactsAll, CompactsCache, CompactsEach, StopsCompactingEach}, Losses.{CompactsSo}, Syncing.{StopsAbove, StopsInTurn, StopsNextSync, SyncsAbove, SyncsInTurn, folders_above}}
use Rattle.cacache_keep.proofs.{Losses.{ApartSteps.{Apart, EachApart, apart_join, Fixes, fixes_failed, fixes_none, fixes_step, fixes_then}, ApartBuckets.{bucket_apart, bucket_stops}}, Indexes.FoundFolders.{HasBucketName, paths_lie}, Asked.{both_parts}}

-- ---- steps that look or sync

module _ (q : Names) where
  abbrev Aparts : Option (List LogItem) → Option (List LogItem) → Type 0
  Aparts old new = Fixes (λ w moves. EachApart q moves) old new

  aparts_then : (old mid new : Option (List LogItem)) → Aparts old mid → Aparts mid new → Aparts old new
  aparts_then old mid new one two =
      fixes_then (λ w moves. EachApart q moves) (λ w moves. EachApart q moves) (λ w moves. EachApart q moves) old mid new one two (λ w x y rooted a b. apart_join q x y a b)

  listings_apart : (listings : List Listed) (old new : Option (List LogItem)) → ListsInTurn listings old new → Aparts old new
  listings_apart [] old new same = fixes_none (λ w moves. EachApart q moves) old new same (λ w. tt)
  listings_apart (l ∷ listings) old new (next, lists, more) =
      aparts_then old next new (fixes_step (λ w moves. EachApart q moves) (steps.ReadDir l.0) lists.0 old next lists.1.gained (λ w rooted e. (tt, tt))) (listings_apart listings next new more)

  pub finding_apart : (cache : List ℕ) (tops paths : List (List ℕ)) (old new : Option (List LogItem)) → FindsBuckets cache tops paths old new → Aparts old new
  finding_apart cache tops paths old new (lows, one, two, a, b, c) =
      aparts_then old one new (listings_apart a.listings old one a.listing)
      (aparts_then one two new (listings_apart b.listings one two b.listing) (listings_apart c.listings two new c.listing))

  syncs_apart : (folders : List (List ℕ)) (old new : Option (List LogItem)) → SyncsInTurn folders old new → Aparts old new
  syncs_apart [] old new same = fixes_none (λ w moves. EachApart q moves) old new same (λ w. tt)
  syncs_apart (f ∷ folders) old new (next, one, more) =
      aparts_then old next new (fixes_step (λ w moves. EachApart q moves) (steps.SyncDir f) answers.Done old next one (λ w rooted e. (tt, tt))) (syncs_apart folders next new more)

  pub above_apart : (durable : Bool) (cache : List ℕ) (tops : List (List ℕ)) (old new : Option (List LogItem)) → SyncsAbove durable cache tops old new → Aparts old new
  above_apart true cache tops old new syncs = syncs_apart (folders_above cache tops) old new syncs
  above_apart false cache tops old new same = fixes_none (λ w moves. EachApart q moves) old new same (λ w. tt)

  -- ---- an error ends that

  failed_apart : (step : PlainStep) (e : Error) (old new : Option (List LogItem)) → Apart q step → FailsAt step e old new → Aparts old new
  failed_apart step e old new apart fails = fixes_failed (λ w moves. EachApart q moves) step e old new fails (λ w. tt) (λ w fault rooted is. (apart, tt))

  part_stops : (rest : List (List ℕ)) (e : Error) (old new : Option (List LogItem)) → StopsNextPart rest e old new → Aparts old new
  part_stops [] e old new stop = fixes_none (λ w moves. EachApart q moves) old new stop.1 (λ w. tt)
  part_stops (f ∷ rest) e old new stop = failed_apart (steps.ReadDir f) e old new tt stop.1

  parts_stop : (folders : List (List ℕ)) (e : Error) (old new : Option (List LogItem)) → StopsParts folders e old new → Aparts old new
  parts_stop folders e old new s = aparts_then old s.between new (listings_apart s.listings old s.between s.listing) (part_stops s.rest e s.between new s.stop)

  pub finding_stops : (cache : List ℕ) (e : Error) (old new : Option (List LogItem)) → StopsFinding cache e old new → Aparts old new
  finding_stops cache e old new (inl first) = parts_stop (index_area_in cache ∷ []) e old new first
  finding_stops cache e old new (inr (tops, one, a, inl second)) = aparts_then old one new (listings_apart a.listings old one a.listing) (parts_stop tops e one new second)
  finding_stops cache e old new (inr (tops, one, a, inr (lows, two, b, third))) =
      aparts_then old one new (listings_apart a.listings old one a.listing) (aparts_then one two new (listings_apart b.listings one two b.listing) (parts_stop lows e two new third))

  sync_stops : (rest : List (List ℕ)) (e : Error) (old new : Option (List LogItem)) → StopsNextSync rest e old new → Aparts old new
  sync_stops [] e old new stop = fixes_none (λ w moves. EachApart q moves) old new stop.1 (λ w. tt)
  sync_stops (f ∷ rest) e old new stop = failed_apart (steps.SyncDir f) e old new tt stop

  syncs_stop : (folders : List (List ℕ)) (e : Error) (old new : Option (List LogItem)) → StopsInTurn folders e old new → Aparts old new
  syncs_stop folders e old new s = aparts_then old s.between new (syncs_apart s.synced old s.between s.syncing) (sync_stops s.rest e s.between new s.stop)

  pub above_stops : (durable : Bool) (cache : List ℕ) (tops : List (List ℕ)) (e : Error) (old new : Option (List LogItem)) → StopsAbove durable cache tops e old new → Aparts old new
  above_stops true cache tops e old new s = syncs_stop (folders_above cache tops) e old new s
  above_stops false cache tops e old new s = absurd s

-- ---- a folder on the way to a bucket

module _ (durable : Bool) (cache : List ℕ) (home : Names) (is : home_of cache ≡ Some home) (p : Names) (kind : path_kind (Some home) p ≡ Way) where
  each_apart : (buckets : List Bucket) (old new : Option (List LogItem)) → AllByRecursion (HasBucketName home) (map (λ (b : Bucket). b.0) buckets) → CompactsEach durable cache buckets old new → Aparts p old new
  each_apart [] old new lie same = fixes_none (λ w moves. EachApart p moves) old new same (λ w. tt)
  each_apart (b ∷ buckets) old new lie (next, one, more) =
      let spares = at_false (Some home) IsBucket Way p (names_of b.0) lie.0 kind (λ e. cc) in
      aparts_then p old next new (bucket_apart cache home is p Way kind (λ e. cc) durable b old next spares one) (each_apart buckets next new lie.1 more)

  all_apart : (paths : List (List ℕ)) (count bytes : ℕ) (old new : Option (List LogItem)) → AllByRecursion (HasBucketName home) paths → CompactsAll durable cache paths count bytes old new → Aparts p old new
  all_apart paths count bytes old new lie all = each_apart all.buckets old new (subst (AllByRecursion (HasBucketName home)) (sym all.each) lie) all.compacting

  whole_apart : (count bytes : ℕ) (old new : Option (List LogItem)) → CompactsCache durable cache count bytes old new → Aparts p old new
  whole_apart count bytes old new (tops, paths, found, done, finding, all, above) =
      aparts_then p old found new (finding_apart p cache tops paths old found finding)
      (aparts_then p found done new (all_apart paths count bytes found done (paths_lie cache home tops paths old found is finding) all) (above_apart p durable cache tops done new above))

  each_stops : (paths : List (List ℕ)) (e : Error) (old new : Option (List LogItem)) → AllByRecursion (HasBucketName home) paths → StopsCompactingEach durable cache paths e old new → Aparts p old new
  each_stops paths e old new lie s =
      let parts = both_parts (HasBucketName home) (map (λ (b : Bucket). b.0) s.buckets) (s.next ∷ s.rest) (subst (AllByRecursion (HasBucketName home)) s.split lie) in
      aparts_then p old s.between new (each_apart s.buckets old s.between parts.0 s.compacting)
      (bucket_stops cache home is p Way kind (λ e. cc) durable s.next e s.between new (at_false (Some home) IsBucket Way p (names_of s.next) parts.1.0 kind (λ e. cc)) s.stop)

  -- all of its moves, also if an error ends it
  pub compaction_apart : (old new : Option (List LogItem)) → CompactsSo durable cache old new → Fixes (λ w moves. EachApart p moves) old new
  compaction_apart old new (inl (count, bytes, c)) = whole_apart count bytes old new c
  compaction_apart old new (inr (e, inl finding)) = finding_stops p cache e old new finding
  compaction_apart old new (inr (e, inr (tops, paths, found, finding, inl each))) =
      aparts_then p old found new (finding_apart p cache tops paths old found finding) (each_stops paths e found new (paths_lie cache home tops paths old found is finding) each)
  compaction_apart old new (inr (e, inr (tops, paths, found, finding, inr (count, bytes, done, all, above)))) =
      aparts_then p old found new (finding_apart p cache tops paths old found finding)
      (aparts_then p found done new (all_apart paths count bytes found done (paths_lie cache home tops paths old found is finding) all) (above_stops p durable cache tops e done new above))

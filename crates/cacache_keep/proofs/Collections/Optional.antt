-- A collection with options leaves what is live, and what its roots name, wherever it ends.
use Rattle.std.proofs.Common.{◌≡◌, inl, inr, ℕ, List, [], ◌∷◌, ◌++◌, Bool, true, false, Option, Some, Result, Ok, Err, map, refl, sym, ap, subst, ◌∙◌, filter}
use Rattle.std.specs.Prelude.{Contains, not}
use Rattle.sha1.specs.Sha1.{sha1}
use Rattle.cacache_core.specs.{declared.{errors.{Error.{Error, TheVariants.{IoError, OutOfMemory}}, Fault.{Fault, TheVariants.{NotFound}}}, integrity.digest.Hash.{Hash}}, Integrity.{IsHash, address}, Matching.{lists}, Laws.{IsKeyDigest}, Paths.{Names, home_of, names_of, joined, content_names}}
use Rattle.cacache_core.proofs.{Meeting.{lists_finds}, PathLemmas.{keys_have_digests}}
use Rattle.cacache_store.specs.{declared.store.log.LogItem.{LogItem}, Plain.{PlainStep, PlainAnswer}}
use Rattle.cacache_store.specs.declared.store.answer.Answer.TheVariants as answers
use Rattle.cacache_store.specs.declared.store.step.Step.TheVariants as steps
use Rattle.cacache_disk.{specs.{Replay.{tree_of, IsLog}, declared.luck.Luck.TheVariants.{Plain}, Tree.{Tree, Rooted}, Apply.{apply}}, proofs.KeptFolders.{steps_keep_rooted}}
use Rattle.cacache_calls.specs.{Runs.{Gains, Moves}, SingleSteps.{Does, FailsAt}, State.{Site}, Steps.{content_path}}
use Rattle.cacache_value.specs.{Acts.{DropFolder, act_at, act_if_done, act_of, change}, Placed.{Placed}, Value.{Value, value_of_tree, wide_value}}
use Rattle.cacache_value.proofs.Traces.{steps_act, steps_keep_placed}
use Rattle.cacache_loss.{specs.Fixing.{is_sync}, proofs.KeptPaths.{sync_tree}}
use Rattle.cacache_laws.specs.{Caches.{HasContent}, Sequence.{tree_on, AreAnswered}, Standing.{IsStanding}, trees.{Collecting.{is_live}, Contents.{bucket_in, content_in}}}
use Rattle.cacache_laws.proofs.{Calls.InParts.{logs_lead}, Readings.GivenReads.{same_stays_known}, trees.{Collected.{from_kept}, Keeping.{removals_leave}, Logged.{answered_split, gains_join, tree_split}, Members.{Member, contains_member, member_contains}, Twins.Twice.{address_is}}}
use Rattle.cacache_keep.specs.{Buckets.{FindsBuckets, Listed, ListsInTurn, StopsFinding, StopsNextPart, StopsParts, index_area_in}, declared.{dropping.Tally.{Tally}, grace.Fate.{Fate, TheVariants.{Dropped, Young, Gone}}}, Calls.{AreOthers, has_address_in, has_entry}, Collecting.{CollectsBy, StopsChosen, StopsCollectingBy, Told}, Dropping.{DropsAll, DropsEach, StopsDropping, Follows, Met, Unlinks}, Emptying.{Empties, EmptiesBoth}, Keeping.{Chooses}, Later.{KeepsLed, OptionsKeepLed, RootsStay, StoppedOptionsKeepLed}, Rewriting.{StopsSyncingBucket, SyncsBucket, folder_of}, Syncing.{StopsBuckets, StopsIndexSync, StopsInTurn, StopsNextSync, SyncsBuckets, SyncsIndex, SyncsInTurn, folders_above}}
use Rattle.cacache_keep.proofs.{Collections.{Behind.{found_same, key_same, lies_same}, Leaving.{Choice, choice, unused_on, unused_ones}, StoppedKeys.{chooses_keep, early_keeps, parts}}, Stopped.{Keeps, gained, gains_none}}

-- ---- moves that leave all but some contents

module _ (cache : List ℕ) (home : Names) (is : home_of cache ≡ Some home) (hs : List Hash) where
  -- everything stands where it may; all but these contents are as before
  pub record Spares (t new : Tree) : Type 0 where
    pub placed : Placed (Some home) new
    pub rooted : Rooted new
    pub contents : (h : Hash) → IsHash h → (Member h hs → ⊥) → content_in home new h ≡ content_in home t h
    pub buckets : (digest : List ℕ) → IsKeyDigest digest → bucket_in home new digest ≡ bucket_in home t digest

  abbrev pub AllHashes : Type 0
  AllHashes = (h : Hash) → Member h hs → IsHash h

  -- the log gained moves that leave them
  pub record Tidies (old new : Option (List LogItem)) : Type 0 where
    pub moves : Moves
    pub gains : Gains old new moves
    pub spares : AllHashes → (t : Tree) → Placed (Some home) t → Rooted t → AreAnswered t moves → Spares t (tree_on t moves)

  stays : (t new : Tree) → new ≡ t → Placed (Some home) t → Rooted t → Spares t new
  stays t new same placed rooted = record {
    placed = subst (Placed (Some home)) (sym same) placed;
    rooted = subst Rooted (sym same) rooted;
    contents = λ h hash apart. ap (λ x. content_in home x h) same;
    buckets = λ digest is. ap (λ x. bucket_in home x digest) same;
  }

  spares_then : (t mid new : Tree) → Spares t mid → Spares mid new → Spares t new
  spares_then t mid new a b = record {
    placed = b.placed;
    rooted = b.rooted;
    contents = λ h hash apart. b.contents h hash apart ∙ a.contents h hash apart;
    buckets = λ digest is. b.buckets digest is ∙ a.buckets digest is;
  }

  pub nothing : (old new : Option (List LogItem)) → new ≡ old → Tidies old new
  nothing old new same = record { moves = []; gains = gains_none old new same; spares = λ all t placed rooted a. stays t t refl placed rooted }

  pub tidies_then : (old mid new : Option (List LogItem)) → Tidies old mid → Tidies mid new → Tidies old new
  tidies_then old mid new a b = record {
    moves = a.moves ++ b.moves;
    gains = gains_join old mid new a.moves b.moves a.gains b.gains;
    spares = λ all t placed rooted answered.
        let each = answered_split t a.moves b.moves answered in
        let first = a.spares all t placed rooted each.0 in
        let last = b.spares all (tree_on t a.moves) first.placed first.rooted each.1 in
        subst (Spares t) (sym (tree_split t a.moves b.moves)) (spares_then t (tree_on t a.moves) (tree_on (tree_on t a.moves) b.moves) first last);
  }

  pub looks : (old new : Option (List LogItem)) → Keeps old new → Tidies old new
  looks old new k = record { moves = k.moves; gains = k.gains; spares = λ all t placed rooted a. stays t (tree_on t k.moves) (k.stays t) placed rooted }

  -- ---- single steps

  one : (step : PlainStep) (a : PlainAnswer) (old new : Option (List LogItem)) → Does step a old new
      → (AllHashes → (t : Tree) → Placed (Some home) t → Rooted t → a ≡ (apply t step Plain).0 → Spares t (apply t step Plain).1) → Tidies old new
  one step a old new does by = record {
    moves = (step, a) ∷ [];
    gains = does;
    spares = λ all t placed rooted answered. by all t placed rooted answered.0;
  }

  pub synced : (step : PlainStep) (a : PlainAnswer) (old new : Option (List LogItem)) → is_sync step ≡ true → Does step a old new → Tidies old new
  synced step a old new is does = one step a old new does (λ all t placed rooted answered. stays t (apply t step Plain).1 (sync_tree t step Plain is) placed rooted)

  -- the removal of a folder changes folders alone
  folder_value : (a : PlainAnswer) (r : Result Names Fault) (v : Value) → ((change (Some home) (act_if_done a (act_at r DropFolder)) v).contents ≡ v.contents) × ((change (Some home) (act_if_done a (act_at r DropFolder)) v).buckets ≡ v.buckets)
  folder_value answers.Done (Ok names) v = (refl, refl)
  folder_value answers.Done (Err fault) v = (refl, refl)
  folder_value a r v = (refl, refl)

  pub emptied : (p : List ℕ) (a : PlainAnswer) (old new : Option (List LogItem)) → Does (steps.RemoveDir p) a old new → Tidies old new
  emptied p a old new does = one (steps.RemoveDir p) a old new does (λ all t placed rooted answered.
      let after = (apply t (steps.RemoveDir p) Plain).1 in
      let acted = steps_act (Some home) t (steps.RemoveDir p) Plain placed tt in
      let value = folder_value (apply t (steps.RemoveDir p) Plain).0 (names_of p) (wide_value (Some home) t) in
      record {
        placed = steps_keep_placed (Some home) t (steps.RemoveDir p) Plain placed tt;
        rooted = steps_keep_rooted t (steps.RemoveDir p) Plain rooted;
        contents = λ h hash apart. ap (λ (v : Value). v.contents h) acted ∙ ap (λ f. f h) value.0;
        buckets = λ digest is. ap (λ (v : Value). v.buckets digest) acted ∙ ap (λ f. f digest) value.1;
      })

  path_is : (h : Hash) → content_path cache (h ∷ []) ≡ joined cache (content_names h)
  unfolding content_path
  path_is h = refl

  -- one of these contents is removed
  pub removed : (h : Hash) (old new : Option (List LogItem)) → Member h hs → Does (steps.RemoveFile (content_path cache (h ∷ []))) answers.Done old new → Tidies old new
  removed h old new member does =
      let p = joined cache (content_names h) in
      one (steps.RemoveFile p) answers.Done old new (subst (λ q. Does (steps.RemoveFile q) answers.Done old new) (path_is h) does) (λ all t placed rooted answered.
      let left = removals_leave cache home (h ∷ []) t (apply t (steps.RemoveFile p) Plain).1 is (λ g among. subst IsHash (sym (only g h (member_contains g (h ∷ []) among))) (all h member)) (sym answered, refl) in
      record {
        placed = steps_keep_placed (Some home) t (steps.RemoveFile p) Plain placed tt;
        rooted = steps_keep_rooted t (steps.RemoveFile p) Plain rooted;
        contents = λ g other apart. left.kept g other (λ among. apart (subst (λ x. Member x hs) (sym (only g h (member_contains g (h ∷ []) among))) member));
        buckets = left.buckets;
      })
    where
      only : (g h : Hash) → Member g (h ∷ []) → g ≡ h
      only g h (inl same) = same
      only g h (inr none) = absurd none

  pub unremoved : (p : List ℕ) (fault : Fault) (old new : Option (List LogItem)) → Does (steps.RemoveFile p) (answers.Failed fault) old new → Tidies old new
  unremoved p fault old new does = one (steps.RemoveFile p) (answers.Failed fault) old new does (λ all t placed rooted answered.
      let acted = steps_act (Some home) t (steps.RemoveFile p) Plain placed tt in
      let same : wide_value (Some home) (apply t (steps.RemoveFile p) Plain).1 ≡ wide_value (Some home) t
      = subst (λ a. wide_value (Some home) (apply t (steps.RemoveFile p) Plain).1 ≡ change (Some home) (act_of (steps.RemoveFile p) Plain a) (wide_value (Some home) t)) (sym answered) acted in
      record {
        placed = steps_keep_placed (Some home) t (steps.RemoveFile p) Plain placed tt;
        rooted = steps_keep_rooted t (steps.RemoveFile p) Plain rooted;
        contents = λ h hash apart. ap (λ (v : Value). v.contents h) same;
        buckets = λ digest is. ap (λ (v : Value). v.buckets digest) same;
      })

  -- ---- contents that are dropped

  emptied_or_not : (p : List ℕ) (gone : Bool) (old new : Option (List LogItem)) → Empties p gone old new → Tidies old new
  emptied_or_not p true old new does = emptied p answers.Done old new does
  emptied_or_not p false old new (inl same) = nothing old new same
  emptied_or_not p false old new (inr (fault, does)) = emptied p (answers.Failed fault) old new does

  both_emptied : (lower upper : List ℕ) (old new : Option (List LogItem)) → EmptiesBoth lower upper old new → Tidies old new
  both_emptied lower upper old new (inl e) = emptied_or_not lower false old new e
  both_emptied lower upper old new (inr (cut, e, gone, f)) = tidies_then old cut new (emptied_or_not lower true old cut e) (emptied_or_not upper gone cut new f)

  unlinked : (h : Hash) (fate : Fate) (old new : Option (List LogItem)) → Member h hs → Unlinks (content_path cache (h ∷ [])) fate old new → Tidies old new
  unlinked h Dropped old new member (cut, does, folders) =
      let p = content_path cache (h ∷ []) in
      tidies_then old cut new (removed h old cut member does) (both_emptied (folder_of p) (folder_of (folder_of p)) cut new folders)
  unlinked h Gone old new member does = unremoved (content_path cache (h ∷ [])) NotFound old new does
  unlinked h Young old new member never = absurd never

  followed : (h : Hash) (judged fate : Fate) (old new : Option (List LogItem)) → Member h hs → Follows (content_path cache (h ∷ [])) judged fate old new → Tidies old new
  followed h Dropped fate old new member u = unlinked h fate old new member u
  followed h Young fate old new member (is, same) = nothing old new same
  followed h Gone fate old new member (is, same) = nothing old new same

  pub each_dropped : (limit : Option ℕ) (met : List Met) (gs : List Hash) (old new : Option (List LogItem)) → map (λ (m : Met). m.0) met ≡ map (λ (h : Hash). h ∷ []) gs → ((h : Hash) → Member h gs → Member h hs)
      → DropsEach limit cache met old new → Tidies old new
  each_dropped limit [] gs old new are among same = nothing old new same
  each_dropped limit (m ∷ met) (g ∷ gs) old new are among (next, (judged, by, follows), more) =
      let first : m.0 ≡ g ∷ [] = cc in
      let rest : map (λ (x : Met). x.0) met ≡ map (λ (h : Hash). h ∷ []) gs = cc in
      let own = among g (inl refl) in
      tidies_then old next new (followed g judged m.1 old next own (subst (λ i. Follows (content_path cache i) judged m.1 old next) first follows))
      (each_dropped limit met gs next new rest (λ h member. among h (inr member)) more)
  each_dropped limit (m ∷ met) [] old new are among drops = absurd cc

  pub removal_failed : (p : List ℕ) (e : Error) (old new : Option (List LogItem)) → FailsAt (steps.RemoveFile p) e old new → Tidies old new
  removal_failed p (IoError fault message) old new does = unremoved p fault old new does
  removal_failed p OutOfMemory old new (inl same) = nothing old new same
  removal_failed p OutOfMemory old new (inr (fault, does)) = unremoved p fault old new does
  removal_failed p e old new fails = absurd fails

  -- ---- syncs

  pub sync_failed : (step : PlainStep) (e : Error) (old new : Option (List LogItem)) → is_sync step ≡ true → FailsAt step e old new → Tidies old new
  sync_failed step (IoError fault message) old new is does = synced step (answers.Failed fault) old new is does
  sync_failed step OutOfMemory old new is (inl same) = nothing old new same
  sync_failed step OutOfMemory old new is (inr (fault, does)) = synced step (answers.Failed fault) old new is does
  sync_failed step e old new is fails = absurd fails

  bucket_synced : (p : List ℕ) (old new : Option (List LogItem)) → SyncsBucket true p old new → Tidies old new
  bucket_synced p old new (mid, file, folder) = tidies_then old mid new (synced (steps.SyncFile p) answers.Done old mid refl file) (synced (steps.SyncDir (folder_of p)) answers.Done mid new refl folder)

  buckets_synced : (ps : List (List ℕ)) (old new : Option (List LogItem)) → SyncsBuckets ps old new → Tidies old new
  buckets_synced [] old new same = nothing old new same
  buckets_synced (p ∷ ps) old new (next, first, more) = tidies_then old next new (bucket_synced p old next first) (buckets_synced ps next new more)

  in_turn : (fs : List (List ℕ)) (old new : Option (List LogItem)) → SyncsInTurn fs old new → Tidies old new
  in_turn [] old new same = nothing old new same
  in_turn (f ∷ fs) old new (next, does, more) = tidies_then old next new (synced (steps.SyncDir f) answers.Done old next refl does) (in_turn fs next new more)

  bucket_stopped : (p : List ℕ) (e : Error) (old new : Option (List LogItem)) → StopsSyncingBucket true p e old new → Tidies old new
  bucket_stopped p e old new (inl fails) = sync_failed (steps.SyncFile p) e old new refl fails
  bucket_stopped p e old new (inr (mid, file, fails)) = tidies_then old mid new (synced (steps.SyncFile p) answers.Done old mid refl file) (sync_failed (steps.SyncDir (folder_of p)) e mid new refl fails)

  buckets_stopped : (ps : List (List ℕ)) (e : Error) (old new : Option (List LogItem)) → StopsBuckets ps e old new → Tidies old new
  buckets_stopped ps e old new s = tidies_then old s.between new (buckets_synced s.synced old s.between s.syncing) (bucket_stopped s.next e s.between new s.stop)

  next_stopped : (fs : List (List ℕ)) (e : Error) (old new : Option (List LogItem)) → StopsNextSync fs e old new → Tidies old new
  next_stopped [] e old new (memory, same) = nothing old new same
  next_stopped (f ∷ fs) e old new fails = sync_failed (steps.SyncDir f) e old new refl fails

  turn_stopped : (fs : List (List ℕ)) (e : Error) (old new : Option (List LogItem)) → StopsInTurn fs e old new → Tidies old new
  turn_stopped fs e old new s = tidies_then old s.between new (in_turn s.synced old s.between s.syncing) (next_stopped s.rest e s.between new s.stop)

  -- ---- the search for buckets

  listings : (ls : List Listed) (old new : Option (List LogItem)) → ListsInTurn ls old new → Tidies old new
  listings [] old new same = nothing old new same
  listings (l ∷ ls) old new (next, lists, more) =
      tidies_then old next new (looks old next (gained old next ((steps.ReadDir l.0, lists.0) ∷ []) lists.1.gained (tt, tt))) (listings ls next new more)

  listing_failed : (p : List ℕ) (e : Error) (old new : Option (List LogItem)) → FailsAt (steps.ReadDir p) e old new → Tidies old new
  listing_failed p (IoError fault message) old new does = looks old new (gained old new ((steps.ReadDir p, answers.Failed fault) ∷ []) does (tt, tt))
  listing_failed p OutOfMemory old new (inl same) = nothing old new same
  listing_failed p OutOfMemory old new (inr (fault, does)) = looks old new (gained old new ((steps.ReadDir p, answers.Failed fault) ∷ []) does (tt, tt))
  listing_failed p e old new fails = absurd fails

  part_stopped : (rest : List (List ℕ)) (e : Error) (old new : Option (List LogItem)) → StopsNextPart rest e old new → Tidies old new
  part_stopped [] e old new stop = nothing old new stop.1
  part_stopped (f ∷ rest) e old new stop = listing_failed f e old new stop.1

  parts_stopped : (fs : List (List ℕ)) (e : Error) (old new : Option (List LogItem)) → StopsParts fs e old new → Tidies old new
  parts_stopped fs e old new s = tidies_then old s.between new (listings s.listings old s.between s.listing) (part_stopped s.rest e s.between new s.stop)

  buckets_found : (tops paths : List (List ℕ)) (old new : Option (List LogItem)) → FindsBuckets cache tops paths old new → Tidies old new
  buckets_found tops paths old new (lows, one, two, a, b, c) =
      tidies_then old one new (listings a.listings old one a.listing) (tidies_then one two new (listings b.listings one two b.listing) (listings c.listings two new c.listing))

  finding_stopped : (e : Error) (old new : Option (List LogItem)) → StopsFinding cache e old new → Tidies old new
  finding_stopped e old new (inl first) = parts_stopped (index_area_in cache ∷ []) e old new first
  finding_stopped e old new (inr (tops, one, a, inl second)) = tidies_then old one new (listings a.listings old one a.listing) (parts_stopped tops e one new second)
  finding_stopped e old new (inr (tops, one, a, inr (lows, two, b, third))) =
      tidies_then old one new (listings a.listings old one a.listing) (tidies_then one two new (listings b.listings one two b.listing) (parts_stopped lows e two new third))

  pub index_synced : (durable : Bool) (old new : Option (List LogItem)) → SyncsIndex durable cache old new → Tidies old new
  index_synced false old new same = nothing old new same
  index_synced true old new (tops, paths, found, done, finds, buckets, above) =
      tidies_then old found new (buckets_found tops paths old found finds) (tidies_then found done new (buckets_synced paths found done buckets) (in_turn (folders_above cache tops) done new above))

  pub index_stopped : (durable : Bool) (e : Error) (old new : Option (List LogItem)) → StopsIndexSync durable cache e old new → Tidies old new
  index_stopped false e old new never = absurd never
  index_stopped true e old new (inl finding) = finding_stopped e old new finding
  index_stopped true e old new (inr (tops, paths, found, finds, inl stop)) = tidies_then old found new (buckets_found tops paths old found finds) (buckets_stopped paths e found new stop)
  index_stopped true e old new (inr (tops, paths, found, finds, inr (done, buckets, stop))) =
      tidies_then old found new (buckets_found tops paths old found finds) (tidies_then found done new (buckets_synced paths found done buckets) (turn_stopped (folders_above cache tops) e done new stop))

-- what leaves each tree leaves each key
kept_led : (site : Site) (home : Names) (old new : List LogItem) → home_of site.cache ≡ Some home → IsLog new → IsStanding site.cache old → Keeps (Some old) (Some new) → KeepsLed site.cache old new
kept_led site home old new is logged standing k =
    let same : tree_of new ≡ tree_of old = (logs_lead old new k.moves k.gains logged).1 ∙ k.stays (tree_of old) in
    let known = same_stays_known site.cache old new (ap (value_of_tree (home_of site.cache)) same) in
    record {
      standing = record { placed = subst (Placed (home_of site.cache)) (sym same) standing.placed; rooted = subst Rooted (sym same) standing.rooted };
      finds = known.finds;
      key = known.key;
    }

-- ---- what is dropped

-- an address among those that are known
from_some : (hs : List Hash) (h : Hash) → Contains (map Some hs) (Some h) → Contains hs h
from_some hs h inside = contains_member h hs (some_member hs h (member_contains (Some h) (map Some hs) inside))
  where
    some_member : (hs : List Hash) (h : Hash) → Member (Some h) (map Some hs) → Member h hs
    some_member [] h m = absurd m
    some_member (g ∷ gs) h (inl same) = inl (let e : Some h ≡ Some g = same in cc)
    some_member (g ∷ gs) h (inr m) = inr (some_member gs h m)

-- the address of one of the roots
member_contains_address : (roots : List (List Hash)) (i : List Hash) → Contains roots i → Contains (map address roots) (address i)
member_contains_address roots i inside = contains_member (address i) (map address roots) (mapped roots i (member_contains i roots inside))
  where
    mapped : (roots : List (List Hash)) (i : List Hash) → Member i roots → Member (address i) (map address roots)
    mapped [] i m = absurd m
    mapped (r ∷ rs) i (inl same) = inl (ap address same)
    mapped (r ∷ rs) i (inr m) = inr (mapped rs i m)

-- those of single hashes that are picked
picked_ones : (p : List Hash → Bool) (hs : List Hash) → filter p (map (λ h. h ∷ []) hs) ≡ map (λ h. h ∷ []) (filter (λ h. p (h ∷ [])) hs)
picked_ones p [] = refl
picked_ones p (h ∷ hs) = unused_on (p (h ∷ [])) h (filter p (map (λ x. x ∷ []) hs)) (filter (λ x. p (x ∷ [])) hs) (picked_ones p hs)

module _ (site : Site) (home : Names) (live : ℕ) (unused : List (List Hash)) (old chosen : Option (List LogItem)) (is : home_of site.cache ≡ Some home)
    (c : Chooses site live unused old chosen) where
  abbrev pub idle : List Hash
  idle = filter (λ h. not (is_live c.entries h)) c.order.hashes

  -- those of them that no root has
  abbrev pub over : List Hash → List Hash
  over roots = filter (λ h. not (lists roots h)) idle

  unused_are : unused ≡ map (λ h. h ∷ []) idle
  unused_are = c.unused.which ∙ ap (λ l. filter (λ i. not (has_entry c.entries i)) l) c.order.single ∙ unused_ones c.entries c.order.hashes

  over_are : (roots : List Hash) (rest : List (List Hash)) → AreOthers roots unused rest → rest ≡ map (λ h. h ∷ []) (over roots)
  over_are roots rest r = r.which ∙ ap (filter (λ i. not (has_address_in roots i))) unused_are ∙ picked_ones (λ i. not (has_address_in roots i)) idle

  pub among : (roots : List Hash) (h : Hash) → Member h (over roots) → Member h c.order.hashes
  among roots h m = (from_kept (λ x. not (is_live c.entries x)) h c.order.hashes (from_kept (λ x. not (lists roots x)) h idle m).0).0

  -- one that is live isn't among them, and neither is one of the roots'
  pub dead : (roots : List Hash) (h : Hash) → is_live c.entries h ≡ true → Member h (over roots) → ⊥
  dead roots h lives m =
      let member = (from_kept (λ x. not (lists roots x)) h idle m).0 in
      let no : not (is_live c.entries h) ≡ true = (from_kept (λ x. not (is_live c.entries x)) h c.order.hashes member).1 in
      let wrong : false ≡ true = ap not (sym lives) ∙ no in absurd cc

  pub unrooted : (roots : List Hash) (h : Hash) → lists roots h ≡ true → Member h (over roots) → ⊥
  unrooted roots h lives m =
      let no : not (lists roots h) ≡ true = (from_kept (λ x. not (lists roots x)) h idle m).1 in
      let wrong : false ≡ true = ap not (sym lives) ∙ no in absurd cc

  pub rest_dropped : (limit : Option ℕ) (roots : List Hash) (rest : List (List Hash)) (t : Tally) (old new : Option (List LogItem)) → AreOthers roots unused rest → DropsAll limit site.cache rest t old new → Tidies site.cache home is (over roots) old new
  rest_dropped limit roots rest t old new r d =
      each_dropped site.cache home is (over roots) limit d.met (over roots) old new (d.each ∙ over_are roots rest r) (λ h m. m) d.dropping

  rest_stopped : (limit : Option ℕ) (roots : List Hash) (rest : List (List Hash)) (e : Error) (old new : Option (List LogItem)) → AreOthers roots unused rest → StopsDropping limit site.cache rest e old new → Tidies site.cache home is (over roots) old new
  rest_stopped limit roots rest e old new r s =
      let front = parts (map (λ (m : Met). m.0) s.met) s.next s.rest (over roots) (sym (over_are roots rest r) ∙ s.split) in
      tidies_then site.cache home is (over roots) old s.between new
      (each_dropped site.cache home is (over roots) limit s.met front.hashes old s.between front.gone_are front.first s.dropping)
      (removal_failed site.cache home is (over roots) (content_path site.cache s.next) e s.between new s.stop.1)

  -- what was done after the choice, if an error ended it, with the roots
  pub chosen_stopped : (told : Told) (limit : Option ℕ) (odd : List (List ℕ)) (e : Error) (new : Option (List LogItem)) → StopsChosen told limit site odd unused e chosen new → (roots : List Hash) × Tidies site.cache home is (over roots) chosen new
  chosen_stopped told limit odd e new (inl (refuses, same)) = ([], nothing site.cache home is (over []) chosen new same)
  chosen_stopped told limit odd e new (inr (inl (memory, same))) = ([], nothing site.cache home is (over []) chosen new same)
  chosen_stopped told limit odd e new (inr (inr (rest, allows, (roots, hashes, named, same, r), inl stop))) =
      (roots, index_stopped site.cache home is (over roots) told.durable e chosen new stop)
  chosen_stopped told limit odd e new (inr (inr (rest, allows, (roots, hashes, named, same, r), inr (synced, syncs, stop)))) =
      (roots, tidies_then site.cache home is (over roots) chosen synced new (index_synced site.cache home is (over roots) told.durable chosen synced syncs) (rest_stopped limit roots rest e synced new r stop))

-- what the moves after the choice leave
module _ (site : Site) (home : Names) (live : ℕ) (unused : List (List Hash)) (old new : List LogItem) (chosen : Option (List LogItem))
    (is : home_of site.cache ≡ Some home) (logged : IsLog new) (standing : IsStanding site.cache old) (c : Chooses site live unused (Some old) chosen)
    (roots : List Hash) (tidy : Tidies site.cache home is (over site home live unused (Some old) chosen is c roots) chosen (Some new)) where
  abbrev gone : List Hash
  gone = over site home live unused (Some old) chosen is c roots

  shown : Choice site home live unused old new chosen is logged c tidy.moves
  shown = choice site home live unused old new chosen is logged c tidy.moves tidy.gains

  all : (h : Hash) → Member h gone → IsHash h
  all h m = shown.holds.formed h (contains_member h c.order.hashes (among site home live unused (Some old) chosen is c roots h m))

  left : Spares site.cache home is gone (tree_of old) (tree_of new)
  left = subst (Spares site.cache home is gone (tree_of old)) (sym shown.leads) (tidy.spares all (tree_of old) (subst (λ f. Placed f (tree_of old)) is standing.placed) standing.rooted shown.answered)

  pub led : KeepsLed site.cache old new
  led = record {
    standing = record { placed = subst (λ f. Placed f (tree_of new)) (sym is) left.placed; rooted = left.rooted };
    finds = λ key. found_same site home old new is key (left.buckets (sha1 key) (keys_have_digests key));
    key = key_same site home old new is c.entries shown.index (λ h hash lives. left.contents h hash (dead site home live unused (Some old) chosen is c roots h lives)) left.buckets;
  }

  pub rooted_stays : (i : List Hash) (bytes : List ℕ) → ((h : Hash) → address i ≡ Some h → lists roots h ≡ true) → HasContent site.cache i bytes old → HasContent site.cache i bytes new
  rooted_stays i bytes named has =
      let a = address_is i has.formed in
      record {
        content = lies_same site home old new is i a.0 a.2 (left.contents a.0 a.1 (unrooted site home live unused (Some old) chosen is c roots a.0 (named a.0 a.2))) ∙ has.content;
        formed = has.formed;
        meets = has.meets;
      }

-- ---- a collection, and one that an error ended

module _ (told : Told) (limit : Option ℕ) (site : Site) (home : Names) (kept : ℕ) (t : Tally) (old new : Option (List LogItem))
    (is : home_of site.cache ≡ Some home) (c : CollectsBy told limit site kept t old new) where
  pub tidied : Tidies site.cache home is (over site home c.live c.unused old c.chosen is c.choosing c.sparing.0) c.chosen new
  tidied =
      let hs = over site home c.live c.unused old c.chosen is c.choosing c.sparing.0 in
      tidies_then site.cache home is hs c.chosen c.synced new (index_synced site.cache home is hs told.durable c.chosen c.synced c.syncing)
      (rest_dropped site home c.live c.unused old c.chosen is c.choosing limit c.sparing.0 c.rest t c.synced new c.sparing.4 c.dropping)

  pub collect_gains : (moves : Moves) × Gains old new moves
  collect_gains =
      let k = chooses_keep site c.live c.unused old c.chosen c.choosing in
      (k.moves ++ tidied.moves, gains_join old c.chosen new k.moves tidied.moves k.gains tidied.gains)

  -- the address of a root is among theirs
  pub named_root : (i : List Hash) (h : Hash) → Contains told.roots i → address i ≡ Some h → lists c.sparing.0 h ≡ true
  named_root i h inside at =
      let some : Contains (map Some c.sparing.1) (Some h) = subst (λ l. Contains l (Some h)) (sym c.sparing.2) (subst (Contains (map address told.roots)) at (member_contains_address told.roots i inside)) in
      (lists_finds c.sparing.0 h).1 ((c.sparing.3 h).1 (from_some c.sparing.1 h some))

pub options_keep_led : OptionsKeepLed
options_keep_led told limit site home kept t old new is logged standing c =
    led site home c.live c.unused old new c.chosen is logged standing c.choosing c.sparing.0 (tidied told limit site home kept t (Some old) (Some new) is c)

pub roots_stay : RootsStay
roots_stay told limit site home kept t i bytes old new is logged standing c inside =
    rooted_stays site home c.live c.unused old new c.chosen is logged standing c.choosing c.sparing.0 (tidied told limit site home kept t (Some old) (Some new) is c) i bytes
    (λ h at. named_root told limit site home kept t (Some old) (Some new) is c i h inside at)

-- all moves before the choice only look
pub stopped_options_keep_led : StoppedOptionsKeepLed
stopped_options_keep_led told limit site home e old new is logged standing (inl early) = kept_led site home old new is logged standing (early_keeps site e (Some old) (Some new) early)
stopped_options_keep_led told limit site home e old new is logged standing (inr (live, unused, chosen, c, stop)) =
    let after = chosen_stopped site home live unused (Some old) chosen is c told limit _ e (Some new) stop in
    led site home live unused old new chosen is logged standing c after.0 after.1

pub stop_gains : (told : Told) (limit : Option ℕ) (site : Site) (home : Names) (e : Error) (old new : Option (List LogItem)) → home_of site.cache ≡ Some home → StopsCollectingBy told limit site e old new → (moves : Moves) × Gains old new moves
stop_gains told limit site home e old new is (inl early) = (let k = early_keeps site e old new early in (k.moves, k.gains))
stop_gains told limit site home e old new is (inr (live, unused, chosen, c, stop)) =
    let k = chooses_keep site live unused old chosen c in
    let after = chosen_stopped site home live unused old chosen is c told limit _ e new stop in
    (k.moves ++ after.1.moves, gains_join old chosen new k.moves after.1.moves k.gains after.1.gains)

-- A collection leaves a cache in which each key leads where it led, and so do exports and writes of other keys.
-- After a collection of a store that stands each key leads where it led, and so after later calls that spare it.
-- A sweep leaves all but the temporary files in the tree of the log.
use Rattle.std.proofs.Common.{◌≡◌, ◌⊎◌, inl, inr, ℕ, List, [], ◌∷◌, true, Option, Some, filter_map, refl, sym, ap, subst, ◌∙◌, ◌++◌, Ok, filter, length}
use Rattle.sha1.specs.Sha1.{sha1}
use Rattle.cacache_core.specs.{declared.integrity.digest.Hash.{Hash}, Integrity.{IsHash, address}, Laws.{IsKeyDigest}, Paths.{Names, home_of, names_of, joined, content_names, temp_area}}
use Rattle.cacache_core.proofs.PathLemmas.{keys_have_digests}
use Rattle.cacache_store.specs.{declared.store.{log.LogItem.{LogItem}, step.Step.TheVariants.{RemoveFile, ReadDir}, answer.{Kind.{Kind}, Name.{Name}}}, Plain.{PlainAnswer}}
use Rattle.cacache_disk.specs.{Replay.{tree_of, IsLog}, declared.luck.Luck.TheVariants.{Plain}, Apply.{apply}, Tree.{Rooted, Tree, listing}}
use Rattle.cacache_disk.proofs.KeptFolders.{steps_keep_rooted}
use Rattle.cacache_entry.specs.Bucket.{Found, latest}
use Rattle.cacache_calls.specs.{State.{Site}, Runs.{Gains, Moves}}
use Rattle.cacache_value.{specs.{Acts.{list_of}, Value.{value_of_tree}, Placed.{Placed}}, proofs.Traces.{steps_keep_placed}}
use Rattle.cacache_history.specs.Turns.{blob_at}
use Rattle.cacache_laws.specs.{Beside.{IsOther, KeepsBeside, own_integrity, found_under, KeepsOthers, StaysKnown}, Caches.{IsCache, HasKey, lies_under}, ReadAnswers.{entries_on}, Sequence.{IsSound, tree_on, AreAnswered}, trees.{Collecting.{is_live, Removes}, Contents.{bucket_in, content_in}, Index.{IndexLists}, Verifying.{found_in}, Temporary.{LeavesUntemporary, area_of, cache_folder, is_temporary, sized_removals}}}
use Rattle.cacache_laws.proofs.{Putting.{Puts.{removals_keep, writes_keep, commits_keep, inserts_last}, OpenWriters.{commits_last, writers_open}}, Exports.ExportEffects.{exports_keep}, Spares.Unused.{giving_up_lasts}, Readings.{GivenReads.{same_stays_known}, ReadAnswers.{listing_keeps}}, Removing.RemovedKeys.{removals_last}, trees.{Collected.{live_so}, Twins.Twice.{address_is}, Led.{found_listed}, Logged.{log_rooted, gains_join}, Members.{member_contains}, Removed.{removals_leave_sound}, Spared.SparedKeys.{more_texts, first_text, spared_keys_stay}, Children.{NoFolder}, Temporary.{AreaStands, area_empty, area_stands, cache_named, names_listed, sweeps_leave, temp_area_named}}, Calls.InParts.{logs_lead}}
use Rattle.cacache_keep.specs.{Behind.{CollectionsKeepKeys, Event, Happen, Happens, KeepsKey, LaterKeysStay, LeadsOn, collects, commits, deletes, exports, gives_up, inserts, looks, opens, puts, text_of}, Kept.{LeavesTree, CachesAreSwept}, Later.{CollectedKeysStay, CollectionsKeepLed}, Sweeping.{ListsArea, SweepsCache, swept_folder}}
use Rattle.cacache_keep.proofs.Collections.Leaving.{leaves_live, steps_done, unused}
use Rattle.cacache_walks.specs.{Reading.{names_shown}, WalkStates.{AnswerShows}}
use Rattle.cacache_store.specs.declared.store.answer.Kind.TheVariants as kinds

-- ---- a collection

module _ (site : Site) (home : Names) (old new : List LogItem) (is : home_of site.cache ≡ Some home) where
  pub found_same : (key : List ℕ) → bucket_in home (tree_of new) (sha1 key) ≡ bucket_in home (tree_of old) (sha1 key) → found_under site.cache key new ≡ found_under site.cache key old
  found_same key same =
      subst (λ (f : Option Names). latest key (entries_on f (tree_of new) key) ≡ latest key (entries_on f (tree_of old) key)) (sym is)
      (ap (λ o. latest key (list_of o)) same)

  pub lies_same : (i : List Hash) (h : Hash) → address i ≡ Some h → content_in home (tree_of new) h ≡ content_in home (tree_of old) h → lies_under site.cache i new ≡ lies_under site.cache i old
  lies_same i h at same =
      subst (λ (f : Option Names). blob_at (value_of_tree f (tree_of new)) (address i) ≡ blob_at (value_of_tree f (tree_of old)) (address i)) (sym is)
      (subst (λ (a : Option Hash). blob_at (value_of_tree (Some home) (tree_of new)) a ≡ blob_at (value_of_tree (Some home) (tree_of old)) a) (sym at) same)

  -- what a key leads to is live
  pub key_same : (entries : List Found) → IndexLists site (tree_of old) entries → ((h : Hash) → IsHash h → is_live entries h ≡ true → content_in home (tree_of new) h ≡ content_in home (tree_of old) h)
      → ((digest : List ℕ) → IsKeyDigest digest → bucket_in home (tree_of new) digest ≡ bucket_in home (tree_of old) digest) → (key bytes : List ℕ) (i : List Hash) → HasKey site.cache key i bytes old
      → HasKey site.cache key i bytes new
  key_same entries index left buckets key bytes i has =
      let a = address_is i has.content.formed in
      let led : found_in home (tree_of old) key ≡ Some has.found = subst (λ (f : Option Names). latest key (entries_on f (tree_of old) key) ≡ Some has.found) is has.finds in
      let listed = found_listed site home (tree_of old) is (log_rooted old) entries key has.found index led in
      let live = live_so entries has.found a.0 (member_contains has.found entries listed) (ap address has.integrity ∙ a.2) in
      record {
        found = has.found;
        finds = found_same key (buckets (sha1 key) (keys_have_digests key)) ∙ has.finds;
        integrity = has.integrity;
        content = record {
          content = lies_same i a.0 a.2 (left a.0 a.1 live) ∙ has.content.content;
          formed = has.content.formed;
          meets = has.content.meets;
        };
      }

pub collections_keep_keys : CollectionsKeepKeys
collections_keep_keys site home kept dropped old new is logged sound c =
    let done = steps_done site home kept dropped old new is logged c.1.0 in
    let live = leaves_live site home kept dropped old new is logged c.1.0 in
    record {
      sound = removals_leave_sound site.cache (unused site home kept dropped old new is logged c.1.0) (tree_of old) (tree_of new) done.removes sound;
      finds = λ key. found_same site home old new is key (live.buckets (sha1 key) (keys_have_digests key));
      key = key_same site home old new is live.entries live.index live.left live.buckets;
    }

-- ---- texts

-- ---- events

module _ (site : Site) (home : Names) (is : home_of site.cache ≡ Some home) (key : List ℕ) where
  -- the key leads to these bytes still, or to the text that was written
  abbrev Next : Event → List Hash → List ℕ → List LogItem → Type 0
  Next e i held new = HasKey site.cache key i held new ⊎ ((t : List ℕ) × (text_of e ≡ Some t) × HasKey site.cache key i t new)

  record Steps (e : Event) (old new : List LogItem) : Type 0 where
    sound : IsCache site.cache new
    finds : found_under site.cache key new ≡ found_under site.cache key old
    leads : (held : List ℕ) (i : List Hash) → HasKey site.cache key i held old → Next e i held new

  -- what leaves all that was known
  known_step : (e : Event) (old new : List LogItem) → IsCache site.cache new → StaysKnown site.cache old new → Steps e old new
  known_step e old new sound known = record { sound = sound; finds = known.finds key; leads = λ held i has. inl (known.key key held i has) }

  -- what adds an entry of another key
  others_step : (e : Event) (other : List ℕ) (old new : List LogItem) → (key ≡ other → ⊥) → IsCache site.cache new → KeepsOthers site.cache other old new → Steps e old new
  others_step e other old new differ sound keeps = record { sound = sound; finds = keeps.finds key differ; leads = λ held i has. inl (keeps.key key held i differ has) }

  -- what puts bytes
  beside_step : (e : Event) (written : Option (List ℕ)) (own : List Hash) (added : List ℕ) (old new : List LogItem) → text_of e ≡ Some added → IsOther written key → IsCache site.cache new
      → KeepsBeside site.cache written own added old new → Steps e old new
  beside_step e written own added old new text other sound keeps = record {
    sound = sound;
    finds = keeps.finds key other;
    leads = λ held i has. elim (keeps.key key held i other has) [ inl still ↦ inl still | inr at ↦ inr (added, text, at.1) ];
  }

  tree_known : (old new : List LogItem) → LeavesTree old new → StaysKnown site.cache old new
  tree_known old new stays = same_stays_known site.cache old new (ap (value_of_tree (home_of site.cache)) stays)

  tree_sound : (old new : List LogItem) → LeavesTree old new → IsCache site.cache old → IsCache site.cache new
  tree_sound old new stays sound = subst (IsSound (home_of site.cache)) (sym stays) sound

  steps : (e : Event) (old new : List LogItem) → IsLog new → IsCache site.cache old → Happens site key e old new → Steps e old new
  steps collects old new logged sound (kept, dropped, c) =
      let k = collections_keep_keys site home kept dropped old new is logged sound c in
      record { sound = k.sound; finds = k.finds key; leads = λ held i has. inl (k.key key held i has) }
  steps looks old new logged sound stays = known_step looks old new (tree_sound old new stays sound) (tree_known old new stays)
  steps (exports source e) old new logged sound (apart, named, r, made) =
      let k = exports_keep site.cache source e r old new apart named sound made in
      known_step (exports source e) old new k.0 k.1
  steps (puts p) old new logged sound (other, fits, r, made) =
      let k = writes_keep site.cache p r old new fits sound made in
      beside_step (puts p) p.key (own_integrity p) p.data old new refl other k.0 k.1
  steps (inserts x) old new logged sound (other, formed, fits, r, made) =
      let k = inserts_last site.cache x r old new formed fits sound made in
      others_step (inserts x) x.key old new other k.0 k.2
  steps (deletes d) old new logged sound (other, utf8, early, r, made) =
      let last = removals_last site.cache d.key d.moment r old new utf8 early sound made in
      others_step (deletes d) d.key old new other last.0 (removals_keep site.cache d.key d.moment r old new utf8 early sound made)
  steps (opens number) old new logged sound (r, opening) =
      let k = (writers_open site.cache number r old new sound opening logged).0 in
      known_step (opens number) old new k.0 k.1
  steps (commits number p) old new logged sound (other, fits, expects, opened, r, made) =
      let k = (commits_keep site.cache p number r old new fits expects opened sound made).1 in
      let last = commits_last site.cache p number r old new fits opened sound made in
      beside_step (commits number p) p.key (own_integrity p) p.data old new refl other last.0 k
  steps (gives_up number) old new logged sound gives =
      let k = giving_up_lasts site.cache number old new sound gives logged in
      known_step (gives_up number) old new k.0 k.1

  abbrev Later : List Event → List Hash → List ℕ → List LogItem → Type 0
  Later events i held new = LeadsOn site.cache key i held (filter_map text_of events) new

  -- after an event that kept the bytes, and after one that wrote others
  kept_then : (e : Event) (events : List Event) (i : List Hash) (held : List ℕ) (new : List LogItem) → Later events i held new → Later (e ∷ events) i held new
  kept_then e events i held new l = record {
    held = l.held;
    has = l.has;
    which = elim l.which [
      | inl same ↦ inl same
      | inr c ↦ inr (more_texts (text_of e) l.held (filter_map text_of events) c)
    ];
  }

  wrote_then : (e : Event) (events : List Event) (i : List Hash) (held t : List ℕ) (new : List LogItem) → text_of e ≡ Some t → Later events i t new → Later (e ∷ events) i held new
  wrote_then e events i held t new text l = record {
    held = l.held;
    has = l.has;
    which = elim l.which [
      | inl same ↦ inr (first_text (text_of e) l.held (filter_map text_of events) (text ∙ ap Some (sym same)))
      | inr c ↦ inr (more_texts (text_of e) l.held (filter_map text_of events) c)
    ];
  }

  later : (events : List Event) (old new : List LogItem) → IsCache site.cache old → Happen site key events old new → KeepsKey site.cache key (filter_map text_of events) old new
  later [] old new sound stays =
      let known = tree_known old new stays in
      record {
        sound = tree_sound old new stays sound;
        finds = known.finds key;
        leads = λ bytes i has. record { held = bytes; has = known.key key bytes i has; which = inl refl };
      }
  later (e ∷ events) old new sound (next, logged, happens, more) =
      let s = steps e old next logged sound happens in
      let l = later events next new s.sound more in
      record {
        sound = l.sound;
        finds = l.finds ∙ s.finds;
        leads = λ bytes i has. elim (s.leads bytes i has) [
          | inl still ↦ kept_then e events i bytes new (l.leads bytes i still)
          | inr wrote ↦ wrote_then e events i bytes wrote.0 new wrote.1 (l.leads wrote.0 i wrote.2)
        ];
      }

pub later_keys_stay : LaterKeysStay
later_keys_stay site home key events old new is sound happen = later site home is key events old new sound happen

-- removals leave everything where it may stand
pub removals_stand : (cache : List ℕ) (dropped : List Hash) (t new : Tree) → Removes cache dropped t new → Placed (home_of cache) t → Rooted t → Placed (home_of cache) new × Rooted new
removals_stand cache [] t new r placed rooted = (subst (Placed (home_of cache)) (sym r) placed, subst Rooted (sym r) rooted)
removals_stand cache (h ∷ hs) t new r placed rooted =
    let step = RemoveFile (joined cache (content_names h)) in
    removals_stand cache hs (apply t (RemoveFile (joined cache (content_names h))) Plain).1 new r.1 (steps_keep_placed (home_of cache) t step Plain placed tt) (steps_keep_rooted t step Plain rooted)

pub collections_keep_led : CollectionsKeepLed
collections_keep_led site home old new is logged standing (kept, dropped, c) =
    let done = steps_done site home kept dropped old new is logged c.1.0 in
    let live = leaves_live site home kept dropped old new is logged c.1.0 in
    let stands = removals_stand site.cache (unused site home kept dropped old new is logged c.1.0) (tree_of old) (tree_of new) done.removes standing.placed standing.rooted in
    record {
      standing = record { placed = stands.0; rooted = stands.1 };
      finds = λ key. found_same site home old new is key (live.buckets (sha1 key) (keys_have_digests key));
      key = key_same site home old new is live.entries live.index live.left live.buckets;
    }

pub collected_keys_stay : CollectedKeysStay
collected_keys_stay site home key i bytes later old mid new is logged standing has collected spares =
    let k = collections_keep_led site home old mid is logged standing collected in
    let s = spared_keys_stay site.cache key i bytes later mid new k.standing (k.key key bytes i has) spares in
    record { standing = s.standing; finds = s.finds ∙ k.finds key; held = s.held; which = s.which; has = s.has; reads = s.reads }

-- a listing leaves the tree to the moves after it
listing_first : (t : Tree) (path : List ℕ) (a : PlainAnswer) (rest : Moves) (names : List Name) → names_shown a ≡ Some names → AreAnswered t ((ReadDir path, a) ∷ rest)
    → (names_shown (apply t (ReadDir path) Plain).0 ≡ Some names) × AreAnswered t rest × (tree_on t ((ReadDir path, a) ∷ rest) ≡ tree_on t rest)
listing_first t path a rest names shown answered =
    let stays = listing_keeps t path in
    (ap names_shown (sym answered.0) ∙ shown, subst (λ x. AreAnswered x rest) stays answered.1, ap (λ x. tree_on x rest) stays)

module _ (cache : List ℕ) (home : Names) (files bytes : ℕ) (strange : List (List ℕ)) (old new : List LogItem)
    (is : home_of cache ≡ Some home) (logged : IsLog new) (s : SweepsCache cache files bytes strange (Some old) (Some new)) where
  abbrev t : Tree
  t = tree_of old

  abbrev p : Names
  p = home ++ temp_area ∷ []

  abbrev removals : Moves
  removals = sized_removals (swept_folder cache) s.removed

  abbrev Leaves : Type 0
  Leaves = LeavesUntemporary home (tree_of old) (tree_of new) files

  abbrev named : names_of (cache_folder cache) ≡ Ok home
  named = (cache_named cache home is).0

  -- the listings are over
  then_leaves : (names : List Name) → names ≡ listing t p → s.found ≡ filter is_temporary names → AreAnswered t removals → tree_of new ≡ tree_on t removals → Leaves
  then_leaves names listed found answered leads =
      subst (λ (n : ℕ). LeavesUntemporary home t (tree_of new) n) (sym s.counted)
      (subst (λ (x : Tree). LeavesUntemporary home t x (length s.removed)) (sym leads)
      (sweeps_leave (cache_folder cache) home t names s.removed (cache_named cache home is).1 (log_rooted old) listed (s.each ∙ found) answered))

  module _ (around : List Name) (looked : Option (List LogItem)) (a : PlainAnswer) (shows : AnswerShows a around (cache_folder cache) (Some old) looked) where
    abbrev first : Moves → Moves
    first rest = (ReadDir (cache_folder cache), a) ∷ rest

    -- no folder is there
    none_swept : s.found ≡ [] → s.listed ≡ looked → (AreaStands t p (area_of around) → NoFolder t p) → Leaves
    none_swept none same apart =
        let gains = gains_join (Some old) looked (Some new) (first []) removals shows.gained (subst (λ (l : Option (List LogItem)). Gains l (Some new) removals) same s.removing) in
        let lead = logs_lead old new (first removals) gains logged in
        let one = listing_first t (cache_folder cache) a removals around shows.shown lead.0 in
        let stands = area_stands t home around (names_listed t (cache_folder cache) home around (log_rooted old) named one.0) in
        then_leaves [] (area_empty t home (log_rooted old) (apart stands)) none one.1 (lead.1 ∙ one.2)

    -- one does
    all_swept : ListsArea (Some kinds.Folder) (swept_folder cache) s.found strange looked s.listed → Leaves
    all_swept (names, (b, shown), found, others) =
        let second : Moves = (ReadDir (swept_folder cache), b) ∷ removals in
        let later = gains_join looked s.listed (Some new) ((ReadDir (swept_folder cache), b) ∷ []) removals shown.gained s.removing in
        let gains = gains_join (Some old) looked (Some new) (first []) second shows.gained later in
        let lead = logs_lead old new (first second) gains logged in
        let one = listing_first t (cache_folder cache) a second around shows.shown lead.0 in
        let two = listing_first t (swept_folder cache) b removals names shown.shown one.1 in
        then_leaves names (names_listed t (swept_folder cache) p names (log_rooted old) (temp_area_named (cache_folder cache) home (cache_named cache home is).1) two.0)
        found two.1 (lead.1 ∙ one.2 ∙ two.2)

    area_swept : (here : Option Kind) → area_of around ≡ here → ListsArea here (swept_folder cache) s.found strange looked s.listed → Leaves
    area_swept (Some kinds.Folder) at lists = all_swept lists
    area_swept here at lists = none_swept lists.0 lists.2 (λ stands. subst (AreaStands t p) at stands)

  leaves : Leaves
  leaves = let (around, looked, (a, shows), lists) = s.listing in area_swept around looked a shows (area_of around) refl lists

pub caches_are_swept : CachesAreSwept
caches_are_swept cache home files bytes strange old new is logged s = leaves cache home files bytes strange old new is logged s

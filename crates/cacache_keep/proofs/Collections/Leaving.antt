-- What the steps of a choice show of the tree of a log, and what a plan foretells.
-- A collection leaves what is live, and later reads see none of it.
-- A second collection drops nothing.
-- Where a key leads after what spares it, on a store that stands: it stays led to the same entry and the same bytes.
use Rattle.std.proofs.{Common.{◌≡◌, ℕ, List, [], ◌∷◌, ◌++◌, Option, Some, inl, inr, map, length, refl, sym, ap, ap₂, subst, ◌∙◌, arith, filter, Bool, true, false, cond, None}, lemmas.List.{length-map, Filters.{length-filter_both}, Kept.{IsStrictlySortedBy-filter}}}
use Rattle.std.specs.Prelude.{not, Contains}
use Rattle.cacache_core.specs.{declared.{errors.Fault.TheVariants.{NotFound}, integrity.digest.Hash.{Hash}}, Paths.{Names, home_of, joined, content_names}}
use Rattle.cacache_store.specs.declared.store.{log.LogItem.{LogItem}, step.Step.TheVariants.{RemoveFile}}
use Rattle.cacache_disk.specs.{Replay.{tree_of, IsLog}, declared.luck.Luck.TheVariants.{Plain}, Tree.{Tree, Rooted}, Apply.{apply}}
use Rattle.cacache_entry.specs.Bucket.{Found}
use Rattle.cacache_calls.specs.{State.{Site}, Runs.{Moves, Gains}, Steps.{content_path}, declared.reply.Reply.TheVariants.{Listed}}
use Rattle.cacache_laws.specs.{Sequence.{tree_on, AreAnswered}, trees.{Contents.{HoldsJust, IsHeld}, Index.{IndexLists}, Collecting.{LeavesLive, Removes, is_live, ReadsAsBefore}}, Caches.{HasKey}, Standing.{IsStanding}}
use Rattle.cacache_laws.proofs.{Calls.InParts.{logs_lead}, trees.{Listing.{holdings_agree, indexes_agree, same_sorted}, Indexed.{holds_just}, Logged.{answered_rest, answered_split, gains_join, log_rooted, tree_rest, walked}, Collected.{lacks, leaves, others_gone, picked_left, rest_stays, from_kept, kept_in}, Removed.{removals_run}, Members.{Member, contains_member, member_contains}, Twins.Follows.{idle_is_unseen}}, Readings.GivenReads.{same_stays_known}}
use Rattle.cacache_walks.specs.{Listing.{content_area_in, hash_cmp}, Reading.{top_folder}}
use Rattle.cacache_keep.specs.{Calls.{has_entry, removal, MadeCalls}, Keeping.{Chooses, CollectsFrom}, Kept.{PlansForetell, PlansLeave, CollectionsLackIdle, CollectionsLeave, CollectionsSettle}, Planning.{Sized, TellsSizes}, Sparing.{StaysLed}}
use Rattle.cacache_keep.proofs.{Stopped.{calls_gain, gains_none, Keeps, gained, then_keeps}, Repairs.Judged.{index_looked}, Collections.Searching.{hash_total}, Asked.{none_kept}}
use Rattle.cacache_value.specs.{Placed.{Placed}, Value.{value_of_tree}}
use Rattle.cacache_store.specs.declared.store.answer.Answer.TheVariants as answers
use Rattle.cacache_store.specs.declared.store.step.Step.TheVariants as steps

-- ---- a choice

module _ (site : Site) (home : Names) (kept : ℕ) (dropped : List (List Hash)) (old new : List LogItem) (chosen : Option (List LogItem))
    (is : home_of site.cache ≡ Some home) (logged : IsLog new) (c : Chooses site kept dropped (Some old) chosen) where
  -- what its steps show of the tree, from which the moves after them start
  pub record Choice (more : Moves) : Type 0 where
    pub holds : HoldsJust site.cache home (tree_of old) c.order.hashes c.strange
    pub index : IndexLists site (tree_of old) c.entries
    pub answered : AreAnswered (tree_of old) more
    pub leads : tree_of new ≡ tree_on (tree_of old) more

  pub choice : (more : Moves) → Gains chosen (Some new) more → Choice more
  choice more behind =
      let t = tree_of old in
      let list = c.contents in
      let l = c.listing.2 in
      let gains = gains_join (Some old) c.found (Some new) list.0 (l.0 ++ more) list.1 (gains_join c.found chosen (Some new) l.0 more l.2 behind) in
      let lead = logs_lead old new (list.0 ++ (l.0 ++ more)) gains logged in
      let walk = walked t list.0 (top_folder (content_area_in site.cache) ∷ []) list.2 (answered_split t list.0 (l.0 ++ more) lead.0).0 in
      let after_walk = answered_rest t list.0 (l.0 ++ more) walk.1 lead.0 in
      let index = index_looked site t c.entries c.found chosen c.listing (answered_split t l.0 more after_walk).0 in
      record {
        holds = holds_just site.cache home t list.0 is (log_rooted old) list.2 walk.0 c.addresses c.strange list.3 c.order;
        index = index.0;
        answered = answered_rest t l.0 more index.1 after_walk;
        leads = lead.1 ∙ tree_rest t list.0 (l.0 ++ more) walk.1 ∙ tree_rest t l.0 more index.1;
      }

-- ---- sizes

sizes_keep : (cache : List ℕ) (told : List Sized) (old new : Option (List LogItem)) → TellsSizes cache told old new → Keeps old new
sizes_keep cache [] old new tells = record { moves = []; gains = gains_none old new tells; stays = λ t. refl }
sizes_keep cache (u ∷ told) old new (next, inl said, later) =
    then_keeps old next new (gained old next ((steps.Size (content_path cache u.0), answers.Length u.1) ∷ []) said (tt, tt)) (sizes_keep cache told next new later)
sizes_keep cache (u ∷ told) old new (next, inr said, later) =
    then_keeps old next new (gained old next ((steps.Size (content_path cache u.0), answers.Failed NotFound) ∷ []) said.1 (tt, tt)) (sizes_keep cache told next new later)

-- ---- a plan and a collection

-- one tree gives one choice
chosen_same : (site : Site) (home : Names) (kept others : ℕ) (unused dropped : List (List Hash)) (old mid : List LogItem) (a b : Option (List LogItem))
    → (one : Chooses site kept unused (Some old) a) → (two : Chooses site others dropped (Some mid) b) → tree_of mid ≡ tree_of old
    → HoldsJust site.cache home (tree_of old) one.order.hashes one.strange → IndexLists site (tree_of old) one.entries
    → HoldsJust site.cache home (tree_of mid) two.order.hashes two.strange → IndexLists site (tree_of mid) two.entries
    → (others ≡ kept) × (dropped ≡ unused)
chosen_same site home kept others unused dropped old mid a b one two same holds index held indexed =
    let hashes : two.order.hashes ≡ one.order.hashes = holdings_agree site.cache home (tree_of old) two.order.hashes one.order.hashes two.strange one.strange (subst (λ t. HoldsJust site.cache home t two.order.hashes two.strange) same held) holds in
    let entries : two.entries ≡ one.entries = indexes_agree site (tree_of old) two.entries one.entries (subst (λ t. IndexLists site t two.entries) same indexed) index in
    let addresses : two.addresses ≡ one.addresses = two.order.single ∙ ap (map (λ h. h ∷ [])) hashes ∙ sym one.order.single in
    let which : dropped ≡ unused = two.unused.which ∙ ap₂ (λ (es : List Found) (l : List (List Hash)). filter (λ i. not (has_entry es i)) l) entries addresses ∙ sym one.unused.which in
    (omega (arith, one.counts, two.counts, ap length addresses, ap length which), which)

pub plans_leave : PlansLeave
plans_leave site home kept unused old new is logged p =
    let keeps = sizes_keep site.cache unused p.0 (Some new) p.2 in
    let one = choice site home kept (map (λ u. u.0) unused) old new p.0 is logged p.1 keeps.moves keeps.gains in
    one.leads ∙ keeps.stays (tree_of old)

pub plans_foretell : PlansForetell
plans_foretell site home kept others unused dropped old planned mid collected is logged later same p c =
    let keeps = sizes_keep site.cache unused p.0 (Some planned) p.2 in
    let one = choice site home kept (map (λ u. u.0) unused) old planned p.0 is logged p.1 keeps.moves keeps.gains in
    let it = c.1.0 in
    let gone = calls_gain site (map removal dropped) it.0 (Some collected) it.2 in
    let two = choice site home others dropped mid collected it.0 is later it.1 gone.0 gone.1 in
    chosen_same site home kept others (map (λ u. u.0) unused) dropped old mid p.0 it.0 p.1 it.1 same one.holds one.index two.holds two.index

-- ---- removals

-- the steps of removals that are done
abbrev pub removals : List ℕ → List Hash → Moves
removals cache hs = map (λ h. (RemoveFile (joined cache (content_names h)), answers.Done)) hs

pub removals_gain : (site : Site) (hs : List Hash) (old new : Option (List LogItem)) → MadeCalls site (map removal (map (λ h. h ∷ []) hs)) old new → Gains old new (removals site.cache hs)
removals_gain site [] old new made = gains_none old new made
removals_gain site (h ∷ hs) old new made =
    let ran = made.1 in
    let one = removals_run site h ran.0 ran.1 in
    gains_join old made.0 new ((RemoveFile (joined site.cache (content_names h)), answers.Done) ∷ []) (removals site.cache hs) (subst (Gains old made.0) one ran.2) (removals_gain site hs made.0 new made.2)

pub removed_by : (cache : List ℕ) (hs : List Hash) (t : Tree) → AreAnswered t (removals cache hs) → Removes cache hs t (tree_on t (removals cache hs))
removed_by cache [] t a = refl
removed_by cache (h ∷ hs) t a = (sym a.0, removed_by cache hs (apply t (RemoveFile (joined cache (content_names h))) Plain).1 a.1)

-- ---- those that no entry has

pub unused_on : (b : Bool) (h : Hash) (F : List (List Hash)) (G : List Hash) → F ≡ map (λ x. x ∷ []) G → cond b ((h ∷ []) ∷ F) F ≡ map (λ x. x ∷ []) (cond b (h ∷ G) G)
unused_on true h F G e = ap (λ l. (h ∷ []) ∷ l) e
unused_on false h F G e = e

pub unused_ones : (entries : List Found) (hs : List Hash) → filter (λ i. not (has_entry entries i)) (map (λ h. h ∷ []) hs) ≡ map (λ h. h ∷ []) (filter (λ h. not (is_live entries h)) hs)
unused_ones entries [] = refl
unused_ones entries (h ∷ hs) = unused_on (not (is_live entries h)) h (filter (λ i. not (has_entry entries i)) (map (λ x. x ∷ []) hs)) (filter (λ x. not (is_live entries x)) hs) (unused_ones entries hs)

-- ---- a collection

module _ (site : Site) (home : Names) (kept : ℕ) (dropped : List (List Hash)) (old new : List LogItem)
    (is : home_of site.cache ≡ Some home) (logged : IsLog new) (c : CollectsFrom site kept dropped (Some old) (Some new)) where
  abbrev t : Tree
  t = tree_of old

  abbrev hashes : List Hash
  hashes = c.1.order.hashes

  abbrev entries : List Found
  entries = c.1.entries

  abbrev pub unused : List Hash
  unused = filter (λ h. not (is_live entries h)) hashes

  dropped_are : dropped ≡ map (λ h. h ∷ []) unused
  dropped_are = c.1.unused.which ∙ ap (λ l. filter (λ i. not (has_entry entries i)) l) c.1.order.single ∙ unused_ones entries hashes

  kept_are : kept ≡ length (filter (is_live entries) hashes)
  kept_are =
      let all : length c.1.addresses ≡ length hashes = ap length c.1.order.single ∙ length-map hashes (λ h. h ∷ []) in
      let gone : length dropped ≡ length unused = ap length dropped_are ∙ length-map unused (λ h. h ∷ []) in
      omega (arith, c.1.counts, all, gone, length-filter_both (is_live entries) (λ h. not (is_live entries h)) (λ h. refl) hashes)

  -- what its steps come to
  pub record Done : Type 0 where
    pub holds : HoldsJust site.cache home t hashes c.1.strange
    pub index : IndexLists site t entries
    pub removes : Removes site.cache unused t (tree_of new)

  pub steps_done : Done
  steps_done =
      let removing = removals_gain site unused c.0 (Some new) (subst (λ d. MadeCalls site (map removal d) c.0 (Some new)) dropped_are c.2) in
      let chosen = choice site home kept dropped old new c.0 is logged c.1 (removals site.cache unused) removing in
      record {
        holds = chosen.holds;
        index = chosen.index;
        removes = subst (Removes site.cache unused t) (sym chosen.leads) (removed_by site.cache unused t chosen.answered);
      }

  pub leaves_live : LeavesLive site home t (tree_of new) kept dropped
  leaves_live =
      let d = steps_done in
      record {
        hashes = hashes;
        strange = c.1.strange;
        contents = d.holds;
        entries = entries;
        index = d.index;
        counted = kept_are;
        others = dropped_are;
        left = picked_left site home t (tree_of new) hashes c.1.strange (is_live entries) is d.holds d.removes;
        gone = others_gone site home t (tree_of new) hashes c.1.strange (is_live entries) is d.holds d.removes;
        buckets = (leaves site home t (tree_of new) hashes c.1.strange (is_live entries) is d.holds d.removes).buckets;
        rest = rest_stays site home t (tree_of new) hashes c.1.strange (is_live entries) is d.holds d.removes;
      }

pub collections_leave : CollectionsLeave
collections_leave site home kept dropped old new is logged c =
    leaves_live site home kept dropped old new is logged c.1.0

-- ---- what it lacks

pub collections_lack_idle : CollectionsLackIdle
collections_lack_idle site home kept dropped old new is logged out c =
    let it = c.1.0 in
    let d = steps_done site home kept dropped old new is logged it in
    lacks site home (tree_of old) (tree_of new) it.1.order.hashes it.1.strange it.1.entries is d.holds d.index d.removes (log_rooted old) out it.1.unused.formed

-- ---- two collections

module _ (site : Site) (home : Names) (t mid new : Tree) (kept again : ℕ) (dropped others : List (List Hash)) (one : LeavesLive site home t mid kept dropped) (two : LeavesLive site home mid new again others) (unseen : ReadsAsBefore site t mid) where
  -- the index has the same entries
  same_index : two.entries ≡ one.entries
  same_index =
      let before : IndexLists site t two.entries
      = record { items = two.index.items; answers = unseen.lists (Listed two.index.items) two.index.answers; clean = two.index.clean; those = two.index.those } in
      indexes_agree site t two.entries one.entries before one.index

  -- what is held is live
  held_live : (h : Hash) (b : Bool) → is_live one.entries h ≡ b → Contains two.hashes h → b ≡ true
  held_live h true is c = refl
  held_live h false is c =
      let hash = two.contents.formed h c in
      let held = (two.contents.held h hash).0 c in
      absurd (let wrong : None ≡ Some held.0 = sym (one.gone h hash is) ∙ held.1 in cc)

  all_live : (h : Hash) → Member h two.hashes → is_live two.entries h ≡ true
  all_live h m = ap (λ (e : List Found). is_live e h) same_index ∙ held_live h (is_live one.entries h) refl (contains_member h two.hashes m)

  none_dropped : others ≡ []
  none_dropped = two.others ∙ ap (map (λ (h : Hash). h ∷ [])) (none_kept (λ h. not (is_live two.entries h)) two.hashes (λ h m. ap not (all_live h m)))

  -- and those that are live are the same
  stays_held : (h : Hash) → Member h (filter (is_live one.entries) one.hashes) → Member h (filter (is_live two.entries) two.hashes)
  stays_held h m =
      let k = from_kept (is_live one.entries) h one.hashes m in
      let c = contains_member h one.hashes k.0 in
      let hash = one.contents.formed h c in
      let held = (one.contents.held h hash).0 c in
      let still : IsHeld home mid h = (held.0, one.left h hash k.1 ∙ held.1) in
      kept_in (is_live two.entries) h two.hashes (ap (λ (e : List Found). is_live e h) same_index ∙ k.1) (member_contains h two.hashes ((two.contents.held h hash).1 still))

  was_held : (h : Hash) → Member h (filter (is_live two.entries) two.hashes) → Member h (filter (is_live one.entries) one.hashes)
  was_held h m =
      let k = from_kept (is_live two.entries) h two.hashes m in
      let c = contains_member h two.hashes k.0 in
      let hash = two.contents.formed h c in
      let held = (two.contents.held h hash).0 c in
      let is : is_live one.entries h ≡ true = sym (ap (λ (e : List Found). is_live e h) same_index) ∙ k.1 in
      let before : IsHeld home t h = (held.0, sym (one.left h hash is) ∙ held.1) in
      kept_in (is_live one.entries) h one.hashes is (member_contains h one.hashes ((one.contents.held h hash).1 before))

  same_kept : again ≡ kept
  same_kept =
      two.counted
      ∙ ap length (same_sorted hash_cmp hash_total (filter (is_live two.entries) two.hashes) (filter (is_live one.entries) one.hashes) (IsStrictlySortedBy-filter hash_cmp (is_live two.entries) two.hashes two.contents.ascend) (IsStrictlySortedBy-filter hash_cmp (is_live one.entries) one.hashes one.contents.ascend) was_held stays_held)
      ∙ sym one.counted

pub collections_settle : CollectionsSettle
collections_settle site home kept again dropped others old collected later new is logged at_last out stays c d =
    let one = collections_leave site home kept dropped old collected is logged c in
    let two = subst (λ (x : Tree). LeavesLive site home x (tree_of new) again others) stays (collections_leave site home again others later new is at_last d) in
    let unseen = idle_is_unseen site home (tree_of old) (tree_of collected) is (collections_lack_idle site home kept dropped old collected is logged out c) in (
      same_kept site home (tree_of old) (tree_of collected) (tree_of new) kept again dropped others one two unseen,
      none_dropped site home (tree_of old) (tree_of collected) (tree_of new) kept again dropped others one two unseen,
    )

module _ (cache key bytes : List ℕ) (i : List Hash) where
  -- the tree is the same
  pub same_led : (old new : List LogItem) → tree_of new ≡ tree_of old → IsStanding cache old → HasKey cache key i bytes old → StaysLed cache key i bytes old new
  same_led old new same standing has =
      let known = same_stays_known cache old new (ap (value_of_tree (home_of cache)) same) in
      record {
        standing = record { placed = subst (Placed (home_of cache)) (sym same) standing.placed; rooted = subst Rooted (sym same) standing.rooted };
        finds = known.finds key;
        has = known.key key bytes i has;
      }

  -- the moves leave each tree
  pub keeps_led : (old new : List LogItem) → Keeps (Some old) (Some new) → IsLog new → IsStanding cache old → HasKey cache key i bytes old → StaysLed cache key i bytes old new
  keeps_led old new k logged = same_led old new ((logs_lead old new k.moves k.gains logged).1 ∙ k.stays (tree_of old))

-- A repair leaves the good contents, and hides the keys that led to none.
-- A verification after a repair finds nothing damaged and nothing that dangles, and good keys stay.
use Rattle.std.proofs.{Common.{◌≡◌, inl, inr, ℕ, Bool, true, false, cond, List, [], ◌∷◌, ◌++◌, Some, map, filter, refl, sym, ap, ap₂, subst, ◌∙◌, None}, lemmas.List.Elements.{All-head}}
use Rattle.std.specs.Prelude.{not}
use Rattle.sha1.specs.Sha1.{sha1}
use Rattle.cacache_core.specs.{declared.integrity.digest.Hash.{Hash}, Paths.{Names, home_of, joined, content_names}, Integrity.{IsHash, IsIntegrity, address}}
use Rattle.cacache_core.proofs.PathLemmas.{keys_have_digests}
use Rattle.cacache_store.specs.declared.store.{log.LogItem.{LogItem}, step.Step.TheVariants.{RemoveFile, Exists}}
use Rattle.cacache_disk.specs.{declared.luck.Luck.TheVariants.{Plain}, Tree.{Tree, Rooted}, Apply.{apply}, Replay.{tree_of, IsLog}}
use Rattle.cacache_entry.specs.Bucket.{Found, latest}
use Rattle.cacache_calls.specs.{State.{Site}, Steps.{content_path}}
use Rattle.cacache_value.{specs.{Placed.{Placed}, Acts.{list_of}}, proofs.Traces.{steps_keep_placed}}
use Rattle.cacache_laws.specs.{Sequence.{tree_on}, trees.{Collecting.{Removes}, Contents.{HoldsJust, content_in}, Verifying.{found_in, LeavesGood, has_content, is_good, Judges, says_yes}, Housed.{Housed, Still}, Index.{IndexLists}}}
use Rattle.cacache_laws.proofs.{Calls.InParts.{logs_lead}, trees.{Collected.{from_kept, kept_in, leaves, repairs_leave, dropped_hash, picked_left}, Indexed.{holds_just}, Logged.{answered_rest, answered_split, gains_join, log_rooted, tree_rest, tree_split, walked}, Members.{Member, contains_member, member_contains}, HiddenKeys.{removes_house, removes_root, removes_still}, Led.{found_integrity, found_listed, indexes_lead}, Spared.StillThere.{good_still, good_there, has_still}}}
use Rattle.cacache_walks.specs.{Listing.{content_area_in}, Reading.{top_folder}}
use Rattle.cacache_keep.specs.{Calls.{MadeCalls, question_of, removal}, Kept.{IsKeyOf, MendsCache, RepairsMend, LeadsToGood, RepairsKeepGood, RepairsVerify}, Reading.{Judged}, Repairing.{Fate, RepairsFrom, is_buried}}
use Rattle.cacache_keep.proofs.{Indexes.FoundBuckets.{in_map}, Repairs.{InTurn.{repaired_on}, Buried.{After, all_told, Whole}, Judged.{asks_told, others_named, reads_judged}, Shown.{burial_of, all_questions, verdicts_judge}}, Collections.Leaving.{removals, removals_gain, removed_by}, Stopped.{made_looks}, Asked.{none_kept}}

pub map_from : {X Y : Type 0} (f : X → Y) (y : Y) (xs : List X) → Member y (map f xs) → (x : X) × Member x xs × (f x ≡ y)
map_from f y [] m = absurd m
map_from f y (x ∷ xs) (inl same) = (x, inl refl, sym same)
map_from f y (x ∷ xs) (inr m) = let k = map_from f y xs m in (k.0, inr k.1, k.2)

-- what a filter leaves of reads at addresses of one hash
singles : (p : Judged → Bool) (reads : List Judged) (hs : List Hash) → map (λ r. r.0) reads ≡ map (λ h. h ∷ []) hs → (gone : List Hash) × (map (λ r. r.0) (filter p reads) ≡ map (λ h. h ∷ []) gone)
singles p [] hs e = ([], refl)
singles p (r ∷ reads) [] e = absurd cc
singles p (r ∷ reads) (h ∷ hs) e =
    let first : r.0 ≡ h ∷ [] = cc in
    let later : map (λ (x : Judged). x.0) reads ≡ map (λ (x : Hash). x ∷ []) hs = cc in
    let rest = singles p reads hs later in
    by (p r) rest first
  where
    by : (b : Bool) → (gone : List Hash) × (map (λ (x : Judged). x.0) (filter p reads) ≡ map (λ h. h ∷ []) gone) → r.0 ≡ h ∷ [] → (gone : List Hash) × (map (λ (x : Judged). x.0) (cond b (r ∷ filter p reads) (filter p reads)) ≡ map (λ h. h ∷ []) gone)
    by true rest first = (h ∷ rest.0, ap₂ (λ (i : List Hash) (l : List (List Hash)). i ∷ l) first rest.1)
    by false rest first = rest

same_singles : (xs ys : List Hash) → map (λ h. h ∷ []) xs ≡ map (λ h. h ∷ []) ys → xs ≡ ys
same_singles [] [] e = refl
same_singles (x ∷ xs) (y ∷ ys) e =
    let first : x ≡ y = cc in
    let later : map (λ (h : Hash). h ∷ []) xs ≡ map (λ h. h ∷ []) ys = cc in
    ap₂ (λ (h : Hash) (l : List Hash). h ∷ l) first (same_singles xs ys later)
same_singles _ _ e = absurd cc

module _ (site : Site) (home : Names) (is : home_of site.cache ≡ Some home) where
  -- removals leave all else in its place
  removals_placed : (hs : List Hash) (t : Tree) → Placed (Some home) t → Placed (Some home) (tree_on t (removals site.cache hs))
  removals_placed [] t placed = placed
  removals_placed (h ∷ hs) t placed = removals_placed hs (apply t (RemoveFile (joined site.cache (content_names h))) Plain).1 (steps_keep_placed (Some home) t (RemoveFile (joined site.cache (content_names h))) Plain placed tt)

  -- ---- a repair

  module _ (entries : List Found) (damaged : List (List Hash)) (buried : List Found) (old new : List LogItem)
      (logged : IsLog new) (placed : Placed (Some home) (tree_of old)) (v : RepairsFrom site entries damaged buried (Some old) (Some new)) where
    abbrev t : Tree
    t = tree_of old

    abbrev hashes : List Hash
    hashes = v.order.hashes

    abbrev bad : List Hash
    bad = filter (λ h. not (is_good home (tree_of old) h)) hashes

    -- what its steps come to
    pub record Repaired : Type 0 where
      pub holds : HoldsJust site.cache home (tree_of old) hashes v.strange
      pub broken : damaged ≡ map (λ h. h ∷ []) bad
      pub mid : Tree
      pub removes : Removes site.cache bad (tree_of old) mid
      pub absent : v.dangling ≡ filter (λ f. not (has_content site.cache mid f)) entries
      pub after : After site home is (burial_of v).each.fates mid (tree_of new)

    pub steps_done : Repaired
    steps_done =
        let c = v.contents in
        let r = reads_judged site home (tree_of old) is (log_rooted old) hashes v.reading.reads v.found v.read (v.reading.each ∙ v.order.single) v.reading.reading in
        let gone = singles (λ (x : Judged). not x.1) v.reading.reads hashes (v.reading.each ∙ v.order.single) in
        let ones : damaged ≡ map (λ h. h ∷ []) gone.0 = v.reading.broken ∙ gone.1 in
        let rem = removals_gain site gone.0 v.read v.removed (subst (λ d. MadeCalls site (map removal d) v.read v.removed) ones v.removing) in
        let cut = removals site.cache gone.0 in
        let mid = tree_on (tree_of old) cut in
        let a = made_looks site (map question_of v.asking.asks) v.removed v.asked (all_questions v.asking.asks) v.asking.asking in
        let w = burial_of v in
        let b = all_told site home is w.each.fates w.looked (Some new) w.each.keys w.each.calls in
        let last = w.moves ++ b.moves in
        let late = a.keeps.moves ++ last in
        let gains = gains_join (Some old) v.found (Some new) c.0 (r.moves ++ (cut ++ late)) c.1
        (gains_join v.found v.read (Some new) r.moves (cut ++ late) r.gains
        (gains_join v.read v.removed (Some new) cut late rem
        (gains_join v.removed v.asked (Some new) a.keeps.moves last a.keeps.gains
        (gains_join v.asked w.looked (Some new) w.moves b.moves w.gains b.gains)))) in
        let lead = logs_lead old new (c.0 ++ (r.moves ++ (cut ++ late))) gains logged in
        let walk = walked (tree_of old) c.0 (top_folder (content_area_in site.cache) ∷ []) c.2 (answered_split (tree_of old) c.0 (r.moves ++ (cut ++ late)) lead.0).0 in
        let after_walk = answered_rest (tree_of old) c.0 (r.moves ++ (cut ++ late)) walk.1 lead.0 in
        let holds : HoldsJust site.cache home (tree_of old) hashes v.strange = holds_just site.cache home (tree_of old) c.0 is (log_rooted old) c.2 walk.0 v.addresses v.strange c.3 v.order in
        let reads = r.tells (λ h m. let k = contains_member h hashes m in (holds.formed h k, (holds.held h (holds.formed h k)).0 k)) (answered_split (tree_of old) r.moves (cut ++ late) after_walk).0 in
        let after_reads = answered_rest (tree_of old) r.moves (cut ++ late) reads.1 after_walk in
        let broken : damaged ≡ map (λ h. h ∷ []) bad
        = v.reading.broken ∙ ap (λ (l : List Judged). map (λ (x : Judged). x.0) (filter (λ (x : Judged). not x.1) l)) reads.0 ∙ others_named site home (tree_of old) is (log_rooted old) hashes in
        let same : gone.0 ≡ bad = same_singles gone.0 bad (sym ones ∙ broken) in
        let split = answered_split (tree_of old) cut late after_reads in
        let placed_mid = removals_placed gone.0 (tree_of old) placed in
        let questions = a.tells mid (answered_split mid a.keeps.moves last split.1).0 in
        let looking = answered_rest mid a.keeps.moves last (a.keeps.stays mid) split.1 in
        let stays = w.stays mid (answered_split mid w.moves b.moves looking).0 in
        let told = b.tells mid placed_mid (answered_rest mid w.moves b.moves stays looking) in
        let leads : tree_of new ≡ tree_on mid b.moves
        = lead.1 ∙ tree_rest (tree_of old) c.0 (r.moves ++ (cut ++ late)) walk.1 ∙ tree_rest (tree_of old) r.moves (cut ++ late) reads.1 ∙ tree_split (tree_of old) cut late
        ∙ tree_rest mid a.keeps.moves last (a.keeps.stays mid) ∙ tree_rest mid w.moves b.moves stays in
        record {
          holds = holds;
          broken = broken;
          mid = mid;
          removes = subst (λ (hs : List Hash). Removes site.cache hs (tree_of old) mid) same (removed_by site.cache gone.0 (tree_of old) split.0);
          absent = v.asking.absent ∙ asks_told site mid v.asking.asks questions ∙ ap (λ l. filter (λ f. not (has_content site.cache mid f)) l) v.asking.each;
          after = subst (After site home is (burial_of v).each.fates mid) (sym leads) told;
        }

    -- the key of an entry that is reported is that of a fate that was buried
    buried_key : (key : List ℕ) → IsKeyOf buried key → (f : Found × Fate) × Member f (burial_of v).each.fates × (is_buried f.1 ≡ true) × (f.0.key ≡ key)
    buried_key key (f, c, e) =
        let m = map_from (λ (x : Found × Fate). x.0) f (filter (λ (x : Found × Fate). is_buried x.1) (burial_of v).each.fates) (subst (Member f) (burial_of v).each.which (member_contains f buried c)) in
        let k = from_kept (λ (x : Found × Fate). is_buried x.1) m.0 (burial_of v).each.fates m.1 in
        (m.0, k.0, k.1, ap (λ (x : Found). x.key) m.2 ∙ e)

    fate_told : (key : List ℕ) (f : Found × Fate) → Member f (burial_of v).each.fates → is_buried f.1 ≡ true → key ≡ f.0.key → IsKeyOf buried key
    fate_told key f m b e =
        let k = in_map (λ (x : Found × Fate). x.0) f (filter (λ (x : Found × Fate). is_buried x.1) (burial_of v).each.fates) (kept_in (λ (x : Found × Fate). is_buried x.1) f (burial_of v).each.fates b m) in
        (f.0, contains_member f.0 buried (subst (Member f.0) (sym (burial_of v).each.which) k), sym e)

    pub repaired : MendsCache site home (tree_of old) (tree_of new) damaged buried
    repaired =
        let d = steps_done in
        let removed = leaves site home (tree_of old) d.mid hashes v.strange (is_good home (tree_of old)) is d.holds d.removes in
        let same : (key : List ℕ) → found_in home d.mid key ≡ found_in home (tree_of old) key
        = λ key. ap (λ o. latest key (list_of o)) (removed.buckets (sha1 key) (keys_have_digests key)) in
        record {
          hashes = hashes;
          strange = v.strange;
          contents = d.holds;
          broken = d.broken;
          leaves = repairs_leave site home (tree_of old) d.mid (tree_of new) hashes v.strange is d.holds d.removes d.after.keeps;
          hidden = λ key of. let k = buried_key key of in ap (found_in home (tree_of new)) (sym k.3) ∙ d.after.hidden k.0 k.1 k.2;
          keys = λ key apart. d.after.keys key (λ f m b e. apart (fate_told key f m b e)) ∙ same key;
        }

pub repairs_mend : RepairsMend
repairs_mend site home damaged buried old new is logged placed v =
    let k = repaired_on site home damaged buried old new is logged v in
    let placed_there = subst (Placed (Some home)) (sym k.stays) placed in
    subst (λ (t : Tree). MendsCache site home t (tree_of new) damaged buried) k.stays (repaired site home is k.entries damaged buried k.log new logged placed_there k.so)

pub first_hash : (i : List Hash) (h : Hash) → address i ≡ Some h → (hs : List Hash) × (i ≡ h ∷ hs)
first_hash [] h e = absurd cc
first_hash (g ∷ hs) h e = (hs, ap (λ (x : Hash). x ∷ hs) cc)

module _ (site : Site) (home : Names) (entries : List Found) (damaged : List (List Hash)) (hidden : List Found) (old new : List LogItem)
    (is : home_of site.cache ≡ Some home) (logged : IsLog new) (housed : Housed (Some home) (tree_of old)) (index : IndexLists site (tree_of old) entries) (v : RepairsFrom site entries damaged hidden (Some old) (Some new)) where
  done : Repaired site home is entries damaged hidden old new logged housed.placed v
  done = steps_done site home is entries damaged hidden old new logged housed.placed v

  gone_hash : (h : Hash) → Member h (filter (λ h. not (is_good home (tree_of old) h)) v.order.hashes) → IsHash h
  gone_hash h m =
      dropped_hash site home (tree_of old) done.mid v.order.hashes v.strange (is_good home (tree_of old)) is done.holds done.removes h
      (contains_member h (filter (λ h. not (is_good home (tree_of old) h)) v.order.hashes) m)

  mid_housed : Housed (Some home) done.mid
  mid_housed = removes_house site.cache (Some home) (filter (λ h. not (is_good home (tree_of old) h)) v.order.hashes) (tree_of old) done.mid done.removes housed

  mid_rooted : Rooted done.mid
  mid_rooted = removes_root site.cache (filter (λ h. not (is_good home (tree_of old) h)) v.order.hashes) (tree_of old) done.mid done.removes (log_rooted old)

  mid_still : Still (Some home) (tree_of old) done.mid
  mid_still = removes_still site.cache home (filter (λ h. not (is_good home (tree_of old) h)) v.order.hashes) (tree_of old) done.mid is gone_hash done.removes

  whole : Whole site home is (burial_of v).each.fates done.mid (tree_of new)
  whole = done.after.whole mid_housed mid_rooted

  pub rehoused : Housed (Some home) (tree_of new)
  rehoused = whole.housed

  all_still : Still (Some home) (tree_of old) (tree_of new)
  all_still q node k there = whole.still q node k (mid_still q node k there)

  kept : LeavesGood home (tree_of old) (tree_of new)
  kept = (repaired site home is entries damaged hidden old new logged housed.placed v).leaves

  -- ---- contents

  good_at : (h : Hash) (b : Bool) → is_good home (tree_of old) h ≡ b → IsHash h → (content_in home (tree_of new) h ≡ None → ⊥) → is_good home (tree_of new) h ≡ true
  good_at h true good hash stands = good_still site.cache home is (tree_of old) (tree_of new) all_still housed.placed h (kept.kept h hash good) good
  good_at h false bad hash stands = absurd (stands (kept.gone h hash bad))

  -- ---- entries

  -- the removals hide no key
  same_found : (key : List ℕ) → found_in home done.mid key ≡ found_in home (tree_of old) key
  same_found key =
      let gone = leaves site home (tree_of old) done.mid v.order.hashes v.strange (is_good home (tree_of old)) is done.holds done.removes in
      ap (λ o. latest key (list_of o)) (gone.buckets (sha1 key) (keys_have_digests key))

  -- what leads nowhere in the tree without damaged contents was asked for, and leads nowhere or to a content
  asked_at : (f : Found) (b : Bool) → has_content site.cache done.mid f ≡ b → found_in home (tree_of new) f.key ≡ Some f → found_in home done.mid f.key ≡ Some f → Member f entries → has_content site.cache (tree_of new) f ≡ true
  asked_at f true has leads led m =
      has_still site.cache home is done.mid (tree_of new) whole.still mid_housed.placed f.integrity mid_rooted whole.rooted (found_integrity home done.mid f.key f mid_housed led) done.after.keeps.contents has
  asked_at f false lacks leads led m =
      let among : Member f v.dangling = subst (Member f) (sym done.absent) (kept_in (λ g. not (has_content site.cache done.mid g)) f entries (ap not lacks) m) in
      let fate = map_from (λ (x : Found × Fate). x.0) f (burial_of v).each.fates (subst (Member f) (sym (burial_of v).each.each) among) in
      whole.sound fate.0 f fate.1 (ap (λ (x : Found). found_in home (tree_of new) x.key) fate.2 ∙ leads)

  there_at : (f : Found) → found_in home (tree_of new) f.key ≡ Some f → has_content site.cache (tree_of new) f ≡ true
  there_at f leads =
      let led = whole.back f.key f leads in
      let listed = found_listed site home (tree_of old) is (log_rooted old) entries f.key f index (sym (same_found f.key) ∙ led) in
      asked_at f (has_content site.cache done.mid f) refl leads led (member_contains f entries listed)

  -- ---- a verdict

  module _ (good : ℕ) (broken : List (List Hash)) (dangling : List Found) (strange : List (List ℕ)) (j : Judges site home (tree_of new) good broken dangling strange) where
    none_broken : broken ≡ []
    none_broken =
        let none = none_kept (λ h. not (is_good home (tree_of new) h)) j.hashes (λ h m.
        let c = contains_member h j.hashes m in
        let hash = j.contents.formed h c in
        let held = (j.contents.held h hash).0 c in
        ap not (good_at h (is_good home (tree_of old) h) refl hash (λ gone. let wrong : None ≡ Some held.0 = sym gone ∙ held.1 in cc))) in
        j.broken ∙ ap (λ l. map (λ (h : Hash). h ∷ []) l) none

    none_dangling : dangling ≡ []
    none_dangling =
        j.absent ∙ none_kept (λ f. not (has_content site.cache (tree_of new) f)) j.entries (λ f m.
        ap not (there_at f (indexes_lead site home (tree_of new) j.entries f is whole.rooted whole.housed j.index (contains_member f j.entries m))))

  -- ---- a key that leads to a good content

  good_key : (key : List ℕ) (f : Found) (led : LeadsToGood home (tree_of old) key f) → LeadsToGood home (tree_of new) key f × (content_in home (tree_of new) led.hash ≡ content_in home (tree_of old) led.hash)
  good_key key f led =
      let formed = found_integrity home (tree_of old) key f housed led.leads in
      let i = first_hash f.integrity led.hash led.address in
      let hash = first_is i.0 led.hash (subst IsIntegrity i.1 formed) in
      let left = picked_left site home (tree_of old) done.mid v.order.hashes v.strange (is_good home (tree_of old)) is done.holds done.removes led.hash hash led.good in
      let there = good_there site.cache home is (tree_of old) done.mid mid_still housed.placed led.hash i.0 mid_rooted hash left led.good in
      let has : has_content site.cache done.mid f ≡ true = has_at i.0 led.hash f i.1 there in
      let before : found_in home done.mid key ≡ Some f = same_found key ∙ led.leads in
      let same = kept.kept led.hash hash led.good in (
        record {
          leads = whole.on key f before has;
          hash = led.hash;
          address = led.address;
          good = good_still site.cache home is (tree_of old) (tree_of new) all_still housed.placed led.hash same led.good;
        },
        same,
      )
    where
      first_is : (hs : List Hash) (h : Hash) → IsIntegrity (h ∷ hs) → IsHash h
      first_is hs h formed = All-head IsHash h hs formed.hashes

      has_at : (hs : List Hash) (h : Hash) (f : Found) → f.integrity ≡ h ∷ hs → says_yes (apply done.mid (Exists (content_path site.cache (h ∷ hs))) Plain).0 ≡ true → has_content site.cache done.mid f ≡ true
      has_at hs h f e there = ap (λ i. says_yes (apply done.mid (Exists (content_path site.cache i)) Plain).0) e ∙ there

pub repairs_verify : RepairsVerify
repairs_verify site home damaged broken hidden dangling good strange old new later verified is logged after housed stays v w =
    let k = repaired_on site home damaged hidden old new is logged v in
    let there = subst (Housed (Some home)) (sym k.stays) housed in
    let j = subst (λ t. Judges site home t good broken dangling strange) stays (verdicts_judge site home good broken dangling strange later verified is after w).0 in (
      none_broken site home k.entries damaged hidden k.log new is logged there k.index k.so good broken dangling strange j,
      none_dangling site home k.entries damaged hidden k.log new is logged there k.index k.so good broken dangling strange j,
    )

pub repairs_keep_good : RepairsKeepGood
repairs_keep_good site home damaged hidden old new key f is logged housed v led =
    let k = repaired_on site home damaged hidden old new is logged v in
    let there = subst (Housed (Some home)) (sym k.stays) housed in
    let kept = good_key site home k.entries damaged hidden k.log new is logged there k.index k.so key f in
    subst (λ (t : Tree). (l : LeadsToGood home t key f) → LeadsToGood home (tree_of new) key f × (content_in home (tree_of new) l.hash ≡ content_in home t l.hash)) k.stays kept led

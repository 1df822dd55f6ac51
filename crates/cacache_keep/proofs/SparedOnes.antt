-- A pruning leaves each key that led to bytes where it led, unless an entry has it that is dropped or left.
use Rattle.std.proofs.{Common.{◌≡◌, ◌⊎◌, inl, inr, List, [], ◌∷◌, ◌++◌, Bool, true, false, ℕ, Option, None, Some, Result, Ok, Err, map, refl, sym, ap, subst, take, ◌∙◌}, lemmas.{List.{map-append, Elements.{All-head, All-tail}}, Slice.Eq.{bytes_eq-Decides}}}
use Rattle.std.specs.Prelude.{All, bytes_eq}
use Rattle.cacache_core.specs.{declared.{errors.Error.{Error, TheVariants.{OutOfMemory}}, integrity.digest.Hash.{Hash}}, Paths.{Names, home_of}}
use Rattle.cacache_store.specs.declared.store.log.LogItem.{LogItem}
use Rattle.cacache_disk.specs.{Tree.{Rooted, Tree}, Replay.{IsLog, tree_of}}
use Rattle.cacache_entry.specs.Bucket.{Found, latest}
use Rattle.cacache_calls.specs.{Runs.{Gains, Moves}, State.{Site}}
use Rattle.cacache_value.specs.Placed.{Placed}
use Rattle.cacache_laws.specs.{Caches.{HasKey}, Beside.{found_under}, ReadAnswers.{entries_on}, Sequence.{AreAnswered}, Standing.{IsStanding}, trees.Verifying.{found_in}}
use Rattle.cacache_laws.proofs.{Calls.InParts.{logs_lead}, trees.{Led.{finds_led}, Logged.{answered_split, gains_join}, Members.{Member, contains_member, in_left, in_right, member_contains}}}
use Rattle.cacache_keep.specs.{declared.{collecting.Collection.{Collection}, limits.Limits.{Limits}}, Collecting.{EndsCollecting, Told, tally_of}, Confirming.{Confirms, Leads, Lookup, finding}, Later.{KeepsLed}, Limits.{Weight, entries_in}, Parting.{DropsKey, DropsKeys, Parting, StopsNextKey, gone_in, left_in, parted}, Pruning.{PlansPrune, PrunesCache}, Sparing.{HasKeyAmong, PrunePlansLeave, PrunesDropKeys, PrunesDropLed, PrunesSpareKeys, StaysLed, StoppedPrunesSpareKeys}}
use Rattle.cacache_keep.proofs.{Collections.{Leaving.{keeps_led}, Optional.{collect_gains, looks, options_keep_led, stop_gains, stopped_options_keep_led}, StoppedKeys.{listing_keeps}}, Confirmed.{astray_keeps, confirms_keep, confirms_made}, KeptKeys.{KeepsBut, dropped_but, dropped_gone, front_logged, longer, reached, same_but, then_but, tidies_but, wider}, Stopped.{EachOn, Keeps, index_keeps, then_keeps}, Weights.{unweighed_keeps, weighs_keep}}

-- ---- a plan

plan_keeps : (limits : Limits) (site : Site) (entries : List Found) (dropped kept : List Weight) (odd : List (List ℕ)) (old new : Option (List LogItem)) → PlansPrune limits site entries dropped kept odd old new → Keeps old new
plan_keeps limits site entries dropped kept odd old new p =
    then_keeps old p.listed new (listing_keeps site entries old p.listed p.listing.0) (weighs_keep site.cache (dropped ++ kept) p.listed new p.weighing)

pub prune_plans_leave : PrunePlansLeave
prune_plans_leave limits site home entries dropped kept odd old new is logged p =
    let k = plan_keeps limits site entries dropped kept odd (Some old) (Some new) p in
    (logs_lead old new k.moves k.gains logged).1 ∙ k.stays (tree_of old)

-- a plan, and lookups
confirmed_keeps : (limits : Limits) (site : Site) (entries : List Found) (dropped kept : List Weight) (odd : List (List ℕ)) (old listed new : Option (List LogItem)) → PlansPrune limits site entries dropped kept odd old listed → Confirms site (entries_in dropped) listed new → Keeps old new
confirmed_keeps limits site entries dropped kept odd old listed new p confirms =
    then_keeps old listed new (plan_keeps limits site entries dropped kept odd old listed p) (confirms_keep site (entries_in dropped) listed new confirms)

-- ---- keys

apart : (a b : List ℕ) → bytes_eq a b ≡ false → a ≡ b → ⊥
apart a b differ same =
    let is : bytes_eq a b ≡ true = (bytes_eq-Decides a b).1 same in
    let wrong : false ≡ true = sym differ ∙ is in absurd cc

abbrev keys_in : List Found → List (List ℕ)
keys_in entries = map (λ (f : Found). f.key) entries

-- each entry was dropped or left
dropped_or_left : (ps : List Parting) (key : List ℕ) → Member key (keys_in (parted ps)) → Member key (keys_in (gone_in ps)) ⊎ Member key (keys_in (left_in ps))
dropped_or_left [] key m = absurd m
dropped_or_left ((f, true) ∷ ps) key (inl same) = inl (inl same)
dropped_or_left ((f, false) ∷ ps) key (inl same) = inr (inl same)
dropped_or_left ((f, true) ∷ ps) key (inr m) = elim (dropped_or_left ps key m) [ inl g ↦ inl (inr g) | inr l ↦ inr l ]
dropped_or_left ((f, false) ∷ ps) key (inr m) = elim (dropped_or_left ps key m) [ inl g ↦ inl g | inr l ↦ inr (inr l) ]

module _ (site : Site) (home : Names) (is : home_of site.cache ≡ Some home) where
  -- the key is that of one of these entries
  abbrev Among : List Found → List ℕ → Type 0
  Among entries key = Member key (keys_in entries)

  abbrev But : List Found → Option (List LogItem) → Option (List LogItem) → Type 0
  But entries old new = KeepsBut site home is (Among entries) old new

  looks_but : (entries : List Found) (old new : Option (List LogItem)) → Keeps old new → But entries old new
  looks_but entries old new k = tidies_but site home is (Among entries) old new (looks site.cache home is [] old new k)

  -- what drops these keys leaves the others
  keys_but : (durable : Bool) (ps : List Parting) (old new : Option (List LogItem)) → DropsKeys durable site ps old new → But (parted ps) old new
  keys_but durable [] old new same = same_but site home is (Among []) old new same
  keys_but durable (p ∷ ps) old new (next, drops, more) =
      then_but site home is (Among (parted (p ∷ ps))) old next new
      (wider site home is (λ key. key ≡ p.0.key) (Among (parted (p ∷ ps))) old next (λ key own. inl own) (dropped_but site home is p.0 durable (Ok p.1) old next drops))
      (wider site home is (Among (parted ps)) (Among (parted (p ∷ ps))) next new (λ key m. inr m) (keys_but durable ps next new more))

  -- the next one may have been dropped
  next_but : (durable : Bool) (rest : List Found) (old new : Option (List LogItem)) → StopsNextKey durable site rest old new → But (take 1 rest) old new
  next_but durable [] old new same = same_but site home is (Among []) old new same
  next_but durable (f ∷ rest) old new (inl same) = same_but site home is (Among (take 1 (f ∷ rest))) old new same
  next_but durable (f ∷ rest) old new (inr drops) =
      wider site home is (λ key. key ≡ f.key) (Among (take 1 (f ∷ rest))) old new (λ key own. inl own) (dropped_but site home is f durable (Err OutOfMemory) old new drops)

  -- the log after one key
  record Step (f : Found) (a : List LogItem) (next : Option (List LogItem)) : Type 0 where
    mid : List LogItem
    here : next ≡ Some mid
    logged : IsLog mid
    standing : IsStanding site.cache mid
    finds : (key : List ℕ) → (key ≡ f.key → ⊥) → found_under site.cache key mid ≡ found_under site.cache key a

  step : (durable : Bool) (p : Parting) (old next : Option (List LogItem)) (a b : List LogItem) (more : Moves) → DropsKey durable site p.0 (Ok p.1) old next → old ≡ Some a → Gains next (Some b) more → IsLog b → IsStanding site.cache a → Step p.0 a next
  step durable p old next a b more drops from gains logged standing =
      let Own = λ (k : List ℕ). k ≡ p.0.key in
      let first = dropped_but site home is p.0 durable (Ok p.1) old next drops in
      let here = reached site home is Own a old next from first in
      let mid = longer a first.moves in
      let is_log = front_logged mid b more (subst (λ (l : Option (List LogItem)). Gains l (Some b) more) here gains) logged in
      let s = first.stays a mid from here is_log standing in
      record { mid = mid; here = here; logged = is_log; standing = s.standing; finds = s.finds }

  step_gone : (durable : Bool) (p : Parting) (old next : Option (List LogItem)) (a : List LogItem) → p.1 ≡ true → DropsKey durable site p.0 (Ok p.1) old next → old ≡ Some a → IsStanding site.cache a → (s : Step p.0 a next) → found_under site.cache p.0.key s.mid ≡ None
  step_gone durable (f, true) old next a so drops from standing s = dropped_gone site home is f durable old next a s.mid drops from s.here s.logged standing
  step_gone durable (f, false) old next a so drops from standing s = absurd cc

  unleft_rest : (p : Parting) (ps : List Parting) (key : List ℕ) → Among (left_in ps) key → Among (left_in (p ∷ ps)) key
  unleft_rest (f, true) ps key m = m
  unleft_rest (f, false) ps key m = inr m

  -- the key is gone by then, or its turn comes later, if it isn't left
  by_then : (p : Parting) (ps : List Parting) (key : List ℕ) (a mid : List LogItem) → (p.1 ≡ true → found_under site.cache p.0.key mid ≡ None) → ((key ≡ p.0.key → ⊥) → found_under site.cache key mid ≡ found_under site.cache key a)
      → (own : Bool) → bytes_eq key p.0.key ≡ own → Among (gone_in (p ∷ ps)) key ⊎ (found_under site.cache key a ≡ None) → (Among (left_in (p ∷ ps)) key → ⊥)
      → Among (gone_in ps) key ⊎ (found_under site.cache key mid ≡ None)
  by_then (f, true) ps key a mid none finds true same gone unleft = inr (ap (λ k. found_under site.cache k mid) ((bytes_eq-Decides key f.key).0 same) ∙ none refl)
  by_then (f, false) ps key a mid none finds true same gone unleft = absurd (unleft (inl ((bytes_eq-Decides key f.key).0 same)))
  by_then (f, g) ps key a mid none finds false differ (inr nothing) unleft = inr (finds (apart key f.key differ) ∙ nothing)
  by_then (f, true) ps key a mid none finds false differ (inl (inl own)) unleft = absurd (apart key f.key differ own)
  by_then (f, true) ps key a mid none finds false differ (inl (inr later)) unleft = inl later
  by_then (f, false) ps key a mid none finds false differ (inl later) unleft = inl later

  -- a key that was dropped and not left leads to nothing, and so does each other one that did before
  keys_gone : (durable : Bool) (ps : List Parting) (old new : Option (List LogItem)) (a b : List LogItem) → DropsKeys durable site ps old new → old ≡ Some a → new ≡ Some b → IsLog b → IsStanding site.cache a
      → (key : List ℕ) → Among (gone_in ps) key ⊎ (found_under site.cache key a ≡ None) → (Among (left_in ps) key → ⊥) → found_under site.cache key b ≡ None
  keys_gone durable [] old new a b same from to logged standing key (inl m) unleft = absurd m
  keys_gone durable [] old new a b same from to logged standing key (inr none) unleft =
      let both : Some a ≡ Some b = sym from ∙ sym same ∙ to in
      let log : a ≡ b = cc in
      subst (λ (l : List LogItem). found_under site.cache key l ≡ None) log none
  keys_gone durable (p ∷ ps) old new a b (next, drops, more) from to logged standing key gone unleft =
      let rest = keys_but durable ps next new more in
      let s = step durable p old next a b rest.moves drops from (subst (λ (l : Option (List LogItem)). Gains next l rest.moves) to rest.gains) logged standing in
      keys_gone durable ps next new s.mid b more s.here to logged s.standing key
      (by_then p ps key a s.mid (λ so. step_gone durable p old next a so drops from standing s) (s.finds key) (bytes_eq key p.0.key) refl gone unleft)
      (λ m. unleft (unleft_rest p ps key m))

  -- ---- then a collection

  -- the log after the keys were dropped, from which moves lead to the last one
  record Settled (entries : List Found) (old new : List LogItem) (settled : Option (List LogItem)) : Type 0 where
    log : List LogItem
    here : settled ≡ Some log
    logged : IsLog log
    standing : IsStanding site.cache log
    finds : (key : List ℕ) → (Among entries key → ⊥) → found_under site.cache key log ≡ found_under site.cache key old
    has : (key bytes : List ℕ) (i : List Hash) → (Among entries key → ⊥) → HasKey site.cache key i bytes old → HasKey site.cache key i bytes log

  settle : (entries : List Found) (old new : List LogItem) (settled : Option (List LogItem)) (more : Moves) → But entries (Some old) settled → Gains settled (Some new) more → IsLog new → IsStanding site.cache old → Settled entries old new settled
  settle entries old new settled more k gains logged standing =
      let log = longer old k.moves in
      let here = reached site home is (Among entries) old (Some old) settled refl k in
      let is_log = front_logged log new more (subst (λ (l : Option (List LogItem)). Gains l (Some new) more) here gains) logged in
      let s = k.stays old log refl here is_log standing in
      record { log = log; here = here; logged = is_log; standing = s.standing; finds = s.finds; has = s.has }

-- ---- a pruning

ends_gains : (told : Told) (limit : Option ℕ) (site : Site) (home : Names) (r : Result Collection Error) (old new : Option (List LogItem)) → home_of site.cache ≡ Some home → EndsCollecting told limit site r old new → (moves : Moves) × Gains old new moves
ends_gains told limit site home (Ok c) old new is ends = collect_gains told limit site home c.kept (tally_of c) old new is ends.0
ends_gains told limit site home (Err e) old new is ends = stop_gains told limit site home e old new is ends.1

ends_keep_led : (told : Told) (limit : Option ℕ) (site : Site) (home : Names) (r : Result Collection Error) (old new : List LogItem) → home_of site.cache ≡ Some home → IsLog new → IsStanding site.cache old → EndsCollecting told limit site r (Some old) (Some new) → KeepsLed site.cache old new
ends_keep_led told limit site home (Ok c) old new is logged standing ends = options_keep_led told limit site home c.kept (tally_of c) old new is logged standing ends.0
ends_keep_led told limit site home (Err e) old new is logged standing ends = stopped_options_keep_led told limit site home e old new is logged standing ends.1

module _ (limits : Limits) (told : Told) (limit : Option ℕ) (site : Site) (home : Names) (entries gone left : List Found) (dropped kept : List Weight) (c : Result Collection Error) (old new : List LogItem)
    (is : home_of site.cache ≡ Some home) (p : PrunesCache limits told limit site entries dropped kept gone left c (Some old) (Some new)) where
  abbrev ps : List Parting
  ps = p.parts.partings

  late : (moves : Moves) × Gains p.settled (Some new) moves
  late = ends_gains told limit site home c p.settled (Some new) is p.collects

  before : But site home is (parted p.parts.partings) (Some old) p.confirmed
  before = looks_but site home is (parted ps) (Some old) p.confirmed (confirmed_keeps limits site entries dropped kept [] (Some old) p.listed p.confirmed p.planning p.confirms)

  drops : But site home is (parted p.parts.partings) p.confirmed p.settled
  drops = keys_but site home is told.durable ps p.confirmed p.settled p.parts.dropping

  module _ (logged : IsLog new) (standing : IsStanding site.cache old) where
    there : Settled site home is (parted p.parts.partings) old new p.settled
    there = settle site home is (parted ps) old new p.settled late.0 (then_but site home is (λ key. Member key (keys_in (parted ps))) (Some old) p.confirmed p.settled before drops) late.1 logged standing

    last : KeepsLed site.cache there.log new
    last = ends_keep_led told limit site home c there.log new is logged there.standing (subst (λ (l : Option (List LogItem)). EndsCollecting told limit site c l (Some new)) there.here p.collects)

    among : (key : List ℕ) → (HasKeyAmong gone key → ⊥) → (HasKeyAmong left key → ⊥) → Member key (keys_in (parted p.parts.partings)) → ⊥
    among key ungone unleft m = elim (dropped_or_left ps key m) [
      | inl g ↦ ungone (contains_member key (keys_in gone) (subst (λ (l : List Found). Member key (keys_in l)) (sym p.parts.dropped) g))
      | inr l ↦ unleft (contains_member key (keys_in left) (subst (λ (l : List Found). Member key (keys_in l)) (sym p.parts.spared) l))
    ]

    spared_key : (key bytes : List ℕ) (i : List Hash) → (HasKeyAmong gone key → ⊥) → (HasKeyAmong left key → ⊥) → HasKey site.cache key i bytes old → StaysLed site.cache key i bytes old new
    spared_key key bytes i ungone unleft has =
        let other = among key ungone unleft in
        record { standing = last.standing; finds = last.finds key ∙ there.finds key other; has = last.key key bytes i (there.has key bytes i other has) }

    dropped_key : (key : List ℕ) → HasKeyAmong gone key → (HasKeyAmong left key → ⊥) → IsStanding site.cache new × (found_under site.cache key new ≡ None)
    dropped_key key among_gone unleft =
        let first = settle site home is (parted ps) old new p.confirmed (drops.moves ++ late.0) before (gains_join p.confirmed p.settled (Some new) drops.moves late.0 drops.gains late.1) logged standing in
        let g = subst (λ (l : List Found). Member key (keys_in l)) p.parts.dropped (member_contains key (keys_in gone) among_gone) in
        let none = keys_gone site home is told.durable ps p.confirmed p.settled first.log there.log p.parts.dropping first.here there.here there.logged first.standing key (inl g)
        (λ l. unleft (contains_member key (keys_in left) (subst (λ (x : List Found). Member key (keys_in x)) (sym p.parts.spared) l))) in
        (last.standing, last.finds key ∙ none)

pub prunes_spare_keys : PrunesSpareKeys
prunes_spare_keys limits told limit site home entries gone left dropped kept c key bytes i old new is logged standing p ungone unleft has =
    spared_key limits told limit site home entries gone left dropped kept c old new is p logged standing key bytes i ungone unleft has

pub prunes_drop_keys : PrunesDropKeys
prunes_drop_keys limits told limit site home entries gone left dropped kept c key old new is logged standing p among_gone unleft =
    dropped_key limits told limit site home entries gone left dropped kept c old new is p logged standing key among_gone unleft

-- ---- what was dropped

module _ (site : Site) (home : Names) (is : home_of site.cache ≡ Some home) where
  -- each lookup says what the tree has
  lookups_tell : (t : Tree) (placed : Placed (Some home) t) (lookups : List Lookup) (l : Lookup) → Rooted t → EachOn site t (map finding lookups) → Member l lookups → l.1 ≡ found_in home t l.0.key
  lookups_tell t placed [] l rooted on m = absurd m
  lookups_tell t placed (x ∷ lookups) l rooted on (inl same) = subst (λ (y : Lookup). y.1 ≡ found_in home t y.0.key) (sym same) (finds_led site home t is rooted x.0.key x.1 placed on.0)
  lookups_tell t placed (x ∷ lookups) l rooted on (inr m) = lookups_tell t placed lookups l rooted on.1 m

-- an entry's lookup, which found it
record Asked (lookups : List Lookup) (entry : Found) : Type 0 where
  lookup : Lookup
  member : Member lookup lookups
  own : entry ≡ lookup.0
  leads : Leads lookup

asked_for : (lookups : List Lookup) (entry : Found) → All Leads lookups → Member entry (map (λ (l : Lookup). l.0) lookups) → Asked lookups entry
asked_for [] entry lead m = absurd m
asked_for (l ∷ lookups) entry lead (inl same) = record { lookup = l; member = inl refl; own = same; leads = All-head Leads l lookups lead }
asked_for (l ∷ lookups) entry lead (inr m) =
    let late = asked_for lookups entry (All-tail Leads l lookups lead) m in
    record { lookup = late.lookup; member = inr late.member; own = late.own; leads = late.leads }

pub prunes_drop_led : PrunesDropLed
prunes_drop_led limits told limit site home entries gone left dropped kept c entry old new is logged standing p inside =
    let last = late limits told limit site home entries gone left dropped kept c old new is p in
    let first = plan_keeps limits site entries dropped kept [] (Some old) p.listed p.planning in
    let asks = confirms_made site (entries_in dropped) p.listed p.confirmed p.confirms in
    let k = asks.keeps in
    let d = drops limits told limit site home entries gone left dropped kept c old new is p in
    let rest = d.moves ++ last.0 in
    let behind : Gains p.confirmed (Some new) rest = gains_join p.confirmed p.settled (Some new) d.moves last.0 d.gains last.1 in
    let all = gains_join (Some old) p.listed (Some new) first.moves (k.moves ++ rest) first.gains (gains_join p.listed p.confirmed (Some new) k.moves rest k.gains behind) in
    let lead = logs_lead old new (first.moves ++ (k.moves ++ rest)) all logged in
    let after_listing = (answered_split (tree_of old) first.moves (k.moves ++ rest) lead.0).1 in
    let here : AreAnswered (tree_of old) (k.moves ++ rest) = subst (λ (t : Tree). AreAnswered t (k.moves ++ rest)) (first.stays (tree_of old)) after_listing in
    let tells = asks.tells (tree_of old) (answered_split (tree_of old) k.moves rest here).0 in
    let among : Member entry (map (λ (l : Lookup). l.0) p.confirms.lookups) = subst (Member entry) (sym p.confirms.each) (member_contains entry (entries_in dropped) inside) in
    let a = asked_for p.confirms.lookups entry p.confirms.lead among in
    let placed = subst (λ f. Placed f (tree_of old)) is standing.placed in
    let says = lookups_tell site home is (tree_of old) placed p.confirms.lookups a.lookup standing.rooted tells a.member in
    let finds : found_under site.cache a.lookup.0.key old ≡ a.lookup.1 = ap (λ f. latest a.lookup.0.key (entries_on f (tree_of old) a.lookup.0.key)) is ∙ sym says in
    subst (λ (f : Found). Leads (f, found_under site.cache f.key old)) (sym a.own) (subst (λ (o : Option Found). Leads (a.lookup.0, o)) (sym finds) a.leads)

-- ---- one that an error ended

pub stopped_prunes_spare_keys : StoppedPrunesSpareKeys
stopped_prunes_spare_keys limits durable site home e key bytes i old new is logged standing (inl (inl stop)) other has =
    keeps_led site.cache key bytes i old new (index_keeps site stop.0 (Some old) (Some new) stop.1) logged standing has
stopped_prunes_spare_keys limits durable site home e key bytes i old new is logged standing (inl (inr (entries, sorted, odd, listed, reads, each, stop))) other has =
    keeps_led site.cache key bytes i old new (then_keeps (Some old) listed (Some new) (listing_keeps site entries (Some old) listed reads.0) (unweighed_keeps site.cache sorted e listed (Some new) stop)) logged standing has
stopped_prunes_spare_keys limits durable site home e key bytes i old new is logged standing (inr (entries, dropped, kept, odd, listed, plan, inl (refuses, same))) other has =
    keeps_led site.cache key bytes i old new (subst (Keeps (Some old)) (sym same) (plan_keeps limits site entries dropped kept odd (Some old) listed plan)) logged standing has
stopped_prunes_spare_keys limits durable site home e key bytes i old new is logged standing (inr (entries, dropped, kept, odd, listed, plan, inr (none, inl astray))) other has =
    keeps_led site.cache key bytes i old new (then_keeps (Some old) listed (Some new) (plan_keeps limits site entries dropped kept odd (Some old) listed plan) (astray_keeps site (entries_in dropped) e listed (Some new) astray)) logged standing has
stopped_prunes_spare_keys limits durable site home e key bytes i old new is logged standing (inr (entries, dropped, kept, odd, listed, plan, inr (none, inr (confirmed, confirms, stop)))) other has =
    let marked = parted stop.done ++ take 1 stop.rest in
    let before = looks_but site home is marked (Some old) confirmed (confirmed_keeps limits site entries dropped kept odd (Some old) listed confirmed plan confirms) in
    let among = λ (k : List ℕ). in_left k (keys_in (parted stop.done)) (keys_in (take 1 stop.rest)) in
    let later = λ (k : List ℕ). in_right k (keys_in (parted stop.done)) (keys_in (take 1 stop.rest)) in
    let both = λ (k : List ℕ) (m : Member k (keys_in (parted stop.done) ++ keys_in (take 1 stop.rest))). subst (Member k) (sym (map-append (λ (f : Found). f.key) (parted stop.done) (take 1 stop.rest))) m in
    let IsMarked = λ (k : List ℕ). Member k (keys_in marked) in
    let done = wider site home is (λ k. Member k (keys_in (parted stop.done))) IsMarked confirmed stop.between (λ k m. both k (among k m)) (keys_but site home is durable stop.done confirmed stop.between stop.dropping) in
    let next = wider site home is (λ k. Member k (keys_in (take 1 stop.rest))) IsMarked stop.between (Some new) (λ k m. both k (later k m)) (next_but site home is durable stop.rest stop.between (Some new) stop.stop) in
    let all = then_but site home is IsMarked (Some old) confirmed (Some new) before (then_but site home is IsMarked confirmed stop.between (Some new) done next) in
    let s = all.stays old new refl refl logged standing in
    let apart = λ (m : Member key (keys_in marked)). other (contains_member key (keys_in marked) m) in
    record { standing = s.standing; finds = s.finds key apart; has = s.has key bytes i apart has }

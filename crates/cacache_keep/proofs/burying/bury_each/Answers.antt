use Rattle.std.proofs.{Common.{◌≡◌, true, false, ◌+◌, inl, [], ◌∷◌, ◌++◌, ap, drop, length, map, refl, rules, string_bytes, subst, sym, append_assoc, ◌∙◌}, lemmas.{List.{map-append}, Iterator.Adapters.{YieldsList-from_vec}}}
use Rattle.std.specs.Prelude.{IsUtf8}
use Rattle.cacache_core.specs.declared.errors.Error.TheVariants.{OutOfMemory}
use Rattle.cacache_entry.specs.View.{found_view}
use Rattle.cacache_jobs.specs.JobStates.{site_of}
use Rattle.cacache_keep.specs.{Calls.{MadeCalls}, Repairing.{BuriesEach, IsFateOf, StopsBurying, StopsFate, calls_for, is_buried}}
use Rattle.cacache_keep.proofs.{Stopped.{at_base, error_as}, Repairs.{InTurn.{split_turn}, Tombs.{buried_so, lost_between, next_stops_burying, none_buried, one_buried, one_spared, spared_so}}, burying.bury_each.{Given.{Over}, Goals.{In-Some, In_ok-bury}}}
use Rattle.cacache_keep.proofs.burying.bury_each.Goals as goal

pub loop-entry-init : goal.loop-entry-init
loop-entry-init g c = (refl, refl, none_buried _ _ _ _ (ap (map found_view) c.new-buried.ensures.items))

-- the fate of the entry's key is told
fated : (g : Over) (c : In_ok-bury g) → IsFateOf (found_view c.in-Some.entry, c.in_ok-bury.ensures.buries.0)
fated g c =
    let b = c.in_ok-bury.ensures.buries in
    let key : c.as_str.result.now ≡ string_bytes c.in-Some.entry.key = search rules in
    let utf8 : IsUtf8 c.as_str.result.now = search rules in
    (b.1 ∙ key, subst IsUtf8 (sym b.1) utf8, b.2)

-- and the calls for it were made
called : (g : Over) (c : In_ok-bury g)
    → MadeCalls (site_of c.args.cache.now c.args.env.now.base 0) (calls_for c.in_ok-bury.ensures.buries.0) (g.S.Store.log c.loop-entry.env.store) (g.S.Store.log c.bury.new.env.store)
called g c =
    let b = c.in_ok-bury.ensures.buries in
    at_base (λ s. MadeCalls s (calls_for b.0) (g.S.Store.log c.loop-entry.env.store) (g.S.Store.log c.bury.new.env.store)) c.args.cache.now c.args.env.now.base c.loop-entry.env.base c.loop-entry.invariant.1 b.5

-- the entries so far and this one, if its key got a tombstone
buried : (g : Over) (c : In_ok-bury g) → is_buried c.in_ok-bury.ensures.buries.0 ≡ true
    → BuriesEach (site_of c.args.cache.now c.args.env.now.base 0) c.args.shown.now (map found_view c.loop-entry.yielded ++ found_view c.in-Some.entry ∷ []) (map found_view c.loop-entry.buried.items ++ found_view c.in-Some.entry ∷ [])
    (g.S.Store.log c.args.env.now.store) (g.S.Store.log c.bury.new.env.store)
buried g c is =
    let b = c.in_ok-bury.ensures.buries in
    one_buried _ c.args.shown.now (map found_view c.loop-entry.yielded) (map found_view c.loop-entry.buried.items) (found_view c.in-Some.entry) b.0 _ _ _ c.loop-entry.invariant.2 (fated g c) is b.4 (called g c)

-- the same if it didn't
spared : (g : Over) (c : In_ok-bury g) → is_buried c.in_ok-bury.ensures.buries.0 ≡ false
    → BuriesEach (site_of c.args.cache.now c.args.env.now.base 0) c.args.shown.now (map found_view (c.loop-entry.yielded ++ c.in-Some.entry ∷ [])) (map found_view c.loop-entry.buried.items)
    (g.S.Store.log c.args.env.now.store) (g.S.Store.log c.bury.new.env.store)
spared g c is =
    let b = c.in_ok-bury.ensures.buries in
    let more = one_spared _ c.args.shown.now (map found_view c.loop-entry.yielded) (map found_view c.loop-entry.buried.items) (found_view c.in-Some.entry) b.0 _ _ _ c.loop-entry.invariant.2 (fated g c) is b.4 (called g c) in
    rw map-append more

pub loop-entry-preserved-in_ok-push : goal.loop-entry-preserved-in_ok-push
loop-entry-preserved-in_ok-push g c =
    let i = c.loop-entry.invariant in
    let b = c.in_ok-bury.ensures.buries in
    let more = buried g (goal.at.loop-entry-preserved-in_ok-push g c).In_ok-bury (buried_so b.0 _ b.3 c.if-not-branch.true) in
    let all : map found_view c.push.new.self.items ≡ map found_view c.loop-entry.buried.items ++ found_view c.in-Some.entry ∷ [] = ap (map found_view) c.in_ok-push.ensures.items ∙ map-append found_view c.loop-entry.buried.items (c.in-Some.entry ∷ []) in
    (c.bury.ensures.names ∙ i.0, c.bury.ensures.base ∙ i.1, rw (map-append found_view c.loop-entry.yielded (c.in-Some.entry ∷ []), all) more)

pub loop-entry-preserved : goal.loop-entry-preserved
loop-entry-preserved g c =
    let i = c.loop-entry.invariant in
    let b = c.in_ok-bury.ensures.buries in
    (c.bury.ensures.names ∙ i.0, c.bury.ensures.base ∙ i.1, spared g (goal.at.loop-entry-preserved g c).In_ok-bury (spared_so b.0 _ b.3 c.if-not-branch.false))

pub loop-entry-preserved-else-not-branch : goal.loop-entry-preserved-else-not-branch
loop-entry-preserved-else-not-branch g c =
    let i = c.loop-entry.invariant in
    let b = c.in_ok-bury.ensures.buries in
    (c.bury.ensures.names ∙ i.0, c.bury.ensures.base ∙ i.1, spared g (goal.at.loop-entry-preserved-else-not-branch g c).In_ok-bury (spared_so b.0 _ b.3 c.if-not-branch.false))

-- the entries so far, this one, and the rest
whole : (g : Over) (c : In-Some g) → map found_view c.args.entries.items ≡ map found_view c.loop-entry.yielded ++ found_view c.in-Some.entry ∷ map found_view (drop (length c.loop-entry.yielded + 1) c.args.entries.items)
whole g c =
    let entries = c.args.entries.items in
    let road = YieldsList-from_vec {s = c.into_iter-entry-iterator.result} entries (search rules) (search rules) in
    let split = split_turn road c.loop-entry.yielded c.loop-entry.entry-iterator c.next.new.self c.loop-entry.yielded_by c.next.result c.in-Some.entry c.in-Some.is c.next.ensures.steps in
    ap (map found_view) split ∙ map-append found_view c.loop-entry.yielded _

pub returns-in_err-bury-clause-stops : goal.returns-in_err-bury-clause-stops
returns-in_err-bury-clause-stops g c =
    let i = c.loop-entry.invariant in
    let cache = c.args.cache.now in
    let base = c.args.env.now.base in
    let look = c.args.shown.now in
    let mid = g.S.Store.log c.loop-entry.env.store in
    let new = g.S.Store.log c.bury.new.env.store in
    let e = c.in_err-bury.field-0.0 in
    let stop = at_base (λ s. StopsFate s look c.as_str.result.now e mid new) cache base c.loop-entry.env.base i.1 c.in_err-bury.ensures.stops in
    error_as (λ x. StopsBurying (site_of cache base 0) look (map found_view c.args.entries.items) x (g.S.Store.log c.args.env.now.store) new) c.from_residual.result e c.from_residual.ensures.1
    (next_stops_burying (site_of cache base 0) look _ _ _ _ c.as_str.result.now e _ mid new (whole g (goal.at.returns-in_err-bury-clause-stops g c).In-Some) i.2 stop)

pub returns-in_err-push-clause-stops : goal.returns-in_err-push-clause-stops
returns-in_err-push-clause-stops g c =
    let site = site_of c.args.cache.now c.args.env.now.base 0 in
    let look = c.args.shown.now in
    let new = g.S.Store.log c.bury.new.env.store in
    let b = c.in_ok-bury.ensures.buries in
    let split = whole g (goal.at.returns-in_err-push-clause-stops g c).In-Some ∙ sym (append_assoc (map found_view c.loop-entry.yielded) (found_view c.in-Some.entry ∷ []) _) in
    let more = buried g (goal.at.returns-in_err-push-clause-stops g c).In_ok-bury (buried_so b.0 _ b.3 c.if-not-branch.true) in
    error_as (λ x. StopsBurying site look (map found_view c.args.entries.items) x (g.S.Store.log c.args.env.now.store) new) c.from_residual-in_err-push.result OutOfMemory c.from_residual-in_err-push.ensures.1
    (next_stops_burying site look _ _ _ _ [] OutOfMemory _ new new split more (inl (lost_between site look new)))

use Rattle.std.proofs.{Common.{◌≡◌, ◌∙◌, ◌+◌, true, false, Bool, Ok, Err, [], ◌∷◌, ◌++◌, ap, drop, length, map, rules, subst, sym, append_assoc}, lemmas.{List.{map-append}, Iterator.Adapters.{YieldsList-from_vec}}}
use Rattle.cacache_core.specs.declared.errors.Error.TheVariants.{OutOfMemory}
use Rattle.cacache_entry.specs.View.{found_view}
use Rattle.cacache_jobs.specs.JobStates.{site_of}
use Rattle.cacache_keep.specs.Parting.{DropsKey, Parts, StopsParting}
use Rattle.cacache_keep.proofs.{Partings.{one_gone, one_left, stops_after, stops_there}, Repairs.InTurn.{split_turn}, Stopped.{at_base, error_as}, parting.part.{Given.{Over}, Goals.{In-Some, In_ok-drop_key}}}
use Rattle.cacache_keep.proofs.parting.part.Goals as goal

-- the key's fate, at the base folder of the arguments
fate : (g : Over) (c : In_ok-drop_key g) (gone : Bool) → c.in_ok-drop_key.field-0 ≡ gone
    → DropsKey c.args.durable (site_of c.args.cache.now c.args.env.now.base 0) (found_view c.in-Some.entry) (Ok gone) (g.S.Store.log c.loop-entry.env.store) (g.S.Store.log c.drop_key.new.env.store)
fate g c gone is =
    let mid = g.S.Store.log c.loop-entry.env.store in
    let new = g.S.Store.log c.drop_key.new.env.store in
    subst (λ (b : Bool). DropsKey c.args.durable (site_of c.args.cache.now c.args.env.now.base 0) (found_view c.in-Some.entry) (Ok b) mid new) is
    (at_base (λ s. DropsKey c.args.durable s (found_view c.in-Some.entry) (Ok c.in_ok-drop_key.field-0) mid new) c.args.cache.now c.args.env.now.base c.loop-entry.env.base c.loop-entry.invariant.1 c.in_ok-drop_key.ensures.drops)

-- the entries so far and this one, if its key is dropped
gone_too : (g : Over) (c : In_ok-drop_key g) → c.in_ok-drop_key.field-0 ≡ true
    → Parts c.args.durable (site_of c.args.cache.now c.args.env.now.base 0) (map found_view c.loop-entry.yielded ++ found_view c.in-Some.entry ∷ []) (map found_view c.loop-entry.dropped.items ++ found_view c.in-Some.entry ∷ []) (map found_view c.loop-entry.left.items)
    (g.S.Store.log c.args.env.now.store) (g.S.Store.log c.drop_key.new.env.store)
gone_too g c is =
    one_gone c.args.durable _ (map found_view c.loop-entry.yielded) (map found_view c.loop-entry.dropped.items) (map found_view c.loop-entry.left.items) (found_view c.in-Some.entry) _ _ _ c.loop-entry.invariant.2 (fate g c true is)

-- the same if it is left
left_too : (g : Over) (c : In_ok-drop_key g) → c.in_ok-drop_key.field-0 ≡ false
    → Parts c.args.durable (site_of c.args.cache.now c.args.env.now.base 0) (map found_view c.loop-entry.yielded ++ found_view c.in-Some.entry ∷ []) (map found_view c.loop-entry.dropped.items) (map found_view c.loop-entry.left.items ++ found_view c.in-Some.entry ∷ [])
    (g.S.Store.log c.args.env.now.store) (g.S.Store.log c.drop_key.new.env.store)
left_too g c is =
    one_left c.args.durable _ (map found_view c.loop-entry.yielded) (map found_view c.loop-entry.dropped.items) (map found_view c.loop-entry.left.items) (found_view c.in-Some.entry) _ _ _ c.loop-entry.invariant.2 (fate g c false is)

pub loop-entry-preserved-in-Continue-branch-2 : goal.loop-entry-preserved-in-Continue-branch-2
loop-entry-preserved-in-Continue-branch-2 g c =
    let i = c.loop-entry.invariant in
    let more = gone_too g (goal.at.loop-entry-preserved-in-Continue-branch-2 g c).In_ok-drop_key c.if-branch.true in
    let all : map found_view c.push.new.self.items ≡ map found_view c.loop-entry.dropped.items ++ found_view c.in-Some.entry ∷ [] = ap (map found_view) c.in_ok-push.ensures.items ∙ map-append found_view c.loop-entry.dropped.items (c.in-Some.entry ∷ []) in
    (c.drop_key.ensures.names ∙ i.0, c.drop_key.ensures.base ∙ i.1, rw (map-append found_view c.loop-entry.yielded (c.in-Some.entry ∷ []), all) more)

pub loop-entry-preserved : goal.loop-entry-preserved
loop-entry-preserved g c =
    let i = c.loop-entry.invariant in
    let more = left_too g (goal.at.loop-entry-preserved g c).In_ok-drop_key c.if-branch.false in
    let all : map found_view c.push-else-branch.new.self.items ≡ map found_view c.loop-entry.left.items ++ found_view c.in-Some.entry ∷ [] = ap (map found_view) c.in_ok-push-2.ensures.items ∙ map-append found_view c.loop-entry.left.items (c.in-Some.entry ∷ []) in
    (c.drop_key.ensures.names ∙ i.0, c.drop_key.ensures.base ∙ i.1, rw (map-append found_view c.loop-entry.yielded (c.in-Some.entry ∷ []), all) more)

-- the entries so far, this one, and the rest
whole : (g : Over) (c : In-Some g) → map found_view c.args.entries.items ≡ map found_view c.loop-entry.yielded ++ found_view c.in-Some.entry ∷ map found_view (drop (length c.loop-entry.yielded + 1) c.args.entries.items)
whole g c =
    let entries = c.args.entries.items in
    let road = YieldsList-from_vec {s = c.into_iter-entry-iterator.result} entries (search rules) (search rules) in
    let split = split_turn road c.loop-entry.yielded c.loop-entry.entry-iterator c.next.new.self c.loop-entry.yielded_by c.next.result c.in-Some.entry c.in-Some.is c.next.ensures.steps in
    ap (map found_view) split ∙ map-append found_view c.loop-entry.yielded _

pub returns-in_err-drop_key-clause-stops : goal.returns-in_err-drop_key-clause-stops
returns-in_err-drop_key-clause-stops g c =
    let cache = c.args.cache.now in
    let base = c.args.env.now.base in
    let site = site_of cache base 0 in
    let mid = g.S.Store.log c.loop-entry.env.store in
    let new = g.S.Store.log c.drop_key.new.env.store in
    let e = c.in_err-drop_key.field-0.0 in
    let drops = at_base (λ s. DropsKey c.args.durable s (found_view c.in-Some.entry) (Err e) mid new) cache base c.loop-entry.env.base c.loop-entry.invariant.1 c.in_err-drop_key.ensures.drops in
    error_as (λ x. StopsParting c.args.durable site (map found_view c.args.entries.items) x (g.S.Store.log c.args.env.now.store) new) c.from_residual.result e c.from_residual.ensures.1
    (stops_there c.args.durable site _ _ _ _ _ (found_view c.in-Some.entry) e _ mid new (whole g (goal.at.returns-in_err-drop_key-clause-stops g c).In-Some) c.loop-entry.invariant.2 drops)

pub returns-in_err-push-clause-stops : goal.returns-in_err-push-clause-stops
returns-in_err-push-clause-stops g c =
    let site = site_of c.args.cache.now c.args.env.now.base 0 in
    let new = g.S.Store.log c.drop_key.new.env.store in
    let split = whole g (goal.at.returns-in_err-push-clause-stops g c).In-Some ∙ sym (append_assoc (map found_view c.loop-entry.yielded) (found_view c.in-Some.entry ∷ []) _) in
    let more = gone_too g (goal.at.returns-in_err-push-clause-stops g c).In_ok-drop_key c.if-branch.true in
    error_as (λ x. StopsParting c.args.durable site (map found_view c.args.entries.items) x (g.S.Store.log c.args.env.now.store) new) c.from_residual-in_err-push.result OutOfMemory c.from_residual-in_err-push.ensures.1
    (stops_after c.args.durable site _ _ _ _ _ _ new split more)

pub returns-in_err-push-2-clause-stops : goal.returns-in_err-push-2-clause-stops
returns-in_err-push-2-clause-stops g c =
    let site = site_of c.args.cache.now c.args.env.now.base 0 in
    let new = g.S.Store.log c.drop_key.new.env.store in
    let split = whole g (goal.at.returns-in_err-push-2-clause-stops g c).In-Some ∙ sym (append_assoc (map found_view c.loop-entry.yielded) (found_view c.in-Some.entry ∷ []) _) in
    let more = left_too g (goal.at.returns-in_err-push-2-clause-stops g c).In_ok-drop_key c.if-branch.false in
    error_as (λ x. StopsParting c.args.durable site (map found_view c.args.entries.items) x (g.S.Store.log c.args.env.now.store) new) c.from_residual-in_err-push-2.result OutOfMemory c.from_residual-in_err-push-2.ensures.1
    (stops_after c.args.durable site _ _ _ _ _ _ new split more)

use Rattle.std.proofs.{Common.{◌≡◌, ℕ, ◌+◌, ◌-◌, ◌^◌, ◌++◌, ◌∷◌, [], Bool, List, drop, false, length, refl, rules, sym, subst, true, append_assoc, ◌∙◌}, lemmas.{List.{map-id}, Iterator.{Adapters.{YieldsList-from_vec}, Consumers.{YieldsList-end}}}}
use Rattle.std.specs.Prelude.{min}
use Rattle.cacache_core.specs.declared.{errors.Error.TheVariants.{OutOfMemory}, integrity.digest.Hash.{Hash}}
use Rattle.cacache_keep.specs.Reading.{SaysGood, StopsEach, WeighsOthers}
use Rattle.cacache_keep.proofs.{Repairs.InTurn.{damaged_read, good_read, memory_next, none_read, split_turn, stops_next}, Stopped.{error_as}, reading.others_of.{Given.{Over}, Goals.{In-Some, In_ok-good}}}
use Rattle.cacache_keep.proofs.reading.others_of.Goals as goal

pub loop-sri-init : goal.loop-sri-init
loop-sri-init g c = none_read c.args.cache.now 0 c.new-damaged.result.items 0 (g.S.Store.log c.args.store.now) refl c.new-damaged.ensures.items refl

-- a content that is damaged, after those so far
damaged : (g : Over) (c : In_ok-good g) (more : ℕ) → c.in_ok-good.field-0.good ≡ false → more ≡ min (c.loop-sri.damaged_bytes + c.in_ok-good.field-0.bytes) (2 ^ 64 - 1)
    → WeighsOthers c.args.cache.now (c.loop-sri.yielded ++ c.in-Some.sri ∷ []) c.loop-sri.good_bytes (c.loop-sri.damaged.items ++ c.in-Some.sri ∷ []) more (g.S.Store.log c.args.store.now) (g.S.Store.log c.judge.new.store)
damaged g c more bad grows =
    let says = subst (λ (b : Bool). SaysGood c.args.cache.now c.in-Some.sri b c.in_ok-good.field-0.bytes (g.S.Store.log c.loop-sri.store) (g.S.Store.log c.judge.new.store)) bad c.in_ok-good.ensures.says in
    damaged_read c.args.cache.now _ _ _ c.loop-sri.damaged_bytes more c.in-Some.sri _ _ _ _ c.loop-sri.invariant says grows

-- the addresses so far, this one, and the rest
whole : (g : Over) (c : In-Some g) → c.args.addresses.items ≡ c.loop-sri.yielded ++ c.in-Some.sri ∷ drop (length c.loop-sri.yielded + 1) c.args.addresses.items
whole g c =
    let road = YieldsList-from_vec {s = c.into_iter-sri-iterator.result} c.args.addresses.items (search rules) (search rules) in
    split_turn road c.loop-sri.yielded c.loop-sri.sri-iterator c.next.new.self c.loop-sri.yielded_by c.next.result c.in-Some.sri c.in-Some.is c.next.ensures.steps

pub loop-sri-preserved-then-good : goal.loop-sri-preserved-then-good
loop-sri-preserved-then-good g c =
    let cache = c.args.cache.now in
    let old = g.S.Store.log c.args.store.now in
    let mid = g.S.Store.log c.loop-sri.store in
    let new = g.S.Store.log c.judge.new.store in
    let size = c.in_ok-good.field-0.bytes in
    let good : c.in_ok-good.field-0.good ≡ true = cc in
    let says = subst (λ (b : Bool). SaysGood cache c.in-Some.sri b size mid new) good c.in_ok-good.ensures.says in
    good_read cache c.loop-sri.yielded c.loop-sri.good_bytes c.saturating_add-good_bytes.result c.loop-sri.damaged.items c.loop-sri.damaged_bytes c.in-Some.sri size old mid new c.loop-sri.invariant says c.saturating_add-good_bytes.ensures

pub loop-sri-preserved : goal.loop-sri-preserved
loop-sri-preserved g c =
    let bad : c.in_ok-good.field-0.good ≡ false = cc in
    let next = damaged g (goal.at.loop-sri-preserved g c).In_ok-good c.saturating_add-damaged_bytes.result bad c.saturating_add-damaged_bytes.ensures in
    rw c.in_ok-push.ensures.items next

pub returns-in_err-good-clause-stops : goal.returns-in_err-good-clause-stops
returns-in_err-good-clause-stops g c =
    let old = g.S.Store.log c.args.store.now in
    let new = g.S.Store.log c.judge.new.store in
    let e = c.in_err-good.field-0.0 in
    error_as (λ x. StopsEach c.args.cache.now c.args.addresses.items x old new) c.from_residual.result e c.from_residual.ensures.1
    (stops_next c.args.cache.now _ _ _ _ _ _ e old _ new (whole g (goal.at.returns-in_err-good-clause-stops g c).In-Some) c.loop-sri.invariant c.in_err-good.ensures.stops)

pub returns-in_err-push-clause-stops : goal.returns-in_err-push-clause-stops
returns-in_err-push-clause-stops g c =
    let at = goal.at.returns-in_err-push-clause-stops g c in
    let old = g.S.Store.log c.args.store.now in
    let new = g.S.Store.log c.judge.new.store in
    let bad : c.in_ok-good.field-0.good ≡ false = cc in
    let more = damaged g at.In_ok-good c.saturating_add-damaged_bytes.result bad c.saturating_add-damaged_bytes.ensures in
    error_as (λ x. StopsEach c.args.cache.now c.args.addresses.items x old new) c.from_residual-in_err-push.result OutOfMemory c.from_residual-in_err-push.ensures.1
    (stops_next c.args.cache.now _ _ _ _ _ _ OutOfMemory old new new (whole g at.In-Some ∙ sym (append_assoc c.loop-sri.yielded (c.in-Some.sri ∷ []) _)) more (memory_next c.args.cache.now _ new))

pub returns-clause-reads : goal.returns-clause-reads
returns-clause-reads g c =
    let addresses = c.args.addresses.items in
    let seen = c.loop-sri.yielded in
    let old = g.S.Store.log c.args.store.now in
    let new = g.S.Store.log c.loop-sri.store in
    let road = YieldsList-from_vec {s = c.into_iter-sri-iterator.result} addresses (search rules) (search rules) in
    let over = YieldsList-end road seen c.loop-sri.sri-iterator c.loop-sri.yielded_by c.next.result c.next.new.self c.in-None.is c.next.ensures.steps in
    subst (λ (l : List (List Hash)). WeighsOthers c.args.cache.now l c.loop-sri.good_bytes c.loop-sri.damaged.items c.loop-sri.damaged_bytes old new) (sym (map-id seen) ∙ over.0) c.loop-sri.invariant

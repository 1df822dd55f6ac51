use Rattle.std.proofs.{Common.{◌≡◌, ◌⊎◌, ◌∙◌, Err, inr, Ok, get_or, length, map, rules, sym, subst}, lemmas.{List.{map-id}, Iterator.{Adapters.{YieldsList-from_vec}, Consumers.{YieldsList-so_far, YieldsList-turn}}}}
use Rattle.cacache_core.specs.declared.errors.Error.TheVariants.{OutOfMemory}
use Rattle.cacache_calls.specs.State.{Item}
use Rattle.cacache_keep.{specs.Calls.{HasNoIndex, IsFirstError, IsIndexError}, proofs.Stopped.{error_as, first_error}}
use Rattle.cacache_keep.proofs.index.entries_of.Goals as goal

-- the items before the error are entries
pub returns-in_err-item-clause-err : goal.returns-in_err-item-clause-err
returns-in_err-item-clause-err c =
    let items = c.args.items.items in
    let road = YieldsList-from_vec {s = c.into_iter-item-iterator.result} items (search rules) (search rules) in
    let so_far = YieldsList-so_far road c.loop-item.yielded c.loop-item.item-iterator c.loop-item.yielded_by in
    let turn = YieldsList-turn road c.loop-item.yielded c.loop-item.item-iterator c.loop-item.yielded_by c.next.result c.next.new.self c.in-Some.item c.in-Some.is c.next.ensures.steps in
    let e = c.in_err-item.field-0.0 in
    let is : c.in-Some.item ≡ Err e = search rules in
    let before : map Ok c.loop-item.entries.items ≡ _ = sym c.loop-item.invariant ∙ sym (map-id c.loop-item.yielded) ∙ so_far in
    let at = subst (λ (x : Item). x ≡ get_or items (length c.loop-item.yielded) x) is turn.1 in
    let first : IsFirstError items e = first_error items c.loop-item.entries.items e (length c.loop-item.yielded) turn.0 before at in
    let apart : HasNoIndex items → ⊥ = λ missing. c.has_no_index.ensures.no c.if-has_no_index.false (subst HasNoIndex (sym c.as_slice.ensures.value) missing) in
    error_as (λ x. (x ≡ OutOfMemory) ⊎ IsIndexError items x) c.from_residual.result e c.from_residual.ensures.1 (inr (first, apart))

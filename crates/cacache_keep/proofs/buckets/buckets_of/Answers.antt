use Rattle.std.proofs.Common.{false, List, ℕ, [], ◌∷◌, inl, inr, rules, subst}
use Rattle.cacache_keep.{specs.Buckets.{ListsParts, StopsFinding, StopsParts}, proofs.Stopped.{error_as}}
use Rattle.cacache_keep.proofs.buckets.buckets_of.Goals as goal

pub returns-in_err-tops-clause-stops : goal.returns-in_err-tops-clause-stops
returns-in_err-tops-clause-stops g c =
    let log = g.S.Store.log in
    let old = log c.args.store.now in
    let new = log c.parts_below.new.store in
    let e = c.in_err-tops.field-0.0 in
    error_as (λ x. StopsFinding c.args.cache.now x old new) c.from_residual-in_err-tops.result e c.from_residual-in_err-tops.ensures.1
    (inl (subst (λ (index : List ℕ). StopsParts (index ∷ []) e old new) c.in_ok-join.ensures c.in_err-tops.ensures.stops))

pub returns-in_err-lows-clause-stops : goal.returns-in_err-lows-clause-stops
returns-in_err-lows-clause-stops g c =
    let log = g.S.Store.log in
    let old = log c.args.store.now in
    let one = log c.parts_below.new.store in
    let new = log c.parts_below-2.new.store in
    let tops = c.in_ok-tops.tops.items in
    let e = c.in_err-lows.field-0.0 in
    let lists = subst (λ (index : List ℕ). ListsParts false (index ∷ []) tops old one) c.in_ok-join.ensures c.in_ok-tops.ensures.lists in
    let stop : StopsParts tops e one new = search (rules, c.in_err-lows.ensures.stops) in
    error_as (λ x. StopsFinding c.args.cache.now x old new) c.from_residual-in_err-lows.result e c.from_residual-in_err-lows.ensures.1
    (inr (tops, one, lists, inl stop))

pub returns-in_err-paths-clause-stops : goal.returns-in_err-paths-clause-stops
returns-in_err-paths-clause-stops g c =
    let log = g.S.Store.log in
    let old = log c.args.store.now in
    let one = log c.parts_below.new.store in
    let two = log c.parts_below-2.new.store in
    let new = log c.parts_below-3.new.store in
    let tops = c.in_ok-tops.tops.items in
    let lows = c.in_ok-lows.lows.items in
    let e = c.in_err-paths.field-0.0 in
    let first = subst (λ (index : List ℕ). ListsParts false (index ∷ []) tops old one) c.in_ok-join.ensures c.in_ok-tops.ensures.lists in
    let second = subst (λ (folders : List (List ℕ)). ListsParts false folders lows one two) c.as_slice.ensures.value c.in_ok-lows.ensures.lists in
    let stop = subst (λ (folders : List (List ℕ)). StopsParts folders e two new) c.as_slice-2.ensures.value c.in_err-paths.ensures.stops in
    error_as (λ x. StopsFinding c.args.cache.now x old new) c.from_residual-in_err-paths.result e c.from_residual-in_err-paths.ensures.1
    (inr (tops, one, first, inr (lows, two, second, stop)))

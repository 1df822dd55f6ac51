use Rattle.std.{proofs.Common.{◌≡◌, ℕ, List, Some, inl, inr, rules, refl, subst}, specs.Prelude.{Result, Ok, Err, IfOk, IsErrAnd}}
use Rattle.cacache_core.specs.declared.errors.Error.TheVariants.{OutOfMemory}
use Rattle.cacache_store.specs.declared.store.answer.Kind.TheVariants as kinds
use Rattle.cacache_laws.specs.trees.Temporary.{area_of}
use Rattle.cacache_keep.{specs.Sweeping.{ListsFolder, StopsFinding, StopsFolder}, proofs.Stopped.{error_as}}
use Rattle.cacache_keep.proofs.sweeping.find_files.Goals as goal

none_ok : {X E : Type 0} (P : X → Type 0) (r : Result X E) (e : E) → IsErrAnd r (λ x. x ≡ e) → IfOk r P
none_ok P (Ok x) e same = absurd same
none_ok P (Err x) e same = tt

pub returns-in_err-around-clause-stops : goal.returns-in_err-around-clause-stops
returns-in_err-around-clause-stops g c =
    let old = g.S.Store.log c.args.store.now in
    let looked = g.S.Store.log c.names_in.new.store in
    let e = c.in_err-around.field-0.0 in
    error_as (λ x. StopsFinding c.args.cache.now x old looked) c.from_residual.result e c.from_residual.ensures.1
    (inl (subst (λ (f : List ℕ). StopsFolder f e old looked) c.cache_folder.ensures c.in_err-around.ensures.stops))

pub returns-in_err-names-in-Some-Folder-clause-stops : goal.returns-in_err-names-in-Some-Folder-clause-stops
returns-in_err-names-in-Some-Folder-clause-stops g c =
    let old = g.S.Store.log c.args.store.now in
    let looked = g.S.Store.log c.names_in.new.store in
    let new = g.S.Store.log c.names_in-in-Some-Folder.new.store in
    let around = c.in_ok-around.around.items in
    let e = c.in_err-names-in-Some-Folder.field-0.0 in
    let at : area_of c.in_ok-around.around.items ≡ Some kinds.Folder = search rules in
    let lists = subst (λ (f : List ℕ). ListsFolder f around old looked) c.cache_folder.ensures c.in_ok-around.ensures.lists in
    let stops = subst (λ (f : List ℕ). StopsFolder f e looked new) c.requires c.in_err-names-in-Some-Folder.ensures.stops in
    error_as (λ x. StopsFinding c.args.cache.now x old new) c.from_residual-in_err-names-in-Some-Folder.result e c.from_residual-in_err-names-in-Some-Folder.ensures.1
    (inr (around, looked, lists, inr (at, inl stops)))

pub returns-in_err-tell_apart-in-Some-Folder-clause-stops : goal.returns-in_err-tell_apart-in-Some-Folder-clause-stops
returns-in_err-tell_apart-in-Some-Folder-clause-stops g c =
    let old = g.S.Store.log c.args.store.now in
    let looked = g.S.Store.log c.names_in.new.store in
    let new = g.S.Store.log c.names_in-in-Some-Folder.new.store in
    let around = c.in_ok-around.around.items in
    let names = c.in_ok-names-in-Some-Folder.names.items in
    let at : area_of c.in_ok-around.around.items ≡ Some kinds.Folder = search rules in
    let lists = subst (λ (f : List ℕ). ListsFolder f around old looked) c.cache_folder.ensures c.in_ok-around.ensures.lists in
    let inside = subst (λ (f : List ℕ). ListsFolder f names looked new) c.requires c.in_ok-names-in-Some-Folder.ensures.lists in
    error_as (λ x. StopsFinding c.args.cache.now x old new) c.from_residual-in_err-tell_apart-in-Some-Folder.result OutOfMemory
    c.from_residual-in_err-tell_apart-in-Some-Folder.ensures.1 (inr (around, looked, lists, inr (at, inr (refl, names, inside))))

pub returns-in_err-in_its_place-in-Some : goal.returns-in_err-in_its_place-in-Some
returns-in_err-in_its_place-in-Some g c =
    let old = g.S.Store.log c.args.store.now in
    let looked = g.S.Store.log c.names_in.new.store in
    let around = c.in_ok-around.around.items in
    let lists = subst (λ (f : List ℕ). ListsFolder f around old looked) c.cache_folder.ensures c.in_ok-around.ensures.lists in
    record {
      finds = none_ok _ c.from_residual-in_err-in_its_place-in-Some.result OutOfMemory c.from_residual-in_err-in_its_place-in-Some.ensures.1;
      stops = error_as (λ x. StopsFinding c.args.cache.now x old looked) c.from_residual-in_err-in_its_place-in-Some.result OutOfMemory
          c.from_residual-in_err-in_its_place-in-Some.ensures.1 (inr (around, looked, lists, inl (refl, refl)));
    }

use Rattle.std.proofs.Common.{◌++◌, ◌∷◌, [], ℕ, List, sym, subst}
use Rattle.cacache_core.specs.declared.integrity.digest.Hash.{Hash}
use Rattle.cacache_walks.{specs.{Addresses.{IsContentPath, IsStrange}, Listing.{Sorts}}, proofs.Sorting.{sorts_content, sorts_strange}}
use Rattle.cacache_walks.proofs.contents.tell_apart.Goals as goal

pub loop-file-preserved-in-Some-branch-2 : goal.loop-file-preserved-in-Some-branch-2
loop-file-preserved-in-Some-branch-2 c =
    let found = rw c.in-Some-2.is at c.in_ok-sri.ensures.address in
    let content = subst (λ (p : List ℕ). IsContentPath c.args.cache.now p c.in-Some-2.sri) c.as_str.ensures.same found in
    let more = sorts_content c.args.cache.now c.in-Some.file c.in-Some-2.sri c.loop-file.yielded c.loop-file.strange.items c.loop-file.addresses.items content c.loop-file.invariant in
    subst (λ (l : List (List Hash)). Sorts c.args.cache.now (c.loop-file.yielded ++ c.in-Some.file ∷ []) l c.loop-file.strange.items) (sym c.in_ok-push-in-Some-2.ensures.items) more

pub loop-file-preserved : goal.loop-file-preserved
loop-file-preserved c =
    let found = rw c.in-None-2.is at c.in_ok-sri.ensures.address in
    let strange = subst (λ (p : List ℕ). IsStrange c.args.cache.now p) c.as_str.ensures.same found in
    let more = sorts_strange c.args.cache.now c.in-Some.file c.loop-file.yielded c.loop-file.strange.items c.loop-file.addresses.items strange c.loop-file.invariant in
    subst (λ (l : List (List ℕ)). Sorts c.args.cache.now (c.loop-file.yielded ++ c.in-Some.file ∷ []) c.loop-file.addresses.items l) (sym c.in_ok-push-in-None-2.ensures.items) more

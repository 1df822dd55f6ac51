use Rattle.std.proofs.Common.{inr, List, map, refl, string_bytes, subst, ap, ◌∙◌}
use Rattle.cacache_core.specs.{declared.{errors.Error.TheVariants.{OutOfMemory}, integrity.digest.Hash.{Hash}}, Integrity.{address}}
use Rattle.cacache_walks.specs.Listing.{ListsContents}
use Rattle.cacache_keep.proofs.{Repairs.Shown.{single_hashes, sorted_hashes}, Stopped.{error_as}}
use Rattle.cacache_keep.proofs.missing.look.Goals as goal

pub returns-in_err-contents-clause-stops : goal.returns-in_err-contents-clause-stops
returns-in_err-contents-clause-stops g c =
    error_as _ _ OutOfMemory c.from_residual-in_err-contents.ensures.1
    (inr (refl, c.in_ok-addresses.field-0.addresses.items, map string_bytes c.in_ok-addresses.field-0.strange.items, c.in_ok-addresses.ensures.lists))

pub returns-clause-shows : goal.returns-clause-shows
returns-clause-shows g c =
    let addresses = c.in_ok-addresses.field-0.addresses.items in
    let strange = map string_bytes c.in_ok-addresses.field-0.strange.items in
    let single = single_hashes c.in_ok-contents.contents.items addresses c.in_ok-addresses.ensures.by_hash (c.in_ok-contents.ensures ∙ ap (map address) c.as_slice.ensures.value) in
    subst (λ (l : List (List Hash)). ListsContents c.args.cache.now l strange (g.S.Store.log c.args.env.now.store) (g.S.Store.log c.list.new.env.store)) single c.in_ok-addresses.ensures.lists

pub invariant_of-result : goal.invariant_of-result
invariant_of-result g c =
    sorted_hashes c.in_ok-contents.contents.items c.in_ok-addresses.field-0.addresses.items c.in_ok-addresses.ensures.by_hash (c.in_ok-contents.ensures ∙ ap (map address) c.as_slice.ensures.value)

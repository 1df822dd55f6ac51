use Rattle.std.proofs.Common.{List, refl, subst}
use Rattle.cacache_core.specs.declared.integrity.digest.Hash.{Hash}
use Rattle.cacache_keep.{specs.Calls.{AreOthers}, proofs.{Collections.Searching.{no_entry_has}, Asked.{value_so}}}
use Rattle.cacache_keep.proofs.live.unused.Goals as goal

pub returns : goal.returns
returns c =
    value_so c.others.result (λ unused are. no_entry_has c.args.entries.now c.in_ok-live.live.items c.sort.new.live.items c.args.addresses.items unused.items c.in_ok-live.ensures.each (c.in_ok-live.ensures.formed refl) c.sort.ensures.same (subst (λ (l : List Hash). AreOthers l c.args.addresses.items unused.items) c.as_slice.ensures.value are)) c.others.ensures

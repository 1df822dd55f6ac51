use Rattle.std.proofs.Common.{List, subst}
use Rattle.cacache_core.specs.declared.integrity.digest.Hash.{Hash}
use Rattle.cacache_keep.{specs.Calls.{AreOthers}, proofs.Asked.{value_so}}
use Rattle.cacache_keep.proofs.roots.spare_roots.Goals as goal

pub returns : goal.returns
returns c =
    value_so c.others.result (λ rest are. (
      c.sort.new.live.items,
      c.in_ok-hashes.hashes.items,
      c.in_ok-hashes.ensures,
      c.sort.ensures.same,
      subst (λ (l : List Hash). AreOthers l c.args.unused.items rest.items) c.as_slice.ensures.value are,
    )) c.others.ensures

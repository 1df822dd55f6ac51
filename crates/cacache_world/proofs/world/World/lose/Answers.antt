use Rattle.std.proofs.Common.{vec_len, sym, subst}
use Rattle.cacache_disk.specs.Tree.{Tree}
use Rattle.cacache_world.{specs.{Played.{LeftBy}, WorldKept.{history_told}}, proofs.Played.{left_rooted, told_left}}
use Rattle.cacache_world.proofs.world.World.lose.Goals as goal

pub of-requires : goal.of-requires
of-requires c =
    left_rooted (history_told c.self.inside) c.args.loss.now c.in-Ok.nodes c.self.invariant.legal
    (told_left c.self.inside.cache c.as_str-cache.result.now c.self.inside.outside.items c.as_slice-outside.result.now c.self.inside.records.items c.as_slice.result.now (vec_len c.self.inside.calls)
    c.args.loss.now c.in-Ok.nodes c.as_str-cache.ensures.same c.as_slice-outside.ensures.value c.as_slice.ensures.value c.in-Ok.ensures)

pub returns-in-Ok-clause-lost : goal.returns-in-Ok-clause-lost
returns-in-Ok-clause-lost c =
    subst (λ h. LeftBy h c.args.loss.now c.of.result) c.self.view_is
    (subst (λ (t : Tree). LeftBy (history_told c.self.inside) c.args.loss.now t) (sym c.of.ensures)
    (told_left c.self.inside.cache c.as_str-cache.result.now c.self.inside.outside.items c.as_slice-outside.result.now c.self.inside.records.items c.as_slice.result.now (vec_len c.self.inside.calls)
    c.args.loss.now c.in-Ok.nodes c.as_str-cache.ensures.same c.as_slice-outside.ensures.value c.as_slice.ensures.value c.in-Ok.ensures))

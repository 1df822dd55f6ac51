use Rattle.std.proofs.Common.{rules}
use Rattle.cacache_sync.{specs.Exports.{named_source}, proofs.{Exports.{linked, copied_first, copied_second}, ways.export_free.Goals.{then-eq+else-not-is_closed, else-eq}}}
use Rattle.cacache_sync.proofs.ways.export_free.Goals as goal

pub returns-then-not-is_closed-clause-tries : goal.returns-then-not-is_closed-clause-tries
returns-then-not-is_closed-clause-tries g c =
    linked g.S.Store.log c.args.cache.now (named_source c.args.named) c.args.to.now c.args.mode _ _ _ (search rules) c.link_out-linked.ensures.by (search rules)

pub returns-clause-tries : goal.returns-clause-tries
returns-clause-tries g c =
    elim c.if-eq.branch [
      | then-eq+else-not-is_closed w ↦
          copied_second g.S.Store.log c.args.cache.now (named_source c.args.named) c.args.to.now c.args.mode _ _ _ _ _ (search rules) w.link_out-linked.ensures.by (search rules) (rw w.env-is at c.copy_out.ensures.by)
      | else-eq w ↦
          copied_first g.S.Store.log c.args.cache.now (named_source c.args.named) c.args.to.now c.args.mode _ _ _ (search rules) (rw w.env-is at c.copy_out.ensures.by)
    ]

use Rattle.std.proofs.Common.{sym, subst, ◌∙◌}
use Rattle.cacache.specs.Laws.{IsCache, IsReady}
use Rattle.uses_client.proofs.empty.from_nothing.Goals as goal

pub store_and_read-requires : goal.store_and_read-requires
store_and_read-requires g c =
    subst (IsCache c.args.cache.now) (sym (c.in_ok-env.ensures.store ∙ c.in_ok-memory.ensures)) (c.cache_laws.ensures.fresh c.args.cache.now).sound

pub returns-clause-memory : goal.returns-clause-memory
returns-clause-memory g c = λ folder.
    c.store_and_read.ensures.memory (subst (IsReady c.args.cache.now) (sym (c.in_ok-env.ensures.store ∙ c.in_ok-memory.ensures)) (c.success_laws.ensures.fresh c.args.cache.now folder))

-- The file that the four words name was stored.
use Rattle.std.proofs.Common.{codes, rules}
use Rattle.cacache_program.{specs.WordStore.{StoresFile}, proofs.FurtherAsked.{filed_by}}
use Rattle.cacache_program.proofs.further.run_filed.Goals as goal

pub returns-in-store-clause-stores : goal.returns-in-store-clause-stores
returns-in-store-clause-stores g c =
    filed_by c.args.words.now c.cache-item.result c.key-item.result c.file-item.result c.as_str-in-store.result.now c.as_str-in-store-2.result.now c.as_str-in-store-3.result.now (codes "store")
    (λ cache key file. StoresFile g.S.Store.log g.N.Names.given g.S.Temp.TempHandle.seen g.C.Clock.given cache key file c.args.env.now c.store.new.env (g.W.Write.contents c.args.output.now) (g.W.Write.contents c.store.new.output) c.store.result)
    (search rules) (search rules) (search rules) (search rules) (search rules) (search rules) c.store.ensures.does

use Rattle.std.proofs.Common.{Some}
use Rattle.uses_client.proofs.writing.open.Goals as goal

pub returns : goal.returns
returns g c = c.writer_laws.ensures.opens c.args.cache.now (Some c.args.key.now) c.args.opts c.open_sync-opened.result c.args.env.now c.requires c.open_sync-opened.ensures.opens

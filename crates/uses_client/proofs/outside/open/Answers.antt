use Rattle.std.proofs.Common.{Some}
use Rattle.cacache.specs.Calls.{nothing_said}
use Rattle.uses_client.proofs.outside.open.Goals as goal

pub returns : goal.returns
returns g c = c.linker_laws.ensures.opens_sized c.args.cache.now (Some c.args.key.now) c.args.file.now nothing_said c.open-opened.result c.args.env.now c.requires c.open-opened.ensures.opens c.open-opened.ensures.begins

-- A linker that was read goes on, and its commit is what the laws say.
use Rattle.std.proofs.Common.{Some, [], refl}
use Rattle.cacache.specs.Calls.{nothing_said}
use Rattle.uses_client.proofs.outside.finish.Goals as goal

pub returns : goal.returns
returns g c = λ cache path held sound apart begun.
    let laws = c.linker_laws.ensures in
    let read = c.read-front in
    let reading = laws.goes_on cache (Some c.args.key.now) path nothing_said held [] c.args.linker read.new.self read.result read.new.buf begun read.ensures.bound read.ensures.bytes read.ensures.left (read.ensures.so_far [] begun.hashed) read.ensures.linked in
    laws.commits cache (Some c.args.key.now) path nothing_said held _ read.new.self c.commit-linked.result c.args.env.now sound apart reading (laws.plain nothing_said refl refl tt) c.utf8.key (c.commit-linked.ensures.ran _ reading.hashed)

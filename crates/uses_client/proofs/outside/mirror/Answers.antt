use Rattle.std.proofs.Common.{refl}
use Rattle.uses_client.proofs.Shown.{mirrored}
use Rattle.uses_client.proofs.outside.mirror.Goals as goal

pub returns-clause-mirrors : goal.returns-clause-mirrors
returns-clause-mirrors g c = λ held before after none.
    let of = c.in_ok-_sri.ensures.held held before in
    mirrored c.args.cache.now c.args.key.now _ held c.in_ok-_sri._sri c.fetch.result c.args.env.now.store c.link.new.env.store c.fetch.new.env.store (of.leads c.args.key.now refl) of.stored of.lies c.fetch.ensures.linked c.fetch.ensures.same after none

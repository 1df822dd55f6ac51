-- What an opening of a content says about it.
use Rattle.std.proofs.Common.{Ok, Err}
use Rattle.cacache.specs.Laws.{bytes_under}
use Rattle.uses_client.proofs.Shown.{told}
use Rattle.uses_client.proofs.reading.try_opening.Goals as goal

pub returns-in-Ok : goal.returns-in-Ok
returns-in-Ok g c = λ folder. told (bytes_under c.args.cache.now c.args.sri c.args.env.now.store) (Ok c.in-Ok._reader.file)
    (c.success_laws.ensures.opens_reader c.args.cache.now c.args.sri (Ok c.in-Ok._reader.file) c.args.env.now.store c.open_hash-opened.new.env.store folder (c.standing_laws.ensures.stands _ _ c.requires) c.address-address.ensures.integrity (rw c.in-Ok.is at c.open_hash-opened.ensures.opens).1 c.cache_laws.ensures.logged)

pub returns-in-Err : goal.returns-in-Err
returns-in-Err g c = λ folder. told (bytes_under c.args.cache.now c.args.sri c.args.env.now.store) (Err c.in-Err.error)
    (c.success_laws.ensures.opens_reader c.args.cache.now c.args.sri (Err c.in-Err.error) c.args.env.now.store c.open_hash-opened.new.env.store folder (c.standing_laws.ensures.stands _ _ c.requires) c.address-address.ensures.integrity (rw c.in-Err.is at c.open_hash-opened.ensures.opens) c.cache_laws.ensures.logged)

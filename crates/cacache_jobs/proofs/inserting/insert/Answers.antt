use Rattle.std.proofs.Common.{ap, sym, ◌∙◌}
use Rattle.cacache_entry.specs.Entry.{Entry}
use Rattle.cacache_jobs.proofs.inserting.insert.Goals as goal

pub returns : goal.returns
returns g c = λ j cache entry durable reply.
    let key = ap (λ (e : Entry). e.key) entry ∙ sym c.key_of-key.ensures in
    rw (c.in_ok-line.ensures.fits j entry)
    (c.make_bucket.ensures j (cache, key, durable, reply) (c.in_ok-line.ensures.line j entry durable))

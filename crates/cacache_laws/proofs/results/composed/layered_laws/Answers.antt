use Rattle.cacache_laws.proofs.results.LayeredResults.{layered_hash_reads, layered_lookups, layered_questions, layered_reads}
use Rattle.cacache_laws.proofs.results.composed.layered_laws.Goals as goal

pub returns : goal.returns
returns g c =
    let new = c.args.env.now in
    let logged = c.log-log.ensures.replayable in
    record { reads = layered_reads new logged; reads_hash = layered_hash_reads new logged; finds = layered_lookups new logged; asks = layered_questions new logged }

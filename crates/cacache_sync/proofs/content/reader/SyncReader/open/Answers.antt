use Rattle.cacache_sync.proofs.content.Rests.{refused_key}
use Rattle.cacache_sync.proofs.content.reader.SyncReader.open.Goals as goal

pub returns-in-Err-clause-opens : goal.returns-in-Err-clause-opens
returns-in-Err-clause-opens g c =
    let ran = rw (← c.in-Err.ensures, c.in_ok-named.ensures) at c.call.ensures.ran in
    refused_key g.F.FileHandle.seen c.args.cache.now c.args.env.now.base c.args.key.now c.in-Err.error _ _ ran

-- A read that failed says why.
use Rattle.uses_client.proofs.Shown.{no_is_right}
use Rattle.uses_client.proofs.auditing.is_whole.Goals as goal

pub returns-in-Ok : goal.returns-in-Ok
returns-in-Ok g c =
    let told = c.after_read_hash.ensures c.args.env.now c.requires c.read_hash_sync-read.ensures.ran in
    record { leaves = told.leaves; same = told.same; right = (_, rw c.in-Ok.is at told.whole); fails = tt }

pub returns-in-Err : goal.returns-in-Err
returns-in-Err g c =
    let told = c.after_read_hash.ensures c.args.env.now c.requires c.read_hash_sync-read.ensures.ran in
    let right = no_is_right c.args.cache.now c.args.sri.now _ c.args.env.now.store (rw c.in-Err.is at told.reads_on) c.no_unless_memory.result c.no_unless_memory.ensures.no in
    record { leaves = told.leaves; same = told.same; right = right; fails = c.no_unless_memory.ensures.memory }

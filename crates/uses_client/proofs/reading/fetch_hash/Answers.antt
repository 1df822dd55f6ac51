use Rattle.uses_client.proofs.reading.fetch_hash.Goals as goal

pub returns : goal.returns
returns g c = search (c.after_read_hash.ensures c.args.env.now c.requires c.read_hash_sync-read.ensures.ran)

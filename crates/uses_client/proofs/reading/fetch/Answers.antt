use Rattle.uses_client.proofs.reading.fetch.Goals as goal

pub returns : goal.returns
returns g c = search (c.after_read.ensures c.args.env.now c.requires c.read_sync-read.ensures.ran)

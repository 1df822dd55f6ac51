use Rattle.uses_client.proofs.storing.store.Goals as goal

pub returns : goal.returns
returns g c = search (c.after_write.ensures c.args.env.now c.requires c.write_sync-written.ensures.ran)

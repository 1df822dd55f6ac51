use Rattle.uses_client.proofs.reading.describe.Goals as goal

pub returns : goal.returns
returns g c = search (c.after_find.ensures c.args.env.now c.requires c.find-found.ensures.ran)

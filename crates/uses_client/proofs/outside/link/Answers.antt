use Rattle.uses_client.proofs.outside.link.Goals as goal

pub returns : goal.returns
returns g c = search (c.after_link.ensures c.args.env.now c.requires.apart c.requires.cache c.link_to_sync-linked.ensures.ran)

use Rattle.uses_client.proofs.storing.uninstall.Goals as goal

pub returns : goal.returns
returns g c = search (c.after_remove.ensures c.args.env.now c.requires c.delete-removed.ensures.ran)

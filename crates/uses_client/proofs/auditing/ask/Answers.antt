use Rattle.uses_client.proofs.auditing.ask.Goals as goal

pub returns : goal.returns
returns g c = c.after_list.ensures c.args.env.now c.requires c.call-reply.ensures.ran

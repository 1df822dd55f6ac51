use Rattle.uses_client.proofs.reading.fetch_left.Goals as goal

pub returns : goal.returns
returns g c =
    let left = c.after_read_left.ensures c.args.env.now c.requires c.read_sync-left.ensures.ran in
    record { standing = left.standing; same = left.same; gives = left.gives; memory = λ i bytes folder. let home = c.success_laws.ensures.homes c.args.cache.now folder in left.succeeds home.0 i bytes home.1 }

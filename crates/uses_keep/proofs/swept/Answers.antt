use Rattle.uses_keep.proofs.swept.Goals as goal

pub returns : goal.returns
returns g c = λ home is. c.keep_laws.ensures.sweeps c.args.cache.now home _ _ _ c.args.env.now.store c.sweep.new.env.store is c.keep_laws.ensures.logged c.in_ok-swept.ensures.sweeps

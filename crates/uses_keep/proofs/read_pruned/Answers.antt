-- The law of a pruning and that of a read on what it left, and the sizes of what is kept.
use Rattle.std.proofs.{Common.{◌≤◌, ℕ, Option, None, Some, sym, refl, subst, arith}, Math.Nat.{min-le_left}}
use Rattle.cacache_calls.specs.declared.command.Command.TheVariants as commands
use Rattle.cacache_calls.specs.declared.reply.Reply.TheVariants as replies
use Rattle.cacache_jobs.specs.JobStates.{site_of}
use Rattle.cacache_laws.specs.Caches.{Called}
use Rattle.cacache_keep.specs.Limits.{IsWithin, bytes_in}
use Rattle.uses_keep.proofs.read_pruned.Goals as goal

-- fewer bytes are within the limit too
fewer : (limit : Option ℕ) (less more : ℕ) → less ≤ more → IsWithin limit more → IsWithin limit less
fewer None less more below within = tt
fewer (Some most) less more below within = omega (arith, below, within)

pub returns-clause-fits : goal.returns-clause-fits
returns-clause-fits g c =
    let p = c.in_ok-pruned.ensures.prunes in
    subst (IsWithin c.args.limits.bytes) (sym p.5) (fewer c.args.limits.bytes _ (bytes_in p.2) (min-le_left (bytes_in p.2) _) p.3.planning.choice.most.within.bytes)

pub returns-clause-reads : goal.returns-clause-reads
returns-clause-reads g c = λ home bytes i is standing has ungone unleft.
    let old = c.args.env.now.store in
    let lean = c.prune.new.env.store in
    let new = c.read_sync.new.env.store in
    let p = c.in_ok-pruned.ensures.prunes in
    let led = c.prune_laws.ensures.keys c.args.limits _ _ (site_of c.args.cache.now c.args.env.now.base 0) home p.0 _ _ p.1 p.2 _ c.args.key.now bytes i old lean is c.keep_laws.ensures.logged standing p.3 ungone unleft has in
    let reading : Called c.args.cache.now (commands.Get c.args.key.now) (replies.Read c.in_ok-bytes.bytes.items) c.prune.new.env.store c.read_sync.new.env.store
    = record { base = c.prune.new.env.base; number = 0; ran = c.in_ok-bytes.ensures.ran.0.0; plain = refl; logged = c.keep_laws-2.ensures.logged } in
    (c.standing_laws.ensures.reads c.args.cache.now c.args.key.now bytes i (replies.Read c.in_ok-bytes.bytes.items) lean new led.standing led.has reading).0

use Rattle.std.proofs.Common.{false, inl, refl}
use Rattle.cacache_calls.specs.declared.command.Command.TheVariants as commands
use Rattle.cacache_calls.specs.declared.reply.Reply.TheVariants as replies
use Rattle.cacache_laws.specs.Caches.{Called}
use Rattle.cacache_jobs.specs.JobStates.{site_of}
use Rattle.uses_keep.proofs.read_compacted.Goals as goal

pub returns : goal.returns
returns g c = λ home is housed.
    let old = c.args.env.now.store in
    let mid = c.compact.new.env.store in
    let new = c.read_sync.new.env.store in
    let stay = (c.keep_laws.ensures.unseen (site_of c.args.cache.now c.args.env.now.base 0) home old mid is c.keep_laws.ensures.logged (inl (false, _, _, c.in_ok-compact.ensures.compacts))).1 housed in
    let reply = replies.Read c.in_ok-bytes.bytes.items in
    let called : Called c.args.cache.now (commands.Get c.args.key.now) (replies.Read c.in_ok-bytes.bytes.items) c.compact.new.env.store c.read_sync.new.env.store
    = record { base = c.compact.new.env.base; number = 0; ran = c.in_ok-bytes.ensures.ran.0.0; plain = refl; logged = c.keep_laws-2.ensures.logged } in
    stay.gets c.args.key.now reply (c.answer_laws.ensures.calls c.args.cache.now (commands.Get c.args.key.now) reply mid new tt called)

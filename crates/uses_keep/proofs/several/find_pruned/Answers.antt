-- The law of a pruning, and that of a lookup on what it left.
use Rattle.std.{proofs.Common.{◌≡◌, Option, None, Some, refl, ◌∙◌}, specs.Prelude.{option_map}}
use Rattle.cacache_entry.specs.{View.{found_view}, declared.metadata.Metadata.{Metadata}}
use Rattle.cacache_calls.specs.declared.command.Command.TheVariants as commands
use Rattle.cacache_calls.specs.declared.reply.Reply.TheVariants as replies
use Rattle.cacache_jobs.specs.JobStates.{site_of}
use Rattle.cacache_laws.specs.Caches.{Called}
use Rattle.uses_keep.proofs.several.find_pruned.Goals as goal

none_of : (o : Option Metadata) → option_map found_view o ≡ None → o ≡ None
none_of None h = refl
none_of (Some m) h = absurd cc

pub returns : goal.returns
returns g c = λ home is standing among unleft.
    let cache = c.args.cache.now in
    let key = c.args.key.now in
    let lean = c.prune.new.env.store in
    let p = c.in_ok-pruned.ensures.prunes in
    let d = c.prune_laws.ensures.drops c.args.limits _ _ (site_of c.args.cache.now c.args.env.now.base 0) home p.0 _ _ p.1 p.2 _ key c.args.env.now.store lean is c.keep_laws.ensures.logged standing p.3 among unleft in
    let finding : Called c.args.cache.now (commands.Find c.args.key.now) (replies.LookedUp (option_map found_view c.in_ok-found.found)) c.prune.new.env.store c.find.new.env.store
    = record { base = c.prune.new.env.base; number = 0; ran = c.in_ok-found.ensures.ran.0.0; plain = refl; logged = c.keep_laws-2.ensures.logged } in
    none_of c.in_ok-found.found (c.standing_laws.ensures.finds cache key (replies.LookedUp (option_map found_view c.in_ok-found.found)) lean c.find.new.env.store d.0 finding ∙ d.1)

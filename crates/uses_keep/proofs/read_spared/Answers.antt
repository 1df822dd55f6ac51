-- The law of a key after a collection and a tombstone of another one, and that of the read.
use Rattle.std.proofs.Common.{[], ◌∷◌, refl, inl, inr, ◌∙◌}
use Rattle.cacache_calls.specs.declared.command.Command.TheVariants as commands
use Rattle.cacache_calls.specs.declared.reply.Reply.TheVariants as replies
use Rattle.cacache_sync.specs.Lookups.{delete_of}
use Rattle.cacache_jobs.specs.JobStates.{site_of}
use Rattle.cacache_laws.specs.{Caches.{Called}, trees.Later.{SparingCall, calls}}
use Rattle.cacache_keep.specs.declared.checking.OddLines.TheVariants.{Refuse}
use Rattle.uses_keep.proofs.Texts.{none}
use Rattle.uses_keep.proofs.read_spared.Goals as goal

pub returns : goal.returns
returns g c = λ home bytes i is standing has differ.
    let cache = c.args.cache.now in
    let gone = c.args.gone.now in
    let key = c.args.key.now in
    let old = c.args.env.now.store in
    let lean = c.collect.new.env.store in
    let late = c.remove_sync.new.env.store in
    let new = c.read_sync.new.env.store in
    let ran = c.in_ok-remove_sync.ensures.tombstone c.new-tombstone.ensures in
    let removing : Called c.args.cache.now (commands.Delete (delete_of c.args.gone.now ran.0)) replies.Done c.collect.new.env.store c.remove_sync.new.env.store
    = record { base = c.collect.new.env.base; number = 0; ran = ran.2.0; plain = refl; logged = c.keep_laws-2.ensures.logged } in
    let spares : SparingCall c.args.cache.now c.args.key.now i (commands.Delete (delete_of c.args.gone.now ran.0)) c.collect.new.env.store c.remove_sync.new.env.store
    = record {
      reply = replies.Done;
      called = removing;
      may = c.spared_laws.ensures.fit c.args.cache.now (delete_of c.args.gone.now ran.0) c.utf8.gone ran.1.1;
      key_spared = differ;
      content_spared = tt;
    } in
    let stays = c.later_laws.ensures.stays (site_of c.args.cache.now c.args.env.now.base 0) home key i bytes (calls (commands.Delete (delete_of c.args.gone.now ran.0)) ∷ []) old lean late is c.keep_laws.ensures.logged standing has
    (_, _, (Refuse, c.in_ok-collect.ensures.collects)) (late, c.keep_laws-2.ensures.logged, spares, refl) in
    let reading : Called c.args.cache.now (commands.Get c.args.key.now) (replies.Read c.in_ok-bytes.bytes.items) c.remove_sync.new.env.store c.read_sync.new.env.store
    = record { base = c.remove_sync.new.env.base; number = 0; ran = c.in_ok-bytes.ensures.ran.0.0; plain = refl; logged = c.keep_laws-3.ensures.logged } in
    let read = stays.reads (replies.Read c.in_ok-bytes.bytes.items) new reading in
    elim stays.which [
      | inl same ↦ read.0 ∙ same
      | inr among ↦ absurd (none stays.held among)
    ]

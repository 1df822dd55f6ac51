-- The law of a key after a collection, an export and a write, and that of the read.
use Rattle.std.proofs.Common.{inl, inr, ◌<◌, ◌^◌, true, [], ◌∷◌, length, refl, sym, subst, ◌∙◌, arith}
use Rattle.cacache_core.specs.{Integrity.{Meets}, declared.integrity.algorithm.Algorithm.TheVariants.{Sha256}}
use Rattle.cacache_calls.specs.declared.command.Command.TheVariants as commands
use Rattle.cacache_calls.specs.declared.command.{How.TheVariants.{Copy}, Source.TheVariants.{Key}}
use Rattle.cacache_calls.specs.declared.reply.Reply.TheVariants as replies
use Rattle.cacache_jobs.specs.JobStates.{site_of}
use Rattle.cacache_laws.specs.{Caches.{Called, plain_put}, ExportEffects.{export_by}}
use Rattle.cacache_keep.specs.{declared.checking.OddLines.TheVariants.{Refuse}, Behind.{collects, exports, puts}}
use Rattle.uses_keep.proofs.Texts.{only}
use Rattle.uses_keep.proofs.read_beside.Goals as goal

pub returns : goal.returns
returns g c = λ home bytes i is sound has apart differ.
    let cache = c.args.cache.now in
    let key = c.args.key.now in
    let added = c.args.data.now in
    let old = c.args.env.now.store in
    let lean = c.collect.new.env.store in
    let copied = c.copy_sync.new.env.store in
    let late = c.write_sync.new.env.store in
    let new = c.read_sync.new.env.store in
    let laws = c.cache_laws.ensures in
    let ran = c.in_ok-write_sync.ensures.ran in
    let put = plain_put Sha256 c.args.other.now c.args.data.now ran.0 in
    let small : length c.args.data.now < 2 ^ 64 = omega arith in
    let fits = laws.plain_writes Sha256 cache c.args.other.now added ran.0 c.utf8.other small ran.2.1 in
    let copying : Called c.args.cache.now (export_by Copy (Key c.args.key.now) true c.args.to.now) (replies.Copied c.in_ok-copy_sync.field-0) c.collect.new.env.store c.copy_sync.new.env.store
    = record { base = c.collect.new.env.base; number = 0; ran = c.in_ok-copy_sync.ensures.ran.0.0; plain = refl; logged = c.keep_laws-2.ensures.logged } in
    let writing : Called c.args.cache.now (commands.Put (plain_put Sha256 c.args.other.now c.args.data.now ran.0)) (replies.Stored c.in_ok-write_sync.field-0) c.copy_sync.new.env.store c.write_sync.new.env.store
    = record { base = c.copy_sync.new.env.base; number = ran.1; ran = ran.4.0; plain = refl; logged = c.keep_laws-3.ensures.logged } in
    let events = collects ∷ exports (Key key) (record { how = Copy; checked = true; to = c.args.to.now }) ∷ puts put ∷ [] in
    let stays = c.keep_laws.ensures.later_keys (site_of c.args.cache.now c.args.env.now.base 0) home key events old late is sound (
      lean,
      c.keep_laws.ensures.logged,
      (_, _, (Refuse, c.in_ok-collect.ensures.collects)),
      (copied, c.keep_laws-2.ensures.logged, (apart, tt, _, copying), (late, c.keep_laws-3.ensures.logged, (differ, fits, _, writing), refl)),
    ) in
    let led = stays.leads bytes i has in
    let reading : Called c.args.cache.now (commands.Get c.args.key.now) (replies.Read c.in_ok-bytes.bytes.items) c.write_sync.new.env.store c.read_sync.new.env.store
    = record { base = c.write_sync.new.env.base; number = 0; ran = c.in_ok-bytes.ensures.ran.0.0; plain = refl; logged = laws.logged } in
    let read = (laws.reads cache key led.held i (replies.Read c.in_ok-bytes.bytes.items) late new stays.sound led.has reading).1 in (
      subst (Meets i) (sym read.0) led.has.content.meets,
      elim led.which [
        | inl same ↦ inl (read.0 ∙ same)
        | inr one ↦ inr (read.0 ∙ only added led.held one)
      ],
    )

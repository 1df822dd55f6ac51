-- The laws of a sweep, a repair, a compaction and a read, one after another, with the base folder that all had.
use Rattle.std.proofs.Common.{◌≡◌, Some, [], ◌∷◌, ap, false, inl, map, refl, subst, sym, ◌∙◌}
use Rattle.cacache_core.specs.declared.integrity.digest.Hash.{Hash}
use Rattle.cacache_disk.specs.Replay.{tree_of}
use Rattle.cacache_entry.specs.View.{found_view}
use Rattle.cacache_calls.specs.declared.command.Command.TheVariants as commands
use Rattle.cacache_calls.specs.declared.reply.Reply.TheVariants as replies
use Rattle.cacache_laws.specs.{Caches.{Called}, trees.{Contents.{content_in}, Verifying.{found_in}}}
use Rattle.cacache_jobs.specs.JobStates.{site_of}
use Rattle.cacache_keep.specs.{declared.checking.OddLines.TheVariants.{Refuse}, Repairing.{RepairsCache}}
use Rattle.uses_keep.proofs.read_tended.Goals as goal

pub returns : goal.returns
returns g c = λ home found is housed led.
    let cache = c.args.cache.now in
    let site = site_of c.args.cache.now c.args.env.now.base 0 in
    let key = c.args.key.now in
    let old = c.args.env.now.store in
    let swept = c.sweep.new.env.store in
    let mended = c.repair.new.env.store in
    let lean = c.compact.new.env.store in
    let new = c.read_sync.new.env.store in
    let one = c.keep_laws.ensures in
    let two = c.keep_laws-2.ensures in
    let three = c.keep_laws-3.ensures in
    let four = c.keep_laws-4.ensures in
    let sweeps = c.in_ok-sweep.ensures.sweeps in
    let placed = one.sweeps_house cache home _ _ _ old swept is one.logged housed sweeps in
    let first = one.sweeps_good cache home _ _ _ old swept key found is one.logged housed sweeps led in
    let repair = c.in_ok-repair.field-0 in
    let repairs = subst (λ base. RepairsCache (site_of c.args.cache.now base 0) repair.damaged.items (map found_view repair.dangling.items) (Some swept) (Some mended)) c.sweep.ensures.base (Refuse, c.in_ok-repair.ensures.repairs) in
    let still = two.houses site home _ _ swept mended is two.logged placed repairs in
    let second = two.good site home _ _ swept mended key found is two.logged placed repairs first.0 in
    let unseen = three.unseen site home mended lean is three.logged (inl (false, _, _, c.in_ok-compact.ensures.compacts)) in
    let reply = replies.Read c.in_ok-bytes.bytes.items in
    let called : Called c.args.cache.now (commands.Get c.args.key.now) (replies.Read c.in_ok-bytes.bytes.items) c.compact.new.env.store c.read_sync.new.env.store
    = record { base = c.compact.new.env.base; number = 0; ran = c.in_ok-bytes.ensures.ran.0.0; plain = refl; logged = four.logged } in
    let stays = four.looks ((cache, commands.Get key, reply) ∷ []) lean new (new, tt, called, refl) in
    let reads = (unseen.1 still).gets key reply (c.answer_laws.ensures.calls cache (commands.Get key) reply lean new tt called) in
    let hash : first.0.hash ≡ led.hash = (let both : Some first.0.hash ≡ Some led.hash = sym first.0.address ∙ led.address in cc) in
    let before : content_in home (tree_of mended) led.hash ≡ content_in home (tree_of swept) led.hash = subst (λ (h : Hash). content_in home (tree_of mended) h ≡ content_in home (tree_of swept) h) hash second.1 in (
      mended,
      second.0,
      reads,
      before ∙ first.1,
      ap (λ t. found_in home t key) stays ∙ unseen.0.keys key ∙ second.0.leads,
      ap (λ t. content_in home t led.hash) stays ∙ unseen.0.contents led.hash ∙ before ∙ first.1,
    )

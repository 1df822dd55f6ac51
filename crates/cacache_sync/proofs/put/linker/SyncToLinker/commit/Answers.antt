use Rattle.std.proofs.Common.{◌≡◌, ◌∙◌, ℕ, sym, ap, arith, length}
use Rattle.cacache_sync.proofs.Linkers.{stores_whole_of}
use Rattle.cacache_calls.specs.declared.target.Target.{Target}
use Rattle.cacache_sync.proofs.put.linker.SyncToLinker.commit.Goals as goal

pub returns-clause-whole : goal.returns-clause-whole
returns-clause-whole g c =
    λ bytes had.
    let count : c.args.self.count ≡ length bytes = omega (arith, had.2, c.if-count.false) in
    let under = had.1 ∙ sym (ap (λ (t : Target ℕ). t.options.algorithm) c.at.ensures) in
    stores_whole_of g.F.FileHandle.seen c.args.self bytes c.moment-moment.result _ c.link_rest.result _ _ c.at.ensures (c.link_rest.ensures.ran bytes had.0 under count)

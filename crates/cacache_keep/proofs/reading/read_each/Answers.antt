use Rattle.std.proofs.Common.{◌≡◌, ◌-◌, ℕ, arith, subst}
use Rattle.cacache_keep.specs.Reading.{WeighsEach}
use Rattle.cacache_keep.proofs.reading.read_each.Goals as goal

pub returns-clause-reads : goal.returns-clause-reads
returns-clause-reads g c =
    let o = c.in_ok-good_bytes.field-0 in
    let w = c.in_ok-good_bytes.ensures.reads in
    let same : w.0 ≡ c.len-count.result - c.len.result = omega (arith, w.1.0.counts, c.len-count.ensures, c.len.ensures) in
    subst (λ (n : ℕ). WeighsEach c.args.cache.now c.args.addresses.items n o.good_bytes o.damaged.items o.damaged_bytes (g.S.Store.log c.args.store.now) (g.S.Store.log c.others_of.new.store)) same w.1

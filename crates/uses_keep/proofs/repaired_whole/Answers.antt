-- The law of a verification after a repair, with the base folder that both had.
use Rattle.std.proofs.Common.{Some, refl, subst, string_bytes, map}
use Rattle.cacache_entry.specs.View.{found_view}
use Rattle.cacache_jobs.specs.JobStates.{site_of}
use Rattle.cacache_keep.specs.{declared.checking.OddLines.TheVariants.{Refuse}, Keeping.{VerifiesCache}}
use Rattle.uses_keep.proofs.repaired_whole.Goals as goal

pub returns : goal.returns
returns g c = λ home is housed.
    let cache = c.args.cache.now in
    let old = c.args.env.now.store in
    let mid = c.repair.new.env.store in
    let new = c.verify.new.env.store in
    let v = c.in_ok-after.after in
    let verified = subst (λ base. VerifiesCache (site_of c.args.cache.now base 0) v.good v.damaged.items (map found_view v.dangling.items) (map string_bytes v.strange.items) (Some mid) (Some new)) c.repair.ensures.base c.in_ok-after.ensures.verifies.0 in
    c.keep_laws-2.ensures.verified (site_of cache c.args.env.now.base 0) home _ _ _ _ _ _ old mid mid new is c.keep_laws.ensures.logged c.keep_laws-2.ensures.logged housed refl (Refuse, c.in_ok-repair.ensures.repairs) verified

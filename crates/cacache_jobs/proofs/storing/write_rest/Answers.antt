use Rattle.std.proofs.Common.{◌≡◌, ◌==◌, true, false, length, rules}
use Rattle.cacache_jobs.proofs.WrittenCommits.{nothing_left, some_left}
use Rattle.cacache_jobs.proofs.storing.write_rest.Goals as goal

pub returns-then-is_empty : goal.returns-then-is_empty
returns-then-is_empty g c =
    let e : (length c.args.rest == 0) ≡ true = cc in
    rw (nothing_left _ _ _ e) (search rules)

pub returns : goal.returns
returns g c =
    let e : (length c.args.rest == 0) ≡ false = cc in
    rw (some_left _ _ _ e) (search rules)

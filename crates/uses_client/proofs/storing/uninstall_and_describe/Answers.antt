-- The lookup finds what the removal left.
use Rattle.std.proofs.lemmas.Result.{MatchResult-weaker}
use Rattle.uses_client.proofs.Shown.{nothing}
use Rattle.uses_client.proofs.storing.uninstall_and_describe.Goals as goal

pub returns : goal.returns
returns g c =
    let gone = c.in_ok-uninstall.ensures in
    let found = c.describe.ensures in
    let fails = MatchResult-weaker c.describe.result found.fails (λ m h. h) (λ e h. c.joining_laws.ensures.later e _ _ _ gone.grows h) in
    let missing = MatchResult-weaker c.describe.result found.finds (λ m is. nothing m _ is gone.gone) (λ e h. h) in
    record { sound = found.leaves.0; gone = missing; others = c.joining_laws.ensures.others _ _ _ _ _ gone.others found.leaves; fails = fails; memory = found.memory }

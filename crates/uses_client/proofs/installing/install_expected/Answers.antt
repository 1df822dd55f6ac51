-- What is expected of a package.
use Rattle.std.proofs.{Common.{length, refl}, lemmas.Result.{MatchResult-weaker}}
use Rattle.uses_client.{specs.Packages.{said_of}, proofs.Shown.{as_said, lists_own}}
use Rattle.uses_client.proofs.installing.install_expected.Goals as goal

pub returns : goal.returns
returns g c =
    let o = c.expecting-opts.ensures in
    let size = length c.args.data.now in
    let s = (rw (as_said c.args.expected size c.expecting-opts.result o.formed o.said) at c.store_with.ensures) (c.writer_laws.ensures.plain (said_of c.args.expected size) refl refl o.formed) in
    let meets = MatchResult-weaker c.store_with.result s.expected (λ i e. lists_own c.args.expected size c.args.data.now o.formed e.integrity) (λ e h. h) in
    record { sound = s.sound; stored = s.stored; meets = meets; leads = s.leads; keeps = s.keeps; fails = s.fails }

use Rattle.std.{proofs.Common.{◌∙◌, ap, sym, arith}, specs.Prelude.{Some, option_copied}}
use Rattle.cacache_disk.{specs.{Tree.{look}, LedTo.{standing}}, proofs.Standing.{followed_next, followed_ok}}
use Rattle.cacache_disk.proofs.disk.Disk.+followed.Goals as goal

pub returns-in_err-next-in-Some-Link-clause-err : goal.returns-in_err-next-in-Some-Link-clause-err
unfolding standing
returns-in_err-next-in-Some-Link-clause-err t c =
    let link = sym (ap option_copied c.in-Some-Link.is ∙ ap Some c.in-Some-Link.field-0-is) ∙ c.node.ensures ∙ ap (λ t. look t c.args.names) c.nodes.ensures.same in
    rw (followed_next c.args.most c.args.self.now c.args.names c.in-Some-Link.target link (omega arith)) (grind arith)

pub returns-in_ok-next-in-Some-Link-clause-ok : goal.returns-in_ok-next-in-Some-Link-clause-ok
unfolding standing
returns-in_ok-next-in-Some-Link-clause-ok t c =
    let link = sym (ap option_copied c.in-Some-Link.is ∙ ap Some c.in-Some-Link.field-0-is) ∙ c.node.ensures ∙ ap (λ t. look t c.args.names) c.nodes.ensures.same in
    let found = ap (standing c.args.self.now) (sym c.as_str.ensures.same) ∙ c.in_ok-next-in-Some-Link.ensures.ok in
    rw (followed_ok c.args.most c.args.self.now c.args.names c.in-Some-Link.target c.in_ok-next-in-Some-Link.next link (omega arith) (sym found)) c.followed.ensures.ok

pub returns-in_ok-next-in-Some-Link-clause-err : goal.returns-in_ok-next-in-Some-Link-clause-err
unfolding standing
returns-in_ok-next-in-Some-Link-clause-err t c =
    let link = sym (ap option_copied c.in-Some-Link.is ∙ ap Some c.in-Some-Link.field-0-is) ∙ c.node.ensures ∙ ap (λ t. look t c.args.names) c.nodes.ensures.same in
    let found = ap (standing c.args.self.now) (sym c.as_str.ensures.same) ∙ c.in_ok-next-in-Some-Link.ensures.ok in
    rw (followed_ok c.args.most c.args.self.now c.args.names c.in-Some-Link.target c.in_ok-next-in-Some-Link.next link (omega arith) (sym found)) c.followed.ensures.err

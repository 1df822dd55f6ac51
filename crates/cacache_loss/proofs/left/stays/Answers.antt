use Rattle.std.{proofs.Common.{◌∙◌, arith, ap, sym, take}, specs.{Bool.{nat_eq}, Cmp.Lexicographic.{pointwise}}}
use Rattle.cacache_loss.{specs.Loss.{stays}, proofs.LeftNodes.{begins_front, begins_short}}
use Rattle.cacache_loss.proofs.left.stays.Goals as goal

pub returns-then-len : goal.returns-then-len
returns-then-len c =
    begins_short c.args.path.now c.in-Some.home (omega (arith, c.if-len.true, c.len.ensures, c.len-2.ensures))
    ∙ ap (λ h. stays h c.args.path.now) (sym c.in-Some.is)

pub returns : goal.returns
returns c =
    c.eq.ensures ∙ ap (pointwise (pointwise nat_eq) c.args.path.now) (c.in_ok-front.ensures ∙ ap (λ n. take n c.in-Some.home) c.len-3.ensures)
    ∙ begins_front c.args.path.now c.in-Some.home ∙ ap (λ h. stays h c.args.path.now) (sym c.in-Some.is)

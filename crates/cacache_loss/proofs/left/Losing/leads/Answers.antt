use Rattle.std.{proofs.Common.{◌∙◌, ◌+◌, arith, ap, sym, take, drop}, specs.Prelude.{◌&&◌}}
use Rattle.cacache_loss.{specs.{Loss.{lead_folders}, Running.{left_of}}, proofs.LeftNodes.{leads_next}}
use Rattle.cacache_loss.proofs.left.Losing.leads.Goals as goal

pub returns-then-not-branch : goal.returns-then-not-branch
returns-then-not-branch c =
    let further = lead_folders (left_of c.args.self.now) (take (c.loop-i.i + 1) c.args.path.now) (drop (c.loop-i.i + 1) c.args.path.now) in
    sym (sym c.loop-i.invariant
    ∙ leads_next (left_of c.args.self.now) c.args.path.now c.loop-i.i c.in_ok-above.above (omega (arith, c.loop-i-test.true, c.len-i-end.ensures)) c.in_ok-above.ensures
    ∙ ap (λ b. b && further) (sym c.in_ok-is_folder_at.ensures ∙ c.if-not-branch.true))

pub loop-i-preserved : goal.loop-i-preserved
loop-i-preserved c =
    let further = lead_folders (left_of c.args.self.now) (take (c.loop-i.i + 1) c.args.path.now) (drop (c.loop-i.i + 1) c.args.path.now) in
    sym (leads_next (left_of c.args.self.now) c.args.path.now c.loop-i.i c.in_ok-above.above (omega (arith, c.loop-i-test.true, c.len-i-end.ensures)) c.in_ok-above.ensures
    ∙ ap (λ b. b && further) (sym c.in_ok-is_folder_at.ensures ∙ c.if-not-branch.false))
    ∙ c.loop-i.invariant

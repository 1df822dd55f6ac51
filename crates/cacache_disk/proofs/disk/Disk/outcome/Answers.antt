use Rattle.std.proofs.Common.{subst}
use Rattle.cacache_disk.{specs.Plans.{IsPlan, changed}, proofs.Outcomes.{lucky, lucky_fits, unlucky, told_answer}}
use Rattle.cacache_disk.proofs.disk.Disk.outcome.Goals as goal

pub returns-in-Ok-clause-ok : goal.returns-in-Ok-clause-ok
returns-in-Ok-clause-ok c =
    let is = subst (λ most. IsPlan c.args.self.now c.args.step.now most c.in-Ok.plan) c.most_of.ensures c.in-Ok.ensures.ok in
    rw c.with_luck.ensures (lucky c.args.self.now c.args.step.now c.args.luck c.in-Ok.plan is)

pub returns-in-Ok-clause-fits : goal.returns-in-Ok-clause-fits
returns-in-Ok-clause-fits c =
    let is = subst (λ most. IsPlan c.args.self.now c.args.step.now most c.in-Ok.plan) c.most_of.ensures c.in-Ok.ensures.ok in
    rw c.with_luck.ensures (lucky_fits c.args.self.now c.args.step.now c.args.luck c.in-Ok.plan is)

pub returns-in-Ok-clause-told : goal.returns-in-Ok-clause-told
returns-in-Ok-clause-told c =
    told_answer c.args.self.now (changed c.args.self.now c.with_luck.result.change) c.args.step.now c.args.luck c.with_luck.result.answer (returns-in-Ok-clause-ok c)

pub returns-in-Err-Fault-clause-ok : goal.returns-in-Err-Fault-clause-ok
returns-in-Err-Fault-clause-ok c =
    let refused = rw c.in-Err-Fault.field-0-is at c.in-Err-Fault.ensures.err in
    rw c.in-Err-Fault.field-0-is (unlucky c.args.self.now c.args.step.now c.args.luck c.in-Err-Fault.fault (rw c.most_of.ensures at refused))

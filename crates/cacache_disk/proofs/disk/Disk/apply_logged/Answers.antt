use Rattle.std.proofs.Common.{◌≡◌, sym, subst}
use Rattle.cacache_disk.{specs.{Tree.{Tree}, Apply.{apply}, Plans.{changed}}, proofs.KeptFolders.{made_or_not, outcome_rooted, on_ok}}
use Rattle.cacache_disk.proofs.disk.Disk.apply_logged.Goals as goal

pub invariant_of-self : goal.invariant_of-self
invariant_of-self c =
    let done : apply c.args.self.now c.args.step.now c.args.luck ≡ (c.in_ok-plan.plan.answer, changed c.args.self.now c.in_ok-plan.plan.change) = c.in_ok-plan.ensures.ok in
    let here = subst (λ (t : Tree). apply t c.args.step.now c.args.luck ≡ (c.in_ok-plan.plan.answer, changed t c.in_ok-plan.plan.change)) (sym c.self.view_is) done in
    made_or_not c.self.inside.nodes c.commit.new.self (changed c.self.inside.nodes c.in_ok-plan.plan.change) c.commit.result c.self.invariant
    (outcome_rooted c.self.inside.nodes (changed c.self.inside.nodes c.in_ok-plan.plan.change) c.args.step.now c.args.luck c.in_ok-plan.plan.answer c.self.invariant here)
    c.commit.ensures.ok c.commit.ensures.err

pub returns-clause-rooted : goal.returns-clause-rooted
returns-clause-rooted c =
    let done : apply c.args.self.now c.args.step.now c.args.luck ≡ (c.in_ok-plan.plan.answer, changed c.args.self.now c.in_ok-plan.plan.change) = c.in_ok-plan.ensures.ok in
    let here = subst (λ (t : Tree). apply t c.args.step.now c.args.luck ≡ (c.in_ok-plan.plan.answer, changed t c.in_ok-plan.plan.change)) (sym c.self.view_is) done in
    on_ok c.when_done.result
    (made_or_not c.self.inside.nodes c.commit.new.self (changed c.self.inside.nodes c.in_ok-plan.plan.change) c.commit.result c.self.invariant
    (outcome_rooted c.self.inside.nodes (changed c.self.inside.nodes c.in_ok-plan.plan.change) c.args.step.now c.args.luck c.in_ok-plan.plan.answer c.self.invariant here)
    c.commit.ensures.ok c.commit.ensures.err)

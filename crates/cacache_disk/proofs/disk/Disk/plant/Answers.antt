use Rattle.std.{proofs.Common.{◌≡◌, sym, subst}, specs.Prelude.{Ok}}
use Rattle.cacache_disk.{specs.{Tree.{Tree}, Apply.{planted}, Plans.{changed}}, proofs.{KeptFolders.{made_or_not, if_on_ok}, PlantedNodes.{planted_rooted}}}
use Rattle.cacache_disk.proofs.disk.Disk.plant.Goals as goal

pub invariant_of-self : goal.invariant_of-self
invariant_of-self c =
    let here = subst (λ (t : Tree). planted t c.args.path.now c.args.bytes.now ≡ Ok (changed t c.in-Ok.change)) (sym c.self.view_is) c.in-Ok.ensures.ok in
    made_or_not c.self.inside.nodes c.commit.new.self (changed c.self.inside.nodes c.in-Ok.change) c.commit.result c.self.invariant
    (planted_rooted c.self.inside.nodes c.args.bytes.now c.self.invariant c.args.path.now (changed c.self.inside.nodes c.in-Ok.change) here)
    c.commit.ensures.ok c.commit.ensures.err

pub returns-in-Ok-clause-rooted : goal.returns-in-Ok-clause-rooted
returns-in-Ok-clause-rooted c =
    let here = subst (λ (t : Tree). planted t c.args.path.now c.args.bytes.now ≡ Ok (changed t c.in-Ok.change)) (sym c.self.view_is) c.in-Ok.ensures.ok in
    if_on_ok c.when_done.result
    (made_or_not c.self.inside.nodes c.commit.new.self (changed c.self.inside.nodes c.in-Ok.change) c.commit.result c.self.invariant
    (planted_rooted c.self.inside.nodes c.args.bytes.now c.self.invariant c.args.path.now (changed c.self.inside.nodes c.in-Ok.change) here)
    c.commit.ensures.ok c.commit.ensures.err)

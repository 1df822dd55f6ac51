use Rattle.std.{proofs.Common.{◌∙◌, sym, ap}, specs.Prelude.{Some}}
use Rattle.cacache_disk.{specs.Replay.{tree_of}, proofs.Logs.{shown-shared}}
use Rattle.cacache_disk.proofs.memory.store.MemStore.bytes.Goals as goal

pub returns-in_ok-from_slice-in-Some-clause-ok : goal.returns-in_ok-from_slice-in-Some-clause-ok
returns-in_ok-from_slice-in-Some-clause-ok c =
    let whole = rw c.in-Some.is at c.in_ok-bytes.ensures in
    let copied = c.in_ok-from_slice-in-Some.ensures.items ∙ c.as_slice.ensures.value in
    shown-shared (tree_of c.args.self.now) c.self.inside.disk c.args.path.now _
    (ap tree_of (sym c.self.view_is) ∙ c.self.invariant.tree) (ap Some (cc) ∙ whole)

pub returns-in-None-clause-ok : goal.returns-in-None-clause-ok
returns-in-None-clause-ok c =
    shown-shared (tree_of c.args.self.now) c.self.inside.disk c.args.path.now _
    (ap tree_of (sym c.self.view_is) ∙ c.self.invariant.tree) (rw c.in-None.is at c.in_ok-bytes.ensures)

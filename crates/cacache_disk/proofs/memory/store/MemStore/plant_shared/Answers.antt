use Rattle.std.{proofs.Common.{◌∙◌, ◌∷◌, ◌++◌, [], sym, ap}, specs.Result.{result_err}}
use Rattle.cacache_store.specs.declared.store.log.LogItem.TheVariants.{Foreign}
use Rattle.cacache_disk.{specs.{Apply.{planted}, Replay.{changed}}, proofs.Logs.{IsLog-push, tree_of-push}}
use Rattle.cacache_disk.proofs.memory.store.MemStore.plant_shared.Goals as goal

pub invariant_of-self-in-Ok : goal.invariant_of-self-in-Ok
invariant_of-self-in-Ok c =
    let grown = c.note.ensures ∙ ap (λ items. items ++ Foreign c.args.path c.args.bytes ∷ []) c.make_room.ensures.items in
    let done = ap (λ p. planted c.self.inside.disk p c.args.bytes) (sym c.as_str.ensures.same) ∙ (rw c.in-Ok.is at c.in_ok-fault.ensures.done) in
    record {
      logged = IsLog-push c.self.inside.log.items c.note.new.log.items (Foreign c.args.path c.args.bytes) c.self.inside.disk
          grown c.self.invariant.logged c.self.invariant.tree (ap result_err done);
      tree = tree_of-push c.self.inside.log.items c.note.new.log.items (Foreign c.args.path c.args.bytes) c.self.inside.disk
          grown c.self.invariant.tree ∙ ap (changed c.self.inside.disk) done;
    }

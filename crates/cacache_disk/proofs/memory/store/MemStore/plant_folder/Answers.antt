use Rattle.std.proofs.Common.{◌∙◌, ◌∷◌, ◌++◌, [], sym, ap}
use Rattle.cacache_store.specs.declared.store.log.LogItem.TheVariants.{ForeignFolder}
use Rattle.cacache_disk.proofs.Logs.{IsLog-push, tree_of-push}
use Rattle.cacache_disk.proofs.memory.store.MemStore.plant_folder.Goals as goal

pub invariant_of-self-in-None : goal.invariant_of-self-in-None
invariant_of-self-in-None c =
    let grown = c.note.ensures ∙ ap (λ items. items ++ ForeignFolder c.in_ok-path.path ∷ []) c.make_room.ensures.items
    ∙ ap (λ p. c.self.inside.log.items ++ ForeignFolder p ∷ []) (sym c.in_ok-clone.ensures.cases) in
    let made = rw c.in-None.is at c.in_ok-fault.ensures.made in
    record {
      logged = IsLog-push c.self.inside.log.items c.note.new.log.items (ForeignFolder c.in_ok-clone.field-0) c.self.inside.disk
          grown c.self.invariant.logged c.self.invariant.tree (ap (λ r. r.0) made);
      tree = tree_of-push c.self.inside.log.items c.note.new.log.items (ForeignFolder c.in_ok-clone.field-0) c.self.inside.disk
          grown c.self.invariant.tree ∙ ap (λ r. r.1) made;
    }

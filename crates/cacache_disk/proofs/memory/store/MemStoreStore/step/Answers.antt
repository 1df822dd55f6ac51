use Rattle.std.proofs.Common.{◌∙◌, ◌∷◌, ◌++◌, [], sym, ap}
use Rattle.cacache_store.specs.declared.store.log.LogItem.TheVariants.{Made}
use Rattle.cacache_disk.proofs.Logs.{IsLog-push, tree_of-push, Logs-made}
use Rattle.cacache_disk.proofs.memory.store.MemStoreStore.step.Goals as goal

pub invariant_of-self-2 : goal.invariant_of-self-2
invariant_of-self-2 c =
    let grown = c.note.ensures ∙ ap (λ items. items ++ Made c.args.step c.in-Ok.copy ∷ []) c.make_room.ensures.items in
    record {
      logged = IsLog-push c.self.inside.log.items c.note.new.log.items (Made c.args.step c.in-Ok.copy) c.self.inside.disk
          grown c.self.invariant.logged c.self.invariant.tree (c.in-Ok.ensures.copy ∙ sym (ap (λ r. r.0) c.in-Ok.ensures.ok));
      tree = tree_of-push c.self.inside.log.items c.note.new.log.items (Made c.args.step c.in-Ok.copy) c.self.inside.disk
          grown c.self.invariant.tree ∙ ap (λ r. r.1) c.in-Ok.ensures.ok;
    }

pub returns-clause-logged : goal.returns-clause-logged
returns-clause-logged c =
    Logs-made c.args.self.now c.note.new.log.items c.args.step c.in-Ok.answer c.in-Ok.copy c.in-Ok.ensures.told c.in-Ok.ensures.copy
    (c.note.ensures ∙ ap (λ items. items ++ Made c.args.step c.in-Ok.copy ∷ []) (c.make_room.ensures.items ∙ c.self.view_is))

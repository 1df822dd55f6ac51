use Rattle.std.proofs.Common.{sym, ap, ◌∙◌}
use Rattle.cacache_folder.proofs.StepsMade.{runs_none}
use Rattle.cacache_folder.proofs.folder.SystemStore.over.Goals as goal

pub invariant_of-result : goal.invariant_of-result
invariant_of-result g c =
    record {
      ran = ∣ runs_none g.Y.System.number c.new.result.items (g.Y.System.calls c.of-began.result.value) (g.Y.System.calls c.over.result.system) c.new.ensures
          (ap (λ system. g.Y.System.calls system) (c.over.ensures ∙ sym c.of-began.ensures)) ∣₁;
    }

use Rattle.std.proofs.{Common.{sym, subst}, lemmas.List.Elements.{All-nil}}
use Rattle.cacache_core.specs.Paths.{IsProperName}
use Rattle.cacache_store.specs.Plain.{AreProperNames}
use Rattle.cacache_disk.proofs.name.ProperNames.new.Goals as goal

pub invariant_of-result : goal.invariant_of-result
invariant_of-result c = subst AreProperNames (sym c.new.ensures.items) (All-nil (λ entry. IsProperName entry.name))

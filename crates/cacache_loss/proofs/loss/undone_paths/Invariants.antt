use Rattle.std.{proofs.Common.{◌≡◌, take}, specs.{BTreeSet.{contains}, List.{list_any}}}
use Rattle.cacache_core.specs.Paths.{Names, names_of}
use Rattle.cacache_disk.specs.Tree.{names_cmp}
use Rattle.cacache_loss.specs.Fixing.{is_at}
use Rattle.cacache_loss.proofs.loss.undone_paths.Given as goal

abbrev pub invariant-loop-i : goal.invariant-loop-i
invariant-loop-i l = (q : Names) → contains names_cmp l.paths q ≡ list_any (λ text. is_at (names_of text) q) (take l.i l.texts)

use Rattle.std.{proofs.Common.{◌≡◌, filter, map, string_bytes}, specs.Prelude.{not}}
use Rattle.cacache_core.specs.Paths.{join}
use Rattle.cacache_laws.specs.trees.Temporary.{is_temporary}
use Rattle.cacache_keep.proofs.sweeping.tell_apart.Given as goal

abbrev pub invariant-loop-name : goal.invariant-loop-name
invariant-loop-name l =
    (l.files.items ≡ filter is_temporary l.yielded)
    × (map string_bytes l.strange.items ≡ map (λ n. join l.folder n.name) (filter (λ n. not (is_temporary n)) l.yielded))

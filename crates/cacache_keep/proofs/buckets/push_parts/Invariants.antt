use Rattle.std.{proofs.Common.{◌≡◌, ◌++◌, map}, specs.List.{filter}}
use Rattle.cacache_core.specs.Paths.{join}
use Rattle.cacache_keep.specs.Buckets.{belongs}
use Rattle.cacache_keep.proofs.buckets.push_parts.Given as goal

abbrev pub invariant-loop-name : goal.invariant-loop-name
invariant-loop-name l =
    l.paths.items ≡ l.fn.paths.items ++ map (λ n. join l.folder n.name) (filter (belongs l.last) l.yielded)

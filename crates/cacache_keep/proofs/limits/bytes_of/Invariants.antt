use Rattle.std.{proofs.Common.{◌≡◌, ◌-◌, ◌^◌, map, take}, specs.Prelude.{min}}
use Rattle.cacache_keep.specs.Limits.{bytes_in, weight_of}
use Rattle.cacache_keep.proofs.limits.bytes_of.Given as goal

abbrev pub invariant-loop-one : goal.invariant-loop-one
invariant-loop-one l = l.bytes ≡ min (bytes_in (map weight_of (take l.one-index l.weighed))) (2 ^ 64 - 1)

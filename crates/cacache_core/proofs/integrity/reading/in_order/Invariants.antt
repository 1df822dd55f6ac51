use Rattle.std.{proofs.Common.{◌≡◌}, specs.Prelude.{filter}}
use Rattle.cacache_core.specs.{declared.integrity.algorithm.Algorithm.TheVariants.{Sha1, Sha256, Sha384, Sha512}, Integrity.{is_of}}
use Rattle.cacache_core.proofs.integrity.reading.in_order.Given as goal

abbrev pub invariant-loop-hash : goal.invariant-loop-hash
invariant-loop-hash l = record {
  sha512 : l.sha512.items ≡ filter (is_of Sha512) l.yielded;
  sha384 : l.sha384.items ≡ filter (is_of Sha384) l.yielded;
  sha256 : l.sha256.items ≡ filter (is_of Sha256) l.yielded;
  sha1 : l.sha1.items ≡ filter (is_of Sha1) l.yielded;
}

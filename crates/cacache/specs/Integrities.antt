-- What bytes are known by, for the crates above.
pub use Rattle.cacache_core.specs.declared.integrity.algorithm.Algorithm.{Algorithm}
pub use Rattle.cacache_core.specs.declared.integrity.algorithm.Algorithm.TheVariants.{Sha1, Sha256, Sha384, Sha512}
pub use Rattle.cacache_core.specs.declared.integrity.digest.Hash.{Hash}
pub use Rattle.cacache_core.specs.Integrity.{address, integrity_under, Meets}
pub use Rattle.cacache_core.specs.Texts.{integrity_text}

-- Hashers for the four algorithms, and what each of them, a builder and a checker were fed.
use Rattle.std.specs.Prelude.{ℕ, List, ◌≡◌, Some}
use Rattle.sha1.specs.Sha1.{Holds as HoldsSha1}
use Rattle.sha2.specs.Hashers.{Holds256, Holds384, Holds512}
use Rattle.cacache_core.specs.{declared.integrity.{algorithm.Algorithm.{Algorithm}, hasher.{Hasher.{Hasher, TheVariants.{Sha1, Sha256, Sha384, Sha512}}, Finished.{Finished}}, digest.Hash.{Hash}, builder.IntegrityOpts.{IntegrityOpts}, checker.IntegrityChecker.{IntegrityChecker}}, Integrity.{strongest}}
use Rattle.cacache_core.specs.declared.integrity.algorithm.Algorithm.TheVariants as algorithm
use Rattle.cacache_core.specs.declared.integrity.hasher.Finished.TheVariants as finished

-- the algorithm that a hasher computes
abbrev pub algorithm_of : Hasher → Algorithm
algorithm_of (Sha1 h) = algorithm.Sha1
algorithm_of (Sha256 h) = algorithm.Sha256
algorithm_of (Sha384 h) = algorithm.Sha384
algorithm_of (Sha512 h) = algorithm.Sha512

-- the hasher was fed the bytes m, in pieces of any size
abbrev pub Holds : Hasher → List ℕ → Type 0
Holds (Sha1 h) m = HoldsSha1 h m
Holds (Sha256 h) m = Holds256 h m
Holds (Sha384 h) m = Holds384 h m
Holds (Sha512 h) m = Holds512 h m

-- the bytes of a digest that is held without allocated memory
abbrev pub finished_bytes : Finished → List ℕ
finished_bytes (finished.Sha1 b) = b
finished_bytes (finished.Sha256 b) = b
finished_bytes (finished.Sha384 b) = b
finished_bytes (finished.Sha512 b) = b

-- ---- what a builder and a checker were fed

-- the algorithm that was set last
abbrev pub last_algorithm : IntegrityOpts → Algorithm
last_algorithm o = o.chosen

-- the builder was fed the bytes m, in pieces of any size
abbrev pub WasFed : IntegrityOpts → List ℕ → Type 0
WasFed o m = Holds512 o.sha512 m × Holds384 o.sha384 m × Holds256 o.sha256 m × HoldsSha1 o.sha1 m

-- the checker for the integrity i was fed the bytes m, in pieces of any size
abbrev pub Compares : IntegrityChecker → List Hash → List ℕ → Type 0
Compares c i m = (c.wanted ≡ i) × (strongest i ≡ Some (algorithm_of c.hasher)) × Holds c.hasher m

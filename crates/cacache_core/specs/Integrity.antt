-- What an algorithm computes from bytes, what an integrity is, and which bytes meet it.
use Rattle.std.specs.Prelude.{ℕ, List, ◌≡◌, ◌<◌, ◌≤◌, ◌++◌, ◌==◌, [], ◌∷◌, Bool, Option, None, Some, length, filter, All, Contains}
use Rattle.hex.specs.Hex.{encode_lower}
use Rattle.sha1.specs.Sha1.{sha1}
use Rattle.sha2.specs.{Sha256.{sha256}, Sha512.{sha384, sha512}}
use Rattle.cacache_core.specs.declared.integrity.{algorithm.Algorithm.{Algorithm, TheVariants.{Sha1, Sha256, Sha384, Sha512}}, digest.Hash.{Hash}}
use Rattle.base64.specs.GeneralPurpose.{IsBytes}

-- the digest of bytes under an algorithm (FIPS 180-4)
abbrev pub digest : Algorithm → List ℕ → List ℕ
digest Sha1 b = sha1 b
digest Sha256 b = sha256 b
digest Sha384 b = sha384 b
digest Sha512 b = sha512 b

-- the lower-case hex digits of the SHA-256 of bytes
abbrev pub sha256_hex : List ℕ → List ℕ
sha256_hex b = encode_lower (sha256 b)

-- ---- what an integrity is, and which bytes meet it

-- a hash, made of its two parts
abbrev pub hash_of : Algorithm → List ℕ → Hash
hash_of a d = record { algorithm = a; «digest» = d }

-- the rank of an algorithm; the strongest has rank 0
abbrev pub rank : Algorithm → ℕ
rank Sha512 = 0
rank Sha384 = 1
rank Sha256 = 2
rank Sha1 = 3

-- the hash is of the algorithm
abbrev pub is_of : Algorithm → Hash → Bool
is_of a h = rank h.algorithm == rank a

-- the hashes, strongest algorithm first; the hashes of one algorithm keep their order
abbrev pub strongest_first : List Hash → List Hash
strongest_first hs =
    filter (is_of Sha512) hs ++ filter (is_of Sha384) hs
    ++ filter (is_of Sha256) hs ++ filter (is_of Sha1) hs

-- a hash has a digest of at least three bytes
pub record IsHash (h : Hash) : Type 0 where
  pub bytes : IsBytes h.digest
  pub long_enough : 3 ≤ length h.digest

-- one or more hashes, strongest algorithm first
pub record IsIntegrity (i : List Hash) : Type 0 where
  pub nonempty : 0 < length i
  pub ordered : strongest_first i ≡ i
  pub hashes : All IsHash i

-- the content address: the first hash
abbrev pub address : List Hash → Option Hash
address [] = None
address (h ∷ hs) = Some h

-- one of the hashes has this algorithm and this digest
abbrev pub HasDigest : List Hash → Algorithm → List ℕ → Type 0
HasDigest i a d = Contains i (hash_of a d)

-- the hash's algorithm, and its digest in lower-case hex digits
abbrev pub IsHexOf : Hash → Algorithm → List ℕ → Type 0
IsHexOf h a digits = (a ≡ h.algorithm) × (digits ≡ encode_lower h.digest)

-- the bytes' digest under the strongest algorithm is listed with that algorithm
abbrev pub Meets : List Hash → List ℕ → Type 0
Meets [] b = ⊥
Meets (h ∷ hs) b = Contains (h ∷ hs) (hash_of h.algorithm (digest h.algorithm b))

-- the integrity of bytes under one algorithm
abbrev pub integrity_under : Algorithm → List ℕ → List Hash
integrity_under a b = hash_of a (digest a b) ∷ []

-- the strongest algorithm, which is that of the address
abbrev pub strongest : List Hash → Option Algorithm
strongest [] = None
strongest (h ∷ hs) = Some h.algorithm

-- the integrity of bytes under the strongest algorithm of another integrity
abbrev pub actual : List Hash → List ℕ → List Hash
actual [] b = []
actual (h ∷ hs) b = integrity_under h.algorithm b

-- both list the same digest of the algorithm
abbrev pub ShareDigest : Algorithm → List Hash → List Hash → Type 0
ShareDigest a i j =
    (d : List ℕ) × Contains i (hash_of a d) × Contains j (hash_of a d)

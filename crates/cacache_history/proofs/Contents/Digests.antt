-- A computed digest is a hash, and makes an integrity.
use Rattle.std.proofs.{lemmas.{Grind.{common_steps}, List.Elements.{All-nil, All-cons}}, Common.{rules, ◌≡◌, sym, ap, Contains, ℕ, zero, suc, List, [], ◌∷◌, take, arith, slice_index}}
use Rattle.std.specs.Int.{w32, w64, to_be_bytes}
use Rattle.base64.specs.GeneralPurpose.{IsBytes}
use Rattle.sha2.specs.Sha256 as small
use Rattle.sha2.specs.Sha512 as large
use Rattle.sha2.proofs.{Facts256.{length-sha256}, Facts512.{length-sha384, length-sha512}}
use Rattle.cacache_core.specs.{declared.integrity.{algorithm.Algorithm.{Algorithm}, digest.Hash.{Hash}}, Integrity.{digest, IsHash, IsIntegrity, Meets, hash_of, integrity_under, strongest_first}}
use Rattle.cacache_core.proofs.{Decoded.{bytes_append}, PathLemmas.{sha1_bytes, keys_have_digests}, ProperNames.{be_bytes}}

word_bytes : (n : ℕ) → IsBytes (to_be_bytes w32 n)
word_bytes n h = grind (arith, common_steps)

small_bytes : (h : List ℕ) (n : ℕ) → IsBytes (small.digest_bytes h n)
unfolding small.digest_bytes
small_bytes h zero i = omega arith
small_bytes h (suc n) i =
    bytes_append (small.digest_bytes h n) (to_be_bytes w32 (slice_index h n)) (small_bytes h n) (word_bytes (slice_index h n)) i

large_bytes : (h : List ℕ) (n : ℕ) → IsBytes (large.digest_bytes h n)
unfolding large.digest_bytes
large_bytes h zero i = omega arith
large_bytes h (suc n) i =
    bytes_append (large.digest_bytes h n) (to_be_bytes w64 (slice_index h n)) (large_bytes h n) (be_bytes (slice_index h n)) i

take_bytes : (n : ℕ) (bs : List ℕ) → IsBytes bs → IsBytes (take n bs)
take_bytes zero bs h i = omega arith
take_bytes (suc n) [] h i = omega arith
take_bytes (suc n) (b ∷ bs) h zero = h zero
take_bytes (suc n) (b ∷ bs) h (suc i) = take_bytes n bs (λ k. h (suc k)) i

sha256_bytes : (m : List ℕ) → IsBytes (small.sha256 m)
unfolding small.sha256
sha256_bytes m = small_bytes (small.final_hash small.initial_hash_256 m) 8

sha384_bytes : (m : List ℕ) → IsBytes (large.sha384 m)
unfolding large.sha384
sha384_bytes m = take_bytes 48 _ (large_bytes (large.final_hash large.initial_hash_384 m) 8)

sha512_bytes : (m : List ℕ) → IsBytes (large.sha512 m)
unfolding large.sha512
sha512_bytes m = large_bytes (large.final_hash large.initial_hash_512 m) 8

-- the digest of bytes under any algorithm
pub digest_hash : (a : Algorithm) (m : List ℕ) → IsHash (hash_of a (digest a m))
digest_hash a m = grind (arith, sha1_bytes, keys_have_digests, sha256_bytes, length-sha256, sha384_bytes, length-sha384, sha512_bytes, length-sha512)

-- ---- an integrity

pub own_ordered : (a : Algorithm) (d : List ℕ) → strongest_first (hash_of a d ∷ []) ≡ hash_of a d ∷ []
own_ordered a d = grind (arith, common_steps)

-- the digest alone makes one
pub own_integrity : (a : Algorithm) (bytes : List ℕ) → IsIntegrity (integrity_under a bytes)
own_integrity a bytes = record {
  nonempty = omega arith;
  ordered = own_ordered a (digest a bytes);
  hashes = All-cons IsHash (hash_of a (digest a bytes)) [] (digest_hash a bytes) (All-nil IsHash);
}

-- ---- bytes that meet it

pub one_of : (x y : Hash) → Contains (x ∷ []) y → x ≡ y
one_of x y c = search rules

pub same_digest : (a : Algorithm) (bytes others : List ℕ) → Meets (integrity_under a bytes) others → digest a others ≡ digest a bytes
same_digest a bytes others met = sym (ap (λ (x : Hash). x.digest) (one_of (hash_of a (digest a bytes)) (hash_of a (digest a others)) met))

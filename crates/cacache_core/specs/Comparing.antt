-- Equality and order of hashes and of integrities, as computable tests, and what they feed to a map's hasher.
use Rattle.std.specs.{Prelude.{◌≡◌, ℕ, ◌==◌, nat_eq, List, Bool, true, ◌&&◌, ◌++◌, Some}, Bool.{Decides}, Cmp.{IsEquivalence, decided, unsigned_Decides, IsTotalOrder, IsPartialOrder, po, then_total, on_total, nat_cmp_total, both_tied, unsigned_ties, Lexicographic.{pointwise, pointwise_decides, bytes_decides, slice_cmp, lists_total, lists_ties, texts_ties, nat_list_cmp_total}}, Ordering.{nat_cmp, ordering_then, eq_by_cmp}, declared.cmp.Ordering.{Ordering}}
use Rattle.std.proofs.Common.{refl, sym, ap, ap₂, ◌∙◌, cond, false}
use Rattle.cacache_core.specs.{declared.integrity.{algorithm.Algorithm.{Algorithm, TheVariants.{Sha1, Sha256, Sha384, Sha512}}, digest.Hash.{Hash}}, Integrity.{rank}}
use Rattle.std.specs.Hash as fed

-- the same algorithm and the same digest
abbrev pub same_hash : Hash → Hash → Bool
same_hash h g = rank h.algorithm == rank g.algorithm && pointwise nat_eq h.digest g.digest

-- the same hashes in the same order
abbrev pub same_hashes : List Hash → List Hash → Bool
same_hashes = pointwise same_hash

-- the algorithm with a given rank
abbrev of_rank : ℕ → Algorithm
of_rank n = cond (n == 0) Sha512 (cond (n == 1) Sha384 (cond (n == 2) Sha256 Sha1))

of_rank-rank : (a : Algorithm) → of_rank (rank a) ≡ a
of_rank-rank Sha512 = refl
of_rank-rank Sha384 = refl
of_rank-rank Sha256 = refl
of_rank-rank Sha1 = refl

-- algorithms of the same rank are equal
pub same_rank : (a b : Algorithm) → rank a ≡ rank b → a ≡ b
same_rank a b e = sym (of_rank-rank a) ∙ ap of_rank e ∙ of_rank-rank b

both : (a b : Bool) → (a && b) ≡ true → (a ≡ true) × (b ≡ true)
both true true e = (refl, refl)
both true false e = cc
both false b e = cc

pub same_hash-Decides : (h g : Hash) → Decides (same_hash h g) (h ≡ g)
same_hash-Decides h g = (
  λ e.
      let parts = both _ _ e in
      ap₂ (λ a d. record { algorithm = a; «digest» = d })
      (same_rank _ _ ((unsigned_Decides _ _).0 parts.0))
      ((bytes_decides h.digest g.digest).0 parts.1),
  λ e. ap₂ (λ (a b : Bool). a && b)
      ((unsigned_Decides _ _).1 (ap (λ (x : Hash). rank x.algorithm) e))
      ((bytes_decides h.digest g.digest).1 (ap (λ (x : Hash). x.digest) e)),
)

pub same_hash-equiv : IsEquivalence same_hash
same_hash-equiv = decided same_hash same_hash-Decides

pub same_hashes-Decides : (i j : List Hash) → Decides (same_hashes i j) (i ≡ j)
same_hashes-Decides = pointwise_decides same_hash-Decides

pub same_hashes-equiv : IsEquivalence same_hashes
same_hashes-equiv = decided same_hashes same_hashes-Decides

-- ---- the order of hashes and of integrities, and what they feed to a map's hasher

-- the stronger algorithm comes first; hashes of one algorithm are ordered by their digests' bytes
abbrev pub hash_cmp : Hash → Hash → Ordering
hash_cmp h g =
    ordering_then (nat_cmp (rank h.algorithm) (rank g.algorithm))
    (slice_cmp nat_cmp h.digest g.digest)

-- compared hash by hash; a proper prefix comes before the longer list
abbrev pub hashes_cmp : List Hash → List Hash → Ordering
hashes_cmp = slice_cmp hash_cmp

-- the rank of the algorithm, and then the digest's bytes
abbrev pub hash_fed : Hash → List (List ℕ)
hash_fed h = fed.u8 (rank h.algorithm) ++ fed.slice fed.u8 h.digest

-- ---- the laws

pub hash_cmp-total : IsTotalOrder hash_cmp
hash_cmp-total =
    then_total (on_total (λ (h : Hash). rank h.algorithm) nat_cmp_total)
    (on_total (λ (h : Hash). h.digest) nat_list_cmp_total)

pub hash_cmp-ties : (h g : Hash) → same_hash h g ≡ eq_by_cmp hash_cmp h g
hash_cmp-ties h g =
    both_tied _ _ (nat_cmp (rank h.algorithm) (rank g.algorithm))
    (slice_cmp nat_cmp h.digest g.digest)
    (unsigned_ties (rank h.algorithm) (rank g.algorithm))
    (texts_ties h.digest g.digest)

pub hash_cmp-po : IsPartialOrder same_hash (λ h g. Some (hash_cmp h g))
hash_cmp-po = po hash_cmp-total hash_cmp-ties

pub hashes_cmp-total : IsTotalOrder hashes_cmp
hashes_cmp-total = lists_total hash_cmp-total

pub hashes_cmp-ties : (i j : List Hash) → same_hashes i j ≡ eq_by_cmp hashes_cmp i j
hashes_cmp-ties = lists_ties hash_cmp hash_cmp-ties

pub hashes_cmp-po : IsPartialOrder same_hashes (λ i j. Some (hashes_cmp i j))
hashes_cmp-po = po hashes_cmp-total hashes_cmp-ties

-- The tests on integrities agree with the relations.
use Rattle.std.proofs.{Common.{◌≡◌, ◌&&◌, List, [], ◌∷◌, Bool, true, false, cond, Some, None, refl, sym, ap, subst, arith, eq-eqb}, lemmas.{Bool.{eqb-true, and_parts, and_from}, List.Folds.{Any-from_list_any, list_any-from_Any}}}
use Rattle.std.specs.{Prelude.{Contains}, List.{slice_index_or}}
use Rattle.cacache_core.specs.{declared.integrity.{algorithm.Algorithm.{Algorithm}, digest.Hash.{Hash}}, Integrity.{digest, rank, is_of, hash_of, ShareDigest}, Laws.{ListsFindsHashes, MeetsFindsBytes, MatchingFindsShared, OwnIsMet}, Matching.{lists, meets, share, matching}, Comparing.{same_hash, same_rank, same_hash-Decides}}

-- ---- a hash is listed

listed : (hs : List Hash) (h : Hash) → lists hs h ≡ true → Contains hs h
listed hs h e =
    let any = Any-from_list_any (λ g. same_hash g h) hs e in
    (any.0, any.2, subst (λ g. slice_index_or hs any.0 g ≡ g) ((same_hash-Decides any.1 h).0 any.4) any.3)

found : (hs : List Hash) (h : Hash) → Contains hs h → lists hs h ≡ true
found hs h is = list_any-from_Any (λ g. same_hash g h) hs (is.0, h, is.1, is.2, (same_hash-Decides h h).1 refl)

pub lists_finds : ListsFindsHashes
lists_finds hs h = (listed hs h, found hs h)

-- ---- bytes meet an integrity

pub meets_finds : MeetsFindsBytes
unfolding meets
meets_finds [] b = (λ e. absurd cc, λ m. absurd m)
meets_finds (h ∷ hs) b = lists_finds (h ∷ hs) (hash_of h.algorithm (digest h.algorithm b))

pub own_is_met : OwnIsMet
own_is_met a b = (0, omega arith, refl)

-- ---- two integrities share a digest

shared : (a : Algorithm) (i j : List Hash) → share a i j ≡ true → ShareDigest a i j
shared a i j e =
    let any = Any-from_list_any (λ h. is_of a h && lists i h) j e in
    let h = any.1 in
    let parts = and_parts (is_of a h) (lists i h) any.4 in
    let same : h ≡ hash_of a h.digest =
    ap (λ (b : Algorithm). hash_of b h.digest) (same_rank h.algorithm a (eqb-true (rank h.algorithm) (rank a) parts.0)) in
    (h.digest, subst (Contains i) same (listed i h parts.1), subst (Contains j) same (any.0, any.2, any.3))

does_share : (a : Algorithm) (i j : List Hash) → ShareDigest a i j → share a i j ≡ true
does_share a i j s =
    let h = hash_of a s.0 in
    list_any-from_Any (λ g. is_of a g && lists i g) j
    (s.2.0, h, s.2.1, s.2.2, and_from (is_of a h) (lists i h) (eq-eqb (rank a) (rank a) refl) (found i h s.1))

some_if : (b : Bool) (x a : Algorithm) → cond b (Some x) None ≡ Some a → (x ≡ a) × (b ≡ true)
some_if true x a e = (cc, refl)
some_if false x a e = absurd cc

pub matching_finds : MatchingFindsShared
unfolding matching
matching_finds i [] a = (λ e. absurd cc, λ s. absurd (let clash : None ≡ Some a = s.0 in cc))
matching_finds i (h ∷ hs) a = (
  λ e.
      let parts = some_if (share h.algorithm i (h ∷ hs)) h.algorithm a e in
      (ap (λ x. Some x) parts.0, subst (λ x. ShareDigest x i (h ∷ hs)) parts.0 (shared h.algorithm i (h ∷ hs) parts.1)),
  λ s.
      let same : h.algorithm ≡ a = let e : Some h.algorithm ≡ Some a = s.0 in cc in
      let is : share h.algorithm i (h ∷ hs) ≡ true = does_share h.algorithm i (h ∷ hs) (subst (λ x. ShareDigest x i (h ∷ hs)) (sym same) s.1) in
      rw is (ap (λ x. Some x) same),
)

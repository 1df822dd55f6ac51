-- The files of a folder, sorted one by one, and the order of listed contents.
use Rattle.std.proofs.{Common.{◌≡◌, ◌+◌, ◌<◌, ℕ, List, [], ◌∷◌, ◌++◌, sym, ap, ◌∙◌, length, get_or, take, append_assoc, inl, inr, refl, subst, Bool, true, false, cond, map, ap₂, arith}, lemmas.List.{take_more, get_or-map, length-map, Elements.{filter_map-append, Contains-push, Contains-push_cases, Contains-append_left, Contains-append_right}, Kept.{IsStrictlySortedBy-dedup, Contains-dedup, Contains-from_dedup}, Sorted.{Contains-permutation, IsPermutation-sym}}}
use Rattle.std.specs.{List.{cons_option, dedup, dedup_from, Sorted.{IsPermutation, IsSorted}}, Prelude.{◌↔◌, Contains, ◌&&◌}, Option.{option_cmp}, declared.cmp.Ordering.{Ordering}, Ordering.{is_lt, eq_by_cmp}, Cmp.{IsTotalOrder, IsEquivalence, then_total, on_total, nat_cmp_total, unsigned_ties, both_tied, Lexicographic.{nat_list_cmp_total, texts_ties}}}
use Rattle.cacache_core.specs.{Paths.{join, joined, content_names}, declared.integrity.digest.Hash.{Hash}, Integrity.{address, rank}, Comparing.{same_hash, same_hashes}}
use Rattle.cacache_core.proofs.PathTexts.{paths_differ}
use Rattle.cacache_store.specs.declared.store.answer.Name.{Name}
use Rattle.cacache_walks.specs.{Reading.{file_as, file_paths}, Addresses.{IsContentPath, IsStrange}, Listing.{Sorts, ListedAreShown, IsByHash, hash_cmp}}

name_more : (path : List ℕ) (names : List Name) (i : ℕ) (name : Name) → i < length names → name ≡ get_or names i name → file_paths path (take (i + 1) names) ≡ file_paths path (take i names) ++ cons_option (file_as name.kind (join path name.name)) []
name_more path names i name below is =
    let last = get_or names i name in
    ap (file_paths path) (take_more names i name below)
    ∙ filter_map-append (λ n. file_as n.kind (join path n.name)) (take i names) (last ∷ [])
    ∙ ap (λ (n : Name). file_paths path (take i names) ++ cons_option (file_as n.kind (join path n.name)) []) (sym is)

pub more_files : (path : List ℕ) (names : List Name) (i : ℕ) (name : Name) (files : List (List ℕ)) (old new : List (List ℕ)) → i < length names → name ≡ get_or names i name → old ≡ files ++ file_paths path (take i names) → new ≡ old ++ cons_option (file_as name.kind (join path name.name)) [] → new ≡ files ++ file_paths path (take (i + 1) names)
more_files path names i name files old new below is before more =
    more ∙ ap (λ (l : List (List ℕ)). l ++ cons_option (file_as name.kind (join path name.name)) []) before
    ∙ append_assoc files (file_paths path (take i names)) (cons_option (file_as name.kind (join path name.name)) [])
    ∙ ap (λ (l : List (List ℕ)). files ++ l) (sym (name_more path names i name below is))

-- ---- files that are sorted one by one

unique : (cache path : List ℕ) (i j : List Hash) → IsContentPath cache path i → IsContentPath cache path j → i ≡ j
unique cache path i j a b = a.2 ∙ ap (λ (h : Hash). h ∷ []) ((paths_differ.contents cache a.0 b.0 a.1 b.1).0 (sym a.3 ∙ b.3)) ∙ sym b.2

pub sorts_content : (cache p : List ℕ) (i : List Hash) (files strange : List (List ℕ)) (addresses : List (List Hash)) → IsContentPath cache p i → Sorts cache files addresses strange → Sorts cache (files ++ p ∷ []) (addresses ++ i ∷ []) strange
sorts_content cache p i files strange addresses is s = record {
  contents = λ j. (
    (λ c. elim (Contains-push_cases addresses i j c) [
      | inl old ↦ let k = (s.contents j).0 old in (k.0, Contains-append_left files (p ∷ []) k.0 k.1, k.2)
      | inr same ↦ (p, Contains-push files p, subst (IsContentPath cache p) same is)
    ]),
    (λ k. elim (Contains-push_cases files p k.0 k.1) [
      | inl old ↦ Contains-append_left addresses (i ∷ []) j ((s.contents j).1 (k.0, old, k.2))
      | inr same ↦ let e : i ≡ j = unique cache k.0 i j (subst (λ (q : List ℕ). IsContentPath cache q i) same is) k.2 in subst (Contains (addresses ++ i ∷ [])) e (Contains-push addresses i)
    ]),
  );
  others = λ q. (
    (λ c. let k = (s.others q).0 c in (Contains-append_left files (p ∷ []) q k.0, k.1)),
    (λ k. elim (Contains-push_cases files p q k.0) [
      | inl old ↦ (s.others q).1 (old, k.1)
      | inr same ↦ absurd (k.1 is.0 is.1 (sym same ∙ is.3))
    ]),
  );
}

pub sorts_strange : (cache p : List ℕ) (files strange : List (List ℕ)) (addresses : List (List Hash)) → IsStrange cache p → Sorts cache files addresses strange → Sorts cache (files ++ p ∷ []) addresses (strange ++ p ∷ [])
sorts_strange cache p files strange addresses is s = record {
  contents = λ j. (
    (λ c. let k = (s.contents j).0 c in (k.0, Contains-append_left files (p ∷ []) k.0 k.1, k.2)),
    (λ k. elim (Contains-push_cases files p k.0 k.1) [
      | inl old ↦ (s.contents j).1 (k.0, old, k.2)
      | inr same ↦ absurd (is k.2.0 k.2.1 (same ∙ k.2.3))
    ]),
  );
  others = λ q. (
    (λ c. elim (Contains-push_cases strange p q c) [
      | inl old ↦ let k = (s.others q).0 old in (Contains-append_left files (p ∷ []) q k.0, k.1)
      | inr same ↦ subst (λ (x : List ℕ). Contains (files ++ p ∷ []) x × IsStrange cache x) same (Contains-push files p, is)
    ]),
    (λ k. elim (Contains-push_cases files p q k.0) [
      | inl old ↦ Contains-append_left strange (p ∷ []) q ((s.others q).1 (old, k.1))
      | inr same ↦ subst (Contains (strange ++ p ∷ [])) same (Contains-push strange p)
    ]),
  );
}

pub listed_are_shown : ListedAreShown
listed_are_shown cache files addresses strange s h hash = (
  (λ c.
      let k = (s.contents (h ∷ [])).0 c in
      let same : h ≡ k.2.0 = (let e : h ∷ [] ≡ k.2.0 ∷ [] = k.2.2 in cc) in
      subst (Contains files) (k.2.3 ∙ ap (λ (g : Hash). joined cache (content_names g)) (sym same)) k.1),
  (λ c. (s.contents (h ∷ [])).1 (joined cache (content_names h), c, (h, hash, refl, refl))),
)

-- files are sorted in the same way into all lists of the same elements
pub sorts_same : {cache : List ℕ} {files strange paths : List (List ℕ)} {addresses integrities : List (List Hash)} → Sorts cache files addresses strange → ((i : List Hash) → Contains integrities i ↔ Contains addresses i) → ((p : List ℕ) → Contains paths p ↔ Contains strange p) → Sorts cache files integrities paths
sorts_same s a b = record {
  contents = λ i. ((λ c. (s.contents i).0 ((a i).0 c)), (λ k. (a i).1 ((s.contents i).1 k)));
  others = λ p. ((λ c. (s.others p).0 ((b p).0 c)), (λ k. (b p).1 ((s.others p).1 k)));
}

-- ---- hashes

pub hash_total : IsTotalOrder hash_cmp
hash_total = then_total (on_total (λ (h : Hash). rank h.algorithm) nat_cmp_total) (on_total (λ (h : Hash). h.digest) nat_list_cmp_total)

same_ties : (h g : Hash) → same_hash h g ≡ eq_by_cmp hash_cmp h g
same_ties h g = both_tied _ _ _ _ (unsigned_ties (rank h.algorithm) (rank g.algorithm)) (texts_ties h.digest g.digest)

-- ---- integrities of one hash

-- each list of one hash is the list of its hash
singles : (xs : List (List Hash)) → ((i : List Hash) → Contains xs i → (h : Hash) × (i ≡ h ∷ [])) → (hs : List Hash) × (xs ≡ map (λ h. h ∷ []) hs)
singles [] all = ([], refl)
singles (x ∷ xs) all =
    let first = all x (Contains-append_left (x ∷ []) xs x (Contains-push [] x)) in
    let rest = singles xs (λ i c. all i (Contains-append_right (x ∷ []) xs i c)) in
    (first.0 ∷ rest.0, ap₂ (λ (y : List Hash) (ys : List (List Hash)). y ∷ ys) first.1 rest.1)

and_true : (b : Bool) → (b && true) ≡ b
and_true true = refl
and_true false = refl

same_single : (h g : Hash) → same_hashes (h ∷ []) (g ∷ []) ≡ same_hash h g
same_single h g = and_true (same_hash h g)

dedup_from_singles : (h : Hash) (hs : List Hash) → dedup_from same_hashes (h ∷ []) (map (λ h. h ∷ []) hs) ≡ map (λ h. h ∷ []) (dedup_from same_hash h hs)
dedup_from_singles h [] = refl
dedup_from_singles h (g ∷ hs) = rw (same_single g h) (kept_or_not (same_hash g h) h g hs (dedup_from_singles h hs) (dedup_from_singles g hs))
  where
    kept_or_not : (b : Bool) (h g : Hash) (hs : List Hash) → dedup_from same_hashes (h ∷ []) (map (λ h. h ∷ []) hs) ≡ map (λ h. h ∷ []) (dedup_from same_hash h hs) → dedup_from same_hashes (g ∷ []) (map (λ h. h ∷ []) hs) ≡ map (λ h. h ∷ []) (dedup_from same_hash g hs)
        → cond b (dedup_from same_hashes (h ∷ []) (map (λ h. h ∷ []) hs)) ((h ∷ []) ∷ dedup_from same_hashes (g ∷ []) (map (λ h. h ∷ []) hs)) ≡ map (λ h. h ∷ []) (cond b (dedup_from same_hash h hs) (h ∷ dedup_from same_hash g hs))
    kept_or_not true h g hs one two = one
    kept_or_not false h g hs one two = ap (λ (l : List (List Hash)). (h ∷ []) ∷ l) two

dedup_singles : (hs : List Hash) → dedup same_hashes (map (λ h. h ∷ []) hs) ≡ map (λ h. h ∷ []) (dedup same_hash hs)
dedup_singles [] = refl
dedup_singles (h ∷ hs) = dedup_from_singles h hs

abbrev pub by_address : List Hash → List Hash → Ordering
by_address x y = option_cmp hash_cmp (address x) (address y)

sorted_singles : (hs : List Hash) → IsSorted by_address (map (λ h. h ∷ []) hs) → IsSorted hash_cmp hs
sorted_singles hs up k d low high =
    let long : length (map (λ (h : Hash). h ∷ []) hs) ≡ length hs = length-map hs (λ (h : Hash). h ∷ []) in
    let here = get_or-map (λ (h : Hash). h ∷ []) hs k d (d ∷ []) (omega (arith, high)) in
    let next = get_or-map (λ (h : Hash). h ∷ []) hs (k + 1) d (d ∷ []) high in
    ap₂ (λ x y. is_lt (by_address x y)) (sym next) (sym here) ∙ up k (d ∷ []) low (omega (arith, long, high))

-- ---- for the functions

pub addresses_ordered : (old sorted new : List (List Hash)) → ((i : List Hash) → Contains old i → (h : Hash) × (i ≡ h ∷ [])) → IsPermutation old sorted → IsSorted by_address sorted → new ≡ dedup same_hashes sorted → IsByHash new
addresses_ordered old sorted new all moved up is =
    let parts = singles sorted (λ i c. all i (Contains-permutation sorted old i (IsPermutation-sym old sorted moved) c)) in
    record {
      hashes = dedup same_hash parts.0;
      single = is ∙ ap (dedup same_hashes) parts.1 ∙ dedup_singles parts.0;
      ascend = IsStrictlySortedBy-dedup hash_total same_ties parts.0 (sorted_singles parts.0 (subst (IsSorted by_address) parts.1 up));
    }

-- a list that is sorted, and then keeps each element once, has the same elements
pub same_elements : {X : Type 0} {E : X → X → Bool} → IsEquivalence E → ((x y : X) → E x y ≡ true → x ≡ y) → (old sorted new : List X) → IsPermutation old sorted → new ≡ dedup E sorted → (x : X) → Contains new x ↔ Contains old x
same_elements {E = E} e decides old sorted new moved is x = (
  (λ c. Contains-permutation sorted old x (IsPermutation-sym old sorted moved) (Contains-from_dedup E sorted x (subst (λ l. Contains l x) is c))),
  (λ c. subst (λ l. Contains l x) (sym is) (Contains-dedup e decides sorted x (Contains-permutation old sorted x moved c))),
)

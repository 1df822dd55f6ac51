-- Addresses in order, and which of them entries have.
-- Contents that are removed, one after another.
use Rattle.std.proofs.{Common.{◌≡◌, ◌+◌, ◌<◌, ◌≤◌, ℕ, List, [], ◌∷◌, ◌++◌, Bool, true, false, Option, Some, Ok, Err, Result, refl, sym, ap, ap₂, subst, ◌∙◌, map, length, length-append, arith, get_or, take, drop}, lemmas.List.{map-append, take_more, drop_more, take-append-drop, Elements.{All-append, All-cons, All-nil, filter_agree}, Sorted.{searchable_from_sorted}}}
use Rattle.std.specs.{Prelude.{All, Contains, IsTrue, ◌↔◌, ◌||◌, is_ok, not}, List.Sorted.{IsBinarySearchResult, IsSearchInRange, IsSorted}, declared.cmp.Ordering.TheVariants.{Equal}, Ordering.{eq_by_cmp, is_eq}, Cmp.{IsTotalOrder, then_total, on_total, nat_cmp_total, unsigned_ties, both_tied, Lexicographic.{nat_list_cmp_total, texts_ties}}}
use Rattle.cacache_core.specs.{declared.{integrity.digest.Hash.{Hash}, errors.Error.{Error}}, Integrity.{IsIntegrity, address, rank}, Matching.{lists}, Comparing.{same_hash, same_hash-Decides}}
use Rattle.cacache_core.proofs.Meeting.{lists_finds}
use Rattle.cacache_entry.specs.Bucket.{Found}
use Rattle.cacache_walks.specs.Listing.{hash_cmp}
use Rattle.cacache_laws.specs.trees.Collecting.{is_address, is_live}
use Rattle.cacache_keep.{specs.Calls.{AreOthers, AreUnused, has_address_in, has_entry, MadeCalls, StopsRemoving, removal}, proofs.Asked.{kept, passed, mapped_on}}
use Rattle.cacache_store.specs.declared.store.log.LogItem.{LogItem}
use Rattle.cacache_calls.specs.{State.{Site}, Table.{opening}, Runs.{Ran, without_message}}
use Rattle.cacache_calls.specs.declared.command.Command.TheVariants as commands
use Rattle.cacache_calls.specs.declared.reply.Reply.TheVariants as replies

-- ---- the order

pub hash_total : IsTotalOrder hash_cmp
hash_total = then_total (on_total (λ (h : Hash). rank h.algorithm) nat_cmp_total) (on_total (λ (h : Hash). h.digest) nat_list_cmp_total)

same_ties : (h g : Hash) → same_hash h g ≡ eq_by_cmp hash_cmp h g
same_ties h g = both_tied _ _ _ _ (unsigned_ties (rank h.algorithm) (rank g.algorithm)) (texts_ties h.digest g.digest)

equal_same : (h g : Hash) → hash_cmp h g ≡ Equal → h ≡ g
equal_same h g e = (same_hash-Decides h g).0 (same_ties h g ∙ ap is_eq e)

-- one that compares as another kind isn't the same
not_equal : (h g : Hash) → is_eq (hash_cmp h g) ≡ false → h ≡ g → ⊥
not_equal h g other same =
    let equal : is_eq (hash_cmp h g) ≡ true = sym (same_ties h g) ∙ (same_hash-Decides h g).1 same in
    absurd cc

-- ---- the search

found_among : (live : List Hash) (a : Hash) (r : Result ℕ ℕ) → IsSorted hash_cmp live → IsSearchInRange r (length live) → IsBinarySearchResult (λ y. hash_cmp y a) live r → IsTrue (is_ok r) ↔ Contains live a
found_among live a (Ok k) up range at = (λ so. (k, range, equal_same (get_or live k a) a (at a)), λ c. refl)
found_among live a (Err k) up range at =
    let split = at (searchable_from_sorted hash_total (λ (h : Hash). h) live a up) in (
      (λ so. absurd cc),
      λ c.
          let high : c.0 < k → ⊥ = λ low. not_equal (get_or live c.0 a) a (ap is_eq (split.0 c.0 a (omega arith) low)) c.2 in
          let low : k ≤ c.0 → ⊥ = λ up. not_equal (get_or live c.0 a) a (ap is_eq (split.1 c.0 a up c.1)) c.2 in
          absurd (omega (arith, high, low)),
    )

same_bool : (b c : Bool) → (b ≡ true → c ≡ true) → (c ≡ true → b ≡ true) → b ≡ c
same_bool true c f g = sym (f refl)
same_bool false false f g = refl
same_bool false true f g = g refl

pub found_so : (live : List Hash) (a : Hash) (r : Result ℕ ℕ) → IsSorted hash_cmp live → IsSearchInRange r (length live) → IsBinarySearchResult (λ y. hash_cmp y a) live r → is_ok r ≡ lists live a
found_so live a r up range at =
    let found = found_among live a r up range at in
    let listed = lists_finds live a in
    same_bool (is_ok r) (lists live a) (λ e. listed.1 (found.0 e)) (λ e. found.1 (listed.0 e))

-- ---- those that aren't live

among_at : (live : List Hash) (i : List Hash) (h : Hash) → address i ≡ Some h → has_address_in live i ≡ lists live h
among_at live [] h at = absurd cc
among_at live (g ∷ gs) h at = let same : g ≡ h = cc in ap (lists live) same

pub among_so : (live : List Hash) (i : List Hash) (h : Hash) (b c : Bool) → address i ≡ Some h → b ≡ lists live h → b ≡ c → not (has_address_in live i) ≡ not c
among_so live i h b c at says so = ap not (among_at live i h at ∙ sym says ∙ so)

pub live_passed : (live : List Hash) (yielded unused : List (List Hash)) (i : List Hash) → AreOthers live yielded unused → not (has_address_in live i) ≡ false → AreOthers live (yielded ++ i ∷ []) unused
live_passed live yielded unused i r among = record {
  which = r.which ∙ sym (passed (λ j. not (has_address_in live j)) yielded i among);
  fewer = omega (arith, r.fewer, length-append yielded (i ∷ []));
}

pub other_taken : (live : List Hash) (yielded unused : List (List Hash)) (i : List Hash) → AreOthers live yielded unused → not (has_address_in live i) ≡ true → AreOthers live (yielded ++ i ∷ []) (unused ++ i ∷ [])
other_taken live yielded unused i r none = record {
  which = ap (λ l. l ++ i ∷ []) r.which ∙ sym (kept (λ j. not (has_address_in live j)) yielded i none);
  fewer = omega (arith, r.fewer, length-append yielded (i ∷ []), length-append unused (i ∷ []));
}

-- ---- those that no entry has

-- what a list of addresses lists is live
live_listed : (entries : List Found) (live : List Hash) (h : Hash) → map Some live ≡ map (λ (f : Found). address f.integrity) entries → lists live h ≡ is_live entries h
live_listed [] [] h of = refl
live_listed (f ∷ entries) (g ∷ live) h of =
    let first : Some g ≡ address f.integrity = cc in
    let rest : map Some live ≡ map (λ (x : Found). address x.integrity) entries = cc in
    ap₂ (λ a b. a || b) (ap (λ o. is_address o h) first) (live_listed entries live h rest)
live_listed _ _ h of = absurd cc

lists_same : (a b : List Hash) (h : Hash) → Contains a h ↔ Contains b h → lists a h ≡ lists b h
lists_same a b h same = same_bool (lists a h) (lists b h) (λ e. (lists_finds b h).1 (same.0 ((lists_finds a h).0 e))) (λ e. (lists_finds a h).1 (same.1 ((lists_finds b h).0 e)))

used_so : (entries : List Found) (live sorted : List Hash) → map Some live ≡ map (λ (f : Found). address f.integrity) entries → ((h : Hash) → Contains sorted h ↔ Contains live h) → (i : List Hash) → has_address_in sorted i ≡ has_entry entries i
used_so entries live sorted of same [] = refl
used_so entries live sorted of same (h ∷ hs) = lists_same sorted live h (same h) ∙ live_listed entries live h of

pub no_entry_has : (entries : List Found) (live sorted : List Hash) (addresses unused : List (List Hash)) → map Some live ≡ map (λ (f : Found). address f.integrity) entries → All (λ (f : Found). IsIntegrity f.integrity) entries → ((h : Hash) → Contains sorted h ↔ Contains live h) → AreOthers sorted addresses unused → AreUnused entries addresses unused
no_entry_has entries live sorted addresses unused of formed same r = record {
  which = r.which ∙ filter_agree (λ i. not (has_address_in sorted i)) (λ i. not (has_entry entries i)) (λ i. ap not (used_so entries live sorted of same i)) addresses;
  fewer = r.fewer;
  formed = formed;
}

-- one entry more has an integrity
pub formed_more : (entries : List Found) (k : ℕ) (f : Found) → k < length entries → f ≡ get_or entries k f → IsIntegrity f.integrity → All (λ (x : Found). IsIntegrity x.integrity) (take k entries) → All (λ (x : Found). IsIntegrity x.integrity) (take (k + 1) entries)
formed_more entries k f low is formed all =
    let more : take (k + 1) entries ≡ take k entries ++ f ∷ [] = take_more entries k f low ∙ ap (λ (x : Found). take k entries ++ x ∷ []) (sym is) in
    subst (All (λ (x : Found). IsIntegrity x.integrity)) (sym more)
    (All-append (λ (x : Found). IsIntegrity x.integrity) (take k entries) (f ∷ []) all (All-cons (λ (x : Found). IsIntegrity x.integrity) f [] formed (All-nil (λ (x : Found). IsIntegrity x.integrity))))

-- and its address is one more
pub live_more : {X : Type 0} (of : X → Option Hash) (xs : List X) (k : ℕ) (x : X) (h : Hash) (live more : List Hash) → k < length xs → x ≡ get_or xs k x → of x ≡ Some h → more ≡ live ++ h ∷ [] → map Some live ≡ map of (take k xs) → map Some more ≡ map of (take (k + 1) xs)
live_more {X} of xs k x h live more low is at grown so_far =
    let front : take (k + 1) xs ≡ take k xs ++ x ∷ [] = take_more xs k x low ∙ ap (λ (y : X). take k xs ++ y ∷ []) (sym is) in
    ap (map Some) grown ∙ map-append Some live (h ∷ []) ∙ ap₂ (λ a o. a ++ o ∷ []) so_far (sym at) ∙ sym (map-append of (take k xs) (x ∷ [])) ∙ ap (map of) (sym front)

pub one_removed : (site : Site) (addresses : List (List Hash)) (k : ℕ) (i : List Hash) (old mid new : Option (List LogItem)) → k < length addresses → i ≡ get_or addresses k i → MadeCalls site (map removal (take k addresses)) old mid → Ran (opening site (removal i).0) (removal i).1 mid new → MadeCalls site (map removal (take (k + 1) addresses)) old new
one_removed site addresses k i old mid new below is made ran =
    let more : take (k + 1) addresses ≡ take k addresses ++ i ∷ [] = take_more addresses k i below ∙ ap (λ (h : List Hash). take k addresses ++ h ∷ []) (sym is) in
    subst (λ (l : List (List Hash)). MadeCalls site (map removal l) old new) (sym more) (mapped_on site removal (take k addresses) i old mid new made ran)

-- the next one was refused
pub one_refused : (site : Site) (addresses : List (List Hash)) (k : ℕ) (i : List Hash) (e : Error) (old mid new : Option (List LogItem)) → k < length addresses → i ≡ get_or addresses k i → MadeCalls site (map removal (take k addresses)) old mid → Ran (opening site (commands.RemoveHash i)) (replies.Refused (without_message e)) mid new → StopsRemoving site addresses e old new
one_refused site addresses k i e old mid new below is made ran = record {
  gone = take k addresses;
  next = i;
  rest = drop (k + 1) addresses;
  split = sym (take-append-drop k addresses) ∙ ap (λ (l : List (List Hash)). take k addresses ++ l) (drop_more addresses k i below ∙ ap (λ (h : List Hash). h ∷ drop (k + 1) addresses) (sym is));
  between = mid;
  removing = made;
  refused = ran;
}

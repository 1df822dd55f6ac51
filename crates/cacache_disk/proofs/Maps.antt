-- The nodes as a finite map, which holds all that is on a disk.
use Rattle.std.proofs.{lemmas.{Grind.{common_steps}, Cmp.{nat_list_cmp_total, lists_total}}, Common.{arith, ◌≡◌, Bool, true, cond, List, [], ◌∷◌, refl, sym, ap, ◌∙◌}}
use Rattle.std.specs.{Prelude.{◌&&◌, T, None, Some, IsSome, map as keys_of, map as each}, List.{AllByRecursion, Sorted.{IsStrictlySortedBy}}, FinMap.{Entries.{below_all}, IsAntisymmetric, nat_cmp-IsAntisymmetric, slice_cmp-IsAntisymmetric}, declared.cmp.Ordering.{Ordering, TheVariants.{Less, Equal}}, Ordering.{eq_by_cmp, is_eq}, Cmp.{IsTotalOrder, eq_by_cmp_equiv}, BTreeMap.{BTreeMap, is_at}, Map.{lookup}}
use Rattle.cacache_disk.specs.{declared.node.Node.{Node}, Tree.{Tree, Names, names_cmp, same_path}, AllStanding.{item_of, all_standing}}
use Rattle.std.specs.FinMap as map
use Rattle.std.specs.BTreeMap as btree

pub total : IsTotalOrder names_cmp
total = lists_total nat_list_cmp_total

pub only : IsAntisymmetric names_cmp
only = slice_cmp-IsAntisymmetric (slice_cmp-IsAntisymmetric nat_cmp-IsAntisymmetric)

find_lookup : (q : Names) (es : List (Names × Node)) → map.find names_cmp q es ≡ lookup (is_at (names_cmp q)) es
find_lookup q [] = refl
find_lookup q (e ∷ es) = ap (cond (eq_by_cmp names_cmp q e.0) (Some e.1)) (find_lookup q es)

pub get_map : (m : BTreeMap Names Node) (q : Names) → map.get (map.from_entries {R = names_cmp} m.entries) q ≡ btree.get names_cmp m q
get_map m q = map.get-from_entries total m.entries q ∙ find_lookup q m.entries

pub put_map : (m n : BTreeMap Names Node) (k : Names) (v : Node) → btree.Updates names_cmp m n k (Some v)
    → map.from_entries {R = names_cmp} n.entries ≡ map.insert (map.from_entries m.entries) k v
put_map m n k v u = map.same_map total only _ _ (λ q.
    get_map n q ∙ u.0 q ∙ ap (λ b. cond b (Some v) (btree.get names_cmp m q)) ((eq_by_cmp_equiv total).symm k q)
    ∙ sym (map.get-insert total (map.from_entries m.entries) k v q ∙ ap (cond (eq_by_cmp names_cmp q k) (Some v)) (get_map m q)))

pub cut_map : (m n : BTreeMap Names Node) (k : Names) → btree.Updates names_cmp m n k None
    → map.from_entries {R = names_cmp} n.entries ≡ map.remove (map.from_entries m.entries) k
cut_map m n k u = map.same_map total only _ _ (λ q.
    get_map n q ∙ u.0 q ∙ ap (λ b. cond b None (btree.get names_cmp m q)) ((eq_by_cmp_equiv total).symm k q)
    ∙ sym (map.get-remove total (map.from_entries m.entries) k q ∙ ap (cond (eq_by_cmp names_cmp q k) None) (get_map m q)))

pub is_eq_true : (o : Ordering) → is_eq o ≡ true → o ≡ Equal
is_eq_true o e = grind (arith, common_steps)

pub same_path-true : (p q : Names) → same_path p q ≡ true → p ≡ q
same_path-true p q e = only p q (is_eq_true (names_cmp p q) e)

-- a test and then another
pub both : (a b : Bool) → T a → T b → T (a && b)
both a b x y = grind (arith, common_steps)

below_of : (x : Names) (es : List (Names × Node)) → AllByRecursion (λ y. names_cmp x y ≡ Less) (keys_of (λ e. e.0) es) → T (below_all names_cmp x es)
below_of x [] h = tt
below_of x (e ∷ es) h = rw h.0 (below_of x es h.1)

sorted_of : (es : List (Names × Node)) → IsStrictlySortedBy names_cmp (keys_of (λ e. e.0) es) → T (map.is_sorted names_cmp es)
unfolding IsStrictlySortedBy
sorted_of [] h = tt
sorted_of (e ∷ es) h = both _ _ (below_of e.0 es h.0) (sorted_of es h.1)

-- the map's entries are those of the finite map, in the same order
pub entries_map : (m : BTreeMap Names Node) → btree.IsOrdered names_cmp m → map.entries (map.from_entries {R = names_cmp} m.entries) ≡ m.entries
entries_map m ordered =
    let sorted : T (map.is_sorted names_cmp m.entries) = sorted_of m.entries ordered in
    ap map.entries (map.same_map total only _ _ (λ q. map.get-from_entries total m.entries q ∙ sym (map.get-from_sorted names_cmp m.entries q sorted))) ∙ map.entries-from_sorted names_cmp m.entries sorted

-- a value that is written at a key of the map
pub written_map : (m n : BTreeMap Names Node) (k : Names) (v : Node) → IsSome (btree.get names_cmp m k) → btree.WritesThrough names_cmp (names_cmp k) m v n
    → map.from_entries {R = names_cmp} n.entries ≡ map.insert (map.from_entries m.entries) k v
written_map m n k v there written = put_map m n k v (written.3 there)

same_at : (t : Tree) (k q : Names) (v : Node) (b : Bool) → Some v ≡ map.get t k → same_path q k ≡ b → cond b (Some v) (map.get t q) ≡ map.get t q
same_at t k q v b there e = grind (arith, same_path-true)

-- putting what is at a key there again changes nothing
pub put_same : (t : Tree) (k : Names) (v : Node) → Some v ≡ map.get t k → map.insert t k v ≡ t
put_same t k v there = map.same_map total only _ _ (λ q. map.get-insert total t k v q ∙ same_at t k q v _ there refl)

-- ---- all that is on a disk is what its map holds

pub standing_entries : (m : BTreeMap Names Node) (t : Tree) (all : List (Names × Node)) → btree.IsOrdered names_cmp m → map.from_entries m.entries ≡ t
    → all ≡ m.entries → each item_of all ≡ all_standing t
unfolding all_standing
standing_entries m t all ordered is same = ap (each item_of) (same ∙ sym (entries_map m ordered) ∙ ap map.entries is)

-- In the order of paths, the paths below a folder come together right after it.
use Rattle.std.proofs.{lemmas.{Grind.{common_steps}, Bool.{and_parts, and_right}, Cmp.{nat_list_cmp_total}}, Common.{arith, ◌≡◌, ℕ, Bool, true, false, List, [], ◌∷◌, refl, sym, ap, ◌∙◌}}
use Rattle.std.specs.{Prelude.{None, map as keys_of}, List.{AllByRecursion, filter_map, Sorted.{IsStrictlySortedBy}}, Bool.{nat_eq}, declared.{cmp.Ordering.{Ordering, TheVariants.{Less, Equal, Greater}}, ops.Bound.TheVariants.{Included, Unbounded}}, Ordering.{nat_cmp, is_le, ordering_reverse}, Cmp.{eq_by_cmp_equiv, Lexicographic.{pointwise, slice_cmp, bytes_decides}}, FinMap.{nat_cmp-IsAntisymmetric, slice_cmp-IsAntisymmetric}, BTreeMap.{Range.{entries_between}, BTreeMap}}
use Rattle.cacache_disk.{specs.{declared.node.Node.{Node}, Tree.{Tree, Names, names_cmp, is_below, child_of, listing}}, proofs.Maps.{is_eq_true, entries_map}}
use Rattle.std.specs.FinMap as map
use Rattle.std.specs.BTreeMap as btree

pub name_itself : (a : List ℕ) → slice_cmp nat_cmp a a ≡ Equal
name_itself a = is_eq_true _ ((eq_by_cmp_equiv nat_list_cmp_total).refl a)

-- what lies below a folder doesn't come before it
pub below-le : (f p : Names) → is_below f p ≡ true → is_le (names_cmp f p) ≡ true
below-le [] [] h = refl
below-le [] (b ∷ p) h = refl
below-le (a ∷ f) [] h = cc
below-le (a ∷ f) (b ∷ p) h =
    let h = and_parts _ _ h in
    let same : a ≡ b = sym ((bytes_decides b a).0 h.0) in
    rw (same, name_itself b) (below-le f p h.1)

gap_at : (t : Bool) (r : Ordering) (a b c : List ℕ) (f e x : Names) → pointwise nat_eq c a ≡ t → slice_cmp nat_cmp a b ≡ r
    → (is_le (names_cmp f e) ≡ true → is_below f e ≡ false → names_cmp e x ≡ Less → is_below f x ≡ false)
    → is_le (names_cmp (a ∷ f) (b ∷ e)) ≡ true → is_below (a ∷ f) (b ∷ e) ≡ false → names_cmp (b ∷ e) (c ∷ x) ≡ Less → is_below (a ∷ f) (c ∷ x) ≡ false
gap_at false r a b c f e x is ab rest le off lt = rw is refl
gap_at true Less a b c f e x is ab rest le off lt =
    let ca : c ≡ a = (bytes_decides c a).0 is in
    let ba : slice_cmp nat_cmp b c ≡ Greater = rw ca (nat_list_cmp_total.antisymm b a ∙ ap ordering_reverse ab) in
    let e : Greater ≡ Less = rw ba at lt in cc
gap_at true Equal a b c f e x is ab rest le off lt =
    let ca : c ≡ a = (bytes_decides c a).0 is in
    let ba : b ≡ a = sym (slice_cmp-IsAntisymmetric nat_cmp-IsAntisymmetric a b ab) in
    rw is (rest (rw ab at le) (rw (ba, (bytes_decides a a).1 refl) at off) (rw (ba, ca, name_itself a) at lt))
gap_at true Greater a b c f e x is ab rest le off lt = let e : false ≡ true = rw ab at le in cc

-- after a path that comes after a folder and isn't below it, nothing is below the folder
pub gap : (f e x : Names) → is_le (names_cmp f e) ≡ true → is_below f e ≡ false → names_cmp e x ≡ Less → is_below f x ≡ false
gap [] e x le off lt = cc
gap (a ∷ f) [] x le off lt = cc
gap (a ∷ f) (b ∷ e) [] le off lt = refl
gap (a ∷ f) (b ∷ e) (c ∷ x) le off lt = gap_at _ _ a b c f e x refl refl (gap f e x) le off lt

no_child : (folder : Names) (entry : Names × Node) → is_below folder entry.0 ≡ false → child_of folder entry ≡ None
no_child folder entry off = rw (and_right _ _ off) refl

-- if a path isn't below the folder, neither it nor any path after it is a name there
abbrev pub Stops : Names → List (Names × Node) → Type 0
Stops folder [] = Unit {0}
Stops folder (e ∷ es) = (is_below folder e.0 ≡ false → filter_map (child_of folder) (e ∷ es) ≡ []) × Stops folder es

none_below : (folder q : Names) (es : List (Names × Node)) → is_le (names_cmp folder q) ≡ true → is_below folder q ≡ false
    → AllByRecursion (λ y. names_cmp q y ≡ Less) (keys_of (λ e. e.0) es) → filter_map (child_of folder) es ≡ []
none_below folder q [] le off after = refl
none_below folder q (e ∷ es) le off after = rw (no_child folder e (gap folder q e.0 le off after.0)) (none_below folder q es le off after.1)

-- those that don't come before the folder
abbrev pub from_on : Names → List (Names × Node) → List (Names × Node)
from_on folder es = entries_between names_cmp (Included folder) Unbounded es

after_from_at : (b : Bool) (folder q : Names) (e : Names × Node) (es : List (Names × Node)) → is_le (names_cmp folder e.0) ≡ b
    → names_cmp q e.0 ≡ Less → AllByRecursion (λ y. names_cmp q y ≡ Less) (keys_of (λ e. e.0) (from_on folder es))
    → AllByRecursion (λ y. names_cmp q y ≡ Less) (keys_of (λ e. e.0) (from_on folder (e ∷ es)))
after_from_at b folder q e es is first rest = grind (arith, common_steps)

after_from : (folder q : Names) (es : List (Names × Node)) → AllByRecursion (λ y. names_cmp q y ≡ Less) (keys_of (λ e. e.0) es)
    → AllByRecursion (λ y. names_cmp q y ≡ Less) (keys_of (λ e. e.0) (from_on folder es))
after_from folder q [] after = tt
after_from folder q (e ∷ es) after = after_from_at _ folder q e es refl after.0 (after_from folder q es after.1)

stops_at : (b : Bool) (folder : Names) (e : Names × Node) (es : List (Names × Node)) → is_le (names_cmp folder e.0) ≡ b
    → AllByRecursion (λ y. names_cmp e.0 y ≡ Less) (keys_of (λ e. e.0) es) → Stops folder (from_on folder es) → Stops folder (from_on folder (e ∷ es))
stops_at true folder e es is after rest = rw is (λ off. rw (no_child folder e off) (none_below folder e.0 (from_on folder es) is off (after_from folder e.0 es after)), rest)
stops_at false folder e es is after rest = rw is rest

stops : (folder : Names) (es : List (Names × Node)) → IsStrictlySortedBy names_cmp (keys_of (λ e. e.0) es) → Stops folder (from_on folder es)
unfolding IsStrictlySortedBy
stops folder [] s = tt
stops folder (e ∷ es) s = stops_at _ folder e es refl s.0 (stops folder es s.1)

not_below : (folder q : Names) (b : Bool) → is_below folder q ≡ b → is_le (names_cmp folder q) ≡ false → is_below folder q ≡ false
not_below folder q b is before = grind (arith, below-le)

children_at : (b : Bool) (folder : Names) (e : Names × Node) (es : List (Names × Node)) → is_le (names_cmp folder e.0) ≡ b
    → filter_map (child_of folder) (from_on folder es) ≡ filter_map (child_of folder) es
    → filter_map (child_of folder) (from_on folder (e ∷ es)) ≡ filter_map (child_of folder) (e ∷ es)
children_at b folder e es is rest = grind (arith, no_child, not_below)

children : (folder : Names) (es : List (Names × Node)) → filter_map (child_of folder) (from_on folder es) ≡ filter_map (child_of folder) es
children folder [] = refl
children folder (e ∷ es) = children_at _ folder e es refl (children folder es)

-- leaving out the paths that come before the folder leaves its listing the same
pub listing_from : (m : BTreeMap Names Node) (t : Tree) (folder : Names) (rest : List (Names × Node)) → btree.IsOrdered names_cmp m → map.from_entries m.entries ≡ t
    → rest ≡ from_on folder m.entries → filter_map (child_of folder) rest ≡ listing t folder
unfolding listing
listing_from m t folder rest ordered is all = rw (all, sym is, entries_map m ordered) (children folder m.entries)

pub stops_from : (m : BTreeMap Names Node) (folder : Names) (rest : List (Names × Node)) → btree.IsOrdered names_cmp m → rest ≡ from_on folder m.entries → Stops folder rest
stops_from m folder rest ordered all = rw all (stops folder m.entries ordered)

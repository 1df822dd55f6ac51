-- A value that a text reads as has its names in order and its numbers in range.
use Rattle.std.proofs.{lemmas.{Grind.{common_steps}, Bool.{or_parts}, Cmp.{nat_list_cmp_total}}, Common.{◌≡◌, ℕ, ◌^◌, ◌<◌, ◌≤◌, pos, negsuc, List, Bool, true, false, cond, Option, Some, None, option_map, option_and_then, Ordering, Less, Equal, Greater, nat_cmp, refl, ap, ◌∙◌, subst, arith}}
use Rattle.std.specs.{Prelude.{⊤, ◌==◌, slice_index, drop, IsUtf8}, Cmp.Lexicographic.{slice_cmp}, Ordering.{match_ordering, ordering_reverse}}
use Rattle.fast_float.specs.Text.{minus, Parts, scan, with_sign}
use Rattle.json.{specs.Lex.{tokens}, proofs.Printed.Utf8.{IsUtf8-are_ascii}}
use Rattle.json.specs.Json as json
use Rattle.serde_json.specs.{Data.{Num, unsigned, negative, float, Data, null, boolean, number, string, array, object, Items, no_items, item, Members, no_members, member, put}, Find.{is_float}, Read.{float_of, number_from, number_of, of_json, of_items, of_members, read, max_depth}, Written.{compact_text, has_float, items_have_float, members_have_float}}
use Rattle.cacache_entry.specs.FittingEntries.{IsJson, AreAbove, IsOrdered, ItemsAreOrdered, MembersAreOrdered, IsWholeNumber, IsWhole, ItemsAreWhole, MembersAreWhole}

abbrev Given : {A : Type 0} → (A → Type 0) → Option A → Type 0
Given P None = ⊤
Given P (Some a) = P a

Given-map : {A B : Type 0} (P : A → Type 0) (Q : B → Type 0) (h : A → B) → ((a : A) → P a → Q (h a)) → (o : Option A) → Given P o → Given Q (option_map h o)
Given-map P Q h k o x = grind (arith, common_steps)

Given-and_then : {A B : Type 0} (P : A → Type 0) (Q : B → Type 0) (h : A → Option B) → ((a : A) → P a → Given Q (h a)) → (o : Option A) → Given P o → Given Q (option_and_then h o)
Given-and_then P Q h k o x = grind (arith, common_steps)

always : {A : Type 0} (o : Option A) → Given (λ _. ⊤) o
always o = grind (arith, common_steps)

-- ---- names in order

AreAbove-match_ordering : (o : Ordering) (k : List ℕ) (a b c : Members) → AreAbove k a → AreAbove k b → AreAbove k c → AreAbove k (match_ordering o a b c)
AreAbove-match_ordering o k a b c p q r = grind (arith, common_steps)

AreAbove-put : (l k : List ℕ) (d : Data) (ms : Members) → slice_cmp nat_cmp l k ≡ Less → AreAbove l ms → AreAbove l (put k d ms)
AreAbove-put l k d no_members h p = (h, tt)
AreAbove-put l k d (member m e ms) h p =
    AreAbove-match_ordering (slice_cmp nat_cmp k m) l (member k d (member m e ms)) (member m d ms) (member m e (put k d ms)) (h, p) p (p.0, AreAbove-put l k d ms h p.1)

AreAbove-less : (k m : List ℕ) (ms : Members) → slice_cmp nat_cmp k m ≡ Less → AreAbove m ms → AreAbove k ms
AreAbove-less k m no_members h p = tt
AreAbove-less k m (member l e ms) h p = (nat_list_cmp_total.trans k m l h p.0, AreAbove-less k m ms h p.1)

-- one turn of `put`, by how the names compare
put_turn : (o : Ordering) (k m : List ℕ) (d e : Data) (ms : Members) → slice_cmp nat_cmp k m ≡ o → IsOrdered d → MembersAreOrdered (member m e ms) → MembersAreOrdered (put k d ms)
    → MembersAreOrdered (match_ordering o (member k d (member m e ms)) (member m d ms) (member m e (put k d ms)))
put_turn Less k m d e ms is fine h later = ((is, AreAbove-less k m ms is h.0), fine, h)
put_turn Equal k m d e ms is fine h later = (h.0, fine, h.2)
put_turn Greater k m d e ms is fine h later =
    let below : slice_cmp nat_cmp m k ≡ Less = nat_list_cmp_total.antisymm m k ∙ ap ordering_reverse is in
    (AreAbove-put m k d ms below h.0, h.1, later)

-- inserting a member keeps the order
MembersAreOrdered-put : (k : List ℕ) (d : Data) (ms : Members) → IsOrdered d → MembersAreOrdered ms → MembersAreOrdered (put k d ms)
MembersAreOrdered-put k d no_members fine h = (tt, fine, tt)
MembersAreOrdered-put k d (member m e ms) fine h = put_turn (slice_cmp nat_cmp k m) k m d e ms refl fine h (MembersAreOrdered-put k d ms fine h.2)

mutual
  IsOrdered-of_json : (j : json.Json) → Given IsOrdered (of_json j)
  IsOrdered-of_json (json.number s) = Given-map (λ _. ⊤) IsOrdered number (λ n x. tt) (number_of s) (always (number_of s))
  IsOrdered-of_json (json.array js) = Given-map ItemsAreOrdered IsOrdered array (λ ds x. x) (of_items js) (ItemsAreOrdered-of_items js)
  IsOrdered-of_json (json.object ms) = Given-map MembersAreOrdered IsOrdered object (λ ds x. x) (of_members ms no_members) (MembersAreOrdered-of_members ms no_members tt)
  IsOrdered-of_json j = tt

  ItemsAreOrdered-of_items : (js : json.Items) → Given ItemsAreOrdered (of_items js)
  ItemsAreOrdered-of_items json.no_items = tt
  ItemsAreOrdered-of_items (json.item j js) =
      Given-and_then IsOrdered ItemsAreOrdered _ (λ d x. Given-map ItemsAreOrdered ItemsAreOrdered (item d) (λ ds y. (x, y)) (of_items js) (ItemsAreOrdered-of_items js)) (of_json j) (IsOrdered-of_json j)

  MembersAreOrdered-of_members : (ms : json.Members) (found : Members) → MembersAreOrdered found → Given MembersAreOrdered (of_members ms found)
  MembersAreOrdered-of_members json.no_members found h = h
  MembersAreOrdered-of_members (json.member k j ms) found h =
      Given-and_then IsOrdered MembersAreOrdered _ (λ d x. MembersAreOrdered-of_members ms (put k d found) (MembersAreOrdered-put k d found x h)) (of_json j) (IsOrdered-of_json j)

abbrev parsed : List ℕ → Option json.Json
parsed text = option_and_then (λ p. json.if_last p.0 p.1) (json.value max_depth (tokens text))

from_json : (P : Data → Type 0) → ((j : json.Json) → Given P (of_json j)) → (o : Option json.Json) → Given P (option_and_then of_json o)
from_json P f o = grind (arith, common_steps)

-- a value that a text reads as has each name once, in order
pub IsOrdered-read : (text : List ℕ) (d : Data) → read text ≡ Some d → IsOrdered d
IsOrdered-read text d e = subst (Given IsOrdered) e (from_json IsOrdered IsOrdered-of_json (parsed text))

-- ---- numbers in range

abbrev IsRanged : Num → Type 0
IsRanged (unsigned n) = n < 2 ^ 64
IsRanged (negative (pos n)) = ⊥
IsRanged (negative (negsuc n)) = n < 2 ^ 63
IsRanged (float x) = ⊤

abbrev mutual
  InRange : Data → Type 0
  InRange null = ⊤
  InRange (boolean b) = ⊤
  InRange (number n) = IsRanged n
  InRange (string s) = ⊤
  InRange (array ds) = ItemsInRange ds
  InRange (object ms) = MembersInRange ms

  ItemsInRange : Items → Type 0
  ItemsInRange no_items = ⊤
  ItemsInRange (item d ds) = InRange d × ItemsInRange ds

  MembersInRange : Members → Type 0
  MembersInRange no_members = ⊤
  MembersInRange (member k d ms) = InRange d × MembersInRange ms

finite : (b : Bool) (x : Num) → IsRanged x → Given IsRanged (cond b (Some x) None)
finite b x h = grind (arith, common_steps)

IsRanged-float_of : (sign : Bool) (p : Parts) → Given IsRanged (float_of sign p)
IsRanged-float_of sign p = finite _ (float _) tt

picked : (b : Bool) (x : Num) (o : Option Num) → (b ≡ true → IsRanged x) → Given IsRanged o → Given IsRanged (cond b (Some x) o)
picked b x o h g = grind (arith, common_steps)

below_zero : (n : ℕ) → 0 < n → n ≤ 2 ^ 63 → IsRanged (negative (with_sign true n))
below_zero n some h = grind (arith, common_steps)

-- a number that was read is in range, whatever its sign
IsRanged-number_from : (sign : Bool) (p : Parts) → Given IsRanged (number_from sign p)
IsRanged-number_from sign p = grind (arith, picked, below_zero)

by_sign : (b : Bool) (x y : Option Num) → Given IsRanged x → Given IsRanged y → Given IsRanged (cond b x y)
by_sign b x y g h = grind (arith, common_steps)

IsRanged-number_of : (s : List ℕ) → Given IsRanged (number_of s)
unfolding number_of
IsRanged-number_of s = by_sign (slice_index s 0 == minus) (number_from true (scan (drop 1 s))) (number_from false (scan s)) (IsRanged-number_from true (scan (drop 1 s))) (IsRanged-number_from false (scan s))

MembersInRange-match_ordering : (o : Ordering) (a b c : Members) → MembersInRange a → MembersInRange b → MembersInRange c → MembersInRange (match_ordering o a b c)
MembersInRange-match_ordering o a b c p q r = grind (arith, common_steps)

MembersInRange-put : (k : List ℕ) (d : Data) (ms : Members) → InRange d → MembersInRange ms → MembersInRange (put k d ms)
MembersInRange-put k d no_members fine h = (fine, tt)
MembersInRange-put k d (member m e ms) fine h =
    MembersInRange-match_ordering (slice_cmp nat_cmp k m) (member k d (member m e ms)) (member m d ms) (member m e (put k d ms)) (fine, h) (fine, h.1) (h.0, MembersInRange-put k d ms fine h.1)

mutual
  InRange-of_json : (j : json.Json) → Given InRange (of_json j)
  InRange-of_json (json.number s) = Given-map IsRanged InRange number (λ n x. x) (number_of s) (IsRanged-number_of s)
  InRange-of_json (json.array js) = Given-map ItemsInRange InRange array (λ ds x. x) (of_items js) (ItemsInRange-of_items js)
  InRange-of_json (json.object ms) = Given-map MembersInRange InRange object (λ ds x. x) (of_members ms no_members) (MembersInRange-of_members ms no_members tt)
  InRange-of_json j = tt

  ItemsInRange-of_items : (js : json.Items) → Given ItemsInRange (of_items js)
  ItemsInRange-of_items json.no_items = tt
  ItemsInRange-of_items (json.item j js) =
      Given-and_then InRange ItemsInRange _ (λ d x. Given-map ItemsInRange ItemsInRange (item d) (λ ds y. (x, y)) (of_items js) (ItemsInRange-of_items js)) (of_json j) (InRange-of_json j)

  MembersInRange-of_members : (ms : json.Members) (found : Members) → MembersInRange found → Given MembersInRange (of_members ms found)
  MembersInRange-of_members json.no_members found h = h
  MembersInRange-of_members (json.member k j ms) found h =
      Given-and_then InRange MembersInRange _ (λ d x. MembersInRange-of_members ms (put k d found) (MembersInRange-put k d found x h)) (of_json j) (InRange-of_json j)

no_float : (n : Num) → IsRanged n → is_float n ≡ false → IsWholeNumber n
no_float n h e = grind (arith, common_steps)

mutual
  IsWhole-InRange : (d : Data) → InRange d → has_float d ≡ false → IsWhole d
  IsWhole-InRange (number n) h e = no_float n h e
  IsWhole-InRange (array ds) h e = ItemsAreWhole-InRange ds h e
  IsWhole-InRange (object ms) h e = MembersAreWhole-InRange ms h e
  IsWhole-InRange d h e = tt

  ItemsAreWhole-InRange : (ds : Items) → ItemsInRange ds → items_have_float ds ≡ false → ItemsAreWhole ds
  ItemsAreWhole-InRange no_items h e = tt
  ItemsAreWhole-InRange (item d ds) h e = let p = or_parts (has_float d) _ e in (IsWhole-InRange d h.0 p.0, ItemsAreWhole-InRange ds h.1 p.1)

  MembersAreWhole-InRange : (ms : Members) → MembersInRange ms → members_have_float ms ≡ false → MembersAreWhole ms
  MembersAreWhole-InRange no_members h e = tt
  MembersAreWhole-InRange (member k d ms) h e = let p = or_parts (has_float d) _ e in (IsWhole-InRange d h.0 p.0, MembersAreWhole-InRange ms h.1 p.1)

-- and it has its numbers in range, if none is a float
pub IsWhole-read : (text : List ℕ) (d : Data) → read text ≡ Some d → has_float d ≡ false → IsWhole d
IsWhole-read text d e whole = IsWhole-InRange d (subst (Given InRange) e (from_json InRange InRange-of_json (parsed text))) whole

-- ---- values that read back

pub IsJson-null : IsJson null
IsJson-null = record { utf8 = IsUtf8-are_ascii _ refl; ordered = tt; in_range = λ whole. tt }

-- a value that reads back from its own UTF-8 text is JSON
pub IsJson-read : (d : Data) → IsUtf8 (compact_text d) → read (compact_text d) ≡ Some d → IsJson d
IsJson-read d utf8 reads = record { utf8 = utf8; ordered = IsOrdered-read (compact_text d) d reads; in_range = IsWhole-read (compact_text d) d reads }

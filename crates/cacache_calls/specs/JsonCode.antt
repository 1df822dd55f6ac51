-- How the logic stores JSON data, as a tree of numbers from which it can be recovered, and what holds of each JSON value.
use Rattle.std.specs.{Prelude.{◌≡◌, ◌⊎◌, ℕ, ℤ, List, refl, ◌<◌, ◌^◌, pos, negsuc, IsUtf8}, Float.{Float}, Coded.{Coded, code_by, coded⊎, coded_ℕ, coded_ℤ, coded_bool, coded_list}}
use Rattle.std.proofs.Common.{inl, inr, ap, sym, subst}
use Rattle.serde_json.specs.Data.{Num, unsigned, negative, float, Data, null, boolean, number, string, array, object, Items, no_items, item, Members, no_members, member}
use Rattle.cacache_entry.specs.FittingEntries.{IsJson}
use base.Stored.{coded_float, Gv, gnil, gnum, gcons}

-- ---- numbers

abbrev split : Num → ℕ ⊎ (ℤ ⊎ Float)
split (unsigned n) = inl n
split (negative z) = inr (inl z)
split (float x) = inr (inr x)

abbrev join : ℕ ⊎ (ℤ ⊎ Float) → Num
join (inl n) = unsigned n
join (inr (inl z)) = negative z
join (inr (inr x)) = float x

pub join-split : (n : Num) → join (split n) ≡ n
join-split (unsigned n) = refl
join-split (negative z) = refl
join-split (float x) = refl

-- the code of a JSON number
abbrev pub num_code : Coded Num
num_code =
    code_by (ℕ ⊎ (ℤ ⊎ Float)) (coded⊎ coded_ℕ (coded⊎ coded_ℤ coded_float))
    split join join-split

-- ---- values

abbrev tag : Gv → ℕ
tag (gcons (gnum n) b) = n
tag g = 0

abbrev head : Gv → Gv
head (gcons a b) = a
head g = gnil

abbrev tail : Gv → Gv
tail (gcons a b) = b
tail g = gnil

abbrev IsCons : Gv → Type 0
IsCons (gcons a b) = Unit {0}
IsCons g = ⊥

abbrev text : List ℕ → Gv
text s = (coded_list coded_ℕ).code s

abbrev mutual
  data_tree : Data → Gv
  data_tree null = gcons (gnum 0) gnil
  data_tree (boolean b) = gcons (gnum 1) (coded_bool.code b)
  data_tree (number n) = gcons (gnum 2) (num_code.code n)
  data_tree (string s) = gcons (gnum 3) (text s)
  data_tree (array ds) = gcons (gnum 4) (items_tree ds)
  data_tree (object ms) = gcons (gnum 5) (members_tree ms)

  items_tree : Items → Gv
  items_tree no_items = gnil
  items_tree (item d ds) = gcons (data_tree d) (items_tree ds)

  members_tree : Members → Gv
  members_tree no_members = gnil
  members_tree (member k d ms) = gcons (text k) (gcons (data_tree d) (members_tree ms))

same_text : (s t : List ℕ) → text s ≡ text t → s ≡ t
same_text s t p = (coded_list coded_ℕ).inj s t p

mutual
  pub same_data : (x y : Data) → data_tree x ≡ data_tree y → x ≡ y
  same_data null null p = refl
  same_data (boolean b) (boolean c) p = ap boolean (coded_bool.inj b c (ap tail p))
  same_data (number m) (number n) p = ap number (num_code.inj m n (ap tail p))
  same_data (string s) (string t) p = ap string (same_text s t (ap tail p))
  same_data (array ds) (array es) p = ap array (same_items ds es (ap tail p))
  same_data (object ms) (object ns) p = ap object (same_members ms ns (ap tail p))
  same_data x y p = absurd (let e = ap tag p in cc)

  same_items : (x y : Items) → items_tree x ≡ items_tree y → x ≡ y
  same_items no_items no_items p = refl
  same_items (item d ds) (item e es) p =
      λ i. item (same_data d e (ap head p) i) (same_items ds es (ap tail p) i)
  same_items no_items (item e es) p = absurd (subst IsCons (sym p) tt)
  same_items (item d ds) no_items p = absurd (subst IsCons p tt)

  same_members : (x y : Members) → members_tree x ≡ members_tree y → x ≡ y
  same_members no_members no_members p = refl
  same_members (member k d ms) (member l e ns) p =
      λ i. member (same_text k l (ap head p) i) (same_data d e (ap (λ g. head (tail g)) p) i)
      (same_members ms ns (ap (λ g. tail (tail g)) p) i)
  same_members no_members (member l e ns) p = absurd (subst IsCons (sym p) tt)
  same_members (member k d ms) no_members p = absurd (subst IsCons p tt)

-- the code of JSON data
abbrev pub data_code : Coded Data
data_code = record { code = data_tree; inj = same_data }

-- ---- what holds of each JSON value: of its numbers, items and members

-- a number that isn't negative has 64 bits; one that is negative is below zero and has 64 bits
abbrev pub IsRanged : Num → Type 0
IsRanged (unsigned n) = n < 2 ^ 64
IsRanged (negative (pos n)) = ⊥
IsRanged (negative (negsuc n)) = n < 2 ^ 63
IsRanged (float x) = Unit {0}

-- each item is JSON
abbrev pub AllJson : Items → Type 0
AllJson no_items = Unit {0}
AllJson (item d ds) = IsJson d × AllJson ds

-- each name is UTF-8, and each member JSON
abbrev pub NamedJson : Members → Type 0
NamedJson no_members = Unit {0}
NamedJson (member k d ms) = IsUtf8 k × IsJson d × NamedJson ms

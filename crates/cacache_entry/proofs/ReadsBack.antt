-- An entry that fits reads back from its own text.
use Rattle.std.proofs.{lemmas.{Grind.{common_steps}, Cmp.{nat_list_cmp_total}, Bool.{cases_eq}}, Common.{rules, ◌≡◌, ℕ, suc, ◌^◌, ◌<◌, ◌≤◌, max, negsuc, List, [], ◌∷◌, false, Option, Some, None, option_map, option_and_then, Less, Greater, nat_cmp, codes, refl, sym, ap, ap₂, subst, inl, inr, ◌⊎◌, ◌∙◌, arith, append-nil, lt-ltb}}
use Rattle.std.specs.{Cmp.Lexicographic.{slice_cmp}, Ordering.{ordering_reverse}, Fmt.{signed_decimal, digits}}
use Rattle.json.specs.{Print.{IsNumber}, Token.{Token}, Lex.{tokens}}
use Rattle.json.proofs.{OnLiterals.{json_on_literals}, Printed.{Tokens.{tokens-print}, Trees.{value-json_tokens, ArePrintable-json_tokens}, Decimals.{IsNumber-decimal, IsNumber-signed_decimal}}}
use Rattle.json.specs.Json as json
use Rattle.json.specs.Tree as tree
use Rattle.serde_json.specs.{Data.{Num, unsigned, negative, Data, number, string, array, object, Items, no_items, item, Members, no_members, member, put, depth, items_depth, members_depth}, Find.{is_float}, Read.{number_of, of_json, of_items, of_members, read, max_depth}, Written.{number_text, outline, items_outline, members_outline, compact_text, has_float, items_have_float, members_have_float}}
use Rattle.serde_json.proofs.{Numbers.{number_of-decimal, number_of-negative}, Texts.{print-outline}}
use Rattle.cacache_entry.specs.{Entry.{Entry, text_or_null, byte_items, bytes_or_null, members_of, text_of}, EntryTexts.{text_or_none, bytes_of, bytes_or_none, entry_read, read_entry}, FittingEntries.{EachIsByte, AreBytes, AreAbove, IsOrdered, ItemsAreOrdered, MembersAreOrdered, IsWholeNumber, IsWhole, ItemsAreWhole, MembersAreWhole, IsEntry, IsWritable}}

-- ---- the outline of a value nests as deep as the value

mutual
  depth-outline : (d : Data) → tree.depth (outline d) ≡ depth d
  depth-outline (array ds) = ap suc (items_depth-outline ds)
  depth-outline (object ms) = ap suc (members_depth-outline ms)
  depth-outline d = refl

  items_depth-outline : (ds : Items) → tree.items_depth (items_outline ds) ≡ items_depth ds
  items_depth-outline no_items = refl
  items_depth-outline (item d ds) = ap₂ max (depth-outline d) (items_depth-outline ds)

  members_depth-outline : (ms : Members) → tree.members_depth (members_outline ms) ≡ members_depth ms
  members_depth-outline no_members = refl
  members_depth-outline (member k d ms) = ap₂ max (depth-outline d) (members_depth-outline ms)

-- ---- its numbers can be written

lowest : IsNumber (signed_decimal (negsuc 9223372036854775807))
unfolding json_on_literals digits
lowest = refl

HasNegative : (n : ℕ) → n < 2 ^ 63 → (n ≡ 9223372036854775807) ⊎ (n ≡ 9223372036854775807 → ⊥) → IsNumber (signed_decimal (negsuc n))
HasNegative n h (inl e) = subst (λ k. IsNumber (signed_decimal (negsuc k))) (sym e) lowest
HasNegative n h (inr e) = IsNumber-signed_decimal (negsuc n) (omega arith)

HasNumber : (n : Num) → IsWholeNumber n → tree.HasNumbers (json.number (number_text n))
HasNumber (unsigned n) h = IsNumber-decimal n h
HasNumber (negative (negsuc n)) h = HasNegative n h (cases_eq n 9223372036854775807)
HasNumber n h = absurd h

mutual
  HasNumbers-outline : (d : Data) → IsWhole d → tree.HasNumbers (outline d)
  HasNumbers-outline (number n) h = HasNumber n h
  HasNumbers-outline (array ds) h = ItemsHaveNumbers-outline ds h
  HasNumbers-outline (object ms) h = MembersHaveNumbers-outline ms h
  HasNumbers-outline d h = tt

  ItemsHaveNumbers-outline : (ds : Items) → ItemsAreWhole ds → tree.ItemsHaveNumbers (items_outline ds)
  ItemsHaveNumbers-outline no_items h = tt
  ItemsHaveNumbers-outline (item d ds) h = (HasNumbers-outline d h.0, ItemsHaveNumbers-outline ds h.1)

  MembersHaveNumbers-outline : (ms : Members) → MembersAreWhole ms → tree.MembersHaveNumbers (members_outline ms)
  MembersHaveNumbers-outline no_members h = tt
  MembersHaveNumbers-outline (member k d ms) h = (HasNumbers-outline d h.0, MembersHaveNumbers-outline ms h.1)

-- what a text reads as, from the grammar's answer for its tokens
abbrev pub from_grammar : Option (json.Json × List Token) → Option Data
from_grammar o = option_and_then of_json (option_and_then (λ p. json.if_last p.0 p.1) o)

-- a compact text reads as the value that its outline stands for, whatever the order of its names
pub read-compact_text : (d : Data) → IsWhole d → depth d ≤ max_depth → read (compact_text d) ≡ of_json (outline d)
read-compact_text d numbers shallow =
    let same : tokens (compact_text d) ≡ tree.json_tokens (outline d) = ap tokens (sym (print-outline d)) ∙ tokens-print _ (ArePrintable-json_tokens (outline d) (HasNumbers-outline d numbers)) in
    ap from_grammar (ap (json.value max_depth) (same ∙ sym (append-nil _)) ∙ value-json_tokens (outline d) max_depth [] (omega (arith, depth-outline d)))

-- ---- a value with its names in order is what its outline stands for

number_of-text : (n : Num) → IsWholeNumber n → number_of (number_text n) ≡ Some n
number_of-text n h = grind (arith, number_of-decimal, number_of-negative)

abbrev join : Members → Members → Members
join no_members ns = ns
join (member k d ms) ns = member k d (join ms ns)

join-nil : (ms : Members) → join ms no_members ≡ ms
join-nil no_members = refl
join-nil (member k d ms) = ap (member k d) (join-nil ms)

join_assoc : (ms ns os : Members) → join (join ms ns) os ≡ join ms (join ns os)
join_assoc no_members ns os = refl
join_assoc (member k d ms) ns os = ap (member k d) (join_assoc ms ns os)

-- every name is below k
abbrev AreBelow : Members → List ℕ → Type 0
AreBelow no_members k = Unit {0}
AreBelow (member l d ms) k = (slice_cmp nat_cmp l k ≡ Less) × AreBelow ms k

-- every name of the first is below every name of the second
abbrev Precede : Members → Members → Type 0
Precede done no_members = Unit {0}
Precede done (member k d ms) = AreBelow done k × Precede done ms

AreBelow-join : (ms ns : Members) (k : List ℕ) → AreBelow ms k → AreBelow ns k → AreBelow (join ms ns) k
AreBelow-join no_members ns k h g = g
AreBelow-join (member l d ms) ns k h g = (h.0, AreBelow-join ms ns k h.1 g)

Precede-more : (done : Members) (k : List ℕ) (d : Data) (ms : Members) → Precede done ms → AreAbove k ms → Precede (join done (member k d no_members)) ms
Precede-more done k d no_members h above = tt
Precede-more done k d (member l e ms) h above = (AreBelow-join done (member k d no_members) l h.0 (above.0, tt), Precede-more done k d ms h.1 above.1)

Precede-nil : (ms : Members) → Precede no_members ms
Precede-nil no_members = tt
Precede-nil (member k d ms) = (tt, Precede-nil ms)

above_from_below : (k l : List ℕ) → slice_cmp nat_cmp l k ≡ Less → slice_cmp nat_cmp k l ≡ Greater
above_from_below k l h = nat_list_cmp_total.antisymm k l ∙ ap ordering_reverse h

-- a name above all others is inserted last
put_last : (k : List ℕ) (d : Data) (done : Members) → AreBelow done k → put k d done ≡ join done (member k d no_members)
put_last k d no_members h = refl
put_last k d (member l e ms) h = rw (above_from_below k l h.0) (ap (member l e) (put_last k d ms h.1))

mutual
  pub of_json-outline : (d : Data) → IsWhole d → IsOrdered d → of_json (outline d) ≡ Some d
  of_json-outline (number n) w o = ap (option_map number) (number_of-text n w)
  of_json-outline (array ds) w o = ap (option_map array) (of_items-outline ds w o)
  of_json-outline (object ms) w o = ap (option_map object) (of_members-outline ms no_members w o (Precede-nil ms))
  of_json-outline d w o = refl

  of_items-outline : (ds : Items) → ItemsAreWhole ds → ItemsAreOrdered ds → of_items (items_outline ds) ≡ Some ds
  of_items-outline no_items w o = refl
  of_items-outline (item d ds) w o = rw (of_json-outline d w.0 o.0) (rw (of_items-outline ds w.1 o.1) refl)

  of_members-outline : (ms done : Members) → MembersAreWhole ms → MembersAreOrdered ms → Precede done ms → of_members (members_outline ms) done ≡ Some (join done ms)
  of_members-outline no_members done w o p = ap Some (sym (join-nil done))
  of_members-outline (member k d ms) done w o p =
      rw (of_json-outline d w.0 o.1, put_last k d done p.0)
      (of_members-outline ms (join done (member k d no_members)) w.1 o.2 (Precede-more done k d ms p.1 o.0) ∙ ap Some (join_assoc done (member k d no_members) ms))

-- ---- an entry

text_or_none-text_or_null : (o : Option (List ℕ)) → text_or_none (text_or_null o) ≡ Some o
text_or_none-text_or_null o = grind (arith, common_steps)

bytes_of-byte_numbers : (bs : List ℕ) → EachIsByte bs → bytes_of (byte_items bs) ≡ Some bs
bytes_of-byte_numbers [] h = refl
bytes_of-byte_numbers (b ∷ bs) h = rw (lt-ltb b 256 h.0) (rw (bytes_of-byte_numbers bs h.1) refl)

bytes_or_none-bytes_or_null : (o : Option (List ℕ)) → AreBytes o → bytes_or_none (bytes_or_null o) ≡ Some o
bytes_or_none-bytes_or_null o h = grind (arith, bytes_of-byte_numbers)

is_float-IsWhole : (n : Num) → IsWholeNumber n → is_float n ≡ false
is_float-IsWhole n h = grind (arith, common_steps)

mutual
  pub has_float-IsWhole : (d : Data) → IsWhole d → has_float d ≡ false
  has_float-IsWhole (number n) h = is_float-IsWhole n h
  has_float-IsWhole (array ds) h = items_have_float-AreWhole ds h
  has_float-IsWhole (object ms) h = members_have_float-AreWhole ms h
  has_float-IsWhole d h = refl

  items_have_float-AreWhole : (ds : Items) → ItemsAreWhole ds → items_have_float ds ≡ false
  items_have_float-AreWhole no_items h = refl
  items_have_float-AreWhole (item d ds) h = rw (has_float-IsWhole d h.0) (items_have_float-AreWhole ds h.1)

  members_have_float-AreWhole : (ms : Members) → MembersAreWhole ms → members_have_float ms ≡ false
  members_have_float-AreWhole no_members h = refl
  members_have_float-AreWhole (member k d ms) h = rw (has_float-IsWhole d h.0) (members_have_float-AreWhole ms h.1)

ItemsAreWhole-byte_numbers : (bs : List ℕ) → EachIsByte bs → ItemsAreWhole (byte_items bs)
ItemsAreWhole-byte_numbers [] h = tt
ItemsAreWhole-byte_numbers (b ∷ bs) h = (omega (arith, h.0), ItemsAreWhole-byte_numbers bs h.1)

IsWhole-bytes_or_null : (o : Option (List ℕ)) → AreBytes o → IsWhole (bytes_or_null o)
IsWhole-bytes_or_null None h = tt
IsWhole-bytes_or_null (Some bs) h = ItemsAreWhole-byte_numbers bs h

ItemsAreOrdered-byte_numbers : (bs : List ℕ) → ItemsAreOrdered (byte_items bs)
ItemsAreOrdered-byte_numbers [] = tt
ItemsAreOrdered-byte_numbers (b ∷ bs) = (tt, ItemsAreOrdered-byte_numbers bs)

IsOrdered-bytes_or_null : (o : Option (List ℕ)) → IsOrdered (bytes_or_null o)
IsOrdered-bytes_or_null None = tt
IsOrdered-bytes_or_null (Some bs) = ItemsAreOrdered-byte_numbers bs

IsWhole-text_or_null : (o : Option (List ℕ)) → IsWhole (text_or_null o)
IsWhole-text_or_null o = grind (arith, common_steps)

IsOrdered-text_or_null : (o : Option (List ℕ)) → IsOrdered (text_or_null o)
IsOrdered-text_or_null o = grind (arith, common_steps)

-- the numbers of an entry's members are all whole
pub MembersAreWhole-members_of : (e : Entry) → IsEntry e → IsWritable e → MembersAreWhole (members_of e)
MembersAreWhole-members_of e h f = (tt, (IsWhole-text_or_null e.integrity, (f.time, (f.size, (f.whole, (IsWhole-bytes_or_null e.raw_metadata h.raw_metadata, tt))))))

-- what the members of an entry read as: they are inserted in the order of their names
of_members-members_of : (e : Entry) → IsEntry e → IsWritable e
    → of_members (members_outline (members_of e)) no_members
    ≡ Some (member (codes "integrity") (text_or_null e.integrity)
    (member (codes "key") (string e.key)
    (member (codes "metadata") e.metadata
    (member (codes "raw_metadata") (bytes_or_null e.raw_metadata)
    (member (codes "size") (number (unsigned e.size))
    (member (codes "time") (number (unsigned e.time)) no_members))))))
of_members-members_of e h f =
    rw (
      of_json-outline (text_or_null e.integrity) (IsWhole-text_or_null e.integrity) (IsOrdered-text_or_null e.integrity),
      number_of-decimal e.time f.time,
      number_of-decimal e.size f.size,
      of_json-outline e.metadata f.whole h.metadata.ordered,
      of_json-outline (bytes_or_null e.raw_metadata) (IsWhole-bytes_or_null e.raw_metadata h.raw_metadata) (IsOrdered-bytes_or_null e.raw_metadata),
    ) refl

-- the members of an entry make it again
entry_of-members_of : (e : Entry) → IsEntry e → IsWritable e
    → entry_read (object (member (codes "integrity") (text_or_null e.integrity)
    (member (codes "key") (string e.key)
    (member (codes "metadata") e.metadata
    (member (codes "raw_metadata") (bytes_or_null e.raw_metadata)
    (member (codes "size") (number (unsigned e.size))
    (member (codes "time") (number (unsigned e.time)) no_members))))))) ≡ Some e
entry_of-members_of e h f = search (rules, text_or_none-text_or_null, bytes_or_none-bytes_or_null, has_float-IsWhole)

-- an entry that fits reads back from its own text as itself
pub read_entry-text_of : (e : Entry) → IsEntry e → IsWritable e → read_entry (text_of e) ≡ Some e
read_entry-text_of e h f =
    ap (option_and_then entry_read) (read-compact_text (object (members_of e)) (MembersAreWhole-members_of e h f) f.nests ∙ ap (option_map object) (of_members-members_of e h f))
    ∙ entry_of-members_of e h f

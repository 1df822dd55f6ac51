-- Which entries can be written, and why another can't.
use Rattle.std.specs.{Prelude.{◌≡◌, ℕ, ◌^◌, ◌<◌, ◌≤◌, List, [], ◌∷◌, false, nat_lt, nat_le, if◌then◌else◌, Option, Some, None, IsUtf8, pos, negsuc}, Ordering.{nat_cmp}, Cmp.Lexicographic.{slice_cmp}, declared.cmp.Ordering.TheVariants.{Less}}
use Rattle.serde_json.specs.{Data.{Num, unsigned, negative, float, Data, null, boolean, number, string, array, object, Items, no_items, item, Members, no_members, member, depth}, Read.{max_depth}, Written.{has_float, compact_text}}
use Rattle.cacache_core.specs.declared.errors.SerdeCause.{SerdeCause, TheVariants.{TimeTooLarge, NotWhole, TooDeep}}
use Rattle.cacache_entry.specs.Entry.{Entry, members_of}

-- ---- what holds of every value of the program's type

-- each number is a byte
abbrev pub EachIsByte : List ℕ → Type 0
EachIsByte [] = Unit {0}
EachIsByte (b ∷ bs) = (b < 256) × EachIsByte bs

-- if there are any, they are bytes
abbrev pub AreBytes : Option (List ℕ) → Type 0
AreBytes None = Unit {0}
AreBytes (Some bs) = EachIsByte bs

-- every name is above k
abbrev pub AreAbove : List ℕ → Members → Type 0
AreAbove k no_members = Unit {0}
AreAbove k (member l d ms) = (slice_cmp nat_cmp k l ≡ Less) × AreAbove k ms

-- each object has each name once, in order
abbrev mutual
  pub IsOrdered : Data → Type 0
  IsOrdered null = Unit {0}
  IsOrdered (boolean b) = Unit {0}
  IsOrdered (number n) = Unit {0}
  IsOrdered (string s) = Unit {0}
  IsOrdered (array ds) = ItemsAreOrdered ds
  IsOrdered (object ms) = MembersAreOrdered ms

  pub ItemsAreOrdered : Items → Type 0
  ItemsAreOrdered no_items = Unit {0}
  ItemsAreOrdered (item d ds) = IsOrdered d × ItemsAreOrdered ds

  pub MembersAreOrdered : Members → Type 0
  MembersAreOrdered no_members = Unit {0}
  MembersAreOrdered (member k d ms) = AreAbove k ms × IsOrdered d × MembersAreOrdered ms

-- a whole number from -2^63 to 2^64-1
abbrev pub IsWholeNumber : Num → Type 0
IsWholeNumber (unsigned n) = n < 2 ^ 64
IsWholeNumber (negative (pos n)) = ⊥
IsWholeNumber (negative (negsuc n)) = n < 2 ^ 63
IsWholeNumber (float x) = ⊥

-- every number is whole in 64 bits
abbrev mutual
  pub IsWhole : Data → Type 0
  IsWhole null = Unit {0}
  IsWhole (boolean b) = Unit {0}
  IsWhole (number n) = IsWholeNumber n
  IsWhole (string s) = Unit {0}
  IsWhole (array ds) = ItemsAreWhole ds
  IsWhole (object ms) = MembersAreWhole ms

  pub ItemsAreWhole : Items → Type 0
  ItemsAreWhole no_items = Unit {0}
  ItemsAreWhole (item d ds) = IsWhole d × ItemsAreWhole ds

  pub MembersAreWhole : Members → Type 0
  MembersAreWhole no_members = Unit {0}
  MembersAreWhole (member k d ms) = IsWhole d × MembersAreWhole ms

-- if there is a text, it is UTF-8
abbrev pub IsUtf8IfAny : Option (List ℕ) → Type 0
IsUtf8IfAny None = Unit {0}
IsUtf8IfAny (Some text) = IsUtf8 text

-- holds of each JSON value of the program: it prints as UTF-8, names are in order, numbers in range
pub record IsJson (d : Data) : Type 0 where
  pub utf8 : IsUtf8 (compact_text d)
  pub ordered : IsOrdered d
  pub in_range : has_float d ≡ false → IsWhole d

-- holds of each entry of the program: its texts are UTF-8, its metadata is JSON, its numbers are in range
pub record IsEntry (e : Entry) : Type 0 where
  pub key : IsUtf8 e.key
  pub integrity : IsUtf8IfAny e.integrity
  pub size : e.size < 2 ^ 64
  pub metadata : IsJson e.metadata
  pub raw_metadata : AreBytes e.raw_metadata

-- ---- what can be written

-- its numbers are whole in 64 bits, and its text nests at most 127 levels deep
pub record IsWritable (e : Entry) : Type 0 where
  pub time : e.time < 2 ^ 64
  pub size : e.size < 2 ^ 64
  pub whole : IsWhole e.metadata
  pub nests : depth (object (members_of e)) ≤ max_depth

-- why an entry can't be written: the first of three causes, or none
abbrev pub cause_of : Entry → Option SerdeCause
cause_of e =
    if nat_le (2 ^ 64) e.time then Some TimeTooLarge
    else if has_float e.metadata then Some NotWhole
    else if nat_lt max_depth (depth (object (members_of e))) then Some TooDeep
    else None

-- Which entries are dropped so that the others keep within limits.
use Rattle.std.specs.{Prelude.{◌≡◌, ◌++◌, ◌≤◌, All, IfSome, ℕ, List, [], ◌∷◌, Option, map}, declared.cmp.Ordering.{Ordering}, Ordering.{nat_cmp, on, then_cmp}, Cmp.Lexicographic.{slice_cmp}, List.{sum, Sorted.{IsPermutation, IsSorted}}}
use Rattle.cacache_entry.specs.{Bucket.{Found}, View.{found_view}}
use Rattle.cacache_laws.specs.trees.Temporary.{total}
use Rattle.cacache_keep.specs.declared.{limits.{Choice.{Choice}, Limits.{Limits}}, weighing.Weighed.{Weighed}}

-- the older entry comes first; of two of one moment, the one with the lesser key
abbrev pub age_cmp : Found → Found → Ordering
age_cmp = then_cmp (on (λ f. f.time) nat_cmp) (on (λ f. f.key) (slice_cmp nat_cmp))

-- an entry, and how many bytes it adds to newer ones
abbrev pub Weight : Type 0
Weight = Found × ℕ

-- a weighed entry as that
abbrev pub weight_of : Weighed → Weight
weight_of w = (found_view w.entry, w.bytes)

-- these entries
abbrev pub entries_in : List Weight → List Found
entries_in weights = map (λ w. w.0) weights

-- how many bytes they have together
abbrev pub bytes_in : List Weight → ℕ
bytes_in weights = sum (map (λ w. w.1) weights)

-- so many; 2^64 - 1 if there are more
abbrev pub told_bytes : List Weight → ℕ
told_bytes weights = total (map (λ w. w.1) weights)

-- so many bytes are within the limit, if there is one
abbrev pub IsWithin : Option ℕ → ℕ → Type 0
IsWithin limit bytes = IfSome limit (λ most. bytes ≤ most)

-- the entry isn't older than the moment, if there is one
abbrev pub IsSince : Option ℕ → Weight → Type 0
IsSince since w = IfSome since (λ moment. moment ≤ w.0.time)

-- these entries keep within the limits
pub record Keeps (limits : Limits) (weights : List Weight) : Type 0 where
  pub bytes : IsWithin limits.bytes (bytes_in weights)
  pub since : All (IsSince limits.since) weights

-- those that are kept keep within the limits; with the newest one that is dropped they don't
pub record KeepsMost (limits : Limits) (dropped kept : List Weight) : Type 0 where
  pub within : Keeps limits kept
  pub needed : (older : List Weight) (newest : Weight)
      → dropped ≡ older ++ newest ∷ [] → Keeps limits (newest ∷ kept) → ⊥

-- each entry is dropped or kept, and none that is dropped is newer than one that is kept; as many
-- as it can be are kept
pub record DropsOldest
    (limits : Limits) (entries : List Found) (dropped kept : List Weight) : Type 0 where
  pub each : IsPermutation entries (entries_in (dropped ++ kept))
  pub order : IsSorted age_cmp (entries_in (dropped ++ kept))
  pub most : KeepsMost limits dropped kept

-- of these entries, the oldest first, the choice has those that are dropped, the others, and the
-- bytes of all and of these
pub record Chooses (limits : Limits) (weights : List Weight) (c : Choice) : Type 0 where
  pub dropped : List Weight
  pub kept : List Weight
  pub split : weights ≡ dropped ++ kept
  pub most : KeepsMost limits dropped kept
  pub gone : map found_view c.dropped.items ≡ entries_in dropped
  pub left : map found_view c.kept.items ≡ entries_in kept
  pub before : c.bytes_before ≡ told_bytes weights
  pub behind : c.bytes_after ≡ told_bytes kept

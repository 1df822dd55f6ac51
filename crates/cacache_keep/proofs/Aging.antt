-- Entries in the order of their ages, and how many of the newest keep within limits.
use Rattle.std.proofs.{Common.{◌≡◌, Bool, true, false, ◌+◌, ◌<◌, ◌≤◌, ℕ, List, [], ◌∷◌, ◌++◌, Option, None, Some, refl, sym, ap, ap₂, subst, ◌∙◌, map, length, drop, take, get_or, append_assoc, length-append, arith}, lemmas.List.{drop-map, drop_at, drop_more, get_or-map, length-map, length-take-le, map-append, take-append-drop, Elements.{All-head}, Sums.{sum_by-cons}}}
use Rattle.std.specs.{Prelude.{All, IsTrue, ◌↔◌}, List.Sorted.{IsSorted, IsSortedBy}, declared.cmp.Ordering.{Ordering}, Ordering.{is_lt}, Cmp.{IsTotalOrder, then_total, on_total, nat_cmp_total, Lexicographic.{nat_list_cmp_total}}}
use Rattle.cacache_entry.specs.{Bucket.{Found}, View.{found_view}, declared.metadata.Metadata.{Metadata}}
use Rattle.cacache_keep.specs.{declared.{limits.Limits.{Limits}, weighing.Weighed.{Weighed}}, Limits.{IsSince, IsWithin, Keeps, KeepsMost, Weight, age_cmp, bytes_in, entries_in, weight_of}}

-- ---- the order

pub age_total : IsTotalOrder age_cmp
age_total = then_total (on_total (λ (f : Found). f.time) nat_cmp_total) (on_total (λ (f : Found). f.key) nat_list_cmp_total)

pub sorted_map : {X Y : Type 0} (f : X → Y) (r : Y → Y → Ordering) (xs : List X) → IsSortedBy (λ x y. is_lt (r (f x) (f y))) xs → IsSorted r (map f xs)
sorted_map f r [] up k d low high = absurd (omega (arith, high))
sorted_map f r (x ∷ xs) up k d low high =
    let long : length (map f (x ∷ xs)) ≡ length (x ∷ xs) = length-map (x ∷ xs) f in
    let here = get_or-map f (x ∷ xs) k x d (omega (arith, long, high)) in
    let next = get_or-map f (x ∷ xs) (k + 1) x d (omega (arith, long, high)) in
    ap₂ (λ a b. is_lt (r a b)) next here ∙ up k x low (omega (arith, long, high))

-- ---- bytes

pub bytes_cons : (w : Weight) (ws : List Weight) → bytes_in (w ∷ ws) ≡ w.1 + bytes_in ws
bytes_cons w ws = sum_by-cons (λ (x : ℕ). x) w.1 (map (λ (v : Weight). v.1) ws)

-- ---- room

-- so much room is left of this much where so many bytes are kept
abbrev pub IsLeft : Option ℕ → Option ℕ → ℕ → Type 0
IsLeft None None bytes = Unit {0}
IsLeft (Some most) (Some left) bytes = left + bytes ≡ most
IsLeft most left bytes = ⊥

too_many : (most left : Option ℕ) (bytes size more : ℕ) → more ≡ size + bytes → IsLeft most left bytes → (IsWithin left size → ⊥) → IsWithin most more → ⊥
too_many None None bytes size more e r full fits = full tt
too_many (Some most) (Some left) bytes size more e r full fits = full (omega (arith, e, r, fits))
too_many _ _ bytes size more e r full fits = absurd r

-- ---- entries that are kept

-- these keep within the limits, and so much room is left
pub record Holds (limits : Limits) (room : Option ℕ) (kept : List Weight) : Type 0 where
  pub left : IsLeft limits.bytes room (bytes_in kept)
  pub since : All (IsSince limits.since) kept

pub not_since : (limits : Limits) (kept more : List Weight) (f : Weight) → more ≡ f ∷ kept → (IsSince limits.since f → ⊥) → Keeps limits more → ⊥
not_since limits kept more f is old k = old (All-head (IsSince limits.since) f kept (subst (All (IsSince limits.since)) is k.since))

pub no_room : (limits : Limits) (room : Option ℕ) (kept more : List Weight) (f : Weight) → more ≡ f ∷ kept → Holds limits room kept → (IsWithin room f.1 → ⊥) → Keeps limits more → ⊥
no_room limits room kept more f is h full k = too_many limits.bytes room (bytes_in kept) f.1 (bytes_in more) (ap bytes_in is ∙ bytes_cons f kept) h.left full k.bytes

pub one_front : (entries : List Weighed) (first k : ℕ) (m : Weighed) → first ≡ k + 1 → k < length entries → m ≡ get_or entries k m → map weight_of (drop k entries) ≡ weight_of m ∷ map weight_of (drop first entries)
one_front entries first k m next below is =
    ap (map weight_of) (drop_more entries k m below ∙ ap₂ (λ (x : Weighed) n. x ∷ drop n entries) (sym is) (sym next))

-- ---- the choice

-- the entries are parted there, and as many are kept as it can be
pub record Parts (limits : Limits) (weighed dropped kept : List Weighed) : Type 0 where
  pub both : map weight_of weighed ≡ map weight_of dropped ++ map weight_of kept
  pub most : KeepsMost limits (map weight_of dropped) (map weight_of kept)

pub split_so : (limits : Limits) (weighed dropped kept : List Weighed) (first : ℕ) → dropped ≡ take first weighed → kept ≡ drop first weighed → first ≤ length weighed → Keeps limits (map weight_of (drop first weighed))
    → ((n : ℕ) → first ≡ n + 1 → Keeps limits (map weight_of (drop n weighed)) → ⊥) → Parts limits weighed dropped kept
split_so limits weighed dropped kept first is rest bound within needed =
    let both : map weight_of weighed ≡ map weight_of dropped ++ map weight_of kept
    = ap (map weight_of) (sym (take-append-drop first weighed) ∙ ap₂ (λ (a b : List Weighed). a ++ b) (sym is) (sym rest)) ∙ map-append weight_of dropped kept in
    let count : length dropped ≡ first = ap length is ∙ length-take-le first weighed bound in
    record {
      both = both;
      most = record {
        within = subst (λ (l : List Weighed). Keeps limits (map weight_of l)) (sym rest) within;
        needed = λ older newest last keeps.
            let n = length older in
            let long : first ≡ length older + 1 = sym count ∙ sym (length-map dropped weight_of) ∙ ap length last ∙ length-append older (newest ∷ []) in
            let whole : map weight_of weighed ≡ older ++ newest ∷ map weight_of kept
            = both ∙ ap (λ (l : List Weight). l ++ map weight_of kept) last ∙ append_assoc older (newest ∷ []) (map weight_of kept) in
            let back : map weight_of (drop (length older) weighed) ≡ newest ∷ map weight_of kept
            = sym (drop-map weight_of n weighed) ∙ ap (drop n) whole ∙ drop_at older (newest ∷ map weight_of kept) n refl in
            needed n long (subst (Keeps limits) (sym back) keeps);
      };
    }

-- a test that says no
pub said_no : {P : Type 0} (b : Bool) → IsTrue b ↔ P → b ≡ false → P → ⊥
said_no true says denied p = absurd cc
said_no false says denied p = absurd (let wrong : false ≡ true = says.1 p in cc)

-- ---- entries out of the index

pub one_more : (all more : List Metadata) (m : Metadata) (seen : List Found) (f : Found) → more ≡ all ++ m ∷ [] → found_view m ≡ f → map found_view all ≡ seen → map found_view more ≡ seen ++ f ∷ []
one_more all more m seen f is same so = ap (map found_view) is ∙ map-append found_view all (m ∷ []) ∙ ap₂ (λ (l : List Found) (x : Found). l ++ x ∷ []) so same

-- one weighed entry more
pub entry_more : (all more : List Metadata) (w : Weighed) (seen : List Weighed) → more ≡ all ++ w.entry ∷ [] → map found_view all ≡ entries_in (map weight_of seen) → map found_view more ≡ entries_in (map weight_of (seen ++ w ∷ []))
entry_more all more w seen is so =
    one_more all more w.entry (entries_in (map weight_of seen)) (found_view w.entry) is refl so
    ∙ sym (ap entries_in (map-append weight_of seen (w ∷ [])) ∙ map-append (λ (x : Weight). x.0) (map weight_of seen) (weight_of w ∷ []))

-- What appends leave of lines: cut anywhere, it holds the first of its entries.
use Rattle.std.proofs.{lemmas.{Grind.{common_steps}, Bool.{leb-true, leb-false}, List.{length-take, take-append-le, take-take, take_all}}, Common.{rules, ◌≡◌, ◌⊎◌, inl, inr, ℕ, zero, suc, ◌+◌, ◌-◌, ◌≤◌, ◌<◌, List, [], ◌++◌, Bool, true, false, nat_le, Some, length, take, refl, sym, ap, subst, ◌∙◌, arith, append_assoc, append-nil}, Math.Seq.{take-append-add}}
use Rattle.cacache_disk.specs.declared.node.Node.TheVariants.{File}
use Rattle.cacache_entry.{specs.{Entry.{line_of, piece_of, closing}, Bucket.{entries_of}}, proofs.Lookups.{empty_holds_nothing}}
use Rattle.cacache_value.{specs.{Placed.{IsEntryLine}, ValueLaws.{IsLonger}}, proofs.MadeFolders.{bucket_left, torn_closed, whole_closed}}

-- what an append leaves: nothing, or the first bytes of an entry's line
abbrev pub IsPart : List ℕ → Type 0
IsPart x = (x ≡ []) ⊎ ((line : List ℕ) × (n : ℕ) × IsEntryLine line × (x ≡ take n line))

-- cut anywhere, these bytes hold the first of their entries
abbrev pub HoldsFirst : List ℕ → Type 0
HoldsFirst m = (k : ℕ) → IsLonger (entries_of (take k m)) (entries_of m)

same_longer : (x y : List ℕ) → x ≡ y → IsLonger (entries_of x) (entries_of y)
same_longer x y e = ([], ap entries_of (sym e) ∙ sym (append-nil (entries_of x)))

none_longer : (x y : List ℕ) → entries_of x ≡ [] → IsLonger (entries_of x) (entries_of y)
none_longer x y e = (entries_of y, ap (λ es. es ++ entries_of y) (sym e))

-- nothing is cut from nothing
pub none_first : HoldsFirst []
none_first zero = same_longer [] [] refl
none_first (suc k) = same_longer [] [] refl

no_part : (k : ℕ) → let none : List ℕ = [] in take k none ≡ none
no_part k = grind (arith, common_steps)

-- ---- one line

-- of a line that is cut twice the shorter part is left
cut_twice : (k n : ℕ) (line : List ℕ) → (m : ℕ) × (take k (take n line) ≡ take m line)
cut_twice k n line = by (nat_le k n) refl
  where
    by : (b : Bool) → nat_le k n ≡ b → (m : ℕ) × (take k (take n line) ≡ take m line)
    by true is = (k, take-take k n line (leb-true k n is))
    by false is = (n, take_all k (take n line) (omega (arith, length-take n line, leb-false k n is)))

pub part_cut : (k : ℕ) (x : List ℕ) → IsPart x → IsPart (take k x)
part_cut k x (inl e) = inl (ap (take k) e ∙ no_part k)
part_cut k x (inr l) =
    let c = cut_twice k l.1 l.0 in
    inr (l.0, c.0, l.2, ap (take k) l.3 ∙ c.1)

-- it holds its entry, or none
whole_or_none : (line : List ℕ) (k : ℕ) → IsEntryLine line
    → ((n : ℕ) → k ≤ n → entries_of (take n line) ≡ entries_of (take k line)) ⊎ (entries_of (take k line) ≡ [])
whole_or_none line k is = by (nat_le (length (line_of is.entry)) k) refl
  where
    by : (b : Bool) → nat_le (length (line_of is.entry)) k ≡ b
        → ((n : ℕ) → k ≤ n → entries_of (take n line) ≡ entries_of (take k line)) ⊎ (entries_of (take k line) ≡ [])
    by true long =
        inl (λ n more.
        ap (λ (l : List ℕ). entries_of (take n l)) is.same
        ∙ whole_closed is.durable is.entry n is.formed is.fits (omega (arith, leb-true (length (line_of is.entry)) k long, more))
        ∙ sym (whole_closed is.durable is.entry k is.formed is.fits (leb-true (length (line_of is.entry)) k long))
        ∙ ap (λ (l : List ℕ). entries_of (take k l)) (sym is.same))
    by false short =
        inr (ap (λ (l : List ℕ). entries_of (take k l)) is.same
        ∙ torn_closed is.durable is.entry k is.formed is.fits (leb-false (length (line_of is.entry)) k short))

shorter : (line : List ℕ) (k n : ℕ) → IsEntryLine line → k ≤ n → IsLonger (entries_of (take k line)) (entries_of (take n line))
shorter line k n is le =
    elim (whole_or_none line k is) [
      | inl whole ↦ ([], whole n le ∙ sym (append-nil (entries_of (take k line))))
      | inr none ↦ none_longer (take k line) (take n line) none
    ]

line_first : (line : List ℕ) (n : ℕ) → IsEntryLine line → HoldsFirst (take n line)
line_first line n is k = by (nat_le k n) refl
  where
    by : (b : Bool) → nat_le k n ≡ b → IsLonger (entries_of (take k (take n line))) (entries_of (take n line))
    by true le = subst (λ x. IsLonger (entries_of x) (entries_of (take n line))) (sym (take-take k n line (leb-true k n le))) (shorter line k n is (leb-true k n le))
    by false lt = same_longer (take k (take n line)) (take n line) (take_all k (take n line) (omega (arith, length-take n line, leb-false k n lt)))

part_first : (x : List ℕ) → IsPart x → HoldsFirst x
part_first x (inl e) = subst HoldsFirst (sym e) none_first
part_first x (inr l) = subst HoldsFirst (sym l.3) (line_first l.0 l.1 l.2)

-- ---- after other bytes

line_behind : (m line : List ℕ) (n : ℕ) → IsEntryLine line → entries_of (m ++ take n line) ≡ entries_of m ++ entries_of (take n line)
line_behind m line n is =
    subst (λ l. entries_of (m ++ take n l) ≡ entries_of m ++ entries_of (take n l)) (sym is.same)
    (bucket_left (Some (File m)) (piece_of is.entry ++ closing is.durable) n)

-- it adds its entries to those of the bytes before it
part_behind : (m x : List ℕ) → IsPart x → entries_of (m ++ x) ≡ entries_of m ++ entries_of x
part_behind m x (inl e) = search (rules, empty_holds_nothing)
part_behind m x (inr l) = subst (λ y. entries_of (m ++ y) ≡ entries_of m ++ entries_of y) (sym l.3) (line_behind m l.0 l.1 l.2)

-- so bytes that hold their first entries still do with such a part after them
pub more_first : (m x : List ℕ) → HoldsFirst m → IsPart x → HoldsFirst (m ++ x)
more_first m x first part k = by (nat_le k (length m)) refl
  where
    in_first : (le : k ≤ length m) → IsLonger (entries_of (take k (m ++ x))) (entries_of (m ++ x))
    in_first le =
        let f = first k in (
          f.0 ++ entries_of x,
          part_behind m x part ∙ ap (λ es. es ++ entries_of x) f.1 ∙ append_assoc (entries_of (take k m)) f.0 (entries_of x)
              ∙ ap (λ y. entries_of y ++ (f.0 ++ entries_of x)) (sym (take-append-le k m x le)),
        )

    in_part : (j : ℕ) → IsLonger (entries_of (m ++ take j x)) (entries_of (m ++ x))
    in_part j =
        let f = part_first x part j in (
          f.0,
          part_behind m x part ∙ ap (λ es. entries_of m ++ es) f.1 ∙ sym (append_assoc (entries_of m) (entries_of (take j x)) f.0)
              ∙ ap (λ es. es ++ f.0) (sym (part_behind m (take j x) (part_cut j x part))),
        )

    by : (b : Bool) → nat_le k (length m) ≡ b → IsLonger (entries_of (take k (m ++ x))) (entries_of (m ++ x))
    by true le = in_first (leb-true k (length m) le)
    by false lt =
        let far : length m < k = leb-false k (length m) lt in
        let same : k ≡ length m + (k - length m) = omega (arith, far) in
        subst (λ y. IsLonger (entries_of y) (entries_of (m ++ x)))
        (sym (ap (λ i. take i (m ++ x)) same ∙ take-append-add m x (k - length m))) (in_part (k - length m))

-- Beginnings of bytes, and the entries that a part of a line adds.
use Rattle.std.proofs.{Common.{◌≡◌, ◌≤◌, ◌⊎◌, inl, inr, length, length-append, ℕ, Bool, true, false, if◌then◌else◌, nat_le, arith, List, [], ◌∷◌, ◌++◌, Some, take, drop, refl, sym, ap, ◌∙◌, append-nil, append_assoc}, lemmas.{List.{append_cancel_left, take-append-drop, take-append-le, take_at}, Bool.{le-leb, leb-false, leb-true}}}
use Rattle.cacache_disk.specs.declared.node.Node.TheVariants.{File}
use Rattle.cacache_entry.specs.{Entry.{Entry, piece_of, line_of, closing, closed_line}, FittingEntries.{IsEntry, IsWritable}, Bucket.{entries_of}}
use Rattle.cacache_value.proofs.MadeFolders.{bucket_left, torn_closed, whole_closed}
use Rattle.cacache_system_model.specs.bucket.File.{IsBeginning, LineWrite, held, completed_by}

-- ---- beginnings

-- a beginning is one of longer bytes
pub begins_more : (front bytes more : List ℕ) → IsBeginning front bytes → IsBeginning front (bytes ++ more)
begins_more front bytes more h = (h.0 ++ more, ap (λ b. b ++ more) h.1 ∙ append_assoc front h.0 more)

no_rest : (front rest : List ℕ) → length (front ++ rest) ≤ length front → front ++ rest ≡ front
no_rest front [] long = append-nil front
no_rest front (x ∷ rest) long = absurd (omega (arith, long, length-append front (x ∷ rest)))

-- a beginning that is as long is all
pub begins_all : (front bytes : List ℕ) → IsBeginning front bytes → length bytes ≤ length front → front ≡ bytes
begins_all front bytes h long = sym (h.1 ∙ no_rest front h.0 (omega (arith, long, ap length h.1)))

-- of two beginnings the shorter one begins the longer one
pub begins_shorter : (short long bytes : List ℕ) → IsBeginning short bytes → IsBeginning long bytes → length short ≤ length long → IsBeginning short long
begins_shorter short long bytes s l le =
    let front : take (length short) long ≡ short =
    sym (take-append-le (length short) long l.0 le) ∙ ap (take (length short)) (sym l.1 ∙ s.1) ∙ take_at short s.0 (length short) refl in
    (drop (length short) long, sym (take-append-drop (length short) long) ∙ ap (λ f. f ++ drop (length short) long) front)

-- what comes between two beginnings begins what comes after the first
pub begins_within : (front more bytes : List ℕ) → IsBeginning (front ++ more) (front ++ bytes) → IsBeginning more bytes
begins_within front more bytes h = (h.0, append_cancel_left front bytes (more ++ h.0) (h.1 ∙ append_assoc front more h.0))

-- a beginning without its end is one
pub begins_less : (front more bytes line : List ℕ) → IsBeginning more bytes → IsBeginning (front ++ bytes) line → IsBeginning (front ++ more) line
begins_less front more bytes line h k = (
  h.0 ++ k.0,
  k.1 ∙ ap (λ b. (front ++ b) ++ k.0) h.1 ∙ ap (λ b. b ++ k.0) (sym (append_assoc front more h.0)) ∙ append_assoc (front ++ more) h.0 k.0,
)

-- ---- parts of lines

-- the front of a line is its first bytes
pub front_taken : (front line : List ℕ) → IsBeginning front line → take (length front) line ≡ front
front_taken front line h = ap (take (length front)) h.1 ∙ take_at front h.0 (length front) refl

part_holds : (durable : Bool) (e : Entry) (k : ℕ) → IsEntry e → IsWritable e → entries_of (take k (closed_line durable e)) ≡ held e k
part_holds durable e k formed fits = by (nat_le (length (line_of e)) k) refl
  where
    by : (b : Bool) → nat_le (length (line_of e)) k ≡ b → entries_of (take k (closed_line durable e)) ≡ (if b then e ∷ [] else [])
    by true is = whole_closed durable e k formed fits (leb-true (length (line_of e)) k is)
    by false is = torn_closed durable e k formed fits (leb-false (length (line_of e)) k is)

-- after any bytes, a front of a line adds its own entries
pub front_adds : (base front : List ℕ) (durable : Bool) (e : Entry) → IsBeginning front (closed_line durable e) → entries_of (base ++ front) ≡ entries_of base ++ entries_of front
front_adds base front durable e h =
    let cut = front_taken front (closed_line durable e) h in
    ap (λ f. entries_of (base ++ f)) (sym cut) ∙ bucket_left (Some (File base)) (piece_of e ++ closing durable) (length front)
    ∙ ap (λ f. entries_of base ++ entries_of f) cut

-- which are the line's entry, if the front has all of the line
pub part_adds : (base front : List ℕ) (durable : Bool) (e : Entry) → IsEntry e → IsWritable e → IsBeginning front (closed_line durable e)
    → entries_of (base ++ front) ≡ entries_of base ++ held e (length front)
part_adds base front durable e formed fits h =
    front_adds base front durable e h
    ∙ ap (λ es. entries_of base ++ es) (ap entries_of (sym (front_taken front (closed_line durable e) h)) ∙ part_holds durable e (length front) formed fits)

pub held_all : (e : Entry) (k : ℕ) → length (line_of e) ≤ k → held e k ≡ e ∷ []
held_all e k long = ap (λ b. if b then e ∷ [] else []) (le-leb (length (line_of e)) k long)

-- what more bytes hold is what fewer held and what was added
pub held_further : (e : Entry) (k m : ℕ) → k ≤ m → held e m ≡ held e k ++ (if nat_le (length (line_of e)) k then [] else held e m)
held_further e k m more = by (nat_le (length (line_of e)) k) refl
  where
    by : (b : Bool) → nat_le (length (line_of e)) k ≡ b → held e m ≡ (if b then e ∷ [] else []) ++ (if b then [] else held e m)
    by true is = held_all e m (omega (arith, more, leb-true (length (line_of e)) k is))
    by false is = refl

either_held : (e : Entry) (k m : ℕ) → k ≤ m → (b : Bool) → nat_le (length (line_of e)) k ≡ b
    → ((if b then e ∷ [] else []) ≡ []) ⊎ ((if b then e ∷ [] else []) ≡ held e m)
either_held e k m more true is = inr (sym (held_all e m (omega (arith, more, leb-true (length (line_of e)) k is))))
either_held e k m more false is = inl refl

-- some of the bytes of a write complete nothing, or what all complete
pub either_completed : (w : LineWrite) (more bytes : List ℕ) → length more ≤ length bytes
    → (completed_by more (Some w) ≡ []) ⊎ (completed_by more (Some w) ≡ completed_by bytes (Some w))
either_completed w more bytes fewer = by (nat_le (length (line_of w.entry)) (length w.visible))
  where
    by : (b : Bool) → ((if b then [] else held w.entry (length (w.visible ++ more))) ≡ [])
        ⊎ ((if b then [] else held w.entry (length (w.visible ++ more))) ≡ (if b then [] else held w.entry (length (w.visible ++ bytes))))
    by true = inl refl
    by false =
        either_held w.entry (length (w.visible ++ more)) (length (w.visible ++ bytes)) (omega (arith, fewer, length-append w.visible more, length-append w.visible bytes))
        (nat_le (length (line_of w.entry)) (length (w.visible ++ more))) refl

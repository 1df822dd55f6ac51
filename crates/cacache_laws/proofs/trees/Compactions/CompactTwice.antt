-- A second compaction, how compacted bytes end, and what readers find in them.
use Rattle.std.proofs.{Common.{arith, rules, ◌≡◌, List, ◌++◌, Bool, true, false, ◌||◌, refl, ap, ◌∙◌, ℕ, [], ◌∷◌, cond, not, ◌&&◌, Option, Some, None, fold, filter_map, sym, bytes_eq}, lemmas.{Grind.{common_steps}, Slice.Eq.{bytes_eq-Decides}, Bool.{or_parts}}}
use Rattle.std.specs.List.{cons_option, list_any}
use Rattle.cacache_entry.specs.{Entry.{closing}, Bucket.{cut}}
use Rattle.cacache_laws.specs.trees.Compacting.{CompactTextsClose, CompactTextsSettle, Line, compact_text, is_closed, kept, lines_of, text_of, CompactTextsKeepFound, Decision, Reader, ReadsLines, decided, decision, found_at, found_by, is_line, line_of_piece}
use Rattle.cacache_laws.proofs.trees.Compactions.CompactLines.{ArePieces, closes, lines_of_text, pieces_are, after_closing, nothing_is_none, pieces_of_text, texts, kept_pieces, kept_twice}

-- what stays of bytes are lines
pub kept_are : (x : List ℕ) → ArePieces (kept false (lines_of x))
kept_are x = kept_pieces false (lines_of x) (pieces_are x)

-- the lines of compacted bytes are those that stay
pub compact_lines : (durable : Bool) (x : List ℕ) → lines_of (compact_text durable x) ≡ kept false (lines_of x)
unfolding compact_text
compact_lines durable x = lines_of_text (kept false (lines_of x)) (durable || is_closed x) (kept_are x)

pub compact_closes : CompactTextsClose
unfolding compact_text
compact_closes durable x = closes (kept false (lines_of x)) (durable || is_closed x) (kept_are x)

either_first : (a b c : Bool) → (a || (b || c)) ≡ ((a || b) || c)
either_first a b c = grind (arith, common_steps)

pub compact_twice : CompactTextsSettle
unfolding compact_text
compact_twice again durable x = search (rules, compact_lines, kept_twice, compact_closes, either_first)

same_twice : (b : Bool) → (b || b) ≡ b
same_twice b = grind (arith, common_steps)

-- the same compaction again changes nothing
pub compact_again : (durable : Bool) (x : List ℕ) → compact_text durable (compact_text durable x) ≡ compact_text durable x
compact_again durable x = compact_twice durable durable x ∙ ap (λ (b : Bool). compact_text b x) (same_twice durable)

-- ---- what readers find in compacted bytes

module _ (read : Reader) (h : ReadsLines read) (key : List ℕ) where
  -- what is found after one more piece, and after many
  abbrev pub next : Option (List ℕ) → List ℕ → Option (List ℕ)
  next found p = found_at key found p (read p)

  abbrev pub after : Option (List ℕ) → List (List ℕ) → Option (List ℕ)
  after found ps = fold next found ps

  -- what is no line finds nothing
  pub unread : (found : Option (List ℕ)) (p : List ℕ) → is_line p ≡ false → next found p ≡ found
  unread found p is = ap (found_at key found p) (h.lines p is)

  -- the pieces of bytes find what their lines find
  pub among_lines : (ps : List (List ℕ)) (found : Option (List ℕ)) → after found ps ≡ after found (texts (filter_map line_of_piece ps))
  among_lines [] found = refl
  among_lines (p ∷ ps) found = by (is_line p) refl (λ f. among_lines ps f)
    where
      by : (b : Bool) → is_line p ≡ b → ((f : Option (List ℕ)) → after f ps ≡ after f (texts (filter_map line_of_piece ps)))
          → after (next found p) ps ≡ after found (texts (cons_option (cond b (Some (p, decision p)) None) (filter_map line_of_piece ps)))
      by true is rest = rest (next found p)
      by false is rest = ap (λ (f : Option (List ℕ)). after f ps) (unread found p is) ∙ rest found

  with_closing : (ls : List Line) (closed : Bool) (found : Option (List ℕ)) → after found (texts ls ++ after_closing closed) ≡ after found (texts ls)
  with_closing [] true found = unread found [] nothing_is_none
  with_closing [] false found = refl
  with_closing (l ∷ ls) closed found = with_closing ls closed (next found l.0)

  -- so do the pieces of a text of lines
  pub in_text : (ls : List Line) (closed : Bool) → ArePieces ls → found_by read key (text_of ls ++ closing closed) ≡ after None (texts ls)
  in_text ls closed are = search (rules, pieces_of_text, texts, after_closing, unread, nothing_is_none, with_closing)

  pub in_bytes : (x : List ℕ) → found_by read key x ≡ after None (texts (lines_of x))
  in_bytes x = among_lines (cut 10 x) None

  -- ---- a line that decides

  -- what is found at a line that decides
  pub at_line : (found : Option (List ℕ)) (t : List ℕ) (d : Decision) → decision t ≡ Some d → next found t ≡ cond (bytes_eq key d.0) (cond d.1 (Some t) None) found
  at_line found t d is = ap (found_at key found t) (h.decisions t d is)

  -- if a later line decides the key it doesn't matter what was found; and without an odd line before
  -- the first one that does, nothing was
  pub found_kept : (odd : Bool) (ls : List Line) (left found : Option (List ℕ)) → ArePieces ls → (list_any (bytes_eq key) (decided ls) ≡ false → left ≡ found)
      → (list_any (bytes_eq key) (decided ls) ≡ true → odd ≡ false → left ≡ None) → after left (texts (kept odd ls)) ≡ after found (texts ls)
  found_kept odd [] left found are same none = same refl
  found_kept odd ((t, None) ∷ ls) left found are same none =
      found_kept true ls (next left t) (next found t) are.1 (λ no. ap (λ (f : Option (List ℕ)). next f t) (same no)) (λ yes wrong. absurd cc)
  found_kept odd ((t, Some d) ∷ ls) left found are same none =
      by (bytes_eq key d.0) refl (list_any (bytes_eq d.0) (decided ls)) refl (d.1 || odd) refl same none (λ l f s n. found_kept odd ls l f are.1 s n)
    where
      here : (f : Option (List ℕ)) → next f t ≡ cond (bytes_eq key d.0) (cond d.1 (Some t) None) f
      here f = at_line f t d are.0.2

      later : {a : Bool} → bytes_eq key d.0 ≡ true → list_any (bytes_eq d.0) (decided ls) ≡ a → list_any (bytes_eq key) (decided ls) ≡ a
      later is e = ap (λ (k : List ℕ). list_any (bytes_eq k) (decided ls)) ((bytes_eq-Decides key d.0).0 is) ∙ e

      decides : (f : Option (List ℕ)) → bytes_eq key d.0 ≡ true → next f t ≡ cond d.1 (Some t) None
      decides f is = here f ∙ ap (λ (c : Bool). cond c (cond d.1 (Some t) None) f) is

      by : (c : Bool) → bytes_eq key d.0 ≡ c → (a : Bool) → list_any (bytes_eq d.0) (decided ls) ≡ a → (b : Bool) → (d.1 || odd) ≡ b
          → ((c || list_any (bytes_eq key) (decided ls)) ≡ false → left ≡ found) → ((c || list_any (bytes_eq key) (decided ls)) ≡ true → odd ≡ false → left ≡ None)
          → ((l f : Option (List ℕ)) → (list_any (bytes_eq key) (decided ls) ≡ false → l ≡ f) → (list_any (bytes_eq key) (decided ls) ≡ true → odd ≡ false → l ≡ None) → after l (texts (kept odd ls)) ≡ after f (texts ls))
          → after left (texts (cond (not a && b) ((t, Some d) ∷ kept odd ls) (kept odd ls))) ≡ after (next found t) (texts ls)
      by false is a e b f same none rest =
          others (not a && b) ∙ rest left found same none ∙ sym (ap (λ (g : Option (List ℕ)). after g (texts ls)) (passes found))
        where
          passes : (g : Option (List ℕ)) → next g t ≡ g
          passes g = here g ∙ ap (λ (c : Bool). cond c (cond d.1 (Some t) None) g) is

          others : (m : Bool) → after left (texts (cond m ((t, Some d) ∷ kept odd ls) (kept odd ls))) ≡ after left (texts (kept odd ls))
          others true = ap (λ (g : Option (List ℕ)). after g (texts (kept odd ls))) (passes left)
          others false = refl
      by true is true e b f same none rest =
          rest left (next found t) (λ no. absurd (let wrong : true ≡ false = sym (later is e) ∙ no in cc)) (λ yes. none refl)
      by true is false e true f same none rest =
          rest (next left t) (next found t) (λ no. decides left is ∙ sym (decides found is)) (λ yes wrong. absurd (let no : true ≡ false = sym yes ∙ later is e in cc))
      by true is false e false f same none rest =
          let parts = or_parts d.1 odd f in
          rest left (next found t) (λ no. none refl parts.1 ∙ sym (decides found is ∙ ap (λ (v : Bool). cond v (Some t) None) parts.0))
          (λ yes wrong. absurd (let no : true ≡ false = sym yes ∙ later is e in cc))

-- each reader finds in compacted bytes what it finds in the bytes
pub compact_texts_keep_found : CompactTextsKeepFound
unfolding compact_text
compact_texts_keep_found read durable x key h = search (rules, in_text, kept_are, found_kept, pieces_are, in_bytes)

-- The lines of a text of lines, those that stay, and what deciding lines they are.
use Rattle.std.proofs.{Common.{◌≡◌, ℕ, List, [], ◌∷◌, ◌++◌, Bool, true, false, cond, not, ◌==◌, Option, Some, None, fold, map, filter_map, refl, sym, ap, ◌∙◌, append-nil, append_assoc, ◌&&◌, ◌||◌, bytes_eq}, lemmas.{Bool.{and_from, and_parts, not-true, or_parts}, List.Sums.{fold-append}}}
use Rattle.std.specs.{List.{cons_option, onto_first, AllByRecursion, list_any}, Prelude.{filter}}
use Rattle.cacache_entry.{specs.{Bucket.{cut}, Entry.{closing}}, proofs.Pieces.{lacks, cut-append, cut-lacks}}
use Rattle.cacache_laws.specs.trees.Compacting.{Line, decision, is_closed, is_line, line_of_piece, lines_of, text_of, decided, is_odd, kept, lasts}
use Rattle.cacache_calls.specs.Walking.{once}

-- ---- pieces

abbrev pub AllLack : ℕ → List (List ℕ) → Type 0
AllLack at = AllByRecursion (λ (p : List ℕ). lacks at p ≡ true)

-- the pieces of a cut lack the byte
pub pieces_lack : (at : ℕ) (xs : List ℕ) → AllLack at (cut at xs)
pieces_lack at [] = (refl, tt)
pieces_lack at (x ∷ xs) = by (x == at) refl (cut at xs) (pieces_lack at xs)
  where
    by : (b : Bool) → (x == at) ≡ b → (ps : List (List ℕ)) → AllLack at ps → AllLack at (cond b ([] ∷ ps) (onto_first x ps))
    by true e ps h = (refl, h)
    by false e [] h = (and_from _ _ (ap not e) refl, tt)
    by false e (p ∷ ps) h = (and_from _ _ (ap not e) h.0, h.1)

-- the line's bytes have no line feed, and are a line that decides what the line does
abbrev pub IsPiece : Line → Type 0
IsPiece l = (lacks 10 l.0 ≡ true) × (is_line l.0 ≡ true) × (decision l.0 ≡ l.1)

abbrev pub ArePieces : List Line → Type 0
ArePieces = AllByRecursion IsPiece

pieces_from : (ps : List (List ℕ)) → AllLack 10 ps → ArePieces (filter_map line_of_piece ps)
pieces_from [] h = tt
pieces_from (p ∷ ps) h = by (is_line p) refl (pieces_from ps h.1)
  where
    by : (b : Bool) → is_line p ≡ b → ArePieces (filter_map line_of_piece ps) → ArePieces (cons_option (cond b (Some (p, decision p)) None) (filter_map line_of_piece ps))
    by false e rest = rest
    by true e rest = ((h.0, e, refl), rest)

-- the lines of bytes are such
pub pieces_are : (x : List ℕ) → ArePieces (lines_of x)
pieces_are x = pieces_from (cut 10 x) (pieces_lack 10 x)

-- ---- the lines of a text of lines

-- the bytes of lines
abbrev pub texts : List Line → List (List ℕ)
texts ls = map (λ (l : Line). l.0) ls

-- what a last line feed leaves after it
abbrev pub after_closing : Bool → List (List ℕ)
after_closing true = [] ∷ []
after_closing false = []

cut_text : (ls : List Line) (xs : List ℕ) (closed : Bool) → ArePieces ls → cut 10 (xs ++ (text_of ls ++ closing closed)) ≡ cut 10 xs ++ (texts ls ++ after_closing closed)
cut_text [] xs true h = cut-append 10 xs []
cut_text [] xs false h = ap (cut 10) (append-nil xs) ∙ sym (append-nil (cut 10 xs))
cut_text (l ∷ ls) xs closed h =
    ap (λ (t : List ℕ). cut 10 (xs ++ 10 ∷ t)) (append_assoc l.0 (text_of ls) (closing closed)) ∙ cut-append 10 xs (l.0 ++ (text_of ls ++ closing closed))
    ∙ ap (λ (ps : List (List ℕ)). cut 10 xs ++ ps)
    (cut_text ls l.0 closed h.1 ∙ ap (λ (ps : List (List ℕ)). ps ++ (texts ls ++ after_closing closed)) (cut-lacks 10 l.0 h.0.0))

-- the pieces of a text of lines: nothing, each line, and nothing if it is closed
pub pieces_of_text : (ls : List Line) (closed : Bool) → ArePieces ls → cut 10 (text_of ls ++ closing closed) ≡ [] ∷ (texts ls ++ after_closing closed)
pieces_of_text ls closed h = cut_text ls [] closed h

-- nothing is no line
pub nothing_is_none : is_line [] ≡ false
nothing_is_none = refl

lines_back : (ls : List Line) (closed : Bool) → ArePieces ls → filter_map line_of_piece (texts ls ++ after_closing closed) ≡ ls
lines_back [] true h = refl
lines_back [] false h = refl
lines_back (l ∷ ls) closed h =
    let same : line_of_piece l.0 ≡ Some l = ap (λ (b : Bool). cond b (Some (l.0, decision l.0)) None) h.0.1 ∙ ap (λ d. Some (l.0, d)) h.0.2 in
    ap (λ (o : Option Line). cons_option o (filter_map line_of_piece (texts ls ++ after_closing closed))) same ∙ ap (λ (xs : List Line). l ∷ xs) (lines_back ls closed h.1)

pub lines_of_text : (ls : List Line) (closed : Bool) → ArePieces ls → lines_of (text_of ls ++ closing closed) ≡ ls
lines_of_text ls closed h = ap (filter_map line_of_piece) (pieces_of_text ls closed h) ∙ lines_back ls closed h

-- ---- how it ends

abbrev ends : Bool → ℕ → Bool
ends closed b = b == 10

lacks_end : (xs : List ℕ) → lacks 10 xs ≡ true → fold ends false xs ≡ false
lacks_end [] h = refl
lacks_end (x ∷ xs) h =
    let parts = and_parts _ _ h in
    ap (λ (b : Bool). fold ends b xs) (not-true (x == 10) parts.0) ∙ lacks_end xs parts.1

-- a line is more than nothing
line_end : (closed : Bool) (p : List ℕ) → is_line p ≡ true → lacks 10 p ≡ true → fold ends closed p ≡ false
line_end closed [] is h = absurd (let no : false ≡ true = is in cc)
line_end closed (x ∷ xs) is h = lacks_end (x ∷ xs) h

text_end : (ls : List Line) → ArePieces ls → fold ends false (text_of ls) ≡ false
text_end [] h = refl
text_end (l ∷ ls) h =
    fold-append ends true l.0 (text_of ls) ∙ ap (λ (b : Bool). fold ends b (text_of ls)) (line_end true l.0 h.0.1 h.0.0) ∙ text_end ls h.1

pub closes : (ls : List Line) (closed : Bool) → ArePieces ls → is_closed (text_of ls ++ closing closed) ≡ closed
closes ls true h = fold-append ends false (text_of ls) (10 ∷ [])
closes ls false h = ap is_closed (append-nil (text_of ls)) ∙ text_end ls h

-- ---- the lines that stay, and what deciding lines they are

-- what stays are some of the lines
pub kept_pieces : (odd : Bool) (ls : List Line) → ArePieces ls → ArePieces (kept odd ls)
kept_pieces odd [] h = tt
kept_pieces odd ((t, None) ∷ ls) h = (h.0, kept_pieces true ls h.1)
kept_pieces odd ((t, Some d) ∷ ls) h = by (lasts odd d ls) (kept_pieces odd ls h.1)
  where
    by : (c : Bool) → ArePieces (kept odd ls) → ArePieces (cond c ((t, Some d) ∷ kept odd ls) (kept odd ls))
    by true rest = (h.0, rest)
    by false rest = rest

-- they decide no key that none of the lines decides
pub kept_decided : (key : List ℕ) (odd : Bool) (ls : List Line) → list_any (bytes_eq key) (decided ls) ≡ false → list_any (bytes_eq key) (decided (kept odd ls)) ≡ false
kept_decided key odd [] none = refl
kept_decided key odd ((t, None) ∷ ls) none = kept_decided key true ls none
kept_decided key odd ((t, Some d) ∷ ls) none =
    let parts = or_parts (bytes_eq key d.0) (list_any (bytes_eq key) (decided ls)) none in by (lasts odd d ls) parts.0 (kept_decided key odd ls parts.1)
  where
    by : (c : Bool) → bytes_eq key d.0 ≡ false → list_any (bytes_eq key) (decided (kept odd ls)) ≡ false → list_any (bytes_eq key) (decided (cond c ((t, Some d) ∷ kept odd ls) (kept odd ls))) ≡ false
    by true differs rest = ap (λ (b : Bool). b || list_any (bytes_eq key) (decided (kept odd ls))) differs ∙ rest
    by false differs rest = rest

-- they stay again
pub kept_twice : (odd : Bool) (ls : List Line) → kept odd (kept odd ls) ≡ kept odd ls
kept_twice odd [] = refl
kept_twice odd ((t, None) ∷ ls) = ap (λ (xs : List Line). (t, None) ∷ xs) (kept_twice true ls)
kept_twice odd ((t, Some d) ∷ ls) = by (list_any (bytes_eq d.0) (decided ls)) refl (d.1 || odd) refl (kept_twice odd ls)
  where
    by : (a : Bool) → list_any (bytes_eq d.0) (decided ls) ≡ a → (b : Bool) → (d.1 || odd) ≡ b → kept odd (kept odd ls) ≡ kept odd ls
        → kept odd (cond (not a && b) ((t, Some d) ∷ kept odd ls) (kept odd ls)) ≡ cond (not a && b) ((t, Some d) ∷ kept odd ls) (kept odd ls)
    by true e b f rest = rest
    by false e false f rest = rest
    by false e true f rest =
        ap (λ (a : Bool). cond (not a && (d.1 || odd)) ((t, Some d) ∷ kept odd (kept odd ls)) (kept odd (kept odd ls))) (kept_decided d.0 odd ls e)
        ∙ ap (λ (b : Bool). cond b ((t, Some d) ∷ kept odd (kept odd ls)) (kept odd (kept odd ls))) f
        ∙ ap (λ (xs : List Line). (t, Some d) ∷ xs) rest

-- no two of them decide one key
pub kept_once : (odd : Bool) (ls : List Line) → once (decided (kept odd ls)) ≡ decided (kept odd ls)
kept_once odd [] = refl
kept_once odd ((t, None) ∷ ls) = kept_once true ls
kept_once odd ((t, Some d) ∷ ls) = by (list_any (bytes_eq d.0) (decided ls)) refl (d.1 || odd) (kept_once odd ls)
  where
    by : (a : Bool) → list_any (bytes_eq d.0) (decided ls) ≡ a → (b : Bool) → once (decided (kept odd ls)) ≡ decided (kept odd ls)
        → once (decided (cond (not a && b) ((t, Some d) ∷ kept odd ls) (kept odd ls))) ≡ decided (cond (not a && b) ((t, Some d) ∷ kept odd ls) (kept odd ls))
    by true e b rest = rest
    by false e false rest = rest
    by false e true rest =
        ap (λ (a : Bool). cond a (once (decided (kept odd ls))) (d.0 ∷ once (decided (kept odd ls)))) (kept_decided d.0 odd ls e) ∙ ap (λ (ks : List (List ℕ)). d.0 ∷ ks) rest

-- each odd line is one of them
pub kept_odd : (odd : Bool) (ls : List Line) → filter is_odd (kept odd ls) ≡ filter is_odd ls
kept_odd odd [] = refl
kept_odd odd ((t, None) ∷ ls) = ap (λ (xs : List Line). (t, None) ∷ xs) (kept_odd true ls)
kept_odd odd ((t, Some d) ∷ ls) = by (lasts odd d ls) (kept_odd odd ls)
  where
    by : (c : Bool) → filter is_odd (kept odd ls) ≡ filter is_odd ls → filter is_odd (cond c ((t, Some d) ∷ kept odd ls) (kept odd ls)) ≡ filter is_odd ls
    by true rest = rest
    by false rest = rest

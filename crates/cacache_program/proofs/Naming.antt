-- Lines that are named one after another.
use Rattle.std.proofs.{Common.{◌≡◌, ◌∙◌, ◌<◌, ◌+◌, ◌++◌, ℕ, List, [], ◌∷◌, map, ap, sym, take, length, get_or, append-nil}, lemmas.{List.{map-append, map_more}, Grind.{flat_map-append}}}
use Rattle.std.specs.{Borrow.{Bor}, List.{flat_map}}
use Rattle.cacache_program.specs.Counts.{count_line, count_view, counts_text}

-- one line more
pub line_more : {Y : Type 0} (line : Y → List ℕ) (ys : List Y) (y : Y) → flat_map line (ys ++ y ∷ []) ≡ flat_map line ys ++ line y
line_more line ys y = flat_map-append line ys (y ∷ []) ∙ ap (λ (end : List ℕ). flat_map line ys ++ end) (append-nil (line y))

-- the same for what values stand for
pub viewed_more : {X Y : Type 0} (line : Y → List ℕ) (view : X → Y) (xs : List X) (x : X) → flat_map line (map view (xs ++ x ∷ [])) ≡ flat_map line (map view xs) ++ line (view x)
viewed_more line view xs x = ap (flat_map line) (map-append view xs (x ∷ [])) ∙ line_more line (map view xs) (view x)

-- one count more
pub count_more : (counts : List (Bor (List ℕ) × ℕ)) (i : ℕ) (one : Bor (List ℕ) × ℕ) → i < length counts → one ≡ get_or counts i one → counts_text (map count_view (take (i + 1) counts)) ≡ counts_text (map count_view (take i counts)) ++ count_line (count_view one)
count_more counts i one below is =
    let before = map count_view (take i counts) in
    ap counts_text (map_more count_view counts i one below) ∙ line_more count_line before (count_view (get_or counts i one)) ∙ ap (λ (c : Bor (List ℕ) × ℕ). counts_text before ++ count_line (count_view c)) (sym is)

-- The maps of a loss, one text after another.
use Rattle.std.proofs.{Common.{◌≡◌, ◌<◌, ◌≤◌, ◌+◌, ℕ, suc, Bool, true, false, cond, List, [], ◌∷◌, Option, None, Some, Ok, length, get_or, take, drop, refl, sym, ap, ◌∙◌, arith, drop-cons, add-one}, lemmas.List.{take_more, Folds.{list_any-append}}}
use Rattle.std.specs.{Prelude.{Result, Err, ◌||◌, is_some, unwrap_or}, List.{list_any}, Result.{result_ok}, BTreeMap.{BTreeMap, get}, BTreeSet.{BTreeSet, contains}}
use Rattle.std.specs.BTreeMap as btree
use Rattle.std.specs.BTreeSet as btree_set
use Rattle.cacache_core.specs.{declared.errors.Fault.{Fault}, Paths.{Names, names_of}}
use Rattle.cacache_disk.{specs.Tree.{names_cmp, same_path}, proofs.Maps.{same_path-true}}
use Rattle.cacache_loss.{specs.{Fixing.{is_at}, Running.{tail_at}}, proofs.PathMaps.{symmetric, or_false}}

-- ---- names that are undone

abbrev names_it : Names → List ℕ → Bool
names_it q text = is_at (names_of text) q

undone_next : (texts : List (List ℕ)) (i : ℕ) (text : List ℕ) (q : Names) → i < length texts → text ≡ get_or texts i text
    → list_any (names_it q) (take (i + 1) texts) ≡ (list_any (names_it q) (take i texts) || is_at (names_of text) q)
undone_next texts i text q below is =
    ap (list_any (names_it q)) (take_more texts i text below) ∙ list_any-append (names_it q) (take i texts) (get_or texts i text ∷ [])
    ∙ ap (λ b. list_any (names_it q) (take i texts) || b) (or_false (names_it q (get_or texts i text)) ∙ ap (names_it q) (sym is))

at_found : (q path : Names) (r : Result Names Fault) → Some path ≡ result_ok r → same_path q path ≡ is_at r q
at_found q path (Ok names) is = let same : path ≡ names = cc in ap (same_path q) same
at_found q path (Err fault) is = absurd cc

-- one more name in the set
in_front : (a b : Bool) → cond a true b ≡ (b || a)
in_front true true = refl
in_front true false = refl
in_front false b = sym (or_false b)

pub undone_more : (old new : BTreeSet Names) (texts : List (List ℕ)) (i : ℕ) (text : List ℕ) (path : Names) → i < length texts → text ≡ get_or texts i text → Some path ≡ result_ok (names_of text)
    → btree_set.Updates names_cmp old new path true
    → ((q : Names) → contains names_cmp old q ≡ list_any (names_it q) (take i texts))
    → (q : Names) → contains names_cmp new q ≡ list_any (names_it q) (take (i + 1) texts)
undone_more old new texts i text path below is named u so q =
    u.0 q ∙ ap (λ b. cond b true (contains names_cmp old q)) (symmetric path q)
    ∙ ap (cond (same_path q path) true) (so q)
    ∙ in_front (same_path q path) (list_any (names_it q) (take i texts))
    ∙ ap (λ b. list_any (names_it q) (take i texts) || b) (at_found q path (names_of text) named)
    ∙ sym (undone_next texts i text q below is)

-- ---- tails

drop_one : (files : List (List ℕ × List ℕ)) (i : ℕ) (file : List ℕ × List ℕ) → i < length files → file ≡ get_or files i file → drop i files ≡ file ∷ drop (i + 1) files
drop_one files i file below is =
    let next : suc i ≤ length files = omega (arith, below) in
    rw add-one (drop-cons files i file next) ∙ ap (λ (f : List ℕ × List ℕ). f ∷ drop (i + 1) files) (sym is)

-- the tails of the first files, and then of the others
abbrev pub TailsSoFar : BTreeMap Names (List ℕ) → List (List ℕ × List ℕ) → ℕ → Type 0
TailsSoFar tails files i = (q : Names) → unwrap_or (get names_cmp tails q) (tail_at (drop i files) q) ≡ tail_at files q

-- a path whose tail is known
known_first : (tails : BTreeMap Names (List ℕ)) (path q : Names) (bytes rest : List ℕ) (b : Bool) → same_path q path ≡ b → true ≡ is_some (get names_cmp tails path)
    → unwrap_or (get names_cmp tails q) rest ≡ unwrap_or (get names_cmp tails q) (cond b bytes rest)
known_first tails path q bytes rest false e there = refl
known_first tails path q bytes rest true e there = here (get names_cmp tails q) (there ∙ ap (λ p. is_some (get names_cmp tails p)) (sym (same_path-true q path e)))
  where
    here : (o : Option (List ℕ)) → true ≡ is_some o → unwrap_or o rest ≡ unwrap_or o bytes
    here None e = absurd cc
    here (Some tail) e = refl

-- a path that has its first tail here
first_known : (tails : BTreeMap Names (List ℕ)) (path q : Names) (bytes rest : List ℕ) (b : Bool) → same_path q path ≡ b → false ≡ is_some (get names_cmp tails path)
    → unwrap_or (cond b (Some bytes) (get names_cmp tails q)) rest ≡ unwrap_or (get names_cmp tails q) (cond b bytes rest)
first_known tails path q bytes rest false e free = refl
first_known tails path q bytes rest true e free = here (get names_cmp tails q) (free ∙ ap (λ p. is_some (get names_cmp tails p)) (sym (same_path-true q path e)))
  where
    here : (o : Option (List ℕ)) → false ≡ is_some o → bytes ≡ unwrap_or o bytes
    here None e = refl
    here (Some tail) e = absurd cc

module _ (tails : BTreeMap Names (List ℕ)) (files : List (List ℕ × List ℕ)) (i : ℕ) (file : List ℕ × List ℕ) (below : i < length files) (is : file ≡ get_or files i file) where
  abbrev rest : Names → List ℕ
  rest q = tail_at (drop (i + 1) files) q

  next : (q : Names) → unwrap_or (get names_cmp tails q) (cond (is_at (names_of file.0) q) file.1 (rest q)) ≡ unwrap_or (get names_cmp tails q) (tail_at (drop i files) q)
  next q = ap (λ (fs : List (List ℕ × List ℕ)). unwrap_or (get names_cmp tails q) (tail_at fs q)) (sym (drop_one files i file below is))

  found : (path q : Names) → Some path ≡ result_ok (names_of file.0)
      → unwrap_or (get names_cmp tails q) (cond (same_path q path) file.1 (rest q)) ≡ unwrap_or (get names_cmp tails q) (cond (is_at (names_of file.0) q) file.1 (rest q))
  found path q named = ap (λ b. unwrap_or (get names_cmp tails q) (cond b file.1 (rest q))) (at_found q path (names_of file.0) named)

  pub tails_more : (new : BTreeMap Names (List ℕ)) (path : Names) → Some path ≡ result_ok (names_of file.0) → btree.Updates names_cmp tails new path (Some file.1)
      → false ≡ is_some (get names_cmp tails path) → TailsSoFar tails files i → TailsSoFar new files (i + 1)
  tails_more new path named u free so q =
      ap (λ o. unwrap_or o (rest q)) (u.0 q ∙ ap (λ b. cond b (Some file.1) (get names_cmp tails q)) (symmetric path q))
      ∙ first_known tails path q file.1 (rest q) (same_path q path) refl free
      ∙ found path q named ∙ next q ∙ so q

  pub tails_known : (path : Names) → Some path ≡ result_ok (names_of file.0) → true ≡ is_some (get names_cmp tails path) → TailsSoFar tails files i → TailsSoFar tails files (i + 1)
  tails_known path named there so q = known_first tails path q file.1 (rest q) (same_path q path) refl there ∙ found path q named ∙ next q ∙ so q

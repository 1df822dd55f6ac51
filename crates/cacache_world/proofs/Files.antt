-- Outside files, one by one.
use Rattle.std.proofs.{Common.{◌≡◌, ◌<◌, ◌≤◌, ◌+◌, ◌==◌, ℕ, zero, suc, Bool, true, false, List, [], ◌∷◌, ◌++◌, Option, None, Some, Ok, take, length, get_or, slice_get, refl, sym, ap, subst, ◌∙◌, arith}, lemmas.{Bool.{eqb-true, eqb-false}, List.{take_more}}}
use Rattle.std.specs.Prelude.{Result, Err}
use Rattle.cacache_core.specs.{declared.errors.Fault.{Fault}, Paths.{Names}}
use Rattle.cacache_disk.{specs.{Tree.{Tree, bare}, Apply.{planted}, LedTo.{and_then}}, proofs.FoundNodes.{and_then_ok}}
use Rattle.cacache_value.specs.{Kinds.{Elsewhere, IsFor}, Placed.{with_files, LieApart}}
use Rattle.cacache_world.specs.{WorldKept.{LiesApart, FilesAreApart}, declared.event.WorldFault.{WorldFault}, Faults.{CantPlace, CantOpen}}
use Rattle.cacache_world.specs.declared.event.WorldFault.TheVariants as faults

-- ---- one more file

lie_push : (h : Option Names) (files : List (List ℕ × List ℕ)) (file : List ℕ × List ℕ) → LieApart h files → IsFor h Elsewhere file.0 → LieApart h (files ++ file ∷ [])
lie_push h [] file lie is = (is, tt)
lie_push h (f ∷ files) file lie is = (lie.0, lie_push h files file lie.1 is)

last_planted : (r : Result Tree Fault) (new : Tree) → r ≡ Ok new → and_then r (λ t. Ok t) ≡ Ok new
last_planted (Ok t) new e = e
last_planted (Err fault) new e = absurd cc

with_push : (t m new : Tree) (files : List (List ℕ × List ℕ)) (file : List ℕ × List ℕ) → with_files t files ≡ Ok m → planted m file.0 file.1 ≡ Ok new → with_files t (files ++ file ∷ []) ≡ Ok new
with_push t m new [] file all one =
    let same : t ≡ m = cc in last_planted (planted t file.0 file.1) new (ap (λ x. planted x file.0 file.1) same ∙ one)
with_push t m new (f ∷ files) file all one =
    let g = and_then_ok (planted t f.0 f.1) (λ new. with_files new files) m all in
    ap (λ r. and_then r (λ new. with_files new (files ++ file ∷ []))) g.1 ∙ with_push g.0 m new files file g.2 one

pub lie_more : (h : Option Names) (files : List (List ℕ × List ℕ)) (n : ℕ) (file : List ℕ × List ℕ) → n < length files → file ≡ get_or files n file → LieApart h (take n files) → IsFor h Elsewhere file.0
    → LieApart h (take (n + 1) files)
lie_more h files n file below here lie is =
    let taken : take (n + 1) files ≡ take n files ++ file ∷ [] = take_more files n file below ∙ ap (λ (x : List ℕ × List ℕ). take n files ++ x ∷ []) (sym here) in
    subst (LieApart h) (sym taken) (lie_push h (take n files) file lie is)

pub with_more : (files : List (List ℕ × List ℕ)) (n : ℕ) (file : List ℕ × List ℕ) (m new : Tree) → n < length files → file ≡ get_or files n file → with_files bare (take n files) ≡ Ok m → planted m file.0 file.1 ≡ Ok new
    → with_files bare (take (n + 1) files) ≡ Ok new
with_more files n file m new below here all one =
    let taken : take (n + 1) files ≡ take n files ++ file ∷ [] = take_more files n file below ∙ ap (λ (x : List ℕ × List ℕ). take n files ++ x ∷ []) (sym here) in
    subst (λ xs. with_files bare xs ≡ Ok new) (sym taken) (with_push bare m new (take n files) file all one)

-- ---- files that lie apart

-- so many files from the front lie apart from the cache and from those before them
abbrev pub ApartUpTo : List ℕ → List (List ℕ × List ℕ) → ℕ → Type 0
ApartUpTo cache files count = (n : ℕ) (file : List ℕ × List ℕ) → n < count → slice_get files n ≡ Some file → LiesApart cache (take n files) file.0

-- the item at a place of a list
pub file_at : (files : List (List ℕ × List ℕ)) (n : ℕ) (file other : List ℕ × List ℕ) → n < length files → file ≡ get_or files n other → slice_get files n ≡ Some file
file_at [] n file other below is = absurd (omega arith)
file_at (f ∷ files) zero file other below is = ap Some (sym is)
file_at (f ∷ files) (suc n) file other below is = file_at files n file other (omega arith) is

pub apart_more : (cache : List ℕ) (files : List (List ℕ × List ℕ)) (k : ℕ) (file : List ℕ × List ℕ) → k < length files → file ≡ get_or files k file
    → ApartUpTo cache files k → LiesApart cache (take k files) file.0 → ApartUpTo cache files (k + 1)
apart_more cache files k file below here before is n other less at = by (n == k) refl
  where
    by : (b : Bool) → (n == k) ≡ b → LiesApart cache (take n files) other.0
    by false ne = before n other (let differ : (n ≡ k → ⊥) = eqb-false n k ne in omega arith) at
    by true e =
        let same : n ≡ k = eqb-true n k e in
        let there : Some file ≡ Some other = sym (file_at files k file file below here) ∙ sym (ap (slice_get files) same) ∙ at in
        let one : file ≡ other = cc in
        subst (λ (x : List ℕ × List ℕ). LiesApart cache (take n files) x.0) one (subst (λ m. LiesApart cache (take m files) file.0) (sym same) is)

-- all of them do
place_below : (files : List (List ℕ × List ℕ)) (n : ℕ) (file : List ℕ × List ℕ) → slice_get files n ≡ Some file → n < length files
place_below [] n file at = let no : None ≡ Some file = at in absurd cc
place_below (f ∷ files) zero file at = omega arith
place_below (f ∷ files) (suc n) file at = let below = place_below files n file at in omega arith

pub all_apart : (cache : List ℕ) (files : List (List ℕ × List ℕ)) (count : ℕ) → length files ≤ count → ApartUpTo cache files count → FilesAreApart cache files
all_apart cache files count all up n file at = let below = place_below files n file at in up n file (omega arith) at

-- ---- a file that can't be put on the disk

pub cant_open : (cache : List ℕ) (files : List (List ℕ × List ℕ)) (n : ℕ) (file : List ℕ × List ℕ) (t : Tree) (fault : WorldFault) → n < length files → file ≡ get_or files n file
    → with_files bare (take n files) ≡ Ok t → CantPlace cache (take n files) t file fault → CantOpen cache files fault
cant_open cache files n file t faults.NoCaller below is all cant = cant
cant_open cache files n file t faults.Busy below is all cant = cant
cant_open cache files n file t faults.Idle below is all cant = cant
cant_open cache files n file t faults.BadCommand below is all cant = (n, file, t, file_at files n file file below is, all, cant)
cant_open cache files n file t faults.OutOfMemory below is all cant = tt

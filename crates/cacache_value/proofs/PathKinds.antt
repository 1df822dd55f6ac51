-- Paths of contents, buckets and temporary files are for what they should be; paths of two kinds are apart.
use Rattle.std.proofs.{Common.{arith, rules, ◌≡◌, ℕ, zero, suc, Bool, true, false, cond, List, [], ◌∷◌, ◌++◌, Option, None, Some, bytes_eq, refl, sym, ap, ◌∙◌, eq-eqb, append_assoc, ◌<◌, length}, lemmas.{Grind.{common_steps}, Bool.{false_from_ne_true}, List.Elements.{All-nil, All-cons, All-head, All-tail}}}
use Rattle.std.specs.Prelude.{All, IfOk}
use Rattle.cacache_disk.{specs.Tree.{Names, same_path}, proofs.Maps.{same_path-true}}
use Rattle.cacache_value.specs.Kinds.{PathKind, Content, Bucket, Temporary, Way, Stray, Elsewhere, kind_in_area, kind_below, kind_beside, path_kind, is_used, is_path_of, IsTextFor, PathsAreFor, FoldersAreWays}
use Rattle.cacache_core.specs.Paths.{names_below, IsProperName, content_names, bucket_names_of, temp_names, folder_names}
use Rattle.cacache_core.proofs.{JoinedNames.{joined_texts_name}, ProperNames.{names_are_proper}}

pub bytes_same : (xs : List ℕ) → bytes_eq xs xs ≡ true
bytes_same [] = refl
bytes_same (x ∷ xs) = rw (eq-eqb x x refl) (bytes_same xs)

-- a path below the cache's folder is of the kind that its inner names give
pub kind-below : (home path : Names) → kind_beside home (home ++ path) ≡ kind_below path
kind-below [] path = refl
kind-below (name ∷ home) path = rw (bytes_same name) (kind-below home path)

-- a path of another kind is another path
pub unseen : (home : Option Names) (names p : Names) → (kind_below names ≡ path_kind home p → ⊥) → is_path_of home names p ≡ false
unseen None names p apart = refl
unseen (Some home) names p apart =
    false_from_ne_true (same_path (home ++ names) p) (λ e. apart (sym (kind-below home names) ∙ ap (kind_beside home) (same_path-true (home ++ names) p e)))

-- ---- above a path

kind_in_above : (file : PathKind) (n : ℕ) (path rest : Names) (name : List ℕ) → is_used (kind_in_area file n (path ++ name ∷ rest)) ≡ true
    → kind_in_area file n path ≡ Way
kind_in_above file zero [] rest name used = absurd cc
kind_in_above file zero (first ∷ path) rest name used = absurd cc
kind_in_above file (suc n) [] rest name used = refl
kind_in_above file (suc n) (first ∷ path) rest name used = kind_in_above file n path rest name used

area_above : (b c d : Bool) (path rest : Names) (name : List ℕ)
    → is_used (cond b (kind_in_area Content 4 (path ++ name ∷ rest)) (cond c (kind_in_area Bucket 3 (path ++ name ∷ rest)) (cond d (kind_in_area Temporary 1 (path ++ name ∷ rest)) Stray))) ≡ true
    → cond b (kind_in_area Content 4 path) (cond c (kind_in_area Bucket 3 path) (cond d (kind_in_area Temporary 1 path) Stray)) ≡ Way
area_above b c d path rest name used = grind (arith, kind_in_above)

inner_above : (path rest : Names) (name : List ℕ) → is_used (kind_below (path ++ name ∷ rest)) ≡ true → kind_below path ≡ Way
inner_above [] rest name used = refl
inner_above (area ∷ path) rest name used = search (rules, area_above)

through : (b : Bool) (old new : PathKind) → (is_used old ≡ true → new ≡ Way) → is_used (cond b old Elsewhere) ≡ true → cond b new Elsewhere ≡ Way
through b old new h used = grind (arith, common_steps)

outer_above : (home path rest : Names) (name : List ℕ) → is_used (kind_beside home (path ++ name ∷ rest)) ≡ true → kind_beside home path ≡ Way
outer_above [] path rest name used = inner_above path rest name used
outer_above (n ∷ home) [] rest name used = refl
outer_above (n ∷ home) (first ∷ path) rest name used =
    through (bytes_eq n first) (kind_beside home (path ++ name ∷ rest)) (kind_beside home path) (outer_above home path rest name) used

-- above a path that the cache uses are ways
pub above : (home : Option Names) (path rest : Names) (name : List ℕ) → is_used (path_kind home (path ++ name ∷ rest)) ≡ true → path_kind home path ≡ Way
above home path rest name used = grind (arith, outer_above)

-- one more name
pub further : (home : Option Names) (k : PathKind) (path rest : Names) (name : List ℕ) → path_kind home (path ++ name ∷ rest) ≡ k
    → path_kind home ((path ++ name ∷ []) ++ rest) ≡ k
further home k path rest name is = ap (path_kind home) (append_assoc path (name ∷ []) rest) ∙ is

-- each folder of a way is one
pub way_here : (home : Option Names) (path rest : Names) (name : List ℕ) → path_kind home (path ++ name ∷ rest) ≡ Way → path_kind home (path ++ name ∷ []) ≡ Way
way_here home path [] name is = is
way_here home path (next ∷ rest) name is = above home (path ++ name ∷ []) rest next (ap is_used (further home Way path (next ∷ rest) name is))

-- ---- apart from the cache

pub kind_in_used : (file : PathKind) (n : ℕ) (rest : Names) → (file ≡ Elsewhere → ⊥) → kind_in_area file n rest ≡ Elsewhere → ⊥
kind_in_used file zero [] used e = used e
kind_in_used file (suc n) (name ∷ rest) used e = kind_in_used file n rest used e
kind_in_used file n rest used e = cc

area_used : (b c d : Bool) (rest : Names)
    → cond b (kind_in_area Content 4 rest) (cond c (kind_in_area Bucket 3 rest) (cond d (kind_in_area Temporary 1 rest) Stray)) ≡ Elsewhere → ⊥
area_used b c d rest e = grind (arith, kind_in_used)

-- no path below the cache's folder is apart from it
pub inner_used : (names : Names) → kind_below names ≡ Elsewhere → ⊥
inner_used names e = grind (arith, area_used)

-- ---- the paths of contents, buckets and temporary files are for what they should be

-- without the last name, proper names are proper too
pub proper_folder : (ns : Names) → All IsProperName ns → All IsProperName (folder_names ns)
proper_folder (n ∷ m ∷ ns) all =
    All-cons IsProperName n (folder_names (m ∷ ns)) (All-head IsProperName n (m ∷ ns) all) (proper_folder (m ∷ ns) (All-tail IsProperName n (m ∷ ns) all))
proper_folder ns all = All-nil IsProperName

kind_at : (home : Option Names) (k : PathKind) (ns : Names) → kind_below ns ≡ k → IfOk (names_below home ns) (λ names. path_kind home names ≡ k)
kind_at home k ns is = grind (arith, kind-below)

-- the text of proper names is for what their place below the cache's folder says
text_for : (cache : List ℕ) (k : PathKind) (ns : Names) → All IsProperName ns → 0 < length ns → kind_below ns ≡ k → IsTextFor cache k ns
text_for cache k ns all some is = search (rules, joined_texts_name, kind_at)

pub paths_are_for : (cache : List ℕ) → PathsAreFor cache
paths_are_for cache = record {
  content = λ h is. text_for cache Content (content_names h) (names_are_proper.contents h is) (omega arith) refl;
  bucket = λ d is. text_for cache Bucket (bucket_names_of d) (names_are_proper.buckets d is) (omega arith) refl;
  temporary = λ n. text_for cache Temporary (temp_names n) (names_are_proper.temporaries n) (omega arith) refl;
}

pub folders_are_ways : (cache : List ℕ) → FoldersAreWays cache
folders_are_ways cache = record {
  content = λ h is. text_for cache Way (folder_names (content_names h)) (proper_folder (content_names h) (names_are_proper.contents h is)) (omega arith) refl;
  bucket = λ d is. text_for cache Way (folder_names (bucket_names_of d)) (proper_folder (bucket_names_of d) (names_are_proper.buckets d is)) (omega arith) refl;
  temporary = λ n. text_for cache Way (folder_names (temp_names n)) (proper_folder (temp_names n) (names_are_proper.temporaries n)) (omega arith) refl;
}

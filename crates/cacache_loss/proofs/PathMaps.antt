-- Maps by path, one path after another.
use Rattle.std.proofs.{Common.{◌≡◌, ◌<◌, ◌+◌, ℕ, Bool, true, false, cond, List, [], ◌∷◌, ◌++◌, Option, None, Some, Ok, length, get_or, take, drop, refl, sym, ap, ◌∙◌}, lemmas.{List.{take_more, get_or-map, Folds.{list_any-append}}, Map.Entries.{lookup-filter-keys}}}
use Rattle.std.specs.{Prelude.{◌||◌, map, filter, not, Result, Err, OnOk, is_some, unwrap_or}, Cmp.{eq_by_cmp_equiv}, BTreeMap.{BTreeMap, get}, Map.{lookup, keys_of}, Result.{result_ok}}
use Rattle.std.specs.BTreeMap as btree
use Rattle.cacache_core.specs.declared.errors.Fault.{Fault}
use Rattle.cacache_disk.proofs.{Maps.{total, same_path-true}, PathTexts.{drop_here, front_next}}
use Rattle.cacache_disk.specs.{LedTo.{leads}, Tree.{Tree, Names, names_cmp, same_path, look, bytes_of, is_child}}
use Rattle.cacache_loss.specs.{Fixing.{Fixing, Place, renamed, synced, is_at, is_child_of}, Reached.{fronts, is_among}, Running.{files_in, fixing_by, renames, FilesSettleAt, NamesSettleAt}, declared.effect.Effect.{Effect}}

-- ---- one path

same_at : {A : Type 0} (f : Names → A) (p q : Names) (b : Bool) → same_path q p ≡ b → f q ≡ cond b (f p) (f q)
same_at f p q true e = ap f (same_path-true q p e)
same_at f p q false e = refl

-- a name at which nothing changes
pub unkept : (m : BTreeMap Names Place) (p q : Names) (was : Place) → get names_cmp m q ≡ cond (same_path q p) (renamed false was (get names_cmp m p)) (get names_cmp m q)
unkept m p q was = same_at (get names_cmp m) p q (same_path q p) refl

known_stays : (o : Option Place) (was : Place) → true ≡ is_some o → o ≡ renamed true was o
known_stays None was e = absurd cc
known_stays (Some place) was e = refl

-- a name for which something is kept already
pub kept_once : (m : BTreeMap Names Place) (p q : Names) (was : Place) → true ≡ is_some (get names_cmp m p)
    → get names_cmp m q ≡ cond (same_path q p) (renamed true was (get names_cmp m p)) (get names_cmp m q)
kept_once m p q was there =
    same_at (get names_cmp m) p q (same_path q p) refl ∙ ap (λ o. cond (same_path q p) o (get names_cmp m q)) (known_stays (get names_cmp m p) was there)

first_kept : (o : Option Place) (was : Place) → false ≡ is_some o → Some was ≡ renamed true was o
first_kept None was e = refl
first_kept (Some place) was e = absurd cc

-- either path may come first
pub symmetric : (p q : Names) → same_path p q ≡ same_path q p
symmetric p q = (eq_by_cmp_equiv total).symm p q

-- a name that is kept for the first time
pub kept_first : (m n : BTreeMap Names Place) (p q : Names) (was : Place) → btree.Updates names_cmp m n p (Some was) → false ≡ is_some (get names_cmp m p)
    → get names_cmp n q ≡ cond (same_path q p) (renamed true was (get names_cmp m p)) (get names_cmp m q)
kept_first m n p q was u free =
    u.0 q ∙ ap (λ b. cond b (Some was) (get names_cmp m q)) (symmetric p q)
    ∙ ap (λ o. cond (same_path q p) o (get names_cmp m q)) (first_kept (get names_cmp m p) was free)

or_default : {A : Type 0} (b : Bool) (f d : A) (o : Option A) → unwrap_or (cond b (Some f) o) d ≡ cond b f (unwrap_or o d)
or_default true f d o = refl
or_default false f d o = refl

-- a file that is fixed this far
pub fixed_so : (m n : BTreeMap Names Fixing) (p : Names) (f : Fixing) → btree.Updates names_cmp m n p (Some f)
    → (first : Tree) (q : Names) → files_in first n q ≡ cond (same_path q p) f (files_in first m q)
fixed_so m n p f u first q =
    ap (λ o. unwrap_or o (synced (bytes_of (look first q)))) (u.0 q ∙ ap (λ b. cond b (Some f) (get names_cmp m q)) (symmetric p q)) ∙ or_default (same_path q p) f (synced (bytes_of (look first q))) (get names_cmp m q)

-- ---- one path after another

once_more : {A : Type 0} (f old : Names → A) (p q : Names) (a b : Bool) → same_path q p ≡ b → cond b (f p) (cond a (f q) (old q)) ≡ cond (a || b) (f q) (old q)
once_more f old p q true true e = ap f (sym (same_path-true q p e))
once_more f old p q false true e = ap f (sym (same_path-true q p e))
once_more f old p q true false e = refl
once_more f old p q false false e = refl

pub or_false : (b : Bool) → (b || false) ≡ b
or_false true = refl
or_false false = refl

-- one more path among the first
pub among_more : (paths : List Names) (i : ℕ) (q d : Names) → i < length paths → is_among q (take (i + 1) paths) ≡ (is_among q (take i paths) || same_path q (get_or paths i d))
among_more paths i q d below =
    ap (is_among q) (take_more paths i d below) ∙ list_any-append (same_path q) (take i paths) (get_or paths i d ∷ [])
    ∙ ap (λ b. is_among q (take i paths) || b) (or_false (same_path q (get_or paths i d)))

-- what is known at the first paths, after one more
pub settled_more : {A : Type 0} (f old : Names → A) (paths : List Names) (i : ℕ) (p q : Names) → i < length paths → p ≡ get_or paths i p
    → cond (same_path q p) (f p) (cond (is_among q (take i paths)) (f q) (old q)) ≡ cond (is_among q (take (i + 1) paths)) (f q) (old q)
settled_more f old paths i p q below is =
    once_more f old p q (is_among q (take i paths)) (same_path q p) refl
    ∙ ap (λ b. cond b (f q) (old q)) (ap (λ r. is_among q (take i paths) || same_path q r) is ∙ sym (among_more paths i q p below))

-- ---- the paths on the way

pub fronts_more : (paths : List Names) (path : Names) (i : ℕ) (front : Names) → i < length path → front ≡ take (i + 1) path
    → (paths ++ front ∷ []) ++ fronts (take (i + 1) path) (drop (i + 1) path) ≡ paths ++ fronts (take i path) (drop i path)
fronts_more paths path i front below is =
    append_one paths front (fronts (take (i + 1) path) (drop (i + 1) path))
    ∙ ap (λ (xs : List Names). paths ++ xs) (sym here)
  where
    append_one : (xs : List Names) (x : Names) (ys : List Names) → (xs ++ x ∷ []) ++ ys ≡ xs ++ x ∷ ys
    append_one [] x ys = refl
    append_one (y ∷ xs) x ys = ap (λ zs. y ∷ zs) (append_one xs x ys)

    here : fronts (take i path) (drop i path) ≡ front ∷ fronts (take (i + 1) path) (drop (i + 1) path)
    here = ap (fronts (take i path)) (drop_here path i [] below) ∙ rw (front_next path i [] below, is) refl

-- ---- the end of a path

end_at_one : (t : Tree) (q end : Names) (f old : Fixing) (b : Bool) → same_path q end ≡ b → f ≡ synced (bytes_of (look t end)) → cond b f old ≡ cond b (synced (bytes_of (look t q))) old
end_at_one t q end f old true e is = is ∙ ap (λ p. synced (bytes_of (look t p))) (sym (same_path-true q end e))
end_at_one t q end f old false e is = refl

-- the file that a path leads to is fixed
pub end_fixed : {E : Type 0} (t : Tree) (path : List ℕ) (end : Names) (f : Fixing) (m n : BTreeMap Names Fixing) (r : Result Unit E) → leads t path ≡ Ok end
    → f ≡ synced (bytes_of (look t end))
    → OnOk r ((first : Tree) (q : Names) → files_in first n q ≡ cond (same_path q end) f (files_in first m q))
    → OnOk r ((first : Tree) (q : Names) → files_in first n q ≡ cond (is_at (leads t path) q) (synced (bytes_of (look t q))) (files_in first m q))
end_fixed t path end f m n (Ok u) to is fixed = λ first q. fixed first q ∙ end_at_one t q end f (files_in first m q) (same_path q end) refl is ∙ ap (λ r. cond (is_at r q) (synced (bytes_of (look t q))) (files_in first m q)) (sym to)
end_fixed t path end f m n (Err e) to is fixed = tt

-- ---- what a step leaves fixed, path by path

module _ (e : Effect) (t : Tree) (paths : List Names) (places : List Place) (i : ℕ) (p : Names) (was : Place) (below : i < length paths)
    (path_is : p ≡ get_or paths i p) (place_is : was ≡ get_or places i was) where
  was_here : (place : Names → Place) → places ≡ map place paths → was ≡ place p
  was_here place all = place_is ∙ ap (λ (xs : List Place). get_or xs i was) all ∙ get_or-map place paths i p was below ∙ ap place (sym path_is)

  pub files_more : (old now later : Names → Fixing) → FilesSettleAt e t paths places (take i paths) old now
      → ((q : Names) → later q ≡ cond (same_path q p) (fixing_by e was (look t p) p) (now q))
      → FilesSettleAt e t paths places (take (i + 1) paths) old later
  files_more old now later so step place all q =
      step q ∙ ap (λ w. cond (same_path q p) (fixing_by e w (look t p) p) (now q)) (was_here place all)
      ∙ ap (λ f. cond (same_path q p) (fixing_by e (place p) (look t p) p) f) (so place all q)
      ∙ settled_more (λ r. fixing_by e (place r) (look t r) r) old paths i p q below path_is

  renamed_twice : (b : Bool) (w : Place) (o : Option Place) → renamed b w (renamed b w o) ≡ renamed b w o
  renamed_twice true w None = refl
  renamed_twice true w (Some place) = refl
  renamed_twice false w o = refl

  renamed_again : (a b : Bool) (w : Place) (o : Option Place) → renamed b w (cond a (renamed b w o) o) ≡ renamed b w o
  renamed_again true b w o = renamed_twice b w o
  renamed_again false b w o = refl

  pub names_more : (old now later : Names → Option Place) → NamesSettleAt e t paths places (take i paths) old now
      → ((q : Names) → later q ≡ cond (same_path q p) (renamed (renames e was (look t p) p) was (now p)) (now q))
      → NamesSettleAt e t paths places (take (i + 1) paths) old later
  names_more old now later so step place all q =
      step q ∙ ap (λ w. cond (same_path q p) (renamed (renames e w (look t p) p) w (now p)) (now q)) (was_here place all)
      ∙ ap (λ o. cond (same_path q p) (renamed (renames e (place p) (look t p) p) (place p) o) (now q)) (so place all p)
      ∙ ap (λ o. cond (same_path q p) o (now q)) (renamed_again (is_among p (take i paths)) (renames e (place p) (look t p) p) (place p) (old p))
      ∙ ap (λ o. cond (same_path q p) (renamed (renames e (place p) (look t p) p) (place p) (old p)) o) (so place all q)
      ∙ settled_more (λ r. renamed (renames e (place r) (look t r) r) (place r) (old r)) old paths i p q below path_is

-- ---- names that are forgotten

kept_or_none : (b : Bool) (o : Option Place) → cond (not b) o None ≡ cond b None o
kept_or_none true o = refl
kept_or_none false o = refl

-- all names in a folder are forgotten
pub all_forgot : (old new : BTreeMap Names Place) (folder : Names) → new.entries ≡ filter (λ e. not (is_child folder e.0)) old.entries
    → (r : Result Names Fault) → Some folder ≡ result_ok r → (q : Names) → get names_cmp new q ≡ cond (is_child_of r q) None (get names_cmp old q)
all_forgot old new folder so (Ok names) is q =
    let same : folder ≡ names = cc in
    ap (lookup (btree.is_at (names_cmp q))) so
    ∙ lookup-filter-keys (btree.is_at (names_cmp q)) (λ p. not (is_child folder p)) (not (is_child folder q))
    (λ p at. ap (λ r. not (is_child folder r)) (sym (same_path-true q p at))) old.entries
    ∙ kept_or_none (is_child folder q) (get names_cmp old q) ∙ ap (λ f. cond (is_child f q) None (get names_cmp old q)) same
all_forgot old new folder so (Err fault) is q = absurd cc

-- ---- the paths of a map

among_entries : (q : Names) (es : List (Names × Place)) → is_among q (keys_of es) ≡ is_some (lookup (btree.is_at (names_cmp q)) es)
among_entries q [] = refl
among_entries q (e ∷ es) = ap (λ b. same_path q e.0 || b) (among_entries q es) ∙ either (same_path q e.0) e.1 (lookup (btree.is_at (names_cmp q)) es)
  where
    either : (b : Bool) (v : Place) (o : Option Place) → (b || is_some o) ≡ is_some (cond b (Some v) o)
    either true v o = refl
    either false v o = refl

pub keys_among : (m : BTreeMap Names Place) (q : Names) → is_among q (btree.keys m) ≡ is_some (get names_cmp m q)
keys_among m q = among_entries q m.entries

-- The log of all that is on a disk leads to the disk's tree: each node is put once, after its folder.
use Rattle.std.proofs.{Common.{◌≡◌, ◌-◌, ◌+◌, ◌==◌, ℕ, false, List, [], ◌∷◌, ◌++◌, None, Some, Ok, length, refl, sym, ap, ◌∙◌, arith, eqb-true, length-append, Bool, true, cond, subst}, Math.Seq.{take-append_seam, drop-append_seam}, lemmas.List.{take_all, drop_all, Elements.{All-from_recursion}}}
use Rattle.std.specs.{Result.{result_err}, Prelude.{◌&&◌, T, Option, IfSome, map as each}, FinMap.Entries.{below_all}, List.{AllByRecursion}, declared.cmp.Ordering.{Ordering, TheVariants.{Less}}, Ordering.{is_eq, is_lt}, Cmp.{eq_by_cmp_equiv}}
use Rattle.cacache_core.{specs.Paths.{Names, names_of, names_below, home_of, pieces, IsProperName}, proofs.{JoinedNames.{joined_texts_name}, ProperNames.{not_true}}}
use Rattle.cacache_store.specs.declared.store.{step.Step.TheVariants.{MakeDirs, Symlink}, answer.Answer.TheVariants.{Done}}
use Rattle.cacache_disk.specs.{declared.{luck.Luck.TheVariants.{Plain}, node.Node.{Node, TheVariants.{Folder, File, Link}}}, AllStanding.{path_text, item_of, all_standing}, Apply.{apply, planted, make_some}, Deepest.{IsDeepest, way_past}, LedTo.{way_fault, dirs, free, place}, Tree.{Rooted, AreProper, Tree, look, put, is_folder, bare, names_cmp, same_path}, Replay.{after, changed, HappensOn, logged, foreign_log, replay, IsReplayable}}
use Rattle.cacache_disk.proofs.{PlantedNodes.{above_last-snoc, Ends, ends, empty, last}, Standing.{way_is, dirs_is, makes_from, upper_folder}, Below.{name_itself}, Maps.{total, only, same_path-true, both, put_same}, PutNodes.{look-put}, Roots.{CanStand, put_rooted, same_folder, same_self, look-bare, bare_below, bare_rooted}}
use Rattle.std.specs.FinMap as map

-- ---- the names of a path's text

slash_is_top : home_of (47 ∷ []) ≡ Some []
unfolding home_of pieces
slash_is_top = refl

slash_names : names_of (47 ∷ []) ≡ Ok []
unfolding names_of pieces
slash_names = refl

pub text_names : (names : Names) → AreProper names → names_of (path_text names) ≡ Ok names
text_names [] proper = slash_names
text_names (n ∷ ns) proper =
    joined_texts_name (47 ∷ []) (n ∷ ns) (All-from_recursion IsProperName (n ∷ ns) proper) (omega arith) ∙ ap (λ h. names_below h (n ∷ ns)) slash_is_top

-- ---- one node

pub never_empty : (above : Names) (name : List ℕ) → (length (above ++ name ∷ []) == 0) ≡ false
never_empty above name =
    not_true (length (above ++ name ∷ []) == 0) (λ s. let none : length (above ++ name ∷ []) ≡ 0 = eqb-true (length (above ++ name ∷ [])) 0 s in omega (arith, length-append above (name ∷ [])))

-- the item can happen, and puts the node
abbrev pub Puts : Tree → Names → Node → Type 0
Puts t names node = HappensOn t (logged (item_of (names, node))) × (after t (logged (item_of (names, node))) ≡ put t names node)

module _ (t : Tree) (rooted : Rooted t) (above : Names) (name : List ℕ) (upper : look t above ≡ Some Folder) (nothing : look t (above ++ name ∷ []) ≡ None) where
  longer : length (above ++ name ∷ []) ≡ length above + 1
  longer = omega (arith, length-append above (name ∷ []))

  deepest : IsDeepest t (above ++ name ∷ []) (length above) Folder
  deepest = record {
    within = omega (arith, longer);
    stands = ap (look t) (take-append_seam above (name ∷ [])) ∙ upper;
    missing = rw (take-append_seam above (name ∷ []), drop-append_seam above (name ∷ [])) nothing;
  }

  itself : IsDeepest t above (length above) Folder
  itself = record {
    within = omega arith;
    stands = ap (look t) (take_all (length above) above (omega arith)) ∙ upper;
    missing = rw (drop_all (length above) above (omega arith)) tt;
  }

  way : way_fault t [] (above ++ name ∷ []) ≡ None
  way =
      let one : length (above ++ name ∷ []) - length above ≡ 1 = omega (arith, longer) in
      way_is t (above ++ name ∷ []) (length above) Folder rooted deepest ∙ ap (way_past Folder) one

  none_made : (most : ℕ) → make_some t [] above most ≡ t
  none_made most = makes_from t above (length above) Folder rooted itself most ∙ rw (drop_all (length above) above (omega arith)) refl

  one_made : make_some t [] (above ++ name ∷ []) (length (above ++ name ∷ [])) ≡ put t (above ++ name ∷ []) Folder
  one_made =
      makes_from t (above ++ name ∷ []) (length above) Folder rooted deepest (length (above ++ name ∷ []))
      ∙ rw (take-append_seam above (name ∷ []), drop-append_seam above (name ∷ []), nothing, never_empty above name) refl

  module _ (path : List ℕ) (named : names_of path ≡ Ok (above ++ name ∷ [])) where
    folder_put : apply t (MakeDirs path) Plain ≡ (Done, put t (above ++ name ∷ []) Folder)
    unfolding apply dirs
    folder_put =
        let clear = dirs_is t (above ++ name ∷ []) (length above) Folder rooted deepest in
        rw (named, clear, one_made) refl

    file_put : (bytes : List ℕ) → planted t path bytes ≡ Ok (put t (above ++ name ∷ []) (File bytes))
    unfolding planted
    file_put bytes =
        let clear = dirs_is t above (length above) Folder rooted itself in
        rw (named, above_last-snoc above name, clear, nothing, above_last-snoc above name, none_made (length above)) refl

    link_put : (target : List ℕ) → apply t (Symlink target path) Plain ≡ (Done, put t (above ++ name ∷ []) (Link target))
    unfolding apply free place
    link_put target = rw (named, way, nothing) refl

  pub node_puts : (node : Node) → AreProper (above ++ name ∷ []) → Puts t (above ++ name ∷ []) node
  node_puts Folder proper =
      let is = folder_put (path_text (above ++ name ∷ [])) (text_names (above ++ name ∷ []) proper) in
      (ap (λ r. r.0) is, ap (λ r. r.1) is)
  node_puts (File bytes) proper =
      let is = file_put (path_text (above ++ name ∷ [])) (text_names (above ++ name ∷ []) proper) bytes in
      (ap result_err is, ap (changed t) is)
  node_puts (Link target) proper =
      let is = link_put (path_text (above ++ name ∷ [])) (text_names (above ++ name ∷ []) proper) target in
      (sym (ap (λ r. r.0) is), ap (λ r. r.1) is)

-- the top folder is made again, which changes nothing
top_made : (t : Tree) → apply t (MakeDirs (47 ∷ [])) Plain ≡ (Done, t)
unfolding apply dirs
top_made t = rw slash_names refl

pub top_puts : (t : Tree) → put t [] Folder ≡ t → Puts t [] Folder
top_puts t kept = (ap (λ r. r.0) (top_made t), ap (λ r. r.1) (top_made t) ∙ sym kept)

-- ---- entries in order

parts : (a b : Bool) → T (a && b) → T a × T b
parts true b h = (tt, h)
parts false b h = absurd h

less : (o : Ordering) → T (is_lt o) → o ≡ Less
less Less h = refl
less o h = absurd h

-- a path before all of these isn't among them
none_found : (q : Names) (es : List (Names × Node)) → T (below_all names_cmp q es) → map.find names_cmp q es ≡ None
none_found q [] h = refl
none_found q (e ∷ es) h =
    let f = parts (is_lt (names_cmp q e.0)) (below_all names_cmp q es) h in
    rw (less (names_cmp q e.0) f.0) (none_found q es f.1)

-- and neither is what comes before it
below_more : (p q : Names) (es : List (Names × Node)) → names_cmp p q ≡ Less → T (below_all names_cmp q es) → T (below_all names_cmp p es)
below_more p q [] le h = tt
below_more p q (e ∷ es) le h =
    let f = parts (is_lt (names_cmp q e.0)) (below_all names_cmp q es) h in
    rw (total.trans p q e.0 le (less (names_cmp q e.0) f.0)) (below_more p q es le f.1)

-- a folder comes before what it holds
folder_before : (above : Names) (name : List ℕ) → names_cmp above (above ++ name ∷ []) ≡ Less
folder_before [] name = refl
folder_before (a ∷ above) name = rw (name_itself a) (folder_before above name)

-- ---- a tree that awaits the rest

-- the first of two that is there
abbrev or_else : Option Node → Option Node → Option Node
or_else None later = later
or_else (Some node) later = Some node

-- nothing is there yet, except for the top folder
abbrev IsFree : Tree → Names × Node → Type 0
IsFree t e = (length e.0 == 0) ≡ false → look t e.0 ≡ None

-- the disk has what is in the rest, otherwise what the tree has, and the rest isn't there yet
record Awaits (d t : Tree) (rest : List (Names × Node)) : Type 0 where
  rooted : Rooted t
  whole : (q : Names) → look d q ≡ or_else (map.find names_cmp q rest) (look t q)
  nothing : AllByRecursion (IsFree t) rest
  sorted : T (map.is_sorted names_cmp rest)

still_free : (t : Tree) (p : Names) (node : Node) (es : List (Names × Node)) → T (below_all names_cmp p es) → AllByRecursion (IsFree t) es
    → AllByRecursion (IsFree (put t p node)) es
still_free t p node [] h all = tt
still_free t p node (e ∷ es) h all =
    let f = parts (is_lt (names_cmp p e.0)) (below_all names_cmp p es) h in
    let apart : same_path e.0 p ≡ false = (eq_by_cmp_equiv total).symm e.0 p ∙ ap is_eq (less (names_cmp p e.0) f.0) in
    (λ some. look-put t p node e.0 ∙ ap (λ b. cond b (Some node) (look t e.0)) apart ∙ all.0 some, still_free t p node es f.1 all.1)

-- the first of the rest is put
whole_at : (q p : Names) (node : Node) (es : List (Names × Node)) (old : Option Node) (b : Bool) → same_path q p ≡ b → T (below_all names_cmp p es)
    → or_else (cond b (Some node) (map.find names_cmp q es)) old ≡ or_else (map.find names_cmp q es) (cond b (Some node) old)
whole_at q p node es old true is below =
    let none : map.find names_cmp q es ≡ None = ap (λ r. map.find names_cmp r es) (same_path-true q p is) ∙ none_found p es below in
    rw none refl
whole_at q p node es old false is below = refl

module _ (d : Tree) (of : Rooted d) (t : Tree) (p : Names) (node : Node) (es : List (Names × Node)) (a : Awaits d t ((p, node) ∷ es)) where
  order : T (below_all names_cmp p es) × T (map.is_sorted names_cmp es)
  order = parts (below_all names_cmp p es) (map.is_sorted names_cmp es) a.sorted

  here : look d p ≡ Some node
  here = a.whole p ∙ ap (λ b. or_else (cond b (Some node) (map.find names_cmp p es)) (look t p)) (same_self p)

  proper : AreProper p
  proper = subst (λ (o : Option Node). IfSome o (λ node. AreProper p)) here (of.proper p)

  -- the folder is there already
  upper : (above : Names) (name : List ℕ) → p ≡ above ++ name ∷ [] → look t above ≡ Some Folder
  upper above name is =
      let there : look d above ≡ Some Folder = upper_folder d above [] name node of (ap (look d) (sym is) ∙ here) in
      let first : names_cmp above p ≡ Less = ap (names_cmp above) is ∙ folder_before above name in
      let none : map.find names_cmp above ((p, node) ∷ es) ≡ None
      = none_found above ((p, node) ∷ es) (both (is_lt (names_cmp above p)) (below_all names_cmp above es) (subst (λ o. T (is_lt o)) (sym first) tt) (below_more above p es first order.0)) in
      ap (λ o. or_else o (look t above)) (sym none) ∙ sym (a.whole above) ∙ there

  -- the first item can happen, and puts its node
  put_first : Ends p → Puts t p node × Rooted (put t p node)
  put_first (empty is) =
      let same : Some node ≡ Some Folder = sym here ∙ ap (look d) is ∙ of.top in
      let folder : node ≡ Folder = cc in
      let kept : put t [] Folder ≡ t = put_same t [] Folder (sym a.rooted.top) in
      let top : Puts t [] Folder × Rooted (put t [] Folder) = (top_puts t kept, subst Rooted (sym kept) a.rooted) in
      subst (λ n. Puts t n node × Rooted (put t n node)) (sym is) (subst (λ v. Puts t [] v × Rooted (put t [] v)) (sym folder) top)
  put_first (last above name is) =
      let some : (length p == 0) ≡ false = ap (λ (n : Names). length n == 0) is ∙ never_empty above name in
      let free : look t p ≡ None = a.nothing.0 some in
      let stand : CanStand t p = record { parent = λ b n e. ap (look t) (sym (same_folder above b name n (sym is ∙ e))) ∙ upper above name is; proper = proper } in
      let puts = node_puts t a.rooted above name (upper above name is) (ap (look t) (sym is) ∙ free) node (subst AreProper is proper) in
      (subst (λ n. Puts t n node) (sym is) puts, put_rooted t p node a.rooted stand (ap is_folder free))

  next : Awaits d (put t p node) es
  next = record {
    rooted = (put_first (ends p)).1;
    whole = λ q. a.whole q ∙ whole_at q p node es (look t q) (same_path q p) refl order.0 ∙ ap (or_else (map.find names_cmp q es)) (sym (look-put t p node q));
    nothing = still_free t p node es order.0 a.nothing.1;
    sorted = order.1;
  }

-- ---- all of them

-- the items of these can happen on the tree, and lead to the disk's
abbrev Leads : Tree → Tree → List (Names × Node) → Type 0
Leads d t rest = IsReplayable t (each logged (each item_of rest)) × (replay t (each logged (each item_of rest)) ≡ d)

leads : (d : Tree) → Rooted d → (rest : List (Names × Node)) (t : Tree) → Awaits d t rest → Leads d t rest
leads d of [] t a = (tt, map.same_map total only t d (λ q. sym (a.whole q)))
leads d of (e ∷ es) t a =
    let first = (put_first d of t e.0 e.1 es a (ends e.0)).0 in
    let rest = leads d of es (put t e.0 e.1) (next d of t e.0 e.1 es a) in
    let on = subst (λ u. Leads d u es) (sym first.1) rest in
    ((first.0, on.0), on.1)

-- ---- at first

free_at : (p : Names) → (length p == 0) ≡ false → look bare p ≡ None
free_at [] some = absurd cc
free_at (n ∷ rest) some = bare_below [] n rest

bare_free : (es : List (Names × Node)) → AllByRecursion (IsFree bare) es
bare_free [] = tt
bare_free (e ∷ es) = (free_at e.0, bare_free es)

whole_bare : (d : Tree) → Rooted d → (q : Names) (there : Option Node) (b : Bool) → look d q ≡ there → same_path q [] ≡ b
    → there ≡ or_else there (cond b (Some Folder) None)
whole_bare d of q (Some node) b is top = refl
whole_bare d of q None true is top = let differ : None ≡ Some Folder = sym is ∙ ap (look d) (same_path-true q [] top) ∙ of.top in cc
whole_bare d of q None false is top = refl

at_first : (d : Tree) → Rooted d → Awaits d bare (map.entries d)
at_first d of = record {
  rooted = bare_rooted;
  whole = λ q.
      whole_bare d of q (look d q) (same_path q []) refl refl
      ∙ ap (or_else (look d q)) (sym (look-bare q)) ∙ ap (λ o. or_else o (look bare q)) (map.get-entries d q);
  nothing = bare_free (map.entries d);
  sorted = map.entries_sorted d;
}

pub foreign_leads : (d : Tree) → Rooted d → IsReplayable bare (foreign_log d) × (replay bare (foreign_log d) ≡ d)
unfolding foreign_log all_standing
foreign_leads d of = leads d of (map.entries d) bare (at_first d of)

-- If what is apart from the cache stays, links of contents lead where they led.
use Rattle.std.proofs.{lemmas.{Grind.{common_steps}, List.Elements.{All-head}}, Common.{◌≡◌, ◌⊎◌, inl, inr, ℕ, zero, suc, List, [], ◌∷◌, ◌++◌, Option, Some, None, Bool, true, false, cond, Result, Ok, Err, refl, sym, ap, subst, ◌∙◌, append_assoc, bytes_eq, arith}}
use Rattle.cacache_core.specs.{declared.{errors.Fault.{Fault, TheVariants.{IsADirectory, NotFound, TooDeep}}, integrity.digest.Hash.{Hash}}, Integrity.{IsHash, IsIntegrity}, Paths.{Names, names_of, home_of, content_names}}
use Rattle.cacache_store.specs.{declared.store.{step.Step.TheVariants.{Exists}, answer.Answer.TheVariants.{There}}, Plain.{PlainAnswer}}
use Rattle.cacache_disk.specs.{declared.{luck.Luck.TheVariants.{Plain}, node.Node.{Node, TheVariants.{Folder, File, Link}}}, Tree.{Tree, look, Rooted}, LedTo.{and_then, or_fault, way_fault, place, standing, where_there, on_link, followed, leads, found, bytes_there}, Apply.{apply, is_there}}
use Rattle.cacache_disk.proofs.{FoundNodes.{and_then_ok, or_fault_none, there_at}, Standing.{way_clear}}
use Rattle.cacache_calls.specs.Steps.{content_path}
use Rattle.cacache_value.specs.{Kinds.{PathKind, Content, Elsewhere, Way, NamesBelow, kind_beside, path_kind, IsFor}, Placed.{MayStand, Placed}, Shows.{ShowsThere, link_end, blob_bytes, blob_there}, Value.{Blob, InFile, AtLink, blob_in}}
use Rattle.cacache_value.proofs.{Applying.{of_names}, PathKinds.{inner_used, kind-below}, Shows.{trees_show}}
use Rattle.cacache_history.proofs.Histories.ShownTurns.{content_below}
use Rattle.cacache_laws.specs.{Caches.{setup_at}, trees.{Contents.{content_in}, Housed.{Still}, Verifying.{is_good, is_met, says_yes}}}
use Rattle.cacache_laws.proofs.trees.Stepping.{file_there, something_there, through_none}

-- ---- above a path that is apart from the cache

upper_at : (b : Bool) (k l : PathKind) → (k ≡ Elsewhere → (l ≡ Elsewhere) ⊎ (l ≡ Way)) → cond b k Elsewhere ≡ Elsewhere → (cond b l Elsewhere ≡ Elsewhere) ⊎ (cond b l Elsewhere ≡ Way)
upper_at b k l h e = grind (arith, common_steps)

upper : (home p rest : Names) → kind_beside home (p ++ rest) ≡ Elsewhere → (kind_beside home p ≡ Elsewhere) ⊎ (kind_beside home p ≡ Way)
upper [] p rest e = absurd (inner_used (p ++ rest) e)
upper (n ∷ home) [] rest e = inr refl
upper (n ∷ home) (first ∷ p) rest e = upper_at (bytes_eq n first) (kind_beside home (p ++ rest)) (kind_beside home p) (upper home p rest) e

-- ---- contents

-- where its link leads, if it is one, is apart from the cache
abbrev pub LeadsOut : Names → Option Blob → Type 0
LeadsOut home (Some (AtLink target)) = IsFor (Some home) Elsewhere target
LeadsOut home other = Unit {0}

out_at : (home : Names) (here : Option Node) → MayStand (Some home) here Content → LeadsOut home (blob_in here)
out_at home here s = grind (arith, common_steps)

content_out : (home : Names) (t : Tree) (h : Hash) → Placed (Some home) t → LeadsOut home (content_in home t h)
content_out home t h placed =
    let kind : path_kind (Some home) (home ++ content_names h) ≡ Content = kind-below home (content_names h) in
    out_at home (look t (home ++ content_names h)) (subst (MayStand (Some home) (look t (home ++ content_names h))) kind (placed (home ++ content_names h)))

found_names : (r : Result Names Fault) → is_there r ≡ There true → (m : Names) × (r ≡ Ok m)
found_names r e = grind (arith, common_steps)

some_there : (t : Tree) (blob : Option Blob) → blob_there t blob ≡ There true → (b : Blob) × (blob ≡ Some b)
some_there t blob e = grind (arith, common_steps)

bytes_met : (i : List Hash) (r : Result (List ℕ) Fault) → is_met i r ≡ true → (bytes : List ℕ) × (r ≡ Ok bytes)
bytes_met i r e = grind (arith, common_steps)

-- what has bytes is there
bytes_are_there : (t : Tree) (blob : Option Blob) (bytes : List ℕ) → blob_bytes t blob ≡ Ok bytes → blob_there t blob ≡ There true
bytes_are_there t blob bytes e = grind (arith, and_then_ok, file_there)

-- ---- the question for a content that is there

leaf_there : (t : Tree) (path : List ℕ) (names : Names) (here : Option Node) (b : Blob) → Rooted t → names_of path ≡ Ok names → look t names ≡ here → blob_in here ≡ Some b → is_there (found t path) ≡ blob_there t (blob_in here)
unfolding found leads place followed link_end
leaf_there t path names (Some (File bytes)) b rooted is there e = rw (is, way_clear t [] names (File bytes) rooted there, there, there) refl
leaf_there t path names (Some (Link target)) b rooted is there e = rw (is, way_clear t [] names (Link target) rooted there, there) refl
leaf_there t path names here b rooted is there e = absurd cc

said_yes : (x a : PlainAnswer) → says_yes a ≡ true → ShowsThere x a → x ≡ There true
said_yes x a e h = grind (arith, common_steps)

module _ (cache : List ℕ) (home : Names) (is : home_of cache ≡ Some home) where
  below : (h : Hash) (hs : List Hash) → IsHash h → names_of (content_path cache (h ∷ hs)) ≡ Ok (home ++ content_names h)
  below h hs hash = subst (λ f. NamesBelow f (content_names h) (content_path cache (h ∷ hs))) is (content_below (setup_at cache []) h hs hash)

  -- whether something is at the content's path
  abbrev pub Has : Tree → List Hash → Type 0
  Has t i = says_yes (apply t (Exists (content_path cache i)) Plain).0 ≡ true

  asked : (t : Tree) (h : Hash) (hs : List Hash) (b : Blob) → Rooted t → IsHash h → content_in home t h ≡ Some b → (apply t (Exists (content_path cache (h ∷ hs))) Plain).0 ≡ blob_there t (content_in home t h)
  unfolding apply
  asked t h hs b rooted hash stands = leaf_there t (content_path cache (h ∷ hs)) (home ++ content_names h) (look t (home ++ content_names h)) b rooted (below h hs hash) refl stands

  has_so : (t : Tree) (h : Hash) (hs : List Hash) → Rooted t → IsHash h → blob_there t (content_in home t h) ≡ There true → Has t (h ∷ hs)
  has_so t h hs rooted hash e =
      let b = some_there t (content_in home t h) e in
      ap says_yes (asked t h hs b.0 rooted hash b.1 ∙ e)

  so_has : (t : Tree) (h : Hash) (hs : List Hash) → Placed (Some home) t → Rooted t → IsHash h → Has t (h ∷ hs) → blob_there t (content_in home t h) ≡ There true
  so_has t h hs placed rooted hash has =
      said_yes (blob_there t (content_in home t h)) (apply t (Exists (content_path cache (h ∷ hs))) Plain).0 has
      ((trees_show (Some home) t placed rooted).there h (content_path cache (h ∷ hs)) Plain (below h hs hash))

  -- ---- two trees

  module _ (t new : Tree) (still : Still (Some home) t new) (placed : Placed (Some home) t) where
    abbrev Out : Names → Type 0
    Out names = path_kind (Some home) names ≡ Elsewhere

    way_still : (p rest : Names) → path_kind (Some home) (p ++ rest) ≡ Elsewhere → way_fault t p rest ≡ None → way_fault new p rest ≡ None
    way_still p (name ∷ next ∷ rest) out e =
        let k = through_none (look t (p ++ name ∷ [])) (way_fault t (p ++ name ∷ []) (next ∷ rest)) e in
        let longer : path_kind (Some home) ((p ++ name ∷ []) ++ next ∷ rest) ≡ Elsewhere = ap (path_kind (Some home)) (append_assoc p (name ∷ []) (next ∷ rest)) ∙ out in
        rw (still (p ++ name ∷ []) Folder (upper home (p ++ name ∷ []) (next ∷ rest) longer) k.0) (way_still (p ++ name ∷ []) (next ∷ rest) longer k.1)
    way_still p rest out e = refl

    place_still : (path : List ℕ) (names : Names) → IsFor (Some home) Elsewhere path → place t path ≡ Ok names → (place new path ≡ Ok names) × Out names
    unfolding place
    place_still path names out e =
        let f = and_then_ok (names_of path) (λ names. or_fault (way_fault t [] names) names) names e in
        let o = or_fault_none (way_fault t [] f.0) f.0 names f.2 in
        let k = of_names Out path f.0 out f.1 in
        (rw (f.1, way_still [] f.0 k o.0) (ap Ok o.1), subst Out o.1 k)

    standing_still : (path : List ℕ) (names : Names) → IsFor (Some home) Elsewhere path → standing t path ≡ Ok names → (standing new path ≡ Ok names) × Out names
    unfolding standing
    standing_still path names out e =
        let f = and_then_ok (place t path) (λ names. where_there (look t names) names) names e in
        let s = something_there (look t f.0) f.0 names f.2 in
        let p = place_still path f.0 out f.1 in
        let same = there_at (look t f.0) f.0 names f.2 in
        (rw (p.0, still f.0 s.0 (inl p.1) s.1) (ap Ok same), subst Out same p.1)

    link_out : (names : Names) (target : List ℕ) → Out names → look t names ≡ Some (Link target) → IsFor (Some home) Elsewhere target
    link_out names target k is_link = subst (MayStand (Some home) (Some (Link target))) k (subst (λ o. MayStand (Some home) o (path_kind (Some home) names)) is_link (placed names))

    follow_at : (here : Option Node) (names m : Names) (node : Node) (go on : List ℕ → Result Names Fault) → Out names → look t names ≡ here → look t m ≡ Some node
        → ((target : List ℕ) → here ≡ Some (Link target) → go target ≡ Ok m → (on target ≡ Ok m) × Out m)
        → on_link here names go ≡ Ok m → (on_link (look new names) names on ≡ Ok m) × Out m
    follow_at None names m node go on k here_is stands next e =
        let end : names ≡ m = cc in
        let wrong : None ≡ Some node = sym here_is ∙ ap (look t) end ∙ stands in
        absurd cc
    follow_at (Some Folder) names m node go on k here_is stands next e =
        let end : names ≡ m = cc in
        (rw (still names Folder (inl k) here_is) e, subst Out end k)
    follow_at (Some (File bytes)) names m node go on k here_is stands next e =
        let end : names ≡ m = cc in
        (rw (still names (File bytes) (inl k) here_is) e, subst Out end k)
    follow_at (Some (Link target)) names m node go on k here_is stands next e =
        let r = next target refl e in
        (rw (still names (Link target) (inl k) here_is) r.0, r.1)

    followed_still : (n : ℕ) (names m : Names) (node : Node) → Out names → look t m ≡ Some node → followed n t names ≡ Ok m → (followed n new names ≡ Ok m) × Out m
    unfolding followed
    followed_still zero names m node k stands e = follow_at (look t names) names m node (λ target. Err TooDeep) (λ target. Err TooDeep) k refl stands (λ target link wrong. absurd cc) e
    followed_still (suc n) names m node k stands e =
        follow_at (look t names) names m node (λ target. and_then (standing t target) (followed n t)) (λ target. and_then (standing new target) (followed n new)) k refl stands
        (λ target link led.
        let f = and_then_ok (standing t target) (followed n t) m led in
        let s = standing_still target f.0 (link_out names target k link) f.1 in
        let r = followed_still n f.0 m node s.1 stands f.2 in
        (rw s.0 r.0, r.1))
        e

    end_still : (target : List ℕ) (m : Names) (node : Node) → IsFor (Some home) Elsewhere target → look t m ≡ Some node → link_end t target ≡ Ok m → (link_end new target ≡ Ok m) × Out m
    unfolding link_end
    end_still target m node out stands e =
        let f = and_then_ok (standing t target) (followed 15 t) m e in
        let s = standing_still target f.0 out f.1 in
        let r = followed_still 15 f.0 m node s.1 stands f.2 in
        (rw s.0 r.0, r.1)

    bytes_still : (blob : Option Blob) (bytes : List ℕ) → LeadsOut home blob → blob_bytes t blob ≡ Ok bytes → blob_bytes new blob ≡ Ok bytes
    bytes_still None bytes out e = absurd cc
    bytes_still (Some (InFile b)) bytes out e = e
    bytes_still (Some (AtLink target)) bytes out e =
        let f = and_then_ok (link_end t target) (λ names. bytes_there IsADirectory (look t names)) bytes e in
        let there = file_there (look t f.0) bytes f.2 in
        let l = end_still target f.0 (File bytes) out there f.1 in
        rw (l.0, still f.0 (File bytes) (inl l.1) there) refl

    there_still : (blob : Option Blob) → LeadsOut home blob → blob_there t blob ≡ There true → blob_there new blob ≡ There true
    there_still None out e = absurd cc
    there_still (Some (InFile b)) out e = refl
    there_still (Some (AtLink target)) out e =
        let m = found_names (and_then (link_end t target) (λ names. where_there (look t names) names)) e in
        let f = and_then_ok (link_end t target) (λ names. where_there (look t names) names) m.0 m.1 in
        let s = something_there (look t f.0) f.0 m.0 f.2 in
        let l = end_still target f.0 s.0 out s.1 f.1 in
        rw (l.0, still f.0 s.0 (inl l.1) s.1) refl

    -- a good content that stays is good
    pub good_still : (h : Hash) → content_in home new h ≡ content_in home t h → is_good home t h ≡ true → is_good home new h ≡ true
    good_still h same good =
        let m = bytes_met (h ∷ []) (blob_bytes t (content_in home t h)) good in
        ap (λ blob. is_met (h ∷ []) (blob_bytes new blob)) same
        ∙ ap (is_met (h ∷ [])) (bytes_still (content_in home t h) m.0 (content_out home t h placed) m.1 ∙ sym m.1) ∙ good

    -- and it is there
    pub good_there : (h : Hash) (hs : List Hash) → Rooted new → IsHash h → content_in home new h ≡ content_in home t h → is_good home t h ≡ true → Has new (h ∷ hs)
    good_there h hs rooted hash same good =
        let m = bytes_met (h ∷ []) (blob_bytes t (content_in home t h)) good in
        let yes = there_still (content_in home t h) (content_out home t h placed) (bytes_are_there t (content_in home t h) m.0 m.1) in
        has_so new h hs rooted hash (ap (blob_there new) same ∙ yes)

    -- what was there is there, if contents stay
    pub has_still : (i : List Hash) → Rooted t → Rooted new → IsIntegrity i → ((h : Hash) → content_in home new h ≡ content_in home t h) → Has t i → Has new i
    has_still [] rooted left formed same has = absurd (omega (arith, formed.nonempty))
    has_still (h ∷ hs) rooted left formed same has =
        let hash = All-head IsHash h hs formed.hashes in
        let yes = there_still (content_in home t h) (content_out home t h placed) (so_has t h hs placed rooted hash has) in
        has_so new h hs left hash (ap (blob_there new) (same h) ∙ yes)

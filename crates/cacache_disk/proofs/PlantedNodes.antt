-- What somebody else plants leaves each node in a folder.
use Rattle.std.proofs.{Common.{◌≡◌, ◌==◌, ◌-◌, ◌+◌, ◌<◌, ◌≤◌, ℕ, Bool, true, false, cond, List, [], ◌∷◌, ◌++◌, Option, None, Some, Ok, length, refl, sym, ap, ap₂, subst, ◌∙◌, arith, eqb-true, length-append, append_assoc, append-nil}, Math.Seq.{take-append_seam}}
use Rattle.cacache_core.{specs.{declared.errors.Fault.TheVariants.{AlreadyExists, NotADirectory}, Paths.{names_of}}, proofs.ProperNames.{not_true}}
use Rattle.cacache_disk.specs.{declared.node.Node.{Node, TheVariants.{Folder, File}}, Tree.{Tree, Names, look, put, same_path, is_folder, AreProper, Rooted}, LedTo.{or_fault, dirs_fault, is_in_way, where_no_folder}, Apply.{planted, above_last, make_some, if_missing}}
use Rattle.cacache_disk.proofs.{Maps.{same_path-true}, PathTexts.{names_proper}, PutNodes.{look-put}, FoundNodes.{and_then_ok, or_fault_none, no_folder_at}, Roots.{put_rooted, make_rooted, front_proper, same_folder, same_self, no_fault, dirs_fault-put}}

-- ---- the folders above a file

-- what lies deeper stays
deeper_at : (t : Tree) (p q rest : Names) (here : Option Node) (count : ℕ) (b : Bool) → length p < length q
    → ((new : Tree) (count : ℕ) → look (make_some new p rest count) q ≡ look new q)
    → look (make_some (if_missing here (cond b t (put t p Folder)) t) p rest (if_missing here (count - 1) count)) q ≡ look t q
deeper_at t p q rest None count true l h = h t (count - 1)
deeper_at t p q rest None count false l h =
    let apart : same_path q p ≡ false = not_true (same_path q p) (λ s. let same : length q ≡ length p = ap (λ (n : Names). length n) (same_path-true q p s) in omega arith) in
    h (put t p Folder) (count - 1) ∙ look-put t p Folder q ∙ ap (λ b. cond b (Some Folder) (look t q)) apart
deeper_at t p q rest (Some node) count b l h = h t count

pub deeper : (t : Tree) (above rest q : Names) (count : ℕ) → length (above ++ rest) < length q → look (make_some t above rest count) q ≡ look t q
deeper t above [] q count l = refl
deeper t above (name ∷ rest) q count l =
    let shorter : length (above ++ name ∷ []) < length q = omega (arith, l, length-append above (name ∷ rest), length-append above (name ∷ [])) in
    let same : length ((above ++ name ∷ []) ++ rest) ≡ length (above ++ name ∷ rest) = ap (λ (n : Names). length n) (append_assoc above (name ∷ []) rest) in
    deeper_at t (above ++ name ∷ []) q rest (look t (above ++ name ∷ [])) count (count == 0) shorter (λ new count. deeper new (above ++ name ∷ []) rest q count (omega (arith, l, same)))

-- all folders made, the last of them is there
full_at : (t : Tree) (p rest : Names) (here : Option Node) (count : ℕ) (b : Bool) → look t p ≡ here → (count == 0) ≡ b → is_in_way here ≡ false
    → dirs_fault t p rest ≡ None
    → ((new : Tree) (count : ℕ) → look new p ≡ Some Folder → dirs_fault new p rest ≡ None → length rest ≤ count → look (make_some new p rest count) (p ++ rest) ≡ Some Folder) → length rest + 1 ≤ count
    → look (make_some (if_missing here (cond b t (put t p Folder)) t) p rest (if_missing here (count - 1) count)) (p ++ rest) ≡ Some Folder
full_at t p rest None count true e z clear f h l = let none : count ≡ 0 = eqb-true count 0 z in absurd (omega arith)
full_at t p rest None count false e z clear f h l =
    h (put t p Folder) (count - 1) (look-put t p Folder p ∙ ap (λ b. cond b (Some Folder) (look t p)) (same_self p)) (dirs_fault-put t p p rest (ap is_in_way e) ∙ f) (omega arith)
full_at t p rest (Some Folder) count b e z clear f h l = h t count e f (omega arith)
full_at t p rest here count b e z clear f h l = absurd cc

pub full : (t : Tree) (above rest : Names) (count : ℕ) → look t above ≡ Some Folder → dirs_fault t above rest ≡ None → length rest ≤ count
    → look (make_some t above rest count) (above ++ rest) ≡ Some Folder
full t above [] count is f l = ap (look t) (append-nil above) ∙ is
full t above (name ∷ rest) count is f l =
    let g = no_fault (is_in_way (look t (above ++ name ∷ []))) (cond (length rest == 0) AlreadyExists NotADirectory) (dirs_fault t (above ++ name ∷ []) rest) f in
    let same : (above ++ name ∷ []) ++ rest ≡ above ++ name ∷ rest = append_assoc above (name ∷ []) rest in
    subst (λ q. look (make_some t above (name ∷ rest) count) q ≡ Some Folder) same
    (full_at t (above ++ name ∷ []) rest (look t (above ++ name ∷ [])) count (count == 0) refl refl g.0 g.1
    (λ new count i f l. full new (above ++ name ∷ []) rest count i f l) (omega arith))

pub above_last-snoc : (above : Names) (name : List ℕ) → above_last (above ++ name ∷ []) ≡ above
above_last-snoc above name =
    let l : length (above ++ name ∷ []) - 1 ≡ length above = omega (arith, length-append above (name ∷ [])) in
    rw l (take-append_seam above (name ∷ []))

-- a list is empty or has a last item
pub data Ends (names : Names) : Type 0 where
  empty : names ≡ [] → Ends names
  last : (above : Names) (name : List ℕ) → names ≡ above ++ name ∷ [] → Ends names

ends_at : (n : List ℕ) (rest : Names) → Ends rest → Ends (n ∷ rest)
ends_at n rest (empty e) = last [] n (ap (λ (l : Names). n ∷ l) e)
ends_at n rest (last above name e) = last (n ∷ above) name (ap (λ (l : Names). n ∷ l) e)

pub ends : (names : Names) → Ends names
ends [] = empty refl
ends (n ∷ rest) = ends_at n rest (ends rest)

-- ---- the file

module _ (t : Tree) (bytes : List ℕ) (rooted : Rooted t) where
  file_rooted : (above : Names) (name : List ℕ) → AreProper (above ++ name ∷ []) → dirs_fault t [] above ≡ None → is_folder (look t (above ++ name ∷ [])) ≡ false
      → Rooted (put (make_some t [] above (length above)) (above ++ name ∷ []) (File bytes))
  file_rooted above name proper f old =
      let l : length (above ++ name ∷ []) ≡ length above + 1 = omega (arith, length-append above (name ∷ [])) in
      let stays : look (make_some t [] above (length above)) (above ++ name ∷ []) ≡ look t (above ++ name ∷ []) = deeper t [] above (above ++ name ∷ []) (length above) (omega (arith, l)) in
      let upper : look (make_some t [] above (length above)) above ≡ Some Folder = full t [] above (length above) rooted.top f (omega arith) in
      put_rooted (make_some t [] above (length above)) (above ++ name ∷ []) (File bytes)
      (make_rooted t [] above (length above) rooted (front_proper above (name ∷ []) proper) rooted.top f)
      (record { parent = λ a n is. ap (look (make_some t [] above (length above))) (sym (same_folder above a name n is)) ∙ upper; proper = proper })
      (ap is_folder stays ∙ old)

  planted_at : (names : Names) (new : Tree) → Ends names → AreProper names → dirs_fault t [] (above_last names) ≡ None → is_folder (look t names) ≡ false
      → put (make_some t [] (above_last names) (length (above_last names))) names (File bytes) ≡ new → Rooted new
  planted_at names new (empty e) proper f old is = let differ : true ≡ false = sym (ap is_folder rooted.top) ∙ ap (λ q. is_folder (look t q)) (sym e) ∙ old in absurd cc
  planted_at names new (last above name e) proper f old is =
      let front : above_last names ≡ above = ap above_last e ∙ above_last-snoc above name in
      let same : put (make_some t [] above (length above)) (above ++ name ∷ []) (File bytes) ≡ new = ap₂ (λ (a n : Names). put (make_some t [] a (length a)) n (File bytes)) (sym front) (sym e) ∙ is in
      subst Rooted same (file_rooted above name (subst AreProper e proper) (ap (dirs_fault t []) (sym front) ∙ f) (ap (λ q. is_folder (look t q)) (sym e) ∙ old))

  pub planted_rooted : (path : List ℕ) (new : Tree) → planted t path bytes ≡ Ok new → Rooted new
  unfolding planted
  planted_rooted path new e =
      let f = and_then_ok (names_of path) _ new e in
      let g = and_then_ok (or_fault (dirs_fault t [] (above_last f.0)) f.0) _ new f.2 in
      let h = and_then_ok (where_no_folder (look t g.0) g.0) _ new g.2 in
      let o = or_fault_none (dirs_fault t [] (above_last f.0)) f.0 g.0 g.1 in
      let n = no_folder_at (look t g.0) g.0 h.0 h.1 in
      planted_at h.0 new (ends h.0) (names_proper path h.0 (f.1 ∙ ap Ok (o.1 ∙ n.1)))
      (ap (λ q. dirs_fault t [] (above_last q)) (sym (o.1 ∙ n.1)) ∙ o.0) (ap (λ q. is_folder (look t q)) (sym n.1) ∙ n.0) cc

-- What is put and cut leaves each node in a folder.
use Rattle.std.proofs.{lemmas.Grind.{common_steps}, Common.{rules, ◌≡◌, ◌==◌, ◌-◌, ℕ, Bool, true, false, cond, List, [], ◌∷◌, ◌++◌, Option, None, Some, length, refl, sym, ap, subst, ◌∙◌, arith, eqb-true, length-append, append_assoc}}
use Rattle.std.specs.{Prelude.{IfSome}, Cmp.{eq_by_cmp_equiv}}
use Rattle.std.specs.FinMap as map
use Rattle.cacache_core.{specs.{declared.errors.Fault.{Fault, TheVariants.{AlreadyExists, NotADirectory}}, Paths.{folder_names}}, proofs.ProperNames.{not_true}}
use Rattle.cacache_disk.specs.{declared.node.Node.{Node, TheVariants.{Folder, File}}, Tree.{Tree, Names, look, put, cut, bare, names_cmp, same_path, is_folder, StandsIn, AreProper, Rooted}, LedTo.{dirs_fault, is_in_way}, Apply.{make_some, if_missing}}
use Rattle.cacache_disk.proofs.{Maps.{total, same_path-true}, PutNodes.{look-put, look-cut, folders-cut}, PathTexts.{make_none}}

-- proper names in a folder that is there
pub record CanStand (t : Tree) (p : Names) : Type 0 where
  pub parent : (above : Names) (name : List ℕ) → p ≡ above ++ name ∷ [] → look t above ≡ Some Folder
  pub proper : AreProper p

-- the first of proper names are proper
pub front_proper : (above rest : Names) → AreProper (above ++ rest) → AreProper above
front_proper [] rest all = tt
front_proper (name ∷ above) rest all = (all.0, front_proper above rest all.1)

proper_at : (t : Tree) (p q : Names) (node : Node) (b : Bool) → same_path q p ≡ b → AreProper p → IfSome (look t q) (λ node. AreProper q)
    → IfSome (cond b (Some node) (look t q)) (λ node. AreProper q)
proper_at t p q node true e all old = subst AreProper (sym (same_path-true q p e)) all
proper_at t p q node false e all old = old

kept_at : (q : Names) (old : Option Node) (b : Bool) → IfSome old (λ node. AreProper q) → IfSome (cond b None old) (λ node. AreProper q)
kept_at q old b all = grind (arith, common_steps)

longer : (above : Names) (name : List ℕ) → above ++ name ∷ [] ≡ above → ⊥
longer above name e = let l : length (above ++ name ∷ []) ≡ length above = ap (λ (n : Names). length n) e in omega (arith, length-append above (name ∷ []))

-- nothing is below what is no folder
nothing_below : (upper child : Option Node) (other : Option Node) → StandsIn upper child → is_folder upper ≡ false → StandsIn other child
nothing_below upper child other s old = grind (arith, common_steps)

top_put : (p : Names) (node : Node) (t : Tree) (b : Bool) → same_path [] p ≡ b → look t [] ≡ Some Folder → is_folder (look t p) ≡ false
    → cond b (Some node) (look t []) ≡ Some Folder
top_put p node t b e top old = grind (arith, same_path-true)

put_at : (t : Tree) (p above : Names) (name : List ℕ) (node : Node) (x y : Bool) → same_path above p ≡ x → same_path (above ++ name ∷ []) p ≡ y
    → CanStand t p → is_folder (look t p) ≡ false
    → StandsIn (look t above) (look t (above ++ name ∷ []))
    → StandsIn (cond x (Some node) (look t above)) (cond y (Some node) (look t (above ++ name ∷ [])))
put_at t p above name node x y e f stand old s = grind (arith, longer, same_path-true, nothing_below)

pub put_rooted : (t : Tree) (p : Names) (node : Node) → Rooted t → CanStand t p → is_folder (look t p) ≡ false → Rooted (put t p node)
put_rooted t p node rooted stand old = search (rules, look-put, top_put, put_at, proper_at)

-- a node without any below it can be cut
abbrev pub IsBare : Tree → Names → Type 0
IsBare t p = (name : List ℕ) → look t (p ++ name ∷ []) ≡ None

top_cut : (p : Names) (t : Tree) (b : Bool) → same_path [] p ≡ b → look t [] ≡ Some Folder → (p ≡ [] → ⊥) → cond b None (look t []) ≡ Some Folder
top_cut p t b e top below = grind (arith, same_path-true)

cut_at : (t : Tree) (p above : Names) (name : List ℕ) (x y : Bool) → same_path above p ≡ x → IsBare t p
    → StandsIn (look t above) (look t (above ++ name ∷ [])) → StandsIn (cond x None (look t above)) (cond y None (look t (above ++ name ∷ [])))
cut_at t p above name x true e bare s = tt
cut_at t p above name true false e bare s = let gone : look t (above ++ name ∷ []) ≡ None = ap (λ q. look t (q ++ name ∷ [])) (same_path-true above p e) ∙ bare name in rw gone tt
cut_at t p above name false false e bare s = s

pub cut_rooted : (t : Tree) (p : Names) → Rooted t → (p ≡ [] → ⊥) → IsBare t p → Rooted (cut t p)
cut_rooted t p rooted below bare = record {
  top = look-cut t p [] ∙ top_cut p t (same_path [] p) refl rooted.top below;
  folders = λ above name. rw (look-cut t p above, look-cut t p (above ++ name ∷ [])) (cut_at t p above name (same_path above p) (same_path (above ++ name ∷ []) p) refl bare (rooted.folders above name));
  proper = λ q. rw (look-cut t p q) (kept_at q (look t q) (same_path q p) (rooted.proper q));
}

file_bare : (upper child : Option Node) → StandsIn upper child → is_folder upper ≡ false → child ≡ None
file_bare upper child s old = grind (arith, common_steps)

pub file_cut : (t : Tree) (p : Names) → Rooted t → is_folder (look t p) ≡ false → Rooted (cut t p)
file_cut t p rooted old =
    cut_rooted t p rooted (λ e. let differ : true ≡ false = sym (ap is_folder rooted.top) ∙ ap (λ q. is_folder (look t q)) (sym e) ∙ old in cc)
    (λ name. file_bare (look t p) (look t (p ++ name ∷ [])) (rooted.folders p name) old)

pub same_self : (p : Names) → same_path p p ≡ true
same_self p = (eq_by_cmp_equiv total).refl p

-- a folder stays if a file is cut
still_at : (t : Tree) (old above : Names) (b : Bool) → same_path above old ≡ b → is_folder (look t old) ≡ false → look t above ≡ Some Folder
    → cond b None (look t above) ≡ Some Folder
still_at t old above b e no_folder is = grind (arith, same_path-true)

pub persist_rooted : (t : Tree) (old new : Names) (bytes : List ℕ) → Rooted t → is_folder (look t old) ≡ false → CanStand t new
    → is_folder (look t new) ≡ false → Rooted (put (cut t old) new (File bytes))
persist_rooted t old new bytes rooted e stand f =
    put_rooted (cut t old) new (File bytes) (file_cut t old rooted e)
    (record {
      parent = λ above name is. look-cut t old above ∙ still_at t old above (same_path above old) refl e (stand.parent above name is);
      proper = stand.proper;
    })
    (folders-cut t old new e ∙ f)

-- ---- making folders

pub folder_names-snoc : (a : Names) (x : List ℕ) → folder_names (a ++ x ∷ []) ≡ a
folder_names-snoc (n ∷ m ∷ a) x = ap (λ (l : Names). n ∷ l) (folder_names-snoc (m ∷ a) x)
folder_names-snoc a x = refl

pub same_folder : (a b : Names) (x y : List ℕ) → a ++ x ∷ [] ≡ b ++ y ∷ [] → a ≡ b
same_folder a b x y e = sym (folder_names-snoc a x) ∙ ap folder_names e ∙ folder_names-snoc b y

way_at : (t : Tree) (p q : Names) (b : Bool) → same_path q p ≡ b → is_in_way (look t p) ≡ false
    → is_in_way (cond b (Some Folder) (look t q)) ≡ is_in_way (look t q)
way_at t p q b e clear = grind (arith, same_path-true)

-- a folder made where nothing was is in nobody's way
pub dirs_fault-put : (t : Tree) (p above rest : Names) → is_in_way (look t p) ≡ false
    → dirs_fault (put t p Folder) above rest ≡ dirs_fault t above rest
dirs_fault-put t p above [] clear = refl
dirs_fault-put t p above (name ∷ rest) clear =
    let same : is_in_way (look (put t p Folder) (above ++ name ∷ [])) ≡ is_in_way (look t (above ++ name ∷ [])) = ap is_in_way (look-put t p Folder (above ++ name ∷ [])) ∙ way_at t p (above ++ name ∷ []) (same_path (above ++ name ∷ []) p) refl clear in
    rw (same, dirs_fault-put t p (above ++ name ∷ []) rest clear) refl

pub no_fault : (b : Bool) (fault : Fault) (later : Option Fault) → cond b (Some fault) later ≡ None → (b ≡ false) × (later ≡ None)
no_fault b fault later e = grind (arith, common_steps)

made_rooted : (above rest : Names) (name : List ℕ) (t : Tree) (here : Option Node) (count : ℕ) (b : Bool) → look t (above ++ name ∷ []) ≡ here
    → (count == 0) ≡ b → is_in_way here ≡ false → Rooted t → AreProper (above ++ name ∷ []) → look t above ≡ Some Folder
    → dirs_fault t (above ++ name ∷ []) rest ≡ None
    → ((new : Tree) (count : ℕ) → Rooted new → look new (above ++ name ∷ []) ≡ Some Folder → dirs_fault new (above ++ name ∷ []) rest ≡ None → Rooted (make_some new (above ++ name ∷ []) rest count))
    → Rooted (make_some (if_missing here (cond b t (put t (above ++ name ∷ []) Folder)) t) (above ++ name ∷ []) rest (if_missing here (count - 1) count))
made_rooted above rest name t None count true is none clear rooted proper upper later more =
    let zero_left : count ≡ 0 = eqb-true count 0 none in
    rw (zero_left, make_none t (above ++ name ∷ []) rest) rooted
made_rooted above rest name t None count false is none clear rooted proper upper later more =
    let p = above ++ name ∷ [] in
    let free : is_folder (look t (above ++ name ∷ [])) ≡ false = ap is_folder is in
    more (put t (above ++ name ∷ []) Folder) (count - 1)
    (put_rooted t (above ++ name ∷ []) Folder rooted (record { parent = λ a n e. ap (look t) (sym (same_folder above a name n e)) ∙ upper; proper = proper }) free)
    (look-put t (above ++ name ∷ []) Folder (above ++ name ∷ []) ∙ ap (λ b. cond b (Some Folder) (look t (above ++ name ∷ []))) (same_self (above ++ name ∷ [])))
    (dirs_fault-put t (above ++ name ∷ []) (above ++ name ∷ []) rest (ap is_in_way is) ∙ later)
made_rooted above rest name t (Some Folder) count b is none clear rooted proper upper later more = more t count rooted is later
made_rooted above rest name t here count b is none clear rooted proper upper later more = absurd cc

pub make_rooted : (t : Tree) (above rest : Names) (count : ℕ) → Rooted t → AreProper (above ++ rest) → look t above ≡ Some Folder → dirs_fault t above rest ≡ None
    → Rooted (make_some t above rest count)
make_rooted t above [] count rooted proper upper e = rooted
make_rooted t above (name ∷ rest) count rooted proper upper e =
    let deeper : AreProper ((above ++ name ∷ []) ++ rest) = subst AreProper (sym (append_assoc above (name ∷ []) rest)) proper in
    let f = no_fault (is_in_way (look t (above ++ name ∷ []))) (cond (length rest == 0) AlreadyExists NotADirectory) (dirs_fault t (above ++ name ∷ []) rest) e in
    made_rooted above rest name t (look t (above ++ name ∷ [])) count (count == 0) refl refl f.0 rooted (front_proper (above ++ name ∷ []) rest deeper) upper f.1
    (λ new count r u l. make_rooted new (above ++ name ∷ []) rest count r deeper u l)

-- ---- nothing but the top folder

pub look-bare : (q : Names) → look bare q ≡ cond (same_path q []) (Some Folder) None
look-bare q = look-put map.empty [] Folder q ∙ ap (cond (same_path q []) (Some Folder)) (map.get-empty names_cmp q)

pub bare_below : (above : Names) (name : List ℕ) (rest : Names) → look bare (above ++ name ∷ rest) ≡ None
bare_below above name rest =
    let apart : same_path (above ++ name ∷ rest) [] ≡ false
    = not_true (same_path (above ++ name ∷ rest) []) (λ s. let same : length (above ++ name ∷ rest) ≡ 0 = ap (λ (n : Names). length n) (same_path-true (above ++ name ∷ rest) [] s) in omega (arith, length-append above (name ∷ rest))) in
    look-bare (above ++ name ∷ rest) ∙ ap (λ b. cond b (Some Folder) None) apart

bare_proper : (q : Names) (b : Bool) → same_path q [] ≡ b → IfSome (cond b (Some Folder) None) (λ node. AreProper q)
bare_proper q true e = subst AreProper (sym (same_path-true q [] e)) tt
bare_proper q false e = tt

pub bare_rooted : Rooted bare
bare_rooted = search (rules, look-bare, same_self, bare_below, bare_proper)

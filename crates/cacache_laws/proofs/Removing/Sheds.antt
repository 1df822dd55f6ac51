-- Trees without what was at some paths and below them, and folders that are emptied.
use Rattle.std.proofs.{lemmas.{Grind.{common_steps}, Slice.Eq.{bytes_eq-Decides}, Bool.{ne_eqb}}, Common.{◌≡◌, ◌⊎◌, inl, inr, ℕ, Bool, true, false, cond, List, [], ◌∷◌, ◌++◌, Option, None, refl, sym, ap, ap₂, ◌∙◌, append_assoc, append-nil, ◌==◌, Some, Ok, length, arith, length-append}}
use Rattle.std.specs.Prelude.{bytes_eq}
use Rattle.cacache_core.specs.Paths.{Names, names_of}
use Rattle.cacache_store.specs.declared.store.answer.Name.{Name}
use Rattle.cacache_disk.specs.{declared.{node.Node.{Node, TheVariants.{Folder}}, luck.Luck.TheVariants.{Plain}}, Tree.{Tree, look, cut, same_path, listing, kind_of, Rooted}, LedTo.{emptied}, Apply.{apply}}
use Rattle.cacache_disk.proofs.{Maps.{same_path-true}, PutNodes.{look-cut}, Roots.{same_self}, Standing.{above_missing}}
use Rattle.cacache_history.proofs.{Listings.ToldFolders.{IsAmong, Told, child_listed}, Each.{Each}}
use Rattle.cacache_loss.proofs.Reaching.{bytes_same}
use Rattle.cacache_laws.proofs.trees.Children.{folder_there}
use Rattle.cacache_store.specs.declared.store.step.Step.TheVariants as steps
use Rattle.cacache_store.specs.declared.store.answer.Answer.TheVariants as answers

-- ---- at a path or below it

-- the path begins with these names
abbrev pub under : Names → Names → Bool
under [] q = true
under (n ∷ p) [] = false
under (n ∷ p) (m ∷ q) = cond (bytes_eq n m) (under p q) false

pub under_self : (p rest : Names) → under p (p ++ rest) ≡ true
under_self [] rest = refl
under_self (n ∷ p) rest = rw (bytes_same n) (under_self p rest)

under_at : (n m : List ℕ) (p q : Names) (b : Bool) → bytes_eq n m ≡ b → (under p q ≡ true → (rest : Names) × (q ≡ p ++ rest)) → cond b (under p q) false ≡ true → (rest : Names) × (m ∷ q ≡ n ∷ p ++ rest)
under_at n m p q true is more e = let k = more e in (k.0, ap₂ (λ (x : List ℕ) (y : Names). x ∷ y) (sym ((bytes_eq-Decides n m).0 is)) k.1)
under_at n m p q false is more e = absurd cc

pub under_is : (p q : Names) → under p q ≡ true → (rest : Names) × (q ≡ p ++ rest)
under_is [] q e = (q, refl)
under_is (n ∷ p) [] e = absurd cc
under_is (n ∷ p) (m ∷ q) e = under_at n m p q (bytes_eq n m) refl (under_is p q) e

-- nothing is below another name of the folder
not_same : (n m : List ℕ) (b : Bool) → bytes_eq n m ≡ b → (n ≡ m → ⊥) → b ≡ false
not_same n m true is apart = absurd (apart ((bytes_eq-Decides n m).0 is))
not_same n m false is apart = refl

pub under_other : (p rest : Names) (n m : List ℕ) → (n ≡ m → ⊥) → under (p ++ n ∷ []) (p ++ m ∷ rest) ≡ false
under_other [] rest n m apart = rw (not_same n m (bytes_eq n m) refl apart) refl
under_other (k ∷ p) rest n m apart = rw (bytes_same k) (under_other p rest n m apart)

-- the folder itself isn't either
pub under_upper : (p : Names) (n : List ℕ) → under (p ++ n ∷ []) p ≡ false
under_upper [] n = refl
under_upper (k ∷ p) n = rw (bytes_same k) (under_upper p n)

-- ---- trees without it

-- the new tree is the old one without what was at the path and below it
abbrev pub Shed : Tree → Tree → Names → Type 0
Shed t new p = (q : Names) → look new q ≡ cond (under p q) None (look t q)

module _ (t : Tree) (p : Names) (rooted : Rooted t) (none : (n : List ℕ) → look t (p ++ n ∷ []) ≡ None) where
  below_none : (rest : Names) → look (cut t p) (p ++ rest) ≡ None
  below_none [] =
      let self : same_path (p ++ []) p ≡ true = ap (λ (q : Names). same_path q p) (append-nil p) ∙ same_self p in
      look-cut t p (p ++ []) ∙ ap (λ b. cond b None (look t (p ++ []))) self
  below_none (n ∷ rest) = look-cut t p (p ++ n ∷ rest) ∙ at (same_path (p ++ n ∷ rest) p)
    where
      at : (b : Bool) → cond b None (look t (p ++ n ∷ rest)) ≡ None
      at true = refl
      at false = ap (look t) (sym (append_assoc p (n ∷ []) rest)) ∙ above_missing t (p ++ n ∷ []) rest rooted (none n)

  shed_at : (q : Names) (b c : Bool) → under p q ≡ b → same_path q p ≡ c → look (cut t p) q ≡ cond b None (look t q)
  shed_at q true c below same = let k = under_is p q below in ap (look (cut t p)) k.1 ∙ below_none k.0
  shed_at q false true below same =
      let self : under p q ≡ true = ap (under p) (same_path-true q p same ∙ sym (append-nil p)) ∙ under_self p [] in
      let wrong : false ≡ true = sym below ∙ self in absurd cc
  shed_at q false false below same = look-cut t p q ∙ ap (λ b. cond b None (look t q)) same

  -- if nothing is in it, cutting it sheds it
  pub cut_sheds : Shed t (cut t p) p
  cut_sheds q = shed_at q (under p q) (same_path q p) refl refl

-- ---- names in a folder

-- the path is one of these names in the folder, or below it
abbrev pub among : Names → List Name → Names → Bool
among p [] q = false
among p (n ∷ ns) q = cond (under (p ++ n.name ∷ []) q) true (among p ns q)

-- the new tree is the old one without these names of the folder, and without all below them
abbrev pub ShedAll : Tree → Tree → Names → List Name → Type 0
ShedAll t new p ns = (q : Names) → look new q ≡ cond (among p ns q) None (look t q)

shed_both : (b c : Bool) (x y z : Option Node) → x ≡ cond c None y → y ≡ cond b None z → x ≡ cond (cond b true c) None z
shed_both b c x y z e f = grind (arith, common_steps)

pub sheds_more : (t mid new : Tree) (p : Names) (n : Name) (ns : List Name) → Shed t mid (p ++ n.name ∷ []) → ShedAll mid new p ns → ShedAll t new p (n ∷ ns)
sheds_more t mid new p n ns one more q = shed_both (under (p ++ n.name ∷ []) q) (among p ns q) (look new q) (look mid q) (look t q) (more q) (one q)

under_first : (b c : Bool) → b ≡ true → cond b true c ≡ true
under_first b c e = rw e refl

under_later : (b c : Bool) → c ≡ true → cond b true c ≡ true
under_later b c e = grind (arith, common_steps)

-- what is below a name is below one of them
pub listed_among : (p rest : Names) (n : Name) (ns : List Name) → IsAmong n ns → among p ns (p ++ n.name ∷ rest) ≡ true
listed_among p rest n [] m = absurd m
listed_among p rest n (k ∷ ns) (inl same) =
    under_first (under (p ++ k.name ∷ []) (p ++ n.name ∷ rest)) (among p ns (p ++ n.name ∷ rest))
    (ap (λ (x : Name). under (p ++ x.name ∷ []) (p ++ n.name ∷ rest)) (sym same) ∙ ap (under (p ++ n.name ∷ [])) (sym (append_assoc p (n.name ∷ []) rest)) ∙ under_self (p ++ n.name ∷ []) rest)
listed_among p rest n (k ∷ ns) (inr m) = under_later (under (p ++ k.name ∷ []) (p ++ n.name ∷ rest)) (among p ns (p ++ n.name ∷ rest)) (listed_among p rest n ns m)

not_either : (b c : Bool) → b ≡ false → c ≡ false → cond b true c ≡ false
not_either b c e f = rw e f

-- the folder itself is below none of them
pub folder_apart : (p : Names) (ns : List Name) → among p ns p ≡ false
folder_apart p [] = refl
folder_apart p (n ∷ ns) = not_either (under (p ++ n.name ∷ []) p) (among p ns p) (under_upper p n.name) (folder_apart p ns)

either : (b c : Bool) → cond b true c ≡ true → (b ≡ true) ⊎ (c ≡ true)
either b c e = grind (arith, common_steps)

-- what is below one of them is below the folder
pub among_below : (p : Names) (ns : List Name) (q : Names) → among p ns q ≡ true → (n : List ℕ) × (rest : Names) × (q ≡ p ++ n ∷ rest)
among_below p [] q e = absurd cc
among_below p (k ∷ ns) q e = elim (either (under (p ++ k.name ∷ []) q) (among p ns q) e) [
  | inl here ↦ (let f = under_is (p ++ k.name ∷ []) q here in (k.name, f.0, f.1 ∙ append_assoc p (k.name ∷ []) f.0))
  | inr later ↦ among_below p ns q later
]

-- ---- steps

pub lists_folder : (t : Tree) (path : List ℕ) (p : Names) → Rooted t → names_of path ≡ Ok p → look t p ≡ Some Folder → apply t (steps.ReadDir path) Plain ≡ (answers.Names (listing t p), t)
unfolding apply
lists_folder t path p rooted is there = rw (folder_there t path p rooted is there) refl

pub empties : (t : Tree) (path : List ℕ) (p : Names) → Rooted t → names_of path ≡ Ok p → look t p ≡ Some Folder → (length p == 0) ≡ false → listing t p ≡ [] → apply t (steps.RemoveDir path) Plain ≡ (answers.Done, cut t p)
unfolding apply emptied
empties t path p rooted is there inner none = rw (folder_there t path p rooted is there, inner, none) refl

-- ---- what is told of names

-- where none stands, none is listed
pub none_listed : (t : Tree) (p : Names) (ns : List Name) → Each (Told t p) ns → ((name : List ℕ) → look t (p ++ name ∷ []) ≡ None) → ns ≡ []
none_listed t p [] told none = refl
none_listed t p (n ∷ ns) told none = absurd (let wrong : None ≡ Some told.0.node = sym (none n.name) ∙ told.0.stands in cc)

pub told_still : (t mid : Tree) (p : Names) (n : List ℕ) (ns : List Name) → Shed t mid (p ++ n ∷ []) → Each (λ m. n ≡ m.name → ⊥) ns → Each (Told t p) ns → Each (Told mid p) ns
told_still t mid p n [] shed apart told = tt
told_still t mid p n (m ∷ ns) shed apart told = (
  record {
    node = told.0.node;
    stands = shed (p ++ m.name ∷ []) ∙ ap (λ b. cond b None (look t (p ++ m.name ∷ []))) (under_other p [] n m.name apart.0) ∙ told.0.stands;
    kind = told.0.kind;
  },
  told_still t mid p n ns shed apart.1 told.1,
)

pub long_names : (p : Names) (name : List ℕ) → (length (p ++ name ∷ []) == 0) ≡ false
long_names p name = ne_eqb (length (p ++ name ∷ [])) 0 (λ e. omega (arith, e, length-append p (name ∷ [])))

-- ---- a folder without what was in it

none_either : (b : Bool) → cond {A = Option Node} b None None ≡ None
none_either b = grind (arith, common_steps)

pub child_gone : (t new : Tree) (p : Names) (name : List ℕ) (here : Option Node) → ShedAll t new p (listing t p) → look t (p ++ name ∷ []) ≡ here → look new (p ++ name ∷ []) ≡ None
child_gone t new p name None sheds is = sheds (p ++ name ∷ []) ∙ ap (λ x. cond (among p (listing t p) (p ++ name ∷ [])) None x) is ∙ none_either (among p (listing t p) (p ++ name ∷ []))
child_gone t new p name (Some node) sheds is =
    sheds (p ++ name ∷ []) ∙ ap (λ b. cond b None (look t (p ++ name ∷ []))) (listed_among p [] (record { name = name; kind = kind_of node }) (listing t p) (child_listed t p name node is))

-- with all names in it a folder goes
pub folder_shed : (t mid : Tree) (p q : Names) (ns : List Name) (b c : Bool) → under p q ≡ b → among p ns q ≡ c → look mid q ≡ cond c None (look t q) → cond b None (look mid q) ≡ cond b None (look t q)
folder_shed t mid p q ns b c below some e = grind (arith, among_below, under_self)

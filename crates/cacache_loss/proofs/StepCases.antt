-- What a calm step does to a path of the cache.
use Rattle.std.proofs.{lemmas.{Grind.{common_steps}, Bool.{false_from_ne_true}}, Common.{rules, arith, ◌≡◌, ◌-◌, ◌==◌, ℕ, Bool, true, false, cond, List, [], ◌∷◌, ◌++◌, Option, None, Some, Ok, Err, take, refl, sym, ap, ◌∙◌}}
use Rattle.std.specs.Prelude.{Result, IfOk}
use Rattle.cacache_core.specs.{declared.errors.Fault.{Fault}, Paths.{Names, names_of}}
use Rattle.cacache_store.specs.{declared.store.{plain.PlainTemp.{PlainTemp}, step.Step.TheVariants.{MakeDirs, CreateTemp, Persist, Append}, answer.Answer.TheVariants.{Done, Took, Failed}}, Plain.{PlainStep, PlainAnswer}}
use Rattle.cacache_disk.specs.{declared.{luck.Luck.{Luck, TheVariants.{Plain, Fail, Take}}, node.Node.{Node, TheVariants.{Folder, File}}}, Tree.{Tree, look, put, cut, same_path, bytes_of}, LedTo.{free, known, kept, replaceable, writable}, Apply.{apply, plain, unless, make_some, if_missing, fails, fault_told}}
use Rattle.cacache_disk.proofs.{Maps.{same_path-true}, PutNodes.{look-put, look-cut}, Changes.{apply_tree, unless_tree}, FoundNodes.{dirs_ok, free_ok, kept_ok, replaceable_ok}}
use Rattle.cacache_value.specs.{Kinds.{Bucket, path_kind, IsFor, PathKind, Way}, Placed.{Placed}}
use Rattle.cacache_value.proofs.{PathKinds.{further, way_here}, Applying.{Reaches, found, missing, bucket_reached, unreachable}, Steps.{known_ok}}

-- what is at another path stays
pub put_misses : (t : Tree) (p q : Names) (node : Node) → same_path q p ≡ false → look (put t p node) q ≡ look t q
put_misses t p q node misses = look-put t p node q ∙ ap (λ b. cond b (Some node) (look t q)) misses

pub cut_misses : (t : Tree) (p q : Names) → same_path q p ≡ false → look (cut t p) q ≡ look t q
cut_misses t p q misses = look-cut t p q ∙ ap (λ b. cond b None (look t q)) misses

-- ---- making folders leaves what is there

make_one : (t : Tree) (p q : Names) (here : Option Node) (node : Node) (b c : Bool) → look t p ≡ here → look t q ≡ Some node → same_path q p ≡ c
    → look (if_missing here (cond b t (put t p Folder)) t) q ≡ Some node
make_one t p q here node b c is e same = grind (arith, same_path-true, look-put)

pub make_keeps : (t : Tree) (above rest q : Names) (node : Node) (count : ℕ) → look t q ≡ Some node → look (make_some t above rest count) q ≡ Some node
make_keeps t above [] q node count e = e
make_keeps t above (name ∷ rest) q node count e =
    make_keeps (if_missing (look t (above ++ name ∷ [])) (cond (count == 0) t (put t (above ++ name ∷ []) Folder)) t)
    (above ++ name ∷ []) rest q node (if_missing (look t (above ++ name ∷ [])) (count - 1) count) (make_one t (above ++ name ∷ []) q (look t (above ++ name ∷ [])) node (count == 0) (same_path q (above ++ name ∷ [])) refl e refl)

-- no folder is made at a path that isn't on the way
pub made_or_there : (t : Tree) (p q : Names) (here : Option Node) (b : Bool) → same_path q p ≡ false → look (if_missing here (cond b t (put t p Folder)) t) q ≡ look t q
made_or_there t p q here b misses = grind (arith, put_misses)

pub make_apart : (home : Option Names) (l : PathKind) (t : Tree) (above rest q : Names) (count : ℕ) → path_kind home q ≡ l → (l ≡ Way → ⊥) → path_kind home (above ++ rest) ≡ Way
    → look (make_some t above rest count) q ≡ look t q
make_apart home l t above [] q count at apart way = refl
make_apart home l t above (name ∷ rest) q count at apart way =
    let here = way_here home above rest name way in
    make_apart home l (if_missing (look t (above ++ name ∷ [])) (cond (count == 0) t (put t (above ++ name ∷ []) Folder)) t)
    (above ++ name ∷ []) rest q (if_missing (look t (above ++ name ∷ [])) (count - 1) count) at apart (further home Way above rest name way)
    ∙ made_or_there t (above ++ name ∷ []) q (look t (above ++ name ∷ [])) (count == 0)
    (false_from_ne_true (same_path q (above ++ name ∷ [])) (λ e. apart (sym at ∙ ap (path_kind home) (same_path-true q (above ++ name ∷ []) e) ∙ here)))

-- ---- what becomes of a file that moves

unless_case : {A : Type 0} (P : PlainAnswer × Tree → Type 0) (t : Tree) (r : Result A Fault) (go : A → PlainAnswer × Tree)
    → ((fault : Fault) → P (Failed fault, t)) → ((a : A) → r ≡ Ok a → P (go a)) → P (unless r t go)
unless_case P t r go h k = grind (arith, common_steps)

fails_case : (P : PlainAnswer × Tree → Type 0) (t left : Tree) (own : Option Fault) (fault : Fault)
    → ((fault : Fault) → P (Failed fault, t)) → ((fault : Fault) → P (Failed fault, left)) → P (fails own fault t left)
fails_case P t left own fault h k = grind (arith, common_steps)

pub data PersistCase (t : Tree) (f : PlainTemp) (p : List ℕ) (o : PlainAnswer × Tree) : Type 0 where
  refused : (fault : Fault) → o ≡ (Failed fault, t) → PersistCase t f p o
  moved : (bytes : List ℕ) (old new : Names) → f.bytes ≡ Some bytes → names_of f.path ≡ Ok old → names_of p ≡ Ok new
      → o ≡ (Done, put (cut t old) new (File bytes)) → PersistCase t f p o

persist_plain : (t : Tree) (f : PlainTemp) (p : List ℕ) → PersistCase t f p (plain t (Persist f p) None)
persist_plain t f p =
    unless_case (PersistCase t f p) t (known f.bytes) _ (λ fault. refused fault refl) (λ bytes has.
    unless_case (PersistCase t f p) t (kept t f.path) _ (λ fault. refused fault refl) (λ old there.
    unless_case (PersistCase t f p) t (replaceable t p) _ (λ fault. refused fault refl) (λ new found.
    moved bytes old new (known_ok f.bytes bytes has) (kept_ok t f.path old there).0 (replaceable_ok t p new found).0 refl)))

pub persist_case : (t : Tree) (f : PlainTemp) (p : List ℕ) (luck : Luck) → PersistCase t f p (apply t (Persist f p) luck)
unfolding apply
persist_case t f p (Fail fault None) = fails_case (PersistCase t f p) t t (fault_told (plain t (Persist f p) None).0) fault (λ e. refused e refl) (λ e. refused e refl)
persist_case t f p (Fail fault (Some n)) = fails_case (PersistCase t f p) t t (fault_told (plain t (Persist f p) None).0) fault (λ e. refused e refl) (λ e. refused e refl)
persist_case t f p luck = persist_plain t f p

-- ---- what becomes of a bucket

abbrev pub grown : Tree → Names → List ℕ → ℕ → Tree
grown t names bytes n = put t names (File (bytes_of (look t names) ++ take n bytes))

pub data AppendCase (t : Tree) (p bytes : List ℕ) (o : PlainAnswer × Tree) : Type 0 where
  unsent : (fault : Fault) → o ≡ (Failed fault, t) → AppendCase t p bytes o
  took : (names : Names) (n : ℕ) → names_of p ≡ Ok names → o ≡ (Took n, grown t names bytes n) → AppendCase t p bytes o
  torn : (names : Names) (fault : Fault) (n : ℕ) → names_of p ≡ Ok names → o ≡ (Failed fault, grown t names bytes n) → AppendCase t p bytes o

append_reached : (t : Tree) (p bytes : List ℕ) (names : Names) (luck : Luck) → names_of p ≡ Ok names → Reaches names (writable t p)
    → AppendCase t p bytes (apply t (Append p bytes) luck)
unfolding apply
append_reached t p bytes names (Fail fault None) is (found w) = rw w (unsent _ refl)
append_reached t p bytes names (Fail fault (Some n)) is (found w) = rw w (torn names _ _ is refl)
append_reached t p bytes names Plain is (missing w) = rw w (unsent _ refl)
append_reached t p bytes names (Take most) is (missing w) = rw w (unsent _ refl)
append_reached t p bytes names (Fail fault None) is (missing w) = rw w (unsent _ refl)
append_reached t p bytes names (Fail fault (Some n)) is (missing w) = rw w (unsent _ refl)
append_reached t p bytes names luck is (found w) = rw w (took names _ is refl)

append_nowhere : (t : Tree) (p bytes : List ℕ) (fault : Fault) (luck : Luck) → writable t p ≡ Err fault → AppendCase t p bytes (apply t (Append p bytes) luck)
unfolding apply
append_nowhere t p bytes fault Plain w = rw w (unsent _ refl)
append_nowhere t p bytes fault (Fail f None) w = rw w (unsent _ refl)
append_nowhere t p bytes fault luck w = rw w (unsent _ refl)

append_at : (home : Option Names) (t : Tree) (p bytes : List ℕ) (luck : Luck) (r : Result Names Fault) → Placed home t → names_of p ≡ r
    → IfOk r (λ n. path_kind home n ≡ Bucket) → AppendCase t p bytes (apply t (Append p bytes) luck)
append_at home t p bytes luck (Ok names) placed is k = append_reached t p bytes names luck is (bucket_reached home t p names placed is k)
append_at home t p bytes luck (Err fault) placed is k = append_nowhere t p bytes fault luck (unreachable t p fault is)

pub append_case : (home : Option Names) (t : Tree) (p bytes : List ℕ) (luck : Luck) → Placed home t → IsFor home Bucket p → AppendCase t p bytes (apply t (Append p bytes) luck)
append_case home t p bytes luck placed is = append_at home t p bytes luck (names_of p) placed refl is

-- ---- what is there stays

module _ (t : Tree) (q : Names) (here : Option Node) (there : look t q ≡ here) where
  -- what a step leaves at the path
  abbrev Same : Tree → Type 0
  Same new = look new q ≡ here

  -- a step keeps it if it does so whatever part of it is done
  pub step_keeps : (step : PlainStep) (luck : Luck) → ((most : Option ℕ) → Same (plain t step most).1) → Same (apply t step luck).1
  step_keeps step luck h = apply_tree Same t step luck there h

  -- a step that only asks keeps it
  pub asked_keeps : {A : Type 0} (r : Result A Fault) (answer : A → PlainAnswer) → Same (unless r t (λ a. (answer a, t))).1
  asked_keeps r answer = unless_tree Same r t (λ a. (answer a, t)) there (λ a is. there)

  pub dirs_keep : (p : List ℕ) (luck : Luck) → ((names : Names) (count : ℕ) → names_of p ≡ Ok names → Same (make_some t [] names count)) → Same (apply t (MakeDirs p) luck).1
  dirs_keep p luck made = search (rules, step_keeps, unless_tree, found, dirs_ok)

  pub temp_keeps : (p : List ℕ) (luck : Luck) → ((names : Names) → names_of p ≡ Ok names → same_path q names ≡ false) → Same (apply t (CreateTemp p) luck).1
  temp_keeps p luck misses =
      step_keeps (CreateTemp p) luck (λ most. unless_tree Same (free t p) t _ there (λ names found.
      put_misses t names q (File []) (misses names (free_ok t p names found).0) ∙ there))

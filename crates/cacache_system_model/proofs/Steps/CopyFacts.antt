-- What is known about files that are copied, and about what is at their targets.
use Rattle.std.proofs.{lemmas.List.Elements.{All-head, All-tail}, Common.{◌≡◌, ◌⊎◌, ◌==◌, ◌&&◌, ◌||◌, not, ℕ, zero, suc, Bool, true, false, if◌then◌else◌, List, [], ◌∷◌, filter, length, take, refl, sym, ap, ◌∙◌, inl, inr, arith, take_all, eqb-true, ne_eqb, nat_eq}}
use Rattle.std.specs.{Cmp.Lexicographic.{pointwise}, Prelude.{Option, None, Some, Result, Ok, Err}}
use Rattle.std_io.specs.declared.io.kind.ErrorKind.{ErrorKind}
use Rattle.std_io.specs.declared.io.kind.ErrorKind.TheVariants as kind
use Rattle.cacache_core.specs.{Errors.{fault_of}, declared.errors.Fault.{Fault, TheVariants.{NotFound, IsADirectory, InvalidInput, AlreadyExists}}, Paths.{Names, names_of, pieces, is_bad, is_name, IsProperName, temp_area}}
use Rattle.cacache_core.proofs.ProperNames.{names_are_proper}
use Rattle.cacache_store.specs.declared.store.step.Step.TheVariants as steps
use Rattle.cacache_store.specs.declared.store.answer.Answer.TheVariants as answers
use Rattle.cacache_disk.specs.{declared.{luck.Luck.TheVariants.{Plain}, node.Node.{Node, TheVariants.{Folder, File, Link}}}, Tree.{Tree, look, put}, LedTo.{and_then, or_fault, leads, found, file_at, writable, place, standing, where_there, where_no_folder}, Apply.{apply, unless}}
use Rattle.cacache_system.specs.{declared.call.FileInfo.{FileInfo}, CallsOf.{over, taking_memory, making_fresh, name_taken, already_exists, is_absent, is_same_node, fresh_name}, AnswersOf.{misses}}
use Rattle.cacache_system.specs.declared.call.CallResult.TheVariants as says
use Rattle.cacache_system_model.specs.{Machine.{Machine, Describes, EndsInName}, Laws.{outcome}}
use Rattle.cacache_system_model.proofs.Views.{NoLink, nowhere, a_folder, a_file, view, found_at, leads_straight}

-- ---- truth values and texts

pub both_true : (a c : Bool) → (a && c) ≡ true → (a ≡ true) × (c ≡ true)
both_true true c is = (refl, is)
both_true false c is = absurd cc

pub either_true : (a c : Bool) → (a || c) ≡ true → (a ≡ true) ⊎ (c ≡ true)
either_true true c is = inl refl
either_true false c is = inr is

pub same_text : (xs ys : List ℕ) → pointwise nat_eq xs ys ≡ true → xs ≡ ys
same_text [] [] is = refl
same_text [] (y ∷ ys) is = absurd cc
same_text (x ∷ xs) [] is = absurd cc
same_text (x ∷ xs) (y ∷ ys) is =
    let parts = both_true (nat_eq x y) (pointwise nat_eq xs ys) is in
    let first : x ≡ y = eqb-true x y parts.0 in
    let rest : xs ≡ ys = same_text xs ys parts.1 in
    cc

-- ---- the disk's line of a copy

pub apply_copy : (t : Tree) (from to : List ℕ) (r : Result (List ℕ) Fault) (s : Result Names Fault) → file_at t from InvalidInput ≡ r → writable t to ≡ s
    → apply t (steps.Copy from to) Plain ≡ unless r t (λ bytes. unless s t (λ names. outcome (answers.Took (length bytes)) (put t names (File (take (length bytes) bytes)))))
unfolding apply
apply_copy t from to r s is at =
    ap (λ (x : Result (List ℕ) Fault). unless x t (λ bytes. unless (writable t to) t (λ names. outcome (answers.Took (length bytes)) (put t names (File (take (length bytes) bytes)))))) is
    ∙ ap (λ (y : Result Names Fault). unless r t (λ bytes. unless y t (λ names. outcome (answers.Took (length bytes)) (put t names (File (take (length bytes) bytes)))))) at

pub whole_file : (bytes : List ℕ) → take (length bytes) bytes ≡ bytes
whole_file bytes = take_all (length bytes) bytes (omega arith)

-- a file to which a path leads can be written
pub writable_found : (t : Tree) (path : List ℕ) (names : Names) (bytes : List ℕ) → found t path ≡ Ok names → look t names ≡ Some (File bytes) → writable t path ≡ Ok names
unfolding writable
writable_found t path names bytes is at = elim (view t path) as (λ v. and_then (leads t path) (λ n. where_no_folder (look t n) n) ≡ Ok names) [
  | nowhere f e file ↦ absurd cc
  | a_folder other l e stands file ↦ let same : other ≡ names = cc in let differ : look t names ≡ Some Folder = ap (look t) (sym same) ∙ stands in absurd cc
  | a_file other more l e stands file ↦
      let same : other ≡ names = cc in
      ap (λ (r : Result Names Fault). and_then r (λ n. where_no_folder (look t n) n)) (l ∙ ap (λ (n : Names). let r : Result Names Fault = Ok n in r) same)
      ∙ ap (λ (o : Option Node). where_no_folder o names) at
]

-- what is known of a file that is copied
pub record Source (m : Machine) (from : List ℕ) (info : FileInfo) (bytes : List ℕ) : Type 0 where
  pub names : Names
  pub led : leads m.tree from ≡ Ok names
  pub is : found m.tree from ≡ Ok names
  pub stands : look m.tree names ≡ Some (File bytes)
  pub read : file_at m.tree from InvalidInput ≡ Ok bytes
  pub described : Describes (File bytes) (m.inodes names) info

pub same_node_numbers : (one other : FileInfo) → is_same_node one other ≡ true → (one.inode ≡ other.inode) × (one.device ≡ other.device)
same_node_numbers one other is =
    let parts = both_true (not (one.inode == 0) && one.inode == other.inode) (one.device == other.device) is in
    let numbers = both_true (not (one.inode == 0)) (one.inode == other.inode) parts.0 in
    (eqb-true one.inode other.inode numbers.1, eqb-true one.device other.device parts.1)

-- what is known when a fresh file is made
pub record Ready (m : Machine) (from to path : List ℕ) (bytes : List ℕ) (names : Names) : Type 0 where
  pub source : Names
  pub led : leads m.tree from ≡ Ok source
  pub stands : look m.tree source ≡ Some (File bytes)
  pub read : file_at m.tree from InvalidInput ≡ Ok bytes
  pub target : writable m.tree to ≡ Ok names
  pub placed : place m.tree path ≡ Ok names
  pub replaced : where_no_folder (look m.tree names) names ≡ Ok names
  pub ends : EndsInName path

-- ---- what is at the target

pub writable_at : (t : Tree) (path : List ℕ) (r : Result Names Fault) → leads t path ≡ r → writable t path ≡ and_then r (λ n. where_no_folder (look t n) n)
unfolding writable
writable_at t path r is = ap (λ (x : Result Names Fault). and_then x (λ n. where_no_folder (look t n) n)) is

pub standing_at : (t : Tree) (path : List ℕ) (r : Result Names Fault) → place t path ≡ r → standing t path ≡ and_then r (λ n. where_there (look t n) n)
unfolding standing
standing_at t path r is = ap (λ (x : Result Names Fault). and_then x (λ n. where_there (look t n) n)) is

pub data Stands (t : Tree) (path : List ℕ) : Type 0 where
  no_way : (fault : Fault) → place t path ≡ Err fault → standing t path ≡ Err fault → writable t path ≡ Err fault → Stands t path
  nothing : (names : Names) → place t path ≡ Ok names → look t names ≡ None → standing t path ≡ Err NotFound → writable t path ≡ Ok names → Stands t path
  a_folder_here : (names : Names) → look t names ≡ Some Folder → standing t path ≡ Ok names → found t path ≡ Ok names → writable t path ≡ Err IsADirectory → Stands t path
  a_file_here : (names : Names) (bytes : List ℕ) → place t path ≡ Ok names → look t names ≡ Some (File bytes) → standing t path ≡ Ok names → found t path ≡ Ok names → writable t path ≡ Ok names → Stands t path
  a_link_here : (names : Names) (target : List ℕ) → place t path ≡ Ok names → look t names ≡ Some (Link target) → standing t path ≡ Ok names → Stands t path

module _ (t : Tree) (path : List ℕ) where
  led_here : (names : Names) (o : Option Node) → place t path ≡ Ok names → look t names ≡ o → NoLink o → leads t path ≡ Ok names
  led_here names o is at none =
      leads_straight t path (λ other placed target link.
      let both : ◌≡◌ {A = Result Names Fault} (Ok other) (Ok names) = sym placed ∙ is in
      let same : other ≡ names = cc in
      none target (sym at ∙ ap (look t) (sym same) ∙ link))
      ∙ is

  stands_at : (names : Names) (o : Option Node) → place t path ≡ Ok names → look t names ≡ o → Stands t path
  stands_at names None is at =
      nothing names is at (standing_at t path (Ok names) is ∙ ap (λ (x : Option Node). where_there x names) at)
      (writable_at t path (Ok names) (led_here names None is at (λ target none. cc)) ∙ ap (λ (x : Option Node). where_no_folder x names) at)
  stands_at names (Some Folder) is at =
      let led = led_here names (Some Folder) is at (λ target none. cc) in
      a_folder_here names at (standing_at t path (Ok names) is ∙ ap (λ (x : Option Node). where_there x names) at)
      (found_at t path (Ok names) led ∙ ap (λ (x : Option Node). where_there x names) at)
      (writable_at t path (Ok names) led ∙ ap (λ (x : Option Node). where_no_folder x names) at)
  stands_at names (Some (File bytes)) is at =
      let led = led_here names (Some (File bytes)) is at (λ target none. cc) in
      a_file_here names bytes is at (standing_at t path (Ok names) is ∙ ap (λ (x : Option Node). where_there x names) at)
      (found_at t path (Ok names) led ∙ ap (λ (x : Option Node). where_there x names) at)
      (writable_at t path (Ok names) led ∙ ap (λ (x : Option Node). where_no_folder x names) at)
  stands_at names (Some (Link target)) is at =
      a_link_here names target is at (standing_at t path (Ok names) is ∙ ap (λ (x : Option Node). where_there x names) at)

  pub stands_so : (r : Result Names Fault) → place t path ≡ r → Stands t path
  stands_so (Ok names) is = stands_at names (look t names) is refl
  stands_so (Err fault) is =
      no_way fault is (standing_at t path (Err fault) is)
      (writable_at t path (Err fault) (leads_straight t path (λ names placed target link. let wrong : ◌≡◌ {A = Result Names Fault} (Ok names) (Err fault) = sym placed ∙ is in cc) ∙ is))

-- ---- errors

pub not_absent : (why : ErrorKind) → misses why ≡ false → is_absent why ≡ false
not_absent kind.NotFound fine = absurd (let wrong : true ≡ false = fine in cc)
not_absent _ fine = refl

pub exists_fine : (why : ErrorKind) → fault_of why ≡ AlreadyExists → misses why ≡ false
exists_fine kind.NotFound is = absurd cc
exists_fine kind.NotADirectory is = absurd cc
exists_fine _ is = refl

pub absent_fault : (why : ErrorKind) → is_absent why ≡ true → fault_of why ≡ NotFound
absent_fault kind.NotFound is = refl
absent_fault _ is = absurd cc

pub not_taken_fault : (why : ErrorKind) → fault_of why ≡ NotFound → already_exists why ≡ false
not_taken_fault kind.AlreadyExists is = absurd cc
not_taken_fault _ is = refl

pub not_taken : (left number : ℕ) (why : ErrorKind) (from path : List ℕ) → already_exists why ≡ false → name_taken left number why from path ≡ over (says.Failed why)
not_taken zero number why from path is = refl
not_taken (suc left) number why from path is =
    ap (λ (c : Bool). if c then taking_memory (making_fresh left number from path) else over (says.Failed why)) is

pub fault_absent : (why : ErrorKind) → fault_of why ≡ NotFound → is_absent why ≡ true
fault_absent kind.NotFound is = refl
fault_absent _ is = absurd cc

pub no_place : (o : Option Fault) (a c : Names) (r : Result Names Fault) → or_fault o a ≡ Err NotFound → r ≡ or_fault o c → r ≡ Err NotFound
no_place None a c r is at = absurd cc
no_place (Some f) a c r is at = at ∙ is

bad_if : (bad : Bool) (names : Names) (other : Fault) → (if bad then Err InvalidInput else Ok names) ≡ Err other → ◌≡◌ {A = Result Names Fault} (Err other) (Err NotFound) → ⊥
bad_if true names other is missing = cc
bad_if false names other is missing = cc

-- a text that ends with a name has names, or an error of its own
pub unnamed : (path : List ℕ) (other : Fault) → names_of path ≡ Err other → EndsInName path → ◌≡◌ {A = Result Names Fault} (Err other) (Err NotFound) → ⊥
unfolding names_of
unnamed [] other is ends missing = let wrong : false ≡ true = ends in cc
unnamed (x ∷ path) other is ends missing =
    bad_if (is_bad (x ∷ path)) (filter is_name (pieces (x ∷ path))) other
    (sym (ap (λ (none : Bool). if none then Err NotFound else if is_bad (x ∷ path) then Err InvalidInput else Ok (filter is_name (pieces (x ∷ path)))) (ne_eqb (length (x ∷ path)) 0 (λ none. omega (arith, none)))) ∙ is) missing

pub fresh_proper : (number : ℕ) → IsProperName (fresh_name number)
fresh_proper number = All-head IsProperName (fresh_name number) [] (All-tail IsProperName temp_area (fresh_name number ∷ []) (names_are_proper.temporaries number))

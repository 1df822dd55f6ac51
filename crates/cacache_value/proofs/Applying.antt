-- What every step has in common, whatever its luck, and what is known of a path at which it found what it wanted.
use Rattle.std.proofs.{Common.{arith, ◌≡◌, ℕ, false, Option, Ok, sym, ap, subst, ◌∙◌, zero, suc, true, List, [], ◌∷◌, ◌++◌, None, Some, Err, refl}, lemmas.Grind.{common_steps}}
use Rattle.std.specs.Prelude.{Result, IfOk}
use Rattle.cacache_core.specs.{declared.errors.Fault.{Fault, TheVariants.{NotFound}}, Paths.{names_of}}
use Rattle.cacache_store.specs.{declared.store.answer.Answer.TheVariants.{Failed}, Plain.{PlainStep, PlainAnswer}}
use Rattle.cacache_disk.specs.{declared.{luck.Luck.{Luck, TheVariants.{Fail}}, node.Node.{Node, TheVariants.{Link}}}, Tree.{Tree, Names, look}, Apply.{apply, plain, unless, is_parted, fails, fault_told, left_by, made_up}, LedTo.{and_then, or_fault, through, way_fault, place, standing, followed, leads, on_link, where_no_folder, linked_in, linked, writable, dirs}}
use Rattle.cacache_disk.proofs.FoundNodes.{NoFolder, and_then_ok, place_ok, no_folder_at, standing_ok}
use Rattle.cacache_value.specs.{Value.{wide_value}, Acts.{Nothing, amount_left, act_of, change}, Kinds.{PathKind, Bucket, Way, Elsewhere, path_kind, is_used, IsFor}, Placed.{MayStand, Placed}}
use Rattle.cacache_value.proofs.PathKinds.{above, further}

-- ---- the act of a step that is done whole or not at all

-- the value after is the act of the step on the value before
abbrev pub Acted : Option Names → Tree → PlainStep → Luck → PlainAnswer × Tree → Type 0
Acted home t step luck outcome = wide_value home outcome.1 ≡ change home (act_of step luck outcome.0) (wide_value home t)

module _ (home : Option Names) (t : Tree) (step : PlainStep) (nothing : (luck : Luck) (fault : Fault) → act_of step luck (Failed fault) ≡ Nothing) where
  -- a failed step that changes nothing
  failed : (luck : Luck) (fault : Fault) (new : Tree) → new ≡ t → Acted home t step luck (Failed fault, new)
  failed luck fault new same = ap (wide_value home) same ∙ sym (ap (λ act. change home act (wide_value home t)) (nothing luck fault))

  pub unless_acted : (luck : Luck) {A : Type 0} (r : Result A Fault) (go : A → PlainAnswer × Tree) → ((a : A) → r ≡ Ok a → Acted home t step luck (go a))
      → Acted home t step luck (unless r t go)
  unless_acted luck r go h = grind (arith, failed)

  fails_acted : (luck : Luck) (own : Option Fault) (fault : Fault) (left : Tree) → left ≡ t → Acted home t step luck (fails own fault t left)
  fails_acted luck own fault left same = grind (arith, failed)

  left_same : (part : Option ℕ) → is_parted step ≡ false → left_by t step part ≡ t
  left_same part unparted = grind (arith, common_steps)

  pub apply_acted : (luck : Luck) → is_parted step ≡ false → ((most : Option ℕ) → Acted home t step luck (plain t step most))
      → Acted home t step luck (apply t step luck)
  unfolding apply
  apply_acted luck unparted h = grind (arith, fails_acted, left_same)

-- ---- a step that is refused at its place

fails_refused : (outcome : PlainAnswer × Tree) (own fault : Fault) (t left : Tree) → outcome ≡ (Failed own, t)
    → fails (fault_told outcome.0) fault t left ≡ (Failed own, t)
fails_refused outcome own fault t left is = ap (λ (o : PlainAnswer × Tree). fails (fault_told o.0) fault t left) is

pub apply_refused : (t : Tree) (step : PlainStep) (luck : Luck) (own : Fault) → ((most : Option ℕ) → plain t step most ≡ (Failed own, t))
    → apply t step luck ≡ (Failed own, t)
unfolding apply
apply_refused t step luck own h = grind (arith, fails_refused)

pub refused : (home : Option Names) (t : Tree) (step : PlainStep) (luck : Luck) (own : Fault) → ((most : Option ℕ) → plain t step most ≡ (Failed own, t))
    → act_of step luck (Failed own) ≡ Nothing
    → Acted home t step luck (apply t step luck)
refused home t step luck own h nothing =
    subst (Acted home t step luck) (sym (apply_refused t step luck own h)) (sym (ap (λ act. change home act (wide_value home t)) nothing))

-- a made-up fault shows how much was left
pub amount_left-made_up : (fault : Fault) (part : Option ℕ) → amount_left (Fail fault part) (Failed (made_up fault)) ≡ part
amount_left-made_up fault part = grind (arith, common_steps)

-- ---- links lead out of the cache

out_at : (home : Option Names) (t : Tree) (here : Option Node) (names new : Names) (go : List ℕ → Result Names Fault) → MayStand home here Elsewhere
    → path_kind home names ≡ Elsewhere
    → ((target : List ℕ) → IsFor home Elsewhere target → go target ≡ Ok new → path_kind home new ≡ Elsewhere)
    → on_link here names go ≡ Ok new → path_kind home new ≡ Elsewhere
out_at home t here names new go s k on e = grind (arith, common_steps)

-- what holds of a path's names holds of these, if they are its names
pub of_names : (P : Names → Type 0) (path : List ℕ) (names : Names) → IfOk (names_of path) P → names_of path ≡ Ok names → P names
of_names P path names holds is = subst (λ r. IfOk r P) is holds

pub suits : (home : Option Names) (t : Tree) (names : Names) (k : PathKind) → path_kind home names ≡ k → Placed home t → MayStand home (look t names) k
suits home t names k is placed = subst (MayStand home (look t names)) is (placed names)

followed_out : (home : Option Names) (t : Tree) (n : ℕ) (names new : Names) → Placed home t → path_kind home names ≡ Elsewhere
    → followed n t names ≡ Ok new → path_kind home new ≡ Elsewhere
unfolding followed
followed_out home t zero names new placed k e = out_at home t (look t names) names new _ (suits home t names Elsewhere k placed) k (λ target out is. absurd cc) e
followed_out home t (suc n) names new placed k e =
    out_at home t (look t names) names new (λ target. and_then (standing t target) (followed n t)) (suits home t names Elsewhere k placed) k
    (λ target out is.
    let f = and_then_ok (standing t target) (followed n t) new is in
    followed_out home t n f.0 new placed (of_names (λ n. path_kind home n ≡ Elsewhere) target f.0 out (standing_ok t target f.0 f.1)) f.2)
    e

-- a file that is written at the end of a path elsewhere is elsewhere too
pub writable_out : (home : Option Names) (t : Tree) (path : List ℕ) (names : Names) → Placed home t → IsFor home Elsewhere path
    → writable t path ≡ Ok names
    → (path_kind home names ≡ Elsewhere) × NoFolder (look t names)
unfolding writable leads
writable_out home t path names placed out e =
    let f = and_then_ok (leads t path) (λ names. where_no_folder (look t names) names) names e in
    let g = and_then_ok (place t path) (followed 16 t) f.0 f.1 in
    let h = no_folder_at (look t f.0) f.0 names f.2 in
    let there = followed_out home t 16 g.0 f.0 placed (of_names (λ n. path_kind home n ≡ Elsewhere) path g.0 out (place_ok t path g.0 g.1)) g.2 in
    (ap (path_kind home) (sym h.1) ∙ there, subst (λ n. NoFolder (look t n)) h.1 h.0)

-- ---- a bucket's path leads to itself, or a folder on the way is missing

abbrev pub OnlyMissing : Option Fault → Type 0
OnlyMissing None = Unit {0}
OnlyMissing (Some NotFound) = Unit {0}
OnlyMissing (Some other) = ⊥

way_through : (home : Option Names) (here : Option Node) (later : Option Fault) → MayStand home here Way → OnlyMissing later
    → OnlyMissing (through here later)
way_through home here later s h = grind (arith, common_steps)

pub way_missing : (home : Option Names) (t : Tree) (path rest : Names) → is_used (path_kind home (path ++ rest)) ≡ true → Placed home t
    → OnlyMissing (way_fault t path rest)
way_missing home t path (name ∷ next ∷ rest) used placed =
    let more = ap is_used (further home (path_kind home (path ++ name ∷ next ∷ rest)) path (next ∷ rest) name refl) ∙ used in
    way_through home _ _ (suits home t (path ++ name ∷ []) Way (above home (path ++ name ∷ []) rest next more) placed) (way_missing home t (path ++ name ∷ []) (next ∷ rest) more placed)
way_missing home t path rest inside placed = tt

-- found at these names, or a folder on the way is missing
pub data Reaches (names : Names) (r : Result Names Fault) : Type 0 where
  found : r ≡ Ok names → Reaches names r
  missing : r ≡ Err NotFound → Reaches names r

led : (home : Option Names) (t : Tree) (here : Option Node) (names : Names) (go : List ℕ → Result Names Fault) → look t names ≡ here
    → MayStand home here Bucket
    → and_then (on_link here names go) (λ n. where_no_folder (look t n) n) ≡ Ok names
led home t here names go is s = grind (arith, common_steps)

reached : (names : Names) (fault : Option Fault) (follow judge : Names → Result Names Fault) → OnlyMissing fault
    → and_then (follow names) judge ≡ Ok names
    → Reaches names (and_then (and_then (or_fault fault names) follow) judge)
reached names fault follow judge h e = grind (arith, common_steps)

pub bucket_reached : (home : Option Names) (t : Tree) (path : List ℕ) (names : Names) → Placed home t → names_of path ≡ Ok names
    → path_kind home names ≡ Bucket → Reaches names (writable t path)
unfolding writable leads place followed
bucket_reached home t path names placed is k =
    rw is
    (reached names (way_fault t [] names) (followed 16 t) (λ n. where_no_folder (look t n) n)
    (way_missing home t [] names (ap is_used k) placed)
    (led home t (look t names) names (λ target. and_then (standing t target) (followed 15 t)) refl (suits home t names Bucket k placed)))

-- ---- what a hard link copies

-- a link leads out, wherever it may be
link_out : (home : Option Names) (target : List ℕ) (k : PathKind) → MayStand home (Some (Link target)) k → IsFor home Elsewhere target
link_out home target k s = grind (arith, common_steps)

linked_at : (home : Option Names) (here : Option Node) (k : PathKind) (node : Node) → MayStand home here k → linked_in here ≡ Ok node
    → MayStand home (Some node) Elsewhere × NoFolder (Some node)
linked_at home here k node s e = grind (arith, link_out)

pub linked_ok : (home : Option Names) (t : Tree) (path : List ℕ) (node : Node) → Placed home t → linked t path ≡ Ok node
    → MayStand home (Some node) Elsewhere × NoFolder (Some node)
unfolding linked
linked_ok home t path node placed e =
    let f = and_then_ok (place t path) (λ names. linked_in (look t names)) node e in
    linked_at home (look t f.0) (path_kind home f.0) node (placed f.0) f.2

-- a path without names leads nowhere
pub unreachable : (t : Tree) (path : List ℕ) (fault : Fault) → names_of path ≡ Err fault → writable t path ≡ Err fault
unfolding writable leads place
unreachable t path fault is = rw is refl

pub unmakeable : (t : Tree) (path : List ℕ) (fault : Fault) → names_of path ≡ Err fault → dirs t path ≡ Err fault
unfolding dirs
unmakeable t path fault is = rw is refl

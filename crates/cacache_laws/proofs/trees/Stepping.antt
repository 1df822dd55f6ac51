-- Runs on a tree, step by step; what a part of a tree reads, the whole tree reads too.
use Rattle.std.proofs.{Common.{◌≡◌, ◌<◌, inl, inr, [], ◌∷◌, Some, None, length, refl, sym, ap, subst, ◌∙◌, arith, rules, ℕ, zero, suc, List, ◌++◌, Option, Result, Ok, Err}, lemmas.Grind.{common_steps}}
use Rattle.cacache_core.specs.{declared.errors.{Error.TheVariants.{OutOfMemory}, Fault.{Fault, TheVariants.{IsADirectory, TooDeep}}}, Paths.{Names, names_of}}
use Rattle.cacache_store.specs.{Plain.{PlainStep, PlainAnswer}, declared.store.{step.Step.TheVariants.{ReadAll}, answer.Answer.TheVariants.{Bytes}}}
use Rattle.cacache_disk.specs.{declared.{luck.Luck.TheVariants.{Plain}, node.Node.{Node, TheVariants.{Folder, File, Link}}}, Tree.{Tree, look}, Apply.{apply}, LedTo.{and_then, or_fault, through, way_fault, place, standing, where_there, on_link, followed, leads, bytes_there, file_at}}
use Rattle.cacache_disk.proofs.FoundNodes.{and_then_ok, or_fault_none, there_at}
use Rattle.cacache_calls.specs.{declared.reply.Reply.{Reply, TheVariants.{Refused}}, State.{State, over}, Table.{wants, after}, Runs.{Moves, Runs}}
use Rattle.cacache_laws.{specs.{Sequence.{tree_on, AreAnswered}, trees.Idle.{Finds}}, proofs.trees.Twins.Agreeing.{said, answer_of}}
use Rattle.cacache_entry.specs.Bucket.{Found}

-- a run from this state on this tree
pub record MadeOn (s : State) (t : Tree) (r : Reply) : Type 0 where
  pub moves : Moves
  pub run : Runs s moves r
  pub answered : AreAnswered t moves

-- memory didn't end it
abbrev pub Whole : Reply → Type 0
Whole r = r ≡ Refused OutOfMemory → ⊥

-- it goes on from this tree after the first answer, and leads where it leads from there
pub record GoesOn (s : State) (t : Tree) (r : Reply) (m : MadeOn s t r) (u : PlainAnswer) (next : Tree) : Type 0 where
  pub on : MadeOn (after s u) next r
  pub leads : tree_on t m.moves ≡ tree_on next on.moves
  pub shorter : length on.moves < length m.moves

stepped : (s : State) (step : PlainStep) (t : Tree) (r : Reply) (u : PlainAnswer) (next : Tree) (moves : Moves) (run : Runs s moves r) (a : AreAnswered t moves)
    → wants s ≡ Some step → apply t step Plain ≡ (u, next) → Whole r → GoesOn s t r (record { moves = moves; run = run; answered = a }) u next
stepped s step t r u next [] (inl e) a w leads whole = absurd (let wrong : None ≡ Some step = ap wants (sym e) ∙ w in cc)
stepped s step t r u next [] (inr e) a w leads whole = absurd (whole e)
stepped s step t r u next (m ∷ more) run a w leads whole =
    let both : Some m.0 ≡ Some step = sym run.0 ∙ w in
    let is : m.0 ≡ step = cc in
    let made : apply t m.0 Plain ≡ (u, next) = ap (λ x. apply t x Plain) is ∙ leads in
    record {
      on = record {
        moves = more;
        run = subst (λ x. Runs (after s x) more r) (a.0 ∙ ap (λ (p : PlainAnswer × Tree). p.0) made) run.2;
        answered = subst (λ (p : PlainAnswer × Tree). AreAnswered p.1 more) made a.1;
      };
      leads = ap (λ (p : PlainAnswer × Tree). tree_on p.1 more) made;
      shorter = omega arith;
    }

-- the first step of a run
pub goes : (s : State) (step : PlainStep) (t : Tree) (r : Reply) (u : PlainAnswer) (next : Tree) (m : MadeOn s t r) → wants s ≡ Some step → apply t step Plain ≡ (u, next) → Whole r → GoesOn s t r m u next
goes s step t r u next m w leads whole = stepped s step t r u next m.moves m.run m.answered w leads whole

-- a call that is over makes no step
pub over_stays : (t : Tree) (x r : Reply) (moves : Moves) → Runs (over x) moves r → tree_on t moves ≡ t
over_stays t x r [] run = refl
over_stays t x r (m ∷ moves) run = absurd (let wrong : None ≡ Some m.0 = run.0 in cc)

pub stays : (t : Tree) (x r : Reply) (m : MadeOn (over x) t r) → tree_on t m.moves ≡ t
stays t x r m = over_stays t x r m.moves m.run

-- and says its reply
pub said_over : (x r : Reply) (moves : Moves) → Whole r → Runs (over x) moves r → r ≡ x
said_over x r [] whole (inl e) = let same : over x ≡ over r = e in cc
said_over x r [] whole (inr e) = absurd (whole e)
said_over x r (m ∷ moves) whole run = absurd (let wrong : None ≡ Some m.0 = run.0 in cc)

-- a step that leaves the tree
pub leaves : (t : Tree) (step : PlainStep) → (apply t step Plain).1 ≡ t → apply t step Plain ≡ ((apply t step Plain).0, t)
leaves t step same = ap (λ x. ((apply t step Plain).0, x)) same

-- ---- what a part of a tree reads, the whole tree reads too

-- what the first tree has at a path, the second one has there
abbrev pub Within : Tree → Tree → Type 0
Within part whole = (q : Names) (node : Node) → look part q ≡ Some node → look whole q ≡ Some node

pub through_none : (here : Option Node) (later : Option Fault) → through here later ≡ None → (here ≡ Some Folder) × (later ≡ None)
through_none here later e = grind (arith, common_steps)

pub something_there : (here : Option Node) (old new : Names) → where_there here old ≡ Ok new → (node : Node) × (here ≡ Some node)
something_there here old new e = grind (arith, common_steps)

pub file_there : (here : Option Node) (bytes : List ℕ) → bytes_there IsADirectory here ≡ Ok bytes → here ≡ Some (File bytes)
file_there here bytes e = grind (arith, common_steps)

bytes_said : (r : Result (List ℕ) Fault) (bytes : List ℕ) → said r ≡ Bytes bytes → r ≡ Ok bytes
bytes_said r bytes e = grind (arith, common_steps)

pub read_answer : (t : Tree) (path : List ℕ) → (apply t (ReadAll path) Plain).0 ≡ said (file_at t path IsADirectory)
unfolding apply
read_answer t path = answer_of (file_at t path IsADirectory) t

module _ (part whole : Tree) (within : Within part whole) where
  way_within : (p rest : Names) → way_fault part p rest ≡ None → way_fault whole p rest ≡ None
  way_within p (name ∷ next ∷ rest) e =
      let k = through_none (look part (p ++ name ∷ [])) (way_fault part (p ++ name ∷ []) (next ∷ rest)) e in
      rw (within (p ++ name ∷ []) Folder k.0) (way_within (p ++ name ∷ []) (next ∷ rest) k.1)
  way_within p rest e = refl

  place_within : (path : List ℕ) (names : Names) → place part path ≡ Ok names → place whole path ≡ Ok names
  unfolding place
  place_within path names e =
      let f = and_then_ok (names_of path) (λ names. or_fault (way_fault part [] names) names) names e in
      let o = or_fault_none (way_fault part [] f.0) f.0 names f.2 in
      rw (f.1, way_within [] f.0 o.0) (ap Ok o.1)

  standing_within : (path : List ℕ) (names : Names) → standing part path ≡ Ok names → standing whole path ≡ Ok names
  unfolding standing
  standing_within path names e =
      let f = and_then_ok (place part path) (λ names. where_there (look part names) names) names e in
      let s = something_there (look part f.0) f.0 names f.2 in
      rw (place_within path f.0 f.1, within f.0 s.0 s.1) (ap Ok (there_at (look part f.0) f.0 names f.2))

  -- what a link's end is found to be, if something is there
  follow_at : (here there : Option Node) (names new : Names) (node : Node) (go on : List ℕ → Result Names Fault) → look part names ≡ here → look whole names ≡ there
      → ((found : Node) → here ≡ Some found → there ≡ Some found) → look part new ≡ Some node
      → ((target : List ℕ) → go target ≡ Ok new → on target ≡ Ok new)
      → on_link here names go ≡ Ok new → on_link there names on ≡ Ok new
  follow_at None there names new node go on is was same stands next e =
      let end : names ≡ new = cc in
      let wrong : None ≡ Some node = sym is ∙ ap (look part) end ∙ stands in
      absurd cc
  follow_at (Some Folder) there names new node go on is was same stands next e = rw (same Folder refl) e
  follow_at (Some (File bytes)) there names new node go on is was same stands next e = rw (same (File bytes) refl) e
  follow_at (Some (Link target)) there names new node go on is was same stands next e = rw (same (Link target) refl) (next target e)

  followed_within : (n : ℕ) (names new : Names) (node : Node) → look part new ≡ Some node → followed n part names ≡ Ok new → followed n whole names ≡ Ok new
  unfolding followed
  followed_within zero names new node stands e = search (rules, follow_at)
  followed_within (suc n) names new node stands e =
      follow_at (look part names) (look whole names) names new node (λ target. and_then (standing part target) (followed n part)) (λ target. and_then (standing whole target) (followed n whole)) refl refl (within names) stands
      (λ target k.
      let f = and_then_ok (standing part target) (followed n part) new k in
      rw (standing_within target f.0 f.1) (followed_within n f.0 new node stands f.2))
      e

  file_within : (path : List ℕ) (bytes : List ℕ) → file_at part path IsADirectory ≡ Ok bytes → file_at whole path IsADirectory ≡ Ok bytes
  unfolding file_at leads
  file_within path bytes e =
      let f = and_then_ok (leads part path) (λ names. bytes_there IsADirectory (look part names)) bytes e in
      let g = and_then_ok (place part path) (followed 16 part) f.0 f.1 in
      let there = file_there (look part f.0) bytes f.2 in
      rw (place_within path g.0 g.1, followed_within 16 g.0 f.0 (File bytes) there g.2, within f.0 (File bytes) there) refl

  read_within : (path : List ℕ) (bytes : List ℕ) → (apply part (ReadAll path) Plain).0 ≡ Bytes bytes → (apply whole (ReadAll path) Plain).0 ≡ Bytes bytes
  read_within path bytes e = search (rules, read_answer, said, file_within, bytes_said)

  pub finds_within : (cache key : List ℕ) (found : Found) → Finds cache part key found → Finds cache whole key found
  finds_within cache key found f = (f.0, read_within _ f.0 f.1, f.2)

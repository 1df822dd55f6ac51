-- Many steps on a system and on a disk that mirrors it.
use Rattle.std.proofs.Common.{◌≡◌, ◌⊎◌, ℕ, Bool, true, false, cond, if◌then◌else◌, List, [], ◌∷◌, ◌++◌, take, refl, sym, ap, subst, ◌∙◌, inl, inr}
use Rattle.std.specs.Prelude.{Option, None, Some, Result, Ok, Err}
use Rattle.cacache_core.specs.{declared.errors.Fault.{Fault}, Paths.{Names}}
use Rattle.cacache_store.specs.{declared.store.plain.PlainTemp.{PlainTemp}, Plain.{PlainStep, PlainAnswer}}
use Rattle.cacache_store.specs.declared.store.step.Step.TheVariants as steps
use Rattle.cacache_store.specs.declared.store.answer.Answer.TheVariants as answers
use Rattle.cacache_disk.specs.{declared.{luck.Luck.{Luck, TheVariants.{Plain, Fail}}, node.Node.{Node, TheVariants.{File}}}, Tree.{Tree, look, put, same_path, bytes_of, listing}, LedTo.{folder}, Apply.{apply, plain, unless, fails, fault_told, lengthened}}
use Rattle.cacache_disk.proofs.{Maps.{same_path-true}, PutNodes.{look-put}}
use Rattle.cacache_system.specs.{declared.call.{CallItem.{CallItem}, CallResult.{CallResult}}, Seen.{NumberedTemp, NumberedStep}, CallsOf.{Runs}, AnswersOf.{Hint, first, answer_of}}
use Rattle.cacache_system_model.specs.{Machine.{Machine}, Calls.{OccursSomehow, EachCall}, Laws.{temp_on, step_on, answer_on, outcome, LeavesFresh, IsLucky}, Listing.{Lists, IsListedOrLucky}, Writing.{WritesSome}, Mirrors.{hollow, Mirrors, temps_after, SparesOpen}, Chains.{StepMade, temps_left, HasLaw, WritesTemp, MadePlainly, IsCovered, OnDisk, StepsOnDisk, IsMade, IsListing, ListsFolder, SameNames, DiskDoes, RunsMirror}}
use Rattle.cacache_system_model.proofs.{Refusing.{same_outcome}, Steps.{Listing.{listed_apply, read_dir_breaks}, Writing.{write_agrees}}, Covered.{each_may_break, each_goes_plainly}, Keeping.{steps_mirror}}

listed_same : (r : Result Names Fault) (d : Tree) → (unless r d (λ names. outcome (answers.Names (listing d names)) d)).1 ≡ d
listed_same (Ok names) d = refl
listed_same (Err fault) d = refl

-- ---- steps that came back

pub memory_stay : (temps : Names → Bool) (step other : PlainStep) → temps_after temps step (answers.NoMemory other) ≡ temps
memory_stay temps (steps.CreateTemp p) other = refl
memory_stay temps (steps.Persist f p) other = refl
memory_stay temps (steps.RemoveFile p) other = refl
memory_stay temps _ other = refl

-- a step that is as under some luck on the machine's tree, or came back, on a disk that mirrors it
abbrev DoneOn : (Names → Bool) → Tree → Machine → NumberedStep → CallResult → Machine → Type 0
DoneOn temps d m step end n =
    ((luck : Luck) × (new : Tree) × (apply d (step_on m step) luck ≡ outcome (answer_on n (answer_of step end)) new)
    × Mirrors (temps_after temps (step_on m step) (answer_on n (answer_of step end))) n.tree new)
    ⊎ ((answer_of step end ≡ answers.NoMemory step) × Mirrors (temps_after temps (step_on m step) (answer_on n (answer_of step end))) n.tree d)
    ⊎ LeavesFresh m step (answer_of step end) n

pub came_back : (temps : Names → Bool) (d : Tree) (m n : Machine) (step : NumberedStep) (end : CallResult) → Mirrors temps m.tree d → answer_of step end ≡ answers.NoMemory step → n.tree ≡ m.tree
    → Mirrors (temps_after temps (step_on m step) (answer_on n (answer_of step end))) n.tree d
came_back temps d m n step end mirrors is tree =
    let same : temps_after temps (step_on m step) (answer_on n (answer_of step end)) ≡ temps
    = ap (λ a. temps_after temps (step_on m step) (answer_on n a)) is ∙ memory_stay temps (step_on m step) (step_on n step) in
    subst (λ (x : Names → Bool). Mirrors x n.tree d) (sym same) (subst (λ (t : Tree). Mirrors temps t d) (sym tree) mirrors)

lucky_on : (temps : Names → Bool) (d : Tree) (m n : Machine) (step : NumberedStep) (end : CallResult) → Mirrors temps m.tree d → SparesOpen temps m.tree (step_on m step) → IsLucky m step end n → DoneOn temps d m step end n
lucky_on temps d m n step end mirrors spares (inl (luck, is)) =
    let s = steps_mirror temps m.tree d (step_on m step) luck mirrors spares in
    let answer : (apply m.tree (step_on m step) luck).0 ≡ answer_on n (answer_of step end) = ap (λ (r : PlainAnswer × Tree). r.0) is in
    let tree : (apply m.tree (step_on m step) luck).1 ≡ n.tree = ap (λ (r : PlainAnswer × Tree). r.1) is in
    inl (
      luck,
      (apply d (step_on m step) luck).1,
      same_outcome (apply d (step_on m step) luck).0 (answer_on n (answer_of step end)) (apply d (step_on m step) luck).1 (apply d (step_on m step) luck).1 (s.answers ∙ answer) refl,
      subst (λ (t : Tree). Mirrors (temps_after temps (step_on m step) (answer_on n (answer_of step end))) t (apply d (step_on m step) luck).1) tree
          (subst (λ (a : PlainAnswer). Mirrors (temps_after temps (step_on m step) a) (apply m.tree (step_on m step) luck).1 (apply d (step_on m step) luck).1) answer s.mirrors),
    )
lucky_on temps d m n step end mirrors spares (inr (inl (is, tree))) = inr (inl (is, came_back temps d m n step end mirrors is tree))
lucky_on temps d m n step end mirrors spares (inr (inr left)) = inr (inr left)

-- ---- temporary files that are written

same_fails : (o : Option Fault) (fault : Fault) (d : Tree) → (fails o fault d d).1 ≡ d
same_fails None fault d = refl
same_fails (Some own) fault d = refl

pub write_keeps : (d : Tree) (f : PlainTemp) (more : List ℕ) (luck : Luck) → (apply d (steps.Write f more) luck).1 ≡ d
unfolding apply
write_keeps d f more (Fail fault None) = same_fails (fault_told (plain d (steps.Write f more) None).0) fault d
write_keeps d f more (Fail fault (Some part)) = same_fails (fault_told (plain d (steps.Write f more) None).0) fault d
write_keeps d f more luck = refl

shown_file : (c temp : Bool) (bytes : List ℕ) (a b : Option Node) → (c ≡ true → (temp ≡ true) × (b ≡ Some (File []))) → b ≡ (if temp then hollow a else a)
    → b ≡ (if temp then hollow (cond c (Some (File bytes)) a) else cond c (Some (File bytes)) a)
shown_file true temp bytes a b here same =
    let h = here refl in h.1 ∙ ap (λ (x : Bool). if x then Some (File []) else Some (File bytes)) (sym h.0)
shown_file false temp bytes a b here same = same

still_file : (c : Bool) (bytes : List ℕ) (a : Option Node) → hollow a ≡ Some (File []) → hollow (cond c (Some (File bytes)) a) ≡ Some (File [])
still_file true bytes a file = refl
still_file false bytes a file = file

-- an open temporary file may hold any bytes
pub written_mirrors : (temps : Names → Bool) (t d : Tree) (names : Names) (bytes : List ℕ) → Mirrors temps t d → temps names ≡ true → Mirrors temps (put t names (File bytes)) d
written_mirrors temps t d names bytes m open_file = record {
  files = λ q is. ap hollow (look-put t names (File bytes) q) ∙ still_file (same_path q names) bytes (look t q) (m.files q is);
  same = λ q.
      shown_file (same_path q names) (temps q) bytes (look t q) (look d q)
      (λ same.
      let at : q ≡ names = same_path-true q names same in
      let is : temps q ≡ true = ap temps at ∙ open_file in
      (is, m.same q ∙ ap (λ (b : Bool). if b then hollow (look t q) else look t q) is ∙ m.files q is))
      (m.same q)
      ∙ ap (λ (o : Option Node). if temps q then hollow o else o) (sym (look-put t names (File bytes) q));
}

write_on : (temps : Names → Bool) (d : Tree) (m n : Machine) (temp : NumberedTemp) (more : List ℕ) (names : Names) (end : CallResult) → Mirrors temps m.tree d → temps names ≡ true → WritesSome m temp names more end n
    → DoneOn temps d m (steps.Write temp more) end n
write_on temps d m n temp more names end mirrors is_open (inl (luck, part, is)) =
    let s = steps_mirror temps m.tree d (step_on m (steps.Write temp more)) luck mirrors tt in
    let answer : (apply m.tree (step_on m (steps.Write temp more)) luck).0 ≡ answer_on n (answer_of (steps.Write temp more) end) = ap (λ (r : PlainAnswer × Tree). r.0) is in
    let tree : lengthened m.tree names (take part more) ≡ n.tree = ap (λ (r : PlainAnswer × Tree). r.1) is in
    inl (
      luck,
      d,
      same_outcome (apply d (step_on m (steps.Write temp more)) luck).0 (answer_on n (answer_of (steps.Write temp more) end)) (apply d (step_on m (steps.Write temp more)) luck).1 d (s.answers ∙ answer)
          (write_keeps d (temp_on m temp) more luck),
      subst (λ (t : Tree). Mirrors temps t d) tree (written_mirrors temps m.tree d names (bytes_of (look m.tree names) ++ take part more) mirrors is_open),
    )
write_on temps d m n temp more names end mirrors is_open (inr (is, tree)) = inr (inl (is, came_back temps d m n (steps.Write temp more) end mirrors is tree))

-- ---- many steps

one_on : (temps : Names → Bool) (d : Tree) (s : StepMade) → Mirrors temps s.before.tree d → IsCovered temps s
    → (HasLaw temps s.before s.hint s.step → IsLucky s.before s.step s.end s.after) → (WritesTemp temps s.before s.step → DoneOn temps d s.before s.step s.end s.after)
    → (MadePlainly temps s → IsLucky s.before s.step s.end s.after) → DoneOn temps d s.before s.step s.end s.after
one_on temps d s mirrors (inl law) runs writes plainly = lucky_on temps d s.before s.after s.step s.end mirrors law.spares (runs law)
one_on temps d s mirrors (inr (inl writing)) runs writes plainly = writes writing
one_on temps d s mirrors (inr (inr plain)) runs writes plainly = lucky_on temps d s.before s.after s.step s.end mirrors plain.spares (plainly plain)

step_written : (temps : Names → Bool) (d : Tree) (m n : Machine) (hint : Hint) (step : NumberedStep) (items : List CallItem) (end : CallResult) → Mirrors temps m.tree d
    → Runs (first hint step) items end → EachCall OccursSomehow m items n → WritesTemp temps m step → DoneOn temps d m step end n
step_written temps d m n hint (steps.Write temp more) items end mirrors runs each (names, bytes, ready, is_open) =
    write_on temps d m n temp more names end mirrors is_open ((write_agrees m hint temp names bytes more ready).breaking items end n runs each)
step_written temps d m n hint _ items end mirrors runs each writing = absurd writing

pub steps_on_disk : StepsOnDisk
steps_on_disk temps d s mirrors (runs, each, covered) =
    one_on temps d s mirrors covered (λ law. each_may_break s.before s.hint s.step law.premise law.done s.items s.end s.after runs each)
    (λ writing. step_written temps d s.before s.after s.hint s.step s.items s.end mirrors runs each writing)
    (λ plain. inl (Plain, each_goes_plainly s.before s.hint s.step plain.premise plain.plain s.items s.end s.after runs plain.well plain.memory))

goes_on : (temps : Names → Bool) (d : Tree) (s : StepMade) (made : List StepMade) → OnDisk temps d s
    → ((new : Tree) → Mirrors (temps_left temps s) s.after.tree new → DiskDoes (temps_left temps s) s.after new made) → (m : Machine) → DiskDoes temps m d (s ∷ made)
goes_on temps d s made (inl (luck, new, is, mirrors)) next m = inl (luck, new, is, next new mirrors)
goes_on temps d s made (inr (inl (is, mirrors))) next m = inr (inl (is, next d mirrors))
goes_on temps d s made (inr (inr left)) next m = inr (inr (inr left))

-- ---- listings

pub list_keeps : (d : Tree) (path : List ℕ) → (apply d (steps.ReadDir path) Plain).1 ≡ d
unfolding apply
list_keeps d path = listed_same (folder d path) d

-- a listing on a machine, and what a disk that mirrors it answers
abbrev pub ListedOn : (Names → Bool) → Tree → Machine → NumberedStep → CallResult → Machine → Type 0
ListedOn temps d m step end n =
    (told : PlainAnswer) × (apply d (step_on m step) Plain ≡ outcome told d) × SameNames told (answer_on n (answer_of step end))
    × Mirrors (temps_after temps (step_on m step) (answer_on n (answer_of step end))) n.tree d × (n.tree ≡ m.tree)

lists_on : (temps : Names → Bool) (d : Tree) (m n : Machine) (path : List ℕ) (end : CallResult) → Mirrors temps m.tree d → Lists m path end n → ListedOn temps d m (steps.ReadDir path) end n
lists_on temps d m n path end mirrors (names, is, order, listed) =
    let s = steps_mirror temps m.tree d (steps.ReadDir path) Plain mirrors tt in
    let told = answers.Names (listing m.tree names) in (
      told,
      same_outcome (apply d (steps.ReadDir path) Plain).0 told (apply d (steps.ReadDir path) Plain).1 d (s.answers ∙ ap (λ (r : PlainAnswer × Tree). r.0) (listed_apply m.tree path names is)) (list_keeps d path),
      (listing m.tree names, m.order names, refl, sym (ap (λ (r : PlainAnswer × Tree). r.0) listed), order),
      subst (λ (t : Tree). Mirrors temps t d) (ap (λ (r : PlainAnswer × Tree). r.1) listed) mirrors,
      sym (ap (λ (r : PlainAnswer × Tree). r.1) listed),
    )

pub listing_on : (temps : Names → Bool) (d : Tree) (m n : Machine) (hint : Hint) (step : NumberedStep) (items : List CallItem) (end : CallResult) → Mirrors temps m.tree d
    → Runs (first hint step) items end → EachCall OccursSomehow m items n → IsListing m hint step → ListedOn temps d m step end n ⊎ IsLucky m step end n
listing_on temps d m n hint (steps.ReadDir path) items end mirrors runs each plain =
    either_listed (read_dir_breaks m hint path plain items end n runs each)
  where
    either_listed : IsListedOrLucky m path end n → ListedOn temps d m (steps.ReadDir path) end n ⊎ IsLucky m (steps.ReadDir path) end n
    either_listed (inl lists) = inl (lists_on temps d m n path end mirrors lists)
    either_listed (inr lucky) = inr lucky
listing_on temps d m n hint _ items end mirrors runs each is = absurd is

-- a listing spares open temporary files
pub listing_spares : (temps : Names → Bool) (m : Machine) (hint : Hint) (step : NumberedStep) → IsListing m hint step → SparesOpen temps m.tree (step_on m step)
listing_spares temps m hint (steps.ReadDir path) is = tt
listing_spares temps m hint _ is = absurd is

lists_go_on : (temps : Names → Bool) (d : Tree) (s : StepMade) (made : List StepMade) → Mirrors temps s.before.tree d → SparesOpen temps s.before.tree (step_on s.before s.step)
    → ListedOn temps d s.before s.step s.end s.after ⊎ IsLucky s.before s.step s.end s.after
    → ((new : Tree) → Mirrors (temps_left temps s) s.after.tree new → DiskDoes (temps_left temps s) s.after new made) → (m : Machine) → DiskDoes temps m d (s ∷ made)
lists_go_on temps d s made mirrors spares (inl (told, is, same, mirrored, tree)) next m = inr (inr (inl (told, is, same, next d mirrored)))
lists_go_on temps d s made mirrors spares (inr lucky) next m = goes_on temps d s made (lucky_on temps d s.before s.after s.step s.end mirrors spares lucky) next m

made_goes_on : (temps : Names → Bool) (d : Tree) (s : StepMade) (made : List StepMade) → Mirrors temps s.before.tree d → IsMade temps s ⊎ ListsFolder s
    → ((new : Tree) → Mirrors (temps_left temps s) s.after.tree new → DiskDoes (temps_left temps s) s.after new made) → (m : Machine) → DiskDoes temps m d (s ∷ made)
made_goes_on temps d s made mirrors (inl is_made) next m = goes_on temps d s made (steps_on_disk temps d s mirrors is_made) next m
made_goes_on temps d s made mirrors (inr (runs, each, lists)) next m =
    lists_go_on temps d s made mirrors (listing_spares temps s.before s.hint s.step lists)
    (listing_on temps d s.before s.after s.hint s.step s.items s.end mirrors runs each lists) next m

pub runs_mirror : RunsMirror
runs_mirror temps d m [] mirrors chain = mirrors
runs_mirror temps d m (s ∷ made) mirrors (begins, is_made, rest) =
    let here : Mirrors temps s.before.tree d = subst (λ (x : Machine). Mirrors temps x.tree d) (sym begins) mirrors in
    made_goes_on temps d s made here is_made (λ new later. runs_mirror (temps_left temps s) new s.after made later rest) m

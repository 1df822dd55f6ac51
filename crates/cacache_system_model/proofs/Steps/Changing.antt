-- Steps with one call, which changes the tree.
use Rattle.std.proofs.Common.{◌≡◌, ◌⊎◌, ◌&&◌, ℕ, Bool, true, false, cond, List, [], refl, sym, ap, subst, ◌∙◌, ⊎_elim, inl, inr}
use Rattle.std.specs.Prelude.{if◌then◌else◌, Option, None, Some, Result, Ok, Err, MatchResult, option_map}
use Rattle.std_io.specs.declared.io.kind.ErrorKind.{ErrorKind}
use Rattle.std_io.specs.declared.io.kind.ErrorKind.TheVariants as kind
use Rattle.cacache_core.specs.{Errors.{fault_of}, declared.errors.Fault.{Fault}, Paths.{Names, names_of}}
use Rattle.cacache_store.specs.declared.store.step.Step.TheVariants as steps
use Rattle.cacache_store.specs.declared.store.answer.Answer.TheVariants as answers
use Rattle.cacache_store.specs.Plain.{PlainAnswer}
use Rattle.cacache_disk.specs.{declared.{luck.Luck.TheVariants.{Plain}, node.Node.{Node, TheVariants.{File, Link}}}, Tree.{Tree, look, put, cut, bytes_of}, LedTo.{and_then, where_file, kept, known, free, replaceable, found, linked}, Apply.{apply, unless, made_temp, is_there, fault_told}}
use Rattle.cacache_system.specs.declared.call.SystemCall.TheVariants as asks
use Rattle.cacache_system.specs.{declared.call.CallResult.{CallResult}, CallsOf.{already_exists}, Seen.{NumberedTemp, NumberedStep}, AnswersOf.{Hint, answer_of, failed_with, refuses_memory, misses}}
use Rattle.cacache_system.specs.declared.call.CallResult.TheVariants as says
use Rattle.cacache_system_model.specs.{Machine.{Place, under, OpenFile, node_of, Machine, IsRefused, moved, ChangesPlaces, ChangesTree, OpensIf, ShowsEnd, LinksNode, MovesNode, unread}, Calls.{GoesWell, OccursSomehow, part_opened, LeavesCreated}, Laws.{answer_on, LeavesFresh, step_on, outcome, led_to, IsDone, IsLucky, Agrees}, StepLaws.{StillStands, CreateAgrees, ExistsAgrees, SymlinkAgrees, HardLinkAgrees, ReflinkBreaks}}
use Rattle.cacache_system_model.proofs.{Refusing.{same_outcome, refused_agrees, plainly_refused, broken_agrees}, Steps.{OneCalls.{one_agrees}, Writing.{look_same}, Opening.{same_number}}, Leading.{over_leads}, memory.Places.{place_led}}

-- a step that answers that it is done, if its call changed the tree
module _ (new : Names → Tree) (step : NumberedStep) (m n : Machine) (end : CallResult) (done : answer_of step says.Done ≡ answers.Done)
    (fails : (why : ErrorKind) → answer_of step (says.Failed why) ≡ failed_with step why) where
  answers_done : (names : Names) → end ≡ says.Done → n.tree ≡ new names → outcome answers.Done (new names) ≡ led_to step end n
  answers_done names said tree =
      sym (same_outcome (answer_on n (answer_of step end)) answers.Done n.tree (new names)
      (ap (λ (e : CallResult). answer_on n (answer_of step e)) said ∙ ap (answer_on n) done) tree)

  pub changed : (ends : Result Names Fault) → ChangesTree ends new m end n → unless ends m.tree (λ names. outcome answers.Done (new names)) ≡ led_to step end n
  changed (Ok names) (said, left) = answers_done names said left.0
  changed (Err fault) refuses = refused_agrees step fault end m n (plainly_refused step fault n fails) refuses

  -- and open files' places
  pub changed_places : (ends : Result Names Fault) (other : Option Node → Names → ℕ → Place → Place) → ChangesPlaces ends new other m end n
      → unless ends m.tree (λ names. outcome answers.Done (new names)) ≡ led_to step end n
  changed_places (Ok names) other (mark, said, left) = answers_done names said left.0
  changed_places (Err fault) other refuses = refused_agrees step fault end m n (plainly_refused step fault n fails) refuses

-- ---- a temporary file is made

abbrev temp_of : List ℕ → Option (List ℕ) → PlainAnswer
temp_of path bytes = answers.Temp (record { path = path; bytes = bytes })

abbrev held_at : Tree → Option OpenFile → Option (List ℕ)
held_at t file = option_map (λ (f : OpenFile). bytes_of (node_of t f.place)) file

created : (ends : Result Names Fault) (m n : Machine) (path : List ℕ) (end : CallResult)
    → OpensIf ends (λ names. put m.tree names (File [])) m end n
    → unless ends m.tree (λ names. outcome (answers.Temp (made_temp path)) (put m.tree names (File []))) ≡ led_to (steps.CreateTemp path) end n
created (Ok names) m n path end (number, said, fresh, left) =
    let tree : n.tree ≡ put m.tree names (File []) = left.0 in
    let file : n.files number ≡ Some (unread names)
    = ap (λ (f : ℕ → Option OpenFile). f number) left.1 ∙ ap (λ (b : Bool). cond b (Some (unread names)) (m.files number)) (same_number number) in
    let bytes : held_at n.tree (n.files number) ≡ Some []
    = ap (held_at n.tree) file ∙ ap (λ (t : Tree). Some (bytes_of (look t names))) tree ∙ ap (λ (o : Option Node). Some (bytes_of o)) (look_same m.tree names (File [])) in
    sym (same_outcome (answer_on n (answer_of (steps.CreateTemp path) end)) (temp_of path (Some [])) n.tree (put m.tree names (File []))
    (ap (λ (e : CallResult). answer_on n (answer_of (steps.CreateTemp path) e)) said ∙ ap (temp_of path) bytes) tree)
created (Err fault) m n path end refuses = refused_agrees (steps.CreateTemp path) fault end m n (plainly_refused (steps.CreateTemp path) fault n (λ why. refl)) refuses

-- a creation that failed leaves nothing, or the file
failed_so : (step : NumberedStep) (why : ErrorKind) (b : Bool) → (if b && false then answers.NoMemory step else answers.Failed (fault_of why)) ≡ answers.Failed (fault_of why)
failed_so step why true = refl
failed_so step why false = refl

created_part : (m n : Machine) (path : List ℕ) (why : ErrorKind) (part : Option ℕ) (r : Result Names Fault) → free m.tree path ≡ r → n.tree ≡ part_opened r part m.tree
    → (n.tree ≡ m.tree) ⊎ LeavesFresh m (steps.CreateTemp path) (answer_of (steps.CreateTemp path) (says.Failed why)) n
created_part m n path why (Some part) (Ok names) is tree = inr (names, is, tree, fault_of why, failed_so (steps.CreateTemp path) why (refuses_memory why))
created_part m n path why None (Ok names) is tree = inl tree
created_part m n path why part (Err fault) is tree = inl tree

created_or_not : (m n : Machine) (path : List ℕ) (why : ErrorKind) (c : Bool) (part : Option ℕ) → LeavesCreated c path part m n
    → (n.tree ≡ m.tree) ⊎ LeavesFresh m (steps.CreateTemp path) (answer_of (steps.CreateTemp path) (says.Failed why)) n
created_or_not m n path why true part same = inl (ap (λ (x : Machine). x.tree) same)
created_or_not m n path why false part left = created_part m n path why part (free m.tree path) refl left.0

pub create_agrees : CreateAgrees
unfolding apply
create_agrees m hint path = one_agrees m hint (steps.CreateTemp path) (asks.CreateNew path 384) (record {
  wanted = refl;
  leads = λ said. refl;
  memory = λ end ends. ⊎_elim (λ e. e) (λ never. absurd never) ends;
  answers = λ why fine. refl;
  whole = λ why part n left. created_or_not m n path why (already_exists why) part left;
  agrees = λ most said n well. created (free m.tree path) m n path said well;
})

-- ---- something is asked for

missed : (why : ErrorKind) (path : List ℕ) (n : Machine) (fault : Fault) → refuses_memory why ≡ false → fault_of why ≡ fault
    → answer_on n (answer_of (steps.Exists path) (says.Failed why)) ≡ is_there (Err fault)
missed kind.NotFound path n fault fine is = ap (λ (f : Fault). is_there (Err f)) is
missed kind.NotADirectory path n fault fine is = ap (λ (f : Fault). is_there (Err f)) is
missed kind.OutOfMemory path n fault fine is = absurd (let wrong : true ≡ false = fine in cc)
missed _ path n fault fine is = ap (λ (f : Fault). is_there (Err f)) is

there : (ends : Result Names Fault) (m n : Machine) (path : List ℕ) (end : CallResult) → ShowsEnd ends m end n
    → outcome (is_there ends) m.tree ≡ led_to (steps.Exists path) end n
there (Ok names) m n path end (is, said, fits, stays) =
    sym (same_outcome (answer_on n (answer_of (steps.Exists path) end)) (answers.There true) n.tree m.tree
    (ap (λ (e : CallResult). answer_on n (answer_of (steps.Exists path) e)) said) (ap (λ (x : Machine). x.tree) stays))
there (Err fault) m n path end (why, said, is, memory, stays) =
    sym (same_outcome (answer_on n (answer_of (steps.Exists path) end)) (is_there (Err fault)) n.tree m.tree
    (ap (λ (e : CallResult). answer_on n (answer_of (steps.Exists path) e)) said ∙ missed why path n fault memory is) (ap (λ (x : Machine). x.tree) stays))

not_missing : (path : List ℕ) (why : ErrorKind) → misses why ≡ false → answer_of (steps.Exists path) (says.Failed why) ≡ failed_with (steps.Exists path) why
not_missing path why fine = ap (λ (b : Bool). cond b (answers.There false) (failed_with (steps.Exists path) why)) fine

pub exists_agrees : ExistsAgrees
unfolding apply
exists_agrees m hint path = one_agrees m hint (steps.Exists path) (asks.Stat path) (record {
  wanted = refl;
  leads = λ said. refl;
  memory = λ end never. absurd never;
  answers = not_missing path;
  whole = λ why part n left. inl (ap (λ (x : Machine). x.tree) left);
  agrees = λ most said n well. there (found m.tree path) m n path said well;
})

-- ---- a file is put

still_kept : (t : Tree) (path : List ℕ) (names : Names) (bytes : List ℕ) → names_of path ≡ Ok names → look t names ≡ Some (File bytes) → kept t path ≡ Ok names
unfolding kept
still_kept t path names bytes named stands =
    ap (λ (r : Result Names Fault). and_then r (λ n. where_file (look t n) n)) named ∙ ap (λ (o : Option Node). where_file o names) stands

apply_persist : (t : Tree) (path to : List ℕ) (held : Option (List ℕ)) (names : Names) (bytes : List ℕ) → held ≡ Some bytes → kept t path ≡ Ok names
    → apply t (steps.Persist (record { path = path; bytes = held }) to) Plain ≡ unless (replaceable t to) t (λ new. outcome answers.Done (put (cut t names) new (File bytes)))
unfolding apply
apply_persist t path to held names bytes h k =
    ap (λ (b : Option (List ℕ)). unless (known b) t (λ x. unless (kept t path) t (λ old. unless (replaceable t to) t (λ new. outcome answers.Done (put (cut t old) new (File x)))))) h
    ∙ ap (λ (r : Result Names Fault). unless r t (λ old. unless (replaceable t to) t (λ new. outcome answers.Done (put (cut t old) new (File bytes))))) k

held_names : (t : Tree) (file : Option OpenFile) (names : Names) → option_map (λ (f : OpenFile). f.place) file ≡ Some (under names) → held_at t file ≡ Some (bytes_of (look t names))
held_names t None names is = absurd cc
held_names t (Some file) names is = let same : file.place ≡ under names = cc in ap (λ (p : Place). Some (bytes_of (node_of t p))) same

-- the move of a temporary file that still stands
pub put_away : (m : Machine) (temp : NumberedTemp) (path : List ℕ) (names : Names) (bytes : List ℕ) → StillStands m temp names bytes
    → (most : Option ℕ) (said : CallResult) (n : Machine) → GoesWell most m (asks.Rename temp.path path) said n
    → apply m.tree (step_on m (steps.Persist temp path)) Plain ≡ led_to (steps.Persist temp path) said n
put_away m temp path names bytes ready most said n well =
    let goes = subst (λ (r : Result Names Fault). MatchResult r (λ old. MovesNode old (look m.tree old) (replaceable m.tree path) m said n) (λ fault. IsRefused fault m said n))
    (place_led m.tree temp.path names ready.named ready.way) well in
    let moves = subst (λ (o : Option Node). MovesNode names o (replaceable m.tree path) m said n) ready.stands goes in
    apply_persist m.tree temp.path path _ names bytes
    (held_names m.tree (m.files temp.number) names ready.opened ∙ ap (λ (o : Option Node). Some (bytes_of o)) ready.stands)
    (still_kept m.tree temp.path names bytes ready.named ready.stands)
    ∙ changed_places (λ new. put (cut m.tree names) new (File bytes)) (steps.Persist temp path) m n said refl (λ why. refl) (replaceable m.tree path) (λ was. moved was names) moves

-- ---- links

pub symlink_agrees : SymlinkAgrees
unfolding apply
symlink_agrees m hint target path = one_agrees m hint (steps.Symlink target path) (asks.Symlink target path) (record {
  wanted = refl;
  leads = λ said. refl;
  memory = λ end never. absurd never;
  answers = λ why fine. refl;
  whole = λ why part n left. inl (ap (λ (x : Machine). x.tree) left);
  agrees = λ most said n well. changed (λ names. put m.tree names (Link target)) (steps.Symlink target path) m n said refl (λ why. refl) (free m.tree path) well;
})

linked_so : (m : Machine) (from to : List ℕ) (node : Node) → linked m.tree from ≡ Ok node → (most : Option ℕ) (said : CallResult) (n : Machine) → GoesWell most m (asks.HardLink from to) said n
    → apply m.tree (step_on m (steps.HardLink from to)) Plain ≡ led_to (steps.HardLink from to) said n
unfolding apply
linked_so m from to node is most said n well =
    ap (λ (r : Result Node Fault). unless (free m.tree to) m.tree (λ names. unless r m.tree (λ x. outcome answers.Done (put m.tree names x)))) is
    ∙ changed (λ names. put m.tree names node) (steps.HardLink from to) m n said refl (λ why. refl) (free m.tree to)
    (subst (λ (r : Result Node Fault). LinksNode r (free m.tree to) m said n) is well)

linked_agrees : (m : Machine) (hint : Hint) (from to : List ℕ) (node : Node) → linked m.tree from ≡ Ok node → Agrees m hint (steps.HardLink from to)
linked_agrees m hint from to node is = one_agrees m hint (steps.HardLink from to) (asks.HardLink from to) (record {
  wanted = refl;
  leads = λ said. refl;
  memory = λ end never. absurd never;
  answers = λ why fine. refl;
  whole = λ why part n left. inl (ap (λ (x : Machine). x.tree) left);
  agrees = linked_so m from to node is;
})

-- the table links only what is there
done_linked : (t : Tree) (ends : Result Names Fault) (source : Result Node Fault) → fault_told (unless ends t (λ names. unless source t (λ node. outcome answers.Done (put t names node)))).0 ≡ None
    → (node : Node) × (source ≡ Ok node)
done_linked t (Ok names) (Ok node) done = (node, refl)
done_linked t (Ok names) (Err fault) done = absurd cc
done_linked t (Err fault) source done = absurd cc

link_done : (m : Machine) (from to : List ℕ) → IsDone m (steps.HardLink from to) → (node : Node) × (linked m.tree from ≡ Ok node)
unfolding apply
link_done m from to done = done_linked m.tree (free m.tree to) (linked m.tree from) done

pub hard_link_agrees : HardLinkAgrees
hard_link_agrees m hint from to = record {
  plainly = λ node is. (linked_agrees m hint from to node is).plainly;
  breaking = λ done. let g = link_done m from to done in (linked_agrees m hint from to g.0 g.1).breaking done;
}

pub reflink_breaks : ReflinkBreaks
reflink_breaks m hint from to done =
    over_leads OccursSomehow (says.Failed kind.Unsupported) m (IsLucky m (steps.Reflink from to))
    (broken_agrees (steps.Reflink from to) kind.Unsupported (says.Failed kind.Unsupported) m m refl refl refl done)

-- What many steps leave fixed on a system and on a disk that does the same, and what a loss of power leaves of both.
use Rattle.std.proofs.{Common.{◌≡◌, ◌⊎◌, inl, inr, ◌||◌, ◌-◌, ℕ, Bool, true, false, cond, List, [], ◌∷◌, ◌++◌, take, length, refl, sym, ap, subst, ◌∙◌}, lemmas.{List.{length-append}, Bool.{or_right}}, Math.{Seq.{take-append_seam}, Nat.{add-sub_cancel}}}
use Rattle.std.specs.{Prelude.{Option, None, Some, Result, Ok}, List.{AllByRecursion}}
use Rattle.cacache_core.specs.{declared.errors.Fault.{Fault, TheVariants.{Device}}, Paths.{Names, names_of}}
use Rattle.cacache_store.specs.Plain.{PlainStep, PlainAnswer}
use Rattle.cacache_store.specs.declared.store.step.Step.TheVariants as steps
use Rattle.cacache_store.specs.declared.store.answer.Answer.TheVariants as answers
use Rattle.cacache_disk.specs.{declared.{luck.Luck.{Luck, TheVariants.{Plain, Fail}}, node.Node.TheVariants.{File}}, Tree.{Tree, look, put, same_path, bytes_of}, Apply.{apply, plain, fails, fault_told, made_up, lengthened}}
use Rattle.cacache_value.specs.Acts.{Move}
use Rattle.cacache_loss.specs.{Fixing.{Fixed, all_fixed, is_sync, is_synced, moves_file, rewrites_at, is_at, changed, fixed_after}, Moments.{Moment, next, after, EachMove}, ChangedNames.{opening}}
use Rattle.cacache_loss.proofs.StepCases.{put_misses}
use Rattle.cacache_system.specs.{declared.call.{CallItem.{CallItem}, CallResult.{CallResult}}, Seen.{NumberedTemp, NumberedStep}, CallsOf.{Runs}, AnswersOf.{Hint, first, answer_of}}
use Rattle.cacache_system_model.specs.{Machine.{Machine, SyncedNode}, Calls.{OccursSomehow, EachCall}, Laws.{temp_on, step_on, answer_on, outcome, LeavesFresh, IsLucky}, Premises.{Premise}, Writing.{WritesSome}, Mirrors.{Mirrors, temps_after, SparesOpen}, Chains.{StepMade, temps_left, WritesTemp, IsCovered, IsMade, IsListing, ListsFolder, SameNames, AreMade}, Fixing.{after_syncs, synced_since, step_made, answer_made, fixed_by, no_temps, machine_after, fixed_after_all, temps_after_all, was_temp, CopiesNone, NoDoubt, LosesAsTold, IsMoveOf, AreMovesOf, IsAnswered, LossesMirror}}
use Rattle.cacache_system_model.proofs.{Steps.Writing.{write_agrees}, Covered.{each_may_break, each_goes_plainly}, Keeping.{steps_mirror}, Fixing.{FixesSynced, sync_temp_fixes, sync_file_fixes, sync_dir_fixes}, Chaining.{memory_stay, came_back, write_keeps, written_mirrors, ListedOn, listing_on}, Alike.{AlikeFixed, lost_alike}, Touching.{Touched, rests, grows, touched}, Changed.{fixed_alike}}

-- ---- what a step's syncs fix

since_is : (m n : Machine) (nodes : List SyncedNode) → n.synced ≡ nodes ++ m.synced → synced_since m n ≡ nodes
since_is m n nodes grown =
    ap (λ (l : List SyncedNode). take (length l - length m.synced) l) grown
    ∙ ap (λ (k : ℕ). take (k - length m.synced) (nodes ++ m.synced)) (length-append nodes m.synced)
    ∙ ap (λ (k : ℕ). take k (nodes ++ m.synced)) (add-sub_cancel (length nodes) (length m.synced))
    ∙ take-append_seam nodes m.synced

no_sync : (f : Fixed) (t new : Tree) (step : PlainStep) (answer : PlainAnswer) → is_sync step ≡ false → fixed_after f t new step answer ≡ changed f t new step answer
no_sync f t new (steps.SyncTemp temp) answer is = absurd (let wrong : true ≡ false = is in cc)
no_sync f t new (steps.SyncFile p) answer is = absurd (let wrong : true ≡ false = is in cc)
no_sync f t new (steps.SyncDir p) answer is = absurd (let wrong : true ≡ false = is in cc)
no_sync f t new step answer is = refl

pub made_fixed : (c : Bool) (f : Fixed) (m n : Machine) (step : NumberedStep) (end : CallResult) → is_sync (step_on m step) ≡ c → (c ≡ true → FixesSynced m step end n)
    → cond c (after_syncs (synced_since m n) f) (changed f m.tree n.tree (step_on m step) (answer_on n (answer_of step end)))
    ≡ fixed_after f m.tree n.tree (step_on m step) (answer_on n (answer_of step end))
made_fixed true f m n step end is syncs =
    let s = syncs refl in ap (λ (nodes : List SyncedNode). after_syncs nodes f) (since_is m n s.0 s.1) ∙ sym (s.2 f)
made_fixed false f m n step end is syncs = sym (no_sync f m.tree n.tree (step_on m step) (answer_on n (answer_of step end)) is)

pub syncs_fix : (m n : Machine) (hint : Hint) (step : NumberedStep) (items : List CallItem) (end : CallResult) → Premise m hint step → NoDoubt m
    → Runs (first hint step) items end → EachCall OccursSomehow m items n → is_sync (step_on m step) ≡ true → FixesSynced m step end n
syncs_fix m n hint (steps.SyncTemp temp) items end (names, bytes, ready) sure runs each is = sync_temp_fixes m hint temp names bytes ready sure items end n runs each
syncs_fix m n hint (steps.SyncFile p) items end premise sure runs each is = sync_file_fixes m hint p sure items end n runs each
syncs_fix m n hint (steps.SyncDir p) items end premise sure runs each is = sync_dir_fixes m hint p premise sure items end n runs each
syncs_fix m n hint step items end premise sure runs each is = absurd (let wrong : false ≡ true = is in cc)

-- ---- kinds of steps

pub none_anew : (m : Machine) (step : NumberedStep) → CopiesNone step → (t : Tree) (q : Names) → rewrites_at t (step_on m step) q ≡ false
none_anew m (steps.Copy from to) none t q = absurd none
none_anew m step none t q = refl

pub failed_moves : (step : PlainStep) (fault : Fault) → moves_file step (answers.Failed fault) ≡ None
failed_moves (steps.Persist temp p) fault = refl
failed_moves step fault = refl

pub memory_moves : (step other : PlainStep) → moves_file step (answers.NoMemory other) ≡ None
memory_moves (steps.Persist temp p) other = refl
memory_moves step other = refl

-- a step that fails for another reason leaves the tree
failed_so : (o : Option Fault) (d : Tree) → (fault : Fault) × (fails o Device d d ≡ outcome (answers.Failed fault) d)
failed_so None d = (made_up Device, refl)
failed_so (Some own) d = (own, refl)

pub failed_apply : (d : Tree) (step : PlainStep) → (fault : Fault) × (apply d step (Fail Device None) ≡ outcome (answers.Failed fault) d)
unfolding apply
failed_apply d step = failed_so (fault_told (plain d step None).0) d

-- ---- one step

-- the disk's move for a step, after which the disk still mirrors the machine, and what is fixed is alike
pub record Follows (own temps : Names → Bool) (f : Fixed) (now : Moment) (s : StepMade) : Type 0 where
  pub move : Move
  pub of_step : IsMoveOf s move
  pub answered : IsAnswered now move
  pub mirrors : Mirrors (temps_left temps s) s.after.tree (next now move).tree
  pub alike : AlikeFixed own (fixed_by f s) (next now move).fixed

module _ (own temps : Names → Bool) (f : Fixed) (now : Moment) (s : StepMade) (before : Mirrors temps s.before.tree now.tree) (keeps : (q : Names) → temps q ≡ true → own q ≡ true)
    (alike : AlikeFixed own f now.fixed) (none : CopiesNone s.step) (syncs : is_sync (step_made s) ≡ true → FixesSynced s.before s.step s.end s.after) where
  follow : (luck : Luck) (answer : PlainAnswer)
      → ((answer ≡ answer_made s) ⊎ ((answer_of s.step s.end ≡ answers.NoMemory s.step) × (fault : Fault) × (answer ≡ answers.Failed fault)) ⊎ SameNames answer (answer_made s))
      → answer ≡ (apply now.tree (step_made s) luck).0 → Mirrors (temps_left temps s) s.after.tree (apply now.tree (step_made s) luck).1
      → moves_file (step_made s) answer ≡ moves_file (step_made s) (answer_made s) → is_synced answer ≡ is_synced (answer_made s) → SparesOpen temps s.before.tree (step_made s)
      → ((q : Names) → Touched temps (temps_left temps s) s.before.tree s.after.tree (step_made s) (answer_made s) q) → Follows own temps f now s
  follow luck answer told answered mirrors moves done spares at = record {
    move = record { step = step_made s; luck = luck; answer = answer };
    of_step = (refl, told);
    answered = answered;
    mirrors = mirrors;
    alike = subst (λ (x : Fixed). AlikeFixed own x (fixed_after now.fixed now.tree (apply now.tree (step_made s) luck).1 (step_made s) answer))
        (sym (made_fixed (is_sync (step_made s)) f s.before s.after s.step s.end refl syncs))
        (fixed_alike own temps (temps_left temps s) s.before.tree now.tree s.after.tree (apply now.tree (step_made s) luck).1 f now.fixed (step_made s) (answer_made s) answer
        before mirrors keeps alike (none_anew s.before s.step none) moves done spares at);
  }

  done_follows : (luck : Luck) → SparesOpen temps s.before.tree (step_made s) → apply s.before.tree (step_made s) luck ≡ outcome (answer_made s) s.after.tree → Follows own temps f now s
  done_follows luck spares is =
      let mirrored = steps_mirror temps s.before.tree now.tree (step_made s) luck before spares in
      let answer : (apply s.before.tree (step_made s) luck).0 ≡ answer_made s = ap (λ (r : PlainAnswer × Tree). r.0) is in
      let tree : (apply s.before.tree (step_made s) luck).1 ≡ s.after.tree = ap (λ (r : PlainAnswer × Tree). r.1) is in
      follow luck (answer_made s) (inl refl) (sym (mirrored.answers ∙ answer))
      (subst (λ (t : Tree). Mirrors (temps_left temps s) t (apply now.tree (step_made s) luck).1) tree
      (subst (λ (a : PlainAnswer). Mirrors (temps_after temps (step_made s) a) (apply s.before.tree (step_made s) luck).1 (apply now.tree (step_made s) luck).1) answer mirrored.mirrors))
      refl refl spares
      (λ q. subst (λ (r : PlainAnswer × Tree). Touched temps (temps_after temps (step_made s) r.0) s.before.tree r.1 (step_made s) r.0 q) is (touched temps s.before.tree q (step_made s) luck spares))

  back_follows : SparesOpen temps s.before.tree (step_made s) → answer_of s.step s.end ≡ answers.NoMemory s.step → s.after.tree ≡ s.before.tree → Follows own temps f now s
  back_follows spares is tree =
      let failed = failed_apply now.tree (step_made s) in
      let stays : temps_left temps s ≡ temps = ap (λ a. temps_after temps (step_made s) (answer_on s.after a)) is ∙ memory_stay temps (step_made s) (step_on s.after s.step) in
      follow (Fail Device None) (answers.Failed failed.0) (inr (inl (is, failed.0, refl))) (sym (ap (λ (r : PlainAnswer × Tree). r.0) failed.1))
      (subst (λ (d : Tree). Mirrors (temps_left temps s) s.after.tree d) (sym (ap (λ (r : PlainAnswer × Tree). r.1) failed.1)) (came_back temps now.tree s.before s.after s.step s.end before is tree))
      (failed_moves (step_made s) failed.0 ∙ sym (ap (λ a. moves_file (step_made s) (answer_on s.after a)) is ∙ memory_moves (step_made s) (step_on s.after s.step)))
      (sym (ap (λ a. is_synced (answer_on s.after a)) is)) spares
      (λ q. rests (ap (λ (t : Tree). look t q) tree) (ap (λ (x : Names → Bool). x q) stays))

  lucky_follows : SparesOpen temps s.before.tree (step_made s) → (LeavesFresh s.before s.step (answer_of s.step s.end) s.after → ⊥) → IsLucky s.before s.step s.end s.after → Follows own temps f now s
  lucky_follows spares clean (inl (luck, is)) = done_follows luck spares is
  lucky_follows spares clean (inr (inl (is, tree))) = back_follows spares is tree
  lucky_follows spares clean (inr (inr left)) = absurd (clean left)

-- an open temporary file that is written
pub write_touched : (temps : Names → Bool) (m n : Machine) (temp : NumberedTemp) (more bytes : List ℕ) (names : Names) (answer : PlainAnswer) → names_of temp.path ≡ Ok names → put m.tree names (File bytes) ≡ n.tree
    → (q : Names) (c : Bool) → same_path q names ≡ c → Touched temps temps m.tree n.tree (steps.Write (temp_on m temp) more) answer q
write_touched temps m n temp more bytes names answer named tree q true at = grows (ap (λ (r : Result Names Fault). is_at r q) named ∙ at)
write_touched temps m n temp more bytes names answer named tree q false at = rests (ap (λ (t : Tree). look t q) (sym tree) ∙ put_misses m.tree names q (File bytes) at) refl

module _ (own temps : Names → Bool) (f : Fixed) (now : Moment) (m n : Machine) (hint : Hint) (items : List CallItem) (end : CallResult) (keeps : (q : Names) → temps q ≡ true → own q ≡ true) (alike : AlikeFixed own f now.fixed)
    (before : Mirrors temps m.tree now.tree) where
  abbrev made_so : NumberedStep → StepMade
  made_so step = record { before = m; after = n; step = step; hint = hint; items = items; end = end }

  grown_follows : (temp : NumberedTemp) (more : List ℕ) (names : Names) → names_of temp.path ≡ Ok names → temps names ≡ true → WritesSome m temp names more end n → Follows own temps f now (made_so (steps.Write temp more))
  grown_follows temp more names named is_open (inl (luck, part, is)) =
      let step = step_on m (steps.Write temp more) in
      let mirrored = steps_mirror temps m.tree now.tree step luck before tt in
      let answer : (apply m.tree step luck).0 ≡ answer_on n (answer_of (steps.Write temp more) end) = ap (λ (r : PlainAnswer × Tree). r.0) is in
      let tree : lengthened m.tree names (take part more) ≡ n.tree = ap (λ (r : PlainAnswer × Tree). r.1) is in
      follow own temps f now (made_so (steps.Write temp more)) before keeps alike tt (λ is. absurd (let wrong : false ≡ true = is in cc)) luck (answer_on n (answer_of (steps.Write temp more) end)) (inl refl)
      (sym (mirrored.answers ∙ answer))
      (subst (λ (d : Tree). Mirrors temps n.tree d) (sym (write_keeps now.tree (temp_on m temp) more luck))
      (subst (λ (t : Tree). Mirrors temps t now.tree) tree (written_mirrors temps m.tree now.tree names (bytes_of (look m.tree names) ++ take part more) before is_open)))
      refl refl tt
      (λ q. write_touched temps m n temp more (bytes_of (look m.tree names) ++ take part more) names (answer_on n (answer_of (steps.Write temp more) end)) named tree q (same_path q names) refl)
  grown_follows temp more names named is_open (inr (is, tree)) =
      back_follows own temps f now (made_so (steps.Write temp more)) before keeps alike tt (λ is. absurd (let wrong : false ≡ true = is in cc)) tt is tree

  write_follows : (step : NumberedStep) → Runs (first hint step) items end → EachCall OccursSomehow m items n → WritesTemp temps m step → Follows own temps f now (made_so step)
  write_follows (steps.Write temp more) runs each (names, bytes, ready, is_open) =
      grown_follows temp more names ready.named is_open ((write_agrees m hint temp names bytes more ready).breaking items end n runs each)
  write_follows _ runs each writing = absurd writing

-- a listing in any order
lists_follow : (own temps : Names → Bool) (f : Fixed) (now : Moment) (m n : Machine) (hint : Hint) (step : NumberedStep) (items : List CallItem) (end : CallResult) → Mirrors temps m.tree now.tree
    → ((q : Names) → temps q ≡ true → own q ≡ true) → AlikeFixed own f now.fixed → IsListing m hint step → ListedOn temps now.tree m step end n ⊎ IsLucky m step end n
    → Follows own temps f now (record { before = m; after = n; step = step; hint = hint; items = items; end = end })
lists_follow own temps f now m n hint (steps.ReadDir path) items end before keeps alike lists (inr lucky) =
    lucky_follows own temps f now (record { before = m; after = n; step = steps.ReadDir path; hint = hint; items = items; end = end }) before keeps alike tt (λ is. absurd (let wrong : false ≡ true = is in cc)) tt (λ left. left) lucky
lists_follow own temps f now m n hint (steps.ReadDir path) items end before keeps alike lists (inl (told, is, (shown, given, one, other, order), mirrored, tree)) =
    follow own temps f now (record { before = m; after = n; step = steps.ReadDir path; hint = hint; items = items; end = end }) before keeps alike tt (λ is. absurd (let wrong : false ≡ true = is in cc))
    Plain told (inr (inr (shown, given, one, other, order))) (sym (ap (λ (r : PlainAnswer × Tree). r.0) is))
    (subst (λ (d : Tree). Mirrors temps n.tree d) (sym (ap (λ (r : PlainAnswer × Tree). r.1) is)) mirrored)
    refl
    (ap is_synced one ∙ sym (ap is_synced other)) tt
    (λ q. rests (ap (λ (t : Tree). look t q) tree) refl)
lists_follow own temps f now m n hint _ items end before keeps alike lists done = absurd lists

pub one_follows : (own temps : Names → Bool) (f : Fixed) (now : Moment) (s : StepMade) → Mirrors temps s.before.tree now.tree → ((q : Names) → temps q ≡ true → own q ≡ true) → AlikeFixed own f now.fixed → LosesAsTold s
    → Runs (first s.hint s.step) s.items s.end → EachCall OccursSomehow s.before s.items s.after → IsCovered temps s → Follows own temps f now s
one_follows own temps f now s before keeps alike none runs each (inl law) =
    lucky_follows own temps f now s before keeps alike none.0 (syncs_fix s.before s.after s.hint s.step s.items s.end law.premise none.1 runs each) law.spares none.2
    (each_may_break s.before s.hint s.step law.premise law.done s.items s.end s.after runs each)
one_follows own temps f now s before keeps alike none runs each (inr (inl writing)) =
    write_follows own temps f now s.before s.after s.hint s.items s.end keeps alike before s.step runs each writing
one_follows own temps f now s before keeps alike none runs each (inr (inr plain)) =
    done_follows own temps f now s before keeps alike none.0 (syncs_fix s.before s.after s.hint s.step s.items s.end plain.premise none.1 runs each) Plain plain.spares
    (each_goes_plainly s.before s.hint s.step plain.premise plain.plain s.items s.end s.after runs plain.well plain.memory)

made_follows : (own temps : Names → Bool) (f : Fixed) (now : Moment) (s : StepMade) → Mirrors temps s.before.tree now.tree → ((q : Names) → temps q ≡ true → own q ≡ true) → AlikeFixed own f now.fixed → LosesAsTold s
    → IsMade temps s ⊎ ListsFolder s → Follows own temps f now s
made_follows own temps f now s before keeps alike none (inl (runs, each, covered)) = one_follows own temps f now s before keeps alike none runs each covered
made_follows own temps f now s before keeps alike none (inr (runs, each, lists)) =
    lists_follow own temps f now s.before s.after s.hint s.step s.items s.end before keeps alike lists
    (listing_on temps now.tree s.before s.after s.hint s.step s.items s.end before runs each lists)

-- ---- many steps

record Lasts (own temps : Names → Bool) (m : Machine) (f : Fixed) (now : Moment) (made : List StepMade) : Type 0 where
  moves : List Move
  of_steps : AreMovesOf made moves
  answered : EachMove IsAnswered now moves
  mirrors : Mirrors (temps_after_all temps made) (machine_after m made).tree (after now moves).tree
  keeps : (q : Names) → temps_after_all temps made q ≡ true → own q ≡ true
  alike : AlikeFixed own (fixed_after_all f made) (after now moves).fixed

open_first : (temps : Names → Bool) (made : List StepMade) (q : Names) → temps q ≡ true → was_temp temps made q ≡ true
open_first temps [] q is = is
open_first temps (s ∷ made) q is = ap (λ (b : Bool). b || was_temp (temps_left temps s) made q) is

lasts : (own temps : Names → Bool) (m : Machine) (f : Fixed) (now : Moment) (made : List StepMade) → Mirrors temps m.tree now.tree → ((q : Names) → was_temp temps made q ≡ true → own q ≡ true) → AlikeFixed own f now.fixed
    → AreMade temps m made → AllByRecursion LosesAsTold made → Lasts own temps m f now made
lasts own temps m f now [] mirrors keeps alike chain none =
    record { moves = []; of_steps = refl; answered = tt; mirrors = mirrors; keeps = keeps; alike = alike }
lasts own temps m f now (s ∷ made) mirrors keeps alike (begins, is_made, chain) none =
    let here : Mirrors temps s.before.tree now.tree = subst (λ (x : Machine). Mirrors temps x.tree now.tree) (sym begins) mirrors in
    let one = made_follows own temps f now s here (λ q is. keeps q (open_first temps (s ∷ made) q is)) alike none.0 is_made in
    let more = lasts own (temps_left temps s) s.after (fixed_by f s) (next now one.move) made one.mirrors
    (λ q is. keeps q (or_right (temps q) (was_temp (temps_left temps s) made q) is)) one.alike chain none.1 in
    record {
      moves = one.move ∷ more.moves;
      of_steps = (one.move, more.moves, refl, one.of_step, more.of_steps);
      answered = (one.answered, more.answered);
      mirrors = more.mirrors;
      keeps = more.keeps;
      alike = more.alike;
    }

pub losses_mirror : LossesMirror
losses_mirror m made chain none =
    let own = was_temp no_temps made in
    let l = lasts own no_temps m (all_fixed m.tree) (opening m.tree) made (record { files = λ q is. absurd (let wrong : false ≡ true = is in cc); same = λ q. refl }) (λ q is. is)
    (record { files = λ q. refl; names = λ q. tt }) chain none in
    record {
      moves = l.moves;
      of_steps = l.of_steps;
      answered = l.answered;
      mirrors = l.mirrors;
      losses = lost_alike own (temps_after_all no_temps made) (machine_after m made).tree (after (opening m.tree) l.moves).tree (fixed_after_all (all_fixed m.tree) made) (after (opening m.tree) l.moves).fixed l.mirrors l.keeps l.alike;
    }

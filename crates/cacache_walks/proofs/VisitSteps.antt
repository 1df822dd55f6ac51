-- How the walk goes on after a visit.
use Rattle.std.proofs.{Common.{◌≡◌, ◌+◌, ◌-◌, ◌<◌, ◌≤◌, ℕ, List, [], ◌∷◌, ◌++◌, inl, Bool, true, false, cond, nat_le, nat_lt, Option, None, Some, refl, sym, ap, subst, ◌∙◌, length, arith, append-nil}, lemmas.{List.Elements.{All-nil}, Bool.{ltb-false, ltb-true}}}
use Rattle.std.specs.List.{cons_option}
use Rattle.cacache_core.specs.{declared.errors.{Error.{Error}, Fault.TheVariants.{NotFound, TooDeep}}, Paths.{join, IsProperName}}
use Rattle.cacache_store.specs.{declared.store.{log.LogItem.{LogItem}, answer.{Kind.{Kind}, Name.{Name}, Answer.TheVariants.{Names, Failed, NoMemory}}, step.Step.TheVariants.{ReadDir}}, Plain.{PlainAnswer, Fits, AreProperNames}}
use Rattle.cacache_store.specs.declared.store.answer.Kind.TheVariants as kinds
use Rattle.cacache_calls.specs.{State.{walking}, declared.visit.{Task.{Task, TheVariants.{Make, Stumble}}, Visit.{Visit, TheVariants.{Enter, ReadBucket}}}, Walking.{failed, walk_on, tasks_of, task_for_name, entered, after_visit, too_many, visit_step}, Table.{after}, Runs.{Gains, Moves, effort}}
use Rattle.cacache_calls.proofs.Effort.{falls}
use Rattle.cacache_walks.specs.declared.walk.Walk as walks
use Rattle.cacache_walks.specs.{WalkStates.{Counts, WalksAt, pending, walk_of, AnswerShows, Answered, Matches, WalkStands, GoesFrom, steps_left}, Reading.{Folder, folder_as, folders_in, file_paths, names_shown, StopsWalk}}
use Rattle.cacache_walks.proofs.Stumbling.{lists, none_at, no_items, led, same_left}

-- ---- the tasks of a folder

below_sixteen : (b : Bool) (path : List ℕ) (level : ℕ) (ts : List Task) (fs : List Folder) → nat_lt level 16 ≡ b → Matches ts fs → Matches (cond b (Make (Enter path (level + 1))) (Stumble TooDeep path) ∷ ts) (record { path = path; level = level + 1 } ∷ fs)
below_sixteen true path level ts fs is m = let lt : level < 16 = ltb-true level 16 is in (refl, omega (arith, lt), m)
below_sixteen false path level ts fs is m = let deep : 16 ≤ level = ltb-false level 16 is in (omega (arith, deep), m)

one_task : (k : Kind) (path : List ℕ) (level : ℕ) (ts : List Task) (xs ys : List Folder) → Matches ts (xs ++ ys) → Matches (task_for_name false level path k ∷ ts) (cons_option (folder_as k path level) xs ++ ys)
one_task kinds.Folder path level ts xs ys m = below_sixteen (nat_lt level 16) path level ts (xs ++ ys) refl m
one_task k path level ts xs ys m = m

pub tasks_match : (level : ℕ) (path : List ℕ) (ns : List Name) (ts : List Task) (fs : List Folder) → Matches ts fs → Matches (tasks_of false level path ns ++ ts) (folders_in (record { path = path; level = level }) ns ++ fs)
tasks_match level path [] ts fs m = m
tasks_match level path (n ∷ ns) ts fs m = one_task n.kind (join path n.name) level (tasks_of false level path ns ++ ts) (folders_in (record { path = path; level = level }) ns) fs (tasks_match level path ns ts fs m)

entered_at : (b : Bool) (tasks : List Task) (left more : ℕ) (w : walks.Walk) (next : Option Visit) (fs : List Folder) → w.items.items ≡ [] → Matches tasks fs → WalksAt [] w next (cond b (walk_on tasks (lists [] left)) (too_many (lists [] more))) → WalkStands next w fs
entered_at true tasks left more w next fs none m h = led tasks left w next fs none m h
entered_at false tasks left more w next fs none m h = absurd (none_at (failed TooDeep ∷ []) (no_items w next _ none h) (omega arith))

left_entered : (b : Bool) (tasks : List Task) (left old : ℕ) (w : walks.Walk) (next : Option Visit) (fs : List Folder) → w.items.items ≡ [] → Matches tasks fs → WalksAt [] w next (cond b (walk_on tasks (lists [] left)) (too_many (lists [] old))) → (moves : Moves) (e : Error) → StopsWalk w.left fs moves e → StopsWalk left fs moves e
left_entered true tasks left old w next fs none m h moves e s = same_left tasks left w next fs none m h moves e s
left_entered false tasks left old w next fs none m h moves e s = absurd (none_at (failed TooDeep ∷ []) (no_items w next _ none h) (omega arith))

-- ---- after a visit

pub lists_nothing : (w : walks.Walk) → w.clears ≡ false → w.items.items ≡ [] → walk_of [] w ≡ lists [] w.left
lists_nothing w clears none = rw (clears, none) refl

pub unmoved : (old new : Option (List LogItem)) → new ≡ old → Gains old new []
unmoved None new e = e
unmoved (Some log) new e = e ∙ ap Some (sym (append-nil log))

not_entered : (v : Visit) (t : PlainAnswer) (old new : Option (List LogItem)) (before after : List (List ℕ)) (w0 w1 : walks.Walk) (next : Option Visit) (fs : List Folder) → t ≡ Failed NotFound → new ≡ old → after ≡ before → Matches (pending w0.todo.items) fs → WalksAt [] w1 next (walk_on (pending w0.todo.items) (lists [] w0.left)) → w1.items.items ≡ [] → GoesFrom w0.left fs next w1 old new before after
not_entered v t old new before after w0 w1 next fs is gained found m h none = record {
  moves = [];
  gained = unmoved old new gained;
  found = found ∙ sym (append-nil before);
  rest = fs;
  stands = led (pending w0.todo.items) w0.left w1 next fs none m h;
  reads = λ more r. r;
  stops = λ more e s. same_left (pending w0.todo.items) w0.left w1 next fs none m h more e s;
}

entered_folder : (path : List ℕ) (level : ℕ) (names : List Name) (u : PlainAnswer) (old new : Option (List LogItem)) (before after : List (List ℕ)) (w0 w1 : walks.Walk) (next : Option Visit) (f : Folder) (fs : List Folder) → AnswerShows u names path old new → after ≡ before ++ file_paths path names → f ≡ record { path = path; level = level } → level ≤ 16 → Matches (pending w0.todo.items) fs → WalksAt [] w1 next (entered (lists [] w0.left) path level (pending w0.todo.items) names) → w1.items.items ≡ [] → GoesFrom w0.left (f ∷ fs) next w1 old new before after
entered_folder path level names u old new before after w0 w1 next f fs shows found is deep m entered_so none =
    let h = rw (append-nil (tasks_of false level path names)) at entered_so in record {
      moves = (ReadDir path, u) ∷ [];
      gained = shows.gained;
      found = rw shows.shown (found ∙ ap (λ l. before ++ l) (sym (append-nil (file_paths path names))));
      rest = folders_in (record { path = path; level = level }) names ++ fs;
      stands = entered_at (nat_le (length names) w0.left) (tasks_of false level path names ++ pending w0.todo.items) (w0.left - length names) w0.left w1 next _ none (tasks_match level path names (pending w0.todo.items) fs m) h;
      reads = λ more r. rw is (refl, shows.fits, deep, (names, shows.shown, r));
      stops = λ more e s. rw is (refl, shows.fits, deep, inl (names, shows.shown, left_entered (nat_le (length names) w0.left) (tasks_of false level path names ++ pending w0.todo.items) (w0.left - length names) w0.left w1 next _ none (tasks_match level path names (pending w0.todo.items) fs m) h more e s));
    }

goes_by : (v : Visit) (t : PlainAnswer) (old new : Option (List LogItem)) (before after : List (List ℕ)) (w0 w1 : walks.Walk) (next : Option Visit) (fs : List Folder) → Answered v t old new before after → Matches (Make v ∷ pending w0.todo.items) fs → WalksAt [] w1 next (after_visit (lists [] w0.left) v (pending w0.todo.items) t) → w1.items.items ≡ [] → GoesFrom w0.left fs next w1 old new before after
goes_by (Enter path level) t old new before after w0 w1 next (f ∷ fs) a m h none = entered_folder path level a.0 a.2.0 old new before after w0 w1 next f fs a.2.1 a.3 m.0 m.1 m.2 (rw a.1 at h) none
goes_by (ReadBucket path) t old new before after w0 w1 next fs a m h none = not_entered (ReadBucket path) t old new before after w0 w1 next fs a.0 a.1 a.2 m (rw a.0 at h) none
goes_by v t old new before after w0 w1 next fs a m h none = absurd m

-- the answer to a visit takes the walk on
pub goes_after : (v : Visit) (t : PlainAnswer) (old new : Option (List LogItem)) (before after : List (List ℕ)) (w0 w1 : walks.Walk) (next : Option Visit) (fs : List Folder) → Answered v t old new before after → WalkStands (Some v) w0 fs → (Counts [] w0 → WalksAt [] w1 next (after_visit (walk_of [] w0) v (pending w0.todo.items) t)) → w1.items.items ≡ [] → GoesFrom w0.left fs next w1 old new before after
goes_after v t old new before after w0 w1 next fs a s h none =
    goes_by v t old new before after w0 w1 next fs a s.3 (subst (λ u. WalksAt [] w1 next (after_visit u v (pending w0.todo.items) t)) (lists_nothing w0 s.0 s.1) (h s.2)) none

-- ---- fewer steps may still come

proper_shown : (path : List ℕ) (u : PlainAnswer) (names : List Name) → Fits (ReadDir path) u → names_shown u ≡ Some names → AreProperNames names
proper_shown path (Names ns) names fits e = let same : ns ≡ names = cc in subst AreProperNames same fits
proper_shown path (Failed NotFound) names fits e = let same : [] ≡ names = cc in subst AreProperNames same (All-nil (λ entry. IsProperName entry.name))
proper_shown path (Failed other) names fits e = absurd cc
proper_shown path (NoMemory b) names fits e = absurd cc
proper_shown path other names fits e = absurd fits

fits_answer : (v : Visit) (t : PlainAnswer) (old new : Option (List LogItem)) (before after : List (List ℕ)) → Answered v t old new before after → Fits (visit_step v) t
fits_answer (Enter path level) t old new before after a = rw a.1 (proper_shown path a.2.0 a.0 a.2.1.fits a.2.1.shown)
fits_answer v t old new before after a = rw a.0 tt

fewer_by : (v : Visit) (t : PlainAnswer) (w0 w1 : walks.Walk) (next : Option Visit) → Fits (visit_step v) t → WalksAt [] w1 next (after_visit (walk_of [] w0) v (pending w0.todo.items) t) → steps_left next w1 < steps_left (Some v) w0
fewer_by v t w0 w1 (Some u) fits h =
    let s = walking (walk_of [] w0) v (pending w0.todo.items) in
    let below : effort (after s t) < effort s = falls s (visit_step v) t refl fits in
    let then : effort (after s t) ≡ steps_left (Some u) w1 = ap effort h.1 in
    omega (arith, below, then)
fewer_by v t w0 w1 None fits h =
    let s = walking (walk_of [] w0) v (pending w0.todo.items) in
    let below : effort (after s t) < effort s = falls s (visit_step v) t refl fits in
    omega (arith, below)

pub fewer_after : (v : Visit) (t : PlainAnswer) (old new : Option (List LogItem)) (before after : List (List ℕ)) (w0 w1 : walks.Walk) (next : Option Visit) (fs : List Folder) → Answered v t old new before after → WalkStands (Some v) w0 fs → (Counts [] w0 → WalksAt [] w1 next (after_visit (walk_of [] w0) v (pending w0.todo.items) t)) → steps_left next w1 < steps_left (Some v) w0
fewer_after v t old new before after w0 w1 next fs a s h = fewer_by v t w0 w1 next (fits_answer v t old new before after a) (h s.2)

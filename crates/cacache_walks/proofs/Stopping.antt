-- How an error ends the walk.
use Rattle.std.proofs.{Common.{◌≡◌, ◌≤◌, ◌≢◌, ℕ, List, [], ◌∷◌, ◌++◌, Option, None, Some, Result, Ok, Err, IfOk, IfErr, inl, inr, refl, sym, subst, ◌-◌, Bool, true, false, cond, nat_le, length, append-nil}, lemmas.Bool.{leb-false}}
use Rattle.std.specs.Prelude.{IsErrAnd}
use Rattle.cacache_core.specs.declared.errors.{Error.{Error, TheVariants.{IoError, OutOfMemory}}, Fault.{Fault, TheVariants.{NotFound, TooDeep}}}
use Rattle.cacache_store.specs.{declared.store.{log.LogItem.{LogItem}, answer.{Name.{Name}, Answer.TheVariants.{Names, Failed, NoMemory}}, step.Step.TheVariants.{ReadDir}}, Plain.{PlainAnswer, Fits, Logs}}
use Rattle.cacache_calls.specs.{Answers.{names_in}, Runs.{Moves, Gains}, declared.visit.{Task.{Task, TheVariants.{Make}}, Visit.{Visit, TheVariants.{Enter, ReadBucket}}}, Walking.{after_visit, entered, tasks_of, too_many, walk_on}}
use Rattle.cacache_calls.specs.declared.answers.Refusal.TheVariants as refusals
use Rattle.cacache_walks.specs.declared.walk.Walk as walks
use Rattle.cacache_walks.specs.{WalkStates.{Counts, WalksAt, pending, walk_of, AnswerShows, Answered, GoesFrom, Matches, WalkStands, StopsIn, StopsVisit}, Reading.{Folder, HasDeeper, IsErrorOf, IsOwnError, ReadsFolders, StopsWalk, files_shown, folders_in, names_shown}, Listing.{StopsAt}}
use Rattle.cacache_walks.proofs.{Stumbling.{deeper_or_none, lists}, VisitSteps.{lists_nothing, tasks_match, unmoved}, Walks.{gains_both}}

-- ---- in one folder

-- no step was made
pub stops_here : (left : ℕ) (fs : List Folder) (e : Error) (old new : Option (List LogItem)) → new ≡ old → IsOwnError fs e → StopsAt left fs e old new
stops_here left fs e old new same own = ([], unmoved old new same, own)

none_shown : (fault : Fault) → fault ≢ NotFound → names_shown (Failed fault) ≡ None
none_shown NotFound other = absurd (other refl)
none_shown fault other = refl

-- the step failed
pub stops_at_fault : (path : List ℕ) (t : PlainAnswer) (fault : Fault) (e : Error) (old new : Option (List LogItem)) → Fits (ReadDir path) t → Logs old new (ReadDir path) t → names_in t ≡ Err (refusals.Fault fault) → fault ≢ NotFound → IsErrorOf (Failed fault) e → StopsIn path e old new
stops_at_fault path (Failed f) fault e old new fits logs is other says = λ left level todo deep.
    let same : f ≡ fault = cc in
    ((ReadDir path, Failed f) ∷ [], logs, (refl, tt, deep, inr (refl, inr (rw same (none_shown fault other), rw same says))))
stops_at_fault path (NoMemory step) fault e old new fits logs is other says = absurd cc
stops_at_fault path (Names names) fault e old new fits logs is other says = absurd cc
stops_at_fault path t fault e old new fits logs is other says = absurd fits

-- the names of a folder that couldn't be read
pub unread_shows : (path : List ℕ) (t : PlainAnswer) (fault : Fault) (names : List Name) (old new : Option (List LogItem)) → Fits (ReadDir path) t → Logs old new (ReadDir path) t → names_in t ≡ Err (refusals.Fault fault) → fault ≡ NotFound → names ≡ [] → AnswerShows t names path old new
unread_shows path (Failed f) fault names old new fits logs is missing none =
    let same : f ≡ fault = cc in
    record { fits = tt; shown = rw (same, missing, none) refl; gained = logs }
unread_shows path (NoMemory step) fault names old new fits logs is missing none = absurd cc
unread_shows path (Names shown) fault names old new fits logs is missing none = absurd cc
unread_shows path t fault names old new fits logs is missing none = absurd fits

-- after the names were shown there was no memory left
stops_behind : (path : List ℕ) (t : PlainAnswer) (names : List Name) (old new : Option (List LogItem)) → AnswerShows t names path old new → StopsIn path OutOfMemory old new
stops_behind path t names old new shows left level todo deep =
    ((ReadDir path, t) ∷ [], shows.gained, (refl, shows.fits, deep, inl (names, shows.shown, tt)))

-- ---- at a visit

pub stops_visit : (v : Visit) (e : Error) (old new : Option (List LogItem)) (w : walks.Walk) (fs : List Folder) → StopsVisit v e old new → WalkStands (Some v) w fs → StopsAt w.left fs e old new
stops_visit (Enter path level) e old new w [] stops s = absurd s.3
stops_visit (Enter path level) e old new w (f ∷ fs) stops s = rw s.3.0 (stops w.left level fs s.3.1)
stops_visit v e old new w fs stops s = absurd stops

-- after the visit there was no memory left
pub stops_after : (v : Visit) (t : PlainAnswer) (old new : Option (List LogItem)) (before after : List (List ℕ)) (w : walks.Walk) (fs : List Folder) → Answered v t old new before after → WalkStands (Some v) w fs → StopsAt w.left fs OutOfMemory old new
stops_after (Enter path level) t old new before after w (f ∷ fs) a s = rw s.3.0 (stops_behind path a.2.0 a.0 old new a.2.1 w.left level fs s.3.1)
stops_after (ReadBucket path) t old new before after w fs a s = stops_here w.left fs OutOfMemory old new a.1 tt
stops_after v t old new before after w fs a s = absurd s.3

-- ---- too deep

own_depth : (fs : List Folder) (e : Error) → IsErrorOf (Failed TooDeep) e → HasDeeper fs → IsOwnError fs e
own_depth fs OutOfMemory says deeper = tt
own_depth fs (IoError fault message) says deeper = (says, deeper)
own_depth fs e says deeper = absurd says

-- a file was found, and a later folder is too deep
deep_behind : (tasks : List Task) (e : Error) (old new : Option (List LogItem)) (left : ℕ) (w : walks.Walk) (next : Option Visit) (fs : List Folder) → new ≡ old → Matches tasks fs → WalksAt [] w next (walk_on tasks (lists [] left)) → ¬ (w.items.items ≡ []) → IsErrorOf (Failed TooDeep) e → StopsAt left fs e old new
deep_behind tasks e old new left w next fs same m h some says = elim (deeper_or_none tasks left w next fs m h) [
  | inl deeper ↦ stops_here left fs e old new same (own_depth fs e says deeper)
  | inr none ↦ absurd (some none)
]

-- a folder was read: it has too many names, or a folder in it or a later one is too deep
deep_in : (b : Bool) (tasks : List Task) (path : List ℕ) (level : ℕ) (names : List Name) (u : PlainAnswer) (e : Error) (old new : Option (List LogItem)) (left : ℕ) (w : walks.Walk) (next : Option Visit) (fs : List Folder) → nat_le (length names) left ≡ b → AnswerShows u names path old new → level ≤ 16
    → Matches tasks (folders_in (record { path = path; level = level }) names ++ fs) → WalksAt [] w next (cond b (walk_on tasks (lists [] (left - length names))) (too_many (lists [] left))) → ¬ (w.items.items ≡ []) → IsErrorOf (Failed TooDeep) e → StopsAt left (record { path = path; level = level } ∷ fs) e old new
deep_in true tasks path level names u e old new left w next fs is shows deep m h some says = elim (deeper_or_none tasks (left - length names) w next (folders_in (record { path = path; level = level }) names ++ fs) m h) [
  | inl deeper ↦ ((ReadDir path, u) ∷ [], shows.gained, (refl, shows.fits, deep, inl (names, shows.shown, own_depth (folders_in (record { path = path; level = level }) names ++ fs) e says deeper)))
  | inr none ↦ absurd (some none)
]
deep_in false tasks path level names u e old new left w next fs is shows deep m h some says =
    ((ReadDir path, u) ∷ [], shows.gained, (refl, shows.fits, deep, inr (refl, inl (names, shows.shown, leb-false (length names) left is, says))))

deep_by : (v : Visit) (t : PlainAnswer) (e : Error) (old new : Option (List LogItem)) (before after : List (List ℕ)) (w0 w1 : walks.Walk) (next : Option Visit) (fs : List Folder) → Answered v t old new before after → Matches (Make v ∷ pending w0.todo.items) fs → WalksAt [] w1 next (after_visit (lists [] w0.left) v (pending w0.todo.items) t) → ¬ (w1.items.items ≡ []) → IsErrorOf (Failed TooDeep) e → StopsAt w0.left fs e old new
deep_by (Enter path level) t e old new before after w0 w1 next (f ∷ fs) a m h some says =
    let entered_so : WalksAt [] w1 next (entered (lists [] w0.left) path level (pending w0.todo.items) a.0) = rw a.1 at h in
    let plain = rw (append-nil (tasks_of false level path a.0)) at entered_so in
    rw m.0 (deep_in (nat_le (length a.0) w0.left) (tasks_of false level path a.0 ++ pending w0.todo.items) path level a.0 a.2.0 e old new w0.left w1 next fs refl a.2.1 m.1 (tasks_match level path a.0 (pending w0.todo.items) fs m.2) plain some says)
deep_by (ReadBucket path) t e old new before after w0 w1 next fs a m h some says = deep_behind (pending w0.todo.items) e old new w0.left w1 next fs a.1 m (rw a.0 at h) some says
deep_by v t e old new before after w0 w1 next fs a m h some says = absurd m

-- after a visit the walk has an item
pub stops_deep : (v : Visit) (t : PlainAnswer) (e : Error) (old new : Option (List LogItem)) (before after : List (List ℕ)) (w0 w1 : walks.Walk) (next : Option Visit) (fs : List Folder) → Answered v t old new before after → WalkStands (Some v) w0 fs → (Counts [] w0 → WalksAt [] w1 next (after_visit (walk_of [] w0) v (pending w0.todo.items) t)) → ¬ (w1.items.items ≡ []) → IsErrorOf (Failed TooDeep) e → StopsAt w0.left fs e old new
stops_deep v t e old new before after w0 w1 next fs a s h some says =
    deep_by v t e old new before after w0 w1 next fs a s.3 (subst (λ u. WalksAt [] w1 next (after_visit u v (pending w0.todo.items) t)) (lists_nothing w0 s.0 s.1) (h s.2)) some says

-- ---- the whole walk

pub stops_on : {next : Option Visit} {w : walks.Walk} {left : ℕ} {fs : List Folder} {old mid new : Option (List LogItem)} {before after : List (List ℕ)} (e : Error) → (g : GoesFrom left fs next w old mid before after) → StopsAt w.left g.rest e mid new → StopsAt left fs e old new
stops_on {old = old} {mid = mid} {new = new} e g s = (g.moves ++ s.0, gains_both old mid new g.moves s.0 g.gained s.1, g.stops s.0 e s.2)

-- a whole walk may still end out of memory
reads_stop : (left : ℕ) (fs : List Folder) (moves : Moves) → ReadsFolders fs moves → StopsWalk left fs moves OutOfMemory
reads_stop left [] [] r = tt
reads_stop left (f ∷ fs) (m ∷ moves) r = (r.0, r.1, r.2, inl (r.3.0, r.3.1, reads_stop (left - length r.3.0) (folders_in f r.3.0 ++ fs) moves r.3.2))
reads_stop left fs moves r = absurd r

pub stops_whole : (left : ℕ) (fs : List Folder) (files : List (List ℕ)) (old new : Option (List LogItem)) → (moves : Moves) × Gains old new moves × ReadsFolders fs moves × (files ≡ files_shown moves) → StopsAt left fs OutOfMemory old new
stops_whole left fs files old new whole = (whole.0, whole.1, reads_stop left fs whole.0 whole.2)

-- ---- errors

-- what holds of a value or an error, if something else holds of it
pub value_so : {X E : Type 0} {P Q : X → Type 0} (r : Result X E) → ((x : X) → P x → Q x) → IfOk r P → IfOk r Q
value_so (Ok x) f h = f x h
value_so (Err e) f h = h

pub error_so : {X E : Type 0} {P Q : E → Type 0} (r : Result X E) → ((e : E) → P e → Q e) → IfErr r P → IfErr r Q
error_so (Ok x) f h = h
error_so (Err e) f h = f e h

-- the error that `?` passes on
pub error_as : {X E : Type 0} (P : E → Type 0) (r : Result X E) (e : E) → IsErrAnd r (λ x. x ≡ e) → P e → IfErr r P
error_as P (Ok x) e same p = tt
error_as P (Err x) e same p = subst P (sym same) p

-- The state of a walk in the table of calls and between two visits, and what one visit adds.
use Rattle.std.specs.Prelude.{◌≡◌, ◌+◌, ◌≤◌, List, ◌++◌, Option, Some, None, Bool, true, false, Result, Ok, Err, length, map, reverse, ◌<◌, ◌*◌, ℕ, [], ◌∷◌}
use Rattle.cacache_core.specs.declared.errors.{Error.{Error}, Fault.TheVariants.{NotFound}}
use Rattle.cacache_calls.specs.{State.{State, Item, walking}, declared.visit.{Visit.{Visit, TheVariants.{Enter, ReadBucket, RemoveFile, RemoveFolder}}, Task.{Task, TheVariants.{Make, Stumble}}}, Walking.{most, walk_ends}, Runs.{plain_item, EndsAs, Moves, Gains, weight, weights}}
use Rattle.cacache_walks.specs.{declared.walk.Walk.{Walk}, Reading.{Folder, ReadsFolders, StopsWalk, names_shown, file_paths, files_shown}, Listing.{StopsAt}}
use Rattle.cacache_store.specs.{declared.store.{log.LogItem.{LogItem}, answer.{Name.{Name}, Answer.TheVariants.{Names, Failed}}, step.Step.TheVariants.{ReadDir}}, Plain.{PlainAnswer, plain_answer, Fits}}
use Rattle.cacache_calls.specs.State as states

-- ---- what a walk carries, in the table's terms

-- the tasks of a stack: the table has the next one first, the stack has it last
abbrev pub pending : List Task → List Task
pending stack = reverse stack

-- a walk from which these items were taken before
abbrev pub walk_of : List Item → Walk → states.Walk
walk_of taken w =
    record { clears = w.clears; items = taken ++ map plain_item w.items.items; left = w.left }

-- ---- the state of a walk

-- it knows how many items may still come
abbrev pub Counts : List Item → Walk → Type 0
Counts taken w = length taken + length w.items.items + w.room ≡ most

-- it collected at most the allowed number of items, and one more that says so
abbrev pub Bounds : List Item → Walk → Type 0
Bounds taken w = length taken + length w.items.items ≤ most + 1

-- its next step is that of this visit, or it is over
abbrev pub WalksAt : List Item → Walk → Option Visit → State → Type 0
WalksAt taken w (Some v) s =
    Counts taken w × (s ≡ walking (walk_of taken w) v (pending w.todo.items))
WalksAt taken w None s = Bounds taken w × (s ≡ walk_ends (walk_of taken w))

-- it goes on to this state, or an error ends it
abbrev pub WalkLeads : List Item → Result (Option Visit) Error → Walk → State → Type 0
WalkLeads taken (Ok next) w s = WalksAt taken w next s
WalkLeads taken (Err e) w s = EndsAs e s

-- it goes on in this way with more items; it ends if there are too many, or by an error
abbrev pub WalkGives : List Item → Result Bool Error → Walk → (states.Walk → State) → State → Type 0
WalkGives taken (Ok true) w next s = Counts taken w × (s ≡ next (walk_of taken w))
WalkGives taken (Ok false) w next s = Bounds taken w × (s ≡ walk_ends (walk_of taken w))
WalkGives taken (Err e) w next s = EndsAs e s

-- ---- what a part of it does, whatever was taken before

-- it goes on to this state, built from the old walk and its pending tasks
abbrev pub GoesOn :
    Walk → Walk → Result (Option Visit) Error → (states.Walk → List Task → State) → Type 0
GoesOn old new r next =
    (taken : List Item) → Counts taken old
    → WalkLeads taken r new (next (walk_of taken old) (pending old.todo.items))

-- it may go on with more items, and the table does the same, whatever the next state is
abbrev pub GivesOn :
    Walk → Walk → Result Bool Error → (states.Walk → (states.Walk → State) → State) → Type 0
GivesOn old new r gives =
    (taken : List Item) → Counts taken old → (next : states.Walk → State)
    → WalkGives taken r new next (gives (walk_of taken old) next)

-- ---- one visit

-- the log gained the step that reads this folder, with an answer that shows these names
pub record AnswerShows
    (t : PlainAnswer) (names : List Name) (path : List ℕ)
    (old new : Option (List LogItem)) : Type 0 where
  pub fits : Fits (ReadDir path) t
  pub shown : names_shown t ≡ Some names
  pub gained : Gains old new ((ReadDir path, t) ∷ [])

-- the answer to a visit: a folder is read, and its files are found; a file takes no step
abbrev pub Answered : Visit → PlainAnswer → Option (List LogItem) → Option (List LogItem)
    → List (List ℕ) → List (List ℕ) → Type 0
Answered (Enter path level) t old new before after =
    (names : List Name) × (t ≡ Names names)
    × ((shown : PlainAnswer) × AnswerShows shown names path old new)
    × (after ≡ before ++ file_paths path names)
Answered v t old new before after = (t ≡ Failed NotFound) × (new ≡ old) × (after ≡ before)

-- the same for an answer that holds plain files
abbrev pub AnsweredBy : Visit → PlainAnswer → Option (List LogItem) → Option (List LogItem)
    → List (List ℕ) → List (List ℕ) → Type 0
AnsweredBy v answer old new before after =
    Answered v (plain_answer (λ f. f) (λ t. t) answer) old new before after

-- this error ended the reading of the folder, wherever the walk was
abbrev pub StopsIn : List ℕ → Error
    → Option (List LogItem) → Option (List LogItem) → Type 0
StopsIn path e old new = (left level : ℕ) (todo : List Folder)
    → level ≤ 16 → StopsAt left (record { path = path; level = level } ∷ todo) e old new

-- this error ended a visit to a folder
abbrev pub StopsVisit : Visit → Error
    → Option (List LogItem) → Option (List LogItem) → Type 0
StopsVisit (Enter path level) e old new = StopsIn path e old new
StopsVisit v e old new = ⊥

-- ---- the whole walk

-- the tasks of a walk are these folders, and files; it stumbles over a folder that is too deep
abbrev pub Matches : List Task → List Folder → Type 0
Matches [] [] = Unit {0}
Matches [] (f ∷ fs) = ⊥
Matches (Make (Enter path level) ∷ todo) [] = ⊥
Matches (Make (Enter path level) ∷ todo) (f ∷ fs) =
    (f ≡ record { path = path; level = level }) × (level ≤ 16) × Matches todo fs
Matches (Make (ReadBucket path) ∷ todo) fs = Matches todo fs
Matches (Make (RemoveFile path) ∷ todo) fs = ⊥
Matches (Make (RemoveFolder path) ∷ todo) fs = ⊥
Matches (Stumble fault path ∷ todo) [] = ⊥
Matches (Stumble fault path ∷ todo) (f ∷ fs) = (16 < f.level) × Matches todo fs

-- its next step is that of this visit, before these folders; or it is over
abbrev pub WalkStands : Option Visit → Walk → List Folder → Type 0
WalkStands (Some v) w fs =
    (w.clears ≡ false) × (w.items.items ≡ []) × Counts [] w
    × Matches (Make v ∷ pending w.todo.items) fs
WalkStands None w fs = fs ≡ []

-- from these folders, with this many names left, the walk made moves and found the files that they show
pub record GoesFrom
    (left : ℕ) (fs : List Folder) (next : Option Visit) (w : Walk) (old new : Option (List LogItem))
    (before after : List (List ℕ)) : Type 0 where
  pub moves : Moves
  pub gained : Gains old new moves
  pub found : after ≡ before ++ files_shown moves
  pub rest : List Folder
  pub stands : WalkStands next w rest
  pub reads : (more : Moves) → ReadsFolders rest more → ReadsFolders fs (moves ++ more)
  pub stops : (more : Moves) (e : Error)
      → StopsWalk w.left rest more e → StopsWalk left fs (moves ++ more) e

-- the walk went on by this visit in that way, from any folders that were still to read
abbrev pub GoesOnBy : Visit → Walk → Option Visit → Walk
    → Option (List LogItem) → Option (List LogItem) → List (List ℕ) → List (List ℕ) → Type 0
GoesOnBy v was next w old new before after =
    (fs : List Folder) → WalkStands (Some v) was fs
    → GoesFrom was.left fs next w old new before after

-- how many steps may still come
abbrev pub steps_left : Option Visit → Walk → ℕ
steps_left (Some v) w = 2 * w.left + weight v + weights (pending w.todo.items)
steps_left None w = 0

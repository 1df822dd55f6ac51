-- Walks through folders: a listing reads each bucket, a clearing removes everything.
use Rattle.std.specs.{Prelude.{ℕ, ◌+◌, ◌-◌, ◌^◌, ◌==◌, List, [], ◌∷◌, ◌++◌, Ok, Err, Bool, true, false, if◌then◌else◌, nat_le, nat_lt, length, take, map, filter_map, option_map, bytes_eq}, List.{list_any}}
use Rattle.cacache_core.specs.{declared.errors.{Fault.{Fault}, Error.TheVariants.{IoError}}, Paths.{join}}
use Rattle.cacache_core.specs.declared.errors.Fault.TheVariants as faults
use Rattle.cacache_store.specs.{declared.store.answer.{Kind.{Kind}, Name.{Name}}, Plain.{PlainStep, PlainAnswer}}
use Rattle.cacache_store.specs.declared.store.answer.Kind.TheVariants as kinds
use Rattle.cacache_store.specs.declared.store.step.Step.TheVariants as steps
use Rattle.cacache_entry.specs.{Entry.{Entry}, Bucket.{entries_of, latest}}
use Rattle.cacache_calls.specs.{declared.{reply.Reply.TheVariants.{Listed, Done}, visit.{Visit.{Visit, TheVariants.{Enter, ReadBucket, RemoveFile, RemoveFolder}}, Task.{Task, TheVariants.{Make, Stumble}}}}, Answers.{done_in, bytes_in, names_in}, State.{State, walking, over, Item, Walk}, Common.{fails, go_on}}

-- the most names that a walk takes, and the most items that it returns
abbrev pub most : ℕ
most = 2 ^ 63

-- ---- what a bucket lists

-- each key once, at its last occurrence
abbrev pub once : List (List ℕ) → List (List ℕ)
once [] = []
once (k ∷ ks) = if list_any (bytes_eq k) ks then once ks else k ∷ once ks

-- each key whose lookup is Some
abbrev pub items_of : List Entry → List Item
items_of es = filter_map (λ key. option_map Ok (latest key es)) (once (map (λ e. e.key) es))

-- each key in a bucket's bytes whose lookup is Some
unfoldable pub items_in : List ℕ → List Item
items_in bytes = items_of (entries_of bytes)

-- ---- how a walk ends

-- a step of the walk failed
abbrev pub failed : Fault → Item
failed fault = Err (IoError fault [])

-- a clearing ends as `Done`, a listing with its items
abbrev pub walk_ends : Walk → State
walk_ends w = if w.clears then over Done else over (Listed w.items)

-- a walk past the limit ends; the last item of a listing reports it
abbrev pub too_many : Walk → State
too_many w =
    if w.clears then fails faults.TooDeep else over (Listed (w.items ++ failed faults.TooDeep ∷ []))

-- ---- how a walk goes on

-- the step of a visit
abbrev pub visit_step : Visit → PlainStep
visit_step (Enter p level) = steps.ReadDir p
visit_step (ReadBucket p) = steps.ReadAll p
visit_step (RemoveFile p) = steps.RemoveFile p
visit_step (RemoveFolder p) = steps.RemoveDir p

-- the walk goes on with more items, unless there are then too many
abbrev pub give : Walk → List Item → (Walk → State) → State
give w items next =
    if nat_le (length w.items + length items) most
    then next (record w { items = w.items ++ items })
    else too_many (record w { items = take most (w.items ++ items) })

-- a fault ends a clearing; a listing adds it as an item and goes on
abbrev pub miss : Walk → (Walk → State) → Fault → State
miss w next fault = if w.clears then fails fault else give w (failed fault ∷ []) next

-- the next task that needs a step
abbrev pub walk_on : List Task → Walk → State
walk_on [] w = walk_ends w
walk_on (Stumble fault path ∷ todo) w = miss w (walk_on todo) fault
walk_on (Make v ∷ todo) w = walking w v todo

-- ---- the tasks that a folder adds

-- the top folder is at level 0, and a walk doesn't enter folders past level 16
abbrev pub go_deeper : List ℕ → ℕ → Task
go_deeper p level =
    if nat_lt level 16 then Make (Enter p (level + 1)) else Stumble faults.TooDeep p

-- a file in the top folder ends a clearing with a fault
abbrev pub task_for_name : Bool → ℕ → List ℕ → Kind → Task
task_for_name clears level p kinds.Folder = go_deeper p level
task_for_name false level p kinds.File = Make (ReadBucket p)
task_for_name false level p kinds.Link = Make (ReadBucket p)
task_for_name true level p kinds.File =
    if level == 0 then Stumble faults.NotADirectory p else Make (RemoveFile p)
task_for_name true level p kinds.Link = Make (RemoveFile p)

-- the tasks that a folder's names add, one for each name
abbrev pub tasks_of : Bool → ℕ → List ℕ → List Name → List Task
tasks_of clears level p [] = []
tasks_of clears level p (n ∷ ns) =
    task_for_name clears level (join p n.name) n.kind ∷ tasks_of clears level p ns

-- a clearing removes each folder except the top one, once it is empty
abbrev pub leaving : Bool → ℕ → List ℕ → List Task
leaving clears level p =
    if clears then (if level == 0 then [] else Make (RemoveFolder p) ∷ []) else []

-- P holds of each visit among the tasks
abbrev pub EachVisit : (Visit → Type 0) → List Task → Type 0
EachVisit V [] = Unit {0}
EachVisit V (Make v ∷ todo) = V v × EachVisit V todo
EachVisit V (Stumble fault path ∷ todo) = EachVisit V todo

-- ---- after a step

-- the tasks of a folder come before those that were left
abbrev pub entered : Walk → List ℕ → ℕ → List Task → List Name → State
entered w p level todo names =
    let tasks = tasks_of w.clears level p names ++ leaving w.clears level p ++ todo in
    if nat_le (length names) w.left
    then walk_on tasks (record w { left = w.left - length names })
    else too_many w

-- a bucket that doesn't exist counts as an empty one
abbrev pub unread_bucket : Walk → List Task → Fault → State
unread_bucket w todo faults.NotFound = walk_on todo w
unread_bucket w todo fault = miss w (walk_on todo) fault

-- the items of a bucket join the list, and the walk goes on
abbrev pub listed : Walk → List Task → List ℕ → State
listed w todo bytes = give w (items_in bytes) (walk_on todo)

-- the next state after the answer to a visit
abbrev pub after_visit : Walk → Visit → List Task → PlainAnswer → State
after_visit w (Enter p level) todo t =
    go_on (names_in t) (miss w (walk_on todo)) (entered w p level todo)
after_visit w (ReadBucket p) todo t =
    go_on (bytes_in t) (unread_bucket w todo) (listed w todo)
after_visit w (RemoveFile p) todo t =
    go_on (done_in t) (miss w (walk_on todo)) (λ _. walk_on todo w)
after_visit w (RemoveFolder p) todo t =
    go_on (done_in t) (miss w (walk_on todo)) (λ _. walk_on todo w)

-- ---- first states

-- a walk begins at its top folder
abbrev pub walk : Bool → List ℕ → State
walk clears top = walking (record { clears = clears; items = []; left = most }) (Enter top 0) []

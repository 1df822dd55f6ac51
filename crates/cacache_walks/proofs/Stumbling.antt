-- A walk that met something too deep has items; a walk without items leads on to its first task.
use Rattle.std.proofs.{Common.{◌≡◌, ◌+◌, ◌<◌, ℕ, List, [], ◌∷◌, ◌++◌, Bool, true, false, cond, nat_le, Option, None, Some, inl, inr, ◌⊎◌, refl, sym, ap, subst, ◌∙◌, length, map, take, arith, length-append}, lemmas.List.Elements.{Contains-push, Contains-append_left}}
use Rattle.cacache_core.specs.declared.errors.{Error.{Error}, Fault.{Fault}}
use Rattle.cacache_calls.specs.{declared.{reply.Reply.TheVariants.{Listed, Done}, visit.{Task.{Task, TheVariants.{Make, Stumble}}, Visit.{Visit}}}, State.{State, Item, walking, over, Walk}, Walking.{failed, walk_on, too_many, most}, Runs.{Moves, plain_item}}
use Rattle.cacache_walks.specs.declared.walk.Walk as walks
use Rattle.cacache_walks.specs.{WalkStates.{WalksAt, pending, walk_of, Matches, WalkStands}, Reading.{Folder, HasDeeper, StopsWalk}}

abbrev pub items_at : State → List Item
items_at (walking w v todo) = w.items
items_at (over (Listed items)) = items
items_at other = []

abbrev pub clears_at : State → Bool
clears_at (walking w v todo) = w.clears
clears_at other = false

abbrev pub lists : List Item → ℕ → Walk
lists items left = record { clears = false; items = items; left = left }

more_items : (items : List Item) (x : Item) → 0 < length (items ++ x ∷ [])
more_items items x = let l : length (items ++ x ∷ []) ≡ length items + 1 = length-append items (x ∷ []) in omega (arith, l)

given : (b : Bool) (next : Walk → State) (items : List Item) (x : Item) (left : ℕ) → 0 < length (items_at (next (lists (items ++ x ∷ []) left))) → 0 < length (items_at (cond b (next (lists (items ++ x ∷ []) left)) (too_many (lists (take most (items ++ x ∷ [])) left))))
given true next items x left some = some
given false next items x left some = more_items (take most (items ++ x ∷ [])) _

-- a walk that goes on with items still has items afterwards
stuck : (todo : List Task) (items : List Item) (left : ℕ) → 0 < length items → 0 < length (items_at (walk_on todo (lists items left)))
stuck (Stumble fault path ∷ todo) items left some =
    given (nat_le (length items + length (failed fault ∷ [])) most) (walk_on todo) items (failed fault) left
    (stuck todo (items ++ failed fault ∷ []) left (more_items items (failed fault)))
stuck todo items left some = some

-- a walk that stumbles first has items afterwards
stumbles : (todo : List Task) (fault : Fault) (path : List ℕ) (left : ℕ) → 0 < length (items_at (walk_on (Stumble fault path ∷ todo) (lists [] left)))
stumbles todo fault path left =
    given (nat_le (length (failed fault ∷ [])) most) (walk_on todo) [] (failed fault) left (stuck todo (failed fault ∷ []) left (more_items [] (failed fault)))

pub none_at : (items : List Item) → items ≡ [] → 0 < length items → ⊥
none_at items e some = let l : length items ≡ 0 = ap length e in omega (arith, l, some)

ends_empty : (clears : Bool) (items : List Item) → items ≡ [] → items_at (cond clears (over Done) (over (Listed items))) ≡ []
ends_empty true items e = refl
ends_empty false items e = e

-- a walk that has collected nothing is in a state without items
pub no_items : (w : walks.Walk) (next : Option Visit) (s : State) → w.items.items ≡ [] → WalksAt [] w next s → items_at s ≡ []
no_items w (Some v) s none h = rw (h.1, none) refl
no_items w None s none h = ap items_at h.1 ∙ ends_empty w.clears (map plain_item w.items.items) (rw none refl)

not_over : (clears : Bool) (w : Walk) (v : Visit) (todo : List Task) (items : List Item) → walking w v todo ≡ cond clears (over Done) (over (Listed items)) → ⊥
not_over true w v todo items e = absurd cc
not_over false w v todo items e = absurd cc

-- ---- from its tasks the walk goes on to the first

pub led : (tasks : List Task) (left : ℕ) (w : walks.Walk) (next : Option Visit) (fs : List Folder) → w.items.items ≡ [] → Matches tasks fs → WalksAt [] w next (walk_on tasks (lists [] left)) → WalkStands next w fs
led [] left w None [] none m h = refl
led [] left w None (f ∷ fs) none m h = absurd m
led [] left w (Some v) fs none m h = absurd (let e = h.1 in cc)
led (Make x ∷ todo) left w (Some v) fs none m h =
    let e : walking (lists [] left) x todo ≡ walking (walk_of [] w) v (pending w.todo.items) = h.1 in
    let clears : w.clears ≡ false = sym (ap clears_at e) in
    let same : x ≡ v = cc in
    let rest : todo ≡ pending w.todo.items = cc in
    (clears, none, h.0, subst (λ y. Matches (Make y ∷ pending w.todo.items) fs) same (subst (λ ts. Matches (Make x ∷ ts) fs) rest m))
led (Make x ∷ todo) left w None fs none m h = absurd (not_over w.clears (lists [] left) x todo (map plain_item w.items.items) h.1)
led (Stumble fault path ∷ todo) left w next fs none m h = absurd (none_at (items_at (walk_on (Stumble fault path ∷ todo) (lists [] left))) (no_items w next _ none h) (stumbles todo fault path left))

-- ---- how many names may still come

abbrev left_at : State → ℕ
left_at (walking w v todo) = w.left
left_at other = 0

none_left : (n k : ℕ) (moves : Moves) (e : Error) → StopsWalk n [] moves e → StopsWalk k [] moves e
none_left n k [] e s = s
none_left n k (m ∷ moves) e s = absurd s

pub at_most : (x y : Visit) (todo more : List Task) (left : ℕ) (w : walks.Walk) (fs : List Folder) (moves : Moves) (e : Error) → walking (lists [] left) x todo ≡ walking (walk_of [] w) y more → StopsWalk w.left fs moves e → StopsWalk left fs moves e
at_most x y todo more left w fs moves e is s = subst (λ (n : ℕ). StopsWalk n fs moves e) (sym (ap left_at is)) s

-- the walk goes on with these names
pub same_left : (tasks : List Task) (left : ℕ) (w : walks.Walk) (next : Option Visit) (fs : List Folder) → w.items.items ≡ [] → Matches tasks fs → WalksAt [] w next (walk_on tasks (lists [] left)) → (moves : Moves) (e : Error) → StopsWalk w.left fs moves e → StopsWalk left fs moves e
same_left [] left w next [] none m h moves e s = none_left w.left left moves e s
same_left [] left w next (f ∷ fs) none m h moves e s = absurd m
same_left (Make x ∷ todo) left w (Some v) fs none m h moves e s = at_most x v todo (pending w.todo.items) left w fs moves e h.1 s
same_left (Make x ∷ todo) left w None fs none m h moves e s = absurd (not_over w.clears (lists [] left) x todo (map plain_item w.items.items) h.1)
same_left (Stumble fault path ∷ todo) left w next fs none m h moves e s = absurd (none_at (items_at (walk_on (Stumble fault path ∷ todo) (lists [] left))) (no_items w next _ none h) (stumbles todo fault path left))

-- ---- the walk has items only if a folder is too deep

none_mapped : (items : List Item) → [] ≡ map plain_item items → items ≡ []
none_mapped [] e = refl
none_mapped (x ∷ items) e = absurd cc

ended_empty : (clears : Bool) (items : List Item) → over (Listed []) ≡ cond clears (over Done) (over (Listed (map plain_item items))) → items ≡ []
ended_empty true items e = absurd cc
ended_empty false items e = none_mapped items (ap items_at e)

pub deeper_or_none : (tasks : List Task) (left : ℕ) (w : walks.Walk) (next : Option Visit) (fs : List Folder) → Matches tasks fs → WalksAt [] w next (walk_on tasks (lists [] left)) → HasDeeper fs ⊎ (w.items.items ≡ [])
deeper_or_none [] left w None [] m h = inr (ended_empty w.clears w.items.items h.1)
deeper_or_none [] left w (Some v) [] m h = absurd (let e = h.1 in cc)
deeper_or_none (Make x ∷ todo) left w (Some v) fs m h = inr (none_mapped w.items.items (ap items_at h.1))
deeper_or_none (Make x ∷ todo) left w None fs m h = absurd (not_over w.clears (lists [] left) x todo (map plain_item w.items.items) h.1)
deeper_or_none (Stumble fault path ∷ todo) left w next (f ∷ fs) m h = inl (f, Contains-append_left (f ∷ []) fs f (Contains-push [] f), m.0)
deeper_or_none tasks left w next fs m h = absurd m

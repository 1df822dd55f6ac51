-- How the stack of a walk represents the table's list of tasks, how its items grow, and a whole walk, visit by visit.
use Rattle.std.proofs.{Common.{◌≡◌, List, [], ◌∷◌, ◌++◌, map, sym, ◌∙◌, ap, append_assoc, ℕ, ◌+◌, ◌<◌, Bool, Ok, true, false, nat_le, refl, length, take, length-append, arith, Option, None, Some, subst, append-nil}, lemmas.{List.{map-append, reverse-append, take-map, length-map}, Bool.{lt-leb}, Grind.{flat_map-append}}, Math.Seq.{take-append-add}}
use Rattle.cacache_calls.specs.{State.{Item, State, Walk, walking}, Runs.{plain_item, Moves, Gains}, declared.visit.{Task.{Task, TheVariants.{Stumble, Make}}, Visit.{Visit, TheVariants.{Enter}}}, Walking.{most, give, miss, too_many, walk_on, walk_ends, walk}}
use Rattle.cacache_walks.specs.{WalkStates.{pending, Counts, Bounds, WalkGives, walk_of, WalksAt, Matches, GoesFrom}, Reading.{Folder, ReadsFolders, files_shown, shown_by, top_folder, StopsWalk}}
use Rattle.cacache_walks.proofs.{Stumbling.{at_most, clears_at, lists}, VisitSteps.{unmoved}}
use Rattle.cacache_core.specs.declared.errors.Fault.{Fault}
use Rattle.cacache_store.specs.{declared.store.log.LogItem.{LogItem, TheVariants.{Made}}, Plain.{PlainStep, PlainAnswer}}
use Rattle.cacache_walks.specs.declared.walk.Walk as walks

-- a task that is put on the stack comes first
pub pending_push : (stack : List Task) (t : Task) → pending (stack ++ t ∷ []) ≡ t ∷ pending stack
pending_push stack t = reverse-append stack (t ∷ [])

-- more items come after those that were already there
pub taken_more : (taken xs ys : List Item) → taken ++ map plain_item (xs ++ ys) ≡ (taken ++ map plain_item xs) ++ map plain_item ys
taken_more taken xs ys =
    ap (λ (zs : List Item). taken ++ zs) (map-append plain_item xs ys) ∙ sym (append_assoc taken (map plain_item xs) (map plain_item ys))

-- ---- how a walk goes on with more items, and which names it stumbles over

module _ (taken xs ys : List Item) (room : ℕ) (counts : length taken + length xs + room ≡ most) (over : room < length ys) where
  abbrev before : List Item
  before = taken ++ map plain_item xs

  length_before : length before ≡ length taken + length xs
  length_before = length-append taken (map plain_item xs) ∙ ap (λ n. length taken + n) (length-map xs plain_item)

  too_long : nat_le (length before + length (map plain_item ys)) most ≡ false
  too_long =
      rw (length_before, length-map ys plain_item) (lt-leb (length taken + length xs + length ys) most (omega (arith, counts, over)))

  kept : take most (before ++ map plain_item ys) ≡ taken ++ map plain_item (xs ++ take room ys)
  kept =
      let at : length before + room ≡ most = ap (λ n. n + room) length_before ∙ counts in
      ap (λ n. take n (before ++ map plain_item ys)) (sym at)
      ∙ take-append-add before (map plain_item ys) room
      ∙ ap (λ zs. before ++ zs) (take-map plain_item room ys)
      ∙ sym (taken_more taken xs (take room ys))

  pub given_over : (clears : Bool) (left : ℕ) (next : Walk → State) → give (record { clears = clears; items = before; left = left }) (map plain_item ys) next ≡ too_many (record { clears = clears; items = taken ++ map plain_item (xs ++ take room ys); left = left })
  given_over clears left next = rw (too_long, kept) refl

-- a stumble that comes next is missed
pub stumbled : (taken : List Item) (w : walks.Walk) (rest : List Task) (fault : Fault) (path : List ℕ) → w.todo.items ≡ rest ++ Stumble fault path ∷ [] → walk_on (pending w.todo.items) (walk_of taken w) ≡ miss (walk_of taken w) (walk_on (pending rest)) fault
stumbled taken w rest fault path e = rw (e, pending_push rest (Stumble fault path)) refl

-- a walk that can't go on is over
pub gave_no : (taken : List Item) (w : walks.Walk) (next : Walk → State) (s : State) (b : Bool) → b ≡ false → WalkGives taken (Ok b) w next s → Bounds taken w × (s ≡ walk_ends (walk_of taken w))
gave_no taken w next s false e h = h
gave_no taken w next s true e h = absurd cc

-- a walk that can go on knows how many items may still come
pub gave_yes : (taken : List Item) (w : walks.Walk) (next : Walk → State) (s : State) (b : Bool) → b ≡ true → WalkGives taken (Ok b) w next s → Counts taken w × (s ≡ next (walk_of taken w))
gave_yes taken w next s true e h = h
gave_yes taken w next s false e h = absurd cc

-- ---- the whole walk

-- one walk after another
pub gains_both : (old mid new : Option (List LogItem)) (ms ns : Moves) → Gains old mid ms → Gains mid new ns → Gains old new (ms ++ ns)
gains_both None mid new ms ns a b = rw a at b
gains_both (Some log) mid new ms ns a b =
    let made : PlainStep × PlainAnswer → LogItem = λ m. Made m.0 m.1 in
    (rw a at b) ∙ ap Some (append_assoc log (map made ms) (map made ns) ∙ ap (λ more. log ++ more) (sym (map-append made ms ns)))

pub goes_on : {n1 n2 : Option Visit} {w1 w2 : walks.Walk} {left : ℕ} {fs : List Folder} {old mid new : Option (List LogItem)} {before between after : List (List ℕ)} → (g : GoesFrom left fs n1 w1 old mid before between) → GoesFrom w1.left g.rest n2 w2 mid new between after → GoesFrom left fs n2 w2 old new before after
goes_on {left = left} {fs = fs} {old = old} {mid = mid} {new = new} {before = before} g h = record {
  moves = g.moves ++ h.moves;
  gained = gains_both old mid new g.moves h.moves g.gained h.gained;
  found = h.found ∙ ap (λ l. l ++ files_shown h.moves) g.found ∙ append_assoc before (files_shown g.moves) (files_shown h.moves) ∙ ap (λ l. before ++ l) (sym (flat_map-append (λ m. shown_by m.0 m.1) g.moves h.moves));
  rest = h.rest;
  stands = h.stands;
  reads = λ more r. subst (ReadsFolders fs) (sym (append_assoc g.moves h.moves more)) (g.reads (h.moves ++ more) (h.reads more r));
  stops = λ more e s. subst (λ (ms : Moves). StopsWalk left fs ms e) (sym (append_assoc g.moves h.moves more)) (g.stops (h.moves ++ more) e (h.stops more e s));
}

-- a walk begins before its folder
pub begins : (w : walks.Walk) (v : Visit) (top : List ℕ) (log : Option (List LogItem)) → w.items.items ≡ [] → WalksAt [] w (Some v) (walk false top) → GoesFrom most (top_folder top ∷ []) (Some v) w log log [] []
begins w v top log none h =
    let e : walking (lists [] most) (Enter top 0) [] ≡ walking (walk_of [] w) v (pending w.todo.items) = h.1 in
    let clears : w.clears ≡ false = sym (ap clears_at e) in
    let same : Enter top 0 ≡ v = cc in
    let rest : [] ≡ pending w.todo.items = cc in
    record {
      moves = [];
      gained = unmoved log log refl;
      found = refl;
      rest = top_folder top ∷ [];
      stands = (clears, none, h.0, subst (λ y. Matches (Make y ∷ pending w.todo.items) (top_folder top ∷ [])) same (subst (λ ts. Matches (Make (Enter top 0) ∷ ts) (top_folder top ∷ [])) rest (refl, omega arith, tt)));
      reads = λ more r. r;
      stops = λ more f s. at_most (Enter top 0) v [] (pending w.todo.items) most w (top_folder top ∷ []) more f e s;
    }

-- a walk is over when no folder is left
pub ended : (next : Option Visit) (w : walks.Walk) (top : List ℕ) (old new : Option (List LogItem)) (files : List (List ℕ)) → next ≡ None → GoesFrom most (top_folder top ∷ []) next w old new [] files → (moves : Moves) × Gains old new moves × ReadsFolders (top_folder top ∷ []) moves × (files ≡ files_shown moves)
ended next w top old new files is g =
    let none : g.rest ≡ [] = rw is at g.stands in
    (g.moves, g.gained, subst (ReadsFolders (top_folder top ∷ [])) (append-nil g.moves) (g.reads [] (rw none tt)), g.found)

-- The state of a listing after a visit, and after it returned an item.
use Rattle.std.proofs.{Common.{◌≡◌, inr, ℕ, ◌+◌, ◌<◌, ◌≤◌, List, [], ◌∷◌, ◌++◌, map, reverse, Option, Some, None, Ok, Err, refl, sym, ◌∙◌, ap, append_assoc, append-nil, length, length-append, arith}, lemmas.List.{length-map, reverse-append, reverse-reverse}}
use Rattle.cacache_core.specs.declared.errors.Error.TheVariants.{OutOfMemory}
use Rattle.cacache_store.specs.declared.{env.Env.{Env}, store.log.LogItem.{LogItem}}
use Rattle.cacache_calls.specs.{declared.{reply.Reply.TheVariants.{Refused}, visit.Visit.{Visit}}, State.{Item}, Runs.{Ran, plain_item}}
use Rattle.cacache_walks.specs.{declared.{walk.Walk.{Walk}, iterator.Ls.{Ls}}, WalkStates.{walk_of}, Iterating.{KeepsEnv, Lists, listing_state, ready, StandsBy, Gave, steps_left, items_left, left}}
use Rattle.cacache_walks.proofs.VisitAnswers.{Stepped}

module _ {S C N : Type 0} (log : S → Option (List LogItem)) (cache : List ℕ) (old : Option (List LogItem)) where
  -- the items of a walk became ready
  module _ (after : Ls S C N) (w : Walk) (items : List Item) (is_ready : after.ready.items ≡ reverse w.items.items) (none : after.walk.items.items ≡ []) (clears : after.walk.clears ≡ w.clears) (names : after.walk.left ≡ w.left) (room : after.walk.room ≡ w.room) (todo : after.walk.todo ≡ w.todo) where
    ready_now : ready log after ≡ map plain_item w.items.items
    ready_now = ap (map plain_item) (ap reverse is_ready ∙ reverse-reverse w.items.items)

    same_walk : walk_of (items ++ ready log after) after.walk ≡ walk_of items w
    same_walk = rw (ready_now, none, clears, names, append-nil) refl

    same_count : length (items ++ ready log after) + length after.walk.items.items + after.walk.room ≡ length items + length w.items.items + w.room
    same_count =
        let a : length (items ++ ready log after) ≡ length items + length w.items.items = ap (λ (xs : List Item). length (items ++ xs)) ready_now ∙ length-append items (map plain_item w.items.items) ∙ ap (λ n. length items + n) (length-map w.items.items plain_item) in
        let b : length after.walk.items.items ≡ 0 = ap length none in
        omega (arith, a, b, room)

    pub readied : (next : Option Visit) → Stepped cache old (log after.env.now.store) items (Ok next) w → StandsBy log next cache old after (items ++ ready log after)
    readied None h = rw ready_now h.0
    readied (Some v) h = (h.0, h.1, none, (same_count ∙ h.2.0, rw (same_walk, todo) h.2.1))

  -- the same visit comes next
  pub stands_at : (after : Ls S C N) (v u : Option Visit) (items others : List Item) → v ≡ u → items ≡ others → StandsBy log u cache old after others → StandsBy log v cache old after items
  stands_at after v u items others e f h = rw (e, f) h

  -- the state stays the same if only the ready items changed
  pub stands_as : (before after : Ls S C N) (v : Option Visit) (items : List Item) → after.env.now.store ≡ before.env.now.store → after.walk ≡ before.walk → StandsBy log v cache old before items → StandsBy log v cache old after items
  stands_as before after None items store walk h = rw store h
  stands_as before after (Some v) items store walk h = rw (store, walk) h

  -- a ready item is returned
  pub given_one : (before after : Ls S C N) (given : List Item) (x : Item) → after.env.now.store ≡ before.env.now.store → after.walk ≡ before.walk → after.visit ≡ before.visit → before.ready.items ≡ after.ready.items ++ x ∷ [] → Gave log cache old before given → Gave log cache old after (given ++ plain_item x ∷ [])
  given_one before after given x store walk visit is h =
      let rest : ready log before ≡ plain_item x ∷ ready log after = ap (map plain_item) (ap reverse is ∙ reverse-append after.ready.items (x ∷ [])) in
      let all : given ++ ready log before ≡ (given ++ plain_item x ∷ []) ++ ready log after = ap (λ (xs : List Item). given ++ xs) rest ∙ sym (append_assoc given (plain_item x ∷ []) (ready log after)) in
      stands_at after after.visit before.visit ((given ++ plain_item x ∷ []) ++ ready log after) (given ++ ready log before) visit (sym all) (stands_as before after before.visit (given ++ ready log before) store walk h)

  -- out of memory is the last item
  pub given_last : (after : Ls S C N) (given : List Item) → after.visit ≡ None → after.ready.items ≡ [] → Ran (listing_state cache) (Refused OutOfMemory) old (log after.env.now.store) → Gave log cache old after (given ++ Err OutOfMemory ∷ [])
  given_last after given visit none ran =
      let all : (given ++ Err OutOfMemory ∷ []) ++ ready log after ≡ given ++ Err OutOfMemory ∷ [] = rw none (append-nil (given ++ Err OutOfMemory ∷ [])) in
      stands_at after after.visit None ((given ++ Err OutOfMemory ∷ []) ++ ready log after) (given ++ Err OutOfMemory ∷ []) visit all (inr (given, refl, ran))

  -- if the ready items stay, the listing has returned the same items
  pub same_gave : (before after : Ls S C N) (given : List Item) → after.env.now.store ≡ before.env.now.store → after.walk ≡ before.walk → after.visit ≡ before.visit → after.ready.items ≡ before.ready.items → Gave log cache old before given → Gave log cache old after given
  same_gave before after given store walk visit items h =
      let all : given ++ ready log after ≡ given ++ ready log before = ap (λ xs. given ++ map plain_item (reverse xs)) items in
      stands_at after after.visit before.visit (given ++ ready log after) (given ++ ready log before) visit all (stands_as before after before.visit (given ++ ready log before) store walk h)

  -- no item is ready
  none_ready : (ls : Ls S C N) (given : List Item) → ls.ready.items ≡ [] → given ++ ready log ls ≡ given
  none_ready ls given none = ap (λ xs. given ++ map plain_item (reverse xs)) none ∙ append-nil given

  -- all items have been returned
  pub all_given : (ls : Ls S C N) (given : List Item) → ls.visit ≡ None → ls.ready.items ≡ [] → Gave log cache old ls given → Lists cache given old (log ls.env.now.store)
  all_given ls given over none h = stands_at ls None ls.visit given (given ++ ready log ls) (sym over) (sym (none_ready ls given none)) h

  -- its next step is that of its visit
  pub wants_step : (ls : Ls S C N) (v : Visit) (items : List Item) → ls.visit ≡ Some v → StandsBy log ls.visit cache old ls items → StandsBy log (Some v) cache old ls items
  wants_step ls v items is h = stands_at ls (Some v) ls.visit items items (sym is) refl h

  -- a visit without ready items leaves the returned items as they were
  pub gave_next : (before after : Ls S C N) (v : Visit) (given : List Item) → before.ready.items ≡ [] → before.visit ≡ Some v → ((items : List Item) → StandsBy log (Some v) cache old before items → StandsBy log after.visit cache old after (items ++ ready log after)) → Gave log cache old before given → Gave log cache old after given
  gave_next before after v given none is went h = went given (stands_at before (Some v) before.visit given (given ++ ready log before) (sym is) (sym (none_ready before given none)) h)

-- ---- the environment of a listing

-- one visit after another keeps the environment
pub keeps_on : {S C N : Type 0} (one two three : Ls S C N) → KeepsEnv one two → KeepsEnv two three → KeepsEnv one three
keeps_on {S} {C} {N} one two three x y =
    (y.0 ∙ x.0, y.1 ∙ ap (λ (env : Env S C N). record env { store = three.env.now.store }) x.1)

-- ---- how much is left

-- what is left is computed from the walk's own counts
pub fewer_steps_as : (next : Option Visit) (w u : Walk) (n : ℕ) → u.left ≡ w.left → u.todo ≡ w.todo → steps_left next w < n → steps_left next u < n
fewer_steps_as None w u n left todo h = h
fewer_steps_as (Some v) w u n left todo h = rw (left, todo) h

pub fewer_items_as : (next : Option Visit) (w u : Walk) (count n : ℕ) → u.room ≡ w.room → count ≡ length w.items.items → length w.items.items + items_left next w ≤ n → count + items_left next u ≤ n
fewer_items_as None w u count n room e h = rw e h
fewer_items_as (Some v) w u count n room e h = rw (e, room) h

pub fewer_steps_than : (v : Visit) (visit : Option Visit) (w : Walk) (n : ℕ) → visit ≡ Some v → n < steps_left (Some v) w → n < steps_left visit w
fewer_steps_than v visit w n is h = rw is h

module _ {S C N : Type 0} where
  pub fewer_by : (before : Ls S C N) (v : Visit) (n bound : ℕ) → before.visit ≡ Some v → n ≤ items_left (Some v) before.walk → left before ≤ bound → n ≤ bound
  fewer_by before v n bound is below rest =
      let same : items_left before.visit before.walk ≡ items_left (Some v) before.walk = ap (λ o. items_left o before.walk) is in
      omega (arith, same, below, rest)

  pub given_fewer : (before after : Ls S C N) (x : Item) (bound : ℕ) → after.walk ≡ before.walk → after.visit ≡ before.visit → before.ready.items ≡ after.ready.items ++ x ∷ [] → left before ≤ bound → left after < bound
  given_fewer before after x bound walk visit is h =
      let a : length before.ready.items ≡ length after.ready.items + 1 = ap length is ∙ length-append after.ready.items (x ∷ []) in
      let b : items_left after.visit after.walk ≡ items_left before.visit before.walk = rw (visit, walk) refl in
      omega (arith, a, b, h)

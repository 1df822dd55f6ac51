-- The state to which the answer to a visit's step takes a listing.
use Rattle.std.proofs.Common.{◌≡◌, inl, inr, ℕ, ◌+◌, ◌<◌, ◌≤◌, List, [], ◌++◌, map, Option, Some, None, Bool, true, false, cond, Result, Ok, Err, refl, ap, length, arith}
use Rattle.cacache_core.specs.declared.errors.Error.{Error, TheVariants.{OutOfMemory}}
use Rattle.cacache_store.specs.{declared.store.log.LogItem.{LogItem}, Plain.{PlainStep, PlainAnswer, Fits, Logs}}
use Rattle.cacache_calls.specs.declared.command.Command.TheVariants as commands
use Rattle.cacache_calls.specs.{declared.{reply.Reply.TheVariants.{Listed, Done, Refused}, visit.Visit.{Visit}}, State.{State, Item, Site, over}, Table.{wants, after}, Runs.{Gone, Ran, EndsAs, plain_item, without_message, effort}, Walking.{visit_step, walk_ends, most}}
use Rattle.cacache_calls.proofs.{Effort.{falls}, Going.{answer_cases, gone_on, gone_over, gone_lost, unmoved, no_memory_after, memory_said}, ListReplies.{lists_shown}, Promises.{calls_answer}}
use Rattle.cacache_walks.specs.{declared.walk.Walk.{Walk}, WalkStates.{Bounds, WalksAt, WalkLeads, walk_of}, Iterating.{Lists, listing_state, steps_left, items_left}}

module _ (cache : List ℕ) (old new : Option (List LogItem)) where
  abbrev site : Site
  site = record { cache = cache; base = []; number = 0 }

  -- the state of a listing that went on in this way
  abbrev pub Stepped : List Item → Result (Option Visit) Error → Walk → Type 0
  Stepped items (Ok (Some v)) w = (s : State) × Gone (listing_state cache) s old new × WalksAt items w (Some v) s
  Stepped items (Ok None) w = Lists cache (items ++ map plain_item w.items.items) old new × Bounds items w
  Stepped items (Err e) w = (e ≡ OutOfMemory) × Ran (listing_state cache) (Refused OutOfMemory) old new

  -- a listing that is over answers its items
  whole : (clears : Bool) (items : List Item) (left : ℕ) → Gone (listing_state cache) (walk_ends (record { clears = clears; items = items; left = left })) old new → Lists cache items old new
  whole true items left g = let r = gone_over (listing_state cache) old new Done g in absurd (calls_answer site commands.Ls r.0 Done r.1)
  whole false items left g = inl (gone_over (listing_state cache) old new (Listed items) g)

  -- it is refused only out of memory
  refused : (e : Error) (s : State) → Gone (listing_state cache) s old new → EndsAs e s → (e ≡ OutOfMemory) × Ran (listing_state cache) (Refused OutOfMemory) old new
  refused e s g (inr m) = (m, gone_lost (listing_state cache) s old new g)
  refused e s g (inl is) =
      let r = gone_over (listing_state cache) old new (Refused (without_message e)) (rw is at g) in
      (memory_said e (ap Refused (lists_shown site r.0 (Refused (without_message e)) r.1)), gone_lost (listing_state cache) s old new g)

  stepped : (items : List Item) (result : Result (Option Visit) Error) (w : Walk) (s : State) → Gone (listing_state cache) s old new → WalkLeads items result w s → Stepped items result w
  stepped items (Ok (Some v)) w s g h = (s, g, h)
  stepped items (Ok None) w s g h = (whole w.clears _ w.left (rw h.1 at g), h.0)
  stepped items (Err e) w s g h = refused e s g h

-- memory was refused for the step: nothing goes on from there
lost : (cache : List ℕ) (old new : Option (List LogItem)) (items : List Item) (result : Result (Option Visit) Error) (w : Walk) → Ran (listing_state cache) (Refused OutOfMemory) old new → WalkLeads items result w (over (Refused OutOfMemory)) → Stepped cache old new items result w
lost cache old new items (Ok (Some v)) w run h = absurd (let wrong = h.1 in cc)
lost cache old new items (Ok None) w run h = absurd (by_test w.clears h.1)
  where
    by_test : (clears : Bool) → over (Refused OutOfMemory) ≡ cond clears (over Done) (over (Listed (walk_of items w).items)) → ⊥
    by_test true e = cc
    by_test false e = cc
lost cache old new items (Err e) w run (inl said) = (memory_said e (let same : over (Refused OutOfMemory) ≡ over (Refused (without_message e)) = said in cc), run)
lost cache old new items (Err e) w run (inr m) = (m, run)

module _ (cache : List ℕ) (old mid new : Option (List LogItem)) (items : List Item) (v : Visit) (w0 w1 : Walk) (s : State) (a : PlainStep) (t : PlainAnswer) (gone : Gone (listing_state cache) s old mid) (stands : WalksAt items w0 (Some v) s) (is : a ≡ visit_step v) (fits : Fits a t) (logs : Logs mid new a t) where
  wanted : wants s ≡ Some a
  wanted = rw (stands.1, is) refl

  -- the answer of the walk takes the listing on
  pub visited : (result : Result (Option Visit) Error) → WalkLeads items result w1 (after s t) → Stepped cache old new items result w1
  visited result leads =
      elim (answer_cases t) [
        | inl p ↦ lost cache old new items result w1 (rw (unmoved mid new a p.0 t p.1 logs) (gone_lost (listing_state cache) s old mid gone)) (rw (p.1, no_memory_after s a p.0 wanted) at leads)
        | inr n ↦ stepped cache old new items result w1 (after s t) (gone_on (listing_state cache) s old mid new a t gone wanted fits logs n) leads
      ]

  -- fewer steps may still come
  pub fewer_steps : (next : Option Visit) → WalksAt items w1 next (after s t) → steps_left next w1 < steps_left (Some v) w0
  fewer_steps (Some u) e =
      let below : effort (after s t) < effort s = falls s a t wanted fits in
      let now : effort s ≡ steps_left (Some v) w0 = ap effort stands.1 in
      let then : effort (after s t) ≡ steps_left (Some u) w1 = ap effort e.1 in
      omega (arith, below, now, then)
  fewer_steps None e =
      let below : effort (after s t) < effort s = falls s a t wanted fits in
      let now : effort s ≡ steps_left (Some v) w0 = ap effort stands.1 in
      omega (arith, below, now)

  -- no more items may come than before
  pub no_more_items : (next : Option Visit) → w0.items.items ≡ [] → WalksAt items w1 next (after s t) → length w1.items.items + items_left next w1 ≤ items_left (Some v) w0
  no_more_items (Some u) none e =
      let before : length items + length w0.items.items + w0.room ≡ most = stands.0 in
      let empty : length w0.items.items ≡ 0 = ap length none in
      let counts : length items + length w1.items.items + w1.room ≡ most = e.0 in
      omega (arith, before, empty, counts)
  no_more_items None none e =
      let before : length items + length w0.items.items + w0.room ≡ most = stands.0 in
      let empty : length w0.items.items ≡ 0 = ap length none in
      let bounds : length items + length w1.items.items ≤ most + 1 = e.0 in
      omega (arith, before, empty, bounds)

-- A walk through the index, visit by visit, and the buckets with odd lines that it met.
use Rattle.std.proofs.{Common.{◌≡◌, inl, inr, ◌<◌, List, [], ◌∷◌, ◌++◌, ℕ, Bool, true, false, cond, Option, None, Some, Result, Ok, Err, IfOk, IfErr, length, option_map, map, refl, sym, ap, subst, ◌∙◌, arith}, lemmas.List.Elements.{filter_map-append}}
use Rattle.std.specs.{List.{cons_option}, Option.{option_to_list}}
use Rattle.cacache_core.specs.declared.errors.Error.{Error, TheVariants.{OutOfMemory}}
use Rattle.cacache_store.specs.{declared.store.log.LogItem.{LogItem, TheVariants.{Made}}, Plain.{Fits, Logs, is_no_memory, PlainStep, PlainAnswer}}
use Rattle.cacache_calls.specs.{declared.{reply.Reply.TheVariants.{Done, Listed, Refused}, visit.Visit.{Visit}}, Runs.{EndsAs, Gains, Goes, Moves, effort, plain_item, without_message}, State.{Site, State, over}, Table.{after, wants}, Walking.{after_visit, visit_step}}
use Rattle.cacache_calls.proofs.{Effort.{falls}, Going.{answer_cases, gains_one, goes_lost, goes_on, goes_over, no_gain, unmoved, memory_said, no_memory_after}, ListReplies.{lists_shown}}
use Rattle.cacache_walks.specs.{declared.walk.Walk.{Walk}, Iterating.{listing_state, steps_left}, WalkStates.{GoesOn, WalkLeads, WalksAt, pending, walk_of}}
use Rattle.cacache_keep.specs.{Checking.{bucket_read, odd_in, odd_read}, Walking.{IsTold, LosesIndex, MeetsIndex, VisitGoes, VisitStops, WalksIndex, entry_at}}
use Rattle.cacache_keep.proofs.Indexes.ListedEntries.{told}

-- ---- the buckets of moves

as_list : {X : Type 0} (o : Option X) → cons_option o [] ≡ option_to_list o
as_list None = refl
as_list (Some x) = refl

-- one move more
odd_on : (moves : Moves) (a : PlainStep) (t : PlainAnswer) → odd_in (moves ++ (a, t) ∷ []) ≡ odd_in moves ++ option_to_list (odd_read a t)
odd_on moves a t =
    filter_map-append (λ (m : PlainStep × PlainAnswer). odd_read m.0 m.1) moves ((a, t) ∷ []) ∙ ap (λ (l : List (List ℕ)). odd_in moves ++ l) (as_list (odd_read a t))

-- ---- a listing that is over

module _ (cache : List ℕ) (moves : Moves) where
  abbrev site : Site
  site = record { cache = cache; base = []; number = 0 }

  -- it isn't done as a clearing is
  not_clear : Goes (listing_state cache) moves (over Done) → ⊥
  not_clear goes = lists_shown site moves Done (goes_over (listing_state cache) moves Done goes)

  -- it is refused out of memory alone
  refused_so : (e : Error) → Goes (listing_state cache) moves (over (Refused (without_message e))) → e ≡ OutOfMemory
  refused_so e goes = memory_said e (ap Refused (lists_shown site moves (Refused (without_message e)) (goes_over (listing_state cache) moves (Refused (without_message e)) goes)))

-- ---- visits

-- it begins before its folder
pub begins : (cache : List ℕ) (v : Visit) (w : Walk) (odd : List (List ℕ)) (log : Option (List LogItem)) → odd ≡ [] → WalksAt [] w (Some v) (listing_state cache) → WalksIndex cache (Some v) w odd log log
begins cache v w odd log none stands = record { state = listing_state cache; moves = []; goes = refl; gains = no_gain log; stands = stands; met = none }

-- memory ran out before the next step
pub lost_before : {cache : List ℕ} {next : Option Visit} {w : Walk} {odd : List (List ℕ)} {old new : Option (List LogItem)} → WalksIndex cache next w odd old new → LosesIndex cache OutOfMemory old new
lost_before {cache} i = (refl, (i.moves, goes_lost (listing_state cache) i.moves i.state i.goes, i.gains))

module _ (cache : List ℕ) (old mid new : Option (List LogItem)) (v : Visit) (w u : Walk) (odd more : List (List ℕ)) (a : PlainStep) (t : PlainAnswer)
    (i : WalksIndex cache (Some v) w odd old mid) (is : a ≡ visit_step v) (fits : Fits a t) (logs : Logs mid new a t) where
  wanted : wants i.state ≡ Some a
  wanted = rw (i.stands.1, is) refl

  abbrev next_state : State
  next_state = after i.state t

  -- without memory for the step the walk doesn't go on
  nowhere : (next : Option Visit) → WalksAt [] u next (over (Refused OutOfMemory)) → ⊥
  nowhere (Some y) h = let wrong = h.1 in cc
  nowhere None h = by u.clears h.1
    where
      by : (b : Bool) → over (Refused OutOfMemory) ≡ cond b (over Done) (over (Listed (walk_of [] u).items)) → ⊥
      by true e = cc
      by false e = cc

  goes_next : Goes (listing_state cache) (i.moves ++ (a, t) ∷ []) next_state
  goes_next = goes_on (listing_state cache) i.moves i.state a t i.goes wanted fits

  gains_next : is_no_memory t ≡ false → Gains old new (i.moves ++ (a, t) ∷ [])
  gains_next n = let e : new ≡ option_map (λ log. log ++ Made a t ∷ []) mid = rw n at logs in rw e (gains_one old mid i.moves (a, t) i.gains)

  -- the answer takes it on
  pub visit_goes : (next : Option Visit) → more ≡ odd ++ option_to_list (odd_read a t) → WalksAt [] u next next_state → WalksIndex cache next u more old new
  visit_goes next notes leads =
      elim (answer_cases t) [
        | inl p ↦ absurd (nowhere next (rw (p.1, no_memory_after i.state a p.0 wanted) at leads))
        | inr n ↦ record {
          state = next_state;
          moves = i.moves ++ (a, t) ∷ [];
          goes = goes_next;
          gains = gains_next n;
          stands = leads;
          met = notes ∙ ap (λ (l : List (List ℕ)). l ++ option_to_list (odd_read a t)) i.met ∙ sym (odd_on i.moves a t);
        }
      ]

  -- a listing isn't done as a clearing is
  pub not_done : next_state ≡ over Done → ⊥
  not_done so = not_clear cache (i.moves ++ (a, t) ∷ []) (subst (Goes (listing_state cache) (i.moves ++ (a, t) ∷ [])) so goes_next)

  -- fewer steps are left
  pub visit_shortens : (next : Option Visit) → WalksAt [] u next next_state → steps_left next u < steps_left (Some v) w
  visit_shortens (Some y) h =
      let below : effort next_state < effort i.state = falls i.state a t wanted fits in
      let now : effort i.state ≡ steps_left (Some v) w = ap effort i.stands.1 in
      let then : effort next_state ≡ steps_left (Some y) u = ap effort h.1 in
      omega (arith, below, now, then)
  visit_shortens None h =
      let below : effort next_state < effort i.state = falls i.state a t wanted fits in
      let now : effort i.state ≡ steps_left (Some v) w = ap effort i.stands.1 in
      omega (arith, below, now)

  -- memory ran out after the step
  pub lost_after : LosesIndex cache OutOfMemory old new
  lost_after =
      elim (answer_cases t) [
        | inl p ↦ rw (unmoved mid new a p.0 t p.1 logs) (lost_before i)
        | inr n ↦ (refl, (i.moves ++ (a, t) ∷ [], goes_lost (listing_state cache) (i.moves ++ (a, t) ∷ []) next_state goes_next, gains_next n))
      ]

  pub visit_stops : (e : Error) → EndsAs e next_state → LosesIndex cache e old new
  visit_stops e (inr memory) = (memory, lost_after.1)
  visit_stops e (inl so) = (refused_so cache (i.moves ++ (a, t) ∷ []) e (subst (Goes (listing_state cache) (i.moves ++ (a, t) ∷ [])) so goes_next), lost_after.1)

-- ---- what the walk gives after a visit

module _ (mid new : Option (List LogItem)) (v : Visit) (w u : Walk) (odd more : List (List ℕ)) (a : PlainStep) (t : PlainAnswer) (is : a ≡ visit_step v) (fits : Fits a t) (logs : Logs mid new a t) where
  leads_on : {cache : List ℕ} {old : Option (List LogItem)} (r : Result (Option Visit) Error) → GoesOn w u r (λ x todo. after_visit x v todo t) → (i : WalksIndex cache (Some v) w odd old mid) → WalkLeads [] r u (after i.state t)
  leads_on r resumes i = subst (λ s. WalkLeads [] r u (after s t)) (sym i.stands.1) (resumes [] i.stands.0)

  pub resumed_goes : (r : Result (Option Visit) Error) → GoesOn w u r (λ x todo. after_visit x v todo t) → (lists : Bool) → lists ≡ entry_at (map plain_item u.items.items) (length w.items.items)
      → (IsTold lists (bucket_read (visit_step v) t) → more ≡ odd ++ option_to_list (odd_read (visit_step v) t))
      → IfOk r (λ next. VisitGoes v w odd next u more mid new)
  resumed_goes (Ok next) resumes lists same met = λ cache old i.
      let leads = leads_on (Ok next) resumes i in
      let state : after i.state t ≡ after_visit (walk_of [] w) v (pending w.todo.items) t = ap (λ (s : State). after s t) i.stands.1 in
      let right = told w u next (pending w.todo.items) v t lists (λ e. not_done cache old mid new v w u odd more a t i is fits logs (state ∙ e)) (subst (WalksAt [] u next) state leads) same in
      let noted : more ≡ odd ++ option_to_list (odd_read a t) = met right ∙ ap (λ (s : PlainStep). odd ++ option_to_list (odd_read s t)) (sym is) in
      (visit_goes cache old mid new v w u odd more a t i is fits logs next noted leads, visit_shortens cache old mid new v w u odd more a t i is fits logs next leads)
  resumed_goes (Err e) resumes lists same met = tt

  pub resumed_stops : (r : Result (Option Visit) Error) → GoesOn w u r (λ x todo. after_visit x v todo t) → IfErr r (λ e. VisitStops v w odd e mid new)
  resumed_stops (Ok next) resumes = tt
  resumed_stops (Err e) resumes = λ cache old i. visit_stops cache old mid new v w u odd more a t i is fits logs e (leads_on (Err e) resumes i)

  pub stops_after : (e : Error) → e ≡ OutOfMemory → VisitStops v w odd e mid new
  stops_after e memory = λ cache old i. (memory, (lost_after cache old mid new v w u odd more a t i is fits logs).1)

-- ---- the end

-- a walk that is over gave its items
pub ended : (cache : List ℕ) (w : Walk) (odd : List (List ℕ)) (old new : Option (List LogItem)) → WalksIndex cache None w odd old new → MeetsIndex cache (map plain_item w.items.items) odd old new
ended cache w odd old new i = by w.clears i.stands.1
  where
    by : (b : Bool) → i.state ≡ cond b (over Done) (over (Listed (map plain_item w.items.items))) → MeetsIndex cache (map plain_item w.items.items) odd old new
    by true e = absurd (not_clear cache i.moves (subst (Goes (listing_state cache) i.moves) e i.goes))
    by false e = ((i.moves, goes_over (listing_state cache) i.moves (Listed (map plain_item w.items.items)) (subst (Goes (listing_state cache) i.moves) e i.goes), i.gains), i.met)

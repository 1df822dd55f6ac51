-- The moves of a call until it ends: they are a run of it, and each has its place in the records.
use Rattle.std.proofs.{Common.{arith, rules, ◌≡◌, ◌⊎◌, ◌==◌, ℕ, Bool, true, false, cond, List, [], ◌∷◌, ◌++◌, Option, None, Some, option_map, refl, sym, ap, subst, ◌∙◌, eqb-true, eq-eqb}, lemmas.Grind.{common_steps}}
use Rattle.cacache_disk.specs.{declared.luck.Luck.{Luck}, Tree.{Tree}}
use Rattle.cacache_calls.specs.{declared.reply.Reply.{Reply}, State.{State, over}, Runs.{Moves, Runs, plain_reply}}
use Rattle.cacache_value.specs.Acts.{Move}
use Rattle.cacache_history.specs.{declared.record.Record.{Record, TheVariants.{Began, Moved, Stopped}}, Setup.{Setup}, History.{Call, Now, Made, call_after, set_call, now_after, replayed, Ends, MayMove, MayCome, Legal}, Values.{steps_of}, durable.QuietMoves.{EndsHere, CallEndsWith}}

-- ---- the caller's own moves

-- what follows a move, unless the call is over
abbrev until_over : Option Reply → Moves → Moves
until_over None moves = moves
until_over (Some reply) moves = []

-- a move before others, if one was made
abbrev with_made : Option Made → Moves → Moves
with_made None moves = moves
with_made (Some made) moves = made ∷ moves

-- the caller's moves in these records, until its call ends
abbrev pub own_moves : ℕ → List Record → Moves
own_moves caller [] = []
own_moves caller (Began other command ∷ records) = own_moves caller records
own_moves caller (Moved other luck made told ∷ records) =
    cond (other == caller) (with_made made (until_over told (own_moves caller records))) (own_moves caller records)
own_moves caller (Stopped other ∷ records) = own_moves caller records

-- this move is one of them
abbrev pub Has : Made → Moves → Type 0
Has m [] = ⊥
Has m (made ∷ moves) = (made ≡ m) ⊎ Has m moves

-- one of these steps is this one, with this answer
abbrev pub HasStep : Made → List Move → Type 0
HasStep m [] = ⊥
HasStep m (move ∷ moves) = ((move.step ≡ m.0) × (move.answer ≡ m.1)) ⊎ HasStep m moves

module _ (m : Made) where
  until_has : (told : Option Reply) (moves : Moves) → Has m (until_over told moves) → Has m moves
  until_has told moves h = grind (arith, common_steps)

  one_has : (other : ℕ) (luck : Luck) (made : Option Made) (told : Option Reply) (b : Bool) (records : List Record) (moves : Moves) → (Has m moves → HasStep m (steps_of records))
      → Has m (cond b (with_made made (until_over told moves)) moves) → HasStep m (steps_of (Moved other luck made told ∷ records))
  one_has other luck made told b records moves more h = grind (arith, until_has)

  -- each of the caller's moves is a step of the records
  own_has : (caller : ℕ) (records : List Record) → Has m (own_moves caller records) → HasStep m (steps_of records)
  own_has caller [] h = absurd h
  own_has caller (Began other command ∷ records) h = own_has caller records h
  own_has caller (Moved other luck made told ∷ records) h = one_has other luck made told (other == caller) records (own_moves caller records) (own_has caller records) h
  own_has caller (Stopped other ∷ records) h = own_has caller records h

-- ---- the caller's call

module _ (caller other : ℕ) where
  -- another caller's record leaves it
  other_stays : (new : Option Call) (calls : ℕ → Option Call) → (other == caller) ≡ false → set_call other new calls caller ≡ calls caller
  other_stays new calls e = search rules

  -- its own sets it
  own_set : (new : Option Call) (calls : ℕ → Option Call) → (other == caller) ≡ true → set_call other new calls caller ≡ new
  own_set new calls e = let same : (caller == other) ≡ true = eq-eqb caller other (sym (eqb-true other caller e)) in ap (λ b. cond b new (calls caller)) same

  -- a caller without a call is another one
  is_other : (calls : ℕ → Option Call) (call : Call) → calls other ≡ None → calls caller ≡ Some call → (other == caller) ≡ false
  is_other calls call none is = search rules

  -- its own record moves its call
  is_own : (calls : ℕ → Option Call) (call found : Call) → calls other ≡ Some found → calls caller ≡ Some call → (other == caller) ≡ true → found ≡ call
  is_own calls call found there is e = let same : Some found ≡ Some call = sym there ∙ ap calls (eqb-true other caller e) ∙ is in cc

  -- and if the call isn't over it is then the moved one
  now_moved : (w : Now) (luck : Luck) (made : Option Made) (call : Call) → (other == caller) ≡ true → w.calls caller ≡ Some call
      → set_call other (option_map (call_after w.tree luck made) (w.calls other)) w.calls caller ≡ Some (call_after w.tree luck made call)
  now_moved w luck made call e is = search (rules, own_set)

-- ---- its moves are a run

module _ (s : Setup) (caller : ℕ) (reply : Reply) where
  made_runs : (t : Tree) (luck : Luck) (made : Option Made) (told : Option Reply) (call : Call) (moves : Moves) → MayMove t call.state luck made told
      → Runs (call_after t luck made call).state moves (plain_reply reply) → Runs call.state (with_made made moves) (plain_reply reply)
  made_runs t luck made told call moves may run = grind (arith, common_steps)

  move_ends : (t : Tree) (luck : Luck) (made : Option Made) (told : Option Reply) (call : Call) → MayMove t call.state luck made told → Ends (call_after t luck made call).state told
  move_ends t luck made told call may = grind (arith, common_steps)

  ended_runs : (state : State) (told : Reply) → Ends state (Some told) → told ≡ reply → Runs state [] (plain_reply reply)
  ended_runs state told h same = grind (arith, common_steps)

  moved_runs : (w : Now) (other : ℕ) (luck : Luck) (made : Option Made) (told : Option Reply) (records : List Record) (call : Call) (b : Bool) → (other == caller) ≡ b
      → MayCome s w (Moved other luck made told) → w.calls caller ≡ Some call → EndsHere b told reply (CallEndsWith caller reply records)
      → ((later : Call) → (now_after s w (Moved other luck made told)).calls caller ≡ Some later → CallEndsWith caller reply records → Runs later.state (own_moves caller records) (plain_reply reply))
      → Runs call.state (cond b (with_made made (until_over told (own_moves caller records))) (own_moves caller records)) (plain_reply reply)
  moved_runs w other luck made told records call false e may is ends more = more call (other_stays caller other _ w.calls e ∙ is) ends
  moved_runs w other luck made None records call true e may is ends more =
      let mine = subst (λ (c : Call). MayMove w.tree c.state luck made None) (is_own caller other w.calls call may.0 may.1 is e) may.2 in
      made_runs w.tree luck made None call (own_moves caller records) mine (more (call_after w.tree luck made call) (now_moved caller other w luck made call e is) ends)
  moved_runs w other luck made (Some told) records call true e may is ends more =
      let mine = subst (λ (c : Call). MayMove w.tree c.state luck made (Some told)) (is_own caller other w.calls call may.0 may.1 is e) may.2 in
      made_runs w.tree luck made (Some told) call [] mine (ended_runs (call_after w.tree luck made call).state told (move_ends w.tree luck made (Some told) call mine) ends)

  pub own_runs : (w : Now) (records : List Record) (call : Call) → Legal s w records → w.calls caller ≡ Some call → CallEndsWith caller reply records
      → Runs call.state (own_moves caller records) (plain_reply reply)
  own_runs w [] call legal is ends = absurd ends
  own_runs w (Began other command ∷ records) call legal is ends =
      own_runs (now_after s w (Began other command)) records call legal.1 (other_stays caller other _ w.calls (is_other caller other w.calls call legal.0.1 is) ∙ is) ends
  own_runs w (Moved other luck made told ∷ records) call legal is ends =
      moved_runs w other luck made told records call (other == caller) refl legal.0 is ends (λ later there. own_runs (now_after s w (Moved other luck made told)) records later legal.1 there)
  own_runs w (Stopped other ∷ records) call legal is ends =
      own_runs (now_after s w (Stopped other)) records call legal.1 (other_stays caller other None w.calls ends.0 ∙ is) ends.1

  -- ---- and each has its place

  -- the caller made this move here, and then these more
  pub record PlaceOf (w : Now) (records : List Record) (call : Call) (made : Made) (more : Moves) : Type 0 where
    pub between : List Record
    pub luck : Luck
    pub told : Option Reply
    pub later : List Record
    pub is : records ≡ between ++ Moved caller luck (Some made) told ∷ later
    pub found : Call
    pub there : (replayed s w between).calls caller ≡ Some found
    pub command : found.command ≡ call.command
    pub has : (m : Made) → Has m more → HasStep m (steps_of later)

  -- one record before
  place_after : (w : Now) (r : Record) (records : List Record) (old call : Call) (made : Made) (more : Moves) → call.command ≡ old.command
      → PlaceOf (now_after s w r) records call made more → PlaceOf w (r ∷ records) old made more
  place_after w r records old call made more same p = record {
    between = r ∷ p.between;
    luck = p.luck;
    told = p.told;
    later = p.later;
    is = ap (λ records. r ∷ records) p.is;
    found = p.found;
    there = p.there;
    command = p.command ∙ same;
    has = p.has;
  }

  place_moved : (w : Now) (luck : Luck) (made : Option Made) (told : Option Reply) (records : List Record) (call : Call) (front : Moves) (move : Made) (more : Moves)
      → w.calls caller ≡ Some call → EndsHere true told reply (CallEndsWith caller reply records)
      → ((later : Call) (front : Moves) → (now_after s w (Moved caller luck made told)).calls caller ≡ Some later → CallEndsWith caller reply records → own_moves caller records ≡ front ++ move ∷ more
      → PlaceOf (now_after s w (Moved caller luck made told)) records later move more)
      → with_made made (until_over told (own_moves caller records)) ≡ front ++ move ∷ more → PlaceOf w (Moved caller luck made told ∷ records) call move more
  place_moved w luck None None records call front move more is ends later e =
      place_after w (Moved caller luck None None) records call call move more refl (later call front (now_moved caller caller w luck None call (eq-eqb caller caller refl) is) ends e)
  place_moved w luck None (Some told) records call [] move more is ends later e = absurd cc
  place_moved w luck None (Some told) records call (m ∷ front) move more is ends later e = absurd cc
  place_moved w luck (Some made) told records call [] move more is ends later e =
      let same : made ≡ move = cc in
      let rest : until_over told (own_moves caller records) ≡ more = cc in
      record {
        between = [];
        luck = luck;
        told = told;
        later = records;
        is = ap (λ m. Moved caller luck (Some m) told ∷ records) same;
        found = call;
        there = is;
        command = refl;
        has = λ m h. own_has m caller records (until_has m told (own_moves caller records) (subst (Has m) (sym rest) h));
      }
  place_moved w luck (Some made) None records call (m ∷ front) move more is ends later e =
      let rest : own_moves caller records ≡ front ++ move ∷ more = cc in
      place_after w (Moved caller luck (Some made) None) records call (call_after w.tree luck (Some made) call) move more refl
      (later (call_after w.tree luck (Some made) call) front (now_moved caller caller w luck (Some made) call (eq-eqb caller caller refl) is) ends rest)
  place_moved w luck (Some made) (Some told) records call (m ∷ []) move more is ends later e = absurd cc
  place_moved w luck (Some made) (Some told) records call (m ∷ n ∷ front) move more is ends later e = absurd cc

  place_by : (w : Now) (other : ℕ) (luck : Luck) (made : Option Made) (told : Option Reply) (records : List Record) (call : Call) (front : Moves) (move : Made) (more : Moves) (b : Bool)
      → (other == caller) ≡ b → w.calls caller ≡ Some call → EndsHere b told reply (CallEndsWith caller reply records)
      → ((later : Call) (front : Moves) → (now_after s w (Moved other luck made told)).calls caller ≡ Some later → CallEndsWith caller reply records → own_moves caller records ≡ front ++ move ∷ more
      → PlaceOf (now_after s w (Moved other luck made told)) records later move more)
      → cond b (with_made made (until_over told (own_moves caller records))) (own_moves caller records) ≡ front ++ move ∷ more → PlaceOf w (Moved other luck made told ∷ records) call move more
  place_by w other luck made told records call front move more true same is ends later e = search (rules, place_moved)
  place_by w other luck made told records call front move more false same is ends later e =
      place_after w (Moved other luck made told) records call call move more refl (later call front (other_stays caller other _ w.calls same ∙ is) ends e)

  pub place_of : (w : Now) (records : List Record) (call : Call) (front : Moves) (move : Made) (more : Moves) → Legal s w records → w.calls caller ≡ Some call → CallEndsWith caller reply records
      → own_moves caller records ≡ front ++ move ∷ more → PlaceOf w records call move more
  place_of w [] call front move more legal is ends e = absurd ends
  place_of w (Began other command ∷ records) call front move more legal is ends e =
      place_after w (Began other command) records call call move more refl
      (place_of (now_after s w (Began other command)) records call front move more legal.1 (other_stays caller other _ w.calls (is_other caller other w.calls call legal.0.1 is) ∙ is) ends e)
  place_of w (Moved other luck made told ∷ records) call front move more legal is ends e =
      place_by w other luck made told records call front move more (other == caller) refl is ends
      (λ later front there ends e. place_of (now_after s w (Moved other luck made told)) records later front move more legal.1 there ends e) e
  place_of w (Stopped other ∷ records) call front move more legal is ends e =
      place_after w (Stopped other) records call call move more refl
      (place_of (now_after s w (Stopped other)) records call front move more legal.1 (other_stays caller other None w.calls ends.0 ∙ is) ends.1 e)

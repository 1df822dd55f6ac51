-- Calls with any numbers that differ, as calls that begin in the order of their numbers.
use Rattle.std.proofs.{lemmas.Bool.{cases_lt, lt-ltb}, Common.{rules, ◌≡◌, ◌⊎◌, inl, inr, ◌≤◌, ◌<◌, ◌+◌, ◌-◌, ◌^◌, ◌==◌, ℕ, zero, suc, Bool, true, false, cond, List, [], ◌∷◌, ◌++◌, Option, None, Some, option_map, refl, sym, ap, subst, ◌∙◌, arith}}
use Rattle.cacache_store.specs.declared.store.plain.PlainFile.{PlainFile}
use Rattle.cacache_system.specs.{Seen.{NumberedFile, NumberedTemp}, AnswersOf.{answer_of}}
use Rattle.cacache_system_model.specs.{Chains.{StepMade}, callers.{Acts.{Act, begins, steps as makes, ends, stops, set_state, unless_ended}, Made.{now_left}, Seen.{SeenState, answer_seen, held_after, open_after, after_seen, IsOnHeld, SparesTemps, EachSeen, seen_at}, Numbers.{NumbersState, after_number, EachNumber, numbers_at, begun_with, begin_one, beginnings, without_begins, NumbersDiffer}, Losing.{steps_made}}}
use Rattle.cacache_system_model.proofs.callers.{Files.{opens_free}, ListCalls.{path_of, temp_so}}
use Rattle.cacache_calls.specs.{declared.command.Command.{Command, TheVariants.{Ls}}, State.{State}, Table.{after, opening}, Sound.{MayBegin}}
use Rattle.cacache_history.specs.{Setup.{Setup, call_site, may_export, is_outside}, History.{NamesIntegrity}}

-- a call that begins later has begun
abbrev later : Setup → Option Command → ℕ → Option State → Option State
later s None k state = state
later s (Some command) k state = Some (opening (call_site s k) command)

by_number : (P : Bool → Type 0) (k caller : ℕ) → (k ≡ caller → P true) → ((k ≡ caller → ⊥) → P false) → P (k == caller)
by_number P k caller here there = search rules

module _ (most : ℕ) (s : Setup) where
  -- a number that is taken isn't taken again
  no_later : (acts : List Act) (f : NumbersState) (k : ℕ) → EachNumber most s f acts → f.taken k ≡ true → begun_with acts k ≡ None
  no_later [] f k each taken = refl
  no_later (begins caller command ∷ acts) f k (may, rest) taken =
      let stays : (after_number s f (begins caller command)).taken k ≡ true = by_number (λ b. cond b true (f.taken k) ≡ true) k caller (λ same. refl) (λ differ. taken) in
      by_number (λ b. cond b (Some command) (begun_with acts k) ≡ None) k caller
      (λ same. let no : true ≡ false = sym taken ∙ ap f.taken same ∙ may.1 in absurd cc) (λ differ. no_later acts (after_number s f (begins caller command)) k rest stays)
  no_later (makes caller made reply ∷ acts) f k (may, rest) taken = no_later acts (after_number s f (makes caller made reply)) k rest taken
  no_later (ends caller reply ∷ acts) f k (may, rest) taken = no_later acts (after_number s f (ends caller reply)) k rest taken
  no_later (stops caller ∷ acts) f k (may, rest) taken = no_later acts (after_number s f (stops caller)) k rest taken

  abbrev MayTake : ℕ → Command → Type 0
  MayTake k command = (k < most) × MayBegin (call_site s k) (may_export s) (is_outside s) command × NamesIntegrity command

  -- a call that begins among the acts may begin
  may_take : (acts : List Act) (f : NumbersState) (k : ℕ) (command : Command) → EachNumber most s f acts → begun_with acts k ≡ Some command → MayTake k command
  may_take [] f k command each is = let no : None ≡ Some command = is in absurd cc
  may_take (begins caller own ∷ acts) f k command (may, rest) is =
      by_number (λ b. cond b (Some own) (begun_with acts k) ≡ Some command → MayTake k command) k caller
      (λ same is. let command_is : own ≡ command = cc in subst (λ n. MayTake n command) (sym same) (subst (MayTake caller) command_is (may.0, may.2, may.3)))
      (λ differ. may_take acts (after_number s f (begins caller own)) k command rest) is
  may_take (makes caller made reply ∷ acts) f k command (may, rest) is = may_take acts (after_number s f (makes caller made reply)) k command rest is
  may_take (ends caller reply ∷ acts) f k command (may, rest) is = may_take acts (after_number s f (ends caller reply)) k command rest is
  may_take (stops caller ∷ acts) f k command (may, rest) is = may_take acts (after_number s f (stops caller)) k command rest is

  -- both have the same, but calls that begin later have begun in one of them
  record Sees (f : NumbersState) (c : SeenState) (acts : List Act) : Type 0 where
    machine : c.machine ≡ f.seen.machine
    held : c.held ≡ f.seen.held
    opened : c.opened ≡ f.seen.opened
    states : (k : ℕ) → c.states k ≡ later s (begun_with acts k) k (f.seen.states k)
    taken : (k : ℕ) (state : State) → f.seen.states k ≡ Some state → f.taken k ≡ true

  module _ (f : NumbersState) (c : SeenState) (acts : List Act) (sees : Sees f c acts) where
    -- a call that is on its way in one is in the other
    stands_too : EachNumber most s f acts → (k : ℕ) (state : State) → f.seen.states k ≡ Some state → c.states k ≡ f.seen.states k
    stands_too each k state is = sees.states k ∙ ap (λ (o : Option Command). later s o k (f.seen.states k)) (no_later acts f k each (sees.taken k state is))

    spares_too : (own : State) → SparesTemps f.seen.states own → SparesTemps c.states own
    spares_too own spares = grind (arith, temp_so, path_of, opens_free)

  -- ---- the acts after the beginnings

  -- a caller's call is another, or over, in both
  set_too : (acts : List Act) (caller : ℕ) (x y : Option State) (c f : ℕ → Option State) → x ≡ y → begun_with acts caller ≡ None → ((k : ℕ) → c k ≡ later s (begun_with acts k) k (f k))
      → (k : ℕ) → set_state caller x c k ≡ later s (begun_with acts k) k (set_state caller y f k)
  set_too acts caller x y c f same none all k = search (rules, by_number)

  taken_too : (caller : ℕ) (y : Option State) (f : ℕ → Option State) (taken : ℕ → Bool) → taken caller ≡ true → ((k : ℕ) (state : State) → f k ≡ Some state → taken k ≡ true)
      → (k : ℕ) (state : State) → set_state caller y f k ≡ Some state → taken k ≡ true
  taken_too caller y f taken own all k state = by_number (λ b. cond b y (f k) ≡ Some state → taken k ≡ true) k caller (λ same e. ap taken same ∙ own) (λ differ e. all k state e)

  numbers_seen : (acts : List Act) (f : NumbersState) (c : SeenState) → Sees f c acts → EachNumber most s f acts → EachSeen s c (without_begins acts)
  numbers_seen [] f c sees each = tt
  numbers_seen (begins caller command ∷ acts) f c sees (may, rest) =
      let g : NumbersState = after_number s f (begins caller command) in
      let own : (k : ℕ) → k ≡ caller → begun_with acts k ≡ None
      = λ k same. no_later acts g k rest (by_number (λ b. cond b true (f.taken k) ≡ true) k caller (λ is. refl) (λ differ. absurd (differ same))) in
      numbers_seen acts g c
      (record {
        machine = sees.machine;
        held = sees.held;
        opened = sees.opened;
        states = λ k.
            by_number (λ b. c.states k ≡ later s (cond b (Some command) (begun_with acts k)) k (f.seen.states k)
            → c.states k ≡ later s (begun_with acts k) k (cond b (Some (opening (call_site s caller) command)) (f.seen.states k))) k caller
            (λ same e. e ∙ ap (λ (n : ℕ). Some (opening (call_site s n) command)) same
            ∙ ap (λ (o : Option Command). later s o k (Some (opening (call_site s caller) command))) (sym (own k same))) (λ differ e. e) (sees.states k);
        taken = λ k state.
            by_number (λ b. cond b (Some (opening (call_site s caller) command)) (f.seen.states k) ≡ Some state → cond b true (f.taken k) ≡ true) k caller
            (λ same e. refl) (λ differ e. sees.taken k state e);
      }) rest
  numbers_seen (makes caller made reply ∷ acts) f c sees (m, rest) =
      let act : Act = makes caller made reply in
      let own : c.states caller ≡ f.seen.states caller = stands_too f c (act ∷ acts) sees (m, rest) caller m.state m.stands in
      let taken : f.taken caller ≡ true = sees.taken caller m.state m.stands in
      let moved : Option State → Option State = λ x. unless_ended reply (option_map (λ (state : State). after state (answer_seen (answer_of made.step made.end))) x) in (
        record {
          state = m.state;
          stands = own ∙ m.stands;
          wanted = m.wanted;
          held = subst (λ (h : ℕ → Option NumberedTemp). IsOnHeld made.before (h caller) (c.opened caller) made.step) (sym sees.held)
              (subst (λ (o : ℕ → Option (NumberedFile × PlainFile)). IsOnHeld made.before (f.seen.held caller) (o caller) made.step) (sym sees.opened) m.held);
          spares = spares_too f c (act ∷ acts) sees m.state m.spares;
          here = m.here ∙ sym sees.machine;
          runs = m.runs;
          each = m.each;
          luck = m.luck;
          hint = m.hint;
          clean = m.clean;
          fits = m.fits;
          over = m.over;
        },
        numbers_seen acts (after_number s f act) (after_seen s c act)
            (record {
              machine = refl;
              held = ap (λ (h : ℕ → Option NumberedTemp). held_after h act) sees.held;
              opened = ap (λ (o : ℕ → Option (NumberedFile × PlainFile)). open_after o act) sees.opened;
              states = set_too acts caller (moved (c.states caller)) (moved (f.seen.states caller)) c.states f.seen.states (ap moved own) (no_later acts (after_number s f act) caller rest taken) sees.states;
              taken = taken_too caller (moved (f.seen.states caller)) f.seen.states f.taken taken sees.taken;
            }) rest,
      )
  numbers_seen (ends caller reply ∷ acts) f c sees ((state, stands, none, ended), rest) =
      let act : Act = ends caller reply in
      let own = stands_too f c (act ∷ acts) sees ((state, stands, none, ended), rest) caller state stands in
      let taken : f.taken caller ≡ true = sees.taken caller state stands in (
        (state, own ∙ stands, none, ended),
        numbers_seen acts (after_number s f act) (after_seen s c act)
            (record {
              machine = sees.machine;
              held = sees.held;
              opened = sees.opened;
              states = set_too acts caller None None c.states f.seen.states refl (no_later acts (after_number s f act) caller rest taken) sees.states;
              taken = taken_too caller None f.seen.states f.taken taken sees.taken;
            }) rest,
      )
  numbers_seen (stops caller ∷ acts) f c sees ((state, stands), rest) =
      let act : Act = stops caller in
      let own = stands_too f c (act ∷ acts) sees ((state, stands), rest) caller state stands in
      let taken : f.taken caller ≡ true = sees.taken caller state stands in (
        (state, own ∙ stands),
        numbers_seen acts (after_number s f act) (after_seen s c act)
            (record {
              machine = sees.machine;
              held = sees.held;
              opened = sees.opened;
              states = set_too acts caller None None c.states f.seen.states refl (no_later acts (after_number s f act) caller rest taken) sees.states;
              taken = taken_too caller None f.seen.states f.taken taken sees.taken;
            }) rest,
      )

  -- ---- the beginnings

  module _ (acts : List Act) (f : NumbersState) (each : EachNumber most s f acts) (none : (k : ℕ) → f.seen.states k ≡ None) (room : most ≤ s.callers) (few : most ≤ 2 ^ 64) where
    abbrev commands : ℕ → Option Command
    commands k = begun_with acts k

    -- calls with smaller numbers have begun
    record Ready (first : ℕ) (c : SeenState) : Type 0 where
      machine : c.machine ≡ f.seen.machine
      held : c.held ≡ f.seen.held
      opened : c.opened ≡ f.seen.opened
      begun : c.begun ≡ first
      below : (k : ℕ) → k < first → c.states k ≡ later s (commands k) k None
      above : (k : ℕ) → first ≤ k → c.states k ≡ None

    all_ready : (c : SeenState) → Ready most c → Sees f c acts
    all_ready c ready = record {
      machine = ready.machine;
      held = ready.held;
      opened = ready.opened;
      states = λ k. states_at k (cases_lt k most);
      taken = λ k state is. let no : None ≡ Some state = sym (none k) ∙ is in absurd cc;
    }
      where
        nobody : (k : ℕ) → most ≤ k → (o : Option Command) → commands k ≡ o → o ≡ None
        nobody k out None is = refl
        nobody k out (Some command) is = let within = (may_take acts f k command each is).0 in absurd (omega (arith, within, out))

        states_at : (k : ℕ) → (k < most) ⊎ (most ≤ k) → c.states k ≡ later s (commands k) k (f.seen.states k)
        states_at k (inl within) = ready.below k within ∙ ap (later s (commands k) k) (sym (none k))
        states_at k (inr out) = ready.above k out ∙ sym (none k) ∙ ap (λ (o : Option Command). later s o k (f.seen.states k)) (sym (nobody k out (commands k) refl))

    -- one more call has begun, and is on its way or given up
    next_ready : (first : ℕ) (c d : SeenState) → Ready first c → d.machine ≡ c.machine → d.held ≡ c.held → d.opened ≡ c.opened → d.begun ≡ c.begun + 1
        → d.states first ≡ later s (commands first) first None → ((k : ℕ) → (k ≡ first → ⊥) → d.states k ≡ c.states k) → Ready (first + 1) d
    next_ready first c d ready machine held opened counted own others = search (rules, by_number)

    -- a caller's state was set, and others stay
    set_own : (first : ℕ) (x : Option State) (states : ℕ → Option State) → set_state first x states first ≡ x
    set_own first x states = by_number (λ b. cond b x (states first) ≡ x) first first (λ same. refl) (λ differ. absurd (differ refl))

    set_other : (first : ℕ) (x : Option State) (states : ℕ → Option State) (k : ℕ) → (k ≡ first → ⊥) → set_state first x states k ≡ states k
    set_other first x states k apart = by_number (λ b. cond b x (states k) ≡ states k) k first (λ same. absurd (apart same)) (λ differ. refl)

    one_begins : (first : ℕ) (before behind : List Act) (c : SeenState) → first < most → Ready first c → ((d : SeenState) → Ready (first + 1) d → EachSeen s d (before ++ behind)) → (o : Option Command) → commands first ≡ o
        → EachSeen s c ((begin_one first o ++ before) ++ behind)
    one_begins first before behind c less ready go None is =
        let begun = after_seen s c (begins first Ls) in
        let x : Option State = Some (opening (call_site s c.begun) Ls) in (
          (within, ready.above first (omega arith), tt, tt, fewer),
          (
            (opening (call_site s c.begun) Ls, set_own first x c.states),
            go (after_seen s begun (stops first))
                (next_ready first c (after_seen s begun (stops first)) ready refl refl refl refl (set_own first None begun.states ∙ ap (λ (o : Option Command). later s o first None) (sym is))
                (λ k apart. set_other first None begun.states k apart ∙ set_other first x c.states k apart)),
          ),
        )
      where
        within : first < s.callers
        within = omega (arith, less, room)

        fewer : c.begun + 1 ≤ 2 ^ 64
        fewer = subst (λ (n : ℕ). n + 1 ≤ 2 ^ 64) (sym ready.begun) (omega (arith, less, few))
    one_begins first before behind c less ready go (Some command) is =
        let may = may_take acts f first command each is in
        let x : Option State = Some (opening (call_site s c.begun) command) in
        let begun = after_seen s c (begins first command) in
        let within : first < s.callers = omega (arith, less, room) in
        let fewer : first + 1 ≤ 2 ^ 64 = omega (arith, less, few) in (
          (
            within,
            ready.above first (omega arith),
            subst (λ (n : ℕ). MayBegin (call_site s n) (may_export s) (is_outside s) command) (sym ready.begun) may.1,
            may.2,
            subst (λ (n : ℕ). n + 1 ≤ 2 ^ 64) (sym ready.begun) fewer,
          ),
          go begun
              (next_ready first c begun ready refl refl refl refl
              (set_own first x c.states ∙ ap (λ (n : ℕ). Some (opening (call_site s n) command)) ready.begun ∙ ap (λ (o : Option Command). later s o first None) (sym is))
              (λ k apart. set_other first x c.states k apart)),
        )

    begins_seen : (count first : ℕ) (c : SeenState) → first + count ≡ most → Ready first c → EachSeen s c (beginnings count first (begun_with acts) ++ without_begins acts)
    begins_seen zero first c total ready =
        let same : first ≡ most = omega (arith, total) in
        numbers_seen acts f c (all_ready c (subst (λ (n : ℕ). Ready n c) same ready)) each
    begins_seen (suc count) first c total ready =
        let less : first < most = omega (arith, total) in
        let rest : (first + 1) + count ≡ most = omega (arith, total) in
        one_begins first (beginnings count (first + 1) (begun_with acts)) (without_begins acts) c less ready (λ d next. begins_seen count (first + 1) d rest next) (commands first) refl

-- ---- the steps

steps_behind : (count first : ℕ) (commands : ℕ → Option Command) (acts : List Act) → steps_made (beginnings count first commands ++ acts) ≡ steps_made acts
steps_behind zero first commands acts = refl
steps_behind (suc count) first commands acts = by (commands first) (steps_behind count (first + 1) commands acts)
  where
    by : (o : Option Command) → steps_made (beginnings count (first + 1) commands ++ acts) ≡ steps_made acts
        → steps_made ((begin_one first o ++ beginnings count (first + 1) commands) ++ acts) ≡ steps_made acts
    by None same = same
    by (Some command) same = same

steps_left : (acts : List Act) → steps_made (without_begins acts) ≡ steps_made acts
steps_left [] = refl
steps_left (begins caller command ∷ acts) = steps_left acts
steps_left (makes caller made reply ∷ acts) = ap (λ (rest : List StepMade). let all : List StepMade = made ∷ rest in all) (steps_left acts)
steps_left (ends caller reply ∷ acts) = steps_left acts
steps_left (stops caller ∷ acts) = steps_left acts

pub numbers_differ : NumbersDiffer
numbers_differ s m cache most acts room few more each =
    let first : ℕ = (now_left s cache.past).begun in
    let total : first + (most - first) ≡ most = omega (arith, more) in (
      begins_seen most s acts (numbers_at s m cache) each (λ k. refl) room few (most - first) first (seen_at s m cache) total
          (record {
            machine = refl;
            held = refl;
            opened = refl;
            begun = refl;
            below = λ k less. ap (λ (o : Option Command). later s o k None) (sym (no_later most s acts (numbers_at s m cache) k each (lt-ltb k first less)));
            above = λ k out. refl;
          }),
      steps_behind (most - first) first (begun_with acts) (without_begins acts) ∙ steps_left acts,
    )

-- Callers as the contracts of their stores see them, beside those whose handles are as on the machine.
use Rattle.std.proofs.{lemmas.Grind.{common_steps}, Common.{rules, arith, ◌≡◌, ◌≤◌, ◌^◌, ◌+◌, ◌==◌, ℕ, Bool, cond, List, [], ◌∷◌, Option, None, Some, option_map, refl, sym, ap, subst, ◌∙◌}}
use Rattle.cacache_store.specs.declared.store.plain.PlainFile.{PlainFile}
use Rattle.cacache_value.specs.Placed.{LieApart}
use Rattle.cacache_system.specs.{Seen.{NumberedFile, NumberedTemp, NumberedAnswer}, AnswersOf.{answer_of}}
use Rattle.cacache_system_model.specs.{Machine.{Machine}, Laws.{answer_on}, Chains.{StepMade}, callers.{Acts.{Act, begins, steps as makes, ends, stops, answer_in, unless_ended, EachMay}, Made.{now_left, CacheOn, system_at}, Storing.{MayStore}, Seen.{SeenState, handed, handed_open, answer_seen, step_seen, after_seen, IsOnHeld, SparesTemps, MakesSeenStep, MayActSeen, EachSeen, seen_at, SeenMakeHistories}}}
use Rattle.cacache_system_model.proofs.callers.{NextActs.{NumberedState, numbered_after, MakesNextStep, MayNext}, WithoutBytes.{without_bytes, Alike, alike_after, wanted_plain, none_plain, ends_plain, walking_without, temp_alike}, Covering.{storing_makes_histories}, NextSteps.{Holds}, Numbering.{may_store, next_act, first_holds}}
use Rattle.cacache_calls.specs.{declared.{reply.Reply.{Reply}, visit.Visit.TheVariants.{RemoveFile}}, State.{State, walking}, Table.{after}, Sound.{MayBegin}}
use Rattle.cacache_history.specs.{Setup.{Setup, call_site, home, may_export, is_outside}, History.{Now, now_after}}

-- there is a call in both, in states that are alike, or in neither
abbrev AreAlike : Option State → Option State → Type 0
AreAlike o x = option_map without_bytes o ≡ option_map without_bytes x

-- both have the same but for what handles hold
record Sees (c : SeenState) (f : NumberedState) : Type 0 where
  machine : c.machine ≡ f.system.machine
  states : (k : ℕ) → AreAlike (f.system.states k) (c.states k)
  held : (k : ℕ) → c.held k ≡ f.held k
  opened : (k : ℕ) → c.opened k ≡ f.opened k
  begun : c.begun ≡ f.system.begun

has_state : (o x : Option State) (state : State) → AreAlike o x → x ≡ Some state → (s : State) × (o ≡ Some s) × Alike s state
has_state (Some s) (Some c) state same is =
    let are : c ≡ state = cc in
    let alike : Alike s c = (let both : Some (without_bytes s) ≡ Some (without_bytes c) = same in cc) in
    (s, refl, subst (Alike s) are alike)
has_state None (Some c) state same is = (let no : None ≡ Some (without_bytes c) = same in absurd cc)
has_state o None state same is = (let no : None ≡ Some state = is in absurd cc)

no_state : (o x : Option State) → AreAlike o x → x ≡ None → o ≡ None
no_state o x same is = grind (arith, without_bytes)

-- what a clear spares, it spares whatever handles hold
spares_alike : (states others : ℕ → Option State) → ((k : ℕ) → AreAlike (states k) (others k)) → (s c : State) → Alike s c → SparesTemps others c → SparesTemps states s
spares_alike states others same (walking w (RemoveFile p) todo) c alike spares =
    let are : c ≡ walking w (RemoveFile p) todo = walking_without c w (RemoveFile p) todo (sym alike) in
    λ k state path stands at.
    let g = has_state (others k) (states k) state (sym (same k)) stands in
    subst (SparesTemps others) are spares k g.0 path g.1 (temp_alike g.0 state g.2 ∙ at)
spares_alike states others same s c alike spares = tt

set_alike : (b : Bool) (x a y o : Option State) → AreAlike y x → AreAlike o a → AreAlike (cond b y o) (cond b x a)
set_alike b x a y o h k = grind (arith, common_steps)

set_held : {A : Type 0} (b : Bool) (x a y o : Option A) → x ≡ y → a ≡ o → cond b x a ≡ cond b y o
set_held b x a y o h k = grind (arith, common_steps)

moved_alike : (reply : Option Reply) (m : Machine) (answer : NumberedAnswer) (o x : Option State) → AreAlike o x
    → AreAlike (unless_ended reply (option_map (λ (state : State). after state (answer_on m answer)) o)) (unless_ended reply (option_map (λ (state : State). after state (answer_seen answer)) x))
moved_alike reply m answer o x same = grind (arith, alike_after, without_bytes)

module _ (s : Setup) (c : SeenState) (f : NumberedState) (now : Now) (all : Holds s f now) (sees : Sees c f) where
  makes_next : (caller : ℕ) (made : StepMade) (reply : Option Reply) → MakesSeenStep c caller made reply → MakesNextStep f caller made reply
  makes_next caller made reply m =
      let g = has_state (f.system.states caller) (c.states caller) m.state (sees.states caller) m.stands in
      let w = wanted_plain g.0 m.state (step_seen made.step) g.2 m.wanted in
      record {
        state = g.0;
        stands = g.1;
        plain = w.0;
        wanted = w.1;
        same = w.2;
        held = subst (λ (o : Option NumberedTemp). IsOnHeld made.before o (f.opened caller) made.step) (sees.held caller)
            (subst (λ (o : Option (NumberedFile × PlainFile)). IsOnHeld made.before (c.held caller) o made.step) (sees.opened caller) m.held);
        spares = spares_alike f.system.states c.states sees.states g.0 m.state g.2 m.spares;
        here = m.here ∙ sees.machine;
        runs = m.runs;
        each = m.each;
        luck = m.luck;
        hint = m.hint;
        clean = m.clean;
        fits = m.fits;
        over = ends_plain (after g.0 (answer_in made)) (after m.state (answer_seen (answer_of made.step made.end))) reply (alike_after made.after g.0 m.state (answer_of made.step made.end) g.2) m.over;
      }

  may_next : (act : Act) → MayActSeen s c act → MayNext s f act
  may_next (begins caller command) (within, free, may, named, few) = (
    (within, no_state (f.system.states caller) (c.states caller) (sees.states caller) free, subst (λ n. MayBegin (call_site s n) (may_export s) (is_outside s) command) sees.begun may, named),
    subst (λ (n : ℕ). n + 1 ≤ 2 ^ 64) sees.begun few,
  )
  may_next (makes caller made reply) m = makes_next caller made reply m
  may_next (ends caller reply) (state, stands, none, ended) =
      let g = has_state (f.system.states caller) (c.states caller) state (sees.states caller) stands in
      (g.0, g.1, none_plain g.0 state g.2 none, ends_plain g.0 state (Some reply) g.2 ended)
  may_next (stops caller) (state, stands) =
      let g = has_state (f.system.states caller) (c.states caller) state (sees.states caller) stands in (g.0, g.1)

  sees_next : (act : Act) → MayActSeen s c act → Sees (after_seen s c act) (numbered_after s f act)
  sees_next (begins caller command) (within, free, may, named, few) = search (rules, set_alike, without_bytes)
  sees_next (makes caller made reply) m = record {
    machine = refl;
    states = λ k. set_alike (k == caller) _ (c.states k) _ (f.system.states k)
        (moved_alike reply made.after (answer_of made.step made.end) (f.system.states caller) (c.states caller) (sees.states caller)) (sees.states k);
    held = λ k. set_held (k == caller) (handed (answer_of made.step made.end) (c.held caller)) (c.held k) (handed (answer_of made.step made.end) (f.held caller)) (f.held k)
        (ap (handed (answer_of made.step made.end)) (sees.held caller)) (sees.held k);
    opened = λ k. set_held (k == caller) (handed_open made.after (answer_of made.step made.end) (c.opened caller)) (c.opened k) (handed_open made.after (answer_of made.step made.end) (f.opened caller)) (f.opened k)
        (ap (handed_open made.after (answer_of made.step made.end)) (sees.opened caller)) (sees.opened k);
    begun = sees.begun;
  }
  sees_next (ends caller reply) may = search (rules, set_alike)
  sees_next (stops caller) may = search (rules, set_alike)

seen_stores : (s : Setup) (apart : LieApart (home s) s.outside) (acts : List Act) (c : SeenState) (f : NumberedState) (now : Now) → Holds s f now → Sees c f → EachSeen s c acts → EachMay (MayStore s) s f.system acts
seen_stores s apart [] c f now all sees each = tt
seen_stores s apart (act ∷ acts) c f now all sees (may, later) =
    let next = may_next s c f now all sees act may in
    let g = next_act s apart f now all act next in (
      may_store s apart f now all act next,
      seen_stores s apart acts (after_seen s c act) (numbered_after s f act) (now_after s now g.0.r) g.1 (sees_next s c f now all sees act may) later,
    )

-- such acts have what `MayStore` asks of each
pub seen_acts_store : (s : Setup) (m : Machine) (cache : CacheOn s m) (acts : List Act) → EachSeen s (seen_at s m cache) acts → EachMay (MayStore s) s (system_at s m cache) acts
seen_acts_store s m cache acts each =
    let f : NumberedState = record { system = system_at s m cache; held = λ caller. None; opened = λ caller. None } in
    let sees : Sees (seen_at s m cache) f = record { machine = refl; states = λ k. refl; held = λ k. refl; opened = λ k. refl; begun = refl } in
    seen_stores s cache.legal.apart acts (seen_at s m cache) f (now_left s cache.past) (first_holds s m cache) sees each

pub seen_make_histories : SeenMakeHistories
seen_make_histories s m cache acts each = storing_makes_histories s m cache acts (seen_acts_store s m cache acts each)

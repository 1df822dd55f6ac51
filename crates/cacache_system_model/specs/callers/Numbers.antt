-- Calls whose temporary files have any numbers that differ. Each call is of a caller of its own, which has its number.
use Rattle.std.specs.Prelude.{◌≡◌, ◌≤◌, ◌<◌, ◌+◌, ◌-◌, ◌^◌, ◌==◌, ℕ, zero, suc, Bool, true, false, List, [], ◌∷◌, ◌++◌, Option, None, Some, nat_lt, if◌then◌else◌}
use Rattle.cacache_system_model.specs.{Machine.{Machine}, callers.{Acts.{Act, begins, stops, set_state}, Made.{now_left, CacheOn}, Seen.{SeenState, after_seen, MayActSeen, EachSeen, seen_at}, Losing.{steps_made}}}
use Rattle.cacache_calls.specs.{declared.command.Command.{Command, TheVariants.{Ls}}, Table.{opening}, Sound.{MayBegin}}
use Rattle.cacache_history.specs.{Setup.{Setup, call_site, may_export, is_outside}, History.{NamesIntegrity}}

-- callers as contracts of their stores see them, and which numbers are taken
pub record NumbersState : Type 0 where
  pub seen : SeenState
  pub taken : ℕ → Bool

-- a call begins, with the number of its caller
abbrev pub with_begun : Setup → ℕ → Command → SeenState → SeenState
with_begun s caller command f = record {
  machine = f.machine;
  states = set_state caller (Some (opening (call_site s caller) command)) f.states;
  held = f.held;
  opened = f.opened;
  begun = f.begun;
}

-- the state after an act
abbrev pub after_number : Setup → NumbersState → Act → NumbersState
after_number s f (begins caller command) = record {
  seen = with_begun s caller command f.seen;
  taken = λ k. if k == caller then true else f.taken k;
}
after_number s f act = record { seen = after_seen s f.seen act; taken = f.taken }

-- a call takes a number that no other has, below this one
abbrev pub MayNumber : ℕ → Setup → NumbersState → Act → Type 0
MayNumber most s f (begins caller command) =
    (caller < most) × (f.taken caller ≡ false)
    × MayBegin (call_site s caller) (may_export s) (is_outside s) command × NamesIntegrity command
MayNumber most s f act = MayActSeen s f.seen act

-- each act may come after the acts before it
abbrev pub EachNumber : ℕ → Setup → NumbersState → List Act → Type 0
EachNumber most s f [] = Unit {0}
EachNumber most s f (act ∷ acts) =
    MayNumber most s f act × EachNumber most s (after_number s f act) acts

-- before any act, the numbers of the past are taken
abbrev pub numbers_at : (s : Setup) (m : Machine) → CacheOn s m → NumbersState
numbers_at s m cache = record {
  seen = seen_at s m cache;
  taken = λ k. nat_lt k (now_left s cache.past).begun;
}

-- ---- the same acts, with all beginnings first

-- the command with which the call of a number begins
abbrev pub begun_with : List Act → ℕ → Option Command
begun_with [] k = None
begun_with (begins caller command ∷ acts) k =
    if k == caller then Some command else begun_with acts k
begun_with (act ∷ acts) k = begun_with acts k

-- a call begins; one whose number nobody takes is given up at once
abbrev pub begin_one : ℕ → Option Command → List Act
begin_one caller None = begins caller Ls ∷ stops caller ∷ []
begin_one caller (Some command) = begins caller command ∷ []

-- so many calls begin, from this number on
abbrev pub beginnings : ℕ → ℕ → (ℕ → Option Command) → List Act
beginnings zero first commands = []
beginnings (suc count) first commands =
    begin_one first (commands first) ++ beginnings count (first + 1) commands

-- all acts but beginnings
abbrev pub without_begins : List Act → List Act
without_begins [] = []
without_begins (begins caller command ∷ acts) = without_begins acts
without_begins (act ∷ acts) = act ∷ without_begins acts

-- all calls begin before any step, in the order of their numbers
abbrev pub begins_first : ℕ → ℕ → List Act → List Act
begins_first most taken acts =
    beginnings (most - taken) taken (begun_with acts) ++ without_begins acts

-- So these are acts as in `Seen`, whatever numbers calls have: a beginning makes no system call. Their steps are the same.
abbrev pub NumbersDiffer : Type 0
NumbersDiffer =
    (s : Setup) (m : Machine) (cache : CacheOn s m) (most : ℕ) (acts : List Act)
    → most ≤ s.callers → most ≤ 2 ^ 64 → (now_left s cache.past).begun ≤ most
    → EachNumber most s (numbers_at s m cache) acts
    → EachSeen s (seen_at s m cache) (begins_first most (now_left s cache.past).begun acts)
    × (steps_made (begins_first most (now_left s cache.past).begun acts) ≡ steps_made acts)

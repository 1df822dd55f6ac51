-- What a loss of power leaves on one machine, after what callers did there.
use Rattle.std.specs.{Prelude.{◌≡◌, Bool, true, false, List, [], ◌∷◌, ◌++◌, Some}, List.{AllByRecursion}}
use Rattle.cacache_core.specs.Paths.{Names}
use Rattle.cacache_disk.specs.Tree.{Tree}
use Rattle.cacache_value.specs.{Kinds.{PathKind, Temporary, path_kind}, Value.{value_of_tree}}
use Rattle.cacache_loss.specs.{Fixing.{Fixed, all_fixed}, Loss.{Loss, Lost, lost_at}, LostValues.{HoldsContent}, Moments.{lost_then}}
use Rattle.cacache_calls.specs.declared.command.Put.{Put}
use Rattle.cacache_history.specs.{declared.record.Record.{Record}, Setup.{Setup, home}, History.{History}, AddedEntries.{address_of_put}, durable.{QuietMoves.{FewCalls}, Outlasting.{DurablePut, Outlives, moment_at}}}
use Rattle.cacache_system_model.specs.{Machine.{Machine}, Chains.{StepMade}, Fixing.{fixed_after_all, LosesAsTold, LeavesSame}, callers.{Acts.{Act, steps, SystemState, after_acts, EachMay}, Made.{history_of, CacheOn, system_at, MakesHistory}, Storing.{MayStore}, Seen.{EachSeen, seen_at}}}

-- the steps that acts made
abbrev pub steps_made : List Act → List StepMade
steps_made [] = []
steps_made (steps caller made reply ∷ acts) = made ∷ steps_made acts
steps_made (act ∷ acts) = steps_made acts

-- whether paths of this kind are for temporary files
abbrev pub is_temporary : PathKind → Bool
is_temporary Temporary = true
is_temporary kind = false

-- A loss leaves the same on a machine and in a history, but for the bytes of temporary files. So what it leaves of the cache
-- is the same.
pub record LosesSame (h : History) (m : Machine) (fixed : Fixed) : Type 0 where
  pub nodes : (loss : Loss) (path : Names)
      → LeavesSame (is_temporary (path_kind (home h.setup) path))
      (lost_at (home h.setup) m.tree fixed loss path)
      (lost_then (home h.setup) (moment_at h h.records) loss path)
  pub values : (loss : Loss) (left : Tree) → Lost (home h.setup) m.tree fixed loss left
      → (other : Tree)
      × Lost (home h.setup) (moment_at h h.records).tree (moment_at h h.records).fixed loss other
      × (value_of_tree (home h.setup) left ≡ value_of_tree (home h.setup) other)

-- what a durable put of a history stored is there on a machine after a loss, if each call has a temporary file of its own
abbrev pub KeepsPuts : History → Machine → Fixed → Type 0
KeepsPuts h m fixed =
    (folder : Names) (p : Put) (loss : Loss) (left : Tree) → home h.setup ≡ Some folder → FewCalls h
    → DurablePut h folder p → Lost (Some folder) m.tree fixed loss left
    → HoldsContent (address_of_put p) (value_of_tree (Some folder) left)

-- What acts made of a machine on which all was fixed: a history, whose durable commits outlast each loss of power. It leaves
-- the same of the machine, with what was put durably.
pub record LosesAsHistory (s : Setup) (m : Machine) (past : List Record) (acts : List Act)
    (last : SystemState) : Type 0 where
  pub history : MakesHistory s past acts last
  pub outlives : Outlives (history_of s (past ++ history.records))
  pub loses : LosesSame (history_of s (past ++ history.records)) last.machine
      (fixed_after_all (all_fixed m.tree) (steps_made acts))
  pub puts : KeepsPuts (history_of s (past ++ history.records)) last.machine
      (fixed_after_all (all_fixed m.tree) (steps_made acts))

-- no act copies a file, and no sync failed before the last step
abbrev pub LoseAsTold : List Act → Type 0
LoseAsTold acts = AllByRecursion LosesAsTold (steps_made acts)

-- so it is of such acts, from a machine on that holds only the outside files, with all of them fixed
abbrev pub ActsLose : ((s : Setup) (m : Machine) → CacheOn s m → List Act → Type 0) → Type 0
ActsLose Are =
    (s : Setup) (m : Machine) (cache : CacheOn s m) (acts : List Act) → cache.past ≡ []
    → ((names : Names) → cache.temps names ≡ false) → LoseAsTold acts → Are s m cache acts
    → LosesAsHistory s m cache.past acts (after_acts s (system_at s m cache) acts)

-- so it is if each step has what `MayStore` asks
abbrev pub StoringLose : Type 0
StoringLose = ActsLose (λ s m cache acts. EachMay (MayStore s) s (system_at s m cache) acts)

-- and of callers as the contracts of their stores see them
abbrev pub SeenLose : Type 0
SeenLose = ActsLose (λ s m cache acts. EachSeen s (seen_at s m cache) acts)

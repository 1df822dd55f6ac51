-- Events in their order, and what a loss of power leaves at the end of a history.
use Rattle.std.specs.Prelude.{◌≡◌, ℕ, List, [], ◌∷◌, Some, slice_get, take}
use Rattle.cacache_history.specs.{History.{History}, declared.record.Record.{TheVariants.{Began, Stopped}, Record}, Setup.{home}, durable.Outlasting.{moment_at}}
use Rattle.cacache_world.specs.{declared.event.{Event.{Event}, Move.{Move}, WorldFault.{WorldFault}}, WorldKept.{AddsRecord, MovesOn, history_of, setup_of}, Faults.{CantBegin, CantMove}}
use Rattle.cacache_disk.specs.Tree.{Tree}
use Rattle.cacache_loss.specs.{declared.loss.Loss.{Loss}, Running.{chosen}, Loss.{Lost}}
use Rattle.cacache_world.specs.declared.event.Event.TheVariants as events
use Rattle.cacache_world.specs.declared.event.WorldFault.TheVariants as faults

-- the second history is the first with this event's record
abbrev pub Happens : Event → History → History → Type 0
Happens (events.Begin caller command) h h' = AddsRecord h (Began caller command) h'
Happens (events.Move caller luck) h h' = (move : Move) × MovesOn h caller luck move h'
Happens (events.Stop caller) h h' = AddsRecord h (Stopped caller) h'

-- the second history is the first with the records of these events, in their order
abbrev pub HappenAll : List Event → History → History → Type 0
HappenAll [] h h' = h' ≡ h
HappenAll (event ∷ events) h h' =
    (next : History) × Happens event h next × HappenAll events next h'

-- why an event can't be; for a beginning, memory may be refused before anything else is checked
abbrev pub CantBe : Event → History → WorldFault → Type 0
CantBe (events.Begin caller command) h faults.OutOfMemory = Unit {0}
CantBe (events.Begin caller command) h fault = CantBegin h caller command fault
CantBe (events.Move caller luck) h fault = CantMove h caller fault
CantBe (events.Stop caller) h fault = CantMove h caller fault

-- the events before some place happened, and the one there can't be
abbrev pub StopAt : List Event → History → History → WorldFault → Type 0
StopAt events h h' fault =
    (n : ℕ) × (event : Event) × (slice_get events n ≡ Some event)
    × HappenAll (take n events) h h' × CantBe event h' fault

-- ---- what a loss of power leaves at the end of a history

-- a tree is the one that this loss leaves there
abbrev pub LeftBy : History → Loss → Tree → Type 0
LeftBy h loss t =
    Lost (home h.setup) (moment_at h h.records).tree (moment_at h h.records).fixed
    (chosen loss.undone.items loss.tails.items) t

-- this holds at the end of these records of a world, however many callers it has
abbrev pub LeftAfter :
    List ℕ → List (List ℕ × List ℕ) → List Record → Loss → Tree → Type 0
LeftAfter cache outside records loss t =
    (callers : ℕ)
    → LeftBy (history_of (setup_of cache outside callers) records) loss t

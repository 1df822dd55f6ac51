-- Which commands a call may begin with, and why an event can't be, or an outside file.
use Rattle.std.specs.Prelude.{◌≡◌, ℕ, Bool, true, false, List, ◌⊎◌, ◌≤◌, ◌<◌, Option, None, Some, Ok, Err, slice_get, take}
use Rattle.cacache_calls.specs.{declared.command.Command.{Command}, Linking.{based}, Sound.{MayBegin}}
use Rattle.cacache_history.specs.{Setup.{Setup, call_site, may_export, is_outside}, History.{NamesIntegrity, History, Call}}
use Rattle.cacache_world.specs.{declared.event.WorldFault.{WorldFault}, WorldKept.{setup_of, last}, Turned.{DiskJob}}
use Rattle.cacache_core.specs.declared.errors.Fault.{Fault}
use Rattle.cacache_disk.specs.{Tree.{Tree, bare}, Apply.{planted}}
use Rattle.cacache_value.specs.Placed.{with_files}
use Rattle.cacache_calls.specs.declared.command.Command.TheVariants as commands
use Rattle.cacache_world.specs.declared.event.WorldFault.TheVariants as faults

-- a command that a call may begin with
abbrev pub MayAsk : Setup → ℕ → Command → Type 0
MayAsk s number command =
    MayBegin (call_site s number) (may_export s) (is_outside s) command × NamesIntegrity command

-- no call begins with it: an export that doesn't go apart from the cache and from each outside
-- file, or a link to no outside file
abbrev pub IsBad : Setup → Command → Type 0
IsBad s (commands.Export source e) = may_export s e.to ≡ false
IsBad s (commands.Link l) = is_outside s (based s.base l.target) ≡ false
IsBad s command = ⊥

-- a test says whether a call may begin with a command
abbrev pub Judges : Bool → Setup → ℕ → Command → Type 0
Judges true s number command = MayAsk s number command
Judges false s number command = IsBad s command

-- it says so in a world, whatever the number and however many callers there are
abbrev pub JudgesIn : Bool → List ℕ → List (List ℕ × List ℕ) → Command → Type 0
JudgesIn may cache outside command =
    (callers n : ℕ) → Judges may (setup_of cache outside callers) n command

-- why a command is turned away: it is bad, or memory was refused
abbrev pub IsTurnedAway : Setup → Command → WorldFault → Type 0
IsTurnedAway s command faults.BadCommand = IsBad s command
IsTurnedAway s command faults.OutOfMemory = Unit {0}
IsTurnedAway s command fault = ⊥

-- ---- what the list of jobs shows

-- one of so many callers, without a call
abbrev pub IsFreeAt : ℕ → List (Option DiskJob) → ℕ → Type 0
IsFreeAt count jobs caller = (caller < count) × (slice_get jobs caller ≡ Some None)

-- why nothing can be moved or stopped here
abbrev pub IsIdleFault : ℕ → List (Option DiskJob) → ℕ → WorldFault → Type 0
IsIdleFault count jobs caller faults.NoCaller = count ≤ caller
IsIdleFault count jobs caller faults.Idle = IsFreeAt count jobs caller
IsIdleFault count jobs caller fault = ⊥

-- why nothing can begin here
abbrev pub IsBusyFault : ℕ → List (Option DiskJob) → ℕ → WorldFault → Type 0
IsBusyFault count jobs caller faults.NoCaller = count ≤ caller
IsBusyFault count jobs caller faults.Busy =
    (job : DiskJob) × (slice_get jobs caller ≡ Some (Some job))
IsBusyFault count jobs caller fault = ⊥

-- why no call of the command is ready to begin here
abbrev pub IsUnready : ℕ → List (Option DiskJob) → ℕ → Setup → Command → WorldFault → Type 0
IsUnready count jobs caller s command faults.NoCaller = count ≤ caller
IsUnready count jobs caller s command faults.Busy =
    (job : DiskJob) × (slice_get jobs caller ≡ Some (Some job))
IsUnready count jobs caller s command faults.Idle = ⊥
IsUnready count jobs caller s command faults.BadCommand =
    IsFreeAt count jobs caller × IsBad s command
IsUnready count jobs caller s command faults.OutOfMemory = IsFreeAt count jobs caller

-- ---- what the history says

-- one of the callers, without a call
abbrev pub IsFree : History → ℕ → Type 0
IsFree h caller = (caller < h.setup.callers) × ((last h).calls caller ≡ None)

-- a caller with a call
abbrev pub HasCall : History → ℕ → Type 0
HasCall h caller = (call : Call) × ((last h).calls caller ≡ Some call)

-- why a caller can't move its call, or give it up
abbrev pub CantMove : History → ℕ → WorldFault → Type 0
CantMove h caller faults.NoCaller = h.setup.callers ≤ caller
CantMove h caller faults.Idle = IsFree h caller
CantMove h caller faults.OutOfMemory = HasCall h caller
CantMove h caller fault = ⊥

-- why a caller can't begin a call of this command
abbrev pub CantBegin : History → ℕ → Command → WorldFault → Type 0
CantBegin h caller command faults.NoCaller = h.setup.callers ≤ caller
CantBegin h caller command faults.Busy = HasCall h caller
CantBegin h caller command faults.Idle = ⊥
CantBegin h caller command faults.BadCommand = IsFree h caller × IsBad h.setup command
CantBegin h caller command faults.OutOfMemory = IsFree h caller

-- ---- outside files

-- why a file can't be put next to those before it: its path isn't free, or can't name a file
abbrev pub CantPlace : List ℕ → List (List ℕ × List ℕ) → Tree → List ℕ × List ℕ → WorldFault
    → Type 0
CantPlace cache before t file faults.BadCommand =
    (may_export (setup_of cache before 0) file.0 ≡ false)
    ⊎ ((fault : Fault) × (planted t file.0 file.1 ≡ Err fault))
CantPlace cache before t file faults.OutOfMemory = Unit {0}
CantPlace cache before t file fault = ⊥

-- one of the files can't be put on the disk that those before it make
abbrev pub HasUnplaced : List ℕ → List (List ℕ × List ℕ) → Type 0
HasUnplaced cache files =
    (n : ℕ) × (file : List ℕ × List ℕ) × (t : Tree)
    × (slice_get files n ≡ Some file) × (with_files bare (take n files) ≡ Ok t)
    × CantPlace cache (take n files) t file faults.BadCommand

-- why there is no world of these outside files
abbrev pub CantOpen : List ℕ → List (List ℕ × List ℕ) → WorldFault → Type 0
CantOpen cache files faults.BadCommand = HasUnplaced cache files
CantOpen cache files faults.OutOfMemory = Unit {0}
CantOpen cache files fault = ⊥

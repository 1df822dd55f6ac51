-- What each world keeps, and what its events add.
use Rattle.std.specs.Prelude.{◌≡◌, ℕ, List, [], ◌++◌, ◌∷◌, Option, None, Some, codes, slice_get, slice_set, take, true, vec_len, IsTrue}
use Rattle.cacache_disk.specs.{declared.luck.Luck.{Luck}, Tree.{Tree}}
use Rattle.cacache_calls.specs.{State.{over}, Runs.{plain_reply}}
use Rattle.cacache_jobs.specs.Jobs.{can_go_on}
use Rattle.cacache_history.specs.{declared.record.Record.{Record, TheVariants.{Moved}}, Setup.{Setup, may_export}, History.{History, Call, Made, IsLegal, MayCome, Now, now_at}}
use Rattle.cacache_world.specs.{declared.{event.Move.{Move}, world.World.TheInside.{Inside}}, Turned.{DiskJob, JobStands, told_by}}
use Rattle.cacache_world.specs.declared.event.Move.TheVariants as moves

-- ---- what a world shows

-- what callers share in a world of these parts: relative link targets start at the top folder
abbrev pub setup_of : List ℕ → List (List ℕ × List ℕ) → ℕ → Setup
setup_of cache outside callers =
    record { cache = cache; base = codes "/"; outside = outside; callers = callers }

-- the history of these records
abbrev pub history_of : Setup → List Record → History
history_of setup records = record { setup = setup; records = records }

-- the history that a world shows
abbrev pub history_told : Inside → History
history_told w = history_of (setup_of w.cache w.outside.items (vec_len w.calls)) w.records.items

-- with one more record
abbrev pub adding : History → Record → History
adding h r = history_of h.setup (h.records ++ r ∷ [])

-- what is there at the end of a history
abbrev pub last : History → Now
last h = now_at h h.records

-- ---- outside files

-- a path lies apart from the cache and from these files, if it names something
abbrev pub LiesApart : List ℕ → List (List ℕ × List ℕ) → List ℕ → Type 0
LiesApart cache files path = may_export (setup_of cache files 0) path ≡ true

-- each file lies apart from the cache and from the files before it
abbrev pub FilesAreApart : List ℕ → List (List ℕ × List ℕ) → Type 0
FilesAreApart cache files =
    (n : ℕ) (file : List ℕ × List ℕ) → slice_get files n ≡ Some file
    → LiesApart cache (take n files) file.0

-- ---- what it keeps

-- a caller's job is in the state of its call
abbrev pub JobAt : Option (Option DiskJob) → Option Call → Type 0
JobAt None call = call ≡ None
JobAt (Some None) call = call ≡ None
JobAt (Some (Some job)) None = ⊥
JobAt (Some (Some job)) (Some call) = JobStands job call.state × IsTrue (can_go_on job)

-- the history is legal, and leads to this disk and these jobs
pub record Keeps (h : History) (t : Tree) (b : ℕ) (jobs : List (Option DiskJob)) : Type 0 where
  pub legal : IsLegal h
  pub tree : (last h).tree ≡ t
  pub begun : (last h).begun ≡ b
  pub calls : (caller : ℕ) → JobAt (slice_get jobs caller) ((last h).calls caller)

-- a world's legal history leads to its disk and its jobs
abbrev pub WorldIsKept : Inside → Type 0
WorldIsKept w = Keeps (history_told w) w.disk w.begun w.calls.items

-- ---- places of calls

-- a caller's place holds a job
abbrev pub HasJob : List (Option DiskJob) → ℕ → Type 0
HasJob jobs caller = (job : DiskJob) × (slice_get jobs caller ≡ Some (Some job))

-- a job that was taken from its place
pub record IsLifted (old : List (Option DiskJob)) (caller : ℕ) (job : DiskJob)
    (new : List (Option DiskJob)) : Type 0 where
  pub here : slice_get old caller ≡ Some (Some job)
  pub gone : new ≡ slice_set old caller None

-- ---- what events add

-- one more record, which may come
pub record AddsRecord (h : History) (r : Record) (h' : History) : Type 0 where
  pub may : MayCome h.setup (last h) r
  pub added : h' ≡ adding h r

-- if no step was made, the call was over before, and its own reply is given
abbrev pub TellsOwn : History → ℕ → Option Made → Move → Type 0
TellsOwn h caller (Some made) _ = Unit {0}
TellsOwn h caller None moves.More = ⊥
TellsOwn h caller None (moves.Done reply) =
    (call : Call) × ((last h).calls caller ≡ Some call) × (call.state ≡ over (plain_reply reply))

-- one more move: the step that the caller's call wants, the luck, the answer and the tree of the
-- disk, and the reply that the caller gets
abbrev pub MovesOn : History → ℕ → Luck → Move → History → Type 0
MovesOn h caller luck move h' =
    (made : Option Made) × AddsRecord h (Moved caller luck made (told_by move)) h'
    × TellsOwn h caller made move

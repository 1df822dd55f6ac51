-- The file of a polled writer while one worker alone writes it: it has the bytes that the core holds.
use Rattle.std.specs.Prelude.{◌≡◌, ◌⊎◌, ◌++◌, ℕ, List, Option, Some, None, Result, ⊤}
use Rattle.cacache_core.specs.declared.{errors.{Error.{Error}, Fault.{Fault}}, integrity.algorithm.Algorithm.{Algorithm}}
use Rattle.cacache_store.specs.Outside as io
use Rattle.cacache_store.specs.declared.store.plain.PlainTemp.{PlainTemp}
use Rattle.cacache_polled.specs.{declared.kinds.{Work.{Work}, State.{State, TheVariants.{Idle, Busy, Closed}}, Completion.{Completion}}, Table.{Ask}, Events.{Event, seen, HasHeld, HasSeen}}
use Rattle.cacache_writers.specs.{declared.kept.Kept.{Kept}, Sharing.{IsNew, IsPolled, IsEnded, taken_out, left_after}, Turning.{EndsWork}}

-- the work that a core has out
abbrev pub work_of : State → Option Work
work_of Idle = None
work_of (Busy w) = Some w
work_of Closed = None

module _ {T : Type 0} (temp : T → PlainTemp) (start : List ℕ) where
  -- the file has the bytes it began with, then those that are held after these polls and endings
  abbrev pub HasBytes : List Event → T → Type 0
  HasBytes es file = (temp file).bytes ≡ Some (start ++ (seen es).held)

  -- after these the file lies next to the core, and the core's work waits for a worker
  pub record IsWhole (k : Kept T) (es : List Event) (file : T) : Type 0 where
    pub seen_is : HasSeen k.core es
    pub work_is : k.work ≡ work_of k.core.desk.state
    pub temp_is : k.temp ≡ Some file
    pub bytes_are : HasBytes es file

  -- after these the worker has this work out, and the file
  pub record IsAway (w : Work) (file : T) (k : Kept T) (es : List Event) : Type 0 where
    pub seen_is : HasSeen k.core es
    pub busy_is : k.core.desk.state ≡ Busy w
    pub work_is : k.work ≡ None
    pub temp_is : k.temp ≡ None
    pub bytes_are : HasBytes es file

  abbrev pub Whole : Kept T → Type 0
  Whole k = (es : List Event) × (file : T) × IsWhole k es file

  abbrev pub Away : Work → T → Kept T → Type 0
  Away w file k = (es : List Event) × IsAway w file k es

  -- the file was removed, or couldn't be, and no work comes any more
  abbrev pub IsGone : Kept T → Type 0
  IsGone k = (k.temp ≡ None) × (k.core.desk.state ≡ Closed)

  -- a new core's file is whole
  abbrev pub NewIsWhole : Type 0
  NewIsWhole =
      (algorithm : Algorithm) (file : T) (k : Kept T) → IsNew algorithm file k
      → (temp file).bytes ≡ Some start → Whole k

  -- a poll keeps it, and keeps what the worker has out
  abbrev pub PollKeeps : Type 0
  PollKeeps =
      (old new : Kept T) (a : Ask) (r : Result (Option ℕ) Error) → IsPolled old new a r
      → (Whole old → Whole new) × ((w : Work) (file : T) → Away w file old → Away w file new)

  -- whoever takes the work has the file out
  abbrev pub TakeBrings : Type 0
  TakeBrings =
      (k : Kept T) (w : Work) → k.work ≡ Some w → Whole k
      → (file : T) × (taken_out k.work k.temp ≡ Some file)
      × Away w file (record k { work = None; temp = left_after k.work k.temp })

  -- once the work is done and its end reported, the file is whole again, or gone
  abbrev pub EndRestores :
      (T → Option (List ℕ)) → (T → ℕ → Result ℕ io.Error → T → Type 0)
      → (T → Result ⊤ Fault → Type 0) → Type 0
  EndRestores contents writes removes =
      (old new : Kept T) (w : Work) (file : T) (after : Option T) (c : Completion)
      → Away w file old → EndsWork temp contents writes removes w (Some file) after c
      → IsEnded old new c → new.temp ≡ after → Whole new ⊎ IsGone new

  -- the file that a commit then moves has the bytes that the commit finds held
  abbrev pub WholeHolds : Type 0
  WholeHolds =
      (k : Kept T) → Whole k
      → (file : T) × (held : List ℕ) × (k.temp ≡ Some file) × HasHeld k.core held
      × ((temp file).bytes ≡ Some (start ++ held))

-- What a worker's turn does, and what its work does to a temporary file.
use Rattle.std.specs.{Prelude.{◌≡◌, ◌≤◌, ℕ, List, Option, Some, None, Result, Ok, Err, ⊤, take, length, ◌⊎◌, ◌↔◌, ◌+◌, ◌-◌, ◌^◌, Bool, true, false, min, max}, Io.KnownBytes.{Appends, Keeps}, IoError.{error_kind}, Int.{div_ceil}, List.{FoldsTo}, Slice.Iter.{chunk_count}, Arc.{arc_value}}
use Rattle.cacache_core.specs.{declared.errors.Fault.{Fault, TheVariants.{Closed}}, Errors.{fault_of}}
use Rattle.cacache_store.specs.declared.store.plain.PlainTemp.{PlainTemp}
use Rattle.cacache_polled.specs.declared.kinds.{Work.{Work, TheVariants.{Write, Flush, Remove}}, Completion.{Completion, TheVariants.{Wrote, Failed, Flushed, Removed}}}
use Rattle.cacache_writers.specs.declared.{kept.Told.{Told}, shared.Shared.{Shared}, worker.{Turned.{Turned, TheVariants.{Did, NoWork, NotYet, Over}}, Worker.{Worker}}}
use Rattle.cacache_jobs.specs.declared.gate.Pass.{Pass}
use Rattle.cacache_store.specs.Outside as io
use Rattle.cacache_jobs.specs.declared.gate.Pass.TheVariants as passes

-- the ending fits the work
abbrev pub FitsWork : Work → Completion → Type 0
FitsWork (Write b) (Wrote n) = n ≤ length b
FitsWork Flush Flushed = ⊤
FitsWork Remove Removed = ⊤
FitsWork w (Failed f) = ⊤
FitsWork w c = ⊥

-- what the work did to the file: a write appended as many bytes as its ending says, and a failed one none
abbrev pub Appended : Option (List ℕ) → Option (List ℕ) → List ℕ → Completion → Type 0
Appended old new b (Wrote n) = Appends old new (take n b)
Appended old new b c = Keeps old new

-- the file gave this answer to its write of so many bytes
abbrev pub Answered :
    {T : Type 0} → (T → ℕ → Result ℕ io.Error → T → Type 0) → T → ℕ → T → Completion → Type 0
Answered writes old size new (Wrote n) = writes old size (Ok n) new
Answered writes old size new (Failed f) =
    (e : io.Error) × writes old size (Err e) new × (f ≡ fault_of (error_kind e))
Answered writes old size new c = ⊥

-- the file gave this answer to its removal
abbrev pub RemovalAnswered : {T : Type 0} → (T → Result ⊤ Fault → Type 0) → T → Completion → Type 0
RemovalAnswered removes file Removed = removes file (Ok tt)
RemovalAnswered removes file (Failed f) = removes file (Err f)
RemovalAnswered removes file c = ⊥

-- what contracts know of the file: what it is seen as, the bytes that a flush keeps, and what its writes and its
-- removal may answer
module _ {T : Type 0} (temp : T → PlainTemp) (contents : T → Option (List ℕ))
    (writes : T → ℕ → Result ℕ io.Error → T → Type 0) (removes : T → Result ⊤ Fault → Type 0) where
  -- what the work did to the file; it is given back, unless it was to be removed
  abbrev pub DoesWork : Work → T → Option T → Completion → Type 0
  DoesWork (Write b) old (Some new) c =
      Appended (temp old).bytes (temp new).bytes b c × Answered writes old (length b) new c
  DoesWork Flush old (Some new) c = Keeps (contents old) (contents new)
  DoesWork Remove old None c = RemovalAnswered removes old c
  DoesWork w old new c = ⊥

  -- the work was done with the file that went out with it; without a file it fails
  abbrev pub EndsWork : Work → Option T → Option T → Completion → Type 0
  EndsWork w (Some old) new c = FitsWork w c × DoesWork w old new c
  EndsWork w None new c = (new ≡ None) × (c ≡ Failed Closed)

  -- what was taken was done, and its ending reported; or there was nothing to take
  abbrev pub WorksBy :
      (Option Work × Option T → Type 0) → (Option T → Completion → Told T → Type 0) → Option (Told T)
      → Type 0
  WorksBy takes ends None = (file : Option T) × takes (None, file)
  WorksBy takes ends (Some told) =
      (w : Work) × (old new : Option T) × (c : Completion)
      × takes (Some w, old) × EndsWork w old new c × ends new c told

-- ---- what a worker's turn does, by what it asks and makes

-- one more; a count of 2^64 - 1 stays there
abbrev pub one_more : ℕ → ℕ
one_more n = min (n + 1) (2 ^ 64 - 1)

-- what was answered: whether it is over, whether work is out, what the gate said, what work was done, what was ended
module _ {T : Type 0} (over out : Bool → Type 0) (asks : ℕ → Pass → Type 0)
    (works ends : Option (Told T) → Type 0) where
  -- the gate was asked once, since work was out, and it said so
  abbrev pub Asked : ℕ → ℕ → Pass → Type 0
  Asked old new said = over false × out true × asks old said × (new ≡ one_more old)

  -- what a turn answers, with the number of the gate's turn before it and after it
  abbrev pub TurnsTo : ℕ → ℕ → Turned → Type 0
  TurnsTo old new Did = Asked old new passes.Go × ((told : Told T) × works (Some told))
  TurnsTo old new NoWork =
      (over false × out false × (new ≡ old)) ⊎ (Asked old new passes.Go × works None)
  TurnsTo old new NotYet = Asked old new passes.NotYet
  TurnsTo old new Over =
      (over true × (new ≡ old)) ⊎ (Asked old new passes.Quit × ((told : Option (Told T)) × ends told))

-- how often a turn asked its gate: once if it did work or had to wait, and otherwise at most once
abbrev pub CountsAsks : ℕ → ℕ → Turned → Type 0
CountsAsks old new Did = new ≡ one_more old
CountsAsks old new NotYet = new ≡ one_more old
CountsAsks old new t = (new ≡ old) ⊎ (new ≡ one_more old)

-- what was answered: what a worker takes that waits for nobody, and how its work is reported
module _ {T : Type 0} (temp : T → PlainTemp) (contents : T → Option (List ℕ))
    (writes : T → ℕ → Result ℕ io.Error → T → Type 0) (removes : T → Result ⊤ Fault → Type 0)
    (takes : Option (Option Work × Option T) → Type 0)
    (ends : Option T → Completion → Told T → Type 0) where
  -- what was taken at once was done, and its ending reported
  abbrev pub WorksOn : Option (Told T) → Type 0
  WorksOn = WorksBy temp contents writes removes (λ taken. takes (Some taken)) ends

  -- what such a turn answers: no gate holds it back
  abbrev pub FreelyTurns : Turned → Type 0
  FreelyTurns Did = (told : Told T) × WorksOn (Some told)
  FreelyTurns NoWork = WorksOn None
  FreelyTurns NotYet = ⊥
  FreelyTurns Over = takes None

-- what came of two turns: work was done if one of them did it, and no more comes if both are over
abbrev pub IsBoth : Turned → Turned → Turned → Type 0
IsBoth one other r =
    ((r ≡ Did) ↔ ((one ≡ Did) ⊎ (other ≡ Did))) × ((r ≡ Over) ↔ ((one ≡ Over) × (other ≡ Over)))

-- each took one turn, and this came of all of them
abbrev pub TurnEach : {W : Type 0} → (W → Turned → Type 0) → List W → Turned → Type 0
TurnEach turns = FoldsTo (λ all w next. (t : Turned) × turns w t × IsBoth all t next) Over

-- how many of so many writers each thread has, but the last one, and how many threads that makes
abbrev pub share_size : ℕ → ℕ → ℕ
share_size writers threads = max (div_ceil writers (max threads 1)) 1

abbrev pub share_count : ℕ → ℕ → ℕ
share_count writers threads = chunk_count writers (share_size writers threads)

-- a worker that is newly made for what is shared
abbrev pub IsWorkerOf : {T : Type 0} → Shared T → Worker T → Type 0
IsWorkerOf shared w = (arc_value w.shared ≡ shared) × (w.asked ≡ 0)

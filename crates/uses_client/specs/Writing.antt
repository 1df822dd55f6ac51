-- What the calls of an open writer leave, and a whole write that is polled.
use Rattle.std.specs.Prelude.{◌≡◌, ℕ, List, Option, None, Some, IfErr, IfOk, OnOk, MatchResult, Result, length, ◌≤◌, [], ◌∷◌, ◌++◌, Ok, Err, ⊤}
use Rattle.cacache.specs.{Calls.{Error, Said}, Integrities.{Hash}, Laws.{AreAsExpected, HasContent, IsCache, IsReady, IsWriting, KeepsUntouched, LeadsToEntry, LeavesKnownCache, MemWriter, answered, lies_under, said_integrity}, Stores.{LogItem}, OpenHandles.{Tells, all_taken, left, left_over, next_piece}}
use Rattle.uses_client.specs.Packages.{FailsStoring}
use Rattle.futures.specs.declared.task.Poll.{Poll, TheVariants.{Ready, Pending}}

-- it took all of these bytes, with the same file, and nothing else happened; or it was given up, and all
-- that was known stays
abbrev pub Fed :
    List ℕ → Option (List ℕ) → Said → List ℕ → MemWriter → Result MemWriter Error
    → List LogItem → List LogItem → Type 0
Fed cache key s bytes before r old new =
    MatchResult r
    (λ w. IsWriting cache key s bytes w × (w.writer.path ≡ before.writer.path) × (new ≡ old))
    (λ e. LeavesKnownCache cache old new)

-- the key leads to an entry of what was said, and the bytes are as expected and lie there, if nothing did;
-- all else stays. On a cache that is ready the error says why
pub record StoredWith (cache key : List ℕ) (s : Said) (bytes : List ℕ)
    (r : Result (List Hash) Error) (old new : List LogItem) : Type 0 where
  pub sound : IsCache cache new
  pub stored : IfOk r (λ i. i ≡ answered (said_integrity s bytes) s.integrity (Some key))
  pub expected : OnOk r (AreAsExpected s bytes)
  pub leads : IfOk r (λ i. LeadsToEntry cache key s i (length bytes) new)
  pub content : OnOk r (lies_under cache (said_integrity s bytes) old ≡ None
      → HasContent cache (said_integrity s bytes) bytes new)
  pub keeps : KeepsUntouched cache (Some key) (said_integrity s bytes) bytes old new
  pub fails : IsReady cache old → IfErr r (FailsStoring s bytes)

-- ---- a whole write that is polled: what the writer answered, and what comes of it

-- what a writer answers
abbrev pub Answer : Type 0
Answer = Poll (Result ℕ Error)

-- it gave these answers, one after another, each about the next piece of what was left
abbrev pub GaveAnswers :
    {W : Type 0} → (W → List ℕ → Answer → W → Type 0) → W → List ℕ → List Answer → W → Type 0
GaveAnswers polls old rest [] new = new ≡ old
GaveAnswers {W} polls old rest (a ∷ more) new =
    (next : W) × polls old (next_piece rest) a next × GaveAnswers polls next (left rest a) more new

-- the write's own answer to the last of them, with what is left then
abbrev pub TellsLast : List Answer → List ℕ → Poll (Result ⊤ Error) → Type 0
TellsLast answers after r =
    (before : List Answer) × (last : Answer) × (answers ≡ before ++ last ∷ []) × Tells last after r

-- a write was polled at most so many times: the writer's answers, at most one for each poll, and what they leave. If the
-- write is Ok, they took each byte once, in order. An error comes of the last of them. If it is pending, each poll had one
pub record WritesWithin {W : Type 0} (polls : W → List ℕ → Answer → W → Type 0)
    (old : W) (rest : List ℕ) (new : W) (after : List ℕ)
    (times : ℕ) (r : Poll (Result ⊤ Error)) : Type 0 where
  pub answers : List Answer
  pub given : GaveAnswers polls old rest answers new
  pub leaves : after ≡ left_over rest answers
  pub count : length answers ≤ times
  pub whole : r ≡ Ready (Ok tt) → all_taken rest answers ≡ rest
  pub fails : (e : Error) → r ≡ Ready (Err e) → TellsLast answers after r
  pub pending : r ≡ Pending → length answers ≡ times

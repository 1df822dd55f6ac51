-- Contents that are written in pieces: how they open, what they took and what their commit is.
use Rattle.std.specs.{Prelude.{◌≡◌, ◌≢◌, ◌⊎◌, ◌<◌, ◌^◌, ◌-◌, ◌++◌, ℕ, List, [], Option, None, Result, Ok, Err, min, length}, Io.KnownBytes.{Appends}, IoError.{error_kind}}
use Rattle.cacache_core.specs.{declared.{errors.Error.{Error, TheVariants.{IoError, OutOfMemory}}, integrity.algorithm.Algorithm.{Algorithm}}, Errors.{fault_of}, Hashers.{Holds, algorithm_of}, Integrity.{integrity_under}}
use Rattle.cacache_store.specs.Outside as io
use Rattle.cacache_calls.specs.{Common.{blank}, declared.{command.Options.{Options}, reply.Reply.{Reply}, carried.Commit.{Commit}}, Steps.{temp_folder, temp_path}, Runs.{Ran}, Storing.{persist}, SingleSteps.{Does, FailsAt}}
use Rattle.cacache_store.specs.declared.store.answer.Answer.TheVariants as answers
use Rattle.cacache_store.specs.{declared.{env.Env.{Env}, store.{log.LogItem.{LogItem}, plain.PlainTemp.{PlainTemp}}}, Outside.{AddsAnswer}, Plain.{PlainStep, PlainAnswer}}
use Rattle.cacache_store.specs.declared.store.step.Step.TheVariants as steps
use Rattle.cacache_sync.specs.declared.content.writer.Writer.{Writer}

-- ---- bytes in pieces

-- how many bytes are counted: a count of 2^64 - 1 stays there
abbrev pub counted_bytes : List ℕ → ℕ
counted_bytes bytes = min (length bytes) (2 ^ 64 - 1)

-- the writer took these bytes so far
abbrev pub HasTaken : {T : Type 0} → Writer T → List ℕ → Type 0
HasTaken w bytes = Holds w.hasher bytes × (w.count ≡ counted_bytes bytes)

-- the writer took these bytes more
abbrev pub Takes : {T : Type 0} → Writer T → Writer T → List ℕ → Type 0
Takes old new more = (bytes : List ℕ) → HasTaken old bytes → HasTaken new (bytes ++ more)

-- it took a beginning of these, and so did its file
abbrev pub TakesPart : {T : Type 0} → (T → PlainTemp) → Writer T → Writer T → List ℕ → Type 0
TakesPart temp old new bytes =
    (front rest : List ℕ) × (bytes ≡ front ++ rest) × Takes old new front
    × Appends (temp old.file).bytes (temp new.file).bytes front

-- the writer is still one of the same cache, temporary file and algorithm
abbrev pub IsSameWriter : {T : Type 0} → (T → PlainTemp) → Writer T → Writer T → Type 0
IsSameWriter temp old new =
    (new.cache ≡ old.cache) × (new.path ≡ old.path)
    × (algorithm_of new.hasher ≡ algorithm_of old.hasher)
    × ((temp new.file).path ≡ (temp old.file).path)

-- ---- why not all of a buffer was taken

module _ {T : Type 0} (writes : T → ℕ → Result ℕ io.Error → T → Type 0) where
  -- a write of some bytes was answered so, and left the file so
  abbrev pub WriteGave : Result ℕ io.Error → T → Type 0
  WriteGave answer after =
      (before : T) × (size : ℕ) × (0 < size) × writes before size answer after

  -- a write was interrupted
  abbrev pub IsInterrupted : Type 0
  IsInterrupted =
      (e : io.Error) × (after : T) × WriteGave (Err e) after × (error_kind e ≡ io.Interrupted)

  -- the last write failed with this error, or took nothing; or writes were interrupted too often
  abbrev pub WholeFails : T → io.Error → Type 0
  WholeFails file e =
      WriteGave (Err e) file
      ⊎ (WriteGave (Ok 0) file × (error_kind e ≡ io.WriteZero))
      ⊎ (IsInterrupted × (error_kind e ≡ io.TimedOut))

-- an interrupted read or write is tried again, and its error isn't reported
abbrev pub IsRetried : io.Error → Type 0
IsRetried e = error_kind e ≢ io.Interrupted

-- all of a buffer couldn't be written: a write failed with this fault, took nothing, or was interrupted too often;
-- or memory ran out
abbrev pub IsWriteError : {T : Type 0} → (T → ℕ → Result ℕ io.Error → T → Type 0) → Error → Type 0
IsWriteError writes OutOfMemory = Unit {0}
IsWriteError {T} writes (IoError fault message) =
    (file : T) × (e : io.Error) × WholeFails writes file e × IsRetried e
    × (fault ≡ fault_of (error_kind e))
IsWriteError writes e = ⊥

-- ---- the opening: before and after

-- the steps that an opening makes
abbrev pub make_folder : List ℕ → PlainStep
make_folder cache = steps.MakeDirs (temp_folder cache)

-- the step that makes the temporary file
abbrev pub make_file : List ℕ → ℕ → PlainStep
make_file cache number = steps.CreateTemp (temp_path cache number)

-- a writer of this cache, file and algorithm that took nothing yet
pub record IsFresh {T : Type 0} (cache : List ℕ) (number : ℕ) (a : Algorithm) (w : Writer T)
    : Type 0 where
  pub cache_is : w.cache ≡ cache
  pub path_is : w.path ≡ temp_path cache number
  pub algorithm_is : algorithm_of w.hasher ≡ a
  pub empty : HasTaken w []

module _ (cache : List ℕ) (number : ℕ) where
  -- the folder was made, and then the file
  abbrev pub Makes : PlainTemp → Option (List LogItem) → Option (List LogItem) → Type 0
  Makes file old new =
      (mid : Option (List LogItem)) × Does (make_folder cache) answers.Done old mid
      × Does (make_file cache number) (answers.Temp file) mid new

  -- the folder wasn't made, or it was and the file wasn't
  abbrev pub FailsToMake : Error → Option (List LogItem) → Option (List LogItem) → Type 0
  FailsToMake e old new =
      FailsAt (make_folder cache) e old new
      ⊎ ((mid : Option (List LogItem)) × Does (make_folder cache) answers.Done old mid
      × FailsAt (make_file cache number) e mid new)

  -- the file was made, or why not
  abbrev pub MakesTemp :
      {T : Type 0} → (T → PlainTemp) → Result T Error
      → Option (List LogItem) → Option (List LogItem) → Type 0
  MakesTemp temp (Ok t) old new = Makes (temp t) old new
  MakesTemp temp (Err e) old new = FailsToMake e old new

  -- a writer that took nothing yet, or why there is none
  abbrev pub OpensTemp :
      {T : Type 0} → (T → PlainTemp) → Algorithm → Result (Writer T) Error
      → Option (List LogItem) → Option (List LogItem) → Type 0
  OpensTemp temp a (Ok w) old new = IsFresh cache number a w × Makes (temp w.file) old new
  OpensTemp temp a (Err e) old new = FailsToMake e old new

-- such a writer was opened, with a number that was asked for once
abbrev pub OpensNumbered :
    {T S C N : Type 0} → (T → PlainTemp) → (S → Option (List LogItem)) → (N → Option (List ℕ))
    → Env S C N → Env S C N → List ℕ → Algorithm → Result (Writer T) Error → Type 0
OpensNumbered temp log numbers old new cache a r =
    (number : ℕ)
    × AddsAnswer (numbers old.names) (numbers new.names) number
    × OpensTemp cache number temp a r (log old.store) (log new.store)

-- ---- the end

-- the commit of a writer that took these bytes
abbrev pub content_commit :
    {T : Type 0} → Writer T → List ℕ → Option (List ℕ) → ℕ → Options → Commit
content_commit w bytes key moment options = record {
  cache = w.cache;
  key = key;
  computed = integrity_under (algorithm_of w.hasher) bytes;
  count = counted_bytes bytes;
  moment = moment;
  options = options;
}

-- the writer's file became the content of the commit, and the call went on from there
abbrev pub EndsWriter :
    {T : Type 0} → (T → PlainTemp) → Writer T → Commit → Reply
    → Option (List LogItem) → Option (List LogItem) → Type 0
EndsWriter temp w c reply old new = Ran (persist c (temp w.file)) reply old new

-- the temporary file was removed, or why not
abbrev pub RemovesTemp :
    List ℕ → Result (Unit {0}) Error → Option (List LogItem) → Option (List LogItem) → Type 0
RemovesTemp path (Ok done) old new = Does (steps.RemoveFile path) answers.Done old new
RemovesTemp path (Err e) old new = FailsAt (steps.RemoveFile path) e old new

-- one step was to remove the temporary file, whatever came of it
abbrev pub AsksToRemove : List ℕ → Option (List LogItem) → Option (List LogItem) → Type 0
AsksToRemove path old new = (answer : PlainAnswer) × Does (steps.RemoveFile path) answer old new

-- the same, unless this error says that there was no memory for it
abbrev pub TriesToRemove :
    List ℕ → Error → Option (List LogItem) → Option (List LogItem) → Type 0
TriesToRemove path OutOfMemory old new = (new ≡ old) ⊎ AsksToRemove path old new
TriesToRemove path e old new = AsksToRemove path old new

-- why a writer is given up: its write failed so, or there was no memory for the removal
abbrev pub given_up : Result (Unit {0}) Error → Error → Error
given_up (Err OutOfMemory) e = OutOfMemory
given_up removed e = e

-- the commit of a writer without a key and with nothing said
abbrev pub unkeyed : {T : Type 0} → Writer T → List ℕ → Commit
unkeyed w bytes = content_commit w bytes None 0 (blank (algorithm_of w.hasher))

-- whatever the writer took, it ended by the commit of that
abbrev pub EndsByCommit :
    {T : Type 0} → (T → PlainTemp) → Writer T → Option (List ℕ) → ℕ → Options → Reply
    → Option (List LogItem) → Option (List LogItem) → Type 0
EndsByCommit temp w key moment options reply old new =
    (bytes : List ℕ) → HasTaken w bytes
    → EndsWriter temp w (content_commit w bytes key moment options) reply old new

-- so it ended without a key
abbrev pub EndsUnkeyed :
    {T : Type 0} → (T → PlainTemp) → Writer T → Reply
    → Option (List LogItem) → Option (List LogItem) → Type 0
EndsUnkeyed temp w reply old new =
    (bytes : List ℕ) → HasTaken w bytes
    → EndsWriter temp w (unkeyed w bytes) reply old new

-- Plain steps and plain answers: what contracts see of them, which answers fit a step, what a log gains, and what reads and
-- writes do to a plain file.
use Rattle.cacache_store.specs.declared.store.{plain.{PlainFile.{PlainFile}, PlainTemp.{PlainTemp}}, step.Step.{Step, TheVariants.{MakeDirs, CreateTemp, Write, Persist, Append, ReadAll, Open, Read, Exists, Size, Symlink, Copy, Reflink, HardLink, ReadDir, RemoveFile, RemoveDir, SyncTemp, SyncFile, SyncDir}}, answer.{Answer.{Answer, TheVariants.{Done, Temp, Wrote, Took, Bytes, File, Got, There, Length, Names, Synced, Failed, NoMemory}}, Name.{Name}}, log.LogItem.{LogItem, TheVariants.{Made}}}
use Rattle.std.specs.Prelude.{◌≡◌, ◌+◌, ◌^◌, ◌≤◌, ◌<◌, Bool, true, false, if◌then◌else◌, List, [], ◌∷◌, ◌++◌, Option, All, length, option_map, ℕ, Result, Ok, MatchResult, IfSome, IfOk, min}
use Rattle.cacache_core.specs.Paths.{IsProperName}
use Rattle.cacache_store.specs.declared.store.step.Step.TheVariants as steps
use Rattle.cacache_store.specs.declared.store.answer.Answer.TheVariants as answers

-- a step on plain files
abbrev pub PlainStep : Type 0
PlainStep = Step PlainFile PlainTemp

-- an answer with plain files
abbrev pub PlainAnswer : Type 0
PlainAnswer = Answer PlainFile PlainTemp

module _ {F T : Type 0} (file : F → PlainFile) (temp : T → PlainTemp) where
  -- the step with its file replaced by the plain file that contracts see
  abbrev pub plain_step : Step F T → PlainStep
  plain_step (steps.MakeDirs p) = steps.MakeDirs p
  plain_step (steps.CreateTemp p) = steps.CreateTemp p
  plain_step (steps.Write t b) = steps.Write (temp t) b
  plain_step (steps.Persist t p) = steps.Persist (temp t) p
  plain_step (steps.Append p b) = steps.Append p b
  plain_step (steps.ReadAll p) = steps.ReadAll p
  plain_step (steps.Open p) = steps.Open p
  plain_step (steps.Read f n) = steps.Read (file f) n
  plain_step (steps.Exists p) = steps.Exists p
  plain_step (steps.Size p) = steps.Size p
  plain_step (steps.Symlink p q) = steps.Symlink p q
  plain_step (steps.Copy p q) = steps.Copy p q
  plain_step (steps.Reflink p q) = steps.Reflink p q
  plain_step (steps.HardLink p q) = steps.HardLink p q
  plain_step (steps.ReadDir p) = steps.ReadDir p
  plain_step (steps.RemoveFile p) = steps.RemoveFile p
  plain_step (steps.RemoveDir p) = steps.RemoveDir p
  plain_step (steps.SyncTemp t) = steps.SyncTemp (temp t)
  plain_step (steps.SyncFile p) = steps.SyncFile p
  plain_step (steps.SyncDir p) = steps.SyncDir p

  -- the answer with its file replaced by the plain file that contracts see
  abbrev pub plain_answer : Answer F T → PlainAnswer
  plain_answer answers.Done = answers.Done
  plain_answer (answers.Temp t) = answers.Temp (temp t)
  plain_answer (answers.Wrote t n) = answers.Wrote (temp t) n
  plain_answer (answers.Took n) = answers.Took n
  plain_answer (answers.Bytes b) = answers.Bytes b
  plain_answer (answers.File f) = answers.File (file f)
  plain_answer (answers.Got f b) = answers.Got (file f) b
  plain_answer (answers.There n) = answers.There n
  plain_answer (answers.Length n) = answers.Length n
  plain_answer (answers.Names l) = answers.Names l
  plain_answer (answers.Synced t) = answers.Synced (temp t)
  plain_answer (answers.Failed e) = answers.Failed e
  plain_answer (answers.NoMemory s) = answers.NoMemory (plain_step s)

-- ---- which answers fit a step, and what a log gains

-- all names in a listing are proper, so each leads only to an entry of the listed folder
abbrev pub AreProperNames : List Name → Type 0
AreProperNames = All (λ entry. IsProperName entry.name)

-- the answer is of the step's kind, and its count is at most the size that the step requested
abbrev pub Fits : PlainStep → PlainAnswer → Type 0
Fits a (Failed fault) = Unit {0}
Fits a (NoMemory b) = b ≡ a
Fits (MakeDirs p) Done = Unit {0}
Fits (CreateTemp p) (Temp t) = t.path ≡ p
Fits (Write t b) (Wrote u n) = (n ≤ length b) × (u.path ≡ t.path)
Fits (Persist t p) Done = Unit {0}
Fits (Append p b) (Took n) = n ≤ length b
Fits (ReadAll p) (Bytes b) = Unit {0}
Fits (Open p) (File f) = f.left < 2 ^ 64
Fits (Read f max) (Got g b) = (length b ≤ max) × (g.left + length b ≡ f.left)
Fits (Exists p) (There is) = Unit {0}
Fits (Size p) (Length n) = Unit {0}
Fits (Symlink p q) Done = Unit {0}
Fits (Copy p q) (Took n) = Unit {0}
Fits (Reflink p q) Done = Unit {0}
Fits (HardLink p q) Done = Unit {0}
Fits (ReadDir p) (Names names) = AreProperNames names
Fits (RemoveFile p) Done = Unit {0}
Fits (RemoveDir p) Done = Unit {0}
Fits (SyncTemp t) (Synced u) = u ≡ t
Fits (SyncFile p) Done = Unit {0}
Fits (SyncDir p) Done = Unit {0}
Fits _ _ = ⊥

-- memory was refused, and the answer hands the step back
abbrev pub is_no_memory : PlainAnswer → Bool
is_no_memory (NoMemory b) = true
is_no_memory _ = false

-- a log that is kept gains this step and its answer, or nothing if memory was refused
abbrev pub Logs : Option (List LogItem) → Option (List LogItem) → PlainStep → PlainAnswer → Type 0
Logs old new a t =
    new ≡ (if is_no_memory t then old else option_map (λ log. log ++ Made a t ∷ []) old)

-- ---- what reads and writes do to a plain file

-- a read of n bytes reduces the bytes left by n, and a failed read reduces nothing
abbrev pub LeftFalls : {E : Type 0} → ℕ → ℕ → Result ℕ E → Type 0
LeftFalls old new r = MatchResult r (λ n. new + n ≡ old) (λ _. new ≡ old)

-- if a file's bytes are known, and no more than it has left, a read returns as many as there is room for
abbrev pub GivesAll : {E : Type 0} → PlainFile → ℕ → Result ℕ E → Type 0
GivesAll file room r =
    IfSome file.bytes (λ bytes. length bytes ≤ file.left → r ≡ Ok (min room (length bytes)))

-- a write that doesn't fail takes all bytes that it is handed
abbrev pub TakesAll : {E : Type 0} → ℕ → Result ℕ E → Type 0
TakesAll size r = IfOk r (λ n. n ≡ size)

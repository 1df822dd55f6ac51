-- What the calls of a step are about: open files by their numbers, the names that a folder gives, and what a log of calls gains.
use Rattle.std.specs.{Prelude.{ℕ, List, Bool, ◌||◌, ◌&&◌, ◌==◌, ◌-◌, not, if◌then◌else◌, [], ◌∷◌, ◌++◌, codes, length, get_or, ◌≡◌, take, Option, option_map, Result, Ok, Err}, Bool.{nat_eq}, List.{starts_with, list_any, slice_split}, Str.{is_utf8}, Io.{appended_bytes}}
use Rattle.cacache_store.specs.declared.store.{step.Step.{Step}, answer.Answer.{Answer}}
use Rattle.hex.specs.Hex.{encode_lower}
use Rattle.cacache_core.specs.Paths.{is_name, is_above, ends_name}
use Rattle.std_io.specs.{declared.io.error.Error.{Error}, IoError.{error_kind}}
use Rattle.cacache_system.specs.declared.call.{SystemCall.{SystemCall}, CallResult.{CallResult, TheVariants.{Bytes, Failed}}, CallItem.{CallItem}}
use Rattle.cacache_store.specs.declared.store.step.Step.TheVariants as steps
use Rattle.cacache_store.specs.declared.store.answer.Answer.TheVariants as answers

-- an open file: its number, and how many bytes it may still give
pub record NumberedFile : Type 0 where
  pub number : ℕ
  pub left : ℕ

-- a temporary file: its number and its path
pub record NumberedTemp : Type 0 where
  pub number : ℕ
  pub path : List ℕ

-- a step on numbered files
abbrev pub NumberedStep : Type 0
NumberedStep = Step NumberedFile NumberedTemp

-- an answer with numbered files
abbrev pub NumberedAnswer : Type 0
NumberedAnswer = Answer NumberedFile NumberedTemp

module _ {F G T U : Type 0} (file : F → G) (temp : T → U) where
  -- the step with its file as it is seen
  abbrev pub step_as : Step F T → Step G U
  step_as (steps.MakeDirs p) = steps.MakeDirs p
  step_as (steps.CreateTemp p) = steps.CreateTemp p
  step_as (steps.Write t b) = steps.Write (temp t) b
  step_as (steps.Persist t p) = steps.Persist (temp t) p
  step_as (steps.Append p b) = steps.Append p b
  step_as (steps.ReadAll p) = steps.ReadAll p
  step_as (steps.Open p) = steps.Open p
  step_as (steps.Read f n) = steps.Read (file f) n
  step_as (steps.Exists p) = steps.Exists p
  step_as (steps.Size p) = steps.Size p
  step_as (steps.Symlink p q) = steps.Symlink p q
  step_as (steps.Copy p q) = steps.Copy p q
  step_as (steps.Reflink p q) = steps.Reflink p q
  step_as (steps.HardLink p q) = steps.HardLink p q
  step_as (steps.ReadDir p) = steps.ReadDir p
  step_as (steps.RemoveFile p) = steps.RemoveFile p
  step_as (steps.RemoveDir p) = steps.RemoveDir p
  step_as (steps.SyncTemp t) = steps.SyncTemp (temp t)
  step_as (steps.SyncFile p) = steps.SyncFile p
  step_as (steps.SyncDir p) = steps.SyncDir p

  -- the answer with its file as it is seen
  abbrev pub answer_as : Answer F T → Answer G U
  answer_as answers.Done = answers.Done
  answer_as (answers.Temp t) = answers.Temp (temp t)
  answer_as (answers.Wrote t n) = answers.Wrote (temp t) n
  answer_as (answers.Took n) = answers.Took n
  answer_as (answers.Bytes b) = answers.Bytes b
  answer_as (answers.File f) = answers.File (file f)
  answer_as (answers.Got f b) = answers.Got (file f) b
  answer_as (answers.There n) = answers.There n
  answer_as (answers.Length n) = answers.Length n
  answer_as (answers.Names l) = answers.Names l
  answer_as (answers.Synced t) = answers.Synced (temp t)
  answer_as (answers.Failed e) = answers.Failed e
  answer_as (answers.NoMemory s) = answers.NoMemory (step_as s)

-- ---- the names that a folder gives, and how a listing gives them

abbrev pub quarter : List ℕ
quarter = codes "%%%%%%%%%%%%%%%%%%%%%%%%%%%%%%%%%%%%%%%%%%%%%%%%%%%%%%%%%%%%%%%%"

-- what an escaped name begins with
abbrev pub mark : List ℕ
mark = quarter ++ quarter ++ quarter ++ quarter

-- the bytes can't be given as they are: they are no text, or begin with the mark
unfoldable pub is_odd : List ℕ → Bool
is_odd name = starts_with nat_eq name mark || not (is_utf8 name)

-- the text of a name's bytes: they themselves, or the mark and their digits
unfoldable pub text_of : List ℕ → List ℕ
text_of name = if is_odd name then mark ++ encode_lower name else name

-- the text stands for one thing in its folder
unfoldable pub is_proper : List ℕ → Bool
is_proper text = is_name text && (not (is_above text) && not (list_any ends_name text))

-- a folder itself, the one above it, or no name
abbrev pub is_passed : List ℕ → Bool
is_passed name = not (is_name name) || is_above name

-- the names in some bytes, each of which ends at a NUL
abbrev pub names_in : List ℕ → List (List ℕ)
names_in bytes = slice_split (λ b. b == 0) bytes

-- the path of a folder with a `/` after it
abbrev pub with_slash : List ℕ → List ℕ
with_slash path = if get_or path (length path - 1) 0 == 47 then path else path ++ 47 ∷ []

-- ---- what a log of system calls gains

-- what the system said, if a method gives this
abbrev pub said : {A : Type 0} → (A → CallResult) → Result A Error → CallResult
said say (Ok value) = say value
said say (Err error) = Failed (error_kind error)

-- what the system said to a read to the front of a buffer
abbrev pub said_bytes : List ℕ → Result ℕ Error → CallResult
said_bytes buf result = said (λ n. Bytes (take n buf)) result

-- what it said to one of all that was left, after what was there before
abbrev pub said_rest : List ℕ → List ℕ → Result ℕ Error → CallResult
said_rest before bytes result = said (λ _. Bytes (appended_bytes before bytes)) result

-- a call and what the system said as an item of a log
abbrev pub item : SystemCall → CallResult → CallItem
item call result = record { call = call; result = result }

-- a log that is kept gains exactly these items
abbrev pub GainsCalls : Option (List CallItem) → Option (List CallItem) → List CallItem → Type 0
GainsCalls old new items = new ≡ option_map (λ log. log ++ items) old

-- a log that is kept gains this call and what the system said
abbrev pub MakesCall : Option (List CallItem) → Option (List CallItem) → SystemCall → CallResult → Type 0
MakesCall old new call result = GainsCalls old new (item call result ∷ [])

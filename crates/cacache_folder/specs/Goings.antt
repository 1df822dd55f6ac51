-- Where calls that end here or go on lead, and calls that signals interrupt.
use Rattle.std.specs.Prelude.{ℕ, Bool, false, Option, None, Some, Result, Ok, Err, List, [], if◌then◌else◌, zero, suc, ◌∷◌, ◌++◌}
use Rattle.std_io.specs.{declared.io.{error.Error.{Error}, kind.ErrorKind.{ErrorKind, TheVariants.{Interrupted}}}, IoError.{error_kind}}
use Rattle.cacache_system.specs.{declared.call.{CallItem.{CallItem}, CallResult.{CallResult, TheVariants.{Opened, Failed}}, FileInfo.{FileInfo}, SystemCall.{TheVariants.{Read}, SystemCall}}, Seen.{said, item, GainsCalls}, CallsOf.{Stage, Purpose, over, trying, taking_memory, opening, opened, standing, making, confirming, below, unmade, is_absent, CallsLogged, RunLogged}}

-- the stage, unless there is a cause against it
abbrev pub unless : Option ErrorKind → Stage → Stage
unless None s = s
unless (Some why) s = over (Failed why)

-- the stage of the value, or the failure
abbrev pub onward : {A : Type 0} → (A → Stage) → Result A Error → Stage
onward go (Ok value) = go value
onward go (Err error) = over (Failed (error_kind error))

-- the calls take a stage to where it goes on, or are a run that fails
abbrev pub GoesOrEnds : {A : Type 0} → Stage → (A → Stage) → Result A Error
    → Option (List CallItem) → Option (List CallItem) → Type 0
GoesOrEnds s go (Ok value) old new = CallsLogged s (go value) old new
GoesOrEnds s go (Err error) old new = RunLogged s (Failed (error_kind error)) old new

-- a folder is there now, or can't be made, or the folder above it is missing
abbrev pub made : {A : Type 0} → Bool → List ℕ → List (List ℕ) → Result A Error → Stage
made again path todo (Ok was) = below todo
made again path todo (Err error) =
    if is_absent (error_kind error) then unmade again (error_kind error) path todo
    else over (Failed (error_kind error))

-- a piece of an open file is read
abbrev pub piece : ℕ → ℕ → Stage
piece number size = taking_memory (trying false (Read number size))

-- a file with this number was opened
abbrev pub said_opened : {A : Type 0} → (A → ℕ) → Result A Error → CallResult
said_opened number result = said (λ file. Opened (number file)) result

-- a file was opened, and asked what it is, for any purpose
abbrev pub OpensFile : {F : Type 0} → (F → ℕ) → List ℕ → Result (F × FileInfo) Error
    → Option (List CallItem) → Option (List CallItem) → Type 0
OpensFile number path result old new =
    (purpose : Purpose) → CallsLogged (opening purpose path)
    (onward (λ found. opened purpose (number found.0) found.1) result) old new

-- folders are made at once, or after a question
abbrev pub make_first : Bool → List ℕ → Stage
make_first is_guessed path = if is_guessed then making false path [] else standing path

-- it was asked whether a folder is there after all
abbrev pub Confirms : {A : Type 0} → List ℕ → ErrorKind → Result A Error → Option (List CallItem)
    → Option (List CallItem) → Type 0
Confirms path why result old new =
    (todo : List (List ℕ)) → CallsLogged (confirming why path todo)
    (onward (λ _. below todo) result) old new

-- ---- calls that signals interrupt

-- the call, which a signal interrupts so often
abbrev pub interrupted : SystemCall → ℕ → List CallItem
interrupted call zero = []
interrupted call (suc n) = item call (Failed Interrupted) ∷ interrupted call n

-- a log that is kept gained nothing but interruptions of this call
abbrev pub Waits : SystemCall → Option (List CallItem) → Option (List CallItem) → Type 0
Waits call old new = (n : ℕ) × GainsCalls old new (interrupted call n)

-- the call was made until no signal interrupted it, or it was given up
abbrev pub Insists : SystemCall → CallResult → Option (List CallItem)
    → Option (List CallItem) → Type 0
Insists call result old new =
    (n : ℕ) × GainsCalls old new (interrupted call n ++ item call result ∷ [])

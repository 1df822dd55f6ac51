-- Further roots, as the lines of a file name them.
use Rattle.std.specs.{Prelude.{◌≡◌, ◌⊎◌, ℕ, List, [], Option, None, Some, Ok, Contains, map}, Str.{IsUtf8, Lines.{lines}}}
use Rattle.cacache_core.specs.{declared.{errors.{Error.{Error, TheVariants.{IntegrityError}}, IntegrityFault.TheVariants.{BadText}}, integrity.digest.Hash.{Hash}}, Errors.{IsReadFailure}, Texts.{read_integrity}}
use Rattle.cacache_store.specs.declared.store.answer.Answer.TheVariants as answers
use Rattle.cacache_store.specs.declared.store.step.Step.TheVariants as steps
use Rattle.cacache_store.specs.declared.store.log.LogItem.{LogItem}
use Rattle.cacache_calls.specs.SingleSteps.{Does, FailsAt}

-- each line of the bytes is read as one of these
abbrev pub NamesRoots : List ℕ → List (List Hash) → Type 0
NamesRoots bytes roots = map read_integrity (lines bytes) ≡ map Ok roots

-- one of the lines isn't read as an integrity, or there is no memory for it
abbrev pub IsUnnamed : List ℕ → Error → Type 0
IsUnnamed bytes e =
    (line : List ℕ) × Contains (lines bytes) line × IsReadFailure (read_integrity line) e

-- so it is, or the bytes are no text
abbrev pub IsMisnamed : List ℕ → Error → Type 0
IsMisnamed bytes e =
    IsUnnamed bytes e ⊎ ((IsUtf8 bytes → ⊥) × (e ≡ IntegrityError BadText))

-- the log gained a reading of this file, whose lines name the roots; without a file there are none
abbrev pub ReadsRoots : Option (List ℕ) → List (List Hash)
    → Option (List LogItem) → Option (List LogItem) → Type 0
ReadsRoots None roots old new = (roots ≡ []) × (new ≡ old)
ReadsRoots (Some file) roots old new =
    (bytes : List ℕ) × Does (steps.ReadAll file) (answers.Bytes bytes) old new
    × NamesRoots bytes roots

-- the file wasn't read, or it was, and its bytes name none
abbrev pub StopsRoots : Option (List ℕ) → Error
    → Option (List LogItem) → Option (List LogItem) → Type 0
StopsRoots None e old new = ⊥
StopsRoots (Some file) e old new =
    FailsAt (steps.ReadAll file) e old new
    ⊎ ((bytes : List ℕ) × Does (steps.ReadAll file) (answers.Bytes bytes) old new
    × IsMisnamed bytes e)

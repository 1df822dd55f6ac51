-- Moves of temporary files.
use Rattle.std.specs.Prelude.{ℕ, Bool, List, Result}
use Rattle.std_io.specs.declared.io.error.Error.{Error}
use Rattle.cacache_system.specs.{declared.call.CallResult.TheVariants.{Done}, Seen.{said, NumberedTemp}, CallsOf.{Stage, CallsLogged, RunLogged}, AnswersOf.{Hint, rewrites, persist}}
use Rattle.cacache_folder.specs.{Goings.{onward}, Listings.{Log}}

-- the calls that come before any stage were made, and it goes on or fails
abbrev pub GoesBefore : {A : Type 0} → (Stage → Stage) → Result A Error → Log → Log → Type 0
GoesBefore before r old new = (s : Stage) → CallsLogged (before s) (onward (λ _. s) r) old new

-- a temporary file replaced a file that was read, or didn't
abbrev pub Rewrites : {A : Type 0} → NumberedTemp → Bool → List ℕ → Result A Error → Log → Log
    → Type 0
Rewrites temp synced path result old new =
    RunLogged (persist (rewrites synced) temp path) (said (λ _. Done) result) old new

-- a temporary file was moved, or wasn't
abbrev pub Persists : {A : Type 0} → NumberedTemp → List ℕ → Result A Error → Log → Log → Type 0
Persists temp path result old new =
    (hint : Hint) × RunLogged (persist hint temp path) (said (λ _. Done) result) old new

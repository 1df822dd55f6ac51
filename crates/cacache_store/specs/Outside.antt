-- What comes from outside: what a clock or a source of numbers has returned so far, and why a read or a write of a file failed.
use Rattle.std.specs.Prelude.{◌≡◌, ℕ, List, [], ◌∷◌, ◌++◌, Option, option_map}
pub use Rattle.std_io.specs.declared.io.error.Error.{Error}
pub use Rattle.std_io.specs.declared.io.kind.ErrorKind.TheVariants.{WriteZero, TimedOut, Interrupted}

-- if the answers are kept, this one is added at the end
abbrev pub AddsAnswer : Option (List ℕ) → Option (List ℕ) → ℕ → Type 0
AddsAnswer old new answer = new ≡ option_map (λ answers. answers ++ answer ∷ []) old

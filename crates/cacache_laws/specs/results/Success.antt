-- Results of calls whose steps all succeed.
use Rattle.std.specs.Prelude.{◌≡◌, ◌⊎◌, Result, IfErr, MatchResult}
use Rattle.cacache_core.specs.declared.errors.Error.{Error, TheVariants.{OutOfMemory}}
use Rattle.cacache_calls.specs.Runs.{without_message}

-- an error says that memory was refused
abbrev pub FailsForMemory : {X : Type 0} → Result X Error → Type 0
FailsForMemory r = IfErr r (λ e. e ≡ OutOfMemory)

-- it fails, with such an error or for memory
abbrev pub FailsAs : {X : Type 0} → (Error → Type 0) → Result X Error → Type 0
FailsAs IsSo r = MatchResult r (λ x. ⊥) (λ e. (e ≡ OutOfMemory) ⊎ IsSo e)

-- it fails, with this error or for memory
abbrev pub FailsFor : {X : Type 0} → Error → Result X Error → Type 0
FailsFor wanted = FailsAs (λ e. without_message e ≡ wanted)

-- Words that name an integrity.
use Rattle.std.specs.Prelude.{◌≡◌, ◌⊎◌, ℕ, List, Option, Ok}
use Rattle.cacache_core.specs.{Errors.{IsReadFailure}, Texts.{read_integrity}}
use Rattle.cacache.specs.{Calls.{Error}, Integrities.{Hash}}

-- the text isn't read as an integrity, or there is no memory for it
abbrev pub IsUnread : List ℕ → Type 0
IsUnread text = (error : Error) × IsReadFailure (read_integrity text) error

-- P holds of the integrity that the text is read as; without one the word failed and did nothing
abbrev pub WithIntegrity :
    {E : Type 0} → List ℕ → (List Hash → Type 0) → E → E
    → Option (List ℕ) → Option (List ℕ) → ℕ → Type 0
WithIntegrity text P old new before after status =
    ((i : List Hash) × (read_integrity text ≡ Ok i) × P i)
    ⊎ (IsUnread text × (status ≡ 1) × (new ≡ old) × (after ≡ before))

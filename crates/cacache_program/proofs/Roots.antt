-- The lines of a file, and the roots that they name.
use Rattle.std.proofs.{Common.{◌≡◌, ◌<◌, ℕ, List, Ok, Err, IfErr, Result, get_or, length, sym, subst}, lemmas.List.Elements.{Contains-get_or}}
use Rattle.std.specs.{Prelude.{Contains, IsErrAnd}, Str.Lines.{lines}}
use Rattle.cacache_core.specs.declared.errors.Error.{Error}
use Rattle.cacache_program.specs.Roots.{IsUnnamed}

-- the line of a turn is one of the lines
pub line_at : (bytes line : List ℕ) (i : ℕ) → (i < length (lines bytes)) × (line ≡ get_or (lines bytes) i line) → Contains (lines bytes) line
line_at bytes line i at = subst (Contains (lines bytes)) (sym at.1) (Contains-get_or (lines bytes) i line at.0)

-- the error that `?` hands on
pub unnamed_as : {X : Type 0} (bytes : List ℕ) (r : Result X Error) (e : Error) → IsErrAnd r (λ x. x ≡ e) → IsUnnamed bytes e → IfErr r (IsUnnamed bytes)
unnamed_as bytes (Ok x) e same unnamed = tt
unnamed_as bytes (Err x) e same unnamed = subst (IsUnnamed bytes) (sym same) unnamed

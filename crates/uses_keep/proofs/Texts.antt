-- The only one of a list.
use Rattle.std.{proofs.Common.{◌≡◌, zero, suc, [], ◌∷◌, arith, sym}, specs.Prelude.{Contains}}

pub only : {X : Type 0} (x y : X) → Contains (x ∷ []) y → y ≡ x
only x y (zero, lt, e) = sym e
only x y (suc k, lt, e) = absurd (omega (arith, lt))

pub none : {X : Type 0} (y : X) → Contains [] y → ⊥
none y (k, lt, e) = omega (arith, lt)

-- The kind of a fault that a kind has leads back to that fault.
use Rattle.std.{specs.{Prelude.{◌≡◌}, declared.io.ErrorKind.{ErrorKind}}, proofs.Common.{refl, sym, ap, ◌∙◌}}
use Rattle.std.specs.declared.io.ErrorKind.TheVariants as kind
use Rattle.cacache_core.specs.{declared.errors.Fault.{Fault}, Errors.{fault_of, kind_of}}

there_and_back : (k : ErrorKind) → fault_of (kind_of (fault_of k)) ≡ fault_of k
there_and_back kind.NotFound = refl
there_and_back _ = refl

pub kind_back : (fault : Fault) (k : ErrorKind) → fault_of k ≡ fault → fault_of (kind_of fault) ≡ fault
kind_back fault k is = ap (λ (f : Fault). fault_of (kind_of f)) (sym is) ∙ there_and_back k ∙ is

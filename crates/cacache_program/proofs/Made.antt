-- A text that may be made, and is put out.
use Rattle.std.{proofs.Common.{◌≡◌, ◌<◌, ℕ, List, [], Option, Result, Ok, Err, IfOk, IfErr, rules, inr, subst, sym, length}, specs.Io.KnownBytes.{Appends}}
use Rattle.cacache_program.specs.Output.{PutsOutWith}

-- if the text is never empty, it was put out, or none of it with status 1
pub made_puts : {X E : Type 0} (made : Result X E) (bytes : X → List ℕ) (text : List ℕ) (whole : ℕ) (before after : Option (List ℕ)) (status : ℕ) → 0 < length text
    → IfOk made (λ x. bytes x ≡ text) → IfOk made (λ x. PutsOutWith whole (bytes x) before after status) → IfErr made (λ e. (status ≡ 1) × (after ≡ before)) → PutsOutWith whole text before after status
made_puts (Ok x) bytes text whole before after status some is put none = subst (λ t. PutsOutWith whole t before after status) is put
made_puts (Err e) bytes text whole before after status some is put (failed, same) = inr (failed, (0, some, subst (λ a. Appends before a []) (sym same) (search rules)))

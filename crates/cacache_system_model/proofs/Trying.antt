-- Calls that are tried until no signal interrupts them.
use Rattle.std.{proofs.Common.{◌≡◌, ℕ, Bool, true, false, refl, sym, ap, subst, ◌∙◌, ⊎_elim, inl, inr}, specs.Prelude.{Option}}
use Rattle.std_io.specs.declared.io.kind.ErrorKind.{ErrorKind}
use Rattle.std_io.specs.declared.io.kind.ErrorKind.TheVariants as kind
use Rattle.cacache_system.specs.{declared.call.{SystemCall.{SystemCall}, CallResult.{CallResult}}, CallsOf.{interrupts, was_interrupted}, AnswersOf.{misses}}
use Rattle.cacache_system.specs.declared.call.CallResult.TheVariants as says
use Rattle.cacache_system_model.{specs.{Machine.{Machine}, Calls.{LeavesPart}}, proofs.{Leading.{Claim, Tried}, Claims.{way_of, Well, cases_of}}}

-- what a call that wasn't interrupted said, and what holds then
pub record SaidWell (P : Claim) (said : CallResult) (n : Machine) : Type 0 where
  pub is : CallResult
  pub same : said ≡ is
  pub goes_on : was_interrupted is ≡ false
  pub holds : P is n

broke_so : (c : Bool) (P : Claim) (m n : Machine) (why : ErrorKind) → interrupts why ≡ c → (interrupts why ≡ true → n ≡ m)
    → P (says.Failed kind.Interrupted) m → P (says.Failed why) n → Tried P m (says.Failed why) n
broke_so true P m n why is stays gives_up holds = inl (is, stays is, gives_up)
broke_so false P m n why is stays gives_up holds = inr (is, holds)

-- how a call that is tried turned out
pub tried_so : (b : Bool) (m : Machine) (call : SystemCall) (P : Claim) → ((said : CallResult) (n : Machine) → Well b m call said n → SaidWell P said n)
    → (b ≡ false → P (says.Failed kind.Interrupted) m)
    → ((why : ErrorKind) (part : Option ℕ) (n : Machine) → interrupts why ≡ true → LeavesPart m call why part n → n ≡ m)
    → ((why : ErrorKind) (part : Option ℕ) (n : Machine) → b ≡ false → misses why ≡ false → LeavesPart m call why part n → P (says.Failed why) n)
    → (said : CallResult) (n : Machine) → way_of b m call said n → Tried P m said n
tried_so b m call P wells gives_up stays breaks said n happens =
    ⊎_elim
    (λ well.
    let w = wells said n well in
    inr (ap was_interrupted w.same ∙ w.goes_on, subst (λ (r : CallResult). P r n) (sym w.same) w.holds))
    (λ (broke, why, same, fine, part, left).
    subst (λ (r : CallResult). Tried P m r n) (sym same) (broke_so (interrupts why) P m n why refl (λ is. stays why part n is left) (gives_up broke) (breaks why part n broke fine left)))
    (cases_of b m call said n happens)

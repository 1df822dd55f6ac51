-- Both laws of a step at once: for calls that don't fail without cause, and for calls that may.
use Rattle.std.{proofs.Common.{◌≡◌, ◌⊎◌, ℕ, Bool, true, false, [], ◌∷◌, refl, sym, subst, inl, inr}, specs.Prelude.{Option, None, Some}}
use Rattle.std_io.specs.declared.io.kind.ErrorKind.{ErrorKind}
use Rattle.std_io.specs.declared.io.kind.ErrorKind.TheVariants as kind
use Rattle.cacache_disk.specs.{declared.luck.Luck.{Luck, TheVariants.{Plain, Fail, Take}}, Apply.{apply}}
use Rattle.cacache_system.specs.{declared.call.{SystemCall.{SystemCall}, CallResult.{CallResult}}, CallsOf.{Stage, taking_memory}, Seen.{NumberedStep}, AnswersOf.{Hint, first, answer_of, failed_with, misses}}
use Rattle.cacache_system.specs.declared.call.CallResult.TheVariants as says
use Rattle.cacache_system_model.specs.{Machine.{Machine}, Calls.{GoesWell, Occurs, OccursSomehow, LeavesPart}, Laws.{step_on, led_to, Leads, IsPlain, IsDone, IsLucky, Agrees}}
use Rattle.cacache_system_model.proofs.{Leading.{Way, Claim}, Refusing.{broken_agrees}}

-- how calls happen: well, or somehow
abbrev pub way_of : Bool → Way
way_of true = GoesWell None
way_of false = OccursSomehow

-- what is claimed of them
abbrev pub claim_of : Bool → Machine → NumberedStep → Claim
claim_of true = IsPlain
claim_of false = IsLucky

-- the luck under which at most so many bytes are moved
abbrev pub luck_of : Option ℕ → Luck
luck_of None = Plain
luck_of (Some most) = Take most

-- a call doesn't fail without cause, and moves only a part only if it may
abbrev pub Well : Bool → Machine → SystemCall → CallResult → Machine → Type 0
Well b m call said n = (most : Option ℕ) × (b ≡ true → most ≡ None) × GoesWell most m call said n

-- a call fails without cause if it may
abbrev pub Broke : Bool → Machine → SystemCall → CallResult → Machine → Type 0
Broke b m call said n =
    (b ≡ false) × (why : ErrorKind) × (said ≡ says.Failed why) × (misses why ≡ false) × (part : Option ℕ) × LeavesPart m call why part n

lucky_cases : (luck : Luck) (m : Machine) (call : SystemCall) (said : CallResult) (n : Machine) → Occurs luck m call said n → Well false m call said n ⊎ Broke false m call said n
lucky_cases Plain m call said n occurs = inl (None, (λ e. refl), occurs)
lucky_cases (Take most) m call said n occurs = inl (Some most, (λ e. absurd cc), occurs)
lucky_cases (Fail fault part) m call said n (why, same, of, fine, left) = inr (refl, why, same, fine, part, left)

-- how a call turned out
pub cases_of : (b : Bool) (m : Machine) (call : SystemCall) (said : CallResult) (n : Machine) → way_of b m call said n → Well b m call said n ⊎ Broke b m call said n
cases_of true m call said n happens = inl (None, (λ e. refl), happens)
cases_of false m call said n happens = lucky_cases happens.0 m call said n happens.1

-- both laws of a step
pub agrees_of : (m : Machine) (hint : Hint) (step : NumberedStep) → ((b : Bool) → (b ≡ false → IsDone m step) → Leads (way_of b) (first hint step) m (claim_of b m step)) → Agrees m hint step
agrees_of m hint step both = record {
  plainly = both true (λ e. absurd cc);
  breaking = λ done. both false (λ e. done);
}

-- memory that is refused when some is taken
pub taking_leads : (R : Way) (s : Stage) (m : Machine) (P : Claim) → P (says.Failed kind.OutOfMemory) m → Leads R s m P → Leads R (taking_memory s) m P
taking_leads R s m P memory leads [] end n (inl refused) each = subst (λ (x : Machine). P end x) each (subst (λ (e : CallResult). P e m) (sym refused) memory)
taking_leads R s m P memory leads [] end n (inr ends) each = leads [] end n ends each
taking_leads R s m P memory leads (item ∷ items) end n runs each = leads (item ∷ items) end n runs each

module _ (b : Bool) (m : Machine) (step : NumberedStep) (done : b ≡ false → IsDone m step) where
  -- as under plain luck
  pub claim_plain : (end : CallResult) (n : Machine) → apply m.tree (step_on m step) Plain ≡ led_to step end n → claim_of b m step end n
  claim_plain = elim b as (λ b. (end : CallResult) (n : Machine) → apply m.tree (step_on m step) Plain ≡ led_to step end n → claim_of b m step end n) [
    | true ↦ λ end n is enough. is
    | false ↦ λ end n is. inl (Plain, is)
  ]

  -- as under the luck that moves at most so many bytes
  pub claim_taken : (most : Option ℕ) (end : CallResult) (n : Machine) → (b ≡ true → most ≡ None) → apply m.tree (step_on m step) (luck_of most) ≡ led_to step end n → claim_of b m step end n
  claim_taken most end n all = elim b as (λ b. (b ≡ true → most ≡ None) → apply m.tree (step_on m step) (luck_of most) ≡ led_to step end n → claim_of b m step end n) [
    | true ↦ λ all is enough. subst (λ (o : Option ℕ). apply m.tree (step_on m step) (luck_of o) ≡ led_to step end n) (all refl) is
    | false ↦ λ all is. inl (luck_of most, is)
  ] all

  -- any luck, if a call may fail
  pub claim_lucky : (end : CallResult) (n : Machine) → b ≡ false → (IsDone m step → IsLucky m step end n) → claim_of b m step end n
  claim_lucky end n broke is = subst (λ (c : Bool). claim_of c m step end n) (sym broke) (is (done broke))

  -- a failure without cause that changed nothing
  pub claim_broken : (why : ErrorKind) (n : Machine) → b ≡ false → answer_of step (says.Failed why) ≡ failed_with step why → misses why ≡ false → n.tree ≡ m.tree
      → claim_of b m step (says.Failed why) n
  claim_broken why n broke same fine stays = claim_lucky (says.Failed why) n broke (λ d. broken_agrees step why (says.Failed why) m n same fine stays d)

  -- memory was refused
  pub claim_memory : (n : Machine) → answer_of step (says.Failed kind.OutOfMemory) ≡ failed_with step kind.OutOfMemory → n.tree ≡ m.tree → claim_of b m step (says.Failed kind.OutOfMemory) n
  claim_memory n same stays = elim b as (λ b. (b ≡ false → IsDone m step) → claim_of b m step (says.Failed kind.OutOfMemory) n) [
    | true ↦ λ done enough. absurd (enough refl)
    | false ↦ λ done. broken_agrees step kind.OutOfMemory (says.Failed kind.OutOfMemory) m n same refl stays (done refl)
  ] done

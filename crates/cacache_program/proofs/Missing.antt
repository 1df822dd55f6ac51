-- What the store says of a path, and whether nothing is there.
use Rattle.std.proofs.Common.{◌≡◌, ◌⊎◌, inl, inr, ℕ, List, Option, Ok, Err, Bool, true, false, not, refl, subst}
use Rattle.cacache_store.specs.declared.store.answer.Answer.TheVariants as answers
use Rattle.cacache_store.specs.declared.store.step.Step.TheVariants as steps
use Rattle.cacache_store.specs.{declared.store.log.LogItem.{LogItem}, Plain.{Fits, Logs, PlainAnswer}}
use Rattle.cacache_calls.specs.{declared.answers.Refusal.{Refusal}, Answers.{there_in}, SingleSteps.{Does}}
use Rattle.cacache_program.specs.KeepMissing.{says_missing}

-- one step asked, or none was made, and nothing is there
abbrev pub Said : List ℕ → Bool → Option (List LogItem) → Option (List LogItem) → Type 0
Said path missing old new =
    ((answer : PlainAnswer) × Does (steps.Exists path) answer old new × (missing ≡ says_missing answer))
    ⊎ ((new ≡ old) × (missing ≡ false))

said_so : (path : List ℕ) (t : PlainAnswer) (there : Bool) (old new : Option (List LogItem)) → Ok there ≡ there_in t → Logs old new (steps.Exists path) t → Said path (not there) old new
said_so path (answers.There true) there old new is logs = let same : there ≡ true = cc in rw same (inl (answers.There true, logs, refl))
said_so path (answers.There false) there old new is logs = let same : there ≡ false = cc in rw same (inl (answers.There false, logs, refl))
said_so path t there old new is logs = absurd cc

unsaid_so : (path : List ℕ) (t : PlainAnswer) (refusal : Refusal) (old new : Option (List LogItem)) → Err refusal ≡ there_in t → Fits (steps.Exists path) t → Logs old new (steps.Exists path) t → Said path false old new
unsaid_so path (answers.Failed fault) refusal old new is fits logs = inl (answers.Failed fault, logs, refl)
unsaid_so path (answers.NoMemory b) refusal old new is fits logs = inr (logs, refl)
unsaid_so path (answers.There there) refusal old new is fits logs = absurd cc
unsaid_so path t refusal old new is fits logs = absurd fits

-- the path of the step is the one that was given
pub said : (path p : List ℕ) (t : PlainAnswer) (there : Bool) (old new : Option (List LogItem)) → p ≡ path → Ok there ≡ there_in t → Logs old new (steps.Exists p) t → Said path (not there) old new
said path p t there old new same is logs = subst (λ q. Said q (not there) old new) same (said_so p t there old new is logs)

pub unsaid : (path p : List ℕ) (t : PlainAnswer) (refusal : Refusal) (old new : Option (List LogItem)) → p ≡ path → Err refusal ≡ there_in t → Fits (steps.Exists p) t → Logs old new (steps.Exists p) t → Said path false old new
unsaid path p t refusal old new same is fits logs = subst (λ q. Said q false old new) same (unsaid_so p t refusal old new is fits logs)

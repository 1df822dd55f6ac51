-- What luck makes of a plan; the definition of a step never answers that memory was refused.
use Rattle.std.{proofs.{lemmas.Grind.{common_steps}, Common.{arith, ◌≡◌, ◌∙◌, ℕ, Bool, cond, ap, false, List, sym}}, specs.Prelude.{Option, None, Some, Result}}
use Rattle.cacache_core.specs.{declared.errors.Fault.{Fault}, Paths.{Names}}
use Rattle.cacache_store.specs.{declared.store.{answer.Answer.TheVariants.{Failed}, plain.{PlainFile.{PlainFile}, PlainTemp.{PlainTemp}}}, Plain.{Fits, PlainStep, PlainAnswer, is_no_memory}}
use Rattle.cacache_disk.specs.{declared.{change.Plan.{Plan}, luck.Luck.{Luck, TheVariants.{Fail}}}, Tree.{Tree}, Apply.{unless, plain, apply, fails, fault_told, left_by, made_up, is_parted, grown, given, is_there}, Plans.{changed, IsPlan, most_of, left_over, with_luck}}
use Rattle.cacache_disk.specs.declared.change.Change.TheVariants as change

unless_fault : {A : Type 0} (r : Result A Fault) (t : Tree) (go same : A → PlainAnswer × Tree) → ((a : A) → fault_told (go a).0 ≡ fault_told (same a).0)
    → fault_told (unless r t go).0 ≡ fault_told (unless r t same).0
unless_fault r t go same h = grind (arith, common_steps)

-- a step that is done in part fails as the whole step does
part_fault : (t : Tree) (step : PlainStep) (part : Option ℕ) → fault_told (plain t step None).0 ≡ fault_told (plain t step (cond (is_parted step) part None)).0
part_fault t step part = grind (arith, unless_fault)

left_at : (t : Tree) (step : PlainStep) (part : ℕ) (plan : Plan) (b : Bool) → plain t step (cond b (Some part) None) ≡ (plan.answer, changed t plan.change)
    → cond b (plain t step (Some part)).1 t ≡ changed t (cond b plan.change change.Nothing)
left_at t step part plan b is = grind (arith, common_steps)

left_same : (t : Tree) (step : PlainStep) (part : Option ℕ) (plan : Plan) → plain t step (cond (is_parted step) part None) ≡ (plan.answer, changed t plan.change)
    → left_by t step part ≡ changed t (left_over (is_parted step) part plan.change)
left_same t step part plan is = grind (arith, left_at)

-- luck makes of a plan what it makes of the step
pub lucky : (t : Tree) (step : PlainStep) (luck : Luck) (plan : Plan) → IsPlan t step (most_of step luck) plan
    → apply t step luck ≡ ((with_luck step luck plan).answer, changed t (with_luck step luck plan).change)
unfolding apply
lucky t step (Fail fault part) plan is =
    let good = part_fault t step part ∙ ap (λ (r : PlainAnswer × Tree). fault_told r.0) is.0 ∙ is.1 in
    ap (λ own. fails own fault t (left_by t step part)) good ∙ ap (λ (left : Tree). (Failed (made_up fault), left)) (left_same t step part plan is.0)
lucky t step luck plan is = is.0

pub lucky_fits : (t : Tree) (step : PlainStep) (luck : Luck) (plan : Plan) → IsPlan t step (most_of step luck) plan → Fits step (with_luck step luck plan).answer
lucky_fits t step luck plan is = grind (arith, common_steps)

-- a step that fails does so under any luck
pub unlucky : (t : Tree) (step : PlainStep) (luck : Luck) (own : Fault) → plain t step (most_of step luck) ≡ (Failed own, t) → apply t step luck ≡ (Failed own, t)
unfolding apply
unlucky t step luck own is = grind (arith, part_fault)

-- ---- the definition of a step never answers that memory was refused

told_unless : {A : Type 0} (r : Result A Fault) (t : Tree) (go : A → PlainAnswer × Tree) → ((a : A) → is_no_memory (go a).0 ≡ false) → is_no_memory (unless r t go).0 ≡ false
told_unless r t go h = grind (arith, common_steps)

told_grown : (temp : PlainTemp) (bytes : List ℕ) (count : ℕ) (old : Option (List ℕ)) → is_no_memory (grown temp bytes count old) ≡ false
told_grown temp bytes count old = grind (arith, common_steps)

told_given_at : (b : Bool) (x y : PlainAnswer) → is_no_memory x ≡ false → is_no_memory y ≡ false → is_no_memory (cond b x y) ≡ false
told_given_at b x y h k = grind (arith, common_steps)

told_given : (file : PlainFile) (size : ℕ) (bytes : Option (List ℕ)) → is_no_memory (given file size bytes) ≡ false
told_given file size bytes = grind (arith, told_given_at)

told_there : (r : Result Names Fault) → is_no_memory (is_there r) ≡ false
told_there r = grind (arith, common_steps)

-- no line of the table answers that memory ran out
plain_answer_same : (t : Tree) (step : PlainStep) (most : Option ℕ) → is_no_memory (plain t step most).0 ≡ false
plain_answer_same t step most = grind (arith, told_unless, told_grown, told_given, told_there)

told_fails : (own : Option Fault) (f : Fault) (t left : Tree) → is_no_memory (fails own f t left).0 ≡ false
told_fails own f t left = grind (arith, common_steps)

told_apply : (t : Tree) (step : PlainStep) (luck : Luck) → is_no_memory (apply t step luck).0 ≡ false
unfolding apply
told_apply t step luck = grind (arith, plain_answer_same, told_fails)

-- so no answer of a step is that
pub told_answer : (t new : Tree) (step : PlainStep) (luck : Luck) (answer : PlainAnswer) → apply t step luck ≡ (answer, new) → is_no_memory answer ≡ false
told_answer t new step luck answer is = ap (λ r. is_no_memory r.0) (sym is) ∙ told_apply t step luck

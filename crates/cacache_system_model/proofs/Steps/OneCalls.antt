-- Steps that make one call.
use Rattle.std.{proofs.Common.{◌≡◌, ◌⊎◌, ℕ, false, refl, sym, ap, subst, ◌∙◌, inl, inr}, specs.Prelude.{Option, None, Some}}
use Rattle.std_io.specs.declared.io.kind.ErrorKind.{ErrorKind}
use Rattle.std_io.specs.declared.io.kind.ErrorKind.TheVariants as kind
use Rattle.cacache_disk.specs.{declared.luck.Luck.{Luck, TheVariants.{Plain, Fail, Take}}, Apply.{apply}}
use Rattle.cacache_system.specs.{declared.call.{SystemCall.{SystemCall}, CallResult.{CallResult}}, CallsOf.{Stage, over, wants, after, Ends}, Seen.{NumberedStep}, AnswersOf.{Hint, first, answer_of, failed_with, misses}}
use Rattle.cacache_system.specs.declared.call.CallResult.TheVariants as says
use Rattle.cacache_system_model.specs.{Machine.{Machine}, Calls.{GoesWell, Occurs, OccursSomehow, LeavesPart}, Laws.{step_on, led_to, Leads, IsPlain, IsDone, IsLucky, LeavesFresh, Agrees}}
use Rattle.cacache_system_model.proofs.{Leading.{over_leads, call_leads}, Refusing.{broken_agrees}}

-- A stage with one call. It moves no bytes, and a failure gets the usual answer.
pub record OneCall (m : Machine) (step : NumberedStep) (s : Stage) (call : SystemCall) : Type 0 where
  pub wanted : wants s ≡ Some call
  pub leads : (said : CallResult) → after s said ≡ over said
  pub memory : (end : CallResult) → Ends s end → end ≡ says.Failed kind.OutOfMemory
  pub answers : (why : ErrorKind) → misses why ≡ false → answer_of step (says.Failed why) ≡ failed_with step why
  pub whole : (why : ErrorKind) (part : Option ℕ) (n : Machine) → LeavesPart m call why part n → (n.tree ≡ m.tree) ⊎ LeavesFresh m step (answer_of step (says.Failed why)) n
  pub agrees : (most : Option ℕ) (said : CallResult) (n : Machine) → GoesWell most m call said n → apply m.tree (step_on m step) Plain ≡ led_to step said n

module _ (m : Machine) (step : NumberedStep) (s : Stage) (call : SystemCall) (is : OneCall m step s call) where
  -- a failure without cause that changed nothing
  fails_so : (why : ErrorKind) (said : CallResult) (n : Machine) → said ≡ says.Failed why → misses why ≡ false → n.tree ≡ m.tree → IsDone m step → IsLucky m step said n
  fails_so why said n same fine stays done =
      broken_agrees step why said m n (ap (answer_of step) same ∙ is.answers why fine) fine stays done

  -- or left a file
  leaves_so : (why : ErrorKind) (said : CallResult) (n : Machine) → said ≡ says.Failed why → misses why ≡ false → (n.tree ≡ m.tree) ⊎ LeavesFresh m step (answer_of step (says.Failed why)) n
      → IsDone m step → IsLucky m step said n
  leaves_so why said n same fine (inl stays) done = fails_so why said n same fine stays done
  leaves_so why said n same fine (inr fresh) done = inr (inr (subst (λ (e : CallResult). LeavesFresh m step (answer_of step e) n) (sym same) fresh))

  lucky_so : (luck : Luck) (said : CallResult) (n : Machine) → Occurs luck m call said n → IsDone m step → IsLucky m step said n
  lucky_so Plain said n occurs done = inl (Plain, is.agrees None said n occurs)
  lucky_so (Take most) said n occurs done = inl (Plain, is.agrees (Some most) said n occurs)
  lucky_so (Fail fault part) said n (why, same, of, fine, left) done =
      leaves_so why said n same fine (is.whole why part n left) done

  pub one_plainly : Leads (GoesWell None) s m (IsPlain m step)
  one_plainly =
      call_leads (GoesWell None) s call m (IsPlain m step) is.wanted (λ end ends enough. absurd (enough (is.memory end ends)))
      (λ said n well. subst (λ (t : Stage). Leads (GoesWell None) t n (IsPlain m step)) (sym (is.leads said))
      (over_leads (GoesWell None) said n (IsPlain m step) (λ enough. is.agrees None said n well)))

  pub one_breaking : IsDone m step → Leads OccursSomehow s m (IsLucky m step)
  one_breaking done =
      call_leads OccursSomehow s call m (IsLucky m step) is.wanted (λ end ends. fails_so kind.OutOfMemory end m (is.memory end ends) refl refl done)
      (λ said n somehow. subst (λ (t : Stage). Leads OccursSomehow t n (IsLucky m step)) (sym (is.leads said))
      (over_leads OccursSomehow said n (IsLucky m step) (lucky_so somehow.0 said n somehow.1 done)))

-- both laws of a step that makes one call
pub one_agrees : (m : Machine) (hint : Hint) (step : NumberedStep) (call : SystemCall) → OneCall m step (first hint step) call → Agrees m hint step
one_agrees m hint step call is = record {
  plainly = one_plainly m step (first hint step) call is;
  breaking = one_breaking m step (first hint step) call is;
}

-- What a step of a call leaves fixed on the machine, and what its record leaves fixed in a history, is alike.
use Rattle.std.proofs.{lemmas.Grind.{common_steps}, Common.{rules, arith, ◌≡◌, ◌⊎◌, inl, inr, Bool, true, false, cond, List, ◌++◌, take, refl, sym, ap, subst, ◌∙◌}}
use Rattle.std.specs.Prelude.{Option, None}
use Rattle.cacache_core.specs.{declared.errors.Fault.{Fault}, Paths.{Names}}
use Rattle.cacache_store.specs.Plain.{PlainStep, PlainAnswer}
use Rattle.cacache_store.specs.declared.store.step.Step.TheVariants as steps
use Rattle.cacache_store.specs.declared.store.answer.Answer.TheVariants as answers
use Rattle.cacache_disk.specs.{declared.luck.Luck.{Luck, TheVariants.{Plain}}, Tree.{Tree, look, same_path, bytes_of}, Apply.{apply}}
use Rattle.cacache_loss.specs.{Fixing.{Fixed, is_sync, is_synced, moves_file, moved_to, rewrites_at, writes_at, changed, temp_synced, file_synced, folder_synced, fixed_after}, declared.fixing.Place.{Place}}
use Rattle.cacache_loss.proofs.Reaching.{file_kept, name_kept}
use Rattle.cacache_calls.specs.declared.reply.Reply.{Reply}
use Rattle.cacache_system.specs.{declared.call.{CallItem.{CallItem}, CallResult.{CallResult}}, Seen.{NumberedStep}, CallsOf.{Runs}, AnswersOf.{Hint, first, answer_of}}
use Rattle.cacache_system_model.specs.{Machine.{Machine}, Calls.{OccursSomehow, EachCall}, Laws.{step_on, answer_on, IsLucky}, Premises.{Premise}, Mirrors.{Mirrors, temps_after, SparesOpen}, Chains.{StepMade, temps_left, WritesTemp}, Fixing.{step_made, answer_made, fixed_by, CopiesNone, LosesAsTold}, Writing.{WritesSome}, callers.{Acts.{EndsFailed}, Storing.{IsExplained}}}
use Rattle.cacache_system_model.proofs.{Covered.{each_may_break, each_goes_plainly}, Steps.Writing.{write_agrees}, Chaining.{memory_stay}, Fixing.{FixesSynced}, Lasting.{made_fixed, syncs_fix, none_anew, failed_moves, memory_moves, write_touched}, Alike.{AlikeWas, AlikeFixed}, Changed.{fixed_alike}, Touching.{Touched, rests, touched}, callers.{Covering.{HasAsked}, Fitting.{failed_answer, failed_temps}}}

-- what a step reads, changes and syncs
pub record StepFacts (temps : Names → Bool) (made : StepMade) : Type 0 where
  pub spares : SparesOpen temps made.before.tree (step_made made)
  pub syncs : is_sync (step_made made) ≡ true → FixesSynced made.before made.step made.end made.after
  pub at : (q : Names) → Touched temps (temps_left temps made) made.before.tree made.after.tree (step_made made) (answer_made made) q

module _ (temps : Names → Bool) where
  writes_touch : (m n : Machine) (hint : Hint) (step : NumberedStep) (items : List CallItem) (end : CallResult) → Runs (first hint step) items end → EachCall OccursSomehow m items n → WritesTemp temps m step
      → (SparesOpen temps m.tree (step_on m step)) × (is_sync (step_on m step) ≡ false)
      × ((q : Names) → Touched temps (temps_after temps (step_on m step) (answer_on n (answer_of step end))) m.tree n.tree (step_on m step) (answer_on n (answer_of step end)) q)
  writes_touch m n hint (steps.Write temp more) items end runs each (names, bytes, ready, is_open) =
      (tt, refl, λ q. grown q ((write_agrees m hint temp names bytes more ready).breaking items end n runs each))
    where
      grown : (q : Names) → WritesSome m temp names more end n → Touched temps temps m.tree n.tree (step_on m (steps.Write temp more)) (answer_on n (answer_of (steps.Write temp more) end)) q
      grown q (inl (luck, part, is)) =
          write_touched temps m n temp more (bytes_of (look m.tree names) ++ take part more) names (answer_on n (answer_of (steps.Write temp more) end)) ready.named
          (ap (λ (r : PlainAnswer × Tree). r.1) is) q (same_path q names) refl
      grown q (inr (is, tree)) = rests (ap (λ (t : Tree). look t q) tree) refl
  writes_touch m n hint _ items end runs each writes = absurd writes

  module _ (made : StepMade) (none : LosesAsTold made) where
    lucky_touched : SparesOpen temps made.before.tree (step_made made) → IsLucky made.before made.step made.end made.after → (q : Names)
        → Touched temps (temps_left temps made) made.before.tree made.after.tree (step_made made) (answer_made made) q
    lucky_touched spares (inl (luck, is)) q =
        subst (λ (r : PlainAnswer × Tree). Touched temps (temps_after temps (step_made made) r.0) made.before.tree r.1 (step_made made) r.0 q) is
        (touched temps made.before.tree q (step_made made) luck spares)
    lucky_touched spares (inr (inl (is, tree))) q = search (rules, rests, memory_stay)
    lucky_touched spares (inr (inr left)) q = absurd (none.2 left)

    module _ (reply : Option Reply) (runs : Runs (first made.hint made.step) made.items made.end) (each : EachCall OccursSomehow made.before made.items made.after) where
      syncs_so : Premise made.before made.hint made.step → is_sync (step_made made) ≡ true → FixesSynced made.before made.step made.end made.after
      syncs_so premise = syncs_fix made.before made.after made.hint made.step made.items made.end premise none.1 runs each

      pub step_facts : IsExplained made reply → HasAsked temps made.before made.hint made.step → StepFacts temps made
      step_facts luck (inr writes) =
          let f = writes_touch made.before made.after made.hint made.step made.items made.end runs each writes in
          record { spares = f.0; syncs = λ is. absurd (let wrong : false ≡ true = sym f.1 ∙ is in cc); at = f.2 }
      step_facts (inl done) (inl (premise, spares)) =
          record { spares = spares; syncs = syncs_so premise; at = lucky_touched spares (each_may_break made.before made.hint made.step premise done made.items made.end made.after runs each) }
      step_facts (inr (inl (plain, well, memory))) (inl (premise, spares)) = record {
        spares = spares;
        syncs = syncs_so premise;
        at = lucky_touched spares (inl (Plain, each_goes_plainly made.before made.hint made.step premise plain made.items made.end made.after runs well memory));
      }
      step_facts (inr (inr failed)) (inl (premise, spares)) = record {
        spares = spares;
        syncs = syncs_so premise;
        at = λ q. rests (ap (λ (t : Tree). look t q) failed.same) (ap (λ (x : Names → Bool). x q) (failed_temps made failed.why failed.failed temps));
      }

-- ---- a step that is a move

-- a record of a step has its answer, or a failure if the step came back
abbrev pub IsToldOf : StepMade → PlainAnswer → Type 0
IsToldOf made answer =
    (answer ≡ answer_made made) ⊎ ((answer_of made.step made.end ≡ answers.NoMemory made.step) × (fault : Fault) × (answer ≡ answers.Failed fault))

told_moves : (made : StepMade) (answer : PlainAnswer) → IsToldOf made answer → moves_file (step_made made) answer ≡ moves_file (step_made made) (answer_made made)
told_moves made answer which = grind (arith, failed_moves, memory_moves)

told_syncs : (made : StepMade) (answer : PlainAnswer) → IsToldOf made answer → is_synced answer ≡ is_synced (answer_made made)
told_syncs made answer which = grind (arith, common_steps)

there_moves : (step : PlainStep) → moves_file step (answers.There false) ≡ None
there_moves step = grind (arith, common_steps)

no_write : (m : Machine) (hint : Hint) (step : NumberedStep) → Premise m hint step → (q : Names) → writes_at (step_on m step) q ≡ false
no_write m hint step premise q = grind (arith, common_steps)

module _ (own temps : Names → Bool) (f g : Fixed) (alike : AlikeFixed own f g) where
  changed_still : (t new : Tree) (step : PlainStep) (answer : PlainAnswer) → ((q : Names) → look new q ≡ look t q) → moves_file step answer ≡ None
      → ((q : Names) → rewrites_at t step q ≡ false) → ((q : Names) → writes_at step q ≡ false) → AlikeFixed own (changed f t new step answer) g
  changed_still t new step answer same moves anew writes =
      let unmoved : (q : Names) → moved_to (moves_file step answer) q ≡ false = λ q. ap (λ (o : Option (Names × Names)). moved_to o q) moves in
      record {
        files = λ q. alike.files q ∙ sym (file_kept f t new step answer q (look t q) refl (same q) (unmoved q) (anew q) (writes q));
        names = λ q. subst (λ (x : Option Place). AlikeWas (own q) x (g.names q)) (sym (name_kept f t new step answer q (look t q) refl (same q) (unmoved q))) (alike.names q);
      }

  -- a step that leaves the tree, and neither syncs nor moves a file, leaves what is fixed
  still : (t new : Tree) (step : PlainStep) (answer : PlainAnswer) → ((q : Names) → look new q ≡ look t q) → is_synced answer ≡ false → moves_file step answer ≡ None
      → ((q : Names) → rewrites_at t step q ≡ false) → ((q : Names) → writes_at step q ≡ false) → AlikeFixed own (fixed_after f t new step answer) g
  still t new (steps.SyncTemp temp) answer same unsynced moves anew writes = subst (λ (b : Bool). AlikeFixed own (cond b (temp_synced f temp) f) g) (sym unsynced) alike
  still t new (steps.SyncFile p) answer same unsynced moves anew writes = subst (λ (b : Bool). AlikeFixed own (cond b (file_synced f t p) f) g) (sym unsynced) alike
  still t new (steps.SyncDir p) answer same unsynced moves anew writes = subst (λ (b : Bool). AlikeFixed own (cond b (folder_synced f p) f) g) (sym unsynced) alike
  still t new step answer same unsynced moves anew writes = changed_still t new step answer same moves anew writes

  module _ (made : StepMade) (none : CopiesNone made.step) (facts : StepFacts temps made) where
    fixed_so : fixed_after f made.before.tree made.after.tree (step_made made) (answer_made made) ≡ fixed_by f made
    fixed_so = sym (made_fixed (is_sync (step_made made)) f made.before made.after made.step made.end refl facts.syncs)

    -- a step that is recorded as a move
    pub moved_alike : (d : Tree) (luck : Luck) (answer : PlainAnswer) → Mirrors temps made.before.tree d → ((q : Names) → temps q ≡ true → own q ≡ true) → IsToldOf made answer
        → Mirrors (temps_left temps made) made.after.tree (apply d (step_made made) luck).1
        → AlikeFixed own (fixed_by f made) (fixed_after g d (apply d (step_made made) luck).1 (step_made made) answer)
    moved_alike d luck answer before keeps told mirrors = search (rules, fixed_so, fixed_alike, none_anew, told_moves, told_syncs)

    -- a step that failed, and is recorded by the caller giving its call up
    pub failed_alike : (reply : Option Reply) → EndsFailed made reply → Premise made.before made.hint made.step → AlikeFixed own (fixed_by f made) g
    failed_alike reply failed premise =
        let answered : (P : PlainAnswer → Type 0) → P (answers.There false) → ((back : PlainStep) → P (answers.NoMemory back)) → ((fault : Fault) → P (answers.Failed fault)) → P (answer_made made)
        = λ P there memory fails. subst (λ (e : CallResult). P (answer_on made.after (answer_of made.step e))) (sym failed.failed) (failed_answer made.after P there memory fails made.step failed.why) in
        subst (λ (x : Fixed). AlikeFixed own x g) fixed_so
        (still made.before.tree made.after.tree (step_made made) (answer_made made) (λ q. ap (λ (t : Tree). look t q) failed.same)
        (answered (λ a. is_synced a ≡ false) refl (λ back. refl) (λ fault. refl))
        (answered (λ a. moves_file (step_made made) a ≡ None) (there_moves (step_made made)) (λ back. memory_moves (step_made made) back) (λ fault. failed_moves (step_made made) fault))
        (none_anew made.before made.step none made.before.tree) (no_write made.before made.hint made.step premise))

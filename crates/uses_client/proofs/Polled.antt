-- Polls of a whole write, one after another, and errors of a write to a writer's file.
use Rattle.std.proofs.{Common.{Result, Ok, Err, ◌≡◌, inl, inr, ℕ, ◌+◌, ◌<◌, arith, List, [], ◌∷◌, ◌++◌, refl, sym, ap, subst, ◌∙◌}, lemmas.List.{length_push, nil_from_length}}
use Rattle.std.specs.Prelude.{IfErr, ⊤}
use Rattle.cacache.specs.{Calls.{Error}, Laws.{EntryNotFound, IntegrityError, IoError, OutOfMemory, SerdeError, SizeMismatch}, OpenHandles.{AllTaken, Tells, WritesOn, left, left_over, next_piece}}
use Rattle.uses_client.specs.{Packages.{FailsWrite}, Writing.{Answer, GaveAnswers, WritesWithin}}
use Rattle.futures.specs.declared.task.Poll.{Poll, TheVariants.{Ready, Pending}}

-- an error that can be no other
pub only_writes : {X : Type 0} (P : Error → Type 0) (r : Result X Error) → IfErr r P → ((c k : _) → P (EntryNotFound c k) → ⊥) → ((w a : _) → P (SizeMismatch w a) → ⊥) → ((c m : _) → P (SerdeError c m) → ⊥) → ((f : _) → P (IntegrityError f) → ⊥)
    → IfErr r FailsWrite
only_writes P (Ok x) h none sizes serde integrity = tt
only_writes P (Err OutOfMemory) h none sizes serde integrity = tt
only_writes P (Err (IoError fault message)) h none sizes serde integrity = tt
only_writes P (Err (EntryNotFound c k)) h none sizes serde integrity = absurd (none c k h)
only_writes P (Err (SizeMismatch w a)) h none sizes serde integrity = absurd (sizes w a h)
only_writes P (Err (SerdeError c m)) h none sizes serde integrity = absurd (serde c m h)
only_writes P (Err (IntegrityError f)) h none sizes serde integrity = absurd (integrity f h)

-- ---- polls of a whole write, one after another

-- what one more answer leaves
left_on : (answers : List Answer) (rest : List ℕ) (a : Answer) → left_over rest (answers ++ a ∷ []) ≡ left (left_over rest answers) a
left_on [] rest a = refl
left_on (b ∷ more) rest a = left_on more (left rest b) a

-- an Ok says that nothing is left
over : (a : Answer) (after : List ℕ) → Tells a after (Ready (Ok tt)) → after ≡ []
over (Ready (Ok n)) after (inl h) = absurd h.1
over (Ready (Ok n)) after (inr (inl h)) = h.1
over (Ready (Ok n)) after (inr (inr h)) = cc
over (Ready (Err e)) after h = cc
over Pending after h = cc

module _ {W : Type 0} (polls : W → List ℕ → Answer → W → Type 0) where
  -- after the answers came one more
  gave_on : (answers : List Answer) (old mid new : W) (rest : List ℕ) (a : Answer)
      → GaveAnswers polls old rest answers mid → polls mid (next_piece (left_over rest answers)) a new → GaveAnswers polls old rest (answers ++ a ∷ []) new
  gave_on [] old mid new rest a same asked = (new, subst (λ w. polls w (next_piece rest) a new) same asked, refl)
  gave_on (b ∷ more) old mid new rest a so asked = (so.0, so.1, gave_on more so.0 mid new (left rest b) a so.2 asked)

  -- one more poll after n that were pending
  pub polled : {old mid new : W} {rest now after : List ℕ} {n times : ℕ} {r : Poll (Result ⊤ Error)} → AllTaken → n < times → (r ≡ Pending → n + 1 ≡ times)
      → WritesWithin polls old rest mid now n Pending → WritesOn polls mid now new after r → WritesWithin polls old rest new after times r
  polled {old} {mid} {new} {rest} {now} law within last so (inl w) = record {
    answers = so.answers;
    given = subst (GaveAnswers polls old rest so.answers) (sym w.1) so.given;
    leaves = w.2 ∙ so.leaves;
    count = omega (arith, so.count, within);
    whole = λ _. law rest so.answers (sym so.leaves ∙ nil_from_length now w.0);
    fails = λ e is. cc;
    pending = λ is. cc;
  }
  polled {old} {mid} {new} {rest} {now} {after} law within last so (inr w) =
      let a = w.1.0 in
      let leaves : after ≡ left_over rest (so.answers ++ a ∷ []) = w.1.2 ∙ ap (λ x. left x a) so.leaves ∙ sym (left_on so.answers rest a) in record {
        answers = so.answers ++ a ∷ [];
        given = gave_on so.answers old mid new rest a so.given (subst (λ x. polls mid (next_piece x) a new) so.leaves w.1.1);
        leaves = leaves;
        count = omega (arith, length_push so.answers a, so.count, within);
        whole = λ is. law rest (so.answers ++ a ∷ []) (sym leaves ∙ over a after (subst (Tells a after) is w.1.3));
        fails = λ e is. (so.answers, a, refl, w.1.3);
        pending = λ is. length_push so.answers a ∙ ap (λ n. n + 1) (so.pending refl) ∙ last is;
      }

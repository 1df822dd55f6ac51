-- One write after another: what a writer's first steps say of its temporary file, and writers that are given up.
use Rattle.std.proofs.{Common.{◌≡◌, inr, ℕ, List, Option, Result, Ok, Err, sym, ◌<◌, ◌≤◌, ◌^◌, ◌⊎◌, inl, ◌+◌, ◌-◌, [], ◌++◌, length, take, drop, ◌∙◌, ap, subst, append_assoc, append-nil, arith}, Math.Seq.{take-add}, lemmas.List.{take_rest, take-append-drop, length-drop}, KnownBytes.{Appends-nil, Appends-trans, Appends-kept}}
use Rattle.std.specs.{Prelude.{None, Some}, Io.KnownBytes.{Appends, Keeps}, IoError.{error_kind}}
use Rattle.cacache_core.specs.{declared.errors.{Error.{Error, TheVariants.{IoError, OutOfMemory}}, Fault.{Fault}}, Errors.{fault_of}}
use Rattle.cacache_store.specs.{declared.store.{log.LogItem.{LogItem}, plain.PlainTemp.{PlainTemp}}, Plain.{Fits, Logs, PlainAnswer}}
use Rattle.cacache_calls.specs.{Answers.{temp_in}, SingleSteps.{Does}, Steps.{temp_path}, Common.{fails}, Runs.{EndsAs}}
use Rattle.cacache_jobs.specs.LeadsOn.{Brings}
use Rattle.cacache_sync.specs.{content.OpenWrites.{MakesTemp, make_folder, HasTaken, Takes, TakesPart, IsSameWriter, AsksToRemove, IsRetried, IsWriteError, RemovesTemp, TriesToRemove, WholeFails, given_up}, declared.content.writer.Writer.{Writer}}
use Rattle.cacache_sync.proofs.content.StepAnswers.{refusal_of, refused_fails, temp_refused}
use Rattle.cacache_store.specs.declared.store.answer.Answer.TheVariants as answers
use Rattle.cacache_store.specs.declared.store.step.Step.TheVariants as steps
use Rattle.cacache_store.specs.Outside as io

-- the step that made the file
temp_came : (path at : List ℕ) (t : PlainAnswer) (f : PlainTemp) (old new : Option (List LogItem)) → path ≡ at → Ok f ≡ temp_in t → Logs old new (steps.CreateTemp path) t → Does (steps.CreateTemp at) (answers.Temp f) old new
temp_came path at (answers.Temp g) f old new same e logs = let is : f ≡ g = cc in rw (← same, is) logs
temp_came path at t f old new same e logs = absurd cc

-- once the folder is there, the answer says whether the file was made
pub makes_by : {T : Type 0} (seen : T → PlainTemp) (cache : List ℕ) (number : ℕ) (path : List ℕ) (t : PlainAnswer) (r : Result T Error) (old mid new : Option (List LogItem)) → path ≡ temp_path cache number → Does (make_folder cache) answers.Done old mid → Brings seen (temp_in t) r → Fits (steps.CreateTemp path) t → Logs mid new (steps.CreateTemp path) t → MakesTemp cache number seen r old new
makes_by seen cache number path t (Ok file) old mid new at made brings fits logs =
    (mid, made, temp_came path (temp_path cache number) t (seen file) mid new at (sym brings) logs)
makes_by seen cache number path t (Err e) old mid new at made brings fits logs =
    let r = refusal_of (temp_in t) e brings in
    inr (mid, made, rw at at (refused_fails (steps.CreateTemp path) t r.0 e mid new (temp_refused path t r.0 r.1 fits) logs r.2))

-- ---- one write after another

module _ {T : Type 0} (temp : T → PlainTemp) where
  -- the file and the writer took these bytes more, and the writer goes on
  abbrev pub Went : Writer T → Writer T → List ℕ → Type 0
  Went old new more =
      Appends (temp old.file).bytes (temp new.file).bytes more
      × Takes old new more × IsSameWriter temp old new

  goes_through : (u v w : Writer T) → IsSameWriter temp u v → IsSameWriter temp v w → IsSameWriter temp u w
  goes_through u v w x y = (y.0 ∙ x.0, y.1 ∙ x.1, y.2 ∙ x.2, y.3 ∙ x.3)

  takes_through : (u v w : Writer T) (one two : List ℕ) → Takes u v one → Takes v w two → Takes u w (one ++ two)
  takes_through u v w one two x y =
      λ bytes had. subst (HasTaken w) (append_assoc bytes one two) (y (bytes ++ one) (x bytes had))

  went_through : (u v w : Writer T) (one two : List ℕ) → Went u v one → Went v w two → Went u w (one ++ two)
  went_through u v w one two x y =
      (Appends-trans _ _ _ one two x.0 y.0, takes_through u v w one two x.1 y.1, goes_through u v w x.2 y.2)

  -- the first n bytes, and then m more of the rest
  pub went_further : (u v w : Writer T) (bytes : List ℕ) (n m : ℕ) → Went u v (take n bytes) → Went v w (take m (take (length bytes - n) (drop n bytes))) → Went u w (take (n + m) bytes)
  went_further u v w bytes n m x y =
      let more : Went v w (take m (drop n bytes)) = subst (λ l. Went v w (take m l)) (take_rest bytes n) y in
      rw (take-add n m bytes) (went_through u v w (take n bytes) (take m (drop n bytes)) x more)

  -- some bytes, and then none
  pub went_no_further : (u v w : Writer T) (bytes : List ℕ) → Went u v bytes → Keeps (temp v.file).bytes (temp w.file).bytes → Takes v w [] → IsSameWriter temp v w → Went u w bytes
  went_no_further u v w bytes x kept takes goes =
      let none : Went v w [] = (Appends-kept _ _ _ [] (Appends-nil _) kept, takes, goes) in
      subst (Went u w) (append-nil bytes) (went_through u v w bytes [] x none)

-- known bytes to which none are appended stay
pub appends_nothing : (old new : Option (List ℕ)) → Appends old new [] → Keeps old new
appends_nothing None new appends = tt
appends_nothing (Some xs) None appends = appends
appends_nothing (Some xs) (Some ys) appends = appends ∙ append-nil xs

-- what is left of a buffer that was only handed over in part
pub rest_left : (bytes : List ℕ) (n : ℕ) → n ≤ length bytes → (n ≡ length bytes → ⊥) → 0 < length (take (length bytes - n) (drop n bytes))
rest_left bytes n within other =
    let size : length (take (length bytes - n) (drop n bytes)) ≡ length bytes - n = ap length (take_rest bytes n) ∙ length-drop n bytes in
    let below : n < length bytes = omega (arith, within, other) in
    omega (arith, size, below)

-- a write more took some bytes
pub tried_more : {X : Type 0} (tries done count : ℕ) → (tries ≤ done) ⊎ X → (count ≡ 0 → ⊥) → (tries + 1 ≤ done + count) ⊎ X
tried_more tries done count (inl few) some = inl (omega (arith, few, some))
tried_more tries done count (inr was) some = inr was

-- as many writes as there can be, each of which took some bytes, would have taken all
pub too_often : {X : Type 0} (tries done size : ℕ) → (tries ≤ done) ⊎ X → 18446744073709551615 ≤ tries → done ≤ size → (done ≡ size → ⊥) → size < 2 ^ 64 → X
too_often tries done size (inl few) all within other bound = absurd (omega (arith, few, all, within, other, bound))
too_often tries done size (inr was) all within other bound = was

-- the first n bytes
pub part_taken : {T : Type 0} (temp : T → PlainTemp) (u w : Writer T) (bytes : List ℕ) (n : ℕ) → Went temp u w (take n bytes) → TakesPart temp u w bytes
part_taken temp u w bytes n x = (take n bytes, drop n bytes, sym (take-append-drop n bytes), x.1, x.0)

-- ---- writers that are given up: what was asked for, and why

asks_tries : (path : List ℕ) (e : Error) (old new : Option (List LogItem)) → AsksToRemove path old new → TriesToRemove path e old new
asks_tries path OutOfMemory old new asks = inr asks
asks_tries path e old new asks = asks

pub given_up_tries : (path : List ℕ) (removed : Result (Unit {0}) Error) (e : Error) (old new : Option (List LogItem)) → RemovesTemp path removed old new → TriesToRemove path (given_up removed e) old new
given_up_tries path (Ok done) e old new does = asks_tries path e old new (answers.Done, does)
given_up_tries path (Err OutOfMemory) e old new (inl same) = inl same
given_up_tries path (Err OutOfMemory) e old new (inr failed) = inr (answers.Failed failed.0, failed.1)
given_up_tries path (Err (IoError fault message)) e old new does = asks_tries path e old new (answers.Failed fault, does)
given_up_tries path (Err other) e old new does = absurd does

pub given_up_earned : {T : Type 0} (writes : T → ℕ → Result ℕ io.Error → T → Type 0) (removed : Result (Unit {0}) Error) (e : Error) → IsWriteError writes e → IsWriteError writes (given_up removed e)
given_up_earned writes (Err OutOfMemory) e earned = record {}
given_up_earned writes removed e earned = earned

-- an error with the fault of a write that failed so, or for want of memory
pub refused_earned : {T : Type 0} (writes : T → ℕ → Result ℕ io.Error → T → Type 0) (file : T) (error : io.Error) (fault : Fault) (e : Error) → WholeFails writes file error × IsRetried error → fault ≡ fault_of (error_kind error) → EndsAs e (fails fault) → IsWriteError writes e
refused_earned writes file error fault OutOfMemory failed is ends = record {}
refused_earned writes file error fault (IoError f message) failed is (inl same) = (file, error, failed.0, failed.1, (let alike : f ≡ fault = cc in alike ∙ is))
refused_earned writes file error fault (IoError f message) failed is (inr memory) = absurd cc
refused_earned writes file error fault e failed is (inl same) = absurd cc
refused_earned writes file error fault e failed is (inr memory) = absurd cc

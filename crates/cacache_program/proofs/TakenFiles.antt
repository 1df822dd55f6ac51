-- Files that are opened, read in pieces and taken by a writer.
use Rattle.std.proofs.{Common.{◌≡◌, ◌++◌, inl, inr, ℕ, List, [], Option, Some, Result, Ok, Err, IfErr, IfOk, sym, subst, ap, ◌∙◌, append_assoc}, KnownBytes.{Appends-trans}}
use Rattle.std.specs.Prelude.{IsErrAnd}
use Rattle.cacache_core.specs.{declared.{errors.Error.{Error}, integrity.{algorithm.Algorithm.{Algorithm, TheVariants.{Sha256}}, digest.Hash.{Hash}}}, Hashers.{algorithm_of}, Integrity.{integrity_under}}
use Rattle.cacache_store.specs.{declared.{env.Env.{Env}, store.{log.LogItem.{LogItem}, plain.{PlainFile.{PlainFile}, PlainTemp.{PlainTemp}}}}, Plain.{Fits, Logs, PlainAnswer}, Outside.{AddsAnswer}}
use Rattle.cacache_store.specs.declared.store.answer.Answer.TheVariants as answers
use Rattle.cacache_store.specs.declared.store.step.Step.TheVariants as steps
use Rattle.cacache_calls.specs.{declared.{command.Options.{Options}, reply.Reply.TheVariants.{Stored}}, Answers.{file_in}, Promises.{Stores, answered}, Runs.{reply_of}, SingleSteps.{Does, FailsAt}}
use Rattle.cacache_jobs.specs.{LeadsOn.{Brings}, Environment.{KeepsRest, MomentOf}}
use Rattle.cacache_sync.specs.{content.{OpenReads.{FailsToOpen, OpensFile}, OpenWrites.{EndsWriter, HasTaken, TriesToRemove}}, declared.put.writer.SyncWriter.{SyncWriter}, put.KeyedWriters.{CommitsWriter, OpensKeyed, writer_commit, nothing_said, options_of}}
use Rattle.cacache_sync.proofs.content.StepAnswers.{file_refused, refusal_of, refused_fails}
use Rattle.cacache_program.specs.{WordStore.{EndsFile, GivesUp, WentOn}, WordWrite.{AreAllOf}}

-- ---- the file is opened

opens_so : (path p : List ℕ) (t : PlainAnswer) (file : PlainFile) (old new : Option (List LogItem)) → p ≡ path → file_in t ≡ Ok file → Logs old new (steps.Open p) t → OpensFile path file old new
opens_so path p (answers.File g) file old new same is logs =
    let alike : g ≡ file = cc in
    subst (λ q. Does (steps.Open q) (answers.File file) old new) same (subst (λ h. Does (steps.Open p) (answers.File h) old new) alike logs)
opens_so path p t file old new same is logs = absurd cc

-- what the answer brought was opened at the path
pub opened : {F : Type 0} (seen : F → PlainFile) (path p : List ℕ) (t : PlainAnswer) (r : Result F Error) (old new : Option (List LogItem)) → p ≡ path → Brings seen (file_in t) r → Logs old new (steps.Open p) t → IfOk r (λ file. OpensFile path (seen file) old new)
opened seen path p t (Ok file) old new same brings logs = opens_so path p t (seen file) old new same brings logs
opened seen path p t (Err e) old new same brings logs = tt

-- or the step failed
pub unopened : {F : Type 0} (seen : F → PlainFile) (path p : List ℕ) (t : PlainAnswer) (r : Result F Error) (old new : Option (List LogItem)) → p ≡ path → Brings seen (file_in t) r → Fits (steps.Open p) t → Logs old new (steps.Open p) t → IfErr r (λ e. FailsToOpen path e old new)
unopened seen path p t (Ok file) old new same brings fits logs = tt
unopened seen path p t (Err e) old new same brings fits logs =
    let r = refusal_of (file_in t) e brings in
    subst (λ q. FailsAt (steps.Open q) e old new) same (refused_fails (steps.Open p) t r.0 e old new (file_refused p t r.0 r.1 fits) logs r.2)

-- ---- the writer takes its pieces

module _ {T : Type 0} (temp : T → PlainTemp) where
  -- a piece more was
  pub went_further : (a b c : SyncWriter T) (bytes more : List ℕ) → WentOn temp a bytes b → WentOn temp b more c → WentOn temp a (bytes ++ more) c
  went_further a b c bytes more p q = record {
    takes = λ taken has. subst (HasTaken c.writer) (append_assoc taken bytes more) (q.takes (taken ++ bytes) (p.takes taken has));
    appends = Appends-trans (temp a.writer.file).bytes (temp b.writer.file).bytes (temp c.writer.file).bytes bytes more p.appends q.appends;
    same = (q.same.0 ∙ p.same.0, q.same.1 ∙ p.same.1, q.same.2 ∙ p.same.2, q.same.3 ∙ p.same.3);
    said = q.said ∙ ap (λ (w : SyncWriter T). record w { writer = c.writer }) p.said;
  }

-- ---- what becomes of the file

-- a commit with nothing said answers the bytes' integrity
stored_under : {T : Type 0} (w : SyncWriter T) (bytes key : List ℕ) (moment : ℕ) (r : Result (List Hash) Error) → w.key ≡ Some key → w.options ≡ options_of nothing_said → algorithm_of w.writer.hasher ≡ Sha256 → Stores (writer_commit w bytes moment) (reply_of Stored r) → IfOk r (λ i. i ≡ integrity_under Sha256 bytes)
stored_under w bytes key moment (Err e) keyed said under stores = tt
stored_under w bytes key moment (Ok i) keyed said under stores =
    let computed = integrity_under (algorithm_of w.writer.hasher) bytes in
    let with_key = subst (λ (k : Option (List ℕ)). i ≡ answered computed w.options.integrity k) keyed stores.0 in
    let plain = subst (λ (o : Options). i ≡ answered computed o.integrity (Some key)) said with_key in
    subst (λ (a : Algorithm). i ≡ integrity_under a bytes) under plain

module _ {S C N T : Type 0} (log : S → Option (List LogItem)) (numbers : N → Option (List ℕ)) (temp : T → PlainTemp) (moments : C → Option (List ℕ))
    (cache key path : List ℕ) (file : PlainFile) (old opened made : Env S C N) (opens : OpensFile path file (log old.store) (log opened.store)) (rest : KeepsRest old opened) where
  -- no writer was opened
  unmade_so : (e : Error) → OpensKeyed temp log numbers opened made cache (Some key) nothing_said (Err e) → GivesUp log numbers cache path e old made
  unmade_so e keyed = inr (file, opened, opens, rest, (keyed.0, keyed.1, keyed.3, keyed.4, inl keyed.2))

  pub unmade : (tried : Result (SyncWriter T) Error) (e : Error) → tried ≡ Err e → OpensKeyed temp log numbers opened made cache (Some key) nothing_said tried → GivesUp log numbers cache path e old made
  unmade tried e is keyed = unmade_so e (subst (λ (r : Result (SyncWriter T) Error). OpensKeyed temp log numbers opened made cache (Some key) nothing_said r) is keyed)

  -- one was opened, and given up
  unfilled_so : (e : Error) (first : SyncWriter T) (new : Env S C N) → OpensKeyed temp log numbers opened made cache (Some key) nothing_said (Ok first) → TriesToRemove first.writer.path e (log made.store) (log new.store)
      → new.clock ≡ made.clock → new.names ≡ made.names → new.base ≡ made.base → GivesUp log numbers cache path e old new
  unfilled_so e first new keyed tries clock names base =
      let adds = subst (λ (n : N). AddsAnswer (numbers opened.names) (numbers n) keyed.0) (sym names) keyed.1 in
      let removes = subst (λ (p : List ℕ). TriesToRemove p e (log made.store) (log new.store)) keyed.2.0.fresh.path_is tries in
      inr (file, opened, opens, rest, (keyed.0, adds, clock ∙ keyed.3, base ∙ keyed.4, inr (temp first.writer.file, log made.store, keyed.2.1, removes)))

  pub unfilled : (tried : Result (SyncWriter T) Error) (e : Error) (first : SyncWriter T) (new : Env S C N) → tried ≡ Ok first → OpensKeyed temp log numbers opened made cache (Some key) nothing_said tried
      → TriesToRemove first.writer.path e (log made.store) (log new.store) → new.clock ≡ made.clock → new.names ≡ made.names → new.base ≡ made.base → GivesUp log numbers cache path e old new
  unfilled tried e first new is keyed tries clock names base =
      unfilled_so e first new (subst (λ (r : Result (SyncWriter T) Error). OpensKeyed temp log numbers opened made cache (Some key) nothing_said r) is keyed) tries clock names base

  -- one was opened, took all bytes, and was committed
  filled_so : (bytes : List ℕ) (first last : SyncWriter T) (filled new : Env S C N) (r : Result (List Hash) Error) → OpensKeyed temp log numbers opened made cache (Some key) nothing_said (Ok first)
      → AreAllOf file.bytes bytes → WentOn temp first bytes last → filled.store ≡ made.store → filled.clock ≡ made.clock → filled.names ≡ made.names → filled.base ≡ made.base
      → ((taken : List ℕ) → HasTaken last.writer taken → (moment : ℕ) × Stores (writer_commit last taken moment) (reply_of Stored r))
      → ((taken : List ℕ) → HasTaken last.writer taken → CommitsWriter temp log moments filled new last taken (reply_of Stored r))
      → new.names ≡ filled.names → new.base ≡ filled.base → EndsFile log numbers temp moments cache key path r old new
  filled_so bytes first last filled new r keyed all went store clock names base stored ran named based =
      let has = went.takes [] keyed.2.0.fresh.empty in
      let run = ran bytes has in
      let moment = subst (λ (c : C). MomentOf moments last.key last.time c new.clock run.0) clock run.1 in
      let ends = subst (λ (s : S). EndsWriter temp last.writer (writer_commit last bytes run.0) (reply_of Stored r) (log s) (log new.store)) store run.2 in
      let said = went.said in
      let is = stored_under last bytes key (stored bytes has).0 r (ap (λ (w : SyncWriter T). w.key) said ∙ keyed.2.0.key_is) (ap (λ (w : SyncWriter T). w.options) said ∙ keyed.2.0.options_are) (went.same.2 ∙ keyed.2.0.fresh.algorithm_is) (stored bytes has).1 in
      inr (bytes, (file, opened, opens, rest, all, (first, last, made, keyed, went, (run.0, moment, ends), named ∙ names, based ∙ base)), is)

  pub filled_ends : (tried : Result (SyncWriter T) Error) (bytes : List ℕ) (first last : SyncWriter T) (filled new : Env S C N) (r : Result (List Hash) Error) → tried ≡ Ok first → OpensKeyed temp log numbers opened made cache (Some key) nothing_said tried
      → AreAllOf file.bytes bytes → WentOn temp first bytes last → filled.store ≡ made.store → filled.clock ≡ made.clock → filled.names ≡ made.names → filled.base ≡ made.base
      → ((taken : List ℕ) → HasTaken last.writer taken → (moment : ℕ) × Stores (writer_commit last taken moment) (reply_of Stored r))
      → ((taken : List ℕ) → HasTaken last.writer taken → CommitsWriter temp log moments filled new last taken (reply_of Stored r))
      → new.names ≡ filled.names → new.base ≡ filled.base → EndsFile log numbers temp moments cache key path r old new
  filled_ends tried bytes first last filled new r is keyed all went store clock names base stored ran named based =
      filled_so bytes first last filled new r (subst (λ (it : Result (SyncWriter T) Error). OpensKeyed temp log numbers opened made cache (Some key) nothing_said it) is keyed) all went store clock names base stored ran named based

-- the error that `?` hands on
pub given_up_ends : {S C N T : Type 0} (log : S → Option (List LogItem)) (numbers : N → Option (List ℕ)) (temp : T → PlainTemp) (moments : C → Option (List ℕ)) (cache key path : List ℕ) (old new : Env S C N)
    (r : Result (List Hash) Error) (e : Error) → IsErrAnd r (λ x. x ≡ e) → GivesUp log numbers cache path e old new → EndsFile log numbers temp moments cache key path r old new
given_up_ends log numbers temp moments cache key path old new (Ok i) e told gives = absurd told
given_up_ends log numbers temp moments cache key path old new (Err x) e told gives = inl (e, ap Err told, gives)
